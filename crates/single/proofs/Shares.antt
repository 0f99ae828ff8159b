-- Whether two words share a variable, told from all 64 or from one after the other. By induction on the variables. Assumes nothing.
use mathlib.Core.Path.{◌≡◌, refl, ap, ◌∙◌}
use mathlib.Core.Bool.{Bool, true, false, not, ◌&&◌, ◌||◌}
use Prim.Native.Nat.{ℕ, zero, suc}
use Rattle.meaning.specs.Words.{in_word}
use Rattle.table.specs.Nodes.{all_below}
use Rattle.words.specs.Sets.{shares}
use Rattle.single.specs.Single.{shares_variable}

module _ (p n : ℕ) where
  -- Whether variable i + 1 is in not both words.
  abbrev parted : ℕ → Bool
  parted i = not (in_word p (suc i) && in_word n (suc i))

  one_more : (x A : Bool) → (x || not A) ≡ not (A && not x)
  one_more true true = refl
  one_more true false = refl
  one_more false true = refl
  one_more false false = refl

  shares-below : (k : ℕ) → shares k p n ≡ not (all_below k parted)
  unfolding shares all_below
  shares-below zero = refl
  shares-below (suc k) = ap (◌||◌ (in_word p (suc k) && in_word n (suc k))) (shares-below k)
      ∙ one_more (in_word p (suc k) && in_word n (suc k)) (all_below k parted)

  pub shares-is : shares 64 p n ≡ shares_variable p n
  unfolding shares_variable
  shares-is = shares-below 64
