-- UnitProp whichever member with units each round takes, and members in other orders. No call open to others cites this file. (02, 13/14)
use Rattle.std.specs.Prelude.{◌≡◌, ◌⊎◌, Bool, true, false, List, [], ◌∷◌, ℕ, suc}
use Rattle.meaning.specs.Diagram.{Diagram}
use Rattle.meaning.specs.Rules.{conflicts, has_unit, by_units}

-- It is one of those listed.
abbrev pub Among : {A : Type 0} → A → List A → Type 0
Among x [] = ⊥
Among x (y ∷ ys) = (x ≡ y) ⊎ Among x ys

-- Each of the first is one of the second, whatever their order: nothing is taken away, and more may stand there.
abbrev pub Contained : {A : Type 0} → List A → List A → Type 0
Contained {A} xs ys = (x : A) → Among x xs → Among x ys

-- "however members are ordered": neighbours exchanged, as often as one likes.
pub data Reordered {A : Type 0} : List A → List A → Type 0 where
  empty : Reordered [] []
  behind : {xs ys : List A} (x : A) → Reordered xs ys → Reordered (x ∷ xs) (x ∷ ys)
  exchanged : (x y : A) (zs : List A) → Reordered (x ∷ y ∷ zs) (y ∷ x ∷ zs)
  again : {xs ys zs : List A} → Reordered xs ys → Reordered ys zs → Reordered xs zs

-- "whichever member with units each round takes": a propagation of the members in so many rounds, and whether it conflicts. "(a) a member
-- is 0 or the negation of another: conflict; (b) else, if some U is not empty, take" a member with units, "cofactor all members by its U,
-- count one round, go to (a); (c) else no conflict." (01, The rules)
pub data Propagates (n : ℕ) : List Diagram → ℕ → Bool → Type 0 where
  conflict : {ms : List Diagram} → conflicts n ms ≡ true → Propagates n ms 0 true
  round : {ms : List Diagram} {rounds : ℕ} {b : Bool} (u : Diagram) → conflicts n ms ≡ false → Among u ms → has_unit n n u ≡ true
      → Propagates n (by_units n u ms) rounds b → Propagates n ms (suc rounds) b
  none : {ms : List Diagram} → conflicts n ms ≡ false → ((u : Diagram) → Among u ms → has_unit n n u ≡ false) → Propagates n ms 0 false
