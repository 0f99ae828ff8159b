-- The memo of the negations known: an entry read back is what was stored, and the memo stays right. Assumes nothing.
use mathlib.Core.Path.{◌≡◌, subst}
use mathlib.Core.List.{List}
use Prim.Native.Nat.{ℕ, ◌+◌, ◌*◌, ◌/◌, ◌%◌, ◌≤◌, ◌<◌}
use native.Mathlib.Omega.{arith}
use lib.ListN.{length, get_or, set}
use Rattle.table.specs.declared.Found.{Found}
use Rattle.table.specs.declared.Found.TheVariants.{At, Nothing}
use Rattle.table.specs.Indexed.{Table, Good}
use Rattle.walks.specs.Readable.{Cleared}
use Rattle.walks.proofs.Memo.{stored}
use Rattle.negate.specs.Negations.{Negates, entry_of, found_in, NegationMemo}

-- what is stored is read back
read_back : (T : Table) → Good T → (f : ℕ) (r : Found) → Negates T f r → (entry_of f r / 131072 ≡ f) × (found_in (entry_of f r) ≡ r)
unfolding found_in
read_back T G f (At k) N =
    let small : k.0 < 65536 = omega (arith, G.within, G.most, N.0) in
    let flag : (f * 131072 + 65536 + k.0) / 65536 % 2 ≡ 1 = omega arith in
    let number : (f * 131072 + 65536 + k.0) % 65536 ≡ k.0 = omega arith in
    (omega arith, rw (flag, number))
read_back T G f Nothing N =
    let flag : ◌≡◌ {A = ℕ} (f * 131072 / 65536 % 2) 0 = omega arith in
    (omega arith, rw flag)

module _ (T : Table) (memo : List ℕ) where
  pub negations-cleared : Cleared T.count memo → NegationMemo memo T
  unfolding NegationMemo
  negations-cleared C i inside two = absurd (omega (arith, C i inside))

  pub negation-known : (f : ℕ) → f < T.count → NegationMemo memo T → get_or memo f 0 / 131072 ≡ f → 2 ≤ f →
      Negates T f (found_in (get_or memo f 0))
  unfolding NegationMemo
  negation-known f inside M e two = subst (λ (k : ℕ). Negates T k (found_in (get_or memo f 0))) e (M f inside (omega arith))

  pub negation-stored : Good T → (f : ℕ) (r : Found) → f < length memo → NegationMemo memo T → Negates T f r →
      NegationMemo (set memo f (entry_of f r)) T
  unfolding NegationMemo
  negation-stored G f r inside M N =
      stored (λ i e. i < T.count → 2 ≤ e / 131072 → Negates T (e / 131072) (found_in e)) memo f (entry_of f r) inside (λ _ _. new)
      (λ i _. M i)
    where
      new : Negates T (entry_of f r / 131072) (found_in (entry_of f r))
      new = rw ((read_back T G f r N).0, (read_back T G f r N).1) N
