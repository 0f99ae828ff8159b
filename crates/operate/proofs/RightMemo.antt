-- A memo that is right: it stays so as the table grows and as a right result is stored; an empty one is right. The idea: an entry speaks of
-- diagrams, which old numbers keep. Assumes nothing.
use mathlib.Core.Path.{◌≡◌, sym, ap₂, ◌∙◌, subst}
use mathlib.Core.Logic.{◌⊎◌, inl, inr}
use mathlib.Core.List.{List}
use Prim.Native.Nat.{ℕ, ◌≤◌}
use native.Mathlib.Omega.{arith}
use lib.ListN.{length, replicate}
use Rattle.table.specs.Indexed.{Table}
use Rattle.table.proofs.Outcomes.{Longer}
use Rattle.memo.specs.Memo.{Holds, EmptyMemo, Follows, Stores}
use Rattle.memo.proofs.Cells as cells
use Rattle.operate.specs.declared.Operation.{Operation}
use Rattle.operate.specs.Operate.{result}
use Rattle.operate.specs.Inner.{Right, MemoRight}

pub empty_right : {memo : List ℕ} → EmptyMemo memo → (op : Operation) (t : Table) → MemoRight op memo t
empty_right E op t = record { shaped = E.shaped; entries = λ f g r h. absurd (E.none f g r h) }

-- one of zeros
pub memo-fresh : (memo : List ℕ) → 3 ≤ length memo → memo ≡ replicate (length memo) 0 → (op : Operation) (t : Table) → MemoRight op memo t
memo-fresh memo three e = empty_right (cells.memo-fresh memo three e)

module _ (op : Operation) (memo : List ℕ) (t : Table) (ok : MemoRight op memo t) where
  pub memo-kept : (t' : Table) → Longer t t' → MemoRight op memo t'
  memo-kept t' L = record { shaped = ok.shaped; entries = kept }
    where
      kept : (f g r : ℕ) → Holds memo f g r → Right op t' f g r
      kept f g r h =
          let R : Right op t f g r = ok.entries f g r h in
          record {
            f-inside = omega (arith, R.f-inside, L.more);
            g_inside = omega (arith, R.g_inside, L.more);
            inside = omega (arith, R.inside, L.more);
            is = L.kept r R.inside ∙ R.is ∙ sym (ap₂ (result op) (L.kept f R.f-inside) (L.kept g R.g_inside));
          }

  pub follows-right : (memo' : List ℕ) → Follows memo memo' → MemoRight op memo' t
  follows-right memo' F = record { shaped = F.shaped; entries = λ f g r h. ok.entries f g r (F.held f g r h) }

  pub stores-right : (f g r : ℕ) (memo' : List ℕ) → Stores memo f g r memo' → Right op t f g r → MemoRight op memo' t
  stores-right f g r memo' S R = record { shaped = S.shaped; entries = λ f' g' r' h. go f' g' r' (S.held f' g' r' h) }
    where
      go : (f' g' r' : ℕ) → ((f ≡ f') × (g ≡ g') × (r ≡ r')) ⊎ Holds memo f' g' r' → Right op t f' g' r'
      go f' g' r' (inl d) =
          subst (λ (k : ℕ). Right op t k g' r') d.0
          (subst (λ (k : ℕ). Right op t f k r') d.1 (subst (λ (k : ℕ). Right op t f g k) d.2 R))
      go f' g' r' (inr h) = ok.entries f' g' r' h
