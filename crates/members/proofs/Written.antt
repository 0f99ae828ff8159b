-- One member written only where it changes. The idea: a list in which a place is written with what it has there is the list. Assumes
-- nothing.
use mathlib.Core.Path.{◌≡◌, refl, sym, ap, ◌∙◌}
use mathlib.Core.Logic.{◌≢◌, ◌⊎◌, ⊎_elim}
use mathlib.Core.Bool.{Bool, true, false}
use mathlib.Core.List.{List}
use Prim.Native.Nat.{ℕ}
use native.Mathlib.Omega.{arith}
use lib.ListN.{get_or, set}
use lib.Seq.{set-get_or}
use lib.Dec.{eqb}
use lib.Bits.{bit_or}
use borrow.Author.Tests.{eq-eqb, ne_eqb}
use Rattle.meaning.proofs.Booleans.{t≢f}
use Rattle.table.specs.declared.Placed.{Placed}
use Rattle.table.specs.Indexed.{Table, Outcome}
use Rattle.operate.specs.declared.Operation.{Operation}
use Rattle.operate.specs.Inner.{applied}
use Rattle.members.specs.Touching.{reworded, OneMade}

outcome : Table → Bool → ℕ → Outcome
outcome t full k = record { table = t; full = full; node = k }

module _ (op : Operation) (t : Table) (list words : List ℕ) (g gained i : ℕ) (p : Placed) (t' : Table)
    (e : record { table = t'; full = p.full; node = p.node.0 } ≡ applied t op (get_or list i 0) g) where
  -- it found no room, or is what it was
  pub one_kept : (p.full ≡ true) ⊎ (p.node.0 ≡ get_or list i 0)
      → OneMade op t list words g gained i (record { full = p.full; node = p.node; written = 0; count = p.count }) t' list words
  unfolding reworded
  one_kept h =
      record {
        outcome = e;
        list-is = λ f. sym (ap (set list i) (kept f) ∙ set-get_or list i 0);
        words-is = λ f. sym (rw (eq-eqb (get_or list i 0) p.node.0 (sym (kept f))) (set-get_or words i 0));
        told = λ f. rw (eq-eqb (get_or list i 0) p.node.0 (sym (kept f))) refl;
        most = omega arith;
      }
    where
      kept : p.full ≡ false → p.node.0 ≡ get_or list i 0
      kept f = ⊎_elim (λ z. t≢f (sym z ∙ f)) (λ z. z) h

  -- it changes
  pub one_written : p.full ≡ false → p.node.0 ≢ get_or list i 0
      → OneMade op t list words g gained i (record { full = false; node = p.node; written = 1; count = p.count }) t'
      (set list i p.node.0) (set words i (bit_or (get_or words i 0) gained))
  unfolding reworded outcome
  one_written f n =
      record {
        outcome = ap (λ (b : Bool). outcome t' b p.node.0) (sym f) ∙ e;
        list-is = λ _. refl;
        words-is = λ _. rw other refl;
        told = λ _. rw other refl;
        most = omega arith;
      }
    where
      other : eqb (get_or list i 0) p.node.0 ≡ false
      other = ne_eqb (get_or list i 0) p.node.0 (λ z. n (sym z))
