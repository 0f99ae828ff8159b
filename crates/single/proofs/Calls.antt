-- What a single call that makes nodes says and leaves, case by case in the order of its refusals, and the operation's outcome as
-- the call's. Assumes nothing.
use mathlib.Core.Path.{◌≡◌, refl, sym, ap, ap₂, ◌∙◌}
use mathlib.Core.Bool.{true, false, ◌&&◌}
use Prim.Native.Nat.{ℕ, ◌≤◌, ◌<◌}
use lib.ListN.{length}
use lib.Dec.{ltb}
use borrow.Author.Tests.{ne_eqb, lt-ltb, le-ltb}
use Rattle.table.specs.Nodes.{Placing, full, placed}
use Rattle.table.specs.Columns.{Columns, stored_as}
use Rattle.table.specs.Indexed.{Table, table_of, lists_of, nodes_of, indexed, Good, Outcome, written}
use Rattle.table.proofs.Written.{nodes-indexed}
use Rattle.table.proofs.Outcomes.{Longer, dropped_to, undone}
use Rattle.table.proofs.InOrder.{good-stored}
use Rattle.meaning.proofs.Booleans.{t≢f}
use Rattle.operate.specs.declared.Operation.{Operation}
use Rattle.single.specs.Single.{Made, unchanged, operand_refusal, made_by, operation}
use Rattle.single.specs.Inner.{placing_of}
use Rattle.single.proofs.Refusals.{fits, ordered, refused-7, refused-26, refused-13, accepted-0}

-- The lent lists as a table.
abbrev table_in : Columns → ℕ → Table
table_in c count = table_of c.vars c.lows c.highs c.heads c.links count

module _ (op : Operation) (c : Columns) (count f g : ℕ) where
  abbrev call : Made
  call = operation op c count f g

  pub called-7 : fits c count ≡ false → unchanged c count 7 ≡ call
  unfolding operation
  called-7 e = rw (refused-7 c count f g e)

  module _ (e : fits c count ≡ true) where
    pub called-26 : ordered c count ≡ false → unchanged c count 26 ≡ call
    unfolding operation
    called-26 o = rw (refused-26 c count f g e o)

    module _ (o : ordered c count ≡ true) where
      pub called-13 : (ltb f count && ltb g count) ≡ false → unchanged c count 13 ≡ call
      unfolding operation
      called-13 p = rw (refused-13 c count f g e o p)

      pub called-13-first : count ≤ f → unchanged c count 13 ≡ call
      called-13-first h = called-13 (rw (le-ltb f count h))

      pub called-13-second : f < count → count ≤ g → unchanged c count 13 ≡ call
      called-13-second p h = called-13 (rw (lt-ltb f count p, le-ltb g count h))

      module _ (p : f < count) (q : g < count) where
        pub called-second : (number : ℕ) → number ≡ operand_refusal op g → (number ≡ 0 → ⊥) → unchanged c count number ≡ call
        unfolding operation
        called-second number s n = rw (accepted-0 c count f g e o p q, ← s, ne_eqb number 0 n)

        pub called-made : operand_refusal op g ≡ 0 → made_by c count (placing_of op (table_in c count) f g) ≡ call
        unfolding operation nodes_of
        called-made s = rw (accepted-0 c count f g e o p q, s)

-- ---- the outcome of the operation

module _ (c : Columns) (count : ℕ) where
  abbrev answered : Outcome → Columns → Made
  answered o left = record { number = 0; node = o.node; count = o.table.count; columns = left }

  -- A placing that found room, written.
  pub done-is : (o : Outcome) (p : Placing) → o ≡ written (length c.vars) p → Longer (table_in c count) o.table → o.full ≡ false
      → answered o (lists_of o.table) ≡ made_by c count p
  unfolding written made_by indexed
  done-is o (full t) e L n = t≢f (sym (ap (λ (x : Outcome). x.full) e) ∙ n)
  done-is o (placed t k) e L n =
      let left : lists_of o.table ≡ stored_as (length c.vars) t =
      good-stored o.table L.good ∙ ap₂ stored_as L.same_size
      (ap (λ (x : Outcome). nodes_of x.table) e ∙ nodes-indexed (length c.vars) t) in
      ap (answered o) left ∙ ap (λ (x : Outcome). answered x (stored_as (length c.vars) t)) e

  -- One that did not.
  pub full_is : (o : Outcome) (p : Placing) → o ≡ written (length c.vars) p → o.full ≡ true → unchanged c count 23 ≡ made_by c count p
  unfolding written made_by
  full_is o (full t) e n = refl
  full_is o (placed t k) e n = t≢f (sym n ∙ ap (λ (x : Outcome). x.full) e)

-- Dropping what was placed leaves the table as lent, its index too.
pub dropped-is : (T T' D : Table) → Good T → Longer T T' → D ≡ dropped_to T.count T' → unchanged (lists_of D) D.count 23
    ≡ unchanged (lists_of T) T.count 23
dropped-is T T' D G L e = ap (λ (t : Table). unchanged (lists_of t) t.count 23) (e ∙ undone T G T' L)
