-- What the call of an at-least diagram says: its refusals, which have no count of assignments, and the diagram made. Assumes nothing.
use mathlib.Core.Path.{◌≡◌, ap, ◌∙◌, subst}
use mathlib.Core.Bool.{true, false}
use Prim.Native.Nat.{ℕ}
use native.Mathlib.Omega.{arith}
use lib.ListN.{length}
use borrow.Author.Tests.{ne_eqb}
use Rattle.meaning.specs.Words.{in_word}
use Rattle.meaning.specs.Sets.{at_least_value, at_least}
use Rattle.meaning.proofs.Values.{diagram-reduced}
use Rattle.table.specs.Nodes.{place}
use Rattle.table.specs.Columns.{Columns}
use Rattle.table.specs.Indexed.{Table, table_of, lists_of, nodes_of, Good, Outcome}
use Rattle.table.proofs.Outcomes.{place_in, Grown, grown, Longer, longer, dropped_to, undone}
use Rattle.sets.specs.declared.Count.{Count}
use Rattle.sets.specs.Counts.{count_of}
use Rattle.single.specs.declared.least.AtLeast.{AtLeast}
use Rattle.single.specs.Single.{Made, unchanged, made_by, Counted, counted_of, with_count, at_least_call}
use Rattle.single.proofs.Refusals.{fits, ordered}

-- With a refusal there is no count.
abbrev refused_with : Columns → ℕ → ℕ → Counted
refused_with c count number = record { made = unchanged c count number; counted = false; excluded = 0 }

no-count : (m : Made) (set k : ℕ) → (m.number ≡ 0 → ⊥) → record { made = m; counted = false; excluded = 0 } ≡ with_count m set k
unfolding with_count
no-count m set k ne = rw (ne_eqb m.number 0 ne)

module _ (c : Columns) (count set k : ℕ) where
  pub least-7 : fits c count ≡ false → refused_with c count 7 ≡ at_least_call c count set k
  unfolding at_least_call
  least-7 e = rw e (no-count (unchanged c count 7) set k (λ z. absurd (omega arith)))

  module _ (e : fits c count ≡ true) where
    pub least-26 : ordered c count ≡ false → refused_with c count 26 ≡ at_least_call c count set k
    unfolding at_least_call
    least-26 o = rw (e, o) (no-count (unchanged c count 26) set k (λ z. absurd (omega arith)))

    pub least-made : ordered c count ≡ true
        → with_count (made_by c count (place (length c.vars) (nodes_of (table_of c.vars c.lows c.highs c.heads c.links count))
        (at_least 64 (in_word set) k))) set k
        ≡ at_least_call c count set k
    unfolding at_least_call nodes_of
    least-made o = rw (e, o)

-- ---- the diagram made

module _ (T : Table) (G : Good T) (set k : ℕ) (o : Outcome) (e : o ≡ place_in T (at_least 64 (in_word set) k)) where
  pub least-grown : Grown T (at_least 64 (in_word set) k) o
  unfolding at_least
  least-grown = grown T G (at_least 64 (in_word set) k) (diagram-reduced 64 (at_least_value (in_word set) k)) o e

  pub least-longer : Longer T o.table
  least-longer = longer T (at_least 64 (in_word set) k) o least-grown

-- 23: no count
least-full : (c : Columns) (count set k : ℕ) (m : Made) → unchanged c count 23 ≡ m → refused_with c count 23 ≡ with_count m set k
least-full c count set k m e = subst (λ (x : Made). refused_with c count 23 ≡ with_count x set k) e
    (no-count (unchanged c count 23) set k (λ z. absurd (omega arith)))

pub least-23 : (T T' T₂ : Table) → Good T → Longer T T' → T₂ ≡ dropped_to T.count T' → (set k : ℕ) (m : Made) →
    unchanged (lists_of T) T.count 23 ≡ m
    → (r : AtLeast) → r ≡ record { number = 23; node = record { 0 = 0 }; count = T.count; counted = false; excluded = 0 }
    → counted_of (lists_of T₂) r ≡ with_count m set k
least-23 T T' T₂ G L dropped set k m is r e =
    ap (counted_of (lists_of T₂)) e ∙ ap (λ (t : Table). refused_with (lists_of t) T.count 23) (dropped ∙ undone T G T' L)
    ∙ least-full (lists_of T) T.count set k m is

-- the diagram's node, and what it excludes
pub least-done : (set k : ℕ) (node count : ℕ) (left : Columns) (m : Made) →
    record { number = 0; node = node; count = count; columns = left } ≡ m
    → (e : Count) → e ≡ count_of set k
    → record { made = record { number = 0; node = node; count = count; columns = left }; counted = e.counted; excluded = e.excluded }
    ≡ with_count m set k
unfolding with_count count_of
least-done set k node count left m is e counted =
    subst (λ (x : Made). record {
      made = record { number = 0; node = node; count = count; columns = left };
      counted = e.counted;
      excluded =
          e.excluded;
    } ≡ with_count x set k) is
    (ap (λ (x : Count). record {
      made = record { number = 0; node = node; count = count; columns = left };
      counted = x.counted;
      excluded =
          x.excluded;
    }) counted)
