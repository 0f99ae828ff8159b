-- "In good order each chain now runs through its nodes [..]; each call leaves them so, but for 7 and 26." (02, 7/14) The idea: what is
-- refused otherwise
-- was found in good order. Assumes nothing.
use mathlib.Core.Path.{◌≡◌, refl, ap, ◌∙◌}
use mathlib.Core.Logic.{◌≢◌}
use mathlib.Core.Bool.{Bool, true, false, not, ◌&&◌, cond}
use Prim.Native.Nat.{ℕ}
use lib.ListN.{length}
use lib.Dec.{eqb, ltb}
use Rattle.meaning.specs.Sets.{at_least}
use Rattle.meaning.specs.Words.{in_word}
use Rattle.table.specs.Nodes.{place, diagram_at}
use Rattle.table.specs.Columns.{size_fits, Columns, stored_as}
use Rattle.operate.specs.declared.Operation.{Operation}
use Rattle.operate.specs.Operate.{result}
use Rattle.single.specs.Single.{refusal, operand_refusal, made_by, operation, Made, unchanged, Counted, with_count, at_least_call}
use Rattle.verdict.specs.Steps.{emptied}
use Rattle.verdict.specs.Check.{Verdict, CheckOutcome, outcome}
use Rattle.verdict.proofs.Clauses.{emptied-ordered}
use Rattle.demands.specs.Calls.{nodes_of_columns, in_good_order, OperationSays, answered, refused, LeastSays, least-answered, least-refused}
use Rattle.demands.specs.Leaving as leaving
use Rattle.demands.specs.Leaving.{Handed, checked, Fits, places, Ends, wrong_size, at_place, Leaves, kept}
use Rattle.demands.proofs.Lent.{left-good}
use Rattle.demands.proofs.Singles.{operation-says}
use Rattle.demands.proofs.Leasts.{at-least-says}
use Rattle.demands.proofs.Lists.{check-leaves, sizes}
use Rattle.demands.proofs.Ending.{check-ends}
use Rattle.meaning.proofs.Booleans.{t≢f}
use Rattle.verdict.specs.Run.{Ended, no_header, not-read, no_room, stopped, tried}

-- ---- the single calls

module _ (op : Operation) (c : Columns) (count f g : ℕ) where
  lent-good : (operation op c count f g).number ≢ 7 → (operation op c count f g).number ≢ 26 → in_good_order c count ≡ true
  unfolding operation refusal
  lent-good = go (size_fits c.vars c.lows c.highs c.heads c.links) (in_good_order c count)
    where
      says : Bool → Bool → Made
      says p q =
          let number : ℕ = cond (not p) 7 (cond (not q) 26 (cond (ltb f count && ltb g count) 0 13)) in
          let done : Made = made_by c count (place (length c.vars) (nodes_of_columns c count)
          (result op (diagram_at (nodes_of_columns c count) f) (diagram_at (nodes_of_columns c count) g))) in
          cond (eqb number 0) (cond (eqb (operand_refusal op g) 0) done (unchanged c count (operand_refusal op g)))
          (unchanged c count number)

      go : (p q : Bool) → (says p q).number ≢ 7 → (says p q).number ≢ 26 → q ≡ true
      go true true a b = refl
      go true false a b = absurd (b refl)
      go false q a b = absurd (a refl)

  pub operation-in-order : (operation op c count f g).number ≢ 7 → (operation op c count f g).number ≢ 26
      → in_good_order (operation op c count f g).columns (operation op c count f g).count ≡ true
  operation-in-order a b = go (operation-says op c count f g)
    where
      go : OperationSays op c count f g (operation op c count f g) → in_good_order (operation op c count f g).columns
          (operation op c count f g).count ≡ true
      go (answered z A) = A.good
      go (refused other same) = ap (λ (o : Made). in_good_order o.columns o.count) same ∙ lent-good a b

module _ (c : Columns) (count set k : ℕ) where
  abbrev o : Counted
  o = at_least_call c count set k

  least-lent-good : o.made.number ≢ 7 → o.made.number ≢ 26 → in_good_order c count ≡ true
  unfolding at_least_call with_count
  least-lent-good = go (size_fits c.vars c.lows c.highs c.heads c.links) (in_good_order c count)
    where
      says : Bool → Bool → Made
      says p q = cond p (cond q (made_by c count (place (length c.vars) (nodes_of_columns c count) (at_least 64 (in_word set) k)))
          (unchanged c count 26)) (unchanged c count 7)

      go : (p q : Bool) → (says p q).number ≢ 7 → (says p q).number ≢ 26 → q ≡ true
      go true true a b = refl
      go true false a b = absurd (b refl)
      go false q a b = absurd (a refl)

  pub at-least-in-order : o.made.number ≢ 7 → o.made.number ≢ 26 → in_good_order o.made.columns o.made.count ≡ true
  at-least-in-order a b = go (at-least-says c count set k)
    where
      go : LeastSays c count set k o → in_good_order o.made.columns o.made.count ≡ true
      go (least-answered z A) = A.good
      go (least-refused other same) = ap (λ (x : Counted). in_good_order x.made.columns x.made.count) same ∙ least-lent-good a b

-- ---- the check

module _ (i : Handed) (fits : Fits i) where
  empty : in_good_order (stored_as (places i) emptied) 2 ≡ true
  empty = left-good (places i) emptied emptied-ordered (sizes i fits).columns.least

  formula-ends : (v : Verdict) → Ended i.mode (places i) i.text i.proof v → v.in_proof ≡ false
      → in_good_order (stored_as (places i) v.nodes) (length v.nodes) ≡ true
  formula-ends _ (no_header e) early = empty
  formula-ends _ (not-read M) early = empty
  formula-ends _ (no_room M e) early = empty
  formula-ends _ (stopped R e) early = t≢f early
  formula-ends _ (tried R e) early = t≢f early

  formula-good : (o : CheckOutcome) → Ends i o → o.in_proof ≡ false → in_good_order o.columns o.count ≡ true
  unfolding outcome
  formula-good _ (wrong_size other) early = absurd (other fits)
  formula-good _ (at_place {v} _ E) early = formula-ends v E early

  -- After every check but one that is refused with 7: where the formula is refused too.
  pub check-in-order : in_good_order (checked i).columns (checked i).count ≡ true
  check-in-order = go (check-leaves i)
    where
      go : Leaves i (checked i) → in_good_order (checked i).columns (checked i).count ≡ true
      go (leaving.unchanged other is) = absurd (other fits)
      go (kept _ K) = K.good
      go (leaving.emptied _ E) = formula-good (checked i) (check-ends i) E.in-formula
