-- The conflict test, the rounds left, then the first member with units: each ends the propagation or gives its round. Assumes nothing.
use mathlib.Core.Path.{sym, ◌∙◌, subst}
use Prim.Native.Nat.{◌-◌}
use native.Mathlib.Omega.{arith}
use Rattle.table.specs.Indexed.{table_of, nodes_of}
use Rattle.walks.proofs.Here.{good-readable}
use Rattle.table.specs.Lists.{diagrams_of}
use Rattle.unit_search.specs.Units.{AreFirst}
use Rattle.propagate.proofs.Rounds.{ends-conflict, ends_last, ends-still}
use Rattle.propagate.proofs.next_round.Goals as goal

pub conflicts-requires : goal.conflicts-requires
conflicts-requires c =
    let r = c.requires in record { fact = (r.fact.0, r.fact.1); fact_2 = r.fact_2.0 }

pub returns-then-conflicts : goal.returns-then-conflicts
returns-then-conflicts c =
    let a = c.args in
    let r = c.requires in
    record {
      fact_3 = ends-conflict (64 - a.rounds) (diagrams_of
          (nodes_of (table_of a.vars.now a.lows.now a.highs.now a.heads.now a.links.now a.count)) a.list.now)
          (sym c.conflicts.ensures.result_value ∙ c.if-conflicts.true);
      marks_after = c.conflicts.ensures.marks_after;
    }

pub returns-then-rounds-eq64 : goal.returns-then-rounds-eq64
returns-then-rounds-eq64 c =
    let a = c.args in
    let r = c.requires in
    record {
      fact_3 = ends_last (64 - a.rounds) (diagrams_of (nodes_of
          (table_of a.vars.now a.lows.now a.highs.now a.heads.now a.links.now a.count)) a.list.now)
          (omega (arith, c.if-rounds-eq64.true)) (sym c.conflicts.ensures.result_value ∙ c.if-conflicts.false);
      marks_after = c.conflicts.ensures.marks_after;
    }

pub first_units-requires : goal.first_units-requires
unfolding nodes_of
first_units-requires c =
    let a = c.args in
    let r = c.requires in
    record {
      readable = (
        good-readable (table_of a.vars.now a.lows.now a.highs.now a.heads.now a.links.now a.count) r.fact.0.good,
        r.fact.0.inside,
        omega (arith, c.conflicts.auto.memo, r.fact.0.room),
      );
      fact = r.fact_2.1;
    }

pub returns-in-Of : goal.returns-in-Of
unfolding nodes_of
returns-in-Of c =
    let a = c.args in
    let r = c.requires in
    let f = subst (AreFirst 64 (diagrams_of (nodes_of
    (table_of a.vars.now a.lows.now a.highs.now a.heads.now a.links.now a.count)) a.list.now))
    c.in-Of.is c.first_units.ensures in record {
      fact_3 =
          (omega (arith, r.fact.2, c.if-rounds-eq64.false), (sym c.conflicts.ensures.result_value ∙ c.if-conflicts.false), f.0, f.1, f.2);
      marks_after = c.conflicts.ensures.marks_after;
    }

pub returns-in-Nothing : goal.returns-in-Nothing
unfolding nodes_of
returns-in-Nothing c =
    let a = c.args in
    let r = c.requires in
    record {
      fact_3 = ends-still (64 - a.rounds) (diagrams_of (nodes_of
          (table_of a.vars.now a.lows.now a.highs.now a.heads.now a.links.now a.count)) a.list.now)
          (sym c.conflicts.ensures.result_value ∙ c.if-conflicts.false)
          (subst (AreFirst 64 (diagrams_of (nodes_of
          (table_of a.vars.now a.lows.now a.highs.now a.heads.now a.links.now a.count)) a.list.now))
          c.in-Nothing.is c.first_units.ensures);
      marks_after = c.conflicts.ensures.marks_after;
    }
