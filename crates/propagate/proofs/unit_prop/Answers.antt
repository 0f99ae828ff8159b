-- The first look ends the propagation, or its rounds follow. Assumes nothing.
use mathlib.Core.Path.{◌∙◌, subst}
use native.Mathlib.Omega.{arith}
use Rattle.table.specs.Indexed.{Table, table_of, nodes_of}
use Rattle.table.specs.Lists.{diagrams_of}
use Rattle.propagate.specs.Rounds.{NextIs}
use Rattle.propagate.proofs.Rounds.{going-first, going-ends}
use Rattle.propagate.proofs.unit_prop.Goals as goal

pub rounds_by-requires : goal.rounds_by-requires
rounds_by-requires c =
    let table : Table =
    let a = c.args in table_of a.vars.now a.lows.now a.highs.now a.heads.now a.links.now a.count in
    let due = subst (NextIs (diagrams_of (nodes_of table) c.args.list.now) 0) c.in-By.is c.first_round.ensures.fact
    in record {
      fact = (
        record {
          good = c.requires.fact.0.good;
          inside = c.requires.fact.0.inside;
          room =
              omega (arith, c.requires.fact.0.room, c.first_round.auto.memo);
        },
        c.first_round.ensures.marks_after,
        c.requires.fact.2,
      );
      fact_2 = (c.requires.fact_2.0, c.requires.fact_2.1, due);
    }

pub returns-in-End : goal.returns-in-End
returns-in-End c =
    let table : Table =
    let a = c.args in table_of a.vars.now a.lows.now a.highs.now a.heads.now a.links.now a.count in
    let a = c.args in
    let ms = diagrams_of (nodes_of table) a.list.now in
    let ends = subst (NextIs ms 0) c.in-End.is c.first_round.ensures.fact in record {
      fact_3 = going-ends table c.requires.fact.0.good ms table a.list.now a.memo.now a.marks.now 0
          (going-first table a.list.now a.memo.now a.marks.now c.requires.fact.0 c.requires.fact.1) _ ends;
      marks_after = c.first_round.ensures.marks_after;
    }

pub shape_of-memo-in-By : goal.shape_of-memo-in-By
shape_of-memo-in-By c = c.rounds_by.auto.memo
    ∙ c.first_round.auto.memo
