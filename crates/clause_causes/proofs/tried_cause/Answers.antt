-- `tried_cause`: by the pivot, the cause of a RUP line or of a PR line with the clause's witness. Assumes nothing.
use mathlib.Core.Path.{refl, subst}
use mathlib.Core.List.{List}
use Prim.Native.Nat.{ℕ}
use lib.ListN.{take}
use Rattle.table.specs.Indexed.{Table, table_of}
use Rattle.verdict.specs.Steps.{unstruck}
use Rattle.tries.specs.Tries.{PivotFits}
use Rattle.clause_causes.proofs.Tried.{first-fails, second-fails, first-answer, second-answer}
use Rattle.clause_causes.proofs.tried_cause.Reads as reads
use Rattle.clause_causes.proofs.tried_cause.Lts as lts
use Rattle.clause_causes.proofs.tried_cause.Tie as tie
use Rattle.clause_causes.proofs.tried_cause.Goals as goal

module _ (s : lts.Start tie.the-claims reads.Pre reads.Post tie.handed_clauses) where
  abbrev before : Table
  before = table_of s.args.vars.now s.args.lows.now s.args.highs.now s.args.heads.now s.args.links.now
      s.args.count

  -- the members that are not struck
  abbrev live : List ℕ
  live = unstruck (take s.args.many s.args.struck.now) (take s.args.many s.args.members.now)

pub rup_cause-rounds-requires : goal.rup_cause-rounds-requires
rup_cause-rounds-requires c =
    let c12 = c.before.before.before.before.before.before.before.before.before.before.before.before in
    record {
      fact = (
        c.requires.fact.0,
        c.requires.fact.2,
        c.requires.fact.3,
        c.requires.fact.4,
        c.requires.fact.5,
        first-fails (before c12.before.before.before.before.before.before.before.before.before.before)
            (live c12.before.before.before.before.before.before.before.before.before.before) _ _ _ c.in-None.is c.requires.fact.7,
      );
      in_bounds = c.requires.in_bounds;
    }

pub witness-w-requires : goal.witness-w-requires
witness-w-requires c = subst PivotFits c.in-Some.is c.requires.fact.6

pub pr_cause-t-requires : goal.pr_cause-t-requires
pr_cause-t-requires c =
    let c12 = c.before.before.before.before.before.before.before.before.before.before.before.before in
    let c24 = c12.before.before.before.before.before.before.before.before.before.before.before.before in
    record {
      fact = (
        c.requires.fact.0,
        c.requires.fact.1,
        c.requires.fact.2,
        c.requires.fact.3,
        c.requires.fact.4,
        c.requires.fact.5,
        second-fails (before c24) (live c24) _ _ _ _ c.in-Some.is _
            c.witness-w.ensures c.requires.fact.7,
      );
      in_bounds = c.requires.in_bounds;
    }

pub shape_of-vars-in-None : goal.shape_of-vars-in-None
shape_of-vars-in-None c = c.rup_cause-rounds.auto.vars

pub shape_of-lows-in-None : goal.shape_of-lows-in-None
shape_of-lows-in-None c = c.rup_cause-rounds.auto.lows

pub shape_of-highs-in-None : goal.shape_of-highs-in-None
shape_of-highs-in-None c = c.rup_cause-rounds.auto.highs

pub shape_of-heads-in-None : goal.shape_of-heads-in-None
shape_of-heads-in-None c = c.rup_cause-rounds.auto.heads

pub shape_of-links-in-None : goal.shape_of-links-in-None
shape_of-links-in-None c = c.rup_cause-rounds.auto.links

pub shape_of-memo-in-None : goal.shape_of-memo-in-None
shape_of-memo-in-None c = c.rup_cause-rounds.auto.memo

pub shape_of-scratch-in-None : goal.shape_of-scratch-in-None
shape_of-scratch-in-None c = c.rup_cause-rounds.auto.scratch

pub shape_of-fixed-in-None : goal.shape_of-fixed-in-None
shape_of-fixed-in-None c = c.rup_cause-rounds.auto.fixed

pub returns-in-None : goal.returns-in-None
returns-in-None c =
    let a = c.rup_cause-rounds.ensures in
    record { fact_2 = (a.0, first-answer _ _ _ _ _ _ _ _ _ c.in-None.is (refl, refl, a.1)); marks_after = c.requires.fact.1 }

pub shape_of-vars-in-Some : goal.shape_of-vars-in-Some
shape_of-vars-in-Some c = c.pr_cause-t.auto.vars

pub shape_of-lows-in-Some : goal.shape_of-lows-in-Some
shape_of-lows-in-Some c = c.pr_cause-t.auto.lows

pub shape_of-highs-in-Some : goal.shape_of-highs-in-Some
shape_of-highs-in-Some c = c.pr_cause-t.auto.highs

pub shape_of-heads-in-Some : goal.shape_of-heads-in-Some
shape_of-heads-in-Some c = c.pr_cause-t.auto.heads

pub shape_of-links-in-Some : goal.shape_of-links-in-Some
shape_of-links-in-Some c = c.pr_cause-t.auto.links

pub shape_of-memo-in-Some : goal.shape_of-memo-in-Some
shape_of-memo-in-Some c = c.pr_cause-t.auto.memo

pub shape_of-marks : goal.shape_of-marks
shape_of-marks c = c.pr_cause-t.auto.marks

pub shape_of-scratch-in-Some : goal.shape_of-scratch-in-Some
shape_of-scratch-in-Some c = c.pr_cause-t.auto.scratch

pub shape_of-fixed-in-Some : goal.shape_of-fixed-in-Some
shape_of-fixed-in-Some c = c.pr_cause-t.auto.fixed

pub returns-in-Some : goal.returns-in-Some
returns-in-Some c =
    record {
      fact_2 = (
        c.pr_cause-t.ensures.fact_2.0,
        second-answer _ _ _ _ _ _ _ _ _ _ c.in-Some.is _ c.witness-w.ensures
            (refl, c.pr_cause-t.ensures.fact_2.1),
      );
      marks_after = c.pr_cause-t.ensures.marks_after;
    }
