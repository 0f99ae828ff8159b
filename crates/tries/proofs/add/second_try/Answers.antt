-- `second_try` tries the line with the clause's witness. Assumes nothing.
use mathlib.Core.Path.{◌≡◌, refl, sym, subst}
use Prim.Native.Nat.{◌≤◌}
use lib.ListN.{length, take}
use Rattle.table.specs.Indexed.{Table, table_of}
use Rattle.records.specs.declared.Rule.TheVariants.{Pr}
use Rattle.conflict.specs.Marks.{unmarked}
use Rattle.judge.specs.Lines.{Negatable}
use Rattle.verdict.specs.Taken.{line_of}
use Rattle.state.specs.declared.State.{State}
use Rattle.state.specs.States.{Lent, lent_of, state_of}
use Rattle.steps.specs.Tried.{Tried}
use Rattle.tries.specs.Tries.{PivotFits}
use Rattle.tries.proofs.Trying.{second-tried, second_none}
use Rattle.tries.proofs.add.second_try.Reads as reads
use Rattle.tries.proofs.add.second_try.Lts as lts
use Rattle.tries.proofs.add.second_try.Tie as tie
use Rattle.tries.proofs.add.second_try.Goals as goal

module _ (s : lts.Start tie.the-claims reads.Pre reads.Post tie.handed_clauses) where
  abbrev table : State → Table
  table st = table_of s.args.vars.now s.args.lows.now s.args.highs.now s.args.heads.now s.args.links.now st.count

  abbrev lent : Lent
  lent = lent_of s.args.vars.now s.args.lows.now s.args.highs.now s.args.heads.now s.args.links.now
      s.args.members.now s.args.scratch.now s.args.struck.now

  -- what it tells of a state
  module _ (a : lts.After-try_line tie.the-claims reads.Pre reads.Post tie.handed_clauses) where
    abbrev after : State → Table
    after st = table_of a.try_line.new.vars a.try_line.new.lows a.try_line.new.highs a.try_line.new.heads
        a.try_line.new.links st.count

    abbrev Told : State → Type 0
    Told st = (after st ≡ table st) × Tried (table st) (line_of 64 (state_of lent st) Pr s.args.g.0) a.try_line.result

  -- what trying asks of a state
  abbrev Asked : State → Type 0
  Asked st =
      Negatable (table st) (take st.members s.args.members.now) s.args.memo.now s.args.g.0
      × (s.args.marks.now ≡ unmarked (length s.args.vars.now))
      × (st.members ≤ 2048)
      × (2048 ≤ length s.args.members.now)
      × (4096 ≤ length s.args.scratch.now)
      × (length s.args.struck.now ≡ length s.args.members.now)
      × Unit {0}

pub witness-w-requires : goal.witness-w-requires
witness-w-requires c = subst PivotFits c.in-Some.is c.requires.6

pub try_line-requires : goal.try_line-requires
try_line-requires c =
    let c12 = c.before.before.before.before.before.before.before.before.before.before.before.before in
    subst (Asked c12.before.before.before.before.before.before.before.before.before.before.before) (sym c.with_witness.ensures)
    (c.requires.0, c.requires.1, c.requires.2, c.requires.3, c.requires.4, c.requires.5, tt)

pub returns-in-None : goal.returns-in-None
returns-in-None c = record { fact = (refl, second_none _ _ _ _ _ c.in-None.is); marks_after = c.requires.1 }

pub shape_of-vars : goal.shape_of-vars
shape_of-vars c = c.try_line.auto.vars

pub shape_of-lows : goal.shape_of-lows
shape_of-lows c = c.try_line.auto.lows

pub shape_of-highs : goal.shape_of-highs
shape_of-highs c = c.try_line.auto.highs

pub shape_of-heads : goal.shape_of-heads
shape_of-heads c = c.try_line.auto.heads

pub shape_of-links : goal.shape_of-links
shape_of-links c = c.try_line.auto.links

pub shape_of-memo : goal.shape_of-memo
shape_of-memo c = c.try_line.auto.memo

pub shape_of-marks : goal.shape_of-marks
shape_of-marks c = c.try_line.auto.marks

pub shape_of-scratch : goal.shape_of-scratch
shape_of-scratch c = c.try_line.auto.scratch

pub returns-in-Some : goal.returns-in-Some
returns-in-Some c =
    let c12 = c.before.before.before.before.before.before.before.before.before.before.before.before in
    let c24 = c12.before.before.before.before.before.before.before.before.before.before.before.before in
    let c36 = c24.before.before.before.before.before.before.before.before.before.before.before.before in
    let s = c36.before.before.before.before in
    let a = c12.before.before.before.before.before in
    let told = subst (Told s a) c.with_witness.ensures c.try_line.ensures.fact in record {
      fact = (
        told.0,
        second-tried _ _ _ _ _ _ c.in-Some.is _ c.witness-w.ensures _
            told.1,
      );
      marks_after = c.try_line.ensures.marks_after;
    }
