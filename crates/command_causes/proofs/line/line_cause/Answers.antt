-- `line_cause`: the line's node is read from the scratch list, and its rule's function tells the cause (Lines). Assumes nothing.
use mathlib.Core.Path.{◌≡◌, sym, subst}
use mathlib.Core.List.{List}
use Prim.Native.Nat.{ℕ}
use native.Mathlib.Omega.{arith}
use lib.ListN.{length}
use Rattle.records.specs.declared.Rule.{Rule}
use Rattle.records.specs.declared.Rule.TheVariants.{Rup, Pr, Path}
use Rattle.verdict.specs.Steps as check
use Rattle.verdict.specs.Steps.{entry_node}
use Rattle.state.specs.States.{Lent, lent_of, state_of, Held}
use Rattle.command_causes.specs.declared.Cause.{Cause}
use Rattle.command_causes.specs.Causes.{LineRefused}
use Rattle.command_causes.proofs.Lines.{root_below, ready, fails, paths-few, Tells, rup-tells, pr-tells, path-tells, tells_as}
use Rattle.command_causes.proofs.line.line_cause.Reads as reads
use Rattle.command_causes.proofs.line.line_cause.Lts as lts
use Rattle.command_causes.proofs.line.line_cause.Tie as tie
use Rattle.command_causes.proofs.line.line_cause.Goals as goal

module _ (s : lts.Start tie.the-claims reads.Pre reads.Post tie.handed_clauses) where
  abbrev lent : Lent
  lent = lent_of s.args.vars.now s.args.lows.now s.args.highs.now s.args.heads.now s.args.links.now
      s.args.members.now s.args.scratch.now s.args.struck.now

  abbrev S : check.State
  S = state_of lent s.args.st

  abbrev held : Held s.requires.0.n lent s.args.st
  held = s.requires.0.held

  -- the line, its rule being that one
  refused_as : (rule : Rule) → s.args.rule ≡ rule → LineRefused lent s.args.st rule s.args.root.0
  refused_as rule e = subst (λ (k : Rule). LineRefused lent s.args.st k s.args.root.0) e s.requires.0

module _ (a : lts.After-entry_node tie.the-claims reads.Pre reads.Post tie.handed_clauses) where
  abbrev g : ℕ
  g = a.entry_node-g.result.0

  is : g ≡ entry_node (S a.before.before.before.before.before.before.before.before.before.before.before.before) a.args.root.0
  unfolding entry_node
  is = a.entry_node-g.ensures

  -- what the answer r says, with these words
  abbrev Says : List ℕ → Cause → Type 0
  Says words r = Tells (lent a.before.before.before.before.before.before.before.before.before.before.before.before) a.args.st a.args.root.0
      (length a.args.fixed.now) words r a.args.rule

pub entry_node-g-requires : goal.entry_node-g-requires
entry_node-g-requires c =
    let H = held c.before.before.before.before.before.before.before.before.before.before.before.before in (
      omega (arith, H.entries.few, H.entries.room),
      root_below
          (lent c.before.before.before.before.before.before.before.before.before.before.before.before) c.args.st c.args.root.0 c.args.rule
          c.requires.0,
    )

pub rup_cause-rounds-requires : goal.rup_cause-rounds-requires
rup_cause-rounds-requires c =
    let c12 = c.before.before.before.before.before.before.before.before.before.before.before.before in
    let H = held c12.before.before.before.before.before.before.before.before.before.before in
    let R = refused_as c12.before.before.before.before.before.before.before.before.before.before Rup c.in-Rup.is in record {
      fact = (
        ready (lent c12.before.before.before.before.before.before.before.before.before.before) c.args.st c.args.root.0
            (g c.before.before.before.before.before.before.before.before.before.before)
            (is c.before.before.before.before.before.before.before.before.before.before) Rup R c.args.memo.now c.requires.2,
        omega (arith, H.many, H.lines),
        H.room,
        H.entries.room,
        H.marked,
        fails (lent c12.before.before.before.before.before.before.before.before.before.before) c.args.st c.args.root.0
            (g c.before.before.before.before.before.before.before.before.before.before)
            (is c.before.before.before.before.before.before.before.before.before.before) Rup R,
      );
      in_bounds = (c.requires.3, c.requires.4);
    }

pub of_rounds-requires : goal.of_rounds-requires
of_rounds-requires c =
    tt

pub pr_cause-t-requires : goal.pr_cause-t-requires
pr_cause-t-requires c =
    let c12 = c.before.before.before.before.before.before.before.before.before.before.before.before in
    let c24 = c12.before.before.before.before.before.before.before.before.before.before.before.before in
    let H = held c24 in
    let R = refused_as c24 Pr c.in-Pr.is in record {
      fact = (
        ready (lent c24) c.args.st c.args.root.0 (g c.before.before.before.before.before.before.before.before.before.before.before.before)
            (is c.before.before.before.before.before.before.before.before.before.before.before.before) Pr R c.args.memo.now c.requires.2,
        c.requires.1,
        omega (arith, H.many, H.lines),
        H.room,
        H.entries.room,
        H.marked,
        fails (lent c24) c.args.st c.args.root.0 (g c.before.before.before.before.before.before.before.before.before.before.before.before)
            (is c.before.before.before.before.before.before.before.before.before.before.before.before) Pr R,
      );
      in_bounds = (c.requires.3, c.requires.4);
    }

pub of_rounds-requires-in-Pr : goal.of_rounds-requires-in-Pr
of_rounds-requires-in-Pr c =
    tt

pub path_cause-rounds-requires : goal.path_cause-rounds-requires
path_cause-rounds-requires c =
    let c12 = c.before.before.before.before.before.before.before.before.before.before.before.before in
    let H = held c12.before.before.before.before.before.before.before.before.before.before.before in
    let R = refused_as c12.before.before.before.before.before.before.before.before.before.before.before Path c.in-Path.is in record {
      fact = (
        ready (lent c12.before.before.before.before.before.before.before.before.before.before.before) c.args.st c.args.root.0
            (g c.before.before.before.before.before.before.before.before.before.before.before)
            (is c.before.before.before.before.before.before.before.before.before.before.before) Path R c.args.memo.now c.requires.2,
        c.requires.1,
        omega (arith, H.many, H.lines),
        H.room,
        H.entries.room,
        H.marked,
        paths-few (lent c12.before.before.before.before.before.before.before.before.before.before.before) c.args.st c.args.root.0
            (g c.before.before.before.before.before.before.before.before.before.before.before)
            (is c.before.before.before.before.before.before.before.before.before.before.before) R,
        fails (lent c12.before.before.before.before.before.before.before.before.before.before.before) c.args.st c.args.root.0
            (g c.before.before.before.before.before.before.before.before.before.before.before)
            (is c.before.before.before.before.before.before.before.before.before.before.before) Path R,
      );
      in_bounds = (c.requires.3, c.requires.4);
    }

pub of_rounds-requires-in-Path : goal.of_rounds-requires-in-Path
of_rounds-requires-in-Path c =
    tt

pub shape_of-vars-in-Rup : goal.shape_of-vars-in-Rup
shape_of-vars-in-Rup c =
    c.rup_cause-rounds.auto.vars

pub shape_of-lows-in-Rup : goal.shape_of-lows-in-Rup
shape_of-lows-in-Rup c =
    c.rup_cause-rounds.auto.lows

pub shape_of-highs-in-Rup : goal.shape_of-highs-in-Rup
shape_of-highs-in-Rup c =
    c.rup_cause-rounds.auto.highs

pub shape_of-heads-in-Rup : goal.shape_of-heads-in-Rup
shape_of-heads-in-Rup c =
    c.rup_cause-rounds.auto.heads

pub shape_of-links-in-Rup : goal.shape_of-links-in-Rup
shape_of-links-in-Rup c =
    c.rup_cause-rounds.auto.links

pub shape_of-memo-in-Rup : goal.shape_of-memo-in-Rup
shape_of-memo-in-Rup c =
    c.rup_cause-rounds.auto.memo

pub shape_of-scratch-in-Rup : goal.shape_of-scratch-in-Rup
shape_of-scratch-in-Rup c =
    c.rup_cause-rounds.auto.scratch

pub shape_of-fixed-in-Rup : goal.shape_of-fixed-in-Rup
shape_of-fixed-in-Rup c =
    c.rup_cause-rounds.auto.fixed

pub returns-in-Rup : goal.returns-in-Rup
returns-in-Rup c =
    let c12 = c.before.before.before.before.before.before.before.before.before.before.before.before in
    let c24 = c12.before.before.before.before.before.before.before.before.before.before.before.before in
    let c36 = c24.before.before.before.before.before.before.before.before.before.before.before.before in
    let words = c.rup_cause-rounds.new.fixed in record {
      fixed_after = subst (Says
          c24.before.before.before.before words) (sym c.of_rounds.ensures)
          (tells_as (lent c36.before.before.before.before) c.args.st c.args.root.0 (length c.args.fixed.now) words _ c.args.rule Rup
          c.in-Rup.is
          (rup-tells (lent c36.before.before.before.before) c.args.st c.args.root.0 (g c24.before.before.before.before)
          (is c24.before.before.before.before) (length c.args.fixed.now) words
          c.rup_cause-rounds.auto.fixed c.rup_cause-rounds.result c.rup_cause-rounds.ensures.1));
      count_unchanged = c.rup_cause-rounds.ensures.0;
      marks_after = c.requires.1;
    }

pub shape_of-vars-in-Pr : goal.shape_of-vars-in-Pr
shape_of-vars-in-Pr c =
    c.pr_cause-t.auto.vars

pub shape_of-lows-in-Pr : goal.shape_of-lows-in-Pr
shape_of-lows-in-Pr c =
    c.pr_cause-t.auto.lows

pub shape_of-highs-in-Pr : goal.shape_of-highs-in-Pr
shape_of-highs-in-Pr c =
    c.pr_cause-t.auto.highs

pub shape_of-heads-in-Pr : goal.shape_of-heads-in-Pr
shape_of-heads-in-Pr c =
    c.pr_cause-t.auto.heads

pub shape_of-links-in-Pr : goal.shape_of-links-in-Pr
shape_of-links-in-Pr c =
    c.pr_cause-t.auto.links

pub shape_of-memo-in-Pr : goal.shape_of-memo-in-Pr
shape_of-memo-in-Pr c =
    c.pr_cause-t.auto.memo

pub shape_of-marks-in-Pr : goal.shape_of-marks-in-Pr
shape_of-marks-in-Pr c =
    c.pr_cause-t.auto.marks

pub shape_of-scratch-in-Pr : goal.shape_of-scratch-in-Pr
shape_of-scratch-in-Pr c =
    c.pr_cause-t.auto.scratch

pub shape_of-fixed-in-Pr : goal.shape_of-fixed-in-Pr
shape_of-fixed-in-Pr c =
    c.pr_cause-t.auto.fixed

pub returns-in-Pr : goal.returns-in-Pr
returns-in-Pr c =
    let c12 = c.before.before.before.before.before.before.before.before.before.before.before.before in
    let c24 = c12.before.before.before.before.before.before.before.before.before.before.before.before in
    let c36 = c24.before.before.before.before.before.before.before.before.before.before.before.before in
    let words = c.pr_cause-t.new.fixed in record {
      fixed_after = subst (Says
          c24.before.before.before.before.before.before.before.before words) (sym c.of_rounds-in-Pr.ensures)
          (tells_as (lent c36.before.before.before.before.before.before.before.before) c.args.st c.args.root.0 (length c.args.fixed.now)
          words _ c.args.rule Pr
          c.in-Pr.is
          (pr-tells (lent c36.before.before.before.before.before.before.before.before) c.args.st c.args.root.0
          (g c24.before.before.before.before.before.before.before.before)
          (is c24.before.before.before.before.before.before.before.before) (length c.args.fixed.now) words
          c.pr_cause-t.auto.fixed c.pr_cause-t.result.member c.pr_cause-t.result.rounds c.pr_cause-t.ensures.fact_2.1));
      count_unchanged = c.pr_cause-t.ensures.fact_2.0;
      marks_after = c.pr_cause-t.ensures.marks_after;
    }

pub shape_of-vars-in-Path : goal.shape_of-vars-in-Path
shape_of-vars-in-Path c =
    c.path_cause-rounds.auto.vars

pub shape_of-lows-in-Path : goal.shape_of-lows-in-Path
shape_of-lows-in-Path c =
    c.path_cause-rounds.auto.lows

pub shape_of-highs-in-Path : goal.shape_of-highs-in-Path
shape_of-highs-in-Path c =
    c.path_cause-rounds.auto.highs

pub shape_of-heads-in-Path : goal.shape_of-heads-in-Path
shape_of-heads-in-Path c =
    c.path_cause-rounds.auto.heads

pub shape_of-links-in-Path : goal.shape_of-links-in-Path
shape_of-links-in-Path c =
    c.path_cause-rounds.auto.links

pub shape_of-memo-in-Path : goal.shape_of-memo-in-Path
shape_of-memo-in-Path c =
    c.path_cause-rounds.auto.memo

pub shape_of-marks-in-Path : goal.shape_of-marks-in-Path
shape_of-marks-in-Path c =
    c.path_cause-rounds.auto.marks

pub shape_of-scratch-in-Path : goal.shape_of-scratch-in-Path
shape_of-scratch-in-Path c =
    c.path_cause-rounds.auto.scratch

pub shape_of-fixed-in-Path : goal.shape_of-fixed-in-Path
shape_of-fixed-in-Path c =
    c.path_cause-rounds.auto.fixed

pub returns-in-Path : goal.returns-in-Path
returns-in-Path c =
    let c12 = c.before.before.before.before.before.before.before.before.before.before.before.before in
    let c24 = c12.before.before.before.before.before.before.before.before.before.before.before.before in
    let c36 = c24.before.before.before.before.before.before.before.before.before.before.before.before in
    let words = c.path_cause-rounds.new.fixed in record {
      fixed_after = subst (Says
          c24.before.before.before.before.before.before.before words) (sym c.of_rounds-in-Path.ensures)
          (tells_as (lent c36.before.before.before.before.before.before.before) c.args.st c.args.root.0 (length c.args.fixed.now) words _
          c.args.rule Path
          c.in-Path.is
          (path-tells (lent c36.before.before.before.before.before.before.before) c.args.st c.args.root.0
          (g c24.before.before.before.before.before.before.before) (is c24.before.before.before.before.before.before.before)
          (length c.args.fixed.now) words
          c.path_cause-rounds.auto.fixed c.path_cause-rounds.result c.path_cause-rounds.ensures.fact_2.1));
      count_unchanged = c.path_cause-rounds.ensures.fact_2.0;
      marks_after = c.path_cause-rounds.ensures.marks_after;
    }
