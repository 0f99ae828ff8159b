-- `line_step`: the tests, the try, and what it comes to are laws of Lines. Assumes nothing.
use mathlib.Core.Path.{◌≡◌, refl, ◌∙◌, subst}
use mathlib.Core.List.{List}
use Prim.Native.Nat.{ℕ, ◌≤◌}
use native.Mathlib.Omega.{arith}
use lib.ListN.{length}
use Rattle.table.specs.Indexed.{Table, table_of}
use Rattle.walks.proofs.Here.{good-readable}
use Rattle.verdict.specs.Steps as check
use Rattle.verdict.specs.Steps.{entry_node}
use Rattle.steps.specs.declared.line.LineTest.TheVariants.{Fits}
use Rattle.state.specs.States.{Lent, lent_of, state_of, Held}
use Rattle.verdict.specs.Taken.{line_of}
use Rattle.steps.specs.Tests.{line_refusal, LineTested}
use Rattle.steps.specs.Tried.{Tried}
use Rattle.steps.proofs.Lines.{line_refused, line-ready, few-members, few-paths, line-stepped}
use Rattle.steps.proofs.line.line_step.Reads as reads
use Rattle.steps.proofs.line.line_step.Lts as lts
use Rattle.steps.proofs.line.line_step.Tie as tie
use Rattle.steps.proofs.line.line_step.Goals as goal

module _ (s : lts.Start tie.the-claims reads.Pre reads.Post tie.handed_clauses) where
  abbrev lent : Lent
  lent = lent_of s.args.vars.now s.args.lows.now s.args.highs.now s.args.heads.now s.args.links.now
      s.args.members.now s.args.scratch.now s.args.struck.now

  abbrev state : check.State
  state = state_of lent s.args.st

  abbrev before : Table
  before = table_of s.args.vars.now s.args.lows.now s.args.highs.now s.args.heads.now s.args.links.now
      s.args.st.count

  abbrev held : Held 64 lent s.args.st
  held = s.requires.0

-- the line is to be judged
module _ (c : lts.Past-After-known_told2 tie.the-claims reads.Pre reads.Post tie.handed_clauses) where
  abbrev root : ℕ
  root = c.in-Fits.g.0

  tested :
      let c12 = c.before.before.before.before.before.before.before.before.before.before.before.before in
      LineTested 64 (state c12.before.before.before)
      c.args.rule c.args.root.0 (Fits c.in-Fits.g)
  tested =
      let c12 = c.before.before.before.before.before.before.before.before.before.before.before.before in
      subst (LineTested 64 (state
      c12.before.before.before) c.args.rule
      c.args.root.0) c.in-Fits.is
      (c.line_test.ensures c.args.heads.now c.args.links.now c.args.members.now
      c.args.struck.now)

  none :
      let c12 = c.before.before.before.before.before.before.before.before.before.before.before.before in
      line_refusal 64 (state c12.before.before.before)
      c.args.rule c.args.root.0 ≡ 0
  none = tested.0

  root_is :
      let c12 = c.before.before.before.before.before.before.before.before.before.before.before.before in
      root ≡ entry_node
      (state c12.before.before.before) c.args.root.0
  root_is = tested.1

-- what the try leaves
module _ (c : lts.After-try_line tie.the-claims reads.Pre reads.Post tie.handed_clauses) where
  abbrev table₁ : Table
  table₁ = table_of c.try_line-j.new.vars c.try_line-j.new.lows c.try_line-j.new.highs c.try_line-j.new.heads
      c.try_line-j.new.links c.args.st.count

  abbrev scratch₁ : List ℕ
  scratch₁ = c.try_line-j.new.scratch

  back :
      let c12 = c.before.before.before.before.before.before.before.before.before.before.before.before in
      let c24 = c12.before.before.before.before.before.before.before.before.before.before.before.before in
      table₁ ≡ before c24
  back = c.try_line-j.ensures.fact.0

  said :
      let c12 = c.before.before.before.before.before.before.before.before.before.before.before.before in
      let c24 = c12.before.before.before.before.before.before.before.before.before.before.before.before in
      Tried (before c24) (line_of 64 (state c24) c.args.rule (root c.before.before.before.before.before.before.before.before.before))
      c.try_line-j.result
  said = c.try_line-j.ensures.fact.1

  scratch-room : 4096 ≤ length scratch₁
  scratch-room =
      let c12 = c.before.before.before.before.before.before.before.before.before.before.before.before in
      let c24 = c12.before.before.before.before.before.before.before.before.before.before.before.before in
      omega (
        arith,
        c.try_line-j.auto.scratch,
        (held c24).entries.room,
      )

pub line_test-requires : goal.line_test-requires
line_test-requires c = (
  good-readable (before c.before.before.before.before.before.before.before.before.before.before.before.before)
      (held c.before.before.before.before.before.before.before.before.before.before.before.before).entries.good,
  (held c.before.before.before.before.before.before.before.before.before.before.before.before).entries.inside,
  (held c.before.before.before.before.before.before.before.before.before.before.before.before).entries.few,
  (held c.before.before.before.before.before.before.before.before.before.before.before.before).entries.room,
  c.requires.2,
)

pub try_line-j-requires : goal.try_line-j-requires
try_line-j-requires c =
    let c12 = c.before.before.before.before.before.before.before.before.before.before.before.before in
    let c24 = c12.before.before.before.before.before.before.before.before.before.before.before.before in
    let few = few-members 64 (lent
    c24) c.args.st (held c24) c.args.rule c.args.root.0 (none c.before.before.before.before.before.before.before.before.before)
    (root c.before.before.before.before.before.before.before.before.before)
    (root_is c.before.before.before.before.before.before.before.before.before) in (
      line-ready 64 (lent c24) c.args.st (held c24) c.args.rule c.args.root.0
          (none c.before.before.before.before.before.before.before.before.before)
          (root c.before.before.before.before.before.before.before.before.before)
          (root_is c.before.before.before.before.before.before.before.before.before)
          c.line_test.new.memo
          (omega (arith, c.requires.2, c.line_test.auto.memo)),
      c.requires.1,
      omega (arith, few),
      (held c24).room,
      (held c24).entries.room,
      (held c24).marked,
      few-paths 64 (lent c24) c.args.st (held c24) c.args.rule c.args.root.0
          (none c.before.before.before.before.before.before.before.before.before)
          (root c.before.before.before.before.before.before.before.before.before)
          (root_is c.before.before.before.before.before.before.before.before.before),
    )

pub ended-requires : goal.ended-requires
ended-requires c =
    let c12 = c.before.before.before.before.before.before.before.before.before.before.before.before in
    let c24 = c12.before.before.before.before.before.before.before.before.before.before.before.before in
    let c36 = c24.before.before.before.before.before.before.before.before.before.before.before.before in
    let few = few-members 64 (lent
    c36.before.before.before.before.before.before) c.args.st (held c36.before.before.before.before.before.before) c.args.rule c.args.root.0
    (none c24.before.before.before) (root c24.before.before.before) (root_is c24.before.before.before) in (
      few,
      (held c36.before.before.before.before.before.before).room,
      (held c36.before.before.before.before.before.before).lines,
      omega (
        arith,
        (held c36.before.before.before.before.before.before).rounds,
        (held c36.before.before.before.before.before.before).lines,
        (said c12.before.before.before.before.before.before).most,
      ),
    )

pub shape_of-vars-in-Refused : goal.shape_of-vars-in-Refused
shape_of-vars-in-Refused c = refl

pub shape_of-lows-in-Refused : goal.shape_of-lows-in-Refused
shape_of-lows-in-Refused c = refl

pub shape_of-highs-in-Refused : goal.shape_of-highs-in-Refused
shape_of-highs-in-Refused c = refl

pub shape_of-memo-in-Refused : goal.shape_of-memo-in-Refused
shape_of-memo-in-Refused c = c.line_test.auto.memo

pub shape_of-scratch-in-Refused : goal.shape_of-scratch-in-Refused
shape_of-scratch-in-Refused c = refl

pub returns-in-Refused : goal.returns-in-Refused
returns-in-Refused c =
    let c12 = c.before.before.before.before.before.before.before.before.before.before.before.before in
    let told = subst (LineTested 64
    (state c12.before.before.before.before)
    c.args.rule c.args.root.0) c.in-Refused.is
    (c.line_test.ensures c.args.heads.now c.args.links.now c.args.members.now
    c.args.struck.now) in
    record {
      stepped = (λ n H. line_refused n (lent
          c12.before.before.before.before) c.args.st H
          c.args.rule c.args.root.0 _ told.0 told.1);
      marks_after = c.requires.1;
    }

pub shape_of-vars-in-Fits : goal.shape_of-vars-in-Fits
shape_of-vars-in-Fits c = c.try_line-j.auto.vars

pub shape_of-lows-in-Fits : goal.shape_of-lows-in-Fits
shape_of-lows-in-Fits c = c.try_line-j.auto.lows

pub shape_of-highs-in-Fits : goal.shape_of-highs-in-Fits
shape_of-highs-in-Fits c = c.try_line-j.auto.highs

pub shape_of-heads : goal.shape_of-heads
shape_of-heads c = c.try_line-j.auto.heads

pub shape_of-links : goal.shape_of-links
shape_of-links c = c.try_line-j.auto.links

pub shape_of-memo-in-Fits : goal.shape_of-memo-in-Fits
shape_of-memo-in-Fits c = c.try_line-j.auto.memo ∙ c.line_test.auto.memo

pub shape_of-marks : goal.shape_of-marks
shape_of-marks c = c.try_line-j.auto.marks

pub shape_of-members : goal.shape_of-members
shape_of-members c = c.ended.auto.members

pub shape_of-scratch-in-Fits : goal.shape_of-scratch-in-Fits
shape_of-scratch-in-Fits c = c.try_line-j.auto.scratch

pub returns-in-Fits : goal.returns-in-Fits
returns-in-Fits c =
    let c12 = c.before.before.before.before.before.before.before.before.before.before.before.before in
    let c24 = c12.before.before.before.before.before.before.before.before.before.before.before.before in
    let c36 = c24.before.before.before.before.before.before.before.before.before.before.before.before in
    record {
      stepped = (λ n H. line-stepped n
          (lent c36.before.before.before.before.before.before.before.before.before) c.args.st H c.args.rule c.args.root.0
          (none c24.before.before.before.before.before.before) (root c24.before.before.before.before.before.before)
          (root_is c24.before.before.before.before.before.before) c.try_line-j.result
          (said c12.before.before.before.before.before.before.before.before.before)
          (table₁ c12.before.before.before.before.before.before.before.before.before)
          (back c12.before.before.before.before.before.before.before.before.before)
          (scratch₁ c12.before.before.before.before.before.before.before.before.before)
          (scratch-room c12.before.before.before.before.before.before.before.before.before) c.ended.ensures.value
          c.ended.ensures.members_after);
      marks_after = c.try_line-j.ensures.marks_after;
    }
