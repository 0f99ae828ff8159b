-- `set_step`: the ways out are laws of SetEntries. Assumes nothing.
use mathlib.Core.Path.{◌≡◌, sym, ap, ◌∙◌}
use mathlib.Core.List.{List}
use Prim.Native.Nat.{ℕ}
use native.Mathlib.Omega.{arith}
use Rattle.table.specs.Indexed.{Table, table_of, Outcome, outcome_of}
use Rattle.table.proofs.Outcomes.{place_in, Grown}
use Rattle.verdict.specs.Steps.{set_diagram}
use Rattle.state.specs.States.{Lent, lent_of, state_with_entry}
use Rattle.entries.specs.Tests.{set_refusal}
use Rattle.entries.proofs.SetEntries.{set-fits, made-grown, set-refused, set_full, set-made}
use Rattle.entries.proofs.set.set_step.Reads as reads
use Rattle.entries.proofs.set.set_step.Lts as lts
use Rattle.entries.proofs.set.set_step.Tie as tie
use Rattle.entries.proofs.set.set_step.Goals as goal

module _ (s : lts.Start tie.the-claims reads.Pre reads.Post) where
  abbrev before : Table
  before = table_of s.args.vars.now s.args.lows.now s.args.highs.now s.args.heads.now s.args.links.now
      s.args.st.count

module _ (s : lts.Start tie.the-claims reads.Pre reads.Post) (ms ss : List ℕ) where
  abbrev lent : Lent
  lent = lent_of s.args.vars.now s.args.lows.now s.args.highs.now s.args.heads.now s.args.links.now ms
      s.args.scratch.now ss

-- the record is not refused
module _ (c : lts.Else1 tie.the-claims reads.Pre reads.Post) where
  none : set_refusal c.args.variables c.args.st.entries c.args.kind
      c.args.b ≡ 0
  none = sym c.set_test-number.ensures ∙ c.if-number-ne0.false

-- what making its diagram leaves
module _ (c : lts.After-set_made tie.the-claims reads.Pre reads.Post) where
  abbrev outcome : Outcome
  outcome = outcome_of c.set_made-p.new.vars c.set_made-p.new.lows c.set_made-p.new.highs c.set_made-p.new.heads c.set_made-p.new.links
      c.set_made-p.result

  made :
      let c12 = c.before.before.before.before.before.before.before.before.before.before.before.before in
      outcome ≡ place_in (before c12.before.before)
      (set_diagram 64 c.args.kind c.args.b)
  made = c.set_made-p.ensures

  grown :
      let c12 = c.before.before.before.before.before.before.before.before.before.before.before.before in
      Grown (before c12.before.before)
      (set_diagram 64 c.args.kind c.args.b) outcome
  grown =
      let c12 = c.before.before.before.before.before.before.before.before.before.before.before.before in
      made-grown (before c12.before.before)
      c.requires.good c.args.kind c.args.b outcome made

pub returns-then-number-ne0 : goal.returns-then-number-ne0
returns-then-number-ne0 c = λ ms ss H.
    set-refused _ (lent c.before.before.before.before.before.before.before.before.before ms ss) c.args.st c.args.kind c.args.b H _
    c.set_test-number.ensures c.if-number-ne0.true

pub drop_to-requires : goal.drop_to-requires
drop_to-requires c =
    let c12 = c.before.before.before.before.before.before.before.before.before.before.before.before in
    let m = c12.before.before.before.before.before.before
    in (
      (grown c12.before.before.before.before.before.before).good,
      m.requires.good.least,
      (grown c12.before.before.before.before.before.before).more,
    )

pub returns-then-p : goal.returns-then-p
returns-then-p c =
    let c12 = c.before.before.before.before.before.before.before.before.before.before.before.before in
    let c24 = c12.before.before.before.before.before.before.before.before.before.before.before.before in
    let c36 = c24.before.before.before.before.before.before.before.before.before.before.before.before in
    λ ms ss H.
    set_full _ (lent c36.before.before.before.before.before.before.before ms ss) c.args.st c.args.kind c.args.b H
    (none c24.before.before.before.before.before.before.before.before.before.before.before)
    (outcome c24.before.before.before.before.before) (made c24.before.before.before.before.before) _
    c.drop_to.ensures _
    c.greater-peak.ensures c.if-p.true

pub bounds-scratch-entries : goal.bounds-scratch-entries
bounds-scratch-entries c =
    let c12 = c.before.before.before.before.before.before.before.before.before.before.before.before in
    omega (
      arith,
      (set-fits c.args.variables c.args.st.entries c.args.kind c.args.b
          (none c12.before.before.before.before.before.before.before.before)
          ).few,
      c.requires.room,
    )

pub returns : goal.returns
returns c =
    let c12 = c.before.before.before.before.before.before.before.before.before.before.before.before in
    let c24 = c12.before.before.before.before.before.before.before.before.before.before.before.before in
    λ ms ss H.
    set-made _ (lent c24.before.before.before.before.before ms ss) c.args.st c.args.kind c.args.b H
    (none c12.before.before.before.before.before.before.before.before.before) (outcome c12.before.before.before)
    (made c12.before.before.before)
    c.if-p.false c.with_entry.result
    (c.with_entry.ensures ∙ ap (state_with_entry c.args.st
    (outcome c12.before.before.before).table.count)
    c.greater-peak.ensures)
