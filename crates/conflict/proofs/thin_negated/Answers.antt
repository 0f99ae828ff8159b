-- The walk over the asked whose negations are nodes: none so far is marked. Assumes nothing.
use Prim.Native.Nat.{◌-◌, ◌<◌}
use native.Mathlib.Omega.{arith}
use lib.ListN.{length, get_or}
use borrow.Author.Tests.{eq-eqb, ne_eqb, not-false}
use Rattle.table.specs.declared.Found.TheVariants.{At}
use Rattle.table.specs.Indexed.{Table, table_of}
use Rattle.conflict.specs.Members.{NegatedBy}
use Rattle.conflict.proofs.Marked.{still-passed, still-unmarked, marked-conflict}
use Rattle.conflict.proofs.thin_negated.Goals as goal

pub loop-i-init : goal.loop-i-init
loop-i-init c = (c.requires.2, λ list M N. N)

pub next_negation-next-requires : goal.next_negation-next-requires
next_negation-next-requires c = let r = c.requires in (r.0, r.1, c.loop-i.invariant.0)

pub returns-then-not-next : goal.returns-then-not-next
returns-then-not-next c =
    let table : Table =
    let a = c.args in table_of a.vars.now a.lows.now a.highs.now a.heads.now a.links.now a.count in
    let a = c.args in
    λ list M N. still-passed table c.requires.0 a.asked.now a.marks.now a.all a.from c.loop-i.i _
    c.next_negation-next.ensures.0 c.loop-i.invariant.1 list M N

pub bounds-marks-k : goal.bounds-marks-k
bounds-marks-k c =
    let table : Table =
    let a = c.args in table_of a.vars.now a.lows.now a.highs.now a.heads.now a.links.now a.count in
    let there : (c.next_negation-next.result.place < length c.args.asked.now)
    × NegatedBy table (get_or c.args.asked.now c.next_negation-next.result.place 0) c.next_negation-next.result.node.0 =
    c.next_negation-next.ensures.1 (not-false _ c.if-not-next.false) in
    omega (arith, c.requires.3, c.requires.0.within, there.1.0)

pub returns-then-marks-k-eq1 : goal.returns-then-marks-k-eq1
returns-then-marks-k-eq1 c =
    let table : Table =
    let a = c.args in table_of a.vars.now a.lows.now a.highs.now a.heads.now a.links.now a.count in
    let there : (c.next_negation-next.result.place < length c.args.asked.now)
    × NegatedBy table (get_or c.args.asked.now c.next_negation-next.result.place 0) c.next_negation-next.result.node.0 =
    c.next_negation-next.ensures.1 (not-false _ c.if-not-next.false) in
    let a = c.args in
    let y = c.next_negation-next.result in
    λ list M N. marked-conflict table c.requires.0 a.asked.now a.marks.now a.all a.from y.place there.0
    (At y.node) there.1 (eq-eqb _ _ c.if-marks-k-eq1.true) list M

pub overflow_add-i : goal.overflow_add-i
overflow_add-i c =
    let table : Table =
    let a = c.args in table_of a.vars.now a.lows.now a.highs.now a.heads.now a.links.now a.count in
    let there : (c.next_negation-next.result.place < length c.args.asked.now)
    × NegatedBy table (get_or c.args.asked.now c.next_negation-next.result.place 0) c.next_negation-next.result.node.0 =
    c.next_negation-next.ensures.1 (not-false _ c.if-not-next.false) in
    let length-fits : length c.args.asked.now < 18446744073709551616 =
    omega arith in
    omega (arith, there.0, length-fits)

pub loop-i-smaller : goal.loop-i-smaller
loop-i-smaller c =
    omega (arith, c.loop-i-test.true, c.next_negation-next.ensures.0.from_on)

pub loop-i-preserved : goal.loop-i-preserved
loop-i-preserved c =
    let table : Table =
    let a = c.args in table_of a.vars.now a.lows.now a.highs.now a.heads.now a.links.now a.count in
    let there : (c.next_negation-next.result.place < length c.args.asked.now)
    × NegatedBy table (get_or c.args.asked.now c.next_negation-next.result.place 0) c.next_negation-next.result.node.0 =
    c.next_negation-next.ensures.1 (not-false _ c.if-not-next.false) in
    let a = c.args in (
      omega (arith, there.0),
      still-unmarked table c.requires.0 a.asked.now a.marks.now a.all a.from c.next_negation-next.result.place there.0
          (At c.next_negation-next.result.node) there.1 (ne_eqb _ _ c.if-marks-k-eq1.false)
          (still-passed table c.requires.0 a.asked.now a.marks.now a.all a.from c.loop-i.i c.next_negation-next.result.place
          c.next_negation-next.ensures.0
          c.loop-i.invariant.1),
    )

pub returns : goal.returns
returns c = c.loop-i.invariant.1
