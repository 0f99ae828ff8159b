-- `groups_at`: cut, one group, surplus groups, two groups or more, each by the law of that way. Assumes nothing.
use mathlib.Core.Path.{refl, ap}
use Prim.Native.Nat.{◌≤◌, ◌<◌}
use lib.ListN.{length, get_or}
use native.Mathlib.Omega.{arith}
use Rattle.commands.specs.Inner.{coded}
use Rattle.commands.proofs.Groups.{open-first, read-cut, read-closing, read_one, read_short, read-surplus, read-two, read-many}
use Rattle.commands.proofs.binary.groups_at.Reads as reads
use Rattle.commands.proofs.binary.groups_at.Lts as lts
use Rattle.commands.proofs.binary.groups_at.Tie as tie
use Rattle.commands.proofs.binary.groups_at.Goals as goal

-- the last group lies in the proof
inside : (c : lts.Else1 tie.the-claims reads.Pre reads.Post tie.handed_clauses) → c.last_group-last.result < length c.args.s.now
inside c = omega (arith, c.last_group-last.ensures.lower_bound.1, c.if-last-s.false)

-- two bytes, of which the first is an open group
low_byte : (c : lts.After-shared_slice_known3 tie.the-claims reads.Pre reads.Post tie.handed_clauses) → get_or c.args.s.now
    c.args.at 0 < 256
low_byte c = omega (arith, c.shared_slice_known-then-end-at-eq2-1.given c.args.at)

top_byte : (c : lts.After-shared_slice_known3 tie.the-claims reads.Pre reads.Post tie.handed_clauses) → get_or c.args.s.now
    c.last_group-last.result 0 < 256
top_byte c = omega (arith, c.shared_slice_known-then-end-at-eq2-1.given c.last_group-last.result)

first-open : (c : lts.After-shared_slice_known3 tie.the-claims reads.Pre reads.Post tie.handed_clauses) → 128 ≤ get_or c.args.s.now
    c.args.at 0
first-open c =
    open-first _ _ _ c.last_group-last.ensures.value c.if-last-at.false
    (omega (arith, inside c.before.before.before.before.before, c.last_group-last.ensures.lower_bound.0))

pub returns-then-last-s : goal.returns-then-last-s
returns-then-last-s c = ap coded (read-cut _ c.args.variables _ _ c.last_group-last.ensures.value c.if-last-s.true c.requires.0)

pub returns-then-top-eq0 : goal.returns-then-top-eq0
returns-then-top-eq0 c = ap coded (read-closing _ c.args.variables _ _ c.last_group-last.ensures.value
    (inside c.before.before.before.before) _ refl _ refl
    c.if-last-at.true c.if-top-eq0.true)

pub returns-then-top-eq1 : goal.returns-then-top-eq1
returns-then-top-eq1 c = ap coded (read_one _ c.args.variables _ _ c.last_group-last.ensures.value
    (inside c.before.before.before.before.before) _ refl _ refl
    c.if-last-at.true c.if-top-eq1.true)

pub overflow_cast-top : goal.overflow_cast-top
overflow_cast-top c = omega (
  arith,
  c.shared_slice_known-2-1.given
      c.last_group-last.result,
)

pub returns-then-last-at : goal.returns-then-last-at
returns-then-last-at c =
    rw c.literal_of.ensures (ap coded (read_short _ c.args.variables _ _ c.last_group-last.ensures.value
    (inside c.before.before.before.before.before.before) _ refl _ refl
    c.if-last-at.true
    c.if-top-eq0.false c.if-top-eq1.false _ refl))

pub returns-then-top-eq0-2 : goal.returns-then-top-eq0-2
returns-then-top-eq0-2 c = ap coded (read-surplus _ c.args.variables _ _ c.last_group-last.ensures.value
    (inside c.before.before.before.before) _ refl _ refl
    c.if-last-at.false c.if-top-eq0-2.true)

pub overflow_sub-number : goal.overflow_sub-number
overflow_sub-number c = first-open c.before

pub overflow_cast-number : goal.overflow_cast-number
overflow_cast-number c = omega (arith, low_byte c.before)

pub overflow_cast-number-then-end-at-eq2 : goal.overflow_cast-number-then-end-at-eq2
overflow_cast-number-then-end-at-eq2 c = omega (arith, top_byte c.before)

pub overflow_mul-number : goal.overflow_mul-number
overflow_mul-number c = omega (arith, top_byte c.before)

pub overflow_add-number : goal.overflow_add-number
overflow_add-number c = omega (arith, top_byte c.before, low_byte c.before)

pub returns-then-end-at-eq2 : goal.returns-then-end-at-eq2
returns-then-end-at-eq2 c =
    rw c.literal_of-then-end-at-eq2.ensures (ap coded
    (read-two _ c.args.variables _ _ c.last_group-last.ensures.value (inside c.before.before.before.before.before.before.before) _ refl
    _ refl
    c.if-end-at-eq2.true
    c.if-top-eq0-2.false _ refl _ refl))

pub returns : goal.returns
returns c =
    ap coded (read-many _ _ _ _ c.last_group-last.ensures.value (inside c.before.before.before.before.before) _ refl _ refl
    c.if-last-at.false c.if-end-at-eq2.false
    c.if-top-eq0-2.false c.requires.1)
