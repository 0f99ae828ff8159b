-- `set_test`: the tests of a set's record in their order. Assumes nothing.
use mathlib.Core.Path.{sym, ◌∙◌}
use Rattle.entries.proofs.SetEntries.{refuse-21, refuse-12, refuse-29, refuse-none, any-byte}
use Rattle.entries.proofs.set.set_test.Goals as goal

pub returns-then-entries-ge4096 : goal.returns-then-entries-ge4096
returns-then-entries-ge4096 c = refuse-21 _ _ _ _ c.if-entries-ge4096.true

pub returns-then-is_beyond : goal.returns-then-is_beyond
returns-then-is_beyond c = refuse-12 _ _ _ _ c.if-entries-ge4096.false (sym c.is_beyond.ensures ∙ c.if-is_beyond.true)

pub returns-then-b-gt1 : goal.returns-then-b-gt1
returns-then-b-gt1 c =
    refuse-29 _ _ _ _ c.if-entries-ge4096.false (sym c.is_beyond.ensures ∙ c.if-is_beyond.false)
    c.in-Parity.is c.if-b-gt1.true

pub returns-else-b-gt1 : goal.returns-else-b-gt1
returns-else-b-gt1 c =
    refuse-none _ _ _ _ c.if-entries-ge4096.false (sym c.is_beyond.ensures ∙ c.if-is_beyond.false)
    c.in-Parity.is c.if-b-gt1.false

pub returns-in-AtLeast : goal.returns-in-AtLeast
returns-in-AtLeast c =
    any-byte _ _ _ _ c.if-entries-ge4096.false
    (sym c.is_beyond.ensures ∙ c.if-is_beyond.false) c.in-AtLeast.is
