-- `excluded_by` counts what the at-least diagram excludes. Assumes nothing.
use Rattle.sets.proofs.Counting.{not-counted, counted}
use Rattle.sets.proofs.excluded_by.Goals as goal

pub returns-then-m-gt32 : goal.returns-then-m-gt32
returns-then-m-gt32 c = not-counted _ _ c.size_of-m.ensures.many _ c.if-m-gt32.true

pub returns : goal.returns
returns c = counted _ _ c.size_of-m.ensures.many _ _ c.if-m-gt32.false c.excluded-excluded.ensures
