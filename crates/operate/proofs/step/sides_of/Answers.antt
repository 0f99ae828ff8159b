-- `sides_of` puts together what its calls give. Assumes nothing.
use Rattle.operate.specs.Inner.{sides_of}
use Rattle.operate.proofs.step.sides_of.Goals as goal

pub returns : goal.returns
unfolding sides_of
returns c =
    rw (
      c.child_or-f0.ensures,
      c.child_or-g0.ensures,
      c.child_or-f1.ensures,
      c.child_or-g1.ensures,
      c.top_of-x.ensures,
    )
