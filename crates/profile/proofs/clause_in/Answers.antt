-- `clause_in` drops the pivot in the profile. Assumes nothing.
use mathlib.Core.Path.{refl}
use Rattle.profile.proofs.clause_in.Goals as goal

pub returns-then-consequence : goal.returns-then-consequence
returns-then-consequence c = rw c.if-consequence.true

pub returns : goal.returns
returns c = rw c.if-consequence.false refl
