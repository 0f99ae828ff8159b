-- The variables left, 65 less the first of them.
use Prim.Native.Nat.{◌-◌}
use Rattle.sets.proofs.odd_even.+even_odd.Given as goal

abbrev pub decreases-odd : goal.decreases-odd
decreases-odd l = 65 - l.v

abbrev pub decreases-even : goal.decreases-even
decreases-even l = 65 - l.v
