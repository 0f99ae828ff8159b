-- `child_variable`: the low child's variable where v is not before it, else the high child's. Assumes nothing.
use native.Mathlib.Omega.{arith}
use Rattle.why.proofs.Children.{high-child, low-child}
use Rattle.why.proofs.child.child_variable.Goals as goal

pub stands_above-requires : goal.stands_above-requires
stands_above-requires c = let r = c.requires in (r.0.lows, r.0.highs, omega (arith, r.1, r.0.within))

pub bounds-vars-k : goal.bounds-vars-k
bounds-vars-k c = let r = c.requires in omega (arith, r.2, r.0.within)

pub returns-then-stands_above : goal.returns-then-stands_above
returns-then-stands_above c = let r = c.requires in
    high-child _ _ _ _ r.0 _ _ _ r.1 r.2 _ c.stands_above.ensures c.if-stands_above.true

pub bounds-vars-j : goal.bounds-vars-j
bounds-vars-j c = let r = c.requires in omega (arith, r.1, r.0.within)

pub returns : goal.returns
returns c = let r = c.requires in
    low-child _ _ _ _ r.0 _ _ _ r.1 r.2 _ c.stands_above.ensures c.if-stands_above.false
