-- `of_chain` tells whether a number is 0 or a node of the chain below a place. Assumes nothing.
use native.Mathlib.Omega.{arith}
use Rattle.good_order.proofs.Testing.{says-no, says-yes, chain-decided}
use Rattle.good_order.proofs.of_chain.Goals as goal

pub returns-then-j-eq0 : goal.returns-then-j-eq0
returns-then-j-eq0 c = says-yes (λ ne. absurd (ne c.if-j-eq0.true))

pub returns-then-i-lt2 : goal.returns-then-i-lt2
returns-then-i-lt2 c = says-no (λ all. let q = all c.if-j-eq0.false in omega (arith, q.0, c.if-i-lt2.true))

pub returns-then-top-i : goal.returns-then-top-i
returns-then-top-i c = says-no (λ all. let q = all c.if-j-eq0.false in omega (arith, q.1, c.if-top-i.true))

pub returns : goal.returns
returns c = chain-decided _ c.requires.0 _ _ _ _ c.if-i-lt2.false c.if-top-i.false
    c.bucket_of-own.ensures.value c.if-j-eq0.false
