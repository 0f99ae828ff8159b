-- The next place is one of the three ways out: the numbers passed over are before `asked` and between two of the places. Assumes nothing.
use native.Mathlib.Omega.{arith}
use Rattle.unit_search.proofs.Taking.{skips-none, skips-place, skips-all}
use Rattle.unit_search.proofs.next_asked.Goals as goal

pub returns-then-asked-from : goal.returns-then-asked-from
returns-then-asked-from c =
    let a = c.args in skips-none a.places.now a.asked a.k a.from c.if-asked-from.true

pub overflow_cast-place : goal.overflow_cast-place
overflow_cast-place c = omega (arith, c.type_inv.places c.args.k)

pub returns-then-place-asked : goal.returns-then-place-asked
returns-then-place-asked c =
    let a = c.args in
    skips-place a.places.now a.asked a.k a.from c.requires.1 (omega (arith, c.if-asked-from.false)) c.requires.0
    c.if-k-places.true c.if-place-asked.true

pub returns-else-place-asked : goal.returns-else-place-asked
returns-else-place-asked c =
    let a = c.args in
    skips-all a.places.now a.asked a.k a.from c.requires.1 (omega (arith, c.if-asked-from.false))
    (λ _. omega (arith, c.if-place-asked.false))

pub returns-else-k-places : goal.returns-else-k-places
returns-else-k-places c =
    let a = c.args in
    skips-all a.places.now a.asked a.k a.from c.requires.1 (omega (arith, c.if-asked-from.false))
    (λ p. absurd (omega (arith, c.if-k-places.false)))
