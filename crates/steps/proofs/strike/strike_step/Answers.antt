-- `strike_step`: the ways out are laws of Strikings. Assumes nothing.
use native.Mathlib.Omega.{arith}
use Rattle.state.specs.States.{lent_of}
use Rattle.entries.proofs.Entries.{waits-is}
use Rattle.steps.proofs.Strikings.{live-beyond, live-struck, live-there, strike-16, strike-28, strike-next}
use Rattle.steps.proofs.strike.strike_step.Goals as goal

pub returns-then-waits : goal.returns-then-waits
returns-then-waits c = λ n vs ls hs ds ks ms cs H.
    let l = lent_of vs ls hs ds ks ms cs c.args.struck.now in
    strike-16 n l c.args.st c.args.k.0 (waits-is l c.args.st _ _ c.waits.ensures c.if-waits.true)

pub returns-then-st-i : goal.returns-then-st-i
returns-then-st-i c = λ n vs ls hs ds ks ms cs H.
    let l = lent_of vs ls hs ds ks ms cs c.args.struck.now in
    strike-28 n l c.args.st c.args.k.0
    (waits-is l c.args.st _ _ c.waits.ensures c.if-waits.false)
    (live-beyond l c.args.st c.requires (omega (arith, c.requires, H.marked)) c.args.k.0 c.if-st-i.true)

pub returns-then-struck-i-ne0 : goal.returns-then-struck-i-ne0
returns-then-struck-i-ne0 c = λ n vs ls hs ds ks ms cs H.
    let l = lent_of vs ls hs ds ks ms cs c.args.struck.now in
    strike-28 n l c.args.st c.args.k.0
    (waits-is l c.args.st _ _ c.waits.ensures c.if-waits.false)
    (live-struck l c.args.st c.requires (omega (arith, c.requires, H.marked)) c.args.k.0 c.if-st-i.false c.if-struck-i-ne0.true)

pub returns : goal.returns
returns c = λ n vs ls hs ds ks ms cs H.
    let l = lent_of vs ls hs ds ks ms cs c.args.struck.now in
    strike-next n l c.args.st c.args.k.0
    (waits-is l c.args.st _ _ c.waits.ensures c.if-waits.false)
    (live-there l c.args.st c.requires (omega (arith, c.requires, H.marked)) c.args.k.0 c.if-st-i.false c.if-struck-i-ne0.false)
    c.if-st-i.false H
