-- `call`: the definition's outcome. The idea: the run over words is `small` (`words-agree`), then each list is cleared. Assumes nothing.
use mathlib.Core.Path.{sym, ap, ◌∙◌}
use Prim.Native.Nat.{ℕ}
use lib.ListN.{replicate}
use Rattle.small.proofs.RunWays.{call-seven, call-done}
use Rattle.small.proofs.call.call.Goals as goal

pub returns-then-not-lent_fits : goal.returns-then-not-lent_fits
returns-then-not-lent_fits c = call-seven c.args.members.now c.args.struck.now
    c.args.scratch.now c.args.formula.now c.args.proof.now
    (sym c.lent_fits.ensures ∙ c.if-not-lent_fits.true)

pub run-r-requires : goal.run-r-requires
run-r-requires c = sym c.lent_fits.ensures ∙ c.if-not-lent_fits.false

pub returns : goal.returns
returns c = call-done c.args.members.now c.args.struck.now
    c.args.scratch.now c.args.formula.now c.args.proof.now
    (sym c.lent_fits.ensures ∙ c.if-not-lent_fits.false)
    c.run-r.result c.run-r.ensures c.fill.new.self
    c.fill-2.new.self c.fill-3.new.self
    (c.fill.ensures.after (λ y e. e) ∙ ap (λ (k : ℕ). replicate k 0) c.run-r.auto.members)
    (c.fill-2.ensures.after (λ y e. e) ∙ ap (λ (k : ℕ). replicate k 0) c.run-r.auto.struck)
    (c.fill-3.ensures.after (λ y e. e) ∙ ap (λ (k : ℕ). replicate k 0) c.run-r.auto.scratch)
