-- `past_class` ends where the run of the class ends. The loop: what is left of the run is the run. Assumes nothing.
use mathlib.Core.Path.{◌≡◌, sym, ◌∙◌}
use native.Mathlib.Omega.{arith}
use lib.ListN.{length}
use Rattle.dimacs.proofs.Runs.{past_end, past_stop, past-go}
use Rattle.dimacs.proofs.text.past_class.Goals as goal

pub returns-then-not-admits : goal.returns-then-not-admits
returns-then-not-admits c = record {
  value = sym (c.loop-i.invariant ∙ past_stop _ _ _ c.loop-i-test.true (sym c.if-not-admits.ensures));
  lower_bound = (omega arith, omega arith);
}

pub loop-i-preserved : goal.loop-i-preserved
loop-i-preserved c = c.loop-i.invariant ∙ past-go _ _ _ c.loop-i-test.true (sym c.if-not-admits.ensures)

pub returns : goal.returns
returns c =
    let last : c.loop-i.i ≡ length c.args.s.now = omega arith in
    record { value = sym (c.loop-i.invariant ∙ past_end _ _ _ c.loop-i-test.false ∙ last); lower_bound = (omega arith, omega arith) }
