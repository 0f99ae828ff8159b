-- `last_group` ends where the run of open groups ends. The loop: what is left of the run is the run. Assumes nothing.
use mathlib.Core.Path.{◌≡◌, sym, ◌∙◌}
use native.Mathlib.Omega.{arith}
use lib.ListN.{length}
use borrow.Author.Tests.{le-leb, lt-leb}
use Rattle.dimacs.proofs.Runs.{past_end, past_stop, past-go}
use Rattle.commands.proofs.binary.last_group.Goals as goal

pub returns-then-s-i-lt128 : goal.returns-then-s-i-lt128
returns-then-s-i-lt128 c = record {
  value = sym
      (c.loop-i.invariant ∙ past_stop _ _ _ c.loop-i-test.true (lt-leb _ _ c.if-s-i-lt128.true));
  lower_bound = (omega arith, omega arith);
}

pub loop-i-preserved : goal.loop-i-preserved
loop-i-preserved c = c.loop-i.invariant ∙ past-go _ _ _ c.loop-i-test.true (le-leb _ _ c.if-s-i-lt128.false)

pub returns : goal.returns
returns c =
    let last : c.loop-i.i ≡ length c.args.s.now = omega arith in
    record { value = sym (c.loop-i.invariant ∙ past_end _ _ _ c.loop-i-test.false ∙ last); lower_bound = (omega arith, omega arith) }
