-- `copy_number`: a number of the shared table is copied, any other stands for 0. Assumes nothing.
use mathlib.Core.Path.{sym, ap, ◌∙◌}
use native.Mathlib.Omega.{arith}
use Rattle.table.specs.Indexed.{table_of}
use Rattle.alone.specs.Copies.{placed_in}
use Rattle.alone.proofs.Adopting.{in_table, none_done}
use Rattle.alone.proofs.copy_number.Goals as goal

pub returns-then-k-count : goal.returns-then-k-count
returns-then-k-count c =
    record {
      result_after = c.copy.ensures.result_after ∙ ap (placed_in (table_of c.args.ownvars.now c.args.ownlows.now c.args.ownhighs.now
          c.args.ownheads.now c.args.ownlinks.now c.args.owncount))
          (sym (in_table _ _ _ _ c.requires.readable _ c.if-k-count.true));
      fact = c.copy.ensures.fact;
    }

pub returns : goal.returns
returns c =
    record {
      result_after = none_done _ _ _ _ c.requires.readable _ c.requires.good _ (λ p. absurd (omega (arith, p, c.if-k-count.false)));
      fact = c.requires.right;
    }
