-- A round is `all_by` by the literals of the first member's units; what it writes is what differs from the cofactor by U. Assumes nothing.
use mathlib.Core.Path.{refl}
use native.Mathlib.Omega.{arith}
use Rattle.table.specs.Indexed.{table_of}
use Rattle.supports.proofs.Words.{support-leaf}
use Rattle.propagate.proofs.Rounds.{round-writes}
use Rattle.propagate.proofs.round.Goals as goal

pub all_by-requires : goal.all_by-requires
all_by-requires c =
    let r = c.requires in
    record { fact = (r.0, omega (arith, r.0.good.least), refl); fact_2 = (r.1, r.2, refl, support-leaf _ 1 0 (omega arith), r.4) }

pub returns : goal.returns
returns c =
    let a = c.args in
    let r = c.requires in
    let e = c.all_by.ensures in record {
      fact = e.fact_3;
      supports = e.supports;
      written_value = λ f. round-writes (table_of a.vars.now a.lows.now a.highs.now a.heads.now a.links.now a.count)
          a.list.now a.u r.3 _ (e.written_value f);
    }
