-- `negation_thin` takes the path down from f and looks the negations up along it. Assumes nothing.
use mathlib.Core.Path.{refl}
use Rattle.table.specs.Indexed.{table_of}
use Rattle.walks.proofs.Here.{good-readable}
use Rattle.negate.proofs.negation_thin.Goals as goal

pub thin_path-p-requires : goal.thin_path-p-requires
thin_path-p-requires c = (
  good-readable (table_of c.args.vars.now c.args.lows.now c.args.highs.now c.args.heads.now c.args.links.now c.args.count) c.requires.0,
  c.requires.1,
  refl,
)
