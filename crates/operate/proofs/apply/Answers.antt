-- `apply` is `apply_sharing` with the word of all variables. Assumes nothing.
use Rattle.table.specs.Indexed.{table_of}
use Rattle.operate.proofs.Sharing.{all-shared}
use Rattle.operate.proofs.apply.Goals as goal

pub apply_sharing-requires : goal.apply_sharing-requires
apply_sharing-requires c =
    let a = c.args in
    let r = c.requires in
    let o = r.operands in (
      r,
      all-shared (table_of a.vars.now a.lows.now a.highs.now a.heads.now a.links.now a.count) o.good a.f.0
          a.g.0 o.f-inside o.g_inside a.op,
    )

pub returns : goal.returns
returns c = c.apply_sharing.ensures
