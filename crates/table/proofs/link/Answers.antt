-- `link` puts a place to the front of its chain. Assumes nothing.
use Rattle.std.proofs.Common.{ℕ, get_or, set, ap}
use Rattle.table.specs.Indexed.{index_made}
use Rattle.table.proofs.link.Goals as goal

pub returns : goal.returns
returns c =
    ap (λ (b : ℕ). index_made (set c.args.heads.now b c.args.k)
    (set c.args.links.now c.args.k (get_or c.args.heads.now b 0)))
    c.bucket_of-b.ensures.value
