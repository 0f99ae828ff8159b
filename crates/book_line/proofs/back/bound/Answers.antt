-- `bound`: the count less the constants. Assumes nothing.
use mathlib.Core.Path.{ap}
use Prim.Native.Nat.{ℕ}
use Rattle.shares.specs.declared.Book.{Book}
use Rattle.shares.specs.declared.Stage.TheVariants.{Bound}
use Rattle.book_line.proofs.back.bound.Goals as goal

pub returns : goal.returns
returns c =
    let a = c.args in
    ap (λ (k : ℕ). made a.b a.number a.place k) c.less_constants.ensures
  where
    made : Book → ℕ → ℕ → ℕ → Book
    made b number place k = record {
      share = b.share;
      stage = Bound number place;
      variables = b.variables;
      clauses = b.clauses;
      lines = b.lines;
      rounds = b.rounds;
      charge = b.charge;
      peak = k;
      refuted = b.refuted;
    }
