-- `with_line`: the counts less the constants. Assumes nothing.
use mathlib.Core.Path.{ap₂}
use Prim.Native.Nat.{ℕ, ◌+◌}
use Rattle.state.specs.declared.State.{State}
use Rattle.shares.specs.declared.Book.{Book}
use Rattle.shares.specs.declared.Stage.TheVariants.{Lines}
use Rattle.book_line.proofs.back.with_line.Goals as goal

pub returns : goal.returns
returns c =
    let a = c.args in
    ap₂ (made a.b a.st) c.less_constants.ensures c.less_constants-2.ensures
  where
    made : Book → State → ℕ → ℕ → Book
    made b st j k = record {
      share = b.share;
      stage = Lines;
      variables = b.variables;
      clauses = b.clauses;
      lines = st.lines;
      rounds = b.rounds + st.rounds;
      charge = j;
      peak = k;
      refuted = st.refuted;
    }
