-- `first_state`: the greater count. Assumes nothing.
use mathlib.Core.Path.{ap}
use Prim.Native.Nat.{ℕ, ◌+◌}
use Rattle.words.specs.Sets.{no_literals}
use Rattle.state.specs.declared.State.{State}
use Rattle.shares.specs.declared.Book.{Book}
use Rattle.book_line.proofs.back.first_state.Goals as goal

pub returns : goal.returns
returns c =
    let a = c.args in
    ap (made a.b a.count) c.greater.ensures
  where
    made : Book → ℕ → ℕ → State
    made b count k = record {
      count = count;
      kept = count;
      members = b.clauses + b.lines;
      entries = 0;
      witness = no_literals;
      lines = b.lines;
      rounds = 0;
      peak = k;
      refuted = b.refuted;
    }
