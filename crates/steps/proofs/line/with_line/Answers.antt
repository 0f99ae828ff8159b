-- `with_line` counts the line and its rounds. Assumes nothing.
use mathlib.Core.Path.{ap}
use mathlib.Core.Bool.{Bool}
use Prim.Native.Nat.{◌+◌}
use Rattle.words.specs.Sets.{no_literals}
use Rattle.steps.proofs.line.with_line.Goals as goal

pub returns : goal.returns
returns c =
    let s = c.args in
    ap (λ (b : Bool). record {
      count = s.st.count;
      kept = s.st.count;
      members = s.st.members + 1;
      entries = 0;
      witness = no_literals;
      lines = s.st.lines + 1;
      rounds = s.st.rounds + s.rounds;
      peak = s.peak;
      refuted = b;
    }) c.refutes-refuted.ensures
