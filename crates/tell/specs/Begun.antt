-- The state with which a line that was refused is done again. No call open to others cites this file.
use Rattle.std.specs.Prelude.{false, ℕ, take}
use Rattle.words.specs.Sets.{no_literals}
use Rattle.state.specs.declared.State.{State}
use Rattle.state.specs.States.{Lent}
use Rattle.why.specs.Again.{Rest}

-- So many nodes, members and lines, no entries and no witness.
abbrev pub line_state : ℕ → ℕ → ℕ → State
line_state count members lines = record {
  count = count;
  kept = count;
  members = members;
  entries = 0;
  witness = no_literals;
  lines = lines;
  rounds = 0;
  peak = count;
  refuted = false;
}

-- Its rest, over the marks as the check leaves them.
abbrev pub line_rest : Lent → ℕ → ℕ → ℕ → Rest
line_rest l count members lines =
    record { struck = take members l.struck; lines = lines; rounds = 0; peak = count; refuted = false }
