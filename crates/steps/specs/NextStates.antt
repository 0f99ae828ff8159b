-- The state after a witness record, and after a line. No call open to others cites this file.
use Rattle.std.specs.Prelude.{◌||◌, ℕ, ◌+◌, eqb}
use Rattle.words.specs.declared.Literals.{Literals}
use Rattle.words.specs.Sets.{no_literals}
use Rattle.state.specs.declared.State.{State}

-- The state with another witness.
abbrev pub state_with_witness : State → Literals → State
state_with_witness st witness = record {
  count = st.count;
  kept = st.kept;
  members = st.members;
  entries = st.entries;
  witness = witness;
  lines = st.lines;
  rounds = st.rounds;
  peak = st.peak;
  refuted = st.refuted;
}

-- The state after a line of so many rounds whose root is node g, with the greatest count so far.
abbrev pub with_line : State → ℕ → ℕ → ℕ → State
with_line st rounds peak g = record {
  count = st.count;
  kept = st.count;
  members = st.members + 1;
  entries = 0;
  witness = no_literals;
  lines = st.lines + 1;
  rounds = st.rounds + rounds;
  peak = peak;
  refuted = st.refuted || eqb g 0;
}
