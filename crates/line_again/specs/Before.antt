-- The state before a refused command but for what tells no cause. No call open to others cites this file.
use Rattle.std.specs.Prelude.{◌≡◌, Bool, ◌||◌, ℕ, eqb}
use Rattle.verdict.specs.Steps as check

-- The state with other rounds, another peak, and another answer to whether a line was 0.
abbrev pub with_counts : check.State → ℕ → ℕ → Bool → check.State
with_counts st rounds peak refuted = record {
  nodes = st.nodes;
  kept = st.kept;
  members = st.members;
  struck = st.struck;
  entries = st.entries;
  positive = st.positive;
  negative = st.negative;
  lines = st.lines;
  rounds = rounds;
  peak = peak;
  refuted = refuted;
}

-- The state st but for those three, which tell no cause.
abbrev pub SameBut : check.State → check.State → Type 0
SameBut st x = x ≡ with_counts st x.rounds x.peak x.refuted

-- The numbers whose cause is told.
abbrev pub has_cause : ℕ → Bool
has_cause number = eqb number 14 || (eqb number 18 || eqb number 19)
