-- The state before a refused record, made anew from what the check leaves: its nodes, members and marks. The entries and the witness of the
-- line are read once more from where the line starts. No call open to others cites this file.
use Rattle.std.specs.Prelude.{◌≡◌, Bool, true, false, cond, List, [], ℕ, zero, suc, ◌+◌, take, ltb}
use Rattle.records.specs.declared.Record.{Record}
use Rattle.records.specs.declared.Record.TheVariants.{NodeEntry, Witness, ProofLine, Strike, SetEntry, End}
use Rattle.records.specs.declared.Record.TheVariants.{CutShort, UnknownKind, NoRecord}
use Rattle.records.specs.Records.{record_at, length_of, number_of}
use Rattle.verdict.specs.Steps.{State, Step, next, stop, spent, node_step, witness_step, set_step}
use Rattle.verdict.specs.Taken.{NodeTaken, WitnessTaken, SetTaken}

-- Records of right form one after another, from a place to another.
pub data Walk (proof : List ℕ) : ℕ → ℕ → Type 0 where
  here : {at : ℕ} → Walk proof at at
  past : {at to : ℕ} → number_of (record_at proof at) ≡ 0 → Walk proof (at + length_of (record_at proof at)) to → Walk proof at to

-- What records of entries and of the witness do not look at: marks, lines, rounds, peak, and whether a line was 0.
pub record Rest : Type 0 where
  pub struck : List ℕ
  pub lines : ℕ
  pub rounds : ℕ
  pub peak : ℕ
  pub refuted : Bool

-- The state with another rest.
abbrev pub on_line : Rest → State → State
on_line o st = record {
  nodes = st.nodes;
  kept = st.kept;
  members = st.members;
  struck = o.struck;
  entries = st.entries;
  positive = st.positive;
  negative = st.negative;
  lines = o.lines;
  rounds = o.rounds;
  peak = o.peak;
  refuted = o.refuted;
}

-- The state as its line began, with the rest as it is: the nodes that stay if the line is not accepted, no entries, no witness.
abbrev pub as_begun : State → State
as_begun st = record {
  nodes = take st.kept st.nodes;
  kept = st.kept;
  members = st.members;
  struck = st.struck;
  entries = [];
  positive = 0;
  negative = 0;
  lines = st.lines;
  rounds = st.rounds;
  peak = st.peak;
  refuted = st.refuted;
}

-- Whether the record is a line.
abbrev pub is_line : Record → Bool
is_line (NodeEntry b) = false
is_line (Witness v b) = false
is_line (ProofLine rule root) = true
is_line (Strike k) = false
is_line (SetEntry kind b) = false
is_line End = false
is_line CutShort = false
is_line UnknownKind = false
is_line NoRecord = false

-- Where the line of the record at `to` starts: behind the last line before it. The records from `at` on are looked at, at most k of them;
-- `start` is where the line of the one at `at` starts.
unfoldable pub line_start : ℕ → List ℕ → ℕ → ℕ → ℕ → ℕ
unfolding record_at
line_start zero proof start at to = start
line_start (suc k) proof start at to =
    let r = record_at proof at in
    let later = line_start k proof (cond (is_line r) (at + length_of r) start) (at + length_of r) to in
    cond (ltb at to) later start

-- The state after a step that goes on; else it stays.
abbrev pub reached : Step → State → State
reached (next st') st = st'
reached (stop number offset) st = st
reached (spent number peak) st = st

-- A record of the line done again: one that makes an entry or names a variable of the witness. Strikings are done already.
unfoldable pub again_step : ℕ → ℕ → State → Record → State
unfolding node_step witness_step set_step
again_step n s st (NodeEntry b) = reached (node_step n s st b) st
again_step n s st (Witness v b) = reached (witness_step n st v b) st
again_step n s st (SetEntry kind b) = reached (set_step n s st kind b) st
again_step n s st (ProofLine rule root) = st
again_step n s st (Strike k) = st
again_step n s st End = st
again_step n s st CutShort = st
again_step n s st UnknownKind = st
again_step n s st NoRecord = st

-- The records from `at` up to `to`, at most k of them.
unfoldable pub again : ℕ → ℕ → ℕ → List ℕ → State → ℕ → ℕ → State
unfolding again_step record_at
again zero n s proof st at to = st
again (suc k) n s proof st at to =
    let r = record_at proof at in
    let later = again k n s proof (again_step n s st r) (at + length_of r) to in
    cond (ltb at to) later st

-- A record of the line that is done again with the state that it leads to: it is taken; a striking stays.
abbrev pub Redo : ℕ → ℕ → State → Record → State → Type 0
Redo n s st (NodeEntry b) st' = NodeTaken n s st b st'
Redo n s st (Witness v b) st' = WitnessTaken n st v b st'
Redo n s st (SetEntry kind b) st' = SetTaken n s st kind b st'
Redo n s st (Strike k) st' = st ≡ st'
Redo n s st (ProofLine rule root) st' = ⊥
Redo n s st End st' = ⊥
Redo n s st CutShort st' = ⊥
Redo n s st UnknownKind st' = ⊥
Redo n s st NoRecord st' = ⊥

-- Records done again one after another, from a state and a place to others.
pub data Retaken (n s : ℕ) (proof : List ℕ) : State → ℕ → State → ℕ → Type 0 where
  done : {st : State} {at : ℕ} → Retaken n s proof st at st at
  then : {st st₁ st₂ : State} {at to : ℕ} → number_of (record_at proof at) ≡ 0 → Redo n s st (record_at proof at) st₁
      → Retaken n s proof st₁ (at + length_of (record_at proof at)) st₂ to → Retaken n s proof st at st₂ to
