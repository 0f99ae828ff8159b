-- What the inner functions say of a call's records. No call open to others cites this file.
use Rattle.std.specs.Prelude.{◌≡◌, Bool, false, ◌&&◌, ℕ, ◌≤◌, get_or, take, ltb}
use Rattle.records.specs.declared.Record.{Record}
use Rattle.records.specs.declared.Record.TheVariants.{NodeEntry, Witness, ProofLine, Strike, SetEntry, End}
use Rattle.records.specs.declared.Record.TheVariants.{CutShort, UnknownKind, NoRecord}
use Rattle.verdict.specs.Steps.{beyond}
use Rattle.state.specs.States.{Lent, state_of, Held}
use Rattle.shares.specs.Alone as alone
use Rattle.book_parts.specs.declared.line.Ending.{Ending}
use Rattle.book_parts.specs.declared.line.Ending.TheVariants.{Ended, Taken}

-- The same as `beyond_header`, by the number of entries.
abbrev pub beyond_by : ℕ → ℕ → Record → Bool
beyond_by n entries (NodeEntry b) = ltb entries 4096 && ltb n b.variable
beyond_by n entries (Witness v b) = ltb n v
beyond_by n entries (ProofLine rule root) = false
beyond_by n entries (Strike k) = false
beyond_by n entries (SetEntry kind b) = ltb entries 4096 && beyond n b.set
beyond_by n entries End = false
beyond_by n entries CutShort = false
beyond_by n entries UnknownKind = false
beyond_by n entries NoRecord = false

-- How a call of a book with m members ends, with the lists as they are left.
abbrev pub ending_of : Lent → ℕ → Ending → alone.Ending
ending_of l m (Ended number place peak) = alone.ended number place peak (take m l.struck)
ending_of l m (Taken st) = alone.taken (state_of l st)

-- What is left then: the next state is held; or the marks alone have changed, and are zero behind the members.
abbrev pub EndsHeld : Lent → ℕ → Ending → Type 0
EndsHeld l m (Ended number place peak) = (i : ℕ) → m ≤ i → ◌≡◌ {A = ℕ} (get_or l.struck i 0) 0
EndsHeld l m (Taken st) = Held 64 l st
