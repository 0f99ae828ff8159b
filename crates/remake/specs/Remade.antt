-- What a record done again leaves. No call open to others cites this file.
use Rattle.std.specs.Prelude.{◌≡◌, Bool, true, false, List, ℕ}
use Rattle.records.specs.declared.Record.{Record}
use Rattle.records.specs.declared.Record.TheVariants.{NodeEntry, Witness, ProofLine, Strike, SetEntry, End}
use Rattle.records.specs.declared.Record.TheVariants.{CutShort, UnknownKind, NoRecord}
use Rattle.verdict.specs.Steps as check
use Rattle.state.specs.declared.State.{State}
use Rattle.state.specs.States.{Lent, state_of, Held}
use Rattle.why.specs.Again.{Redo, Retaken}

abbrev pub is_strike : Record → Bool
is_strike (NodeEntry b) = false
is_strike (Witness v b) = false
is_strike (ProofLine rule root) = false
is_strike (Strike k) = true
is_strike (SetEntry kind b) = false
is_strike End = false
is_strike CutShort = false
is_strike UnknownKind = false
is_strike NoRecord = false

-- Where the record is taken, the state is the one that it leads to, and it is held.
abbrev pub Remade : ℕ → ℕ → Lent → Lent → State → Record → State → Type 0
Remade n s l l' st r q = (x : check.State) → Redo n s (state_of l st) r x → (state_of l' q ≡ x) × Held n l' q

-- The records from a place up to another can be done again.
pub record Remakes (n s : ℕ) (proof : List ℕ) (st : check.State) (at to : ℕ) : Type 0 where
  pub last : check.State
  pub taken : Retaken n s proof st at last to
