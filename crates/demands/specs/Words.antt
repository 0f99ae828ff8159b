-- Sentences of 01 that its definitions compute in another form, in their own form. No call open to others cites this file.
use Rattle.std.specs.Prelude.{◌≡◌, ◌≢◌, List, false, ℕ, ◌<◌, length, get_or}
use Rattle.meaning.specs.Diagram.{Diagram, leaf}
use Rattle.meaning.specs.Operations.{negation}
use Rattle.verdict.specs.Steps.{State, diagram_in}

-- The member at a place.
abbrev pub member_at : List Diagram → ℕ → Diagram
member_at ms i = get_or ms i (leaf false)

-- One of the members is the diagram.
abbrev pub Among : List Diagram → Diagram → Type 0
Among ms D = (i : ℕ) × (i < length ms) × (member_at ms i ≡ D)

-- One of the state's members whose mark is 0 is the diagram. (02, 3/14)
abbrev pub AmongLive : State → Diagram → Type 0
AmongLive st D = (k : ℕ) × (k < length st.members) × (get_or st.struck k 0 ≡ 0) × (diagram_in st (get_or st.members k 0) ≡ D)

-- "(a) a member is 0 or the negation of another" (01, The rules)
pub data Conflict (n : ℕ) (ms : List Diagram) : Type 0 where
  is_zero : (i : ℕ) → i < length ms → member_at ms i ≡ leaf false → Conflict n ms
  negated : (i j : ℕ) → i < length ms → j < length ms → i ≢ j → member_at ms i ≡ negation n (member_at ms j) → Conflict n ms
