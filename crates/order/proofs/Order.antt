-- 02's 13/14, the order of members: one theorem a sentence. The idea: proved in the files named. Assumes nothing.
use mathlib.Core.Path.{◌≡◌}
use mathlib.Core.Bool.{Bool, true, false}
use mathlib.Core.List.{List}
use Prim.Native.Nat.{ℕ, ◌≤◌, ◌<◌}
use Rattle.meaning.specs.Diagram.{Diagram, leaf}
use Rattle.meaning.specs.Operations.{negation}
use Rattle.meaning.specs.Rules.{conflicts, has_unit, by_units, unit_prop, by_diagram, rup, pr}
use Rattle.meaning.specs.Words.{in_word}
use Rattle.meaning.proofs.Ends.{AllReduced, in_use}
use Rattle.records.specs.declared.EntryNo.{EntryNo}
use Rattle.records.specs.declared.MemberNo.{MemberNo}
use Rattle.records.specs.declared.Rule.{Rule}
use Rattle.records.specs.declared.Rule.TheVariants.{Rup}
use Rattle.records.specs.declared.Record.TheVariants.{ProofLine, Strike}
use Rattle.verdict.specs.Steps.{State, next, entry_node, diagram_in, unstruck, live_members}
use Rattle.verdict.specs.Steps.{record_step}
use Rattle.verdict.specs.Taken.{line_of}
use Rattle.verdict.specs.Cases.{GivesAll}
use Rattle.order.specs.Choices.{Among, Contained, Reordered, Propagates}
use Rattle.order.specs.Lines.{RoomFor, ComesToRule, by_rule, SameLine, Alike, with_members, beside}
use Rattle.order.specs.Examples.{x1, three, three_otherwise, order_table}
use Rattle.order.proofs.Members.{reordered-within, reordered-back}
use Rattle.order.proofs.UnitProp as UnitProp
use Rattle.order.proofs.Rules as Rules
use Rattle.order.proofs.Steps as Steps
use Rattle.order.proofs.Examples as Examples
use Rattle.verdict.specs.ClauseTaken.{GoesOn}

-- ---- the rules

-- "for RUP lines [..] whether a conflict comes is the same whichever member with units each round takes"
pub rup-any-choice : (n : ℕ) (ms : List Diagram) (g : Diagram) (rounds : ℕ) (b : Bool) →
    Propagates n (by_diagram n (negation n g) ms) rounds b → b ≡ (rup n ms g).shown
rup-any-choice = Rules.rup-any-choice

-- The rules' own choice, the member of lowest place, is one of these ways; and each way ends: a round leaves fewer variables in the
-- members.
pub rup-own-choice : (n : ℕ) (ms : List Diagram) (g : Diagram) → Propagates n (by_diagram n (negation n g) ms) (rup n ms g).rounds
    (rup n ms g).shown
rup-own-choice = Rules.rup-own-choice

pub round-fewer : (n : ℕ) (ms : List Diagram) (u : Diagram) → conflicts n ms ≡ false → AllReduced n ms → Among u ms → has_unit n n u
    ≡ true →
    in_use n (by_units n u ms) < in_use n ms
round-fewer = UnitProp.round-fewer

-- "and however members are ordered"
pub rup-any-order : (n : ℕ) (ms ms' : List Diagram) (g : Diagram) → Reordered ms ms' → (rup n ms g).shown ≡ (rup n ms' g).shown
rup-any-order n ms ms' g r = Rules.rup-same n ms ms' g (reordered-within r) (reordered-within (reordered-back r))

-- "and that adding live members never turns an accepted line into a refused one"
pub rup-more : (n : ℕ) (ms ms' : List Diagram) (g : Diagram) → Contained ms ms' → (rup n ms g).shown ≡ true → (rup n ms' g).shown ≡ true
rup-more = Rules.rup-more

-- "for PR lines only the reordering is promised": it is so, and no more can be.
pub pr-any-order : (n : ℕ) (P N : ℕ → Bool) (ms ms' : List Diagram) (g : Diagram) → Reordered ms ms' → (pr n P N ms g).shown
    ≡ (pr n P N ms' g).shown
pr-any-order n P N ms ms' g r = Rules.pr-same n P N ms ms' g (reordered-within r) (reordered-within (reordered-back r))

pub pr-not-kept : ((ms ms' : List Diagram) → Contained ms ms' → (pr 1 (in_word 1) (in_word 0) ms x1).shown ≡ true →
    (pr 1 (in_word 1) (in_word 0) ms' x1).shown ≡ true) → ⊥
pr-not-kept = Examples.pr-not-kept

-- "Rounds still follow the lowest place and may differ": with the order, and with the choice.
pub lowest-first : ((rup 3 three (leaf false)).shown ≡ true) × ((rup 3 three (leaf false)).rounds ≡ 2)
lowest-first = Examples.lowest-first

pub other-order : ((rup 3 three_otherwise (leaf false)).shown ≡ true) × ((rup 3 three_otherwise (leaf false)).rounds ≡ 1)
other-order = Examples.other-order

pub other-choice : ((unit_prop 3 three).rounds ≡ 2) × Propagates 3 three 1 true
other-choice = Examples.other-choice

-- ---- the check's step

-- "with enough room whether a conflict comes is the same whichever member with units each round takes": a RUP line that comes to its rule
-- is accepted where a conflict comes, and refused with 19 where none comes.
pub step-any-choice : (n s : ℕ) (st : State) (more : Bool) (root : EntryNo) → ComesToRule n st Rup root.0 →
    RoomFor n s st Rup root.0 → (rounds : ℕ) (b : Bool)
    → Propagates n (by_diagram n (negation n (diagram_in st (entry_node st root.0))) (live_members st)) rounds b
    → record_step n s st more (ProofLine Rup root) ≡ by_rule s st (entry_node st root.0) (line_of n st Rup (entry_node st root.0)) b
step-any-choice = Steps.step-any-choice

-- "however members are ordered": with their marks. RUP and PR lines are accepted in one order as in the other, or refused with the same
-- number.
pub step-any-order : (n s : ℕ) (st : State) (members marks : List ℕ) (more : Bool) (rule : Rule) (root : EntryNo)
    → Reordered (beside st.struck st.members) (beside marks members) → RoomFor n s st rule root.0 →
    RoomFor n s (with_members st members marks) rule root.0
    → Alike (record_step n s st more (ProofLine rule root)) (record_step n s (with_members st members marks) more (ProofLine rule root))
step-any-order = Steps.step-any-order

-- "adding live members never turns an accepted line into a refused one"
pub step-more : (n s : ℕ) (st : State) (members marks : List ℕ) (more : Bool) (root : EntryNo) →
    Contained (unstruck st.struck st.members) (unstruck marks members)
    → RoomFor n s (with_members st members marks) Rup root.0 → GoesOn (record_step n s st more (ProofLine Rup root))
    → GoesOn (record_step n s (with_members st members marks) more (ProofLine Rup root))
step-more = Steps.step-more

-- So a RUP line that is accepted after a striking is accepted without it.
pub step-unstruck : (n s : ℕ) (st st₁ : State) (more more' : Bool) (k : MemberNo) (root : EntryNo) → record_step n s st more (Strike k)
    ≡ next st₁ → RoomFor n s st Rup root.0
    → GoesOn (record_step n s st₁ more' (ProofLine Rup root)) → GoesOn (record_step n s st more' (ProofLine Rup root))
step-unstruck = Steps.step-unstruck

-- The same of two checks with tables of their own, so that clauses may come in another order, or be more.
pub lines-alike : (n s s' : ℕ) (st st' : State) (more more' : Bool) (root root' : EntryNo) → SameLine st root.0 st' root'.0 →
    (rule : Rule)
    → Contained (live_members st) (live_members st') → Contained (live_members st') (live_members st)
    → ComesToRule n st rule root.0 → ComesToRule n st' rule root'.0 → RoomFor n s st rule root.0 → RoomFor n s' st' rule root'.0
    → Alike (record_step n s st more (ProofLine rule root)) (record_step n s' st' more' (ProofLine rule root'))
lines-alike = Steps.lines-alike

pub lines_more : (n s s' : ℕ) (st st' : State) (more more' : Bool) (root root' : EntryNo) → SameLine st root.0 st' root'.0
    → Contained (live_members st) (live_members st') → ComesToRule n st' Rup root'.0 → RoomFor n s' st' Rup root'.0
    → GoesOn (record_step n s st more (ProofLine Rup root)) → GoesOn (record_step n s' st' more' (ProofLine Rup root'))
lines_more = Steps.lines_more

-- "with enough room": for every line there is a size of the table from which on it has room.
pub enough-room : (n : ℕ) (st : State) (rule : Rule) (root : ℕ) → (least : ℕ) × ((s : ℕ) → least ≤ s → RoomFor n s st rule root)
enough-room = Steps.enough-room

-- Formulas and proofs by computation: 2 rounds and 1 with two clauses exchanged; 23 and 0 with them exchanged, without room enough; a PR
-- line accepted, and refused with a clause more.
pub examples : GivesAll order_table
examples = Examples.rows
