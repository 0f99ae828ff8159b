-- Demand 1, what is said and left for every input, refused or not: one theorem a sentence. The contracts of `checker`, `nodes` and `export`
-- say that their calls give and leave `check`, `operation` and `evaluation`; the theorems say of these what 01 says. The idea: proved in
-- the files named. Assumes nothing.
use mathlib.Core.Path.{◌≡◌, ap}
use mathlib.Core.Logic.{◌≢◌, ◌⊎◌, ◌↔◌}
use mathlib.Core.Bool.{true, Bool}
use mathlib.Core.List.{List}
use Prim.Native.Nat.{ℕ, ◌≤◌}
use native.Mathlib.Omega.{arith}
use lib.ListN.{get_or}
use Rattle.table.specs.Columns.{Columns}
use Rattle.operate.specs.declared.Operation.{Operation}
use Rattle.single.specs.Single.{operation, Made, unchanged}
use Rattle.commands.specs.declared.Form.TheVariants.{Records, Text, Binary}
use Rattle.commands.specs.declared.Mode.{Mode}
use Rattle.commands.specs.Commands.{in_form, is_drat}
use Rattle.convert.specs.Convert.{to_binary, to_text}
use Rattle.convert.proofs.Canonical.{Bytes}
use Rattle.convert.proofs.ThereAndBack.{result_of}
use Rattle.verdict.specs.Steps.{State}
use Rattle.verdict.specs.Check.{CheckOutcome, check}
use Rattle.verdict.specs.Taken.{Meant}
use Rattle.verdict.specs.Run.{Reached, ProofNumber}
use Rattle.verdict.specs.Marks.{strikings_before, mark_of}
use Rattle.verdict.proofs.Numbers.{proof-number}
use Rattle.demands.specs.Calls.{OperationSays, answered, refused}
use Rattle.demands.specs.Texts.{clauses_before, Matches}
use Rattle.demands.specs.Stays.{placeless_outcome}
use Rattle.demands.specs.Leaving as leaving
use Rattle.demands.specs.Leaving.{Handed, checked, Fits, seven, Ends, Leaves, emptied, kept, AtEnd, FormulaMade, AtFault}
use Rattle.demands.proofs.Singles as Singles
use Rattle.demands.proofs.Ending as Ending
use Rattle.demands.proofs.Lists as Lists
use Rattle.demands.proofs.Places as Places
use Rattle.demands.proofs.InProof as InProof
use Rattle.demands.proofs.TextMembers as TextMembers
use Rattle.demands.proofs.Stays as Stays

-- The check ends in exactly one of the ways that 01 and 02 name, at the first place that is refused or at the proof's end, and number,
-- place, counts and every lent place are what that way gives.
pub check-exactly : (i : Handed) (o : CheckOutcome) → (checked i ≡ o) ↔ Ends i o
check-exactly = Ending.check-exactly

-- "Place: [..] 9 to 23 [..] the record's first byte (10 with no record begun: the length; 11: the byte after the end record)", and that of
-- 0, 28 and 29; in a text the first byte of the clause or its `d`, the token for 3 and 4, the length for 0 and 20: where the place is in
-- the proof, the run ends at a command there, all commands before it taken. (02, 4/14)
pub check-place : (i : Handed) → (checked i).in_proof ≡ true → AtEnd i (checked i)
check-place = Places.check-place

-- Which text the place is in: the proof's exactly where the formula is read and its clauses made.
pub in-proof-exactly : (i : Handed) → Fits i → ((checked i).in_proof ≡ true) ↔ FormulaMade i
in-proof-exactly = InProof.in-proof-exactly

-- In records the number tells it.
pub in-records-exactly : (i : Handed) → i.mode.form ≡ Records → ((checked i).in_proof ≡ true) ↔
    (((checked i).number ≡ 0) ⊎ (9 ≤ (checked i).number))
in-records-exactly = InProof.in-records-exactly

-- "3, 4 (the token), 6" of a text, 4, 6, 9 and 31 of a binary proof are its reader's, at the place. (02, 4/14 and 9/14)
pub fault-only : (i : Handed) → is_drat i.mode.form ≡ true → (checked i).in_proof ≡ true → (checked i).number ≢ 0 →
    ((checked i).number ≢ 31 → (checked i).number ≤ 9)
    → AtFault i (checked i)
fault-only = InProof.fault-only

-- "Number 7 changes nothing. A refused formula leaves table and lists all zero, count 2. A refused proof leaves the clauses and accepted
-- lines with their nodes [..], zeros above. Number 0 leaves the same [..]. Scratch ends as zeros."
pub check-leaves : (i : Handed) → Leaves i (checked i)
check-leaves = Lists.check-leaves

-- "Each member gains a mark in the list, 1 once struck, else 0, which stays, after a refused proof too": in records the mark of member k is
-- 1 exactly where a striking before the place where the run ends has the number k. (02, 3/14)
pub marks-left : (i : Handed) → Fits i → (checked i).in_proof ≡ true → i.mode.form ≡ Records → (k : ℕ)
    → get_or (checked i).struck k 0 ≡ mark_of (strikings_before i.proof (checked i).place) k
marks-left i fits late = (Lists.check-kept i fits late).marks

-- "A `d` line strikes the live member of lowest place that is the same diagram": in DRAT the marks are those of formula and proof up to the
-- place, each `d` clause marking the live clause of lowest place with its diagram. (02, 4/14)
pub drat-marks : (i : Handed) → Fits i → (checked i).in_proof ≡ true → is_drat i.mode.form ≡ true → (k : ℕ)
    → get_or (checked i).struck k 0 ≡ get_or (clauses_before i.mode i.text i.proof (checked i).place).marks k 0
drat-marks i fits late = (Lists.check-kept i fits late).drat-marks

-- The same in every state that the check of a DRAT proof reaches: its members are the clauses of formula and proof up to here, and the
-- marks are theirs.
pub drat-matches : (mode : Mode) → is_drat mode.form ≡ true → (s : ℕ) (text proof : List ℕ) {n : ℕ} {st : State} {at : ℕ} {m : Meant} →
    Reached mode s text proof n st at m
    → Matches n st (clauses_before mode text proof at)
drat-matches = TextMembers.drat-matches

-- "7: a lent part of wrong size": given exactly where one is, and nothing is changed.
pub seven-exactly : (i : Handed) → ((checked i).number ≡ 7) ↔ (Fits i → ⊥)
seven-exactly i = (
  (λ z fits. not-seven (check-leaves i) fits z),
  (λ other. ap (λ (o : CheckOutcome). o.number) (Ending.checked-seven i other)),
)
  where
    not-seven : Leaves i (checked i) → Fits i → (checked i).number ≡ 7 → ⊥
    not-seven (leaving.unchanged other is) fits z = other fits
    not-seven (emptied _ E) fits z = E.number.2 z
    not-seven (kept _ K) fits z = (proof-number i.mode.form (checked i).number K.number).1 z

pub seven-changes-nothing : (i : Handed) → (Fits i → ⊥) → checked i ≡ seven i
seven-changes-nothing = Ending.checked-seven

-- "The whole check [..] never gives 26 or 27", nor the program's 24 and 25: 23 at most, or 28, 29, 31, 33 or 34. (02, 3/14, 5/14, 9/14,
-- 11/14 and 12/14)
pub check-number : (i : Handed) → (checked i).number ≢ 28 → (checked i).number ≢ 29 → (checked i).number ≢ 31 → (checked i).number ≢ 33 →
    (checked i).number ≢ 34
    → (checked i).number ≤ 23
check-number i = go (checked i) (check-leaves i)
  where
    go : (o : CheckOutcome) → Leaves i o → o.number ≢ 28 → o.number ≢ 29 → o.number ≢ 31 → o.number ≢ 33 → o.number ≢ 34 →
        o.number ≤ 23
    go o (leaving.unchanged other is) _ _ _ _ _ = let z : o.number ≡ 7 = ap (λ (x : CheckOutcome). x.number) is in omega arith
    go o (emptied _ E) _ _ _ _ _ = omega (arith, E.number.1)
    go o (kept _ K) a b c d e = (proof-number i.mode.form o.number K.number).0 a b c d e

-- The numbers of a text: 0, 3, 4, 6, 17, 19, 20, 22, 23 and 28. So no clause gets 15 or 18: its witness names no variable twice and makes
-- it 1. (02, 4/14)
pub text-number : (i : Handed) → i.mode.form ≡ Text → (checked i).in_proof ≡ true → ProofNumber Text (checked i).number
text-number = InProof.text-number

-- The numbers of a binary proof: 0, 4, 6, 9, 17, 19, 20, 22, 23, 28 and 31. (02, 9/14)
pub binary-number : (i : Handed) → i.mode.form ≡ Binary → (checked i).in_proof ≡ true → ProofNumber Binary (checked i).number
binary-number = InProof.binary-number

-- "verdict, lines and rounds stay, the place not": a text that is converted, and what it is converted to, get the same of the call and of
-- every lent place, but for the place, in the consequence profile and outside. (02, 9/14)
pub check-to-binary : (profile : Bool) (c : Columns) (count : ℕ) (members struck scratch formula : List ℕ) (room : ℕ) (text : List ℕ) →
    (to_binary room text).number ≡ 0
    → placeless_outcome (check (in_form Text profile) c count members struck scratch formula text)
    ≡ placeless_outcome (check (in_form Binary profile) c count members struck scratch formula (result_of (to_binary room text)))
check-to-binary = Stays.check-to-binary

-- The same of a binary proof.
pub check-to-text : (profile : Bool) (c : Columns) (count : ℕ) (members struck scratch formula : List ℕ) (room : ℕ) (binary : List ℕ) →
    Bytes binary → (to_text room binary).number ≡ 0
    → placeless_outcome (check (in_form Binary profile) c count members struck scratch formula binary)
    ≡ placeless_outcome (check (in_form Text profile) c count members struck scratch formula (result_of (to_text room binary)))
check-to-text = Stays.check-to-text

-- "A refused single call changes nothing"; "with a refusal the node is 0".
pub refused-changes-nothing : (op : Operation) (c : Columns) (count f g : ℕ) → (operation op c count f g).number ≢ 0
    → operation op c count f g ≡ unchanged c count (operation op c count f g).number
refused-changes-nothing op c count f g other = go (Singles.operation-says op c count f g)
  where
    o : Made
    o = operation op c count f g

    go : OperationSays op c count f g o → o ≡ unchanged c count o.number
    go (answered z A) = absurd (other z)
    go (refused _ same) = same
