-- The place that the check gives for a command: its first byte; for 11 the byte behind it; for 3 and 4 the token; the proof's length where
-- no record begins and at a text's end. The idea: each number stands in the definition with its place. Assumes nothing.
use mathlib.Core.Path.{◌≡◌, refl, sym, ◌∙◌, subst}
use mathlib.Core.Bool.{true, Bool}
use mathlib.Core.List.{List, [], ◌∷◌}
use Prim.Native.Nat.{ℕ, ◌+◌, ◌-◌, ◌≤◌}
use native.Mathlib.Omega.{arith}
use lib.ListN.{length, drop, length-drop}
use lib.Dec.{eqb, ltb}
use borrow.Author.Tests.{ne_eqb}
use Rattle.meaning.proofs.Booleans.{t≢f, and-false}
use Rattle.records.specs.declared.Record.{Record}
use Rattle.records.specs.declared.Record.TheVariants.{NodeEntry, Witness, ProofLine, Strike, SetEntry, End, CutShort, UnknownKind}
use Rattle.records.specs.declared.Record.TheVariants.{NoRecord}
use Rattle.records.specs.Records.{node_in, witness_in, line_in, strike_in, set_in, whole, record_of, record_in, record_at}
use Rattle.commands.specs.declared.Form.{Form}
use Rattle.commands.specs.declared.Form.TheVariants.{Records, Text, Binary}
use Rattle.commands.specs.declared.Mode.{Mode}
use Rattle.commands.specs.Commands.{Command, recorded, added, struck_out, wrong, finished, command_at}
use Rattle.commands.proofs.Onward.{CommandIn, drat-in}
use Rattle.verdict.specs.Steps.{State, Step, stop, spent, record_step}
use Rattle.verdict.specs.Check.{step, CheckOutcome, outcome}
use Rattle.verdict.specs.Run.{command_in, no_header, not-read, no_room, stopped, tried}
use Rattle.verdict.proofs.Formula.{either}
use Rattle.verdict.proofs.ClauseSays.{FinishSays, finish-says}
use Rattle.verdict.proofs.Numbers.{Numbered, shut-numbered}
use Rattle.verdict.proofs.Steps.{stop-not-spent}
use Rattle.verdict.proofs.Ends.{reached-in, reached-fit}
use Rattle.demands.specs.Leaving.{Handed, checked, places, Ends, wrong_size, at_place, EndsWith, OffsetOf, NoneBegun, AtEnd}
use Rattle.demands.proofs.Ending.{check-ends}
use Rattle.demands.proofs.Offsets.{command-offset}

-- ---- no record begun

abbrev Begun : Record → Type 0
Begun (NodeEntry b) = Unit {0}
Begun (Witness v b) = Unit {0}
Begun (ProofLine rule root) = Unit {0}
Begun (Strike k) = Unit {0}
Begun (SetEntry kind b) = Unit {0}
Begun End = Unit {0}
Begun CutShort = Unit {0}
Begun UnknownKind = Unit {0}
Begun NoRecord = ⊥

whole-begun : (n : ℕ) (body : List ℕ) (r : Record) → Begun r → Begun (whole n body r)
unfolding whole
whole-begun n body r b = either Begun (ltb (length body) n) CutShort r tt b

-- a kind byte begins a record
kind-begun : (kind : ℕ) (body : List ℕ) → Begun (record_of kind body)
unfolding record_of node_in witness_in line_in strike_in set_in
kind-begun kind body =
    either Begun (eqb kind 0x4E) _ _ (whole-begun 5 body _ tt)
    (either Begun (eqb kind 0x54) _ _ (whole-begun 1 body _ tt)
    (either Begun (eqb kind 0x46) _ _ (whole-begun 1 body _ tt)
    (either Begun (eqb kind 0x52) _ _ (whole-begun 2 body _ tt)
    (either Begun (eqb kind 0x50) _ _ (whole-begun 2 body _ tt)
    (either Begun (eqb kind 0x51) _ _ (whole-begun 2 body _ tt)
    (either Begun (eqb kind 0x44) _ _ (whole-begun 2 body _ tt)
    (either Begun (eqb kind 0x58) _ _ (whole-begun 9 body _ tt)
    (either Begun (eqb kind 0x4B) _ _ (whole-begun 9 body _ tt) (either Begun (eqb kind 0x45) End UnknownKind tt tt)))))))))

none-begun : (proof : List ℕ) (at : ℕ) → record_at proof at ≡ NoRecord → length proof ≤ at
unfolding record_at record_in
none-begun proof at e = go (drop at proof) (length-drop at proof) e
  where
    go : (bs : List ℕ) → length bs ≡ length proof - at → record_in bs ≡ NoRecord → length proof ≤ at
    go [] len e = omega arith
    go (kind ∷ body) len e = absurd (subst Begun e (kind-begun kind body))

drat-none : (form : Form) (proof : List ℕ) (n at : ℕ) (c : Command) (next : ℕ) → CommandIn form proof n at c next → NoneBegun c → at
    ≡ length proof
drat-none form proof n at (recorded r more) next I none = absurd I
drat-none form proof n at (added ls) next I none = absurd none
drat-none form proof n at (struck_out ls) next I none = absurd none
drat-none form proof n at (wrong k o) next I none = absurd none
drat-none form proof n at finished next I none = I.1

-- at the end of what is read
command-none : (mode : Mode) (proof : List ℕ) (n at : ℕ) → at ≤ length proof → NoneBegun (command_in mode proof n at) → at ≡ length proof
command-none mode proof n at within none = go mode.form none
  where
    go : (form : Form) → NoneBegun (command_at form proof n at).command → at ≡ length proof
    go Records none = omega (arith, within, none-begun proof at none)
    go Text none = drat-none Text proof n at (command_at Text proof n at).command (command_at Text proof n at).next
        (drat-in Text refl proof n at within) none
    go Binary none = drat-none Binary proof n at (command_at Binary proof n at).command (command_at Binary proof n at).next
        (drat-in Binary refl proof n at within) none

-- there is none: 10, in the profile too
none-ten : (profile : Bool) (n s : ℕ) (st : State) (r : Record) (more : Bool) → r ≡ NoRecord → step profile n s st (recorded r more)
    ≡ stop 10 0
unfolding step record_step
none-ten profile n s st r more none = rw (none, and-false profile)

-- and its number stands there
none-offset : (profile : Bool) (n s : ℕ) (st : State) (c : Command) → NoneBegun c → (number offset : ℕ) → step profile n s st c
    ≡ stop number offset → offset ≡ 0
unfolding step
none-offset profile n s st (recorded r more) none number offset e =
    let ten : stop 10 0 ≡ stop number offset = sym (none-ten profile n s st r more none) ∙ e in cc
none-offset profile n s st (added ls) none number offset e = absurd none
none-offset profile n s st (struck_out ls) none number offset e = absurd none
none-offset profile n s st (wrong k o) none number offset e = absurd none
none-offset profile n s st finished none number offset e = (subst FinishSays e (finish-says st)).1

none-not-spent : {A : Type 0} (profile : Bool) (n s : ℕ) (st : State) (c : Command) → NoneBegun c → (number peak : ℕ) →
    step profile n s st c ≡ spent number peak → A
unfolding step
none-not-spent profile n s st (recorded r more) none number peak e = stop-not-spent 10 0 (sym (none-ten profile n s st r more none) ∙ e)
none-not-spent profile n s st (added ls) none number peak e = absurd none
none-not-spent profile n s st (struck_out ls) none number peak e = absurd none
none-not-spent profile n s st (wrong k o) none number peak e = absurd none
none-not-spent profile n s st finished none number peak e = absurd (subst FinishSays e (finish-says st))

-- what is refused once nodes were made is refused at the first byte
spent-offset : (profile : Bool) (n s : ℕ) (st : State) (c : Command) (number peak : ℕ) → step profile n s st c ≡ spent number peak →
    OffsetOf c number 0
unfolding step
spent-offset profile n s st (recorded r more) number peak e =
    let N : (19 ≤ number) × (number ≤ 23) = subst Numbered e (shut-numbered profile n s st more r) in
    rw (ne_eqb number 11 (λ z. omega (arith, N.0))) refl
spent-offset profile n s st (added ls) number peak e = refl
spent-offset profile n s st (struck_out ls) number peak e = refl
spent-offset profile n s st (wrong k o) number peak e = stop-not-spent _ _ e
spent-offset profile n s st finished number peak e = refl

-- ---- the call

-- The place of a number of the proof.
pub check-place : (i : Handed) → (checked i).in_proof ≡ true → AtEnd i (checked i)
unfolding outcome
check-place i late = go (checked i) (check-ends i) late
  where
    go : (o : CheckOutcome) → Ends i o → o.in_proof ≡ true → AtEnd i o
    go _ (wrong_size other) late = t≢f (sym late)
    go _ (at_place e (no_header h)) late = t≢f (sym late)
    go _ (at_place e (not-read M)) late = t≢f (sym late)
    go _ (at_place e (no_room M full-there)) late = t≢f (sym late)
    go _ (at_place e (stopped {n} {number} {offset} {at} {st} {m} R q)) late =
        let c : Command = command_in i.mode i.proof n at in
        let within : at ≤ length i.proof = reached-in i.mode (places i) i.text i.proof R in
        record {
          n = n;
          state = st;
          at = at;
          offset = offset;
          meant = m;
          reached = R;
          says = subst (λ (x : Step). EndsWith x number offset) (sym q) (refl, refl);
          place = refl;
          stands = command-offset i.mode.consequence i.mode.form n (places i) st c
              (reached-fit i.mode (places i) i.text i.proof R) number offset q;
          none-begun = λ none.
              let there : at ≡ length i.proof = command-none i.mode i.proof n at within none in
              let here : offset ≡ 0 = none-offset i.mode.consequence n (places i) st c none number offset q in omega arith;
        }
    go _ (at_place e (tried {n} {number} {peak} {at} {st} {m} R q)) late =
        let c : Command = command_in i.mode i.proof n at in
        record {
          n = n;
          state = st;
          at = at;
          offset = 0;
          meant = m;
          reached = R;
          says = subst (λ (x : Step). EndsWith x number 0) (sym q) (refl, refl);
          place = let z : at ≡ at + 0 = omega arith in z;
          stands = spent-offset i.mode.consequence n (places i) st c number peak q;
          none-begun = λ none. none-not-spent i.mode.consequence n (places i) st c none number peak q;
        }
