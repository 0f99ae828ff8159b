-- A command is refused, or ends the proof, at a place in the proof. The idea: at its first byte; at a fault's own place; for 11 at the byte
-- behind the end record, which is there. Assumes nothing.
use mathlib.Core.Bool.{Bool}
use mathlib.Core.Path.{◌≡◌, refl, subst}
use mathlib.Core.List.{List}
use Prim.Native.Nat.{ℕ, ◌+◌, ◌≤◌}
use native.Mathlib.Omega.{arith}
use lib.ListN.{length}
use lib.Dec.{ltb}
use Rattle.records.specs.declared.Record.TheVariants.{End}
use Rattle.records.specs.Records.{record_at, length_of, number_of}
use Rattle.records.proofs.Laws.{record-within}
use Rattle.commands.specs.declared.Form.{Form}
use Rattle.commands.specs.declared.Form.TheVariants.{Records, Text, Binary}
use Rattle.commands.specs.Commands.{Command, recorded, added, struck_out, wrong, finished, command_at}
use Rattle.commands.proofs.Onward.{CommandIn, drat-in}
use Rattle.verdict.specs.Steps.{State, stop}
use Rattle.verdict.specs.Check.{step}
use Rattle.verdict.proofs.ClauseSays.{AddedSays, StruckSays, FinishSays, added-says, struck-says, finish-says}
use Rattle.verdict.proofs.Offsets.{Offset, at-record, at-striking, behind-end, Placed, shut-placed}

end-inside : (proof : List ℕ) (at : ℕ) → record_at proof at ≡ End → at + 1 ≤ length proof
end-inside proof at is =
    let right : number_of (record_at proof at) ≡ 0 = rw is in
    let one : length_of (record_at proof at) ≡ 1 = rw is in
    omega (arith, record-within proof at refl right)

drat-near : (profile : Bool) (form : Form) (n s : ℕ) (st : State) (proof : List ℕ) (at : ℕ) (c : Command) (after : ℕ) →
    CommandIn form proof n at c after → (number offset : ℕ)
    → step profile n s st c ≡ stop number offset → at + offset ≤ length proof
unfolding step
drat-near profile form n s st proof at (recorded r more) after h number offset e = absurd h
drat-near profile form n s st proof at (added ls) after h number offset e =
    let A : AddedSays (stop number offset) = subst AddedSays e (added-says profile n s st ls) in omega (arith, A.1, h.0, h.1)
drat-near profile form n s st proof at (struck_out ls) after h number offset e =
    let A : StruckSays (stop number offset) = subst StruckSays e (struck-says n st ls) in omega (arith, A.1, h.0, h.1)
drat-near profile form n s st proof at (wrong k place) after h number offset e = let same : place ≡ offset = cc in omega (arith, h.1)
drat-near profile form n s st proof at finished after h number offset e =
    let A : FinishSays (stop number offset) = subst FinishSays e (finish-says st) in omega (arith, A.1, h.1)

pub stop-near : (profile : Bool) (form : Form) (n s : ℕ) (st : State) (proof : List ℕ) (at : ℕ) → at ≤ length proof → (number offset : ℕ)
    → step profile n s st (command_at form proof n at).command ≡ stop number offset → at + offset ≤ length proof
unfolding step
stop-near profile Records n s st proof at within number offset e =
    go (subst (Placed st (record_at proof at)) e
    (shut-placed profile n s st (ltb (at + length_of (record_at proof at)) (length proof)) (record_at proof at)))
  where
    go : Offset st (record_at proof at) number offset → at + offset ≤ length proof
    go (at-record z _ _) = omega arith
    go (at-striking z _ _ _ _) = omega arith
    go (behind-end z _ is) = omega (arith, end-inside proof at is)
stop-near profile Text n s st proof at within number offset e =
    drat-near profile Text n s st proof at (command_at Text proof n at).command (command_at Text proof n at).next
    (drat-in Text refl proof n at within) number offset e
stop-near profile Binary n s st proof at within number offset e =
    drat-near profile Binary n s st proof at (command_at Binary proof n at).command (command_at Binary proof n at).next
    (drat-in Binary refl proof n at within) number offset e
