-- The command that ends a proof with 0: an end record, or the end of a DRAT proof, with an accepted 0 line. The idea: no other command
-- gives the number 0. Assumes nothing.
use mathlib.Core.Path.{◌≡◌, refl, ap, subst}
use mathlib.Core.Logic.{◌⊎◌, inl, inr}
use mathlib.Core.Bool.{Bool, true, false, cond}
use Prim.Native.Nat.{ℕ}
use native.Mathlib.Omega.{arith}
use Rattle.meaning.proofs.Booleans.{and-false}
use Rattle.commands.specs.declared.Form.{Form}
use Rattle.commands.specs.Commands.{Command, recorded, added, struck_out, wrong, finished}
use Rattle.verdict.specs.Steps.{State, stop}
use Rattle.verdict.specs.Check.{finish, shut_out, step}
use Rattle.verdict.specs.Run.{Closes}
use Rattle.verdict.proofs.Steps.{stop-other, past, EndRefutes, record-refutes, refutes-record}
use Rattle.verdict.proofs.Commands.{Fit, Known, fit-known}
use Rattle.verdict.proofs.ClauseSays.{AddedSays, StruckSays, added-says, struck-says}

-- The command ends the proof with 0 at its first byte.
pub record Refutes (st : State) (c : Command) (offset : ℕ) : Type 0 where
  pub end : Closes st c
  pub zero-line : st.refuted ≡ true
  pub here : offset ≡ 0

finish-refutes : (st : State) (offset : ℕ) → finish st ≡ stop 0 offset → Refutes st finished offset
finish-refutes st offset e = go st.refuted refl e
  where
    go : (b : Bool) → st.refuted ≡ b → cond b (stop 0 0) (stop 20 0) ≡ stop 0 offset → Refutes st finished offset
    go true q e = record { end = tt; zero-line = q; here = cc }
    go false q e = stop-other 20 0 refl e

added-not-zero : {A : Type 0} → (◌≡◌ {A = ℕ} 0 17) ⊎ (◌≡◌ {A = ℕ} 0 22) → A
added-not-zero (inl e) = absurd (omega arith)
added-not-zero (inr e) = absurd (omega arith)

known-refutes : (profile : Bool) (n s : ℕ) (st : State) (c : Command) → Known n c → (offset : ℕ) → step profile n s st c ≡ stop 0 offset →
    Refutes st c offset
unfolding step
known-refutes profile n s st (recorded r more) known offset e =
    let (admitted, e₁) = past (shut_out profile r) 33 0 _ refl e in
    let F : EndRefutes st more r offset = record-refutes n s st more r offset e₁ in
    record { end = (F.end, F.none-waits, F.last); zero-line = F.zero-line; here = F.here }
known-refutes profile n s st (added ls) known offset e = added-not-zero (subst AddedSays e (added-says profile n s st ls)).0
known-refutes profile n s st (struck_out ls) known offset e = let q : ◌≡◌ {A = ℕ} 0 28 = (subst StruckSays e (struck-says n st ls)).0 in
    absurd (omega arith)
known-refutes profile n s st (wrong number place) known offset e = let z : number ≡ 0 = cc in absurd (omega (arith, known.0))
known-refutes profile n s st finished known offset e = finish-refutes st offset e

pub step-refutes : (profile : Bool) (form : Form) (n s : ℕ) (st : State) (c : Command) → Fit form n c → (offset : ℕ) → step profile n s st c
    ≡ stop 0 offset → Refutes st c offset
step-refutes profile form n s st c fit offset e = known-refutes profile n s st c (fit-known form n c fit) offset e

pub refutes-step : (profile : Bool) (n s : ℕ) (st : State) (c : Command) (offset : ℕ) → Refutes st c offset → step profile n s st c
    ≡ stop 0 offset
unfolding step
refutes-step profile n s st (recorded r more) offset F =
    rw (ap (shut_out profile) F.end.0, and-false profile)
    (refutes-record n s st more r offset (record
    { end = F.end.0; none-waits = F.end.1; last = F.end.2; zero-line = F.zero-line; here = F.here }))
refutes-step profile n s st (added ls) offset F = absurd F.end
refutes-step profile n s st (struck_out ls) offset F = absurd F.end
refutes-step profile n s st (wrong number place) offset F = absurd F.end
refutes-step profile n s st finished offset F = rw (F.zero-line, F.here)
