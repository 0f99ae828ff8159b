-- The laws of a command, whatever its form: it is taken exactly where it passes what its kind asks, it goes on in the proof, and it keeps
-- what holds in every state. The idea: a record's laws, and a clause's, which the reader gives within the header's variables. Assumes
-- nothing.
use mathlib.Core.Path.{◌≡◌, refl, subst}
use mathlib.Core.Logic.{◌↔◌, ◌≢◌}
use mathlib.Core.Bool.{Bool, true, false, cond}
use mathlib.Core.List.{List}
use Prim.Native.Nat.{ℕ, ◌≤◌, ◌<◌}
use native.Mathlib.Omega.{arith}
use native.Mathlib.Decide.{dec_lt}
use lib.ListN.{length}
use Rattle.meaning.specs.Literals.{OfVariables}
use Rattle.table.proofs.Growth.{Extends, extends-same}
use Rattle.dimacs.proofs.Between.{between-most}
use Rattle.records.specs.Records.{record_at, length_of}
use Rattle.records.proofs.Laws.{record-takes, record-within}
use Rattle.commands.specs.declared.Form.{Form}
use Rattle.commands.specs.declared.Form.TheVariants.{Records, Text, Binary}
use Rattle.commands.specs.Commands.{Command, recorded, added, struck_out, wrong, finished, start, command_at}
use Rattle.commands.proofs.Onward.{FaultOf, CommandIn, drat-in}
use Rattle.verdict.specs.Steps.{State, next, stop}
use Rattle.verdict.specs.Check.{finish, shut_out, step}
use Rattle.verdict.specs.Taken.{Meant}
use Rattle.verdict.specs.Run.{CommandTaken, after_command}
use Rattle.verdict.proofs.Steps.{passed, stop-not-next, record-taken, taken-record, next-form}
use Rattle.verdict.proofs.Standing.{Standing, struck-standing, record-standing, record-extends}
use Rattle.verdict.proofs.Added.{clause-exactly, clause-standing, clause-extends}
use Rattle.verdict.proofs.Striking.{struck-taken, taken-struck}

-- ---- exactly what is taken

finish-not-next : {A : Type 0} (st st' : State) → finish st ≡ next st' → A
finish-not-next {A} st st' e = go st.refuted e
  where
    go : (c : Bool) → cond c (stop 0 0) (stop 20 0) ≡ next st' → A
    go true e = stop-not-next 0 0 st' e
    go false e = stop-not-next 20 0 st' e

pub step-taken : (profile : Bool) (n s : ℕ) (st : State) (c : Command) (st' : State) → step profile n s st c ≡ next st' →
    CommandTaken profile n s st c st'
unfolding step
step-taken profile n s st (recorded r more) st' e =
    let (admitted, e₁) = passed (shut_out profile r) 33 _ e in (admitted, record-taken n s st more r st' e₁)
step-taken profile n s st (added ls) st' e = (clause-exactly profile n s st ls st').0 e
step-taken profile n s st (struck_out ls) st' e = struck-taken n st ls st' e
step-taken profile n s st (wrong number offset) st' e = stop-not-next number offset st' e
step-taken profile n s st finished st' e = finish-not-next st st' e

pub taken_step : (profile : Bool) (n s : ℕ) (st : State) (c : Command) (st' : State) → CommandTaken profile n s st c st' →
    step profile n s st c ≡ next st'
unfolding step
taken_step profile n s st (recorded r more) st' T = rw T.0 (taken-record n s st more r st' T.1)
taken_step profile n s st (added ls) st' T = (clause-exactly profile n s st ls st').1 T
taken_step profile n s st (struck_out ls) st' T = taken-struck n st ls st' T
taken_step profile n s st (wrong number offset) st' T = absurd T
taken_step profile n s st finished st' T = absurd T

-- THEOREM: a command leads to a next state exactly where it passes what its kind asks.
pub step-exactly : (profile : Bool) (n s : ℕ) (st : State) (c : Command) (st' : State) →
    (step profile n s st c ≡ next st') ↔ CommandTaken profile n s st c st'
step-exactly profile n s st c st' = (step-taken profile n s st c st', taken_step profile n s st c st')

-- ---- what is read

-- What is known of a command of a DRAT form: a clause's literals are the header's, a fault has a number of the form.
abbrev pub DratFit : Form → ℕ → Command → Type 0
DratFit form n (recorded r more) = ⊥
DratFit form n (added ls) = OfVariables n ls
DratFit form n (struck_out ls) = OfVariables n ls
DratFit form n (wrong number offset) = FaultOf form number offset
DratFit form n finished = Unit {0}

-- What is known of a command of a form.
abbrev pub Fit : Form → ℕ → Command → Type 0
Fit Records n (recorded r more) = Unit {0}
Fit Records n (added ls) = ⊥
Fit Records n (struck_out ls) = ⊥
Fit Records n (wrong number offset) = ⊥
Fit Records n finished = ⊥
Fit Text n c = DratFit Text n c
Fit Binary n c = DratFit Binary n c

-- What is known of a command whatever its form: a fault is none of the numbers that a step gives.
abbrev pub Known : ℕ → Command → Type 0
Known n (recorded r more) = Unit {0}
Known n (added ls) = OfVariables n ls
Known n (struck_out ls) = OfVariables n ls
Known n (wrong number offset) = (3 ≤ number) × (number ≢ 31 → number ≤ 9) × (number ≡ 6 → offset ≡ 0)
Known n finished = Unit {0}

-- above 9 there is only 31
pub binary-fault : (number : ℕ) → (9 < number → number ≡ 31) → number ≢ 31 → number ≤ 9
binary-fault number h other = elim (dec_lt 9 number) [ yes p ↦ absurd (other (h p)) | no p ↦ omega (arith, p) ]

pub fit-known : (form : Form) (n : ℕ) (c : Command) → Fit form n c → Known n c
fit-known Records n (recorded r more) fit = tt
fit-known Records n (added ls) fit = absurd fit
fit-known Records n (struck_out ls) fit = absurd fit
fit-known Records n (wrong number offset) fit = absurd fit
fit-known Records n finished fit = absurd fit
fit-known Text n (recorded r more) fit = absurd fit
fit-known Text n (added ls) fit = fit
fit-known Text n (struck_out ls) fit = fit
fit-known Text n (wrong number offset) fit = (fit.0, (λ _. omega (arith, fit.1)), fit.3)
fit-known Text n finished fit = tt
fit-known Binary n (recorded r more) fit = absurd fit
fit-known Binary n (added ls) fit = fit
fit-known Binary n (struck_out ls) fit = fit
fit-known Binary n (wrong number offset) fit =
    (omega (arith, fit.0), binary-fault number fit.3, fit.4)
fit-known Binary n finished fit = tt

drat-fit : (form : Form) (proof : List ℕ) (n at : ℕ) (c : Command) (after : ℕ) → CommandIn form proof n at c after → DratFit form n c
drat-fit form proof n at (recorded r more) after h = absurd h
drat-fit form proof n at (added ls) after h = h.2
drat-fit form proof n at (struck_out ls) after h = h.2
drat-fit form proof n at (wrong number offset) after h = h.2
drat-fit form proof n at finished after h = tt

pub command-fit : (form : Form) (proof : List ℕ) (n at : ℕ) → at ≤ length proof → Fit form n (command_at form proof n at).command
command-fit Records proof n at within = tt
command-fit Text proof n at within = drat-fit Text proof n at (command_at Text proof n at).command (command_at Text proof n at).next
    (drat-in Text refl proof n at within)
command-fit Binary proof n at within = drat-fit Binary proof n at (command_at Binary proof n at).command (command_at Binary proof n at).next
    (drat-in Binary refl proof n at within)

pub start-within : (form : Form) (proof : List ℕ) → start form proof ≤ length proof
start-within Records proof = omega arith
start-within Text proof = between-most proof 0 (omega arith)
start-within Binary proof = omega arith

drat-goes : (profile : Bool) (form : Form) (proof : List ℕ) (n s : ℕ) (st st' : State) (at : ℕ) (c : Command) (after : ℕ) →
    CommandIn form proof n at c after → CommandTaken profile n s st c st'
    → (at < after) × (after ≤ length proof)
drat-goes profile form proof n s st st' at (recorded r more) after h T = absurd h
drat-goes profile form proof n s st st' at (added ls) after h T = (h.0, h.1)
drat-goes profile form proof n s st st' at (struck_out ls) after h T = (h.0, h.1)
drat-goes profile form proof n s st st' at (wrong number offset) after h T = absurd T
drat-goes profile form proof n s st st' at finished after h T = absurd T

-- A command that is taken has a byte, and ends in the proof.
pub command-goes : (profile : Bool) (form : Form) (proof : List ℕ) (n s : ℕ) (st st' : State) (at : ℕ) → at ≤ length proof
    → CommandTaken profile n s st (command_at form proof n at).command st' → (at < (command_at form proof n at).next)
    × ((command_at form proof n at).next ≤ length proof)
command-goes profile Records proof n s st st' at within T =
    let form = next-form n s st false (record_at proof at) st' (taken-record n s st false (record_at proof at) st' T.1) in
    let takes : 1 ≤ length_of (record_at proof at) = record-takes (record_at proof at) form in
    (omega arith, record-within proof at refl form)
command-goes profile Text proof n s st st' at within T =
    drat-goes profile Text proof n s st st' at (command_at Text proof n at).command (command_at Text proof n at).next
    (drat-in Text refl proof n at within) T
command-goes profile Binary proof n s st st' at within T =
    drat-goes profile Binary proof n s st st' at (command_at Binary proof n at).command (command_at Binary proof n at).next
    (drat-in Binary refl proof n at within) T

-- ---- what it keeps

module _ {s n : ℕ} {m : Meant} {st : State} (S : Standing s n m st) (narrow : n ≤ 64) where
  known-standing : (profile : Bool) (c : Command) → Known n c → (st' : State) → CommandTaken profile n s st c st' →
      Standing s n (after_command m c) st'
  unfolding after_command
  known-standing profile (recorded r more) known st' T = record-standing S narrow r st' T.1
  known-standing profile (added ls) known st' T = clause-standing S narrow ls known st' T
  known-standing profile (struck_out ls) known st' T = struck-standing S narrow T.place st' T.is
  known-standing profile (wrong number offset) known st' T = absurd T
  known-standing profile finished known st' T = absurd T

  pub step-standing : (profile : Bool) (form : Form) (c : Command) → Fit form n c → (st' : State) → CommandTaken profile n s st c st' →
      Standing s n (after_command m c) st'
  step-standing profile form c fit st' T = known-standing profile c (fit-known form n c fit) st' T

  known-extends : (profile : Bool) (c : Command) → Known n c → (st' : State) → CommandTaken profile n s st c st' →
      Extends st.nodes st'.nodes
  known-extends profile (recorded r more) known st' T = record-extends S narrow r st' T.1
  known-extends profile (added ls) known st' T = clause-extends S narrow ls known st' T
  known-extends profile (struck_out ls) known st' C = subst (λ (x : State). Extends st.nodes x.nodes) C.is
      (extends-same st.nodes)
  known-extends profile (wrong number offset) known st' T = absurd T
  known-extends profile finished known st' T = absurd T

  pub step-extends : (profile : Bool) (form : Form) (c : Command) → Fit form n c → (st' : State) → CommandTaken profile n s st c st' →
      Extends st.nodes st'.nodes
  step-extends profile form c fit st' T = known-extends profile c (fit-known form n c fit) st' T
