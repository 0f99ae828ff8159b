-- A check that gives a number with a cause gives it to a command of the proof, in a reached state: what the check leaves is that state's,
-- and its place is the command's first byte. The idea: `ending-is`, and no such number stands behind a byte. Assumes nothing.
use mathlib.Core.Path.{◌≡◌, refl, sym, ap, ◌∙◌, subst}
use mathlib.Core.Logic.{◌≢◌}
use mathlib.Core.Bool.{Bool, true, false, ◌||◌}
use mathlib.Core.List.{List}
use Prim.Native.Nat.{ℕ, ◌+◌, ◌≤◌}
use native.Mathlib.Omega.{arith}
use lib.ListN.{take}
use lib.Dec.{eqb}
use Rattle.meaning.proofs.Booleans.{or_cases, eqb-eq}
use Rattle.commands.specs.declared.Mode.{Mode}
use Rattle.commands.specs.Commands.{Command}
use Rattle.verdict.specs.Steps.{State, Step, stop, spent}
use Rattle.verdict.specs.Check.{step, Verdict, verdict}
use Rattle.verdict.specs.Taken.{Meant}
use Rattle.verdict.specs.Run.{command_in, Reached}
use Rattle.verdict.proofs.Commands.{Known, fit-known}
use Rattle.verdict.proofs.Ends.{reached-fit}
use Rattle.causes.specs.Explanation.{Ending, ended, ending}
use Rattle.causes.specs.Shows.{EndsAt, formula-refused, proof-stopped, proof-spent}
use Rattle.causes.proofs.Ending.{ending-is}
use Rattle.line_again.specs.Before.{with_counts, SameBut, has_cause}
use Rattle.line_again.proofs.Twice.{Twice, step_twice}

no-formula : {A : Type 0} (number : ℕ) → number ≤ 8 → has_cause number ≡ true → A
no-formula number small h =
    or_cases (eqb number 14) (eqb number 18 || eqb number 19) h (λ e. absurd (omega (arith, small, eqb-eq number 14 e)))
    (λ q. or_cases (eqb number 18) (eqb number 19) q (λ e. absurd (omega (arith, small, eqb-eq number 18 e)))
    (λ e. absurd (omega (arith, small, eqb-eq number 19 e))))

-- The command is refused with the number: before it made a node, or with 19 once it made some.
abbrev pub Stops : Bool → ℕ → ℕ → State → ℕ → Command → Type 0
Stops profile n s st number c = number ≢ 19 → step profile n s st c ≡ stop number 0

abbrev pub Spends : Bool → ℕ → ℕ → State → ℕ → Command → Type 0
Spends profile n s st number c = number ≡ 19 → (peak : ℕ) × (step profile n s st c ≡ spent 19 peak)

module _ (mode : Mode) (s : ℕ) (text proof : List ℕ) where
  -- The command at the verdict's place is the one refused.
  pub record RefusedAt (v : Verdict) : Type 0 where
    pub n : ℕ
    pub state : State
    pub meant : Meant
    pub reached : Reached mode s text proof n state v.place meant
    pub is : ending mode s text proof ≡ ended n state v.place
    pub in-proof : v.in_proof ≡ true
    pub nodes : v.nodes ≡ take state.kept state.nodes
    pub members : v.members ≡ state.members
    pub struck : v.struck ≡ state.struck
    pub lines : v.lines ≡ state.lines
    pub stops : Stops mode.consequence n s state v.number (command_in mode proof n v.place)
    pub spends : Spends mode.consequence n s state v.number (command_in mode proof n v.place)

  known_at : {n : ℕ} {st : State} {at : ℕ} {m : Meant} → Reached mode s text proof n st at m → Known n (command_in mode proof n at)
  known_at {n} {st} {at} R = fit-known mode.form n (command_in mode proof n at) (reached-fit mode s text proof R)

  twice-at : {n : ℕ} {st : State} {at : ℕ} {m : Meant} → Reached mode s text proof n st at m → (rounds peak : ℕ) (refuted : Bool)
      → Twice (step mode.consequence n s st (command_in mode proof n at))
      (step mode.consequence n s (with_counts st rounds peak refuted) (command_in mode proof n at))
  twice-at {n} {st} {at} R rounds peak refuted =
      step_twice rounds peak refuted n s st mode.consequence (command_in mode proof n at) (known_at R)

  stopped-at : (n number offset at : ℕ) (st : State) (m : Meant) → Reached mode s text proof n st at m
      → step mode.consequence n s st (command_in mode proof n at) ≡ stop number offset → has_cause number ≡ true
      → (number ≢ 19) × (offset ≡ 0)
  stopped-at n number offset at st m R e h =
      let (other, first, _) = subst (λ (x : Step). Twice x
      (step mode.consequence n s (with_counts st 0 0 false) (command_in mode proof n at)))
      e (twice-at R 0 0 false) h in (other, first)

  spent-at : (n number peak at : ℕ) (st : State) (m : Meant) → Reached mode s text proof n st at m
      → step mode.consequence n s st (command_in mode proof n at) ≡ spent number peak → has_cause number ≡ true → number ≡ 19
  spent-at n number peak at st m R e h =
      (subst (λ (x : Step). Twice x (step mode.consequence n s (with_counts st 0 0 false) (command_in mode proof n at)))
      e (twice-at R 0 0 false) h).0

  ends_at : (v : Verdict) (x : Ending) → ending mode s text proof ≡ x → EndsAt mode s text proof v x → has_cause v.number ≡ true →
      RefusedAt v
  ends_at _ _ is (formula-refused {number} k i) h = no-formula number k.1 h
  ends_at _ _ is (proof-stopped {n} {number} {offset} {at} {st} {m} R e) h =
      let (other, first) = stopped-at n number offset at st m R e h in
      let here : at ≡ at + offset = omega (arith, first) in
      record {
        n = n;
        state = st;
        meant = m;
        reached = subst (λ (k : ℕ). Reached mode s text proof n st k m) here R;
        is = is ∙ ap (ended n st) here;
        in-proof = refl;
        nodes = refl;
        members = refl;
        struck = refl;
        lines = refl;
        stops = λ _. subst (λ (k : ℕ). step mode.consequence n s st (command_in mode proof n k) ≡ stop number 0) here
            (e ∙ ap (stop number) first);
        spends = λ q. absurd (other q);
      }
  ends_at _ _ is (proof-spent {n} {number} {peak} {at} {st} {m} R e) h =
      let late = spent-at n number peak at st m R e h in
      record {
        n = n;
        state = st;
        meant = m;
        reached = R;
        is = is;
        in-proof = refl;
        nodes = refl;
        members = refl;
        struck = refl;
        lines = refl;
        stops = λ other. absurd (other late);
        spends = λ _. (peak, e ∙ ap (λ (k : ℕ). spent k peak) late);
      }

  -- THEOREM: a number with a cause is given to the command at its place, in the state reached.
  pub refused-at : has_cause (verdict mode s text proof).number ≡ true → RefusedAt (verdict mode s text proof)
  refused-at h = ends_at (verdict mode s text proof) (ending mode s text proof) refl (ending-is mode s text proof) h

  -- The command is refused so in every state that differs in rounds, peak and `refuted` alone.
  module _ (v : Verdict) (h : has_cause v.number ≡ true) (A : RefusedAt v) (x : State) (same : SameBut A.state x) where
    again : Twice (step mode.consequence A.n s A.state (command_in mode proof A.n v.place))
        (step mode.consequence A.n s x (command_in mode proof A.n v.place))
    again = subst (λ (y : State). Twice (step mode.consequence A.n s A.state (command_in mode proof A.n v.place))
        (step mode.consequence A.n s y (command_in mode proof A.n v.place)))
        (sym same) (twice-at A.reached x.rounds x.peak x.refuted)

    pub stops-again : Stops mode.consequence A.n s x v.number (command_in mode proof A.n v.place)
    stops-again other = (subst (λ (y : Step). Twice y (step mode.consequence A.n s x (command_in mode proof A.n v.place)))
        (A.stops other) again h).2

    pub spends-again : Spends mode.consequence A.n s x v.number (command_in mode proof A.n v.place)
    spends-again late = (subst (λ (y : Step). Twice y (step mode.consequence A.n s x (command_in mode proof A.n v.place)))
        (A.spends late).1 again refl).1
