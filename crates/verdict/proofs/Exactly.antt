-- The check says exactly what its end says, and number 0 exactly where it reaches the end of a refutation. The idea: each reached state has
-- the verdict still before it, so that what its command says is the verdict. Assumes nothing.
use mathlib.Core.Path.{◌≡◌, refl, ap, ◌∙◌}
use mathlib.Core.Logic.{◌↔◌}
use mathlib.Core.List.{List}
use Prim.Native.Nat.{ℕ, zero, suc, ◌+◌, ◌-◌, ◌≤◌, ◌<◌}
use native.Mathlib.Omega.{arith}
use lib.ListN.{length}
use Rattle.table.specs.Nodes.{Node, place}
use Rattle.dimacs.specs.Clauses.{Reading}
use Rattle.commands.specs.declared.Mode.{Mode}
use Rattle.verdict.specs.Steps.{State, Step, next, stop, spent}
use Rattle.verdict.specs.Check.{step, Verdict, left, after_step, commands, clauses, verdict}
use Rattle.verdict.specs.Taken.{Function, Meant}
use Rattle.verdict.specs.Run.{Making, opened, made, command_in, next_in, CommandTaken, Reached, begins, goes, Ended, no_header}
use Rattle.verdict.specs.Run.{not-read, no_room, stopped, tried, Refutation}
use Rattle.verdict.proofs.Commands.{taken_step, start-within, command-goes}
use Rattle.verdict.proofs.Refutes.{Refutes, step-refutes, refutes-step}
use Rattle.verdict.proofs.Ends.{reached-fit, ended}
use Rattle.verdict.proofs.Numbers.{Closed, formula-refused, proof-ended, proof-tried, ended-closed}

module _ (mode : Mode) (s : ℕ) (text proof : List ℕ) where
  making-runs : {n many : ℕ} {t : List Node} {ms : List ℕ} {fs : List Function} {r : Reading} → Making s text n many t ms fs r →
      verdict mode s text proof ≡ clauses mode n s proof t ms r
  unfolding verdict clauses
  making-runs (opened e) = rw e
  making-runs (made M e) = making-runs M ∙ rw e

  -- The verdict is still to come in a reached state, and there are steps enough for it.
  pub record Ahead (n : ℕ) (st : State) (at : ℕ) : Type 0 where
    pub steps : ℕ
    pub within : at ≤ length proof
    pub enough : length proof - at < steps
    pub is : verdict mode s text proof ≡ commands steps mode n s proof st at

  goes-ahead : (n : ℕ) (st st' : State) (at : ℕ) → CommandTaken mode.consequence n s st (command_in mode proof n at) st' → Ahead n st at →
      Ahead n st' (next_in mode proof n at)
  unfolding commands
  goes-ahead n st st' at T A = go A.steps A.enough A.is
    where
      e : step mode.consequence n s st (command_in mode proof n at) ≡ next st'
      e = taken_step mode.consequence n s st (command_in mode proof n at) st' T

      go : (steps : ℕ) → length proof - at < steps → verdict mode s text proof ≡ commands steps mode n s proof st at →
          Ahead n st' (next_in mode proof n at)
      go zero enough is = absurd (omega arith)
      go (suc steps) enough is =
          let (on, inside) = command-goes mode.consequence mode.form proof n s st st' at A.within T in
          record {
            steps = steps;
            within = inside;
            enough = omega (arith, on, inside);
            is = is ∙ ap (λ (x : Step). after_step x st at (λ st'. commands steps mode n s proof st' (next_in mode proof n at))) e;
          }

  pub reached-ahead : {n : ℕ} {st : State} {at : ℕ} {m : Meant} → Reached mode s text proof n st at m → Ahead n st at
  unfolding clauses
  reached-ahead (begins M) = record {
    steps = suc (length proof);
    within = start-within mode.form proof;
    enough = omega arith;
    is =
        making-runs M;
  }
  reached-ahead {n} (goes {st} {st'} {at} R T) = goes-ahead n st st' at T (reached-ahead R)

  -- What the command of a reached state comes to, the check says.
  reached-after : {n : ℕ} {st : State} {at : ℕ} {m : Meant} → Reached mode s text proof n st at m → (x : Step)
      → step mode.consequence n s st (command_in mode proof n at) ≡ x → (rest : ℕ)
      × (verdict mode s text proof ≡ after_step x st at (λ st'. commands rest mode n s proof st' (next_in mode proof n at)))
  unfolding commands
  reached-after {n} {st} {at} R x e = go A.steps A.enough A.is
    where
      A : Ahead n st at
      A = reached-ahead R

      go : (steps : ℕ) → length proof - at < steps → verdict mode s text proof ≡ commands steps mode n s proof st at
          → (rest : ℕ) × (verdict mode s text proof ≡ after_step x st at
          (λ st'. commands rest mode n s proof st' (next_in mode proof n at)))
      go zero enough is = absurd (omega arith)
      go (suc steps) enough is = (
        steps,
        is ∙ ap
            (λ (x : Step). after_step x st at (λ st'. commands steps mode n s proof st' (next_in mode proof n at))) e,
      )

  pub reached-stops : {n : ℕ} {st : State} {at : ℕ} {m : Meant} → Reached mode s text proof n st at m → (number offset : ℕ)
      → step mode.consequence n s st (command_in mode proof n at) ≡ stop number offset → verdict mode s text proof
      ≡ left number (at + offset) st.peak st
  reached-stops R number offset e = (reached-after R (stop number offset) e).1

  reached-spent : {n : ℕ} {st : State} {at : ℕ} {m : Meant} → Reached mode s text proof n st at m → (number peak : ℕ)
      → step mode.consequence n s st (command_in mode proof n at) ≡ spent number peak → verdict mode s text proof ≡ left number at peak st
  reached-spent R number peak e = (reached-after R (spent number peak) e).1

  -- How the check ends is the verdict: number, place, peak and all that is left.
  pub ended_is : (v : Verdict) → Ended mode s text proof v → verdict mode s text proof ≡ v
  unfolding verdict clauses
  ended_is _ (no_header e) = rw e
  ended_is _ (not-read M) = making-runs M
  ended_is _ (no_room M e) = making-runs M ∙ rw e
  ended_is _ (stopped {n} {number} {offset} {at} {st} R e) = reached-stops R number offset e
  ended_is _ (tried {n} {number} {peak} {at} {st} R e) = reached-spent R number peak e

  zero-refutes : (v : Verdict) → Closed mode s text proof v → v.number ≡ 0 → Refutation mode s text proof
  zero-refutes _ (formula-refused named) z = absurd (omega arith)
  zero-refutes _ (proof-tried late R e) z = absurd (omega arith)
  zero-refutes _ (proof-ended {n} {number} {offset} {at} {st} {m} _ R e) z =
      let F : Refutes st (command_in mode proof n at) offset = step-refutes mode.consequence mode.form n s st
      (command_in mode proof n at) (reached-fit mode s text proof R) offset (rw z at e) in
      record { variables = n; state = st; place = at; meant = m; reached = R; end = F.end; zero-line = F.zero-line }

  -- A refutation's end is the verdict.
  pub refutation-said : (F : Refutation mode s text proof) → verdict mode s text proof ≡ left 0 F.place F.state.peak F.state
  refutation-said F =
      let z : F.place + 0 ≡ F.place = omega arith in
      reached-stops F.reached 0 0
      (refutes-step mode.consequence F.variables s F.state (command_in mode proof F.variables F.place) 0
      (record { end = F.end; zero-line = F.zero-line; here = refl }))
      ∙ rw z

  -- "0: refuted; place of the end record"; in a text "at its length as is 0"
  pub zero-exactly : ((verdict mode s text proof).number ≡ 0) ↔ Refutation mode s text proof
  zero-exactly = (
    (λ z. zero-refutes (verdict mode s text proof) (ended-closed mode s text proof (verdict mode s text proof) (ended mode s text proof))
        z),
    (λ F. ap (λ (v : Verdict). v.number) (refutation-said F)),
  )
