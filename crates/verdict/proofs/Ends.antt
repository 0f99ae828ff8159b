-- A check goes through reached states and ends in one of them: its verdict is what a refused formula leaves, or what the state leaves in
-- which a command ends the proof; there are always steps enough. The idea: a command that is taken has a byte. Assumes nothing.
use mathlib.Core.Path.{◌≡◌, refl}
use mathlib.Core.List.{List, [], ◌∷◌, ◌++◌}
use Prim.Native.Nat.{ℕ, zero, suc, ◌+◌, ◌-◌, ◌≤◌, ◌<◌}
use native.Mathlib.Omega.{arith}
use lib.ListN.{length}
use Rattle.meaning.specs.Operations as meaning
use Rattle.table.specs.Nodes.{Node, Placing, full, placed, place}
use Rattle.dimacs.specs.Header.{Header, Proper, Improper, header}
use Rattle.dimacs.specs.Clauses.{Reading, clause, complete, refusal, clauses_from}
use Rattle.commands.specs.declared.Mode.{Mode}
use Rattle.commands.specs.Commands.{start}
use Rattle.verdict.specs.Steps.{State, emptied, begun, Step, next, stop, spent}
use Rattle.verdict.specs.Check.{step, after_step, commands, after_clause, clauses, check_after_header, verdict}
use Rattle.verdict.specs.Taken.{Function, Meant}
use Rattle.verdict.specs.Run.{Making, opened, made, command_in, next_in, CommandTaken, Reached, begins, goes, Ended, no_header}
use Rattle.verdict.specs.Run.{not-read, no_room, stopped, tried}
use Rattle.verdict.proofs.Standing.{Standing}
use Rattle.verdict.proofs.Commands.{step-taken, Fit, command-fit, start-within, command-goes, step-standing}
use Rattle.verdict.proofs.Clauses.{underway}

module _ (mode : Mode) (s : ℕ) (text proof : List ℕ) where
  -- The place of a reached state's command lies in the proof.
  pub reached-in : {n : ℕ} {st : State} {at : ℕ} {m : Meant} → Reached mode s text proof n st at m → at ≤ length proof
  reached-in (begins M) = start-within mode.form proof
  reached-in {n} (goes {st} {st'} {at} R T) = (command-goes mode.consequence mode.form proof n s st st' at (reached-in R) T).1

  pub reached-fit : {n : ℕ} {st : State} {at : ℕ} {m : Meant} → Reached mode s text proof n st at m →
      Fit mode.form n (command_in mode proof n at)
  reached-fit {n} {st} {at} R = command-fit mode.form proof n at (reached-in R)

  -- What holds in every reached state.
  pub reached-standing : {n : ℕ} {st : State} {at : ℕ} {m : Meant} → Reached mode s text proof n st at m → (n ≤ 64) × Standing s n m st
  reached-standing {n} (begins {many} M) = let Y = underway s text n many M in (Y.narrow, Y.standing)
  reached-standing {n} (goes {st} {st'} {at} R T) =
      let (narrow, S) = reached-standing R in (
        narrow,
        step-standing S narrow mode.consequence mode.form (command_in mode proof n at)
            (reached-fit R) st' T,
      )

  -- ---- commands

  commands-ended : (n steps : ℕ) (st : State) (at : ℕ) (m : Meant) → Reached mode s text proof n st at m → length proof - at < steps
      → Ended mode s text proof (commands steps mode n s proof st at)
  unfolding commands
  commands-ended n zero st at m R enough = absurd (omega (arith, reached-in R))
  commands-ended n (suc steps) st at m R enough = go (step mode.consequence n s st (command_in mode proof n at)) refl
      (commands-ended n steps)
    where
      next-at : ℕ
      next-at = next_in mode proof n at

      go : (x : Step) → step mode.consequence n s st (command_in mode proof n at) ≡ x
          → ((st' : State) (at' : ℕ) (m' : Meant) → Reached mode s text proof n st' at' m' → length proof - at' < steps →
          Ended mode s text proof (commands steps mode n s proof st' at'))
          → Ended mode s text proof (after_step x st at (λ st'. commands steps mode n s proof st' next-at))
      go (stop number offset) e rec = stopped R e
      go (spent number peak) e rec = tried R e
      go (next st') e rec =
          let T : CommandTaken mode.consequence n s st (command_in mode proof n at) st' =
          step-taken mode.consequence n s st (command_in mode proof n at) st' e in
          let (on, inside) = command-goes mode.consequence mode.form proof n s st st' at (reached-in R) T in
          rec st' next-at _ (goes R T) (omega (arith, on, inside))

  -- ---- the formula

  module _ (n many : ℕ) where
    clauses-ended : (r : Reading) (t : List Node) (ms : List ℕ) (fs : List Function) → Making s text n many t ms fs r →
        Ended mode s text proof (clauses mode n s proof t ms r)
    unfolding clauses
    clauses-ended complete t ms fs M = commands-ended n (suc (length proof)) (begun t ms) (start mode.form proof) _ (begins M)
        (omega arith)
    clauses-ended (refusal number place) t ms fs M = not-read M
    clauses-ended (clause ls first rest) t ms fs M = go (place s t (meaning.clause n ls)) refl (clauses-ended rest)
      where
        go : (p : Placing) → place s t (meaning.clause n ls) ≡ p
            → ((t₁ : List Node) (ms₁ : List ℕ) (fs₁ : List Function) → Making s text n many t₁ ms₁ fs₁ rest →
            Ended mode s text proof (clauses mode n s proof t₁ ms₁ rest))
            → Ended mode s text proof (after_clause p (λ t₁ k. clauses mode n s proof t₁ (ms ++ k ∷ []) rest) first)
        go (full t₁) e rec = no_room M e
        go (placed t₁ k) e rec = rec t₁ (ms ++ k ∷ []) _ (made M e)

  -- The verdict is what the end leaves.
  pub ended : Ended mode s text proof (verdict mode s text proof)
  unfolding verdict
  ended = go (header text) refl
    where
      go : (h : Header) → header text ≡ h → Ended mode s text proof (check_after_header mode s text proof h)
      go (Proper n many at) e = clauses-ended n many (clauses_from text n many at) emptied [] [] (opened e)
      go (Improper number place) e = no_header e
