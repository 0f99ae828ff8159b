-- Where `ending` says that the check ends is where its verdict is given. The idea: the two go through the same clauses and commands.
-- Assumes nothing.
use mathlib.Core.Path.{◌≡◌, refl}
use mathlib.Core.List.{List, [], ◌∷◌, ◌++◌}
use Prim.Native.Nat.{ℕ, zero, suc, ◌-◌, ◌≤◌, ◌<◌}
use native.Mathlib.Omega.{arith}
use lib.ListN.{length}
use Rattle.meaning.specs.Operations as meaning
use Rattle.table.specs.Nodes.{Node, Placing, full, placed, place}
use Rattle.dimacs.specs.Header.{Header, Proper, Improper, header}
use Rattle.dimacs.specs.Clauses.{Next, closed, refused, next_clause, Reading, clause, complete, refusal, reading_then, clauses_from}
use Rattle.dimacs.specs.Clauses as dimacs
use Rattle.dimacs.proofs.Bounds.{HeaderIn, header-in, NextIn, next-in}
use Rattle.commands.specs.declared.Mode.{Mode}
use Rattle.commands.specs.Commands.{start}
use Rattle.verdict.specs.Steps.{State, emptied, begun, Step, next, stop, spent}
use Rattle.verdict.specs.Check.{step, after_step, commands, after_clause, clauses, check_after_header, verdict}
use Rattle.verdict.specs.Taken.{Function, Meant}
use Rattle.verdict.specs.Run.{Making, opened, made, command_in, next_in, CommandTaken, Reached, begins, goes}
use Rattle.verdict.proofs.Commands.{step-taken, command-goes}
use Rattle.verdict.proofs.Ends.{reached-in}
use Rattle.verdict.proofs.Formula.{NamedHeader, header-named}
use Rattle.verdict.proofs.Numbers.{making-refused}
use Rattle.causes.specs.Explanation.{ended, ends_after, commands_ending, after_placing, clauses_ending, ending_after_header}
use Rattle.causes.specs.Explanation.{ending}
use Rattle.causes.specs.Shows.{EndsAt, formula-refused, proof-stopped, proof-spent}

-- ---- the places of a formula that is refused

-- Every refusal, and every clause's first token, lies in the text.
abbrev Places : List ℕ → Reading → Type 0
Places s (clause ls first rest) = (first ≤ length s) × Places s rest
Places s complete = Unit {0}
Places s (refusal number place) = place ≤ length s

then-placed : (s : List ℕ) (n : ℕ) (x : Next) (rest : ℕ → Reading) → NextIn s n x → ((at : ℕ) → at ≤ length s → Places s (rest at)) →
    Places s (reading_then x rest)
then-placed s n (closed ls first at) rest i h = (omega (arith, i.0), h at i.1)
then-placed s n dimacs.ended rest i h = tt
then-placed s n (refused number place) rest i h = i

clauses-placed : (s : List ℕ) (n left at : ℕ) → at ≤ length s → Places s (clauses_from s n left at)
unfolding clauses_from
clauses-placed s n zero at h = then-placed s n (next_clause s n zero at) (λ at. complete) (next-in s n zero at h) (λ at k. tt)
clauses-placed s n (suc left) at h = then-placed s n (next_clause s n (suc left) at) (λ at. clauses_from s n left at)
    (next-in s n (suc left) at h) (λ at k. clauses-placed s n left at k)

module _ (mode : Mode) (s : ℕ) (text proof : List ℕ) where
  commands-end : (n steps : ℕ) (st : State) (at : ℕ) (m : Meant) → Reached mode s text proof n st at m → length proof - at < steps
      → EndsAt mode s text proof (commands steps mode n s proof st at) (commands_ending steps mode n s proof st at)
  unfolding commands commands_ending
  commands-end n zero st at m R enough = absurd (omega (arith, reached-in mode s text proof R))
  commands-end n (suc steps) st at m R enough = go (step mode.consequence n s st (command_in mode proof n at)) refl (commands-end n steps)
    where
      next-at : ℕ
      next-at = next_in mode proof n at

      go : (x : Step) → step mode.consequence n s st (command_in mode proof n at) ≡ x
          → ((st' : State) (at' : ℕ) (m' : Meant) → Reached mode s text proof n st' at' m' → length proof - at' < steps
          → EndsAt mode s text proof (commands steps mode n s proof st' at') (commands_ending steps mode n s proof st' at'))
          → EndsAt mode s text proof (after_step x st at (λ st'. commands steps mode n s proof st' next-at))
          (ends_after x (ended n st at) (λ st'. commands_ending steps mode n s proof st' next-at))
      go (stop number offset) e rec = proof-stopped R e
      go (spent number peak) e rec = proof-spent R e
      go (next st') e rec =
          let T : CommandTaken mode.consequence n s st (command_in mode proof n at) st' =
          step-taken mode.consequence n s st (command_in mode proof n at) st' e in
          let (on, inside) = command-goes mode.consequence mode.form proof n s st st' at (reached-in mode s text proof R) T in
          rec st' next-at _ (goes R T) (omega (arith, on, inside))

  module _ (n many : ℕ) where
    clauses-end : (r : Reading) (t : List Node) (ms : List ℕ) (fs : List Function) → Places text r → Making s text n many t ms fs r
        → EndsAt mode s text proof (clauses mode n s proof t ms r) (clauses_ending mode n s proof t ms r)
    unfolding clauses clauses_ending
    clauses-end complete t ms fs p M = commands-end n (suc (length proof)) (begun t ms) (start mode.form proof) _ (begins M)
        (omega arith)
    clauses-end (refusal number place) t ms fs p M = let early = making-refused s text M in
        formula-refused (early.0, omega (arith, early.1)) p
    clauses-end (clause ls first rest) t ms fs p M = go (place s t (meaning.clause n ls)) refl
        (λ t₁ ms₁ fs₁. clauses-end rest t₁ ms₁ fs₁ p.1)
      where
        go : (x : Placing) → place s t (meaning.clause n ls) ≡ x
            → ((t₁ : List Node) (ms₁ : List ℕ) (fs₁ : List Function) → Making s text n many t₁ ms₁ fs₁ rest
            → EndsAt mode s text proof (clauses mode n s proof t₁ ms₁ rest) (clauses_ending mode n s proof t₁ ms₁ rest))
            → EndsAt mode s text proof (after_clause x (λ t₁ k. clauses mode n s proof t₁ (ms ++ k ∷ []) rest) first)
            (after_placing x (λ t₁ k. clauses_ending mode n s proof t₁ (ms ++ k ∷ []) rest))
        go (full t₁) e rec = formula-refused {number = 8} (omega arith, omega arith) p.0
        go (placed t₁ k) e rec = rec t₁ (ms ++ k ∷ []) _ (made M e)

  -- THEOREM: the ending is where the verdict is given.
  pub ending-is : EndsAt mode s text proof (verdict mode s text proof) (ending mode s text proof)
  unfolding verdict ending
  ending-is = go (header text) refl (header-in text) (header-named text)
    where
      go : (h : Header) → header text ≡ h → HeaderIn text h → NamedHeader h →
          EndsAt mode s text proof (check_after_header mode s text proof h) (ending_after_header mode s text proof h)
      go (Proper n many at) e i named = clauses-end n many (clauses_from text n many at) emptied [] [] (clauses-placed text n many at i.2)
          (opened e)
      go (Improper number place) e i named = formula-refused (named.0, omega (arith, named.1)) i
