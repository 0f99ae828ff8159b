-- A clause that a text adds is accepted exactly where RUP or RAT over clauses accepts it, the table having room. The idea: the step asks
-- the two
-- tries one after the other, and clausal/proofs/Tries says what they come to. Assumes nothing.
use mathlib.Core.Path.{◌≡◌, refl, sym, subst}
use mathlib.Core.Logic.{◌↔◌}
use mathlib.Core.Bool.{Bool, true, false, not, ◌||◌, cond}
use mathlib.Core.List.{List, [], ◌∷◌, map}
use Prim.Native.Nat.{ℕ}
use borrow.Author.Tests.{lt-leb}
use Rattle.meaning.specs.Diagram.{Diagram}
use Rattle.meaning.specs.Operations as meaning
use Rattle.meaning.specs.Rules.{Line, rup}
use Rattle.meaning.proofs.Booleans.{t≢f}
use Rattle.meaning.specs.Literals.{OfVariables}
use Rattle.table.specs.Making.{line_reach}
use Rattle.table.specs.Nodes.{Node}
use Rattle.clausal.specs.Drat.{Plain, AllPlain, Accepted}
use Rattle.clausal.specs.Literals.{Clause}
use Rattle.clausal.specs.Shown.{shown_by}
use Rattle.clausal.proofs.Literals.{AllOfVariables}
use Rattle.clausal.proofs.Rest.{plain-not-one}
use Rattle.clausal.proofs.Tries.{two-tries}
use Rattle.verdict.specs.Steps.{State, Step, next, spent, judged, live_members}
use Rattle.verdict.specs.Steps.{with_entry}
use Rattle.verdict.specs.Clausal.{judged_or, second_line, second_try, after_first, tries, add_step}
use Rattle.verdict.specs.ClauseTaken.{GoesOn, HasRoom}

-- A record's line is judged so, with 19 where it is not shown.
pub judged-is : (s : ℕ) (st : State) (g : ℕ) (line : Line) → judged s st g line ≡ judged_or (spent 19) s st g line
unfolding judged judged_or
judged-is s st g line = refl

module _ (n s : ℕ) (st : State) (t : List Node) (k : ℕ) where
  abbrev after : State
  after = with_entry st t k

  -- the step once its tests are past
  step_is : (c : Clause) → OfVariables n c → Plain c → HasRoom n s st c t k → add_step false n s st c ≡ tries false n s after k c
  unfolding add_step
  step_is c w plain R = rw (lt-leb 1024 st.lines R.few, plain-not-one n c w plain, R.made) refl

  -- what the tries come to
  tries-shown : (c : Clause) → HasRoom n s st c t k
      → (GoesOn (tries false n s after k c) → shown_by n (live_members after) c ≡ true)
      × (shown_by n (live_members after) c ≡ true → GoesOn (tries false n s after k c))
  unfolding tries judged_or after_first second_try judged shown_by
  tries-shown [] R = rw R.first_fits (go (rup n (live_members after) (meaning.clause n [])).shown _ _)
    where
      go : (b : Bool) (x : State) (peak : ℕ) → (GoesOn (cond (not b) (spent 19 peak) (next x)) → b ≡ true)
          × (b ≡ true → GoesOn (cond (not b) (spent 19 peak) (next x)))
      go true x peak = ((λ g. refl), (λ e. tt))
      go false x peak = ((λ g. absurd g), (λ e. t≢f (sym e)))
  tries-shown (p ∷ ls) R =
      rw R.first_fits (go (rup n (live_members after) (meaning.clause n (p ∷ ls))).shown (second_line n (live_members after) p ls).shown
      (line_reach s t (second_line n (live_members after) p ls)).fits R.second_fits _ _ _)
    where
      judged_by : (a b fits : Bool) (x y : State) (peak : ℕ) → Step
      judged_by a b fits x y peak = cond (not a) (cond (not fits) (spent 23 peak) (cond (not b) (spent 19 peak) (next y))) (next x)

      go : (a b fits : Bool) → (a ≡ false → fits ≡ true) → (x y : State) (peak : ℕ)
          → (GoesOn (judged_by a b fits x y peak) → (a || b) ≡ true) × ((a || b) ≡ true → GoesOn (judged_by a b fits x y peak))
      go true b fits room x y peak = ((λ g. refl), (λ e. tt))
      go false b false room x y peak = t≢f (sym (room refl))
      go false true true room x y peak = ((λ g. refl), (λ e. tt))
      go false false true room x y peak = ((λ g. absurd g), (λ e. t≢f (sym e)))

  -- THEOREM: "for clauses and members without both signs of a variable the two tries accept exactly what RUP and RAT over clauses accept,
  -- the
  -- table having room." F are the clauses of the live members.
  pub clause-accepted : (F : List Clause) → live_members (with_entry st t k) ≡ map (meaning.clause n) F → AllOfVariables n F → AllPlain F
      → (c : Clause) → OfVariables n c → Plain c → HasRoom n s st c t k → GoesOn (add_step false n s st c) ↔ Accepted F c
  clause-accepted F live within plains c w plain R =
      let T = two-tries n F within plains c w plain in
      let S = tries-shown c R in (
        (λ g. T.0 (subst (λ (xs : List Diagram). shown_by n xs c ≡ true) live (S.0 (subst GoesOn (step_is c w plain R) g)))),
        (λ a. subst GoesOn (sym (step_is c w plain R)) (S.1 (subst (λ (xs : List Diagram). shown_by n xs c ≡ true) (sym live) (T.1 a)))),
      )
