-- The theorem that 02's 4/14 asks for, over the states that a check reaches: with room, an added clause is taken exactly where RUP or RAT
-- over clauses
-- accepts it, else it is 19. The idea: the live members' diagrams are those of the live clauses (TextMembers). Assumes nothing.
use mathlib.Core.Path.{◌≡◌, refl, sym, subst}
use mathlib.Core.Logic.{◌⊎◌, inl, inr, ◌↔◌}
use mathlib.Core.Bool.{Bool, true, false, not, cond}
use mathlib.Core.List.{List, [], ◌∷◌}
use Prim.Native.Nat.{ℕ}
use borrow.Author.Tests.{lt-leb}
use Rattle.meaning.specs.Literals.{OfVariables}
use Rattle.meaning.proofs.Booleans.{t≢f}
use Rattle.table.specs.Nodes.{Node}
use Rattle.table.specs.Making.{line_reach}
use Rattle.clausal.specs.Drat.{Plain, AllPlain, Accepted}
use Rattle.clausal.specs.Literals.{Clause}
use Rattle.clausal.proofs.Rest.{plain-not-one}
use Rattle.commands.specs.declared.Form.{Form}
use Rattle.commands.specs.Commands.{Command, added, is_drat, in_form}
use Rattle.verdict.specs.Steps.{State, with_entry, Step, next, spent, judged, live_members}
use Rattle.verdict.specs.Clausal.{judged_or, second_line, second_try, after_first, tries, add_step}
use Rattle.verdict.specs.Check.{step}
use Rattle.verdict.specs.Taken.{Meant}
use Rattle.verdict.specs.ClauseTaken.{first_line, GoesOn, HasRoom}
use Rattle.verdict.specs.Run.{command_in, Reached}
use Rattle.verdict.proofs.Commands.{DratFit}
use Rattle.verdict.proofs.Ends.{reached-fit, reached-standing}
use Rattle.verdict.proofs.Added as Added
use Rattle.demands.specs.Texts.{clauses_before, live_clauses}
use Rattle.demands.proofs.TextMembers.{Stands, fit-drat, drat-stands, drat-live, within-unstruck}

pub added-exactly : (form : Form) → is_drat form ≡ true → (s : ℕ) (text proof : List ℕ) {n : ℕ} {st : State} {at : ℕ} {m : Meant} →
    Reached (in_form form false) s text proof n st at m
    → (c : Clause) → command_in (in_form form false) proof n at ≡ added c → AllPlain (live_clauses (in_form form false) text proof at) →
    Plain c → (t : List Node) (k : ℕ) → HasRoom n s st c t k
    → GoesOn (step false n s st (command_in (in_form form false) proof n at)) ↔ Accepted (live_clauses (in_form form false) text proof at) c
unfolding step
added-exactly form drat s text proof {n} {st} {at} R c is plains plain t k room =
    let (narrow, S) = reached-standing (in_form form false) s text proof R in
    let M : Stands n st (clauses_before (in_form form false) text proof at) = drat-stands (in_form form false) drat s text proof R in
    let w : OfVariables n c = subst (DratFit form n) is
    (fit-drat form drat n (command_in (in_form form false) proof n at) (reached-fit (in_form form false) s text proof R)) in
    subst (λ (x : Command). GoesOn (step false n s st x) ↔ Accepted (live_clauses (in_form form false) text proof at) c) (sym is)
    (Added.added-exactly S narrow (live_clauses (in_form form false) text proof at) (drat-live (in_form form false) drat s text proof R)
    (within-unstruck n (clauses_before (in_form form false) text proof at).marks
    (clauses_before (in_form form false) text proof at).clauses M.literals)
    plains c w plain t k room)

-- ---- else 19

-- with room a clause is taken or is 19
module _ (n s : ℕ) (st : State) (t : List Node) (k : ℕ) where
  abbrev Ends : Step → Type 0
  Ends x = GoesOn x ⊎ ((peak : ℕ) × (x ≡ spent 19 peak))

  tries-end : (c : Clause) → HasRoom n s st c t k → Ends (tries false n s (with_entry st t k) k c)
  unfolding tries judged_or after_first second_try judged
  tries-end [] R = rw R.first_fits (go (first_line n (with_entry st t k) []).shown _ _)
    where
      go : (b : Bool) (x : State) (peak : ℕ) → Ends (cond (not b) (spent 19 peak) (next x))
      go true x peak = inl tt
      go false x peak = inr (peak, refl)
  tries-end (p ∷ ls) R =
      rw R.first_fits (go (first_line n (with_entry st t k) (p ∷ ls)).shown (second_line n (live_members (with_entry st t k)) p ls).shown
      (line_reach s t (second_line n (live_members (with_entry st t k)) p ls)).fits R.second_fits _ _ _)
    where
      go : (a b fits : Bool) → (a ≡ false → fits ≡ true) → (x y : State) (peak : ℕ)
          → Ends (cond (not a) (cond (not fits) (spent 23 peak) (cond (not b) (spent 19 peak) (next y))) (next x))
      go true b fits room x y peak = inl tt
      go false b false room x y peak = t≢f (sym (room refl))
      go false true true room x y peak = inl tt
      go false false true room x y peak = inr (peak, refl)

  added-end : (c : Clause) → OfVariables n c → Plain c → HasRoom n s st c t k → Ends (add_step false n s st c)
  unfolding add_step
  added-end c w plain R = rw (lt-leb 1024 st.lines R.few, plain-not-one n c w plain, R.made) (tries-end c R)

pub added-refused : (form : Form) → is_drat form ≡ true → (s : ℕ) (text proof : List ℕ) {n : ℕ} {st : State} {at : ℕ} {m : Meant} →
    Reached (in_form form false) s text proof n st at m
    → (c : Clause) → command_in (in_form form false) proof n at ≡ added c → AllPlain (live_clauses (in_form form false) text proof at) →
    Plain c → (t : List Node) (k : ℕ) → HasRoom n s st c t k
    → (Accepted (live_clauses (in_form form false) text proof at) c → ⊥) → (peak : ℕ)
    × (step false n s st (command_in (in_form form false) proof n at) ≡ spent 19 peak)
unfolding step
added-refused form drat s text proof {n} {st} {at} R c is plains plain t k room other =
    go (subst (λ (x : Command). Ends n s st t k (step false n s st x)) (sym is)
    (added-end n s st t k c (subst (DratFit form n) is
    (fit-drat form drat n (command_in (in_form form false) proof n at) (reached-fit (in_form form false) s text proof R))) plain room))
  where
    go : Ends n s st t k (step false n s st (command_in (in_form form false) proof n at)) → (peak : ℕ)
        × (step false n s st (command_in (in_form form false) proof n at) ≡ spent 19 peak)
    go (inl on) = absurd (other ((added-exactly form drat s text proof R c is plains plain t k room).0 on))
    go (inr found) = found
