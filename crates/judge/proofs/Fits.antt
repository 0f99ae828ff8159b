-- What a line reaches, whether it finds room and how far, told from the parts that the code makes one after another. The idea: a turn's
-- diagrams are placed as one list, and members without a turn make nothing. Assumes nothing.
use mathlib.Core.Path.{◌≡◌, refl, sym, ap, ◌∙◌}
use mathlib.Core.Bool.{Bool, true, false, ◌&&◌, cond}
use mathlib.Core.List.{List, [], ◌∷◌, ◌++◌}
use Prim.Native.Nat.{ℕ, ◌+◌}
use native.Mathlib.Omega.{arith}
use lib.ListN.{length}
use Rattle.meaning.specs.Diagram.{Diagram, leaf, same}
use Rattle.meaning.specs.Operations.{negation, cofactor_literals}
use Rattle.meaning.specs.Rules.{Propagation, Line, unit_prop, by_diagram, base, rup, after_turn, pr_turns}
use Rattle.meaning.proofs.Booleans.{t≢f, and-true}
use Rattle.table.specs.Nodes.{Node}
use Rattle.table.specs.Making.{placed_all, Reach, reached, then_reach, turns_reach, kept_reach, line_reach}
use Rattle.table.proofs.PlacedAll.{after_nothing, turns-peak, one-reach, both-reach}

-- ---- RUP

abbrev pub propagation : ℕ → List Diagram → Diagram → Propagation
propagation n ms g = unit_prop n (by_diagram n (negation n g) ms)

module _ (s : ℕ) (t : List Node) (n : ℕ) (ms : List Diagram) (g : Diagram) where
  pub rup-reach : line_reach s t (rup n ms g) ≡ reached (placed_all s t (base n ms g ++ (propagation n ms g).made))
  unfolding rup line_reach
  rup-reach = sym (both-reach s t (base n ms g) (propagation n ms g).made (placed_all s t (base n ms g)) refl)

-- ---- PR

-- The line of no turn.
abbrev pub nothing : Line
nothing = record { shown = true; rounds = 0; kept = []; turns = [] }

module _ (n : ℕ) (P N : ℕ → Bool) (ms' : List Diagram) where
  -- the line of one turn and the later ones
  abbrev turn_of : Diagram → Line → Line
  turn_of h rest = after_turn (propagation n ms' h) (h ∷ base n ms' h) rest

  kept-cond : (b : Bool) (h : Diagram) (rest : Line) → rest.kept ≡ [] → (cond b rest (turn_of h rest)).kept ≡ []
  unfolding after_turn
  kept-cond true h rest e = e
  kept-cond false h rest e = refl

  -- nothing that the turns make stays
  turns-kept : (fs : List Diagram) → (pr_turns n P N ms' fs).kept ≡ []
  unfolding pr_turns
  turns-kept [] = refl
  turns-kept (f ∷ fs) = kept-cond (same (cofactor_literals n P N f) (leaf true)) (cofactor_literals n P N f) (pr_turns n P N ms' fs)
      (turns-kept fs)

  pub turns-reach : (s : ℕ) (t : List Node) (fs : List Diagram) → line_reach s t (pr_turns n P N ms' fs)
      ≡ turns_reach s (pr_turns n P N ms' fs).turns t
  unfolding line_reach placed_all
  turns-reach s t fs = ap (λ (kept : List Diagram). kept_reach s (pr_turns n P N ms' fs).turns (placed_all s t kept)) (turns-kept fs)

  -- ---- one member

  module _ (f : Diagram) where
    -- h is 1
    pub constant-turn : same (cofactor_literals n P N f) (leaf true) ≡ true → pr_turns n P N ms' (f ∷ []) ≡ nothing
    unfolding pr_turns
    constant-turn e = rw e

    module _ (e : same (cofactor_literals n P N f) (leaf true) ≡ false) where
      one-turn : pr_turns n P N ms' (f ∷ []) ≡ turn_of (cofactor_literals n P N f) nothing
      unfolding pr_turns
      one-turn = rw e

      pub turn-shown : (pr_turns n P N ms' (f ∷ [])).shown ≡ (rup n ms' (cofactor_literals n P N f)).shown
      unfolding after_turn rup
      turn-shown = ap (λ (L : Line). L.shown) one-turn ∙ and-true (propagation n ms' (cofactor_literals n P N f)).conflict

      pub turn-rounds : (pr_turns n P N ms' (f ∷ [])).rounds ≡ (rup n ms' (cofactor_literals n P N f)).rounds
      unfolding after_turn rup
      turn-rounds = ap (λ (L : Line). L.rounds) one-turn ∙ go (propagation n ms' (cofactor_literals n P N f))
        where
          go : (p : Propagation) → cond p.conflict (p.rounds + 0) p.rounds ≡ p.rounds
          go p = choose p.conflict p.rounds
            where
              choose : (b : Bool) (m : ℕ) → cond b (m + 0) m ≡ m
              choose true m = omega arith
              choose false m = refl

      pub turn-reach : (s : ℕ) (t : List Node) → line_reach s t (pr_turns n P N ms' (f ∷ []))
          ≡ reached (placed_all s t (cofactor_literals n P N f ∷
          (base n ms' (cofactor_literals n P N f) ++ (propagation n ms' (cofactor_literals n P N f)).made)))
      unfolding after_turn
      turn-reach s t =
          turns-reach s t (f ∷ [])
          ∙ ap (λ (L : Line). turns_reach s L.turns t) one-turn
          ∙ go (propagation n ms' (cofactor_literals n P N f)).conflict
        where
          h : Diagram
          h = cofactor_literals n P N f

          Ds : List Diagram
          Ds = h ∷ (base n ms' h ++ (propagation n ms' h).made)

          go : (b : Bool) → turns_reach s (Ds ∷ cond b [] []) t ≡ reached (placed_all s t Ds)
          go true = one-reach s Ds t
          go false = one-reach s Ds t

-- ---- a member and those after it

-- One member's line, that of the later ones, and that of all: where its turn conflicts the later ones follow, else it is the last.
pub record GoesOn (s : ℕ) (t : List Node) (one rest all : Line) : Type 0 where
  pub shown : all.shown ≡ rest.shown
  pub rounds : all.rounds ≡ one.rounds + rest.rounds
  pub reach : turns_reach s all.turns t ≡ then_reach (turns_reach s one.turns t) (turns_reach s rest.turns t)

pub record Stops (s : ℕ) (t : List Node) (one all : Line) : Type 0 where
  pub shown : all.shown ≡ false
  pub rounds : all.rounds ≡ one.rounds
  pub reach : turns_reach s all.turns t ≡ turns_reach s one.turns t

-- A turn taken apart: whether h is 1, and if not whether it conflicts, its rounds and what it makes.
abbrev turned : Bool → Bool → ℕ → List Diagram → Line → Line
turned constant conflict rounds made rest =
    cond constant rest (record {
      shown = conflict && rest.shown;
      rounds = cond conflict (rounds + rest.rounds) rounds;
      kept = [];
      turns =
          made ∷ cond conflict rest.turns [];
    })

module _ (s : ℕ) (t : List Node) where
  turned_on : (b c : Bool) (m : ℕ) (ds : List Diagram) (L : Line) → (turned b c m ds nothing).shown ≡ true →
      GoesOn s t (turned b c m ds nothing) L (turned b c m ds L)
  unfolding turns_reach
  turned_on true c m ds L e = record {
    shown = refl;
    rounds = omega arith;
    reach =
        sym (after_nothing (length t) (turns_reach s L.turns t) (turns-peak s L.turns t));
  }
  turned_on false true m ds L e =
      record {
        shown = refl;
        rounds = omega arith;
        reach = ap (λ (r : Reach). then_reach r (turns_reach s L.turns t))
            (sym (one-reach s ds t));
      }
  turned_on false false m ds L e = t≢f (sym e)

  turned-last : (b c : Bool) (m : ℕ) (ds : List Diagram) (L : Line) → (turned b c m ds nothing).shown ≡ false →
      Stops s t (turned b c m ds nothing) (turned b c m ds L)
  turned-last true c m ds L e = t≢f e
  turned-last false true m ds L e = t≢f e
  turned-last false false m ds L e = record { shown = refl; rounds = refl; reach = refl }

  module _ (n : ℕ) (P N : ℕ → Bool) (ms' : List Diagram) (f : Diagram) (fs : List Diagram) where
    abbrev h : Diagram
    h = cofactor_literals n P N f

    pub goes_on : (pr_turns n P N ms' (f ∷ [])).shown ≡ true → GoesOn s t (pr_turns n P N ms' (f ∷ [])) (pr_turns n P N ms' fs)
        (pr_turns n P N ms' (f ∷ fs))
    unfolding pr_turns after_turn
    goes_on =
        turned_on (same h (leaf true)) (propagation n ms' h).conflict (propagation n ms' h).rounds
        (h ∷ (base n ms' h ++ (propagation n ms' h).made)) (pr_turns n P N ms' fs)

    pub stops : (pr_turns n P N ms' (f ∷ [])).shown ≡ false → Stops s t (pr_turns n P N ms' (f ∷ [])) (pr_turns n P N ms' (f ∷ fs))
    unfolding pr_turns after_turn
    stops =
        turned-last (same h (leaf true)) (propagation n ms' h).conflict (propagation n ms' h).rounds
        (h ∷ (base n ms' h ++ (propagation n ms' h).made)) (pr_turns n P N ms' fs)
