-- An added clause that is refused with 19: its last try finds room and is not shown. The last try is the second; the empty clause, and a
-- clause in the consequence profile, have the first alone. A case on each test. Assumes nothing.
use mathlib.Core.Path.{◌≡◌, refl}
use mathlib.Core.Bool.{Bool, true, false, not, cond}
use mathlib.Core.List.{List, [], ◌∷◌}
use Prim.Native.Nat.{ℕ, max}
use lib.Dec.{leb}
use Rattle.meaning.specs.Diagram.{leaf, same}
use Rattle.meaning.specs.Operations as meaning
use Rattle.meaning.specs.Rules.{Line, rup}
use Rattle.table.specs.Nodes.{Node, Placing, full, placed, place}
use Rattle.table.specs.Making.{line_reach}
use Rattle.verdict.specs.Steps.{State, with_entry, Step, next, spent, accepted, judged, live_members}
use Rattle.verdict.specs.Clausal.{with_peak, judged_or, second_line, second_try, after_first, tries, once_made, add_step}
use Rattle.verdict.proofs.Steps.{past-early, spent-other, next-not-spent}

-- The line of the last try, in the state with the clause's diagram made.
abbrev pub last_line : Bool → ℕ → State → List meaning.Literal → Line
last_line true n st ls = rup n (live_members st) (meaning.clause n ls)
last_line false n st [] = rup n (live_members st) (meaning.clause n [])
last_line false n st (p ∷ ls) = second_line n (live_members st) p ls

abbrev pub Fails : ℕ → List Node → Line → Type 0
Fails s t line = ((line_reach s t line).fits ≡ true) × (line.shown ≡ false)

-- The clause's diagram has its place, and the last try fails.
pub record LastTry (profile : Bool) (n s : ℕ) (st : State) (ls : List meaning.Literal) : Type 0 where
  pub nodes : List Node
  pub node : ℕ
  pub room : place s st.nodes (meaning.clause n ls) ≡ placed nodes node
  pub fails : Fails s nodes (last_line profile n (with_entry st nodes node) ls)

module _ (s peak : ℕ) where
  -- a line that is judged
  judged-fails : (st : State) (g : ℕ) (line : Line) → judged s st g line ≡ spent 19 peak → Fails s st.nodes line
  unfolding judged
  judged-fails st g line e = go (line_reach s st.nodes line).fits line.shown refl refl e
    where
      top : ℕ
      top = max st.peak (line_reach s st.nodes line).peak

      go : (a b : Bool) → (line_reach s st.nodes line).fits ≡ a → line.shown ≡ b
          → cond (not a) (spent 23 top) (cond (not b) (spent 19 top) (next (accepted st g line top))) ≡ spent 19 peak
          → Fails s st.nodes line
      go true false f h e = (f, h)
      go true true f h e = next-not-spent (accepted st g line top) e
      go false b f h e = spent-other 23 top refl e

  -- the first try, and what comes behind it
  first-fails : (otherwise : ℕ → Step) (st : State) (g : ℕ) (line : Line) → judged_or otherwise s st g line ≡ spent 19 peak
      → Fails s st.nodes line × (otherwise (max st.peak (line_reach s st.nodes line).peak) ≡ spent 19 peak)
  unfolding judged_or
  first-fails otherwise st g line e = go (line_reach s st.nodes line).fits line.shown refl refl e
    where
      top : ℕ
      top = max st.peak (line_reach s st.nodes line).peak

      go : (a b : Bool) → (line_reach s st.nodes line).fits ≡ a → line.shown ≡ b
          → cond (not a) (spent 23 top) (cond (not b) (otherwise top) (next (accepted st g line top))) ≡ spent 19 peak
          → Fails s st.nodes line × (otherwise top ≡ spent 19 peak)
      go true false f h e = ((f, h), e)
      go true true f h e = next-not-spent (accepted st g line top) e
      go false b f h e = spent-other 23 top refl e

  module _ (n : ℕ) where
    last-fails : (profile : Bool) (st : State) (k : ℕ) (ls : List meaning.Literal) (top : ℕ)
        → Fails s st.nodes (rup n (live_members st) (meaning.clause n ls)) → after_first profile n s st k ls top ≡ spent 19 peak
        → Fails s st.nodes (last_line profile n st ls)
    unfolding after_first second_try
    last-fails true st k ls top F e = F
    last-fails false st k [] top F e = F
    last-fails false st k (p ∷ ls) top F e = judged-fails (with_peak st top) k (second_line n (live_members st) p ls) e

    tries-fail : (profile : Bool) (st : State) (k : ℕ) (ls : List meaning.Literal) → tries profile n s st k ls ≡ spent 19 peak
        → Fails s st.nodes (last_line profile n st ls)
    unfolding tries
    tries-fail profile st k ls e =
        let (F, rest) = first-fails (after_first profile n s st k ls) st k (rup n (live_members st) (meaning.clause n ls)) e in
        last-fails profile st k ls _ F rest

    -- THEOREM: an added clause is refused with 19 by its last try, which finds room and is not shown.
    pub refused-clause : (profile : Bool) (st : State) (ls : List meaning.Literal) → add_step profile n s st ls ≡ spent 19 peak
        → LastTry profile n s st ls
    unfolding add_step
    refused-clause profile st ls e =
        let (_, after-lines) = past-early (leb 1024 st.lines) 22 0 _ e in
        let (_, after_one) = past-early (same (meaning.clause n ls) (leaf true)) 17 0 _ after-lines in
        go (place s st.nodes (meaning.clause n ls)) refl after_one
      where
        go : (p : Placing) → place s st.nodes (meaning.clause n ls) ≡ p
            → once_made st p (λ st₁ k. tries profile n s st₁ k ls) ≡ spent 19 peak → LastTry profile n s st ls
        go (full t) q e = spent-other 23 _ refl e
        go (placed t k) q e = record { nodes = t; node = k; room = q; fails = tries-fail profile (with_entry st t k) k ls e }
