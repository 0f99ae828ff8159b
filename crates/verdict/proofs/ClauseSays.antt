-- The numbers that a clause of a text, and the text's end, can give, each at the first byte: 22 and 17 before a node is made, then 19 and
-- 23; 28; 0 and 20. The idea: each stands in the definition where it is given. Assumes nothing.
use mathlib.Core.Path.{◌≡◌, refl}
use mathlib.Core.Logic.{◌⊎◌, inl, inr}
use mathlib.Core.Bool.{Bool, true, false, not}
use mathlib.Core.List.{List, [], ◌∷◌}
use mathlib.Core.Option.{Option, none, some}
use Prim.Native.Nat.{ℕ}
use lib.ListN.{length}
use lib.Dec.{leb}
use Rattle.meaning.specs.Diagram.{leaf, same}
use Rattle.meaning.specs.Operations as meaning
use Rattle.meaning.specs.Rules.{Line, rup}
use Rattle.table.specs.Nodes.{Placing, full, placed, place}
use Rattle.table.specs.Making.{line_reach}
use Rattle.verdict.specs.Steps.{State, with_entry, Step, next, stop, spent, judged, live_members}
use Rattle.verdict.specs.Clausal.{with_peak, judged_or, second_line, second_try, after_first, tries, once_made, add_step, first_same}
use Rattle.verdict.specs.Clausal.{strike_found, strike_clause}
use Rattle.verdict.specs.Check.{finish}
use Rattle.verdict.specs.Taken.{peak_with}
use Rattle.verdict.proofs.Formula.{either}

-- ---- a clause added

abbrev pub AddedSays : Step → Type 0
AddedSays (next st) = Unit {0}
AddedSays (stop number offset) = ((number ≡ 17) ⊎ (number ≡ 22)) × (offset ≡ 0)
AddedSays (spent number peak) = (number ≡ 19) ⊎ (number ≡ 23)

judged-says : (s : ℕ) (st : State) (g : ℕ) (line : Line) → AddedSays (judged s st g line)
unfolding judged
judged-says s st g line = either AddedSays (not (line_reach s st.nodes line).fits) _ _ (inr refl)
    (either AddedSays (not line.shown) _ _ (inl refl) tt)

second-says : (n s : ℕ) (st : State) (k : ℕ) (ls : List meaning.Literal) (peak : ℕ) → AddedSays (second_try n s st k ls peak)
unfolding second_try
second-says n s st k [] peak = inl refl
second-says n s st k (p ∷ ls) peak = judged-says s (with_peak st peak) k (second_line n (live_members st) p ls)

first_says : (profile : Bool) (n s : ℕ) (st : State) (k : ℕ) (ls : List meaning.Literal) (peak : ℕ) →
    AddedSays (after_first profile n s st k ls peak)
unfolding after_first
first_says true n s st k ls peak = inl refl
first_says false n s st k ls peak = second-says n s st k ls peak

tries-say : (profile : Bool) (n s : ℕ) (st : State) (k : ℕ) (ls : List meaning.Literal) → AddedSays (tries profile n s st k ls)
unfolding tries judged_or
tries-say profile n s st k ls =
    let first : Line = rup n (live_members st) (meaning.clause n ls) in
    either AddedSays (not (line_reach s st.nodes first).fits) _ _ (inr refl)
    (either AddedSays (not first.shown) _ _ (first_says profile n s st k ls (peak_with s st first)) tt)

pub added-says : (profile : Bool) (n s : ℕ) (st : State) (ls : List meaning.Literal) → AddedSays (add_step profile n s st ls)
unfolding add_step
added-says profile n s st ls =
    either AddedSays (leb 1024 st.lines) _ _ (inr refl, refl)
    (either AddedSays (same (meaning.clause n ls) (leaf true)) _ _ (inl refl, refl) (made (place s st.nodes (meaning.clause n ls))))
  where
    made : (p : Placing) → AddedSays (once_made st p (λ st₁ k. tries profile n s st₁ k ls))
    made (full t) = inr refl
    made (placed t k) = tries-say profile n s (with_entry st t k) k ls

-- ---- a clause struck out

abbrev pub StruckSays : Step → Type 0
StruckSays (next st) = Unit {0}
StruckSays (stop number offset) = (number ≡ 28) × (offset ≡ 0)
StruckSays (spent number peak) = ⊥

pub struck-says : (n : ℕ) (st : State) (ls : List meaning.Literal) → StruckSays (strike_clause n st ls)
unfolding strike_clause
struck-says n st ls = go (first_same (length st.members) st 0 (meaning.clause n ls))
  where
    go : (o : Option ℕ) → StruckSays (strike_found st o)
    go none = (refl, refl)
    go (some i) = tt

-- ---- the text's end

abbrev pub FinishSays : Step → Type 0
FinishSays (next st) = ⊥
FinishSays (stop number offset) = ((number ≡ 0) ⊎ (number ≡ 20)) × (offset ≡ 0)
FinishSays (spent number peak) = ⊥

pub finish-says : (st : State) → FinishSays (finish st)
finish-says st = either FinishSays st.refuted (stop 0 0) (stop 20 0) (inl refl, refl) (inr refl, refl)
