-- The step of a clause that a DRAT proof adds or strikes out. (02, 4/14)
use Rattle.std.specs.Prelude.{Bool, true, false, not, ◌&&◌, cond, List, [], ◌∷◌, ℕ, zero, suc, max, length, get_or, set, leb}
use Rattle.std.proofs.Math.Option.{Option, none, some}
use Rattle.meaning.specs.Diagram.{Diagram, leaf, same}
use Rattle.meaning.specs.Operations as meaning
use Rattle.meaning.specs.Rules.{Line, rup, pr}
use Rattle.table.specs.Nodes.{Placing, full, placed, place}
use Rattle.table.specs.Making.{line_reach}
use Rattle.clausal.specs.Literals.{has, without}
use Rattle.clausal.specs.Tries.{makes_true, makes_false, witness}
use Rattle.verdict.specs.Steps.{State, with_entry, with_marks, Step, next, stop, spent, accepted, judged}
use Rattle.verdict.specs.Steps.{diagram_in, unstruck, live_members, is_live}

-- ---- a clause added

-- The state with a greater peak: "the first try's nodes dropped", they count for the peak alone.
abbrev pub with_peak : State → ℕ → State
with_peak st peak = record {
  nodes = st.nodes;
  kept = st.kept;
  members = st.members;
  struck = st.struck;
  entries = st.entries;
  positive = st.positive;
  negative = st.negative;
  lines = st.lines;
  rounds = st.rounds;
  peak = peak;
  refuted = st.refuted;
}

-- A line judged as `judged` does, but for 19: `otherwise` says what comes then, with the greatest count so far.
unfoldable pub judged_or : (ℕ → Step) → ℕ → State → ℕ → Line → Step
unfolding line_reach
judged_or otherwise s st g line =
    let r = line_reach s st.nodes line in
    let peak = max st.peak r.peak in
    let failed = otherwise peak in
    cond (not r.fits) (spent 23 peak) (cond (not line.shown) failed (next (accepted st g line peak)))

-- "as a PR line whose witness makes the pivot true and every other literal of it false"
abbrev pub second_line : ℕ → List Diagram → meaning.Literal → List meaning.Literal → Line
second_line n ms p ls = let ω = witness p (p ∷ ls) in pr n (makes_true ω) (makes_false ω) ms (meaning.clause n (p ∷ ls))

-- The second try, k being the clause's node: "The empty clause has no pivot."
unfoldable pub second_try : ℕ → ℕ → State → ℕ → List meaning.Literal → ℕ → Step
unfolding judged unstruck has without
second_try n s st k [] peak = spent 19 peak
second_try n s st k (p ∷ ls) peak = judged s (with_peak st peak) k (second_line n (live_members st) p ls)

-- What comes after a first try that fails with 19: the second; in the consequence profile "DRAT clauses only by their first try" pass. (02,
-- 11/14)
unfoldable pub after_first : Bool → ℕ → ℕ → State → ℕ → List meaning.Literal → ℕ → Step
unfolding second_try
after_first true n s st k ls peak = spent 19 peak
after_first false n s st k ls peak = second_try n s st k ls peak

-- "A clause is tried as a RUP line; failing with 19, as a PR line"
unfoldable pub tries : Bool → ℕ → ℕ → State → ℕ → List meaning.Literal → Step
unfolding judged_or after_first unstruck
tries profile n s st k ls =
    judged_or (after_first profile n s st k ls) s st k (rup n (live_members st) (meaning.clause n ls))

-- "A clause's diagram is made before the tries and counts as its line's last entry"
abbrev pub once_made : State → Placing → (State → ℕ → Step) → Step
once_made st (full t) rest = spent 23 (max st.peak (length t))
once_made st (placed t k) rest = rest (with_entry st t k) k

-- "A line is refused with [..] 22, 17, then 23 or 19"
unfoldable pub add_step : Bool → ℕ → ℕ → State → List meaning.Literal → Step
unfolding tries
add_step profile n s st ls =
    let g = meaning.clause n ls in
    let made = once_made st (place s st.nodes g) (λ st₁ k. tries profile n s st₁ k ls) in
    cond (leb 1024 st.lines) (stop 22 0) (cond (same g (leaf true)) (stop 17 0) made)

-- ---- a clause struck out

-- Of the k members from place i on the first that is live and the diagram g.
unfoldable pub first_same : ℕ → State → ℕ → Diagram → Option ℕ
unfolding is_live
first_same zero st i g = none
first_same (suc k) st i g =
    let later = first_same k st (suc i) g in
    cond (is_live st i && same (diagram_in st (get_or st.members i 0)) g) (some i) later

-- "an absent clause to strike with 28"
abbrev pub strike_found : State → Option ℕ → Step
strike_found st none = stop 28 0
strike_found st (some i) = next (with_marks st (set st.struck i 1))

-- "A `d` line strikes the live member of lowest place that is the same diagram, and places no node."
unfoldable pub strike_clause : ℕ → State → List meaning.Literal → Step
unfolding first_same
strike_clause n st ls = strike_found st (first_same (length st.members) st 0 (meaning.clause n ls))
