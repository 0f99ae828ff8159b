-- The numbers that the check can give: 1 to 6 and 8 for the formula; 0, 9 to 23, 28 and 29 for a proof in records; 0, 3, 4, 6, 17, 19, 20,
-- 22, 23 and 28 for a text. The idea: each number stands in the definition where it is given. Assumes nothing.
use mathlib.Core.Path.{◌≡◌, refl, subst}
use mathlib.Core.Logic.{◌≢◌, ◌⊎◌, inl, inr}
use mathlib.Core.Bool.{Bool, not, ◌&&◌, ◌||◌, cond}
use mathlib.Core.List.{List}
use Prim.Native.Nat.{ℕ, zero, suc, ◌+◌, ◌≤◌, ◌<◌}
use native.Mathlib.Omega.{arith}
use lib.ListN.{length}
use lib.Dec.{eqb, leb, ltb}
use Rattle.meaning.specs.Rules.{Line, witnessed}
use Rattle.meaning.specs.Words.{in_word}
use Rattle.paths.specs.Paths.{path_count}
use Rattle.table.specs.Nodes.{Node, above, Placing, full, placed, put, place}
use Rattle.table.specs.Making.{line_reach}
use Rattle.dimacs.specs.Clauses.{refusal}
use Rattle.records.specs.declared.NodeBody.{NodeBody}
use Rattle.records.specs.declared.Rule.{Rule}
use Rattle.records.specs.declared.Rule.TheVariants.{Rup, Pr, Path}
use Rattle.records.specs.declared.SetKind.{SetKind}
use Rattle.records.specs.declared.SetBody.{SetBody}
use Rattle.records.specs.declared.Record.{Record}
use Rattle.records.specs.declared.Record.TheVariants.{NodeEntry, Witness, ProofLine, Strike, SetEntry, End, CutShort, UnknownKind}
use Rattle.records.specs.declared.Record.TheVariants.{NoRecord}
use Rattle.commands.specs.declared.Mode.{Mode}
use Rattle.commands.specs.declared.Form.{Form}
use Rattle.commands.specs.declared.Form.TheVariants.{Records, Text, Binary}
use Rattle.commands.specs.Commands.{Command, recorded, added, struck_out, wrong, finished}
use Rattle.verdict.specs.Steps.{State, Step, next, stop, spent, is_entry, entry_node, is_variable, entered, node_step, witness_step}
use Rattle.verdict.specs.Steps.{waiting, judged, diagram_in, line_step, is_live, strike_step, beyond, no_parity, set_diagram, set_step}
use Rattle.verdict.specs.Steps.{end_step}
use Rattle.verdict.specs.Steps.{record_step}
use Rattle.verdict.specs.Clausal.{add_step, strike_clause}
use Rattle.verdict.specs.Check.{finish, shut_out, step, Verdict, left, refused_formula}
use Rattle.verdict.specs.Taken.{Function, Meant, line_of, peak_with}
use Rattle.verdict.specs.Run.{Making, command_in, Reached, Ended, no_header, not-read, no_room, stopped, tried, ProofNumber}
use Rattle.verdict.proofs.Formula.{Early, NamedHeader, header-named, Read, either}
use Rattle.verdict.proofs.Clauses.{Underway, underway}
use Rattle.verdict.proofs.Commands.{binary-fault, Fit}
use Rattle.verdict.proofs.ClauseSays.{AddedSays, StruckSays, FinishSays, added-says, struck-says, finish-says}
use Rattle.verdict.proofs.Ends.{reached-fit}

-- ---- the formula

-- "Order: 7, formula": its numbers.
abbrev pub FormulaNumber : ℕ → Type 0
FormulaNumber number = (1 ≤ number) × (number ≤ 8) × (number ≢ 7)

early : {number : ℕ} → Early number → FormulaNumber number
early e = (e.0, omega arith, λ q. omega arith)

module _ (s : ℕ) (text : List ℕ) where
  pub making-refused : {n many number place : ℕ} {t : List Node} {ms : List ℕ} {fs : List Function} →
      Making s text n many t ms fs (refusal number place) → Early number
  making-refused {n} {many} {number} {place} {t} {ms} {fs} M = go Y.left Y.read
    where
      Y : Underway s text n many t ms fs (refusal number place)
      Y = underway s text n many M

      go : (left : ℕ) → Read n left (refusal number place) → Early number
      go zero r = r
      go (suc left) r = r

-- ---- the proof

-- Before a node is made: 0, 9 to 22, 28, 29, 33 and 34, but not 19. Once some are made: 19 and 23.
abbrev pub EarlyNumber : ℕ → Type 0
EarlyNumber number = (number ≢ 28 → number ≢ 29 → number ≢ 33 → number ≢ 34 → number ≤ 22) × (number ≢ 0 → 9 ≤ number) × (number ≢ 19)

abbrev pub Numbered : Step → Type 0
Numbered (next st) = Unit {0}
Numbered (stop number offset) = EarlyNumber number
Numbered (spent number peak) = (19 ≤ number) × (number ≤ 23)

-- a test that refuses with a number, and what comes after it
refuses : (c : Bool) (number offset : ℕ) (r : Step) → EarlyNumber number → Numbered r → Numbered (cond c (stop number offset) r)
refuses c number offset r p q = either Numbered c (stop number offset) r p q

refuses-late : (c : Bool) (number peak : ℕ) (r : Step) → (19 ≤ number) × (number ≤ 23) → Numbered r →
    Numbered (cond c (spent number peak) r)
refuses-late c number peak r p q = either Numbered c (spent number peak) r p q

entered-numbered : (st : State) (p : Placing) → Numbered (entered st p)
unfolding entered
entered-numbered st (full t) = (omega arith, omega arith)
entered-numbered st (placed t k) = tt

node-numbered : (n s : ℕ) (st : State) (b : NodeBody) → Numbered (node_step n s st b)
unfolding node_step
node-numbered n s st b =
    let l : ℕ = entry_node st b.low.0 in
    let h : ℕ = entry_node st b.high.0 in
    refuses (leb 4096 (length st.entries)) 21 0 _ ((λ _ _ _ _. omega arith), (λ _. omega arith), λ q. omega arith)
    (refuses (not (is_variable n b.variable)) 12 0 _ ((λ _ _ _ _. omega arith), (λ _. omega arith), λ q. omega arith)
    (refuses (not (is_entry st b.low.0 && is_entry st b.high.0)) 13 0 _
    ((λ _ _ _ _. omega arith), (λ _. omega arith), λ q. omega arith)
    (refuses (not (above st.nodes b.variable l && above st.nodes b.variable h)) 14 0 _
    ((λ _ _ _ _. omega arith), (λ _. omega arith), λ q. omega arith)
    (entered-numbered st (put s st.nodes b.variable l h)))))

witness-numbered : (n : ℕ) (st : State) (v : ℕ) (b : Bool) → Numbered (witness_step n st v b)
unfolding witness_step
witness-numbered n st v b =
    refuses (not (is_variable n v)) 12 0 _ ((λ _ _ _ _. omega arith), (λ _. omega arith), λ q. omega arith)
    (refuses (in_word st.positive v || in_word st.negative v) 15 0 _ ((λ _ _ _ _. omega arith), (λ _. omega arith), λ q. omega arith)
    tt)

judged-numbered : (s : ℕ) (st : State) (g : ℕ) (line : Line) → Numbered (judged s st g line)
unfolding judged
judged-numbered s st g line =
    refuses-late (not (line_reach s st.nodes line).fits) 23 (peak_with s st line) _ (omega arith, omega arith)
    (refuses-late (not line.shown) 19 (peak_with s st line) _ (omega arith, omega arith) tt)

line-numbered : (n s : ℕ) (st : State) (rule : Rule) (root : ℕ) → Numbered (line_step n s st rule root)
unfolding line_step
line-numbered n s st Rup root =
    let g : ℕ = entry_node st root in
    refuses (not (is_entry st root)) 13 0 _ ((λ _ _ _ _. omega arith), (λ _. omega arith), λ q. omega arith)
    (refuses (waiting st) 16 0 _ ((λ _ _ _ _. omega arith), (λ _. omega arith), λ q. omega arith)
    (refuses (leb 1024 st.lines) 22 0 _ ((λ _ _ _ _. omega arith), (λ _. omega arith), λ q. omega arith)
    (refuses (eqb g 1) 17 0 _ ((λ _ _ _ _. omega arith), (λ _. omega arith), λ q. omega arith)
    (judged-numbered s st g (line_of n st Rup g)))))
line-numbered n s st Pr root =
    let g : ℕ = entry_node st root in
    refuses (not (is_entry st root)) 13 0 _ ((λ _ _ _ _. omega arith), (λ _. omega arith), λ q. omega arith)
    (refuses (leb 1024 st.lines) 22 0 _ ((λ _ _ _ _. omega arith), (λ _. omega arith), λ q. omega arith)
    (refuses (eqb g 1) 17 0 _ ((λ _ _ _ _. omega arith), (λ _. omega arith), λ q. omega arith)
    (refuses (not (witnessed n (in_word st.positive) (in_word st.negative) (diagram_in st g))) 18 0 _
    ((λ _ _ _ _. omega arith), (λ _. omega arith), λ q. omega arith)
    (judged-numbered s st g (line_of n st Pr g)))))
line-numbered n s st Path root =
    let g : ℕ = entry_node st root in
    refuses (not (is_entry st root)) 13 0 _ ((λ _ _ _ _. omega arith), (λ _. omega arith), λ q. omega arith)
    (refuses (waiting st) 16 0 _ ((λ _ _ _ _. omega arith), (λ _. omega arith), λ q. omega arith)
    (refuses (leb 1024 st.lines) 22 0 _ ((λ _ _ _ _. omega arith), (λ _. omega arith), λ q. omega arith)
    (refuses (eqb g 1) 17 0 _ ((λ _ _ _ _. omega arith), (λ _. omega arith), λ q. omega arith)
    (refuses (ltb 4096 (path_count (diagram_in st g))) 34 0 _ ((λ _ _ _ other. absurd (other refl)), (λ _. omega arith), λ q. omega arith)
    (judged-numbered s st g (line_of n st Path g))))))

strike-numbered : (st : State) (k : ℕ) → Numbered (strike_step st k)
unfolding strike_step
strike-numbered st k =
    refuses (waiting st) 16 0 _ ((λ _ _ _ _. omega arith), (λ _. omega arith), λ q. omega arith)
    (refuses (not (is_live st k)) 28 0 _ ((λ other _ _ _. absurd (other refl)), (λ _. omega arith), λ q. omega arith) tt)

set-numbered : (n s : ℕ) (st : State) (kind : SetKind) (b : SetBody) → Numbered (set_step n s st kind b)
unfolding set_step
set-numbered n s st kind b =
    refuses (leb 4096 (length st.entries)) 21 0 _ ((λ _ _ _ _. omega arith), (λ _. omega arith), λ q. omega arith)
    (refuses (beyond n b.set) 12 0 _ ((λ _ _ _ _. omega arith), (λ _. omega arith), λ q. omega arith)
    (refuses (no_parity kind b.byte) 29 0 _ ((λ _ other _ _. absurd (other refl)), (λ _. omega arith), λ q. omega arith)
    (entered-numbered st (place s st.nodes (set_diagram n kind b)))))

end-numbered : (st : State) (more : Bool) → Numbered (end_step st more)
unfolding end_step
end-numbered st more =
    refuses (waiting st) 16 0 _ ((λ _ _ _ _. omega arith), (λ _. omega arith), λ q. omega arith)
    (refuses more 11 1 _ ((λ _ _ _ _. omega arith), (λ _. omega arith), λ q. omega arith)
    (refuses st.refuted 0 0 _ ((λ _ _ _ _. omega arith), (λ other. absurd (other refl)), λ q. omega arith)
    ((λ _ _ _ _. omega arith), (λ _. omega arith), λ q. omega arith)))

record-numbered : (n s : ℕ) (st : State) (more : Bool) (r : Record) → Numbered (record_step n s st more r)
unfolding record_step
record-numbered n s st more (NodeEntry b) = node-numbered n s st b
record-numbered n s st more (Witness v b) = witness-numbered n st v b
record-numbered n s st more (ProofLine rule root) = line-numbered n s st rule root.0
record-numbered n s st more (Strike k) = strike-numbered st k.0
record-numbered n s st more (SetEntry kind b) = set-numbered n s st kind b
record-numbered n s st more End = end-numbered st more
record-numbered n s st more CutShort = ((λ _ _ _ _. omega arith), (λ _. omega arith), λ q. omega arith)
record-numbered n s st more UnknownKind = ((λ _ _ _ _. omega arith), (λ _. omega arith), λ q. omega arith)
record-numbered n s st more NoRecord = ((λ _ _ _ _. omega arith), (λ _. omega arith), λ q. omega arith)

-- the same where the profile shuts the record out
pub shut-numbered : (profile : Bool) (n s : ℕ) (st : State) (more : Bool) (r : Record) →
    Numbered (cond (shut_out profile r) (stop 33 0) (record_step n s st more r))
shut-numbered profile n s st more r =
    refuses (shut_out profile r) 33 0 _ ((λ _ _ other _. absurd (other refl)), (λ _. omega arith), λ q. omega arith)
    (record-numbered n s st more r)

-- ---- a DRAT proof

-- What a step gives of a clause that is well formed, and of the end: 0, 17, 20, 22, 28 before a node is made, then 19 and 23.
abbrev ByStep : ℕ → Type 0
ByStep number = (number ≢ 28 → number ≤ 22) × (number ≢ 0 → 17 ≤ number) × (number ≢ 18) × (number ≢ 19) × (number ≢ 21)

abbrev StepNumber : Step → Type 0
StepNumber (next st) = Unit {0}
StepNumber (stop number offset) = ByStep number
StepNumber (spent number peak) = (number ≡ 19) ⊎ (number ≡ 23)

by-step : (number : ℕ) → ((number ≡ 0) ⊎ (number ≡ 20)) ⊎ ((number ≡ 17) ⊎ (number ≡ 22)) → ByStep number
by-step number (inl (inl e)) = ((λ _. omega arith), (λ other. absurd (other e)), (λ q. omega arith), (λ q. omega arith), λ q. omega arith)
by-step number (inl (inr e)) = ((λ _. omega arith), (λ _. omega arith), (λ q. omega arith), (λ q. omega arith), λ q. omega arith)
by-step number (inr (inl e)) = ((λ _. omega arith), (λ _. omega arith), (λ q. omega arith), (λ q. omega arith), λ q. omega arith)
by-step number (inr (inr e)) = ((λ _. omega arith), (λ _. omega arith), (λ q. omega arith), (λ q. omega arith), λ q. omega arith)

added-numbered : (x : Step) → AddedSays x → StepNumber x
added-numbered (next st) A = tt
added-numbered (stop number offset) A = by-step number (inr A.0)
added-numbered (spent number peak) A = A

struck-numbered : (x : Step) → StruckSays x → StepNumber x
struck-numbered (next st) A = tt
struck-numbered (stop number offset) A =
    let e : number ≡ 28 = A.0 in
    ((λ other. absurd (other e)), (λ _. omega arith), (λ q. omega arith), (λ q. omega arith), λ q. omega arith)
struck-numbered (spent number peak) A = absurd A

finish-numbered : (x : Step) → FinishSays x → StepNumber x
finish-numbered (next st) A = absurd A
finish-numbered (stop number offset) A = by-step number (inl A.0)
finish-numbered (spent number peak) A = absurd A

-- ---- a text

-- Before a node is made: 0, 3, 4, 6, 17, 20, 22 and 28.
abbrev pub EarlyInText : ℕ → Type 0
EarlyInText number = (number ≢ 28 → number ≤ 22) × (number ≢ 0 → 3 ≤ number) × (number ≢ 5) × (6 < number → 17 ≤ number) × (number ≢ 18)
    × (number ≢ 19) × (number ≢ 21)

abbrev pub NumberedInText : Step → Type 0
NumberedInText (next st) = Unit {0}
NumberedInText (stop number offset) = EarlyInText number
NumberedInText (spent number peak) = (number ≡ 19) ⊎ (number ≡ 23)

step-in-text : (x : Step) → StepNumber x → NumberedInText x
step-in-text (next st) N = tt
step-in-text (stop number offset) N = (
  N.0,
  (λ other. omega (arith, N.1 other)),
  (λ q. omega (arith, N.1 (λ z. omega arith))),
  (λ q. N.1 (λ z. omega arith)),
  N.2,
  N.3,
  N.4,
)
step-in-text (spent number peak) N = N

-- ---- binary

-- Before a node is made: 0, 4, 6, 9, 17, 20, 22, 28 and 31.
abbrev pub EarlyInBinary : ℕ → Type 0
EarlyInBinary number =
    (number ≢ 28 → number ≢ 31 → number ≤ 22) × (number ≢ 0 → 4 ≤ number) × (number ≢ 5) × (6 < number → 9 ≤ number)
    × (9 < number → 17 ≤ number)
    × (number ≢ 18) × (number ≢ 19) × (number ≢ 21)

abbrev pub NumberedInBinary : Step → Type 0
NumberedInBinary (next st) = Unit {0}
NumberedInBinary (stop number offset) = EarlyInBinary number
NumberedInBinary (spent number peak) = (number ≡ 19) ⊎ (number ≡ 23)

step-in-binary : (x : Step) → StepNumber x → NumberedInBinary x
step-in-binary (next st) N = tt
step-in-binary (stop number offset) N = (
  (λ other _. N.0 other),
  (λ other. omega (arith, N.1 other)),
  (λ q. omega (arith, N.1 (λ z. omega arith))),
  (λ q. omega (arith, N.1 (λ z. omega arith))),
  (λ q. N.1 (λ z. omega arith)),
  N.2,
  N.3,
  N.4,
)
step-in-binary (spent number peak) N = N

-- ---- every form

abbrev pub NumberedIn : Form → Step → Type 0
NumberedIn Records x = Numbered x
NumberedIn Text x = NumberedInText x
NumberedIn Binary x = NumberedInBinary x

step-numbered : (profile : Bool) (form : Form) (n s : ℕ) (st : State) (c : Command) → Fit form n c → NumberedIn form (step profile n s st c)
unfolding step
step-numbered profile Records n s st (recorded r more) fit = shut-numbered profile n s st more r
step-numbered profile Records n s st (added ls) fit = absurd fit
step-numbered profile Records n s st (struck_out ls) fit = absurd fit
step-numbered profile Records n s st (wrong number offset) fit = absurd fit
step-numbered profile Records n s st finished fit = absurd fit
step-numbered profile Text n s st (recorded r more) fit = absurd fit
step-numbered profile Text n s st (added ls) fit = step-in-text (add_step profile n s st ls)
    (added-numbered (add_step profile n s st ls) (added-says profile n s st ls))
step-numbered profile Text n s st (struck_out ls) fit = step-in-text (strike_clause n st ls)
    (struck-numbered (strike_clause n st ls) (struck-says n st ls))
step-numbered profile Text n s st (wrong number offset) fit = (
  (λ _. omega (arith, fit.1)),
  (λ _. fit.0),
  fit.2,
  (λ q. absurd (omega (arith, fit.1))),
  (λ q. omega (arith, fit.1)),
  (λ q. omega (arith, fit.1)),
  λ q. omega (arith, fit.1),
)
step-numbered profile Text n s st finished fit = step-in-text (finish st) (finish-numbered (finish st) (finish-says st))
step-numbered profile Binary n s st (recorded r more) fit = absurd fit
step-numbered profile Binary n s st (added ls) fit = step-in-binary (add_step profile n s st ls)
    (added-numbered (add_step profile n s st ls) (added-says profile n s st ls))
step-numbered profile Binary n s st (struck_out ls) fit = step-in-binary (strike_clause n st ls)
    (struck-numbered (strike_clause n st ls) (struck-says n st ls))
step-numbered profile Binary n s st (wrong number offset) fit =
    let most : number ≢ 31 → number ≤ 9 = binary-fault number fit.3 in (
      (λ _ other. omega (arith, most other)),
      (λ _. fit.0),
      fit.1,
      fit.2,
      (λ q. omega (arith, fit.3 q)),
      (λ q. omega (arith, most (λ z. omega arith))),
      (λ q. omega (arith, most (λ z. omega arith))),
      λ q. omega (arith, most (λ z. omega arith)),
    )
step-numbered profile Binary n s st finished fit = step-in-binary (finish st) (finish-numbered (finish st) (finish-says st))

-- ---- the end of a check, with the range of its number

-- In each form none of them is 7 or 8.
pub proof-number : (form : Form) (number : ℕ) → ProofNumber form number
    → (number ≢ 28 → number ≢ 29 → number ≢ 31 → number ≢ 33 → number ≢ 34 → number ≤ 23) × (number ≢ 7) × (number ≢ 8)
proof-number Records number P = (
  (λ a b _ c d. P.0 a b c d),
  (λ q. omega (arith, P.1 (λ z. omega arith))),
  λ q. omega (arith, P.1 (λ z. omega arith)),
)
proof-number Text number P = (
  (λ other _ _ _ _. P.0 other),
  (λ q. omega (arith, P.3 (omega arith))),
  λ q. omega (arith, P.3 (omega arith)),
)
proof-number Binary number P = (
  (λ other _ another _ _. P.0 other another),
  (λ q. omega (arith, P.3 (omega arith))),
  λ q. omega (arith, P.3 (omega arith)),
)

pub stop-number : (form : Form) (number offset : ℕ) → NumberedIn form (stop number offset) → ProofNumber form number
stop-number Records number offset N = ((λ a b c d. omega (arith, N.0 a b c d)), N.1)
stop-number Text number offset N = ((λ other. omega (arith, N.0 other)), N.1, N.2, N.3, N.4, N.6)
stop-number Binary number offset N = ((λ other another. omega (arith, N.0 other another)), N.1, N.2, N.3, N.4, N.5, N.7)

pub spent-number : (form : Form) (number peak : ℕ) → NumberedIn form (spent number peak) → (19 ≤ number) × (number ≤ 23)
spent-number Records number peak N = N
spent-number Text number peak (inl e) = (omega arith, omega arith)
spent-number Text number peak (inr e) = (omega arith, omega arith)
spent-number Binary number peak (inl e) = (omega arith, omega arith)
spent-number Binary number peak (inr e) = (omega arith, omega arith)

pub spent-proof : (form : Form) (number peak : ℕ) → NumberedIn form (spent number peak) → ProofNumber form number
spent-proof Records number peak N = ((λ _ _ _ _. omega (arith, N.1)), λ _. omega (arith, N.0))
spent-proof Text number peak (inl e) = (
  (λ _. omega arith),
  (λ _. omega arith),
  (λ q. omega arith),
  (λ _. omega arith),
  (λ q. omega arith),
  λ q. omega arith,
)
spent-proof Text number peak (inr e) = (
  (λ _. omega arith),
  (λ _. omega arith),
  (λ q. omega arith),
  (λ _. omega arith),
  (λ q. omega arith),
  λ q. omega arith,
)
spent-proof Binary number peak (inl e) = (
  (λ _ _. omega arith),
  (λ _. omega arith),
  (λ q. omega arith),
  (λ _. omega arith),
  (λ _. omega arith),
  (λ q. omega arith),
  λ q. omega arith,
)
spent-proof Binary number peak (inr e) = (
  (λ _ _. omega arith),
  (λ _. omega arith),
  (λ q. omega arith),
  (λ _. omega arith),
  (λ _. omega arith),
  (λ q. omega arith),
  λ q. omega arith,
)

pub data Closed (mode : Mode) (s : ℕ) (text proof : List ℕ) : Verdict → Type 0 where
  formula-refused : {number place peak : ℕ} → FormulaNumber number → Closed mode s text proof (refused_formula number place peak)
  proof-ended : {n number offset at : ℕ} {st : State} {m : Meant} → ProofNumber mode.form number
      → Reached mode s text proof n st at m → step mode.consequence n s st (command_in mode proof n at) ≡ stop number offset →
      Closed mode s text proof (left number (at + offset) st.peak st)
  proof-tried : {n number peak at : ℕ} {st : State} {m : Meant} → ProofNumber mode.form number × (19 ≤ number) × (number ≤ 23)
      → Reached mode s text proof n st at m → step mode.consequence n s st (command_in mode proof n at) ≡ spent number peak →
      Closed mode s text proof (left number at peak st)

module _ (mode : Mode) (s : ℕ) (text proof : List ℕ) where
  pub reached-numbered : {n : ℕ} {st : State} {at : ℕ} {m : Meant} → Reached mode s text proof n st at m →
      NumberedIn mode.form (step mode.consequence n s st (command_in mode proof n at))
  reached-numbered {n} {st} {at} R = step-numbered mode.consequence mode.form n s st (command_in mode proof n at)
      (reached-fit mode s text proof R)

  pub ended-closed : (v : Verdict) → Ended mode s text proof v → Closed mode s text proof v
  ended-closed _ (no_header {number} {place} e) = formula-refused (early (subst NamedHeader e (header-named text)))
  ended-closed _ (not-read M) = formula-refused (early (making-refused s text M))
  ended-closed _ (no_room M e) = formula-refused {number = 8} (omega arith, omega arith, λ q. omega arith)
  ended-closed _ (stopped {n} {number} {offset} {at} {st} R e) =
      proof-ended {number = number} (stop-number mode.form number offset (subst (NumberedIn mode.form) e (reached-numbered R))) R e
  ended-closed _ (tried {n} {number} {peak} {at} {st} R e) =
      let N : NumberedIn mode.form (spent number peak) = subst (NumberedIn mode.form) e (reached-numbered R) in
      let (least, most) = spent-number mode.form number peak N in proof-tried {number = number}
      (spent-proof mode.form number peak N, least, most) R e
