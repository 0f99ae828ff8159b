-- The cause that is told of 14, 18 and 19 is what it is called. The idea: each number stands in the definition behind the test that tells
-- its cause. Assumes nothing.
use mathlib.Core.Path.{◌≡◌, refl, sym, ap, ap₂, ◌∙◌, subst}
use mathlib.Core.Logic.{◌≢◌, ◌⊎◌, inl, inr}
use mathlib.Core.Bool.{Bool, true, false, not, ◌&&◌, ◌||◌, cond}
use mathlib.Core.List.{List, [], ◌∷◌, map}
use mathlib.Core.Option.{Option, none, some}
use Prim.Native.Nat.{ℕ, suc, ◌≤◌, ◌<◌}
use native.Mathlib.Omega.{arith}
use lib.ListN.{length}
use lib.Dec.{eqb, ltb, leb}
use borrow.Author.Tests.{ltb-false}
use Rattle.meaning.specs.Diagram.{Diagram, leaf, same}
use Rattle.meaning.specs.Operations as meaning
use Rattle.meaning.specs.Operations.{Literal, negation}
use Rattle.meaning.specs.Rules.{Line, by_diagram, rup, pr, witnessed}
use Rattle.meaning.specs.Words.{in_word}
use Rattle.meaning.proofs.Booleans.{t≢f, or-neither, or_cases, eqb-eq, not-not}
use Rattle.meaning.proofs.Values.{reduced-to}
use Rattle.meaning.proofs.Pointwise.{clause-reduced}
use Rattle.meaning.proofs.Ends.{by_diagram-reduced}
use Rattle.table.specs.Nodes.{Node, at, above, diagram_at, Placing, full, placed, put, place}
use Rattle.table.specs.Making.{line_reach}
use Rattle.table.proofs.Growth.{diagram_at-grown}
use Rattle.table.proofs.Placing.{After, Made, place_after}
use Rattle.records.specs.declared.NodeBody.{NodeBody}
use Rattle.records.specs.declared.EntryNo.{EntryNo}
use Rattle.records.specs.declared.Rule.{Rule}
use Rattle.records.specs.declared.Rule.TheVariants.{Rup, Pr, Path}
use Rattle.records.specs.declared.Record.{Record}
use Rattle.records.specs.declared.Record.TheVariants.{NodeEntry, Witness, ProofLine, Strike, SetEntry, End, CutShort, UnknownKind}
use Rattle.records.specs.declared.Record.TheVariants.{NoRecord}
use Rattle.clausal.specs.Tries.{makes_true, makes_false, witness}
use Rattle.commands.specs.declared.Form.{Form}
use Rattle.commands.specs.declared.Form.TheVariants.{Records, Text, Binary}
use Rattle.commands.specs.declared.Mode.{Mode}
use Rattle.commands.specs.Commands.{Command, recorded, added, struck_out, wrong, finished}
use Rattle.verdict.specs.Steps.{State, with_entry, Step, next, stop, spent, is_entry, entry_node, is_variable, entered, node_step}
use Rattle.verdict.specs.Steps.{witness_step}
use Rattle.verdict.specs.Steps.{waiting, judged, diagram_in, unstruck, live_members, line_step, is_live, strike_step, beyond, no_parity}
use Rattle.verdict.specs.Steps.{set_diagram, set_step, end_step, record_step}
use Rattle.verdict.specs.Clausal.{with_peak, judged_or, second_line, second_try, after_first, tries, once_made, add_step, first_same}
use Rattle.verdict.specs.Clausal.{strike_found}
use Rattle.verdict.specs.Clausal.{strike_clause}
use Rattle.verdict.specs.Check.{shut_out, step, Verdict, verdict}
use Rattle.verdict.specs.Taken.{Function, Meant, Valued, peak_with}
use Rattle.verdict.specs.Run.{command_in, Reached}
use Rattle.verdict.proofs.Live.{valued-unstruck}
use Rattle.verdict.proofs.Standing.{Standing}
use Rattle.verdict.proofs.Ends.{reached-standing, reached-fit}
use Rattle.verdict.proofs.Commands.{Fit, DratFit, Known, fit-known}
use Rattle.causes.specs.Parts.{nothing, part_of}
use Rattle.causes.specs.Causes.{Cause, plain, offender, variables_of, fixes, rup_cause}
use Rattle.causes.specs.Causes.{path_cause, line_cause, record_cause, clause_cause, only, cause}
use Rattle.causes.specs.Explanation.{Ending, ending, cause_in, Explanation, explained, explanation}
use Rattle.causes.specs.Shows.{EndsAt, formula-refused, proof-stopped, proof-spent, Offends, RupFails, Caused, not-before}
use Rattle.causes.specs.Shows.{not-witnessed, rup-fails, pr-fails, first-try-fails, clause-fails, path-fails, TrueCause}
use Rattle.causes.proofs.Fixes.{fixes-so}
use Rattle.causes.proofs.Smallest.{smallest-so}
use Rattle.causes.proofs.Turns.{pr-so}
use Rattle.causes.proofs.PathFails.{path-so}
use Rattle.paths.specs.Paths.{paths, path_line, path_count}
use Rattle.causes.proofs.Ending.{ending-is}

-- The numbers whose cause is told.
abbrev pub has_cause : ℕ → Bool
has_cause number = eqb number 14 || (eqb number 18 || eqb number 19)

no-cause : {A : Type 0} (number : ℕ) → number ≤ 8 → has_cause number ≡ true → A
no-cause number small h =
    or_cases (eqb number 14) (eqb number 18 || eqb number 19) h (λ e. absurd (omega (arith, small, eqb-eq number 14 e)))
    (λ q. or_cases (eqb number 18) (eqb number 19) q (λ e. absurd (omega (arith, small, eqb-eq number 18 e)))
    (λ e. absurd (omega (arith, small, eqb-eq number 19 e))))

-- A fault of form has no such cause: it is at most 9, or 31.
no-fault : {A : Type 0} (number : ℕ) → (number ≢ 31 → number ≤ 9) → has_cause number ≡ true → A
no-fault number small h =
    or_cases (eqb number 14) (eqb number 18 || eqb number 19) h (λ e. other 14 (omega arith) (omega arith) (eqb-eq number 14 e))
    (λ q. or_cases (eqb number 18) (eqb number 19) q (λ e. other 18 (omega arith) (omega arith) (eqb-eq number 18 e))
    (λ e. other 19 (omega arith) (omega arith) (eqb-eq number 19 e)))
  where
    other : {A : Type 0} (k : ℕ) → 9 < k → k < 31 → number ≡ k → A
    other k least most e = absurd (omega (arith, small (λ q. omega (arith, most, e, q)), least, e))

-- What is known of a step that refuses its command with such a number.
abbrev Told : Bool → ℕ → State → Command → Step → Type 0
Told profile n st c (next st') = Unit {0}
Told profile n st c (stop number offset) = has_cause number ≡ true → Caused profile n st c number (cause profile n number st c)
Told profile n st c (spent number peak) = has_cause number ≡ true → Caused profile n st c number (cause profile n number st c)

module _ (profile : Bool) (n : ℕ) (st : State) (c : Command) where
  -- a test, and what is known on each of its sides
  tests : (t : Bool) (x y : Step) → (t ≡ true → Told profile n st c x) → (t ≡ false → Told profile n st c y) →
      Told profile n st c (cond t x y)
  tests true x y h k = h refl
  tests false x y h k = k refl

  -- a test that refuses with a number without such a cause
  passes : (t : Bool) (number offset : ℕ) (y : Step) → has_cause number ≡ false → (t ≡ false → Told profile n st c y) →
      Told profile n st c (cond t (stop number offset) y)
  passes t number offset y other k = tests t (stop number offset) y (λ _ h. t≢f (sym h ∙ other)) k

  judged-told : (s g : ℕ) (st₁ : State) (line : Line) → (line.shown ≡ false → Caused profile n st c 19 (cause profile n 19 st c)) →
      Told profile n st c (judged s st₁ g line)
  unfolding judged
  judged-told s g st₁ line fails =
      tests (not (line_reach s st₁.nodes line).fits) _ _ (λ _ h. t≢f (sym h))
      (λ _. tests (not line.shown) _ _ (λ q _. fails (sym (not-not line.shown) ∙ ap not q)) (λ _. tt))

  entered-told : (st₁ : State) (p : Placing) → Told profile n st c (entered st₁ p)
  unfolding entered
  entered-told st₁ (full t) = λ h. t≢f (sym h)
  entered-told st₁ (placed t k) = tt

-- ---- 14

not-above : (t : List Node) (v child : ℕ) → above t v child ≡ false → (2 ≤ child) × ((at t child).var ≤ v)
unfolding above
not-above t v child e =
    let (a, b) = or-neither (ltb child 2) (ltb v (at t child).var) e in (ltb-false child 2 a, ltb-false v (at t child).var b)

-- The offender is a child that the variable is not before.
offender-so : (st : State) (b : NodeBody) → not
    (above st.nodes b.variable (entry_node st b.low.0) && above st.nodes b.variable (entry_node st b.high.0)) ≡ true
    → Offends st b b.variable (at st.nodes (offender st b)).var
unfolding offender
offender-so st b e = go (above st.nodes b.variable l) (above st.nodes b.variable h) refl refl e
  where
    l : ℕ
    l = entry_node st b.low.0

    h : ℕ
    h = entry_node st b.high.0

    offends : (child : ℕ) → above st.nodes b.variable child ≡ false → (child ≡ l) ⊎ (child ≡ h)
        → (above st.nodes b.variable l ≡ false → child ≡ l) → Offends st b b.variable (at st.nodes child).var
    offends child off is low =
        let (many, after) = not-above st.nodes b.variable child off in
        record {
          record-variable = refl;
          child = child;
          is-child = is;
          no-constant = many;
          child-variable = refl;
          not-before =
              after;
          low_first = low;
        }

    go : (x y : Bool) → above st.nodes b.variable l ≡ x → above st.nodes b.variable h ≡ y → not (x && y) ≡ true
        → Offends st b b.variable (at st.nodes (cond x h l)).var
    go true true p q e = t≢f (sym e)
    go true false p q e = offends h q (inr refl) (λ f. t≢f (sym p ∙ f))
    go false y p q e = offends l p (inl refl) (λ _. refl)

node-told : (profile : Bool) (n s : ℕ) (st : State) (more : Bool) (b : NodeBody) →
    Told profile n st (recorded (NodeEntry b) more) (node_step n s st b)
unfolding node_step cause record_cause variables_of
node-told profile n s st more b =
    let c : Command = recorded (NodeEntry b) more in
    let l : ℕ = entry_node st b.low.0 in
    let h : ℕ = entry_node st b.high.0 in
    passes profile n st c (leb 4096 (length st.entries)) 21 0 _ refl
    (λ _. passes profile n st c (not (is_variable n b.variable)) 12 0 _ refl
    (λ _. passes profile n st c (not (is_entry st b.low.0 && is_entry st b.high.0)) 13 0 _ refl
    (λ _. tests profile n st c (not (above st.nodes b.variable l && above st.nodes b.variable h)) (stop 14 0) _
    (λ q _. not-before (offender-so st b q))
    (λ _. entered-told profile n st c st (put s st.nodes b.variable l h)))))

-- ---- lines

-- A RUP line that is not shown.
rup-so : (n : ℕ) (st : State) (g : Diagram) → (rup n (live_members st) g).shown ≡ false →
    RupFails n st g (fixes n (by_diagram n (negation n g) (live_members st)))
unfolding rup
rup-so n st g fails = fixes-so n (by_diagram n (negation n g) (live_members st)) (by_diagram-reduced n (negation n g) (live_members st))
    fails

module _ (profile : Bool) (n s : ℕ) (st : State) (marked : length st.struck ≡ length st.members) (more : Bool) (root : EntryNo) where
  abbrev g : ℕ
  g = entry_node st root.0

  rup-told : Told profile n st (recorded (ProofLine Rup root) more) (line_step n s st Rup root.0)
  unfolding line_step cause record_cause line_cause rup_cause
  rup-told =
      let c : Command = recorded (ProofLine Rup root) more in
      passes profile n st c (not (is_entry st root.0)) 13 0 _ refl
      (λ _. passes profile n st c (waiting st) 16 0 _ refl
      (λ _. passes profile n st c (leb 1024 st.lines) 22 0 _ refl
      (λ _. passes profile n st c (eqb g 1) 17 0 _ refl
      (λ _. judged-told profile n st c s g st (rup n (live_members st) (diagram_in st g))
      (λ fails. rup-fails (rup-so n st (diagram_in st g) fails))))))

  pr-told : Told profile n st (recorded (ProofLine Pr root) more) (line_step n s st Pr root.0)
  unfolding line_step cause record_cause line_cause
  pr-told =
      let c : Command = recorded (ProofLine Pr root) more in
      let P : ℕ → Bool = in_word st.positive in
      let N : ℕ → Bool = in_word st.negative in
      passes profile n st c (not (is_entry st root.0)) 13 0 _ refl
      (λ _. passes profile n st c (leb 1024 st.lines) 22 0 _ refl
      (λ _. passes profile n st c (eqb g 1) 17 0 _ refl
      (λ _. tests profile n st c (not (witnessed n P N (diagram_in st g))) (stop 18 0) _
      (λ q _. not-witnessed (smallest-so n P N (diagram_in st g) (sym (not-not (witnessed n P N (diagram_in st g))) ∙ ap not q)))
      (λ _. judged-told profile n st c s g st (pr n P N (live_members st) (diagram_in st g)) (λ fails.
      let (rounds, i, is, so) = pr-so n P N st (diagram_in st g) marked fails in
      subst (Caused profile n st c 19) (sym is) (pr-fails so))))))

  path-told : Told profile n st (recorded (ProofLine Path root) more) (line_step n s st Path root.0)
  unfolding line_step path_line cause record_cause line_cause path_cause
  path-told =
      let c : Command = recorded (ProofLine Path root) more in
      passes profile n st c (not (is_entry st root.0)) 13 0 _ refl
      (λ _. passes profile n st c (waiting st) 16 0 _ refl
      (λ _. passes profile n st c (leb 1024 st.lines) 22 0 _ refl
      (λ _. passes profile n st c (eqb g 1) 17 0 _ refl
      (λ _. passes profile n st c (ltb 4096 (path_count (diagram_in st g))) 34 0 _ refl
      (λ _. judged-told profile n st c s g st (path_line n (live_members st) (diagram_in st g)) (λ fails.
      let (rounds, is, so) = path-so n (live_members st) (paths (diagram_in st g)) fails in
      subst (Caused profile n st c 19) (sym is) (path-fails so)))))))

-- ---- every record

line-told : (profile : Bool) (n s : ℕ) (st : State) → length st.struck ≡ length st.members →
    (more : Bool) (rule : Rule) (root : EntryNo)
    → Told profile n st (recorded (ProofLine rule root) more) (line_step n s st rule root.0)
line-told profile n s st marked more Rup root = rup-told profile n s st marked more root
line-told profile n s st marked more Pr root = pr-told profile n s st marked more root
line-told profile n s st marked more Path root = path-told profile n s st marked more root

record-told : (profile : Bool) (n s : ℕ) (st : State) → length st.struck ≡ length st.members → (more : Bool) (r : Record) →
    Told profile n st (recorded r more) (record_step n s st more r)
unfolding record_step witness_step strike_step set_step end_step
record-told profile n s st marked more (NodeEntry b) = node-told profile n s st more b
record-told profile n s st marked more (Witness v b) =
    let c : Command = recorded (Witness v b) more in
    passes profile n st c (not (is_variable n v)) 12 0 _ refl
    (λ _. passes profile n st c (in_word st.positive v || in_word st.negative v) 15 0 _ refl (λ _. tt))
record-told profile n s st marked more (ProofLine rule root) = line-told profile n s st marked more rule root
record-told profile n s st marked more (Strike k) =
    let c : Command = recorded (Strike k) more in passes profile n st c (waiting st) 16 0 _ refl
    (λ _. passes profile n st c (not (is_live st k.0)) 28 0 _ refl (λ _. tt))
record-told profile n s st marked more (SetEntry kind b) =
    let c : Command = recorded (SetEntry kind b) more in
    passes profile n st c (leb 4096 (length st.entries)) 21 0 _ refl
    (λ _. passes profile n st c (beyond n b.set) 12 0 _ refl
    (λ _. passes profile n st c (no_parity kind b.byte) 29 0 _ refl
    (λ _. entered-told profile n st c st (place s st.nodes (set_diagram n kind b)))))
record-told profile n s st marked more End =
    let c : Command = recorded End more in
    passes profile n st c (waiting st) 16 0 _ refl
    (λ _. passes profile n st c more 11 1 _ refl (λ _. passes profile n st c st.refuted 0 0 _ refl (λ _ h. t≢f (sym h))))
record-told profile n s st marked more CutShort = λ h. t≢f (sym h)
record-told profile n s st marked more UnknownKind = λ h. t≢f (sym h)
record-told profile n s st marked more NoRecord = λ h. t≢f (sym h)

-- ---- clauses

module _ (profile : Bool) {s n : ℕ} {m : Meant} {st : State} (S : Standing s n m st) (narrow : n ≤ 64) where
  -- the live members keep their diagrams while a clause's is made
  live_same : (ls : List Literal) (t : List Node) (k : ℕ) → place s st.nodes (meaning.clause n ls) ≡ placed t k →
      live_members (with_entry st t k) ≡ live_members st
  live_same ls t k room =
      go (unstruck st.struck st.members) (unstruck st.struck m.members)
      (valued-unstruck st.nodes st.kept st.struck st.members m.members S.members)
    where
      made : Made s st.nodes (meaning.clause n ls) t k
      made =
          subst (After s st.nodes (meaning.clause n ls)) room
          (place_after s st.nodes S.ordered (meaning.clause n ls)
          (reduced-to 1 (suc n) 65 (meaning.clause n ls) (omega (arith, narrow)) (clause-reduced n ls)))

      go : (ks : List ℕ) (fs : List Function) → Valued st.nodes st.kept ks fs → map (diagram_at t) ks ≡ map (diagram_at st.nodes) ks
      go [] fs W = refl
      go (j ∷ ks) [] W = absurd W
      go (j ∷ ks) (f ∷ fs) W = ap₂ ◌∷◌ (diagram_at-grown st.nodes t S.ordered made.kept.extends j (omega (arith, W.0, S.kept)))
          (go ks fs W.2)

  -- the tries of a clause in the state st₁ in which its diagram is made
  module _ (st₁ : State) (k : ℕ) (live : live_members st₁ ≡ live_members st) where
    first-fails : (ls : List Literal) → (profile ≡ true) ⊎ (ls ≡ []) → (rup n (live_members st₁) (meaning.clause n ls)).shown ≡ false
        → Caused profile n st (added ls) 19 (rup_cause n (live_members st) (meaning.clause n ls))
    unfolding rup_cause
    first-fails ls last fails =
        first-try-fails last
        (rup-so n st (meaning.clause n ls) (subst (λ (ms : List Diagram). (rup n ms (meaning.clause n ls)).shown ≡ false) live fails))

    second-told : (b : Bool) → profile ≡ b → (ls : List Literal) → (rup n (live_members st₁) (meaning.clause n ls)).shown ≡ false →
        (peak : ℕ)
        → Told b n st (added ls) (after_first b n s st₁ k ls peak)
    unfolding after_first second_try cause clause_cause
    second-told true e ls fails peak = λ h. subst
        (λ (b : Bool). Caused b n st (added ls) 19 (rup_cause n (live_members st) (meaning.clause n ls))) e (first-fails ls (inl e) fails)
    second-told false e [] fails peak = λ h. subst
        (λ (b : Bool). Caused b n st (added []) 19 (rup_cause n (live_members st) (meaning.clause n []))) e
        (first-fails [] (inr refl) fails)
    second-told false e (p ∷ ls) fails peak =
        let P : ℕ → Bool = makes_true (witness p (p ∷ ls)) in
        let N : ℕ → Bool = makes_false (witness p (p ∷ ls)) in
        judged-told false n st (added (p ∷ ls)) s k (with_peak st₁ peak) (second_line n (live_members st₁) p ls) (λ unshown.
        let (rounds, i, is, so) = pr-so n P N st (meaning.clause n (p ∷ ls)) S.marks
        (subst (λ (ms : List Diagram). (second_line n ms p ls).shown ≡ false) live unshown) in
        subst (Caused false n st (added (p ∷ ls)) 19) (sym is) (clause-fails refl so))

    tries-told : (ls : List Literal) → Told profile n st (added ls) (tries profile n s st₁ k ls)
    unfolding tries judged_or
    tries-told ls =
        let c : Command = added ls in
        let first : Line = rup n (live_members st₁) (meaning.clause n ls) in
        tests profile n st c (not (line_reach s st₁.nodes first).fits) _ _ (λ _ h. t≢f (sym h))
        (λ _. tests profile n st c (not first.shown) _ _
        (λ q. second-told profile refl ls (sym (not-not first.shown) ∙ ap not q) (peak_with s st₁ first)) (λ _. tt))

  added-told : (ls : List Literal) → Told profile n st (added ls) (add_step profile n s st ls)
  unfolding add_step
  added-told ls =
      let c : Command = added ls in
      passes profile n st c (leb 1024 st.lines) 22 0 _ refl
      (λ _. passes profile n st c (same (meaning.clause n ls) (leaf true)) 17 0 _ refl
      (λ _. go (place s st.nodes (meaning.clause n ls)) refl))
    where
      go : (p : Placing) → place s st.nodes (meaning.clause n ls) ≡ p →
          Told profile n st (added ls) (once_made st p (λ st₁ k. tries profile n s st₁ k ls))
      go (full t) e = λ h. t≢f (sym h)
      go (placed t k) e = tries-told (with_entry st t k) k (live_same ls t k e) ls

  struck-told : (ls : List Literal) → Told profile n st (struck_out ls) (strike_clause n st ls)
  unfolding strike_clause
  struck-told ls = go (first_same (length st.members) st 0 (meaning.clause n ls))
    where
      go : (o : Option ℕ) → Told profile n st (struck_out ls) (strike_found st o)
      go none = λ h. t≢f (sym h)
      go (some i) = tt

  drat-told : (form : Form) (c : Command) → Known n c → DratFit form n c → Told profile n st c (step profile n s st c)
  unfolding step
  drat-told form (recorded r more) known fit = absurd fit
  drat-told form (added ls) known fit = added-told ls
  drat-told form (struck_out ls) known fit = struck-told ls
  drat-told form (wrong number offset) known fit = λ h. no-fault number known.1 h
  drat-told form finished known fit = passes profile n st finished st.refuted 0 0 (stop 20 0) refl (λ _ h. t≢f (sym h))

  step-told : (form : Form) (c : Command) → Fit form n c → Told profile n st c (step profile n s st c)
  unfolding step
  step-told Records (recorded r more) fit =
      passes profile n st (recorded r more) (shut_out profile r) 33 0 _ refl (λ _. record-told profile n s st S.marks more r)
  step-told Records (added ls) fit = absurd fit
  step-told Records (struck_out ls) fit = absurd fit
  step-told Records (wrong number offset) fit = absurd fit
  step-told Records finished fit = absurd fit
  step-told Text c fit = drat-told Text c (fit-known Text n c fit) fit
  step-told Binary c fit = drat-told Binary c (fit-known Binary n c fit) fit

-- ---- the theorem

module _ (mode : Mode) (s : ℕ) (text proof : List ℕ) where
  told_at : (n at : ℕ) (st : State) (m : Meant) → Reached mode s text proof n st at m →
      Told mode.consequence n st (command_in mode proof n at) (step mode.consequence n s st (command_in mode proof n at))
  told_at n at st m R = let (narrow, S) = reached-standing mode s text proof R in
      step-told mode.consequence S narrow mode.form (command_in mode proof n at) (reached-fit mode s text proof R)

  told : (n number at : ℕ) (st : State) (m : Meant) → Reached mode s text proof n st at m →
      Caused mode.consequence n st (command_in mode proof n at) number (cause mode.consequence n number st (command_in mode proof n at))
      → TrueCause mode s text proof number (cause mode.consequence n number st (command_in mode proof n at))
  told n number at st m R so = record { n = n; state = st; place = at; meant = m; reached = R; caused = so }

  ends_so : (v : Verdict) (x : Ending) → EndsAt mode s text proof v x → has_cause v.number ≡ true →
      TrueCause mode s text proof v.number (cause_in mode v.number proof x)
  ends_so _ _ (formula-refused {number} k i) h = no-cause number k.1 h
  ends_so _ _ (proof-stopped {n} {number} {offset} {at} {st} {m} R e) h =
      told n number at st m R (subst (Told mode.consequence n st (command_in mode proof n at)) e (told_at n at st m R) h)
  ends_so _ _ (proof-spent {n} {number} {peak} {at} {st} {m} R e) h = told n number at st m R
      (subst (Told mode.consequence n st (command_in mode proof n at)) e (told_at n at st m R) h)

  -- THEOREM: the cause of 14, 18 or 19 is true of the command that is refused, in the state reached.
  pub cause-so : has_cause (explanation mode s text proof).number ≡ true
      → TrueCause mode s text proof (explanation mode s text proof).number (explanation mode s text proof).cause
  unfolding explanation
  cause-so = go (eqb (verdict mode s text proof).number 0)
    where
      E : Bool → Explanation
      E t = cond t (explained 30 nothing plain)
          (explained (verdict mode s text proof).number (part_of mode text proof (verdict mode s text proof))
          (cause_in mode (verdict mode s text proof).number proof (ending mode s text proof)))

      go : (t : Bool) → has_cause (E t).number ≡ true → TrueCause mode s text proof (E t).number (E t).cause
      go true h = t≢f (sym h)
      go false h = ends_so (verdict mode s text proof) (ending mode s text proof) (ending-is mode s text proof) h

-- ---- every other number

only-other : (wanted number : ℕ) (c : Cause) → eqb number wanted ≡ false → only wanted number c ≡ plain
only-other wanted number c e = rw e

pub cause-plain : (profile : Bool) (n number : ℕ) (st : State) (c : Command) → has_cause number ≡ false → cause profile n number st c
    ≡ plain
unfolding cause record_cause line_cause
cause-plain profile n number st c other =
    let (a, rest) = or-neither (eqb number 14) (eqb number 18 || eqb number 19) other in
    let (b, d) = or-neither (eqb number 18) (eqb number 19) rest in go a b d c
  where
    go : eqb number 14 ≡ false → eqb number 18 ≡ false → eqb number 19 ≡ false → (c : Command) → cause profile n number st c ≡ plain
    go a b d (recorded (NodeEntry x) more) = only-other 14 number _ a
    go a b d (recorded (Witness v x) more) = refl
    go a b d (recorded (ProofLine Rup root) more) = only-other 19 number _ d
    go a b d (recorded (ProofLine Pr root) more) = rw b (only-other 19 number _ d)
    go a b d (recorded (ProofLine Path root) more) = only-other 19 number _ d
    go a b d (recorded (Strike k) more) = refl
    go a b d (recorded (SetEntry kind x) more) = refl
    go a b d (recorded End more) = refl
    go a b d (recorded CutShort more) = refl
    go a b d (recorded UnknownKind more) = refl
    go a b d (recorded NoRecord more) = refl
    go a b d (added ls) = only-other 19 number _ d
    go a b d (struck_out ls) = refl
    go a b d (wrong k offset) = refl
    go a b d finished = refl
