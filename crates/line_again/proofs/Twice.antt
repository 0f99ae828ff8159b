-- A command that is refused with a number that has a cause is refused so in every state that differs in rounds, peak and `refuted` alone,
-- and its cause is the same: no test before such a number looks at them. Assumes nothing.
use mathlib.Core.Path.{◌≡◌, refl, sym, ap, ◌∙◌}
use mathlib.Core.Logic.{◌≢◌}
use mathlib.Core.Bool.{Bool, true, false, not, ◌&&◌, ◌||◌, cond}
use mathlib.Core.List.{List, [], ◌∷◌}
use mathlib.Core.Option.{Option, none, some}
use Prim.Native.Nat.{ℕ, zero, suc, ◌<◌, max}
use native.Mathlib.Omega.{arith}
use lib.ListN.{length, get_or}
use lib.Dec.{eqb, ltb, leb}
use Rattle.meaning.specs.Diagram.{Diagram, leaf, same}
use Rattle.meaning.specs.Operations as meaning
use Rattle.meaning.specs.Operations.{Literal, negation}
use Rattle.meaning.specs.Rules.{Line, by_diagram, rup, pr, pr_turns, witnessed}
use Rattle.meaning.specs.Words.{in_word}
use Rattle.meaning.proofs.Booleans.{t≢f, or_cases, eqb-eq}
use Rattle.paths.specs.Paths.{path_line, path_count}
use Rattle.table.specs.Nodes.{above, Placing, full, placed, put, place}
use Rattle.table.specs.Making.{line_reach}
use Rattle.records.specs.declared.NodeBody.{NodeBody}
use Rattle.records.specs.declared.Rule.{Rule}
use Rattle.records.specs.declared.Rule.TheVariants.{Rup, Pr, Path}
use Rattle.records.specs.declared.Record.{Record}
use Rattle.records.specs.declared.Record.TheVariants.{NodeEntry, Witness, ProofLine, Strike, SetEntry, End, CutShort, UnknownKind}
use Rattle.records.specs.declared.Record.TheVariants.{NoRecord}
use Rattle.clausal.specs.Tries.{makes_true, makes_false, witness}
use Rattle.commands.specs.Commands.{Command, recorded, added, struck_out, wrong, finished}
use Rattle.verdict.specs.Steps.{State, with_entry, Step, next, stop, spent, is_entry, entry_node, is_variable, entered, node_step}
use Rattle.verdict.specs.Steps.{witness_step}
use Rattle.verdict.specs.Steps.{waiting, judged, diagram_in, live_members, line_step, is_live, strike_step, beyond, no_parity}
use Rattle.verdict.specs.Steps.{set_diagram, set_step, end_step, record_step}
use Rattle.verdict.specs.Clausal.{with_peak, judged_or, second_line, second_try, after_first, tries, once_made, add_step, first_same}
use Rattle.verdict.specs.Clausal.{strike_found}
use Rattle.verdict.specs.Clausal.{strike_clause}
use Rattle.verdict.specs.Check.{shut_out, step}
use Rattle.verdict.proofs.Commands.{Known}
use Rattle.causes.specs.Causes.{Cause, assignment, fixed, offender, variables_of, smallest, fixes, turn_members, unshown, pr_cause}
use Rattle.causes.specs.Causes.{line_cause}
use Rattle.causes.specs.Causes.{record_cause, clause_cause, only, cause}
use Rattle.causes.proofs.Causes.{has_cause}
use Rattle.line_again.specs.Before.{with_counts}

-- A number with a cause is refused again: 14 and 18 at the command's first byte, 19 once nodes were made.
abbrev pub Twice : Step → Step → Type 0
Twice (next st) y = Unit {0}
Twice (stop number offset) y = has_cause number ≡ true → (number ≢ 19) × (offset ≡ 0) × (y ≡ stop number offset)
Twice (spent number peak) y = has_cause number ≡ true → (number ≡ 19) × ((again : ℕ) × (y ≡ spent 19 again))

no-cause : {A : Type 0} (number : ℕ) → number ≢ 14 → number ≢ 18 → number ≢ 19 → has_cause number ≡ true → A
no-cause number a b d h =
    or_cases (eqb number 14) (eqb number 18 || eqb number 19) h (λ e. absurd (a (eqb-eq number 14 e)))
    (λ q. or_cases (eqb number 18) (eqb number 19) q (λ e. absurd (b (eqb-eq number 18 e))) (λ e. absurd (d (eqb-eq number 19 e))))

-- a test that both take
tests : (t : Bool) (x y x' y' : Step) → Twice x x' → Twice y y' → Twice (cond t x y) (cond t x' y')
tests true x y x' y' p q = p
tests false x y x' y' p q = q

-- a test that refuses with a number without such a cause
passes : (t : Bool) (number offset : ℕ) (y y' : Step) → has_cause number ≡ false → Twice y y' →
    Twice (cond t (stop number offset) y) (cond t (stop number offset) y')
passes t number offset y y' other q = tests t (stop number offset) y (stop number offset) y' (λ h. t≢f (sym h ∙ other)) q

-- the end of a proof
ends : (t : Bool) (y : Step) → Twice (cond t (stop 0 0) (stop 20 0)) y
ends true y = λ h. t≢f (sym h)
ends false y = λ h. t≢f (sym h)

judged-twice : (rounds peak : ℕ) (refuted : Bool) (s g : ℕ) (st : State) (line : Line) →
    Twice (judged s st g line) (judged s (with_counts st rounds peak refuted) g line)
unfolding judged
judged-twice rounds peak refuted s g st line =
    tests (not (line_reach s st.nodes line).fits) _ _ _ _ (λ h. t≢f (sym h))
    (tests (not line.shown) _ _ _ _ (λ h. (refl, (_, refl))) tt)

entered-twice : (st x : State) (p : Placing) → Twice (entered st p) (entered x p)
unfolding entered
entered-twice st x (full t) = λ h. t≢f (sym h)
entered-twice st x (placed t k) = tt

module _ (rounds peak : ℕ) (refuted : Bool) where
  abbrev also : State → State
  also st = with_counts st rounds peak refuted

  module _ (n s : ℕ) (st : State) where
    node-twice : (b : NodeBody) → Twice (node_step n s st b) (node_step n s (also st) b)
    unfolding node_step is_entry entry_node
    node-twice b =
        let l : ℕ = entry_node st b.low.0 in
        let h : ℕ = entry_node st b.high.0 in
        passes (leb 4096 (length st.entries)) 21 0 _ _ refl
        (passes (not (is_variable n b.variable)) 12 0 _ _ refl
        (passes (not (is_entry st b.low.0 && is_entry st b.high.0)) 13 0 _ _ refl
        (tests (not (above st.nodes b.variable l && above st.nodes b.variable h)) (stop 14 0) _ (stop 14 0) _
        (λ _. ((λ z. omega arith), refl, refl))
        (entered-twice st (also st) (put s st.nodes b.variable l h)))))

    line-twice : (rule : Rule) (root : ℕ) → Twice (line_step n s st rule root) (line_step n s (also st) rule root)
    unfolding line_step is_entry entry_node waiting
    line-twice Rup root =
        let g : ℕ = entry_node st root in
        passes (not (is_entry st root)) 13 0 _ _ refl
        (passes (waiting st) 16 0 _ _ refl
        (passes (leb 1024 st.lines) 22 0 _ _ refl
        (passes (eqb g 1) 17 0 _ _ refl (judged-twice rounds peak refuted s g st (rup n (live_members st) (diagram_in st g))))))
    line-twice Pr root =
        let g : ℕ = entry_node st root in
        let P : ℕ → Bool = in_word st.positive in
        let N : ℕ → Bool = in_word st.negative in
        passes (not (is_entry st root)) 13 0 _ _ refl
        (passes (leb 1024 st.lines) 22 0 _ _ refl
        (passes (eqb g 1) 17 0 _ _ refl
        (tests (not (witnessed n P N (diagram_in st g))) (stop 18 0) _ (stop 18 0) _ (λ _. ((λ z. omega arith), refl, refl))
        (judged-twice rounds peak refuted s g st (pr n P N (live_members st) (diagram_in st g))))))
    line-twice Path root =
        let g : ℕ = entry_node st root in
        passes (not (is_entry st root)) 13 0 _ _ refl
        (passes (waiting st) 16 0 _ _ refl
        (passes (leb 1024 st.lines) 22 0 _ _ refl
        (passes (eqb g 1) 17 0 _ _ refl
        (passes (ltb 4096 (path_count (diagram_in st g))) 34 0 _ _ refl
        (judged-twice rounds peak refuted s g st (path_line n (live_members st) (diagram_in st g)))))))

    record-twice : (more : Bool) (r : Record) → Twice (record_step n s st more r) (record_step n s (also st) more r)
    unfolding record_step witness_step strike_step set_step end_step waiting is_live
    record-twice more (NodeEntry b) = node-twice b
    record-twice more (Witness v b) =
        passes (not (is_variable n v)) 12 0 _ _ refl (passes (in_word st.positive v || in_word st.negative v) 15 0 _ _ refl tt)
    record-twice more (ProofLine rule root) = line-twice rule root.0
    record-twice more (Strike k) = passes (waiting st) 16 0 _ _ refl (passes (not (is_live st k.0)) 28 0 _ _ refl tt)
    record-twice more (SetEntry kind b) =
        passes (leb 4096 (length st.entries)) 21 0 _ _ refl
        (passes (beyond n b.set) 12 0 _ _ refl
        (passes (no_parity kind b.byte) 29 0 _ _ refl
        (entered-twice st (also st) (place s st.nodes (set_diagram n kind b)))))
    record-twice more End =
        passes (waiting st) 16 0 _ _ refl (passes more 11 1 _ _ refl (ends st.refuted _))
    record-twice more CutShort = λ h. t≢f (sym h)
    record-twice more UnknownKind = λ h. t≢f (sym h)
    record-twice more NoRecord = λ h. t≢f (sym h)

    -- the tries of a clause in the state st, in which its diagram is made
    after-twice : (profile : Bool) (k : ℕ) (ls : List Literal) (most more : ℕ) →
        Twice (after_first profile n s st k ls most) (after_first profile n s (also st) k ls more)
    unfolding after_first second_try
    after-twice true k ls most more = λ h. (refl, (_, refl))
    after-twice false k [] most more = λ h. (refl, (_, refl))
    after-twice false k (p ∷ ls) most more =
        judged-twice rounds more refuted s k (with_peak st most) (second_line n (live_members st) p ls)

    tries-twice : (profile : Bool) (k : ℕ) (ls : List Literal) → Twice (tries profile n s st k ls) (tries profile n s (also st) k ls)
    unfolding tries judged_or
    tries-twice profile k ls =
        let first : Line = rup n (live_members st) (meaning.clause n ls) in
        tests (not (line_reach s st.nodes first).fits) _ _ _ _ (λ h. t≢f (sym h))
        (tests (not first.shown) _ _ _ _ (after-twice profile k ls _ _) tt)

module _ (rounds peak : ℕ) (refuted : Bool) (n s : ℕ) (st : State) where
  added_twice : (profile : Bool) (ls : List Literal) → Twice (add_step profile n s st ls)
      (add_step profile n s (also rounds peak refuted st) ls)
  unfolding add_step
  added_twice profile ls =
      passes (leb 1024 st.lines) 22 0 _ _ refl
      (passes (same (meaning.clause n ls) (leaf true)) 17 0 _ _ refl (go (place s st.nodes (meaning.clause n ls))))
    where
      go : (p : Placing) → Twice (once_made st p (λ st₁ k. tries profile n s st₁ k ls))
          (once_made (also rounds peak refuted st) p (λ st₁ k. tries profile n s st₁ k ls))
      go (full t) = λ h. t≢f (sym h)
      go (placed t k) = tries-twice rounds (max peak (length t)) refuted n s (with_entry st t k) profile k ls

  struck-twice : (ls : List Literal) (y : Step) → Twice (strike_clause n st ls) y
  unfolding strike_clause
  struck-twice ls y = go (first_same (length st.members) st 0 (meaning.clause n ls))
    where
      go : (o : Option ℕ) → Twice (strike_found st o) y
      go none = λ h. t≢f (sym h)
      go (some i) = tt

  -- THEOREM: a command that is refused with such a number is refused so again.
  pub step_twice : (profile : Bool) (c : Command) → Known n c →
      Twice (step profile n s st c) (step profile n s (with_counts st rounds peak refuted) c)
  unfolding step
  step_twice profile (recorded r more) known = passes (shut_out profile r) 33 0 _ _ refl (record-twice rounds peak refuted n s st more r)
  step_twice profile (added ls) known = added_twice profile ls
  step_twice profile (struck_out ls) known = struck-twice ls _
  step_twice profile (wrong number offset) known = λ h. no-cause number (other 14 (omega arith) (omega arith))
      (other 18 (omega arith) (omega arith)) (other 19 (omega arith) (omega arith)) h
    where
      other : (k : ℕ) → 9 < k → k < 31 → number ≢ k
      other k least most e = omega (arith, known.1 (λ z. omega (arith, z, e, most)), e, least)
  step_twice profile finished known = ends st.refuted _

-- ---- the cause

module _ (rounds peak : ℕ) (refuted : Bool) (n : ℕ) (st : State) where
  abbrev x : State
  x = with_counts st rounds peak refuted

  unshown-same : (k : ℕ) (P N : ℕ → Bool) (ms : List Diagram) (i : ℕ) → unshown k n P N ms x i ≡ unshown k n P N ms st i
  unfolding unshown is_live
  unshown-same zero P N ms i = refl
  unshown-same (suc k) P N ms i =
      let f : Diagram = diagram_in st (get_or st.members i 0) in
      ap (λ (later : Cause). cond (is_live st i && not (pr_turns n P N ms (f ∷ [])).shown)
      (fixed (fixes n (turn_members n P N ms f)) (some i))
      later) (unshown-same k P N ms (suc i))

  pr-same : (P N : ℕ → Bool) (g : Diagram) → pr_cause n P N x g ≡ pr_cause n P N st g
  unfolding pr_cause
  pr-same P N g = unshown-same (length st.members) P N (by_diagram n (negation n g) (live_members st)) 0

  line_same : (number : ℕ) (rule : Rule) (g : Diagram) → line_cause n number x rule g ≡ line_cause n number st rule g
  unfolding line_cause
  line_same number Rup g = refl
  line_same number Pr g =
      ap (λ (c : Cause). cond (eqb number 18) (assignment (smallest n (in_word st.positive) (in_word st.negative) g))
      (only 19 number c))
      (pr-same (in_word st.positive) (in_word st.negative) g)
  line_same number Path g = refl

  record_same : (number : ℕ) (r : Record) → record_cause n number x r ≡ record_cause n number st r
  unfolding record_cause variables_of offender entry_node
  record_same number (NodeEntry b) = refl
  record_same number (Witness v b) = refl
  record_same number (ProofLine rule root) = line_same number rule (diagram_in st (entry_node st root.0))
  record_same number (Strike k) = refl
  record_same number (SetEntry kind b) = refl
  record_same number End = refl
  record_same number CutShort = refl
  record_same number UnknownKind = refl
  record_same number NoRecord = refl

  clause-same : (profile : Bool) (ls : List Literal) → clause_cause profile n x ls ≡ clause_cause profile n st ls
  unfolding clause_cause
  clause-same true ls = refl
  clause-same false [] = refl
  clause-same false (p ∷ ls) =
      pr-same (makes_true (witness p (p ∷ ls))) (makes_false (witness p (p ∷ ls))) (meaning.clause n (p ∷ ls))

  -- THEOREM: so is its cause.
  pub cause-same : (profile : Bool) (number : ℕ) (c : Command) → cause profile n number x c ≡ cause profile n number st c
  unfolding cause
  cause-same profile number (recorded r more) = record_same number r
  cause-same profile number (added ls) = ap (λ (c : Cause). only 19 number c) (clause-same profile ls)
  cause-same profile number (struck_out ls) = refl
  cause-same profile number (wrong k offset) = refl
  cause-same profile number finished = refl
