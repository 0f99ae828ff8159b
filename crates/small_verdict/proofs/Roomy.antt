-- A check in records of a formula of at most six variables is not refused for room in a table of more than 2^64 places, nor for the paths
-- of a line. The idea: a table in good order of six variables has at most 2^64 nodes, so that no placing finds it full; a diagram of six
-- variables has at most 64 paths. Assumes nothing.
use mathlib.Core.Path.{◌≡◌, refl, sym, ap, ap₂, ◌∙◌, subst}
use mathlib.Core.Logic.{◌≢◌}
use mathlib.Core.Bool.{Bool, true, false, not, ◌&&◌, ◌||◌, cond}
use mathlib.Core.List.{List, [], ◌∷◌}
use Prim.Native.Nat.{ℕ, suc, ◌+◌, ◌^◌, ◌≤◌, ◌<◌, max}
use native.Mathlib.Omega.{arith}
use lib.ListN.{length}
use lib.Dec.{eqb, ltb, leb}
use borrow.Author.Tests.{leb-true, le-ltb, ne_eqb}
use Rattle.meaning.specs.Diagram.{Diagram}
use Rattle.meaning.specs.Reduced.{Reduced}
use Rattle.meaning.specs.Operations as meaning
use Rattle.meaning.specs.Rules.{Line, rup, pr, witnessed}
use Rattle.meaning.specs.Words.{in_word}
use Rattle.meaning.proofs.Booleans.{t≢f, and_both}
use Rattle.meaning.proofs.Values.{reduced-to, diagram-reduced}
use Rattle.meaning.proofs.Ends.{AllReduced}
use Rattle.paths.specs.Paths.{path_line, path_count}
use Rattle.table.specs.Nodes.{Node, at, above, Placing, full, placed, put, place}
use Rattle.table.specs.Making.{Room, short, all, after_placing, placed_all, reached, turns_reach, kept_reach, line_reach}
use Rattle.table.proofs.Order.{Ordered, above-true}
use Rattle.table.proofs.Numbers.{UsesTo}
use Rattle.table.proofs.Numbers as numbers
use Rattle.table.proofs.Placing.{After, place_after, put-place}
use Rattle.dimacs.specs.Header.{Header, Proper, Improper, header}
use Rattle.dimacs.specs.Clauses.{Reading}
use Rattle.records.specs.declared.NodeBody.{NodeBody}
use Rattle.records.specs.declared.SetKind.{SetKind}
use Rattle.records.specs.declared.SetBody.{SetBody}
use Rattle.records.specs.declared.Rule.{Rule}
use Rattle.records.specs.declared.Rule.TheVariants.{Rup, Pr, Path}
use Rattle.records.specs.declared.Record.{Record}
use Rattle.records.specs.declared.Record.TheVariants.{NodeEntry, Witness, ProofLine, Strike, SetEntry, End, CutShort, UnknownKind}
use Rattle.records.specs.declared.Record.TheVariants.{NoRecord}
use Rattle.records.specs.Records.{record_at, length_of}
use Rattle.commands.specs.Commands.{in_records}
use Rattle.verdict.specs.Steps.{State, Step, next, stop, spent, is_entry, entry_node, is_variable, entered, node_step, witness_step}
use Rattle.verdict.specs.Steps.{waiting}
use Rattle.verdict.specs.Steps.{accepted, judged, diagram_in, live_members, line_step, is_live, strike_step, beyond, no_parity, set_diagram}
use Rattle.verdict.specs.Steps.{set_step, end_step, record_step}
use Rattle.verdict.specs.Check.{step, Verdict, verdict}
use Rattle.verdict.specs.Taken.{Function, Meant}
use Rattle.verdict.specs.Run.{Making, opened, made, Reached, begins, goes, Ended, no_header, not-read, no_room, stopped, tried}
use Rattle.verdict.proofs.Formula.{Early, NamedHeader, header-named}
use Rattle.verdict.proofs.Uses.{UsesAfter, place-uses}
use Rattle.verdict.proofs.Standing.{Standing, entry-valued, over-reduced}
use Rattle.verdict.proofs.SetValues.{set-reduced}
use Rattle.verdict.proofs.Clauses.{underway}
use Rattle.verdict.proofs.Ends.{reached-standing, ended}
use Rattle.verdict.proofs.Numbers.{making-refused}
use Rattle.small_verdict.proofs.FewPaths.{few-paths}
use Rattle.small_verdict.proofs.Never.{never-full}
use Rattle.room.proofs.Reduced.{AllTurns, rup-reduced, pr-reduced, path-reduced}

-- The numbers that speak of sizes: of the lent lists (7), of the table (8, 23), of a line's paths (34).
abbrev pub is_of_size : ℕ → Bool
is_of_size number = eqb number 7 || (eqb number 8 || (eqb number 23 || eqb number 34))

pub not-of-size : (number : ℕ) → is_of_size number ≡ false → (number ≢ 7) × (number ≢ 8) × (number ≢ 23) × (number ≢ 34)
not-of-size number e = (
  λ q. t≢f (sym (ap is_of_size q) ∙ e),
  λ q. t≢f (sym (ap is_of_size q) ∙ e),
  λ q. t≢f (sym (ap is_of_size q) ∙ e),
  λ q. t≢f
      (sym (ap is_of_size q) ∙ e),
)

module _ (s n : ℕ) (large : 2 ^ 64 < s) (six : n ≤ 6) where
  -- ---- nodes

  -- Nodes of the variables 1 to n in good order.
  pub record Fine (t : List Node) : Type 0 where
    pub ordered : Ordered t
    pub uses : UsesTo n t
    pub room : length t ≤ s

  -- What a placing leaves: it is not full.
  abbrev pub Found : Placing → Type 0
  Found (full t) = ⊥
  Found (placed t k) = Fine t

  uses-six : (t : List Node) → UsesTo n t → UsesTo 6 t
  uses-six t u k two lt = omega (arith, u k two lt)

  pub place_found : (t : List Node) → Fine t → (D : Diagram) → Reduced 1 (suc n) D → Found (place s t D)
  place_found t F D o = go (place s t D) refl (place_after s t F.ordered D o65) (place-uses n s t D F.uses o)
    where
      o65 : Reduced 1 65 D
      o65 = reduced-to 1 (suc n) 65 D (omega arith) o

      o7 : Reduced 1 7 D
      o7 = reduced-to 1 (suc n) 7 D (omega arith) o

      go : (p : Placing) → place s t D ≡ p → After s t D p → UsesAfter n p → Found p
      go (full t₁) e A u = never-full s large t F.ordered (uses-six t F.uses) F.room D o7 o65 t₁ e
      go (placed t₁ k) e A u = record { ordered = A.kept.ordered; uses = u; room = A.kept.room F.room }

  -- ---- a line

  abbrev AllFound : Room → Type 0
  AllFound (short t) = ⊥
  AllFound (all t) = Fine t

  list-found : (fs : List Diagram) (t : List Node) → Fine t → AllReduced n fs → AllFound (placed_all s t fs)
  unfolding placed_all
  list-found [] t F o = F
  list-found (f ∷ fs) t F o = go (place s t f) (place_found t F f o.0) (λ t₁ F₁. list-found fs t₁ F₁ o.1)
    where
      go : (p : Placing) → Found p → ((t₁ : List Node) → Fine t₁ → AllFound (placed_all s t₁ fs)) → AllFound
          (after_placing p (λ t₁. placed_all s t₁ fs))
      go (full t₁) F₁ rec = absurd F₁
      go (placed t₁ k) F₁ rec = rec t₁ F₁

  reached-fits : (r : Room) → AllFound r → (reached r).fits ≡ true
  reached-fits (short t) F = absurd F
  reached-fits (all t) F = refl

  turns_fit : (turns : List (List Diagram)) (t : List Node) → Fine t → AllTurns n turns → (turns_reach s turns t).fits ≡ true
  unfolding turns_reach
  turns_fit [] t F o = refl
  turns_fit (fs ∷ later) t F o = ap₂ ◌&&◌ (reached-fits (placed_all s t fs) (list-found fs t F o.0)) (turns_fit later t F o.1)

  -- LAW: what a line makes finds room.
  pub line-fits : (t : List Node) → Fine t → (line : Line) → AllReduced n line.kept × AllTurns n line.turns → (line_reach s t line).fits
      ≡ true
  unfolding line_reach
  line-fits t F line o = go (placed_all s t line.kept) (list-found line.kept t F o.0)
    where
      go : (r : Room) → AllFound r → (kept_reach s line.turns r).fits ≡ true
      go (short t₁) F₁ = absurd F₁
      go (all t₁) F₁ = turns_fit line.turns t₁ F₁ o.1

  -- ---- one record

  -- What a record results in: none of the four numbers.
  abbrev Roomy : Step → Type 0
  Roomy (next st) = Unit {0}
  Roomy (stop number offset) = is_of_size number ≡ false
  Roomy (spent number peak) = number ≡ 19

  refuses : (c : Bool) (number offset : ℕ) (r : Step) → is_of_size number ≡ false → (c ≡ false → Roomy r) → Roomy
      (cond c (stop number offset) r)
  refuses true number offset r p q = p
  refuses false number offset r p q = q refl

  requires-of : (c : Bool) (number offset : ℕ) (r : Step) → is_of_size number ≡ false → (c ≡ true → Roomy r) → Roomy
      (cond (not c) (stop number offset) r)
  requires-of true number offset r p q = q refl
  requires-of false number offset r p q = p

  -- a test that does not refuse
  passes : (c : Bool) (number offset : ℕ) (r : Step) → c ≡ false → Roomy r → Roomy (cond c (stop number offset) r)
  passes c number offset r e q = subst (λ (b : Bool). Roomy (cond b (stop number offset) r)) (sym e) q

  module _ (m : Meant) (st : State) (S : Standing s n m st) where
    abbrev fine : Fine st.nodes
    fine = record { ordered = S.ordered; uses = S.uses; room = S.room (omega arith) }

    entered-roomy : (p : Placing) → Found p → Roomy (entered st p)
    unfolding entered
    entered-roomy (full t) F = absurd F
    entered-roomy (placed t k) F = tt

    node-put : (b : NodeBody) → is_entry st b.low.0 ≡ true → is_entry st b.high.0 ≡ true
        → above st.nodes b.variable (entry_node st b.low.0) ≡ true → above st.nodes b.variable (entry_node st b.high.0) ≡
        true
        → 1 ≤ b.variable → b.variable ≤ n → Found (put s st.nodes b.variable (entry_node st b.low.0) (entry_node st b.high.0))
    node-put b low high over-low over-high least most =
        let l : ℕ = entry_node st b.low.0 in
        let h : ℕ = entry_node st b.high.0 in
        let low-in : l < length st.nodes = (entry-valued S b.low.0 low).0 in
        let high-in : h < length st.nodes = (entry-valued S b.high.0 high).0 in
        subst Found (sym (put-place s st.nodes S.ordered b.variable l h low-in high-in))
        (place_found st.nodes fine _
        (over-reduced S b.variable l h low-in high-in least (above-true st.nodes b.variable l over-low)
        (above-true st.nodes b.variable h over-high) n S.uses most))

    judged-roomy : (g : ℕ) (line : Line) → AllReduced n line.kept × AllTurns n line.turns → Roomy (judged s st g line)
    unfolding judged
    judged-roomy g line o = rw (line-fits st.nodes fine line o) (go line.shown (max st.peak (line_reach s st.nodes line).peak))
      where
        go : (c : Bool) (peak : ℕ) → Roomy (cond (not c) (spent 19 peak) (next (accepted st g line peak)))
        go true peak = tt
        go false peak = refl

    node-roomy : (b : NodeBody) → Roomy (node_step n s st b)
    unfolding node_step is_variable
    node-roomy b =
        let l : ℕ = entry_node st b.low.0 in
        let h : ℕ = entry_node st b.high.0 in
        refuses (leb 4096 (length st.entries)) 21 0 _ refl λ few.
        requires-of (leb 1 b.variable && leb b.variable n) 12 0 _ refl λ variable.
        requires-of (is_entry st b.low.0 && is_entry st b.high.0) 13 0 _ refl λ entries.
        requires-of (above st.nodes b.variable l && above st.nodes b.variable h) 14 0 _ refl λ over.
        let (least, most) = and_both (leb 1 b.variable) (leb b.variable n) variable in
        let (low, high) = and_both (is_entry st b.low.0) (is_entry st b.high.0) entries in
        let (over-low, over-high) = and_both (above st.nodes b.variable l) (above st.nodes b.variable h) over in
        entered-roomy (put s st.nodes b.variable l h) (node-put b low high over-low over-high (leb-true 1 b.variable least)
        (leb-true b.variable n most))

    witness-roomy : (v : ℕ) (b : Bool) → Roomy (witness_step n st v b)
    unfolding witness_step
    witness-roomy v b =
        refuses (not (is_variable n v)) 12 0 _ refl λ _.
        refuses (in_word st.positive v || in_word st.negative v) 15 0 _ refl λ _. tt

    -- a root's diagram has at most 64 paths
    root-few : (root : ℕ) → is_entry st root ≡ true → ltb 4096 (path_count (diagram_in st (entry_node st root))) ≡ false
    root-few root there =
        let g : ℕ = entry_node st root in
        let o : Reduced 1 (suc n) (diagram_in st g) = numbers.reduced-to n st.nodes S.ordered S.uses g
        (entry-valued S root there).0 in
        le-ltb 4096 (path_count (diagram_in st g)) (omega (
          arith,
          few-paths (diagram_in st g)
              (reduced-to 1 (suc n) 7 (diagram_in st g) (omega arith) o),
        ))

    line-roomy : (rule : Rule) (root : ℕ) → Roomy (line_step n s st rule root)
    unfolding line_step
    line-roomy Rup root =
        let g : ℕ = entry_node st root in
        refuses (not (is_entry st root)) 13 0 _ refl λ _.
        refuses (waiting st) 16 0 _ refl λ _.
        refuses (leb 1024 st.lines) 22 0 _ refl λ _.
        refuses (eqb g 1) 17 0 _ refl λ _.
        judged-roomy g (rup n (live_members st) (diagram_in st g)) (rup-reduced n (live_members st) (diagram_in st g))
    line-roomy Pr root =
        let g : ℕ = entry_node st root in
        let P : ℕ → Bool = in_word st.positive in
        let N : ℕ → Bool = in_word st.negative in
        refuses (not (is_entry st root)) 13 0 _ refl λ _.
        refuses (leb 1024 st.lines) 22 0 _ refl λ _.
        refuses (eqb g 1) 17 0 _ refl λ _.
        refuses (not (witnessed n P N (diagram_in st g))) 18 0 _ refl λ _.
        judged-roomy g (pr n P N (live_members st) (diagram_in st g)) (pr-reduced n P N (live_members st) (diagram_in st g))
    line-roomy Path root =
        let g : ℕ = entry_node st root in
        requires-of (is_entry st root) 13 0 _ refl λ there.
        refuses (waiting st) 16 0 _ refl λ _.
        refuses (leb 1024 st.lines) 22 0 _ refl λ _.
        refuses (eqb g 1) 17 0 _ refl λ _.
        passes (ltb 4096 (path_count (diagram_in st g))) 34 0 _ (root-few root there)
        (judged-roomy g (path_line n (live_members st) (diagram_in st g)) (path-reduced n (live_members st) (diagram_in st g)))

    strike-roomy : (k : ℕ) → Roomy (strike_step st k)
    unfolding strike_step
    strike-roomy k =
        refuses (waiting st) 16 0 _ refl λ _.
        refuses (not (is_live st k)) 28 0 _ refl λ _. tt

    set-roomy : (kind : SetKind) (b : SetBody) → Roomy (set_step n s st kind b)
    unfolding set_step
    set-roomy kind b =
        refuses (leb 4096 (length st.entries)) 21 0 _ refl λ _.
        refuses (beyond n b.set) 12 0 _ refl λ _.
        refuses (no_parity kind b.byte) 29 0 _ refl λ _.
        entered-roomy (place s st.nodes (set_diagram n kind b)) (place_found st.nodes fine (set_diagram n kind b)
        (set-reduced n kind b))

    end-roomy : (more : Bool) → Roomy (end_step st more)
    unfolding end_step
    end-roomy more =
        refuses (waiting st) 16 0 _ refl λ _.
        refuses more 11 1 _ refl λ _.
        refuses st.refuted 0 0 _ refl λ _. refl

    -- LAW: no record is refused for room.
    pub record-roomy : (more : Bool) (r : Record) → Roomy (record_step n s st more r)
    unfolding record_step
    record-roomy more (NodeEntry b) = node-roomy b
    record-roomy more (Witness v b) = witness-roomy v b
    record-roomy more (ProofLine rule root) = line-roomy rule root.0
    record-roomy more (Strike k) = strike-roomy k.0
    record-roomy more (SetEntry kind b) = set-roomy kind b
    record-roomy more End = end-roomy more
    record-roomy more CutShort = refl
    record-roomy more UnknownKind = refl
    record-roomy more NoRecord = refl

-- ---- the check

clause-reduced : (n : ℕ) (ls : List meaning.Literal) → Reduced 1 (suc n) (meaning.clause n ls)
unfolding meaning.clause
clause-reduced n ls = diagram-reduced n (meaning.clause_value ls)

module _ (s : ℕ) (text proof : List ℕ) where
  making-header : {n many : ℕ} {t : List Node} {ms : List ℕ} {fs : List Function} {r : Reading} → Making s text n many t ms fs r → (at : ℕ)
      × (header text ≡ Proper n many at)
  making-header (opened {at} e) = (at, e)
  making-header (made M e) = making-header M

  reached-header : {n : ℕ} {st : State} {at : ℕ} {m : Meant} → Reached in_records s text proof n st at m → (many : ℕ) × (end : ℕ) ×
      (header text ≡ Proper n many end)
  reached-header (begins {many} M) = let (end, e) = making-header M in (many, end, e)
  reached-header (goes R T) = reached-header R

-- Whether the header, if proper, names at most six variables.
abbrev pub AtMostSix : Header → Type 0
AtMostSix (Proper n many at) = n ≤ 6
AtMostSix (Improper number place) = Unit {0}

module _ (s : ℕ) (large : 2 ^ 64 < s) (text proof : List ℕ) (small : AtMostSix (header text)) where
  abbrev NotRoom : Verdict → Type 0
  NotRoom v = is_of_size v.number ≡ false

  early-roomy : (number : ℕ) → Early number → is_of_size number ≡ false
  early-roomy number named =
      rw (
        ne_eqb number 7 (λ q. omega arith),
        ne_eqb number 8 (λ q. omega arith),
        ne_eqb number 23 (λ q. omega arith),
        ne_eqb number 34
            (λ q. omega arith),
      )

  ended-roomy : (v : Verdict) → Ended in_records s text proof v → NotRoom v
  unfolding step
  ended-roomy _ (no_header {number} {place} e) = early-roomy number (subst NamedHeader e (header-named text))
  ended-roomy _ (not-read {n} {many} {number} M) = early-roomy number (making-refused s text M)
  ended-roomy _ (no_room {n} {many} {first} {t} {t₁} {ms} {fs} {ls} M e) =
      let six : n ≤ 6 = subst AtMostSix (making-header s text proof M).1 small in
      let S : Standing s n _ _ = (underway s text n many M).standing in
      absurd (subst (Found s n large six) e
      (place_found s n large six t (record { ordered = S.ordered; uses = S.uses; room = S.room (omega arith) }) (meaning.clause n ls)
      (clause-reduced n ls)))
  ended-roomy _ (stopped {n} {number} {offset} {at} {st} {m} R e) =
      let six : n ≤ 6 = subst AtMostSix (reached-header s text proof R).2 small in
      subst (Roomy s n large six) e (record-roomy s n large six m st (reached-standing in_records s text proof R).1
      (ltb (at + length_of (record_at proof at)) (length proof)) (record_at proof at))
  ended-roomy _ (tried {n} {number} {peak} {at} {st} {m} R e) =
      let six : n ≤ 6 = subst AtMostSix (reached-header s text proof R).2 small in
      let is : number ≡ 19 = subst (Roomy s n large six) e (record-roomy s n large six m st (reached-standing in_records s text proof R).1
      (ltb (at + length_of (record_at proof at)) (length proof)) (record_at proof at)) in
      ap is_of_size is

  -- THEOREM: with more than 2^64 places a check of at most six variables is refused neither for room nor for the paths of a line.
  pub not-for-room : NotRoom (verdict in_records s text proof)
  not-for-room = ended-roomy (verdict in_records s text proof) (ended in_records s text proof)
