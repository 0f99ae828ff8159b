-- Where the calls give 8 and 23: a clause, a node record, a line or an operation whose making wants a node that is not in the full table.
-- The idea: each is given where a placing, or a list of them, finds no room. Assumes nothing.
use Rattle.paths.specs.Paths.{path_count}
use mathlib.Core.Path.{◌≡◌, refl, sym, ◌∙◌, subst}
use mathlib.Core.Bool.{Bool, true, false, not, ◌&&◌, ◌||◌, cond}
use mathlib.Core.List.{List, [], ◌∷◌}
use Prim.Native.Nat.{ℕ, suc, ◌≤◌, ◌<◌}
use native.Mathlib.Omega.{arith}
use lib.ListN.{length}
use lib.Seq.{length-take-le}
use lib.Dec.{eqb, ltb, leb}
use borrow.Author.Tests.{eqb-true, leb-true, not-false}
use Rattle.meaning.specs.Diagram.{Diagram, leaf, same}
use Rattle.meaning.specs.Reduced.{Reduced}
use Rattle.meaning.specs.Operations as meaning
use Rattle.meaning.specs.Rules.{Line, witnessed}
use Rattle.meaning.specs.Words.{in_word}
use Rattle.meaning.proofs.Booleans.{and_both}
use Rattle.meaning.proofs.Values.{reduced-to, diagram-reduced}
use Rattle.meaning.proofs.Ends.{AllReduced}
use Rattle.table.specs.Nodes.{Node, above, diagram_at, Placing, full, placed, put, place}
use Rattle.table.specs.Columns.{rows, size_fits, Columns}
use Rattle.table.specs.Making.{line_reach}
use Rattle.table.proofs.Order.{Ordered, above-true, GoodPlaces}
use Rattle.table.proofs.Numbers.{uses-64}
use Rattle.table.proofs.Placing.{Made as MadeNode, put-place}
use Rattle.table.proofs.Written.{length-rows}
use Rattle.table.proofs.Sizes.{Sized, sized}
use Rattle.table.proofs.InOrder.{good-order}
use Rattle.records.specs.declared.NodeBody.{NodeBody}
use Rattle.records.specs.declared.Rule.{Rule}
use Rattle.records.specs.declared.Rule.TheVariants.{Rup, Pr, Path}
use Rattle.records.specs.declared.Record.{Record}
use Rattle.records.specs.declared.Record.TheVariants.{NodeEntry, Witness, ProofLine, Strike, SetEntry, End, CutShort, UnknownKind}
use Rattle.records.specs.declared.Record.TheVariants.{NoRecord}
use Rattle.clausal.specs.Tries.{makes_true, makes_false, witness}
use Rattle.commands.specs.declared.Form.{Form}
use Rattle.commands.specs.declared.Form.TheVariants.{Records, Text, Binary}
use Rattle.commands.specs.Commands.{Command, recorded, added, struck_out, wrong, finished}
use Rattle.operate.specs.declared.Operation.{Operation}
use Rattle.operate.specs.declared.Operation.TheVariants.{Conjunction, Negation, Cofactor, Literals}
use Rattle.operate.specs.Operate.{result}
use Rattle.operate.proofs.Results.{result-reduced}
use Rattle.single.specs.Single as single
use Rattle.single.specs.Single.{Made, refusal, shares_variable, operand_refusal, made_by, operation}
use Rattle.verdict.specs.Steps.{State, with_entry, next, stop, spent, is_entry, entry_node, is_variable, entered, node_step, witness_step}
use Rattle.verdict.specs.Steps.{waiting, accepted, judged, diagram_in, live_members, line_step, is_live, strike_step, beyond, no_parity}
use Rattle.verdict.specs.Steps.{set_diagram, set_step, end_step, record_step}
use Rattle.verdict.specs.Clausal.{with_peak, judged_or, second_line, second_try, after_first, tries, once_made, add_step}
use Rattle.verdict.specs.Check.{step, CheckOutcome, outcome, shut_out}
use Rattle.verdict.specs.Taken.{Meant, line_of, peak_with}
use Rattle.verdict.specs.ClauseTaken.{first_line}
use Rattle.verdict.specs.Run.{command_in, no_header, not-read, no_room, stopped, tried}
use Rattle.verdict.proofs.Steps.{spent-other, next-not-spent, stop-not-spent, past-early}
use Rattle.verdict.proofs.SetValues.{set-reduced}
use Rattle.verdict.proofs.Standing.{Standing, entry-valued, over-reduced}
use Rattle.verdict.proofs.Formula.{NamedHeader, header-named}
use Rattle.verdict.proofs.Clauses.{underway}
use Rattle.verdict.proofs.Ends.{reached-standing}
use Rattle.verdict.proofs.ClauseSays.{StruckSays, FinishSays, struck-says, finish-says}
use Rattle.verdict.proofs.Numbers.{making-refused, NumberedIn, proof-number, stop-number, spent-proof, reached-numbered}
use Rattle.demands.specs.Calls.{nodes_of_columns, in_good_order}
use Rattle.demands.specs.Leaving.{Handed, checked, Fits, places, Ends, wrong_size, at_place}
use Rattle.demands.specs.Full.{Wants, LineWants, RecordWants, ClauseWants, in-clause, in-first, in-second, CommandWants, AtClause}
use Rattle.demands.specs.Full.{AtCommand}
use Rattle.demands.proofs.Singles.{not-refused}
use Rattle.demands.proofs.Ending.{check-ends}
use Rattle.demands.proofs.Lists.{sizes}
use Rattle.demands.proofs.TextMembers.{clause-made}
use Rattle.demands.proofs.Full.{place-wants}
use Rattle.room.proofs.Reduced.{AllTurns, rup-reduced, pr-reduced, path-reduced}
use Rattle.demands.proofs.LineRoom.{line-wants}

-- ---- a record with 23

clause-to : (n : ℕ) (ls : List meaning.Literal) → n ≤ 64 → Reduced 1 65 (meaning.clause n ls)
unfolding meaning.clause
clause-to n ls narrow = reduced-to 1 (suc n) 65 (meaning.clause n ls) (omega arith) (diagram-reduced n (meaning.clause_value ls))

module _ {s n : ℕ} {m : Meant} {st : State} (S : Standing s n m st) (narrow : n ≤ 64) (two : 2 ≤ s) {peak : ℕ} where
  entered-full : (p : Placing) → entered st p ≡ spent 23 peak → (t' : List Node) × (p ≡ full t')
  unfolding entered
  entered-full (full t) e = (t, refl)
  entered-full (placed t k) e = next-not-spent _ e

  node-wants : (b : NodeBody) → node_step n s st b ≡ spent 23 peak → RecordWants n s st (NodeEntry b)
  unfolding node_step
  node-wants b e =
      let l : ℕ = entry_node st b.low.0 in
      let h : ℕ = entry_node st b.high.0 in
      let (p₁, e₁) = past-early (leb 4096 (length st.entries)) 21 0 _ e in
      let (p₂, e₂) = past-early (not (is_variable n b.variable)) 12 0 _ e₁ in
      let (p₃, e₃) = past-early (not (is_entry st b.low.0 && is_entry st b.high.0)) 13 0 _ e₂ in
      let (p₄, e₄) = past-early (not (above st.nodes b.variable l && above st.nodes b.variable h)) 14 0 _ e₃ in
      let (least, most) = and_both (leb 1 b.variable) (leb b.variable n) (not-false (is_variable n b.variable) p₂) in
      let (low, high) = and_both (is_entry st b.low.0) (is_entry st b.high.0) (not-false _ p₃) in
      let (over-low, over-high) = and_both (above st.nodes b.variable l) (above st.nodes b.variable h) (not-false _ p₄) in
      let low-in : l < length st.nodes = (entry-valued S b.low.0 low).0 in
      let high-in : h < length st.nodes = (entry-valued S b.high.0 high).0 in
      let (t', is) = entered-full (put s st.nodes b.variable l h) e₄ in
      let o = over-reduced S b.variable l h low-in high-in (leb-true 1 b.variable least)
      (above-true st.nodes b.variable l over-low) (above-true st.nodes b.variable h over-high) 64
      (uses-64 st.nodes S.ordered) (omega (arith, leb-true b.variable n most)) in
      place-wants s st.nodes S.ordered (S.room two) _ o t'
      (sym (put-place s st.nodes S.ordered b.variable l h low-in high-in) ∙ is)

  judged-wants : (x : State) → Ordered x.nodes → length x.nodes ≤ s → (g : ℕ) (line : Line) → AllReduced n line.kept
      × AllTurns n line.turns
      → judged s x g line ≡ spent 23 peak → LineWants s x.nodes line
  unfolding judged
  judged-wants x O room g line o e = go (line_reach s x.nodes line).fits refl e
    where
      late : (shown : Bool) → cond (not shown) (spent 19 (peak_with s x line)) (next (accepted x g line (peak_with s x line)))
          ≡ spent 23 peak → LineWants s x.nodes line
      late true e = next-not-spent _ e
      late false e = spent-other 19 _ refl e

      go : (c : Bool) → (line_reach s x.nodes line).fits ≡ c
          → cond (not c) (spent 23 (peak_with s x line))
          (cond (not line.shown) (spent 19 (peak_with s x line)) (next (accepted x g line (peak_with s x line)))) ≡ spent 23 peak
          → LineWants s x.nodes line
      go false q e = line-wants s n narrow x.nodes O room line o q
      go true q e = late line.shown e

  line-record : (rule : Rule) (root : ℕ) → line_step n s st rule root ≡ spent 23 peak →
      LineWants s st.nodes (line_of n st rule (entry_node st root))
  unfolding line_step
  line-record Rup root e =
      let g : ℕ = entry_node st root in
      let (p₁, e₁) = past-early (not (is_entry st root)) 13 0 _ e in
      let (p₂, e₂) = past-early (waiting st) 16 0 _ e₁ in
      let (p₃, e₃) = past-early (leb 1024 st.lines) 22 0 _ e₂ in
      let (p₄, e₄) = past-early (eqb g 1) 17 0 _ e₃ in
      judged-wants st S.ordered (S.room two) g (line_of n st Rup g) (rup-reduced n (live_members st) (diagram_in st g)) e₄
  line-record Pr root e =
      let g : ℕ = entry_node st root in
      let (p₁, e₁) = past-early (not (is_entry st root)) 13 0 _ e in
      let (p₂, e₂) = past-early (leb 1024 st.lines) 22 0 _ e₁ in
      let (p₃, e₃) = past-early (eqb g 1) 17 0 _ e₂ in
      let (p₄, e₄) = past-early (not (witnessed n (in_word st.positive) (in_word st.negative) (diagram_in st g))) 18 0 _ e₃ in
      judged-wants st S.ordered (S.room two) g (line_of n st Pr g)
      (pr-reduced n (in_word st.positive) (in_word st.negative) (live_members st) (diagram_in st g)) e₄
  line-record Path root e =
      let g : ℕ = entry_node st root in
      let (p₁, e₁) = past-early (not (is_entry st root)) 13 0 _ e in
      let (p₂, e₂) = past-early (waiting st) 16 0 _ e₁ in
      let (p₃, e₃) = past-early (leb 1024 st.lines) 22 0 _ e₂ in
      let (p₄, e₄) = past-early (eqb g 1) 17 0 _ e₃ in
      let (p₅, e₅) = past-early (ltb 4096 (path_count (diagram_in st g))) 34 0 _ e₄ in
      judged-wants st S.ordered (S.room two) g (line_of n st Path g) (path-reduced n (live_members st) (diagram_in st g)) e₅

  record-wants : (more : Bool) (r : Record) → record_step n s st more r ≡ spent 23 peak → RecordWants n s st r
  unfolding record_step witness_step strike_step set_step end_step
  record-wants more (NodeEntry b) e = node-wants b e
  record-wants more (ProofLine rule root) e = line-record rule root.0 e
  record-wants more (Witness v b) e =
      let (p₁, e₁) = past-early (not (is_variable n v)) 12 0 _ e in
      let (p₂, e₂) = past-early (in_word st.positive v || in_word st.negative v) 15 0 _ e₁ in
      next-not-spent _ e₂
  record-wants more (Strike k) e =
      let (p₁, e₁) = past-early (waiting st) 16 0 _ e in
      let (p₂, e₂) = past-early (not (is_live st k.0)) 28 0 _ e₁ in
      next-not-spent _ e₂
  record-wants more (SetEntry kind b) e =
      let (p₁, e₁) = past-early (leb 4096 (length st.entries)) 21 0 _ e in
      let (p₂, e₂) = past-early (beyond n b.set) 12 0 _ e₁ in
      let (p₃, e₃) = past-early (no_parity kind b.byte) 29 0 _ e₂ in
      let (t', is) = entered-full (place s st.nodes (set_diagram n kind b)) e₃ in
      place-wants s st.nodes S.ordered (S.room two) (set_diagram n kind b)
      (reduced-to 1 (suc n) 65 (set_diagram n kind b) (omega arith) (set-reduced n kind b)) t' is
  record-wants more End e =
      let (p₁, e₁) = past-early (waiting st) 16 0 _ e in
      let (p₂, e₂) = past-early more 11 1 _ e₁ in
      let (p₃, e₃) = past-early st.refuted 0 0 _ e₂ in
      stop-not-spent 20 0 e₃
  record-wants more CutShort e = stop-not-spent 10 0 e
  record-wants more UnknownKind e = stop-not-spent 9 0 e
  record-wants more NoRecord e = stop-not-spent 10 0 e

  -- ---- a clause with 23

  module _ (ls : List meaning.Literal) (t : List Node) (k : ℕ) (room : place s st.nodes (meaning.clause n ls) ≡ placed t k) where
    second-wants : (profile : Bool) → (line_reach s t (first_line n (with_entry st t k) ls)).fits ≡ true →
        (first_line n (with_entry st t k) ls).shown ≡ false → (rest : List meaning.Literal) → ls ≡ rest → (most : ℕ) →
        after_first profile n s (with_entry st t k) k rest most ≡ spent 23 peak
        → ClauseWants n s st ls
    unfolding after_first second_try
    second-wants true fits failed rest is most e = spent-other 19 _ refl e
    second-wants false fits failed [] is most e = spent-other 19 _ refl e
    second-wants false fits failed (p ∷ rest) is most e =
        let M : MadeNode s st.nodes (meaning.clause n ls) t k = clause-made s n st.nodes ls t k narrow S.ordered room in
        let ω : List meaning.Literal = witness p (p ∷ rest) in
        in-second is room fits failed
        (judged-wants (with_peak (with_entry st t k) most) M.kept.ordered (M.kept.room (S.room two)) k
        (second_line n (live_members (with_entry st t k)) p rest)
        (pr-reduced n (makes_true ω) (makes_false ω) (live_members (with_entry st t k)) (meaning.clause n (p ∷ rest))) e)

    tries-want : (profile : Bool) → tries profile n s (with_entry st t k) k ls ≡ spent 23 peak → ClauseWants n s st ls
    unfolding tries judged_or
    tries-want profile e = go (line_reach s t (first_line n (with_entry st t k) ls)).fits refl (first_line n (with_entry st t k) ls).shown
        refl
        e
      where
        after : State
        after = with_entry st t k

        first : Line
        first = first_line n (with_entry st t k) ls

        M : MadeNode s st.nodes (meaning.clause n ls) t k
        M = clause-made s n st.nodes ls t k narrow S.ordered room

        go : (fits : Bool) → (line_reach s t (first_line n (with_entry st t k) ls)).fits ≡ fits → (shown : Bool) →
            (first_line n (with_entry st t k) ls).shown ≡ shown
            → cond (not fits) (spent 23 (peak_with s after first))
            (cond (not shown) (after_first profile n s (with_entry st t k) k ls (peak_with s after first))
            (next (accepted after k first (peak_with s after first)))) ≡ spent 23 peak
            → ClauseWants n s st ls
        go false q shown r e =
            in-first room (line-wants s n narrow t M.kept.ordered (M.kept.room (S.room two)) first
            (rup-reduced n (live_members (with_entry st t k)) (meaning.clause n ls)) q)
        go true q true r e = next-not-spent _ e
        go true q false r e = second-wants profile q r ls refl (peak_with s after first) e

  clause-wants : (profile : Bool) (ls : List meaning.Literal) → add_step profile n s st ls ≡ spent 23 peak → ClauseWants n s st ls
  unfolding add_step
  clause-wants profile ls e =
      let (p₁, e₁) = past-early (leb 1024 st.lines) 22 0 _ e in
      let (p₂, e₂) = past-early (same (meaning.clause n ls) (leaf true)) 17 0 _ e₁ in
      go (place s st.nodes (meaning.clause n ls)) refl e₂
    where
      go : (q : Placing) → place s st.nodes (meaning.clause n ls) ≡ q → once_made st q (λ st₁ k. tries profile n s st₁ k ls)
          ≡ spent 23 peak → ClauseWants n s st ls
      go (full t) r e = in-clause (place-wants s st.nodes S.ordered (S.room two) (meaning.clause n ls) (clause-to n ls narrow) t r)
      go (placed t k) r e = tries-want ls t k r profile e

  command-wants : (profile : Bool) (c : Command) → step profile n s st c ≡ spent 23 peak → CommandWants n s st c
  unfolding step
  command-wants profile (recorded r more) e = let (p₁, e₁) = past-early (shut_out profile r) 33 0 _ e in record-wants more r e₁
  command-wants profile (added ls) e = clause-wants profile ls e
  command-wants profile (struck_out ls) e = absurd (subst StruckSays e (struck-says n st ls))
  command-wants profile (wrong number offset) e = stop-not-spent number offset e
  command-wants profile finished e = absurd (subst FinishSays e (finish-says st))

-- ---- the calls

at-least-two : (i : Handed) → Fits i → 2 ≤ places i
at-least-two i e = (sizes i e).columns.least

-- no other refusal of a single call is 23
operand-other : (op : Operation) (g : ℕ) → operand_refusal op g ≡ 23 → ⊥
unfolding operand_refusal
operand-other Conjunction g z = absurd (omega arith)
operand-other Negation g z = absurd (omega arith)
operand-other Cofactor g z = go (eqb g 0) z
  where
    go : (b : Bool) → ◌≡◌ {A = ℕ} (cond b 27 0) 23 → ⊥
    go true z = absurd (omega arith)
    go false z = absurd (omega arith)
operand-other (Literals p n) g z = go (shares_variable p n) z
  where
    go : (b : Bool) → ◌≡◌ {A = ℕ} (cond b 15 0) 23 → ⊥
    go true z = absurd (omega arith)
    go false z = absurd (omega arith)

refusal-other : (a b c : Bool) → ◌≡◌ {A = ℕ} (cond (not a) 7 (cond (not b) 26 (cond c 0 13))) 23 → ⊥
refusal-other true true true z = absurd (omega arith)
refusal-other true true false z = absurd (omega arith)
refusal-other true false c z = absurd (omega arith)
refusal-other false b c z = absurd (omega arith)

-- 8 of the check: the clause at the place.
pub eight-only : (i : Handed) → (checked i).number ≡ 8 → AtClause (places i) i.text (checked i).place
unfolding outcome
eight-only i z = go (checked i) (check-ends i) z
  where
    go : (o : CheckOutcome) → Ends i o → o.number ≡ 8 → AtClause (places i) i.text o.place
    go _ (wrong_size other) z = absurd (omega arith)
    go _ (at_place e (no_header {number} {place} h)) z =
        let early : (1 ≤ number) × (number ≤ 6) = subst NamedHeader h (header-named i.text) in absurd (omega arith)
    go _ (at_place e (not-read {n} {many} {number} {place} M)) z =
        let early : (1 ≤ number) × (number ≤ 6) = making-refused (places i) i.text M in absurd (omega arith)
    go _ (at_place e (no_room {n} {many} {first} {t} {t₁} {ms} {fs} {ls} {rest} M full-there)) z =
        let Y = underway (places i) i.text n many M in
        record {
          n = n;
          many = many;
          nodes = t;
          members = ms;
          functions = fs;
          literals = ls;
          rest = rest;
          making = M;
          wants = place-wants (places i) t Y.standing.ordered (Y.standing.room (at-least-two i e)) (meaning.clause n ls)
              (clause-to n ls Y.narrow) t₁ full-there;
        }
    go _ (at_place e (stopped {n} {number} {offset} {at} {st} R q)) z =
        absurd ((proof-number i.mode.form number
        (stop-number i.mode.form number offset
        (subst (NumberedIn i.mode.form) q (reached-numbered i.mode (places i) i.text i.proof R)))).2 z)
    go _ (at_place e (tried {n} {number} {peak} {at} {st} R q)) z =
        absurd ((proof-number i.mode.form number
        (spent-proof i.mode.form number peak
        (subst (NumberedIn i.mode.form) q (reached-numbered i.mode (places i) i.text i.proof R)))).2 z)

-- no command gives 23 before it makes a node
not-early : (form : Form) (number offset : ℕ) → NumberedIn form (stop number offset) → number ≡ 23 → ⊥
not-early Records number offset N z = absurd (omega
    (arith, N.0 (λ y. omega arith) (λ y. omega arith) (λ y. omega arith) (λ y. omega arith)))
not-early Text number offset N z = absurd (omega (arith, N.0 (λ y. omega arith)))
not-early Binary number offset N z = absurd (omega (arith, N.0 (λ y. omega arith) (λ y. omega arith)))

-- 23 of the check: the command at the place.
pub twenty-three-only : (i : Handed) → (checked i).number ≡ 23 → AtCommand i.mode (places i) i.text i.proof (checked i).place
unfolding outcome
twenty-three-only i z = go (checked i) (check-ends i) z
  where
    go : (o : CheckOutcome) → Ends i o → o.number ≡ 23 → AtCommand i.mode (places i) i.text i.proof o.place
    go _ (wrong_size other) z = absurd (omega arith)
    go _ (at_place e (no_header {number} {place} h)) z =
        let early : (1 ≤ number) × (number ≤ 6) = subst NamedHeader h (header-named i.text) in absurd (omega arith)
    go _ (at_place e (not-read {n} {many} {number} {place} M)) z =
        let early : (1 ≤ number) × (number ≤ 6) = making-refused (places i) i.text M in absurd (omega arith)
    go _ (at_place e (no_room M full-there)) z = absurd (omega arith)
    go _ (at_place e (stopped {n} {number} {offset} {at} {st} {m} R q)) z =
        absurd (not-early i.mode.form number offset
        (subst (NumberedIn i.mode.form) q (reached-numbered i.mode (places i) i.text i.proof R)) z)
    go _ (at_place e (tried {n} {number} {peak} {at} {st} {m} R q)) z =
        let (narrow, S) = reached-standing i.mode (places i) i.text i.proof R in
        record {
          n = n;
          state = st;
          meant = m;
          reached = R;
          wants = command-wants S narrow (at-least-two i e) i.mode.consequence
              (command_in i.mode i.proof n at) (rw z at q);
        }

-- 23 of a single call.
pub operation-full : (op : Operation) (c : Columns) (count f g : ℕ) → (operation op c count f g).number ≡ 23
    → Wants (length c.vars) (nodes_of_columns c count)
    (result op (diagram_at (nodes_of_columns c count) f) (diagram_at (nodes_of_columns c count) g))
unfolding operation refusal
operation-full op c count f g z = go (eqb n 0) refl (eqb m 0) refl z
  where
    n : ℕ
    n = refusal c count f g

    m : ℕ
    m = operand_refusal op g

    t₀ : List Node
    t₀ = nodes_of_columns c count

    D : Diagram
    D = result op (diagram_at t₀ f) (diagram_at t₀ g)

    s : ℕ
    s = length c.vars

    unchanged : ℕ → Made
    unchanged = single.unchanged c count

    placing : Ordered t₀ → length t₀ ≤ s → (p : Placing) → place s t₀ D ≡ p → (made_by c count p).number ≡ 23 → Wants s t₀ D
    placing O room (full t') q z = place-wants s t₀ O room D (result-reduced op (diagram_at t₀ f) (diagram_at t₀ g)) t' q
    placing O room (placed t' k) q z = absurd (omega arith)

    go : (a : Bool) → eqb n 0 ≡ a → (b : Bool) → eqb m 0 ≡ b
        → (cond a (cond b (made_by c count (place s t₀ D)) (unchanged m)) (unchanged n)).number ≡ 23 → Wants s t₀ D
    go true e true h z =
        let (fits, order, _) = not-refused (size_fits c.vars c.lows c.highs c.heads c.links) (in_good_order c count)
        (ltb f count && ltb g count) (eqb-true n 0 e) in
        let G : GoodPlaces (rows c.vars c.lows c.highs) count =
        good-order (rows c.vars c.lows c.highs) count c.heads c.links order in
        let S : Sized c.vars c.lows c.highs c.heads c.links =
        sized c.vars c.lows c.highs c.heads c.links fits in
        let len : length t₀ ≡ count = length-take-le count (rows c.vars c.lows c.highs) G.within in
        let size : length (rows c.vars c.lows c.highs) ≡ s = length-rows c.vars c.lows c.highs S.lows S.highs in
        placing G.ordered (omega (arith, G.within)) (place s t₀ D) refl z
    go true e false h z = absurd (operand-other op g z)
    go false e b h z = absurd (refusal-other (size_fits c.vars c.lows c.highs c.heads c.links) (in_good_order c count)
        (ltb f count && ltb g count) z)
