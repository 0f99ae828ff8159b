-- A check that is not refused for room gives the same result in every larger table, whatever the form of its proof. The idea: room is
-- needed in one place, where a node is appended. Assumes nothing.
use mathlib.Core.Path.{◌≡◌, refl, sym, ap, ap₂, ◌∙◌, subst}
use mathlib.Core.Logic.{◌≢◌, ◌⊎◌, inl, inr}
use mathlib.Core.Bool.{Bool, true, false, not, ◌&&◌, cond}
use mathlib.Core.List.{List, [], ◌∷◌, ◌++◌}
use mathlib.Core.Option.{Option, none, some}
use Prim.Native.Nat.{ℕ, zero, suc, ◌≤◌, ◌<◌, max}
use native.Mathlib.Omega.{arith}
use lib.ListN.{length}
use lib.Dec.{eqb, ltb, leb}
use borrow.Author.Tests.{ltb-true, lt-ltb}
use Rattle.meaning.specs.Diagram.{Diagram, leaf, node, same}
use Rattle.meaning.specs.Operations as meaning
use Rattle.meaning.specs.Rules.{Line, rup, pr, witnessed}
use Rattle.meaning.specs.Words.{in_word}
use Rattle.meaning.proofs.Booleans.{t≢f, and_both}
use Rattle.paths.specs.Paths.{path_line, path_count}
use Rattle.table.specs.Nodes.{Node, node_of, above, Placing, full, placed, find, or_append, put, and_then, place}
use Rattle.table.specs.Making.{Room, short, all, after_placing, placed_all, Reach, reach, reached, then_reach, turns_reach, kept_reach}
use Rattle.table.specs.Making.{line_reach}
use Rattle.dimacs.specs.Clauses.{Reading, clause, complete, refusal, clauses_from}
use Rattle.dimacs.specs.Header.{Header, Proper, Improper, header}
use Rattle.records.specs.declared.Rule.TheVariants.{Rup, Pr, Path}
use Rattle.records.specs.declared.Record.{Record}
use Rattle.records.specs.declared.Record.TheVariants.{NodeEntry, Witness, ProofLine, Strike, SetEntry, End, CutShort, UnknownKind}
use Rattle.records.specs.declared.Record.TheVariants.{NoRecord}
use Rattle.commands.specs.declared.Mode.{Mode}
use Rattle.commands.specs.Commands.{Command, recorded, added, struck_out, wrong, finished, Read, start, command_at}
use Rattle.verdict.specs.Steps.{State, with_entry, Step, next, stop, spent, emptied, begun, is_entry, entry_node, is_variable, entered}
use Rattle.verdict.specs.Steps.{node_step, waiting, accepted, judged, diagram_in, live_members, line_step, beyond, no_parity, set_diagram}
use Rattle.verdict.specs.Steps.{set_step, record_step}
use Rattle.verdict.specs.Clausal.{with_peak, judged_or, second_line, second_try, after_first, tries, once_made, add_step}
use Rattle.verdict.specs.Check.{shut_out, step, Verdict, after_step, commands, after_clause, clauses, check_after_header, verdict}

module _ (s s' : ℕ) (more : s ≤ s') where
  -- ---- placing

  -- what is placed with less room is placed alike with more
  abbrev Alike : Placing → Placing → Type 0
  Alike (full t) q = Unit {0}
  Alike (placed t k) q = q ≡ placed t k

  append-alike : (t : List Node) (x : Node) (r : Option ℕ) → Alike (or_append s t x r) (or_append s' t x r)
  unfolding or_append
  append-alike t x (some k) = refl
  append-alike t x none = go (ltb (length t) s) refl
    where
      go : (c : Bool) → ltb (length t) s ≡ c → Alike (cond c (placed (t ++ x ∷ []) (length t)) (full t))
          (cond (ltb (length t) s') (placed (t ++ x ∷ []) (length t)) (full t))
      go true e = let p : length t < s = ltb-true (length t) s e in rw (lt-ltb (length t) s' (omega arith))
      go false e = tt

  put-alike : (t : List Node) (v l h : ℕ) → Alike (put s t v l h) (put s' t v l h)
  unfolding put
  put-alike t v l h = go (eqb l h) (append-alike t (node_of v l h) (find t (node_of v l h)))
    where
      go : (c : Bool) → Alike (or_append s t (node_of v l h) (find t (node_of v l h)))
          (or_append s' t (node_of v l h) (find t (node_of v l h)))
          → Alike (cond c (placed t l) (or_append s t (node_of v l h) (find t (node_of v l h))))
          (cond c (placed t l) (or_append s' t (node_of v l h) (find t (node_of v l h))))
      go true a = refl
      go false a = a

  then-alike : (p q : Placing) (f g : List Node → ℕ → Placing) → Alike p q → ((t : List Node) (k : ℕ) → Alike (f t k) (g t k)) →
      Alike (and_then p f) (and_then q g)
  unfolding and_then
  then-alike (full t) q f g a h = tt
  then-alike (placed t k) q f g a h = subst (λ (x : Placing). Alike (f t k) (and_then x g)) (sym a) (h t k)

  place-alike : (t : List Node) (f : Diagram) → Alike (place s t f) (place s' t f)
  unfolding place
  place-alike t (leaf false) = refl
  place-alike t (leaf true) = refl
  place-alike t (node v l h) =
      then-alike (place s t l) (place s' t l) _ _ (place-alike t l)
      (λ t₁ a. then-alike (place s t₁ h) (place s' t₁ h) _ _ (place-alike t₁ h) (λ t₂ b. put-alike t₂ v a b))

  -- ---- lines

  abbrev RoomAlike : Room → Room → Type 0
  RoomAlike (short t) q = Unit {0}
  RoomAlike (all t) q = q ≡ all t

  placed_alike : (fs : List Diagram) (t : List Node) → RoomAlike (placed_all s t fs) (placed_all s' t fs)
  unfolding placed_all
  placed_alike [] t = refl
  placed_alike (f ∷ fs) t = go (place s t f) (place-alike t f) (λ t₁. placed_alike fs t₁)
    where
      go : (p : Placing) → Alike p (place s' t f) → ((t₁ : List Node) → RoomAlike (placed_all s t₁ fs) (placed_all s' t₁ fs))
          → RoomAlike (after_placing p (λ t₁. placed_all s t₁ fs)) (after_placing (place s' t f) (λ t₁. placed_all s' t₁ fs))
      go (full t₁) a ih = tt
      go (placed t₁ k) a ih = subst (λ (q : Placing). RoomAlike (placed_all s t₁ fs) (after_placing q (λ t₁. placed_all s' t₁ fs))) (sym a)
          (ih t₁)

  reached-alike : (p q : Room) → RoomAlike p q → (reached p).fits ≡ true → reached p ≡ reached q
  reached-alike (short t) q a e = t≢f (sym e)
  reached-alike (all t) q a e = ap reached (sym a)

  turns-alike : (turns : List (List Diagram)) (t : List Node) → (turns_reach s turns t).fits ≡ true → turns_reach s turns t
      ≡ turns_reach s' turns t
  unfolding turns_reach
  turns-alike [] t e = refl
  turns-alike (made ∷ later) t e =
      let (a, b) = and_both (reached (placed_all s t made)).fits (turns_reach s later t).fits e in
      ap₂ then_reach (reached-alike (placed_all s t made) (placed_all s' t made) (placed_alike made t) a) (turns-alike later t b)

  line-alike : (t : List Node) (line : Line) → (line_reach s t line).fits ≡ true → line_reach s t line ≡ line_reach s' t line
  unfolding line_reach
  line-alike t line e = go (placed_all s t line.kept) (placed_alike line.kept t) e
    where
      go : (p : Room) → RoomAlike p (placed_all s' t line.kept) → (kept_reach s line.turns p).fits ≡ true
          → kept_reach s line.turns p ≡ kept_reach s' line.turns (placed_all s' t line.kept)
      go (short u) a e = t≢f (sym e)
      go (all u) a e = turns-alike line.turns u e ∙ ap (kept_reach s' line.turns) (sym a)

  -- ---- commands

  -- The same, or 23 with less room.
  abbrev Same : Step → Step → Type 0
  Same x y = (x ≡ y) ⊎ ((peak : ℕ) × (x ≡ spent 23 peak))

  same-behind : (c : Bool) (z x y : Step) → Same x y → Same (cond c z x) (cond c z y)
  same-behind true z x y h = inl refl
  same-behind false z x y h = h

  entered-same : (st : State) (p q : Placing) → Alike p q → Same (entered st p) (entered st q)
  unfolding entered
  entered-same st (full t) q a = inr (max st.peak (length t), refl)
  entered-same st (placed t k) q a = inl (ap (entered st) (sym a))

  judged-or-same : (f g : ℕ → Step) → ((peak : ℕ) → Same (f peak) (g peak)) → (st : State) (k : ℕ) (line : Line) →
      Same (judged_or f s st k line) (judged_or g s' st k line)
  unfolding judged_or
  judged-or-same f g h st k line = go (line_reach s st.nodes line) refl
    where
      says : (ℕ → Step) → Reach → Step
      says f r =
          let peak = max st.peak r.peak in
          let failed = f peak in
          cond (not r.fits) (spent 23 peak) (cond (not line.shown) failed (next (accepted st k line peak)))

      shown : (c : Bool) (peak : ℕ) → Same (cond (not c) (f peak) (next (accepted st k line peak)))
          (cond (not c) (g peak) (next (accepted st k line peak)))
      shown true peak = inl refl
      shown false peak = h peak

      fits : (c : Bool) (peak : ℕ) → reach c peak ≡ line_reach s st.nodes line →
          Same (says f (reach c peak)) (says g (line_reach s' st.nodes line))
      fits true peak e =
          let fine : (line_reach s st.nodes line).fits ≡ true = ap (λ (r : Reach). r.fits) (sym e) in
          subst (λ (r : Reach). Same (says f (reach true peak)) (says g r)) (e ∙ line-alike st.nodes line fine)
          (shown line.shown (max st.peak peak))
      fits false peak e = inr (max st.peak peak, refl)

      go : (r : Reach) → line_reach s st.nodes line ≡ r → Same (says f r) (says g (line_reach s' st.nodes line))
      go r e = fits r.fits r.peak (sym e)

  judged-same : (st : State) (k : ℕ) (line : Line) → Same (judged s st k line) (judged s' st k line)
  unfolding judged judged_or
  judged-same st k line = judged-or-same (spent 19) (spent 19) (λ peak. inl refl) st k line

  record_same : (n : ℕ) (st : State) (b : Bool) (r : Record) → Same (record_step n s st b r) (record_step n s' st b r)
  unfolding record_step node_step line_step set_step
  record_same n st b (NodeEntry x) =
      same-behind (leb 4096 (length st.entries)) _ _ _
      (same-behind (not (is_variable n x.variable)) _ _ _
      (same-behind (not (is_entry st x.low.0 && is_entry st x.high.0)) _ _ _
      (same-behind (not (above st.nodes x.variable (entry_node st x.low.0)
      && above st.nodes x.variable (entry_node st x.high.0))) _ _ _
      (entered-same st (put s st.nodes x.variable (entry_node st x.low.0) (entry_node st x.high.0))
      (put s' st.nodes x.variable (entry_node st x.low.0) (entry_node st x.high.0))
      (put-alike st.nodes x.variable (entry_node st x.low.0) (entry_node st x.high.0))))))
  record_same n st b (Witness v x) = inl refl
  record_same n st b (ProofLine Rup root) =
      same-behind (not (is_entry st root.0)) _ _ _
      (same-behind (waiting st) _ _ _ (same-behind (leb 1024 st.lines) _ _ _ (same-behind (eqb (entry_node st root.0) 1) _ _ _
      (judged-same st (entry_node st root.0) (rup n (live_members st) (diagram_in st (entry_node st root.0)))))))
  record_same n st b (ProofLine Pr root) =
      same-behind (not (is_entry st root.0)) _ _ _
      (same-behind (leb 1024 st.lines) _ _ _
      (same-behind (eqb (entry_node st root.0) 1) _ _ _
      (same-behind (not (witnessed n (in_word st.positive) (in_word st.negative) (diagram_in st (entry_node st root.0)))) _ _ _
      (judged-same st (entry_node st root.0) (pr n (in_word st.positive) (in_word st.negative) (live_members st)
      (diagram_in st (entry_node st root.0)))))))
  record_same n st b (ProofLine Path root) =
      same-behind (not (is_entry st root.0)) _ _ _
      (same-behind (waiting st) _ _ _
      (same-behind (leb 1024 st.lines) _ _ _
      (same-behind (eqb (entry_node st root.0) 1) _ _ _
      (same-behind (ltb 4096 (path_count (diagram_in st (entry_node st root.0)))) _ _ _
      (judged-same st (entry_node st root.0) (path_line n (live_members st) (diagram_in st (entry_node st root.0))))))))
  record_same n st b (Strike k) = inl refl
  record_same n st b (SetEntry kind x) =
      same-behind (leb 4096 (length st.entries)) _ _ _
      (same-behind (beyond n x.set) _ _ _ (same-behind (no_parity kind x.byte) _ _ _
      (entered-same st (place s st.nodes (set_diagram n kind x)) (place s' st.nodes (set_diagram n kind x))
      (place-alike st.nodes (set_diagram n kind x)))))
  record_same n st b End = inl refl
  record_same n st b CutShort = inl refl
  record_same n st b UnknownKind = inl refl
  record_same n st b NoRecord = inl refl

  second-same : (n : ℕ) (st : State) (k : ℕ) (ls : List meaning.Literal) (peak : ℕ) →
      Same (second_try n s st k ls peak) (second_try n s' st k ls peak)
  unfolding second_try
  second-same n st k [] peak = inl refl
  second-same n st k (p ∷ ls) peak = judged-same (with_peak st peak) k (second_line n (live_members st) p ls)

  first-same : (profile : Bool) (n : ℕ) (st : State) (k : ℕ) (ls : List meaning.Literal) (peak : ℕ)
      → Same (after_first profile n s st k ls peak) (after_first profile n s' st k ls peak)
  unfolding after_first
  first-same true n st k ls peak = inl refl
  first-same false n st k ls peak = second-same n st k ls peak

  tries-same : (profile : Bool) (n : ℕ) (st : State) (k : ℕ) (ls : List meaning.Literal) →
      Same (tries profile n s st k ls) (tries profile n s' st k ls)
  unfolding tries
  tries-same profile n st k ls =
      judged-or-same (after_first profile n s st k ls) (after_first profile n s' st k ls) (first-same profile n st k ls) st k
      (rup n (live_members st) (meaning.clause n ls))

  add_same : (profile : Bool) (n : ℕ) (st : State) (ls : List meaning.Literal) →
      Same (add_step profile n s st ls) (add_step profile n s' st ls)
  unfolding add_step
  add_same profile n st ls =
      same-behind (leb 1024 st.lines) _ _ _ (same-behind (same (meaning.clause n ls) (leaf true)) _ _ _
      (go (place s st.nodes (meaning.clause n ls)) (place-alike st.nodes (meaning.clause n ls))))
    where
      made : ℕ → Placing → Step
      made z p = once_made st p (λ st₁ k. tries profile n z st₁ k ls)

      go : (p : Placing) → Alike p (place s' st.nodes (meaning.clause n ls)) →
          Same (made s p) (made s' (place s' st.nodes (meaning.clause n ls)))
      go (full t) a = inr (max st.peak (length t), refl)
      go (placed t k) a = subst (λ (q : Placing). Same (made s (placed t k)) (made s' q)) (sym a)
          (tries-same profile n (with_entry st t k) k ls)

  step_same : (profile : Bool) (n : ℕ) (st : State) (c : Command) → Same (step profile n s st c) (step profile n s' st c)
  unfolding step
  step_same profile n st (recorded r more) = same-behind (shut_out profile r) _ _ _ (record_same n st more r)
  step_same profile n st (added ls) = add_same profile n st ls
  step_same profile n st (struck_out ls) = inl refl
  step_same profile n st (wrong number offset) = inl refl
  step_same profile n st finished = inl refl

  commands-same : (steps : ℕ) (mode : Mode) (n : ℕ) (proof : List ℕ) (st : State) (at : ℕ) →
      (commands steps mode n s proof st at).number ≢ 23
      → commands steps mode n s proof st at ≡ commands steps mode n s' proof st at
  unfolding commands
  commands-same zero mode n proof st at ne = refl
  commands-same (suc steps) mode n proof st at ne =
      go (step mode.consequence n s st r.command) (step_same mode.consequence n st r.command) ne
      (λ st'. commands-same steps mode n proof st' r.next)
    where
      r : Read
      r = command_at mode.form proof n at

      rest : ℕ → State → Verdict
      rest k st' = commands steps mode n k proof st' (command_at mode.form proof n at).next

      onward : (x : Step) → (after_step x st at (rest s)).number ≢ 23 →
          ((st' : State) → (rest s st').number ≢ 23 → rest s st' ≡ rest s' st') →
          after_step x st at (rest s) ≡ after_step x st at (rest s')
      onward (stop number offset) ne ih = refl
      onward (spent number peak) ne ih = refl
      onward (next st') ne ih = ih st' ne

      go : (x : Step) → Same x (step mode.consequence n s' st (command_at mode.form proof n at).command) →
          (after_step x st at (rest s)).number ≢ 23
          → ((st' : State) → (rest s st').number ≢ 23 → rest s st' ≡ rest s' st')
          → after_step x st at (rest s) ≡ after_step (step mode.consequence n s' st (command_at mode.form proof n at).command) st at
          (rest s')
      go x (inl q) ne ih = subst (λ (y : Step). after_step x st at (rest s) ≡ after_step y st at (rest s')) q (onward x ne ih)
      go x (inr q) ne ih = absurd (ne (ap (λ (y : Step). (after_step y st at (rest s)).number) q.1))

  -- ---- the formula

  clauses-same : (mode : Mode) (n : ℕ) (proof : List ℕ) (t : List Node) (ms : List ℕ) (r : Reading) →
      (clauses mode n s proof t ms r).number ≢ 8
      → (clauses mode n s proof t ms r).number ≢ 23 → clauses mode n s proof t ms r ≡ clauses mode n s' proof t ms r
  unfolding clauses
  clauses-same mode n proof t ms (clause ls first rest) n8 n23 =
      go (place s t (meaning.clause n ls)) (place-alike t (meaning.clause n ls)) n8 n23
      (λ t₁ k. clauses-same mode n proof t₁ (ms ++ k ∷ []) rest)
    where
      onward : ℕ → List Node → ℕ → Verdict
      onward z t₁ k = clauses mode n z proof t₁ (ms ++ k ∷ []) rest

      go : (p : Placing) → Alike p (place s' t (meaning.clause n ls)) → (after_clause p (onward s) first).number ≢ 8 →
          (after_clause p (onward s) first).number ≢ 23
          → ((t₁ : List Node) (k : ℕ) → (onward s t₁ k).number ≢ 8 → (onward s t₁ k).number ≢ 23 → onward s t₁ k ≡ onward s' t₁ k)
          → after_clause p (onward s) first ≡ after_clause (place s' t (meaning.clause n ls)) (onward s') first
      go (full t₁) a n8 n23 ih = absurd (n8 refl)
      go (placed t₁ k) a n8 n23 ih = subst (λ (q : Placing). onward s t₁ k ≡ after_clause q (onward s') first) (sym a) (ih t₁ k n8 n23)
  clauses-same mode n proof t ms complete n8 n23 = commands-same (suc (length proof)) mode n proof (begun t ms) (start mode.form proof)
      n23
  clauses-same mode n proof t ms (refusal number place) n8 n23 = refl

  pub header-same : (mode : Mode) (formula proof : List ℕ) (h : Header) → (check_after_header mode s formula proof h).number ≢ 8
      → (check_after_header mode s formula proof h).number ≢ 23 → check_after_header mode s formula proof h
      ≡ check_after_header mode s' formula proof h
  header-same mode formula proof (Proper n many at) n8 n23 = clauses-same mode n proof emptied [] (clauses_from formula n many at) n8 n23
  header-same mode formula proof (Improper number place) n8 n23 = refl

  -- THEOREM: with more room the check comes to the same, where it is not refused for room.
  pub more_room : (mode : Mode) (formula proof : List ℕ) → (verdict mode s formula proof).number ≢ 8 →
      (verdict mode s formula proof).number ≢ 23
      → verdict mode s formula proof ≡ verdict mode s' formula proof
  unfolding verdict
  more_room mode formula proof n8 n23 = header-same mode formula proof (header formula) n8 n23
