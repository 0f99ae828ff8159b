-- The peak is the greatest count reached: no reached state has more nodes, the table is never exceeded, and with 8 and 23 every place is
-- taken. The idea: a placing leaves at most as many nodes as the table has places, and just as many where it finds no room. Assumes
-- nothing.
use mathlib.Core.Path.{◌≡◌, refl, sym, subst}
use mathlib.Core.Logic.{◌≢◌}
use mathlib.Core.Bool.{Bool, true, false, not, ◌&&◌, ◌||◌, cond}
use mathlib.Core.List.{List, [], ◌∷◌, ◌++◌}
use mathlib.Core.Option.{Option, none, some}
use Prim.Native.Nat.{ℕ, zero, suc, ◌+◌, ◌≤◌, max}
use native.Mathlib.Omega.{arith}
use lib.ListN.{length}
use lib.Seq.{length-take-le}
use lib.Dec.{eqb, ltb, leb}
use borrow.Author.Tests.{ltb-true, ltb-false}
use Rattle.meaning.specs.Diagram.{Diagram, leaf, node, same}
use Rattle.meaning.specs.Operations as meaning
use Rattle.meaning.specs.Rules.{Line, rup, witnessed}
use Rattle.meaning.specs.Words.{in_word}
use Rattle.meaning.proofs.Booleans.{t≢f}
use Rattle.paths.specs.Paths.{path_count}
use Rattle.table.specs.Nodes.{Node, node_of, above, Placing, full, placed, find, or_append, put, and_then, place}
use Rattle.table.specs.Making.{Room, short, all, after_placing, placed_all, Reach, reached, then_reach, turns_reach, kept_reach, line_reach}
use Rattle.table.proofs.Growth.{length-new}
use Rattle.dimacs.specs.Clauses.{Reading, clause}
use Rattle.records.specs.declared.NodeBody.{NodeBody}
use Rattle.records.specs.declared.Rule.{Rule}
use Rattle.records.specs.declared.Rule.TheVariants.{Rup, Pr, Path}
use Rattle.records.specs.declared.SetKind.{SetKind}
use Rattle.records.specs.declared.SetBody.{SetBody}
use Rattle.records.specs.declared.Record.{Record}
use Rattle.records.specs.declared.Record.TheVariants.{NodeEntry, Witness, ProofLine, Strike, SetEntry, End, CutShort, UnknownKind}
use Rattle.records.specs.declared.Record.TheVariants.{NoRecord}
use Rattle.commands.specs.declared.Mode.{Mode}
use Rattle.commands.specs.declared.Form.{Form}
use Rattle.commands.specs.Commands.{Command, recorded, added, struck_out, wrong, finished}
use Rattle.verdict.specs.Steps.{State, Step, next, stop, spent, is_entry, entry_node, is_variable, entered, node_step, witness_step}
use Rattle.verdict.specs.Steps.{waiting, accepted, judged, diagram_in, line_step, is_live, strike_step, beyond, no_parity, set_diagram}
use Rattle.verdict.specs.Steps.{set_step, end_step, with_entry, live_members, record_step}
use Rattle.verdict.specs.Clausal.{with_peak, judged_or, second_line, second_try, after_first, tries, once_made, add_step, first_same}
use Rattle.verdict.specs.Clausal.{strike_found, strike_clause}
use Rattle.verdict.specs.Check.{step, Verdict, left, after_step, commands, verdict, shut_out}
use Rattle.verdict.specs.Taken.{Function, Meant, line_of, peak_with}
use Rattle.verdict.specs.Run.{Making, command_in, next_in, CommandTaken, Reached, begins, goes, Ended, no_header, not-read, no_room}
use Rattle.verdict.specs.Run.{stopped, tried}
use Rattle.verdict.proofs.Formula.{Early, NamedHeader, header-named, either}
use Rattle.verdict.proofs.Commands.{step-taken, taken_step, Fit, Known, fit-known, command-fit, command-goes}
use Rattle.verdict.proofs.Standing.{Standing}
use Rattle.verdict.proofs.Clauses.{underway}
use Rattle.verdict.proofs.Ends.{reached-fit, reached-standing, ended}
use Rattle.verdict.proofs.Numbers.{making-refused, proof-number, Closed, formula-refused, proof-ended, proof-tried, ended-closed}
use Rattle.verdict.proofs.Exactly.{Ahead, reached-ahead}

-- ---- placing

module _ (s : ℕ) where
  -- The nodes that a placing leaves, in a table of s places.
  abbrev Within : Placing → Type 0
  Within (full t) = length t ≡ s
  Within (placed t k) = length t ≤ s

  put-within : (t : List Node) (v l h : ℕ) → length t ≤ s → Within (put s t v l h)
  unfolding put or_append
  put-within t v l h p = go (eqb l h) (find t (node_of v l h))
    where
      appended : (c : Bool) → ltb (length t) s ≡ c → Within (cond c (placed (t ++ node_of v l h ∷ []) (length t)) (full t))
      appended true e = omega (arith, length-new t (node_of v l h), ltb-true (length t) s e)
      appended false e = omega (arith, ltb-false (length t) s e)

      go : (c : Bool) (o : Option ℕ) → Within (cond c (placed t l) (or_append s t (node_of v l h) o))
      go true o = p
      go false none = appended (ltb (length t) s) refl
      go false (some k) = p

  then-within : (p : Placing) (rest : List Node → ℕ → Placing) → Within p → ((t : List Node) (k : ℕ) → length t ≤ s → Within (rest t k)) →
      Within (and_then p rest)
  unfolding and_then
  then-within (full t) rest w h = w
  then-within (placed t k) rest w h = h t k w

  place-within : (t : List Node) (D : Diagram) → length t ≤ s → Within (place s t D)
  unfolding place
  place-within t (leaf false) p = p
  place-within t (leaf true) p = p
  place-within t (node v l h) p =
      then-within (place s t l) (λ t₁ a. and_then (place s t₁ h) (λ t₂ b. put s t₂ v a b)) (place-within t l p)
      (λ t₁ a p₁. then-within (place s t₁ h) (λ t₂ b. put s t₂ v a b) (place-within t₁ h p₁) (λ t₂ b p₂. put-within t₂ v a b p₂))

  -- ---- a line

  -- What is reached, in a table of s places.
  record ReachWithin (r : Reach) : Type 0 where
    most : r.peak ≤ s
    none_left : r.fits ≡ false → r.peak ≡ s

  abbrev RoomWithin : Room → Type 0
  RoomWithin (short t) = length t ≡ s
  RoomWithin (all t) = length t ≤ s

  all-within : (t : List Node) (Ds : List Diagram) → length t ≤ s → RoomWithin (placed_all s t Ds)
  unfolding placed_all
  all-within t [] p = p
  all-within t (D ∷ Ds) p = go (place s t D) (place-within t D p) (λ t₁. all-within t₁ Ds)
    where
      go : (x : Placing) → Within x → ((t₁ : List Node) → length t₁ ≤ s → RoomWithin (placed_all s t₁ Ds)) →
          RoomWithin (after_placing x (λ t₁. placed_all s t₁ Ds))
      go (full t₁) w rest = w
      go (placed t₁ k) w rest = rest t₁ w

  reached-within : (r : Room) → RoomWithin r → ReachWithin (reached r)
  reached-within (short t) w = record { most = omega arith; none_left = λ _. w }
  reached-within (all t) w = record { most = w; none_left = λ e. t≢f e }

  then-reach-within : (x y : Reach) → ReachWithin x → ReachWithin y → ReachWithin (then_reach x y)
  then-reach-within x y X Y = go x.fits X.none_left
    where
      go : (c : Bool) → (c ≡ false → x.peak ≡ s) → ReachWithin
          (record { fits = c && y.fits; peak = cond c (max x.peak y.peak) x.peak })
      go true e = record { most = omega (arith, X.most, Y.most); none_left = λ f. omega (arith, X.most, Y.none_left f) }
      go false e = record { most = X.most; none_left = λ _. e refl }

  turns-within : (turns : List (List Diagram)) (t : List Node) → length t ≤ s → ReachWithin (turns_reach s turns t)
  unfolding turns_reach
  turns-within [] t p = record { most = p; none_left = λ e. t≢f e }
  turns-within (made ∷ later) t p =
      then-reach-within (reached (placed_all s t made)) (turns_reach s later t) (reached-within (placed_all s t made) (all-within t made p))
      (turns-within later t p)

  line-within : (t : List Node) (line : Line) → length t ≤ s → ReachWithin (line_reach s t line)
  unfolding line_reach
  line-within t line p = go (placed_all s t line.kept) (all-within t line.kept p)
    where
      go : (r : Room) → RoomWithin r → ReachWithin (kept_reach s line.turns r)
      go (short t₁) w = record { most = omega arith; none_left = λ _. w }
      go (all t₁) w = turns-within line.turns t₁ w

  -- ---- one record

  -- A state's peak covers its count and is no more than the places of the table.
  pub record Peaked (st : State) : Type 0 where
    pub covers : length st.nodes ≤ st.peak
    pub within : st.peak ≤ s

  -- What a record comes to: the peak only grows, 23 is given with every place taken, and never where no node was made.
  abbrev pub Peaks : State → Step → Type 0
  Peaks st (next st') = Peaked st' × (st.peak ≤ st'.peak)
  Peaks st (stop number offset) = number ≢ 23
  Peaks st (spent number peak) = (st.peak ≤ peak) × (peak ≤ s) × (number ≡ 23 → peak ≡ s)

  module _ (n : ℕ) (st : State) (X : Peaked st) where
    -- a test that refuses before a node is made
    refuses : (c : Bool) (number offset : ℕ) (r : Step) → number ≢ 23 → Peaks st r → Peaks st (cond c (stop number offset) r)
    refuses c number offset r p q = either (Peaks st) c (stop number offset) r p q

    entered-peaks : (p : Placing) → Within p → Peaks st (entered st p)
    unfolding entered
    entered-peaks (full t) w = (omega arith, omega (arith, X.within), λ _. omega (arith, X.within))
    entered-peaks (placed t k) w = (record { covers = omega arith; within = omega (arith, X.within) }, omega arith)

    node-peaks : (b : NodeBody) → Peaks st (node_step n s st b)
    unfolding node_step
    node-peaks b =
        let l : ℕ = entry_node st b.low.0 in
        let h : ℕ = entry_node st b.high.0 in
        refuses (leb 4096 (length st.entries)) 21 0 _ (λ q. omega arith)
        (refuses (not (is_variable n b.variable)) 12 0 _ (λ q. omega arith)
        (refuses (not (is_entry st b.low.0 && is_entry st b.high.0)) 13 0 _ (λ q. omega arith)
        (refuses (not (above st.nodes b.variable l && above st.nodes b.variable h)) 14 0 _ (λ q. omega arith)
        (entered-peaks (put s st.nodes b.variable l h)
        (put-within st.nodes b.variable l h (omega (arith, X.covers, X.within)))))))

    witness-peaks : (v : ℕ) (b : Bool) → Peaks st (witness_step n st v b)
    unfolding witness_step
    witness-peaks v b =
        refuses (not (is_variable n v)) 12 0 _ (λ q. omega arith)
        (refuses (in_word st.positive v || in_word st.negative v) 15 0 _ (λ q. omega arith)
        (record { covers = X.covers; within = X.within }, omega arith))

    judged-peaks : (g : ℕ) (line : Line) → Peaks st (judged s st g line)
    unfolding judged
    judged-peaks g line = go (line_reach s st.nodes line).fits line.shown R.none_left
      where
        R : ReachWithin (line_reach s st.nodes line)
        R = line-within st.nodes line (omega (arith, X.covers, X.within))

        go : (fits shown : Bool) → (fits ≡ false → (line_reach s st.nodes line).peak ≡ s)
            → Peaks st (cond (not fits) (spent 23 (peak_with s st line))
            (cond (not shown) (spent 19 (peak_with s st line)) (next (accepted st g line (peak_with s st line)))))
        go false shown e = (omega arith, omega (arith, X.within, R.most), λ _. omega (arith, X.within, e refl))
        go true false e = (omega arith, omega (arith, X.within, R.most), λ q. absurd (omega arith))
        go true true e = (record { covers = omega (arith, X.covers); within = omega (arith, X.within, R.most) }, omega arith)

    line-peaks : (rule : Rule) (root : ℕ) → Peaks st (line_step n s st rule root)
    unfolding line_step
    line-peaks Rup root =
        let g : ℕ = entry_node st root in
        refuses (not (is_entry st root)) 13 0 _ (λ q. omega arith)
        (refuses (waiting st) 16 0 _ (λ q. omega arith)
        (refuses (leb 1024 st.lines) 22 0 _ (λ q. omega arith)
        (refuses (eqb g 1) 17 0 _ (λ q. omega arith) (judged-peaks g (line_of n st Rup g)))))
    line-peaks Pr root =
        let g : ℕ = entry_node st root in
        refuses (not (is_entry st root)) 13 0 _ (λ q. omega arith)
        (refuses (leb 1024 st.lines) 22 0 _ (λ q. omega arith)
        (refuses (eqb g 1) 17 0 _ (λ q. omega arith)
        (refuses (not (witnessed n (in_word st.positive) (in_word st.negative) (diagram_in st g))) 18 0 _ (λ q. omega arith)
        (judged-peaks g (line_of n st Pr g)))))
    line-peaks Path root =
        let g : ℕ = entry_node st root in
        refuses (not (is_entry st root)) 13 0 _ (λ q. omega arith)
        (refuses (waiting st) 16 0 _ (λ q. omega arith)
        (refuses (leb 1024 st.lines) 22 0 _ (λ q. omega arith)
        (refuses (eqb g 1) 17 0 _ (λ q. omega arith)
        (refuses (ltb 4096 (path_count (diagram_in st g))) 34 0 _ (λ q. omega arith) (judged-peaks g (line_of n st Path g))))))

    strike-peaks : (k : ℕ) → Peaks st (strike_step st k)
    unfolding strike_step
    strike-peaks k =
        refuses (waiting st) 16 0 _ (λ q. omega arith)
        (refuses (not (is_live st k)) 28 0 _ (λ q. omega arith) (record { covers = X.covers; within = X.within }, omega arith))

    set-peaks : (kind : SetKind) (b : SetBody) → Peaks st (set_step n s st kind b)
    unfolding set_step
    set-peaks kind b =
        refuses (leb 4096 (length st.entries)) 21 0 _ (λ q. omega arith)
        (refuses (beyond n b.set) 12 0 _ (λ q. omega arith)
        (refuses (no_parity kind b.byte) 29 0 _ (λ q. omega arith)
        (entered-peaks (place s st.nodes (set_diagram n kind b))
        (place-within st.nodes (set_diagram n kind b) (omega (arith, X.covers, X.within))))))

    end-peaks : (more : Bool) → Peaks st (end_step st more)
    unfolding end_step
    end-peaks more =
        refuses (waiting st) 16 0 _ (λ q. omega arith)
        (refuses more 11 1 _ (λ q. omega arith) (refuses st.refuted 0 0 _ (λ q. omega arith) (λ q. omega arith)))

    pub record-peaks : (more : Bool) (r : Record) → Peaks st (record_step n s st more r)
    unfolding record_step
    record-peaks more (NodeEntry b) = node-peaks b
    record-peaks more (Witness v b) = witness-peaks v b
    record-peaks more (ProofLine rule root) = line-peaks rule root.0
    record-peaks more (Strike k) = strike-peaks k.0
    record-peaks more (SetEntry kind b) = set-peaks kind b
    record-peaks more End = end-peaks more
    record-peaks more CutShort = λ q. omega arith
    record-peaks more UnknownKind = λ q. omega arith
    record-peaks more NoRecord = λ q. omega arith

  -- ---- one clause

  module _ (n : ℕ) (st : State) (X : Peaked st) where
    line-reaches : (line : Line) → ReachWithin (line_reach s st.nodes line)
    line-reaches line = line-within st.nodes line (omega (arith, X.covers, X.within))

    second-peaks : (k : ℕ) (ls : List meaning.Literal) (peak : ℕ) → st.peak ≤ peak → peak ≤ s → Peaks st (second_try n s st k ls peak)
    unfolding second_try
    second-peaks k [] peak more most = (more, most, λ q. absurd (omega arith))
    second-peaks k (p ∷ ls) peak more most =
        wider (judged s (with_peak st peak) k line)
        (judged-peaks n (with_peak st peak) (record { covers = omega (arith, X.covers); within = most }) k line)
      where
        line : Line
        line = second_line n (live_members st) p ls

        wider : (x : Step) → Peaks (with_peak st peak) x → Peaks st x
        wider (next st') (P, grows) = (P, omega arith)
        wider (stop number offset) P = P
        wider (spent number q) P = (omega (arith, P.0), P.1, P.2)

    first-peaks : (profile : Bool) (k : ℕ) (ls : List meaning.Literal) (peak : ℕ) → st.peak ≤ peak → peak ≤ s →
        Peaks st (after_first profile n s st k ls peak)
    unfolding after_first
    first-peaks true k ls peak more most = (more, most, λ q. absurd (omega arith))
    first-peaks false k ls peak more most = second-peaks k ls peak more most

    tries-peak : (profile : Bool) (k : ℕ) (ls : List meaning.Literal) → Peaks st (tries profile n s st k ls)
    unfolding tries judged_or
    tries-peak profile k ls = go (line_reach s st.nodes line).fits line.shown R.none_left
      where
        line : Line
        line = rup n (live_members st) (meaning.clause n ls)

        R : ReachWithin (line_reach s st.nodes line)
        R = line-reaches line

        go : (fits shown : Bool) → (fits ≡ false → (line_reach s st.nodes line).peak ≡ s)
            → Peaks st (cond (not fits) (spent 23 (peak_with s st line))
            (cond (not shown) (after_first profile n s st k ls (peak_with s st line)) (next (accepted st k line (peak_with s st line)))))
        go false shown e = (omega arith, omega (arith, X.within, R.most), λ _. omega (arith, X.within, e refl))
        go true false e = first-peaks profile k ls (peak_with s st line) (omega arith) (omega (arith, X.within, R.most))
        go true true e = (record { covers = omega (arith, X.covers); within = omega (arith, X.within, R.most) }, omega arith)

  module _ (n : ℕ) (st : State) (X : Peaked st) where
    added-peaks : (profile : Bool) (ls : List meaning.Literal) → Peaks st (add_step profile n s st ls)
    unfolding add_step
    added-peaks profile ls =
        refuses n st X (leb 1024 st.lines) 22 0 _ (λ q. omega arith)
        (refuses n st X (same (meaning.clause n ls) (leaf true)) 17 0 _ (λ q. omega arith)
        (made (place s st.nodes (meaning.clause n ls))
        (place-within st.nodes (meaning.clause n ls) (omega (arith, X.covers, X.within)))))
      where
        wider : (t : List Node) (k : ℕ) (x : Step) → Peaks (with_entry st t k) x → Peaks st x
        wider t k (next st') (P, grows) = (P, omega arith)
        wider t k (stop number offset) P = P
        wider t k (spent number q) P = (omega (arith, P.0), P.1, P.2)

        made : (p : Placing) → Within p → Peaks st (once_made st p (λ st₁ k. tries profile n s st₁ k ls))
        made (full t) w = (omega arith, omega (arith, X.within), λ _. omega (arith, X.within))
        made (placed t k) w =
            wider t k (tries profile n s (with_entry st t k) k ls)
            (tries-peak n (with_entry st t k) (record { covers = omega arith; within = omega (arith, X.within) }) profile k ls)

    struck-peaks : (ls : List meaning.Literal) → Peaks st (strike_clause n st ls)
    unfolding strike_clause
    struck-peaks ls = go (first_same (length st.members) st 0 (meaning.clause n ls))
      where
        go : (o : Option ℕ) → Peaks st (strike_found st o)
        go none = λ q. omega arith
        go (some i) = (record { covers = X.covers; within = X.within }, omega arith)

    known-peaks : (profile : Bool) (c : Command) → Known n c → Peaks st (step profile n s st c)
    unfolding step
    known-peaks profile (recorded r more) known = refuses n st X (shut_out profile r) 33 0 _ (λ q. omega arith) (record-peaks n st X more r)
    known-peaks profile (added ls) known = added-peaks profile ls
    known-peaks profile (struck_out ls) known = struck-peaks ls
    known-peaks profile (wrong number offset) known = λ q. omega (arith, known.1 (λ z. omega arith))
    known-peaks profile finished known = refuses n st X st.refuted 0 0 _ (λ q. omega arith) (λ q. omega arith)

    step-peaks : (profile : Bool) (form : Form) (c : Command) → Fit form n c → Peaks st (step profile n s st c)
    step-peaks profile form c fit = known-peaks profile c (fit-known form n c fit)

  -- ---- the whole check

  -- The peak only grows to the end.
  commands-peak : (mode : Mode) (n : ℕ) (proof : List ℕ) (steps : ℕ) (st : State) (at : ℕ) → at ≤ length proof → Peaked st →
      st.peak ≤ (commands steps mode n s proof st at).peak
  unfolding commands
  commands-peak mode n proof zero st at within X = omega arith
  commands-peak mode n proof (suc steps) st at within X =
      go (step mode.consequence n s st (command_in mode proof n at)) refl
      (step-peaks n st X mode.consequence mode.form (command_in mode proof n at) (command-fit mode.form proof n at within))
      (commands-peak mode n proof steps)
    where
      next-at : ℕ
      next-at = next_in mode proof n at

      go : (x : Step) → step mode.consequence n s st (command_in mode proof n at) ≡ x → Peaks st x
          → ((st' : State) (at' : ℕ) → at' ≤ length proof → Peaked st' → st'.peak ≤ (commands steps mode n s proof st' at').peak)
          → st.peak ≤ (after_step x st at (λ st'. commands steps mode n s proof st' next-at)).peak
      go (stop number offset) e p rec = omega arith
      go (spent number peak) e p rec = p.0
      go (next st') e p rec =
          let T : CommandTaken mode.consequence n s st (command_in mode proof n at) st' =
          step-taken mode.consequence n s st (command_in mode proof n at) st' e in
          omega (arith, p.1, rec st' next-at (command-goes mode.consequence mode.form proof n s st st' at within T).1 p.0)

  module _ (two : 2 ≤ s) (mode : Mode) (text proof : List ℕ) where
    making-count : {n many : ℕ} {t : List Node} {ms : List ℕ} {fs : List Function} {r : Reading} → Making s text n many t ms fs r →
        (2 ≤ length t) × (length t ≤ s)
    making-count {n} {many} M = let S = (underway s text n many M).standing in (S.ordered.two, S.room two)

    reached-peaks : {n : ℕ} {st : State} {at : ℕ} {m : Meant} → Reached mode s text proof n st at m → Peaked st →
        Peaks st (step mode.consequence n s st (command_in mode proof n at))
    reached-peaks {n} {st} {at} R X = step-peaks n st X mode.consequence mode.form (command_in mode proof n at)
        (reached-fit mode s text proof R)

    reached-peaked : {n : ℕ} {st : State} {at : ℕ} {m : Meant} → Reached mode s text proof n st at m → Peaked st
    reached-peaked (begins M) = record { covers = omega arith; within = (making-count M).1 }
    reached-peaked {n} (goes {st} {st'} {at} R T) =
        (subst (Peaks st) (taken_step mode.consequence n s st (command_in mode proof n at) st' T) (reached-peaks R (reached-peaked R))).0

    -- In every state that the check reaches the peak covers the count.
    pub peak-covers : {n : ℕ} {st : State} {at : ℕ} {m : Meant} → Reached mode s text proof n st at m → length st.nodes ≤ st.peak
    peak-covers R = (reached-peaked R).covers

    -- "the greatest count reached, dropped nodes included": what the check reports covers every state that it reaches.
    pub peak-greatest : {n : ℕ} {st : State} {at : ℕ} {m : Meant} → Reached mode s text proof n st at m →
        length st.nodes ≤ (verdict mode s text proof).peak
    peak-greatest {n} {st} {at} R =
        let X : Peaked st = reached-peaked R in
        let A : Ahead mode s text proof n st at = reached-ahead mode s text proof R in
        rw A.is (omega (arith, X.covers, commands-peak mode n proof A.steps st at A.within X))

    -- What the check reports: at least the constants and the count that it leaves, at most the table's places, and all of them with 8 and
    -- 23.
    pub record Reported (v : Verdict) : Type 0 where
      pub least : 2 ≤ v.peak
      pub most : v.peak ≤ s
      pub left : length v.nodes ≤ v.peak
      pub clause-full : v.number ≡ 8 → v.peak ≡ s
      pub proof-full : v.number ≡ 23 → v.peak ≡ s

    reached-reported : {n : ℕ} {st : State} {at : ℕ} {m : Meant} → Reached mode s text proof n st at m → (number place peak : ℕ) →
        st.peak ≤ peak → peak ≤ s
        → number ≢ 8 → (number ≡ 23 → peak ≡ s) → Reported (left number place peak st)
    reached-reported {n} {st} {at} {m} R number place peak more most other filled =
        let S : Standing s n m st = (reached-standing mode s text proof R).1 in
        let X : Peaked st = reached-peaked R in
        record {
          least = omega (arith, S.ordered.two, X.covers);
          most = most;
          left = omega (arith, length-take-le st.kept st.nodes S.kept, S.kept, X.covers);
          clause-full = λ e. absurd (other e);
          proof-full = filled;
        }

    early-reported : (v : Verdict) → Early v.number → length v.nodes ≡ 2 → 2 ≤ v.peak → v.peak ≤ s → Reported v
    early-reported v named emptied least most =
        record {
          least = least;
          most = most;
          left = omega arith;
          clause-full = λ e. absurd (omega arith);
          proof-full =
              λ e. absurd (omega arith);
        }

    -- a number of the proof is not 8
    not_eight : {v : Verdict} → Closed mode s text proof v → v.in_proof ≡ true → v.number ≢ 8
    not_eight (formula-refused named) f = t≢f (sym f)
    not_eight (proof-ended {n} {number} P R e) f = (proof-number mode.form number P).2
    not_eight (proof-tried {n} {number} P R e) f = (proof-number mode.form number P.0).2

    ended-reported : (v : Verdict) → Ended mode s text proof v → Reported v
    ended-reported _ (no_header e) = early-reported _ (subst NamedHeader e (header-named text)) refl (omega arith) two
    ended-reported _ (not-read M) = early-reported _ (making-refused s text M) refl (making-count M).0 (making-count M).1
    ended-reported _ (no_room {n} {many} {first} {t} {t₁} {ms} {fs} {ls} {rest} M e) =
        let filled : length t₁ ≡ s = subst Within e (place-within t (meaning.clause n ls) (making-count M).1) in
        record {
          least = omega arith;
          most = omega arith;
          left = omega arith;
          clause-full = λ _. filled;
          proof-full =
              λ q. absurd (omega arith);
        }
    ended-reported _ (stopped {n} {number} {offset} {at} {st} R e) =
        let P : number ≢ 23 = subst (Peaks st) e (reached-peaks R (reached-peaked R)) in
        reached-reported R number (at + offset) st.peak (omega arith) (reached-peaked R).within
        (not_eight (ended-closed mode s text proof _ (stopped R e)) refl) (λ q. absurd (P q))
    ended-reported _ (tried {n} {number} {peak} {at} {st} R e) =
        let P : Peaks st (spent number peak) = subst (Peaks st) e (reached-peaks R (reached-peaked R)) in
        reached-reported R number at peak P.0 P.1 (not_eight (ended-closed mode s text proof _ (tried R e)) refl) P.2

    pub peak-reported : Reported (verdict mode s text proof)
    peak-reported = ended-reported (verdict mode s text proof) (ended mode s text proof)

    -- The table is never exceeded.
    pub peak-within : (2 ≤ (verdict mode s text proof).peak) × ((verdict mode s text proof).peak ≤ s)
    peak-within = (peak-reported.least, peak-reported.most)

    -- With 8 and with 23 every place was taken.
    pub peak-full : ((verdict mode s text proof).number ≡ 8 → (verdict mode s text proof).peak ≡ s)
        × ((verdict mode s text proof).number ≡ 23 → (verdict mode s text proof).peak ≡ s)
    peak-full = (peak-reported.clause-full, peak-reported.proof-full)
