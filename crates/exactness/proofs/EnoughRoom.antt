-- A check that is not refused for room comes to the same in every table of at least as many places as its peak. The idea: every placing and
-- every line of the run
-- found room within the peak, so that each command is taken, and the last one refused, in the other table too. Assumes nothing.
use mathlib.Core.Path.{◌≡◌, refl, sym, ap, ◌∙◌, subst}
use mathlib.Core.Logic.{◌≢◌, inl, inr}
use mathlib.Core.Bool.{Bool, true, false, not, cond}
use mathlib.Core.List.{List, [], ◌∷◌}
use mathlib.Core.Option.{Option, none, some}
use Prim.Native.Nat.{ℕ, ◌≤◌, max}
use native.Mathlib.Omega.{arith}
use lib.ListN.{length}
use Rattle.meaning.specs.Operations as meaning
use Rattle.meaning.specs.Rules.{Line}
use Rattle.table.specs.Nodes.{Node, Placing, full, placed, put, place}
use Rattle.table.specs.Making.{Reach, line_reach}
use Rattle.table.proofs.PlacedAll.{nodes_after}
use Rattle.dimacs.specs.Clauses.{Reading}
use Rattle.records.specs.declared.Rule.TheVariants.{Rup, Pr, Path}
use Rattle.records.specs.declared.Record.{Record}
use Rattle.records.specs.declared.Record.TheVariants.{NodeEntry, Witness, ProofLine, Strike, SetEntry, End, CutShort, UnknownKind}
use Rattle.records.specs.declared.Record.TheVariants.{NoRecord}
use Rattle.commands.specs.declared.Mode.{Mode}
use Rattle.commands.specs.Commands.{Command, recorded, added, struck_out, wrong, finished}
use Rattle.verdict.specs.Steps.{State, Step, next, stop, spent, with_entry, entered, entry_node, accepted, judged, live_members}
use Rattle.verdict.specs.Steps.{set_diagram}
use Rattle.verdict.specs.Clausal.{with_peak, judged_or, second_line, second_try, after_first, tries, once_made, first_same}
use Rattle.verdict.specs.Check.{step, Verdict, verdict}
use Rattle.verdict.specs.Taken.{Function, Meant, line_of, peak_with, Taken}
use Rattle.verdict.specs.ClauseTaken.{Judged, first_line, TriesTaken}
use Rattle.verdict.specs.Run.{command_in, CommandTaken, Making, opened, made, Reached, begins, goes, Ended, no_header, not-read, no_room}
use Rattle.verdict.specs.Run.{stopped, tried}
use Rattle.verdict.proofs.Ends.{ended}
use Rattle.verdict.proofs.Exactly.{ended_is}
use Rattle.exactness.specs.Refusals.{refusals}
use Rattle.exactness.proofs.Passing.{place-longer}
use Rattle.exactness.proofs.Alike.{put_same, place_same, line_same}
use Rattle.exactness.proofs.Refusals.{chain, record-proceeds, struck-proceeds, proceeds, command-is, step-refuses}
use Rattle.exactness.proofs.EndPasses.{peak_in, next-not, chain-spent}

abbrev number_in : Step → ℕ
number_in (next st) = 0
number_in (stop number offset) = number
number_in (spent number peak) = number

module _ (s s' : ℕ) where
  -- ---- a command that is taken

  -- the peak never falls
  record-grows : (n : ℕ) (st : State) (r : Record) (st' : State) → Taken n s st r st' → st.peak ≤ st'.peak
  record-grows n st (NodeEntry b) st' T = omega (arith, ap (λ (x : State). x.peak) T.is)
  record-grows n st (Witness v b) st' T = omega (arith, ap (λ (x : State). x.peak) T.is)
  record-grows n st (ProofLine rule root) st' T = omega (arith, ap (λ (x : State). x.peak) T.is)
  record-grows n st (Strike k) st' T = omega (arith, ap (λ (x : State). x.peak) T.is)
  record-grows n st (SetEntry kind b) st' T = omega (arith, ap (λ (x : State). x.peak) T.is)
  record-grows n st End st' T = absurd T
  record-grows n st CutShort st' T = absurd T
  record-grows n st UnknownKind st' T = absurd T
  record-grows n st NoRecord st' T = absurd T

  tries-grow : (profile : Bool) (n : ℕ) (st : State) (k : ℕ) (ls : List meaning.Literal) (st' : State) → TriesTaken profile n s st k ls st'
      → st.peak ≤ st'.peak
  tries-grow profile n st k ls st' (inl J) = omega (arith, ap (λ (x : State). x.peak) J.is)
  tries-grow true n st k ls st' (inr T) = absurd T
  tries-grow false n st k [] st' (inr T) = absurd T
  tries-grow false n st k (p ∷ ls) st' (inr T) = omega (arith, ap (λ (x : State). x.peak) T.passes.is)

  command-grows : (profile : Bool) (n : ℕ) (st : State) (c : Command) (st' : State) → CommandTaken profile n s st c st' →
      st.peak ≤ st'.peak
  command-grows profile n st (recorded r more) st' T = record-grows n st r st' T.1
  command-grows profile n st (added ls) st' T =
      omega (arith, tries-grow profile n (with_entry st T.nodes T.node) T.node ls st' T.tried)
  command-grows profile n st (struck_out ls) st' T = omega (arith, ap (λ (x : State). x.peak) T.is)
  command-grows profile n st (wrong number offset) st' T = absurd T
  command-grows profile n st finished st' T = absurd T

  record-taken : (n : ℕ) (st : State) (r : Record) (st' : State) → Taken n s st r st' → st'.peak ≤ s' → Taken n s' st r st'
  record-taken n st (NodeEntry b) st' T p =
      let few : length T.nodes ≤ s' = omega (arith, ap (λ (x : State). x.peak) T.is) in
      record {
        few = T.few;
        least = T.least;
        most = T.most;
        low = T.low;
        high = T.high;
        over-low = T.over-low;
        over-high = T.over-high;
        nodes = T.nodes;
        entry = T.entry;
        room = put_same s s' st.nodes b.variable (entry_node st b.low.0) (entry_node st b.high.0) T.nodes T.entry
            T.room few;
        is = T.is;
      }
  record-taken n st (Witness v b) st' T p = T
  record-taken n st (ProofLine rule root) st' T p =
      let line : Line = line_of n st rule (entry_node st root.0) in
      let few : (line_reach s st.nodes line).peak ≤ s' = omega (arith, ap (λ (x : State). x.peak) T.is) in
      let same : line_reach s st.nodes line ≡ line_reach s' st.nodes line = line_same s s' st.nodes line T.fits few in
      record {
        entry = T.entry;
        few = T.few;
        not-one = T.not-one;
        witness = T.witness;
        fits = ap (λ (r : Reach). r.fits) (sym same) ∙ T.fits;
        shown = T.shown;
        is = ap (λ (r : Reach). accepted st (entry_node st root.0) line (max st.peak r.peak)) (sym same) ∙ T.is;
      }
  record-taken n st (Strike k) st' T p = T
  record-taken n st (SetEntry kind b) st' T p =
      let few : length T.nodes ≤ s' = omega (arith, ap (λ (x : State). x.peak) T.is) in
      record {
        few = T.few;
        within = T.within;
        byte = T.byte;
        nodes = T.nodes;
        entry = T.entry;
        room = place_same s s' st.nodes (set_diagram n kind b) T.nodes T.entry T.room few;
        is = T.is;
      }
  record-taken n st End st' T p = absurd T
  record-taken n st CutShort st' T p = absurd T
  record-taken n st UnknownKind st' T p = absurd T
  record-taken n st NoRecord st' T p = absurd T

  judged-taken : (st : State) (g : ℕ) (line : Line) (st' : State) → Judged s st g line st' → st'.peak ≤ s' → Judged s' st g line st'
  judged-taken st g line st' J p =
      let few : (line_reach s st.nodes line).peak ≤ s' = omega (arith, ap (λ (x : State). x.peak) J.is) in
      let same : line_reach s st.nodes line ≡ line_reach s' st.nodes line = line_same s s' st.nodes line J.fits few in
      record {
        fits = ap (λ (r : Reach). r.fits) (sym same) ∙ J.fits;
        shown = J.shown;
        is = ap (λ (r : Reach). accepted st g line (max st.peak r.peak)) (sym same) ∙ J.is;
      }

  tries-taken : (profile : Bool) (n : ℕ) (st : State) (k : ℕ) (ls : List meaning.Literal) (st' : State) → TriesTaken profile n s st k ls st'
      → st'.peak ≤ s' → TriesTaken profile n s' st k ls st'
  tries-taken profile n st k ls st' (inl J) p = inl (judged-taken st k (first_line n st ls) st' J p)
  tries-taken true n st k ls st' (inr T) p = absurd T
  tries-taken false n st k [] st' (inr T) p = absurd T
  tries-taken false n st k (x ∷ ls) st' (inr T) p =
      let first : Line = first_line n st (x ∷ ls) in
      let second : Line = second_line n (live_members st) x ls in
      let few : (line_reach s st.nodes first).peak ≤ s' = omega (arith, ap (λ (y : State). y.peak) T.passes.is) in
      let same : line_reach s st.nodes first ≡ line_reach s' st.nodes first = line_same s s' st.nodes first T.room few in
      inr (record {
        room = ap (λ (r : Reach). r.fits) (sym same) ∙ T.room;
        failed = T.failed;
        passes = subst (λ (r : Reach). Judged s' (with_peak st (max st.peak r.peak)) k second st') same
            (judged-taken (with_peak st (peak_with s st first)) k second st' T.passes p);
      })

  command-taken : (profile : Bool) (n : ℕ) (st : State) (c : Command) (st' : State) → CommandTaken profile n s st c st' → st'.peak ≤ s'
      → CommandTaken profile n s' st c st'
  command-taken profile n st (recorded r more) st' T p = (T.0, record-taken n st r st' T.1 p)
  command-taken profile n st (added ls) st' T p =
      let few : length T.nodes ≤ s' =
      omega (arith, p, tries-grow profile n (with_entry st T.nodes T.node) T.node ls st' T.tried) in
      record {
        few = T.few;
        not-one = T.not-one;
        nodes = T.nodes;
        node = T.node;
        room = place_same s s' st.nodes (meaning.clause n ls) T.nodes T.node T.room few;
        tried = tries-taken profile n (with_entry st T.nodes T.node) T.node ls st' T.tried p;
      }
  command-taken profile n st (struck_out ls) st' T p = T
  command-taken profile n st (wrong number offset) st' T p = absurd T
  command-taken profile n st finished st' T p = absurd T

  -- ---- the command that ends the run, once it made nodes: 19

  judged-same : (st : State) (g : ℕ) (line : Line) → line_reach s st.nodes line ≡ line_reach s' st.nodes line
      → judged s st g line ≡ judged s' st g line
  unfolding judged
  judged-same st g line same = rw same

  judged-ends : (st : State) (g : ℕ) (line : Line) (number peak : ℕ) → judged s st g line ≡ spent number peak → number ≢ 23 → peak ≤ s'
      → (judged s' st g line ≡ spent number peak) × (st.peak ≤ peak)
  unfolding judged
  judged-ends st g line number peak q other p = go (line_reach s st.nodes line).fits refl line.shown q
    where
      most : ℕ
      most = max st.peak (line_reach s st.nodes line).peak

      go : (b : Bool) → (line_reach s st.nodes line).fits ≡ b → (c : Bool)
          → cond (not b) (spent 23 most) (cond (not c) (spent 19 most) (next (accepted st g line most))) ≡ spent number peak
          → (judged s' st g line ≡ spent number peak) × (st.peak ≤ peak)
      go false is c q = absurd (other (sym (ap number_in q)))
      go true is true q = next-not q
      go true is false e =
          let there : most ≡ peak = ap peak_in e in
          (sym (judged-same st g line (line_same s s' st.nodes line is (omega (arith, there, p)))) ∙ q, omega (arith, there))

  second-ends : (profile : Bool) (n : ℕ) (st : State) (k : ℕ) (ls : List meaning.Literal) (before number peak : ℕ)
      → after_first profile n s st k ls before ≡ spent number peak → number ≢ 23 → peak ≤ s'
      → (after_first profile n s' st k ls before ≡ spent number peak) × (before ≤ peak)
  unfolding after_first second_try
  second-ends true n st k ls before number peak q other p = let there : before ≡ peak = ap peak_in q in (q, omega arith)
  second-ends false n st k [] before number peak q other p = let there : before ≡ peak = ap peak_in q in (q, omega arith)
  second-ends false n st k (x ∷ ls) before number peak q other p =
      judged-ends (with_peak st before) k (second_line n (live_members st) x ls) number peak q other p

  tries-end : (profile : Bool) (n : ℕ) (st : State) (k : ℕ) (ls : List meaning.Literal) (number peak : ℕ)
      → tries profile n s st k ls ≡ spent number peak → number ≢ 23 → peak ≤ s'
      → (tries profile n s' st k ls ≡ spent number peak) × (st.peak ≤ peak)
  unfolding tries judged_or
  tries-end profile n st k ls number peak q other p = go (line_reach s st.nodes first).fits refl first.shown refl q
    where
      first : Line
      first = first_line n st ls

      most : ℕ
      most = max st.peak (line_reach s st.nodes first).peak

      go : (b : Bool) → (line_reach s st.nodes first).fits ≡ b → (c : Bool) → first.shown ≡ c
          → cond (not b) (spent 23 most) (cond (not c) (after_first profile n s st k ls most) (next (accepted st k first most)))
          ≡ spent number peak
          → (tries profile n s' st k ls ≡ spent number peak) × (st.peak ≤ peak)
      go false is c shown q = absurd (other (sym (ap number_in q)))
      go true is true shown q = next-not q
      go true is false failed q =
          let (after, below) = second-ends profile n st k ls most number peak q other p in
          let same : line_reach s st.nodes first ≡ line_reach s' st.nodes first =
          line_same s s' st.nodes first is (omega (arith, below, p)) in
          let fits : (line_reach s' st.nodes first).fits ≡ true = ap (λ (r : Reach). r.fits) (sym same) ∙ is in (
            rw (fits, failed) (ap (λ (r : Reach). after_first profile n s' st k ls (max st.peak r.peak)) (sym same) ∙ after),
            omega (arith, below),
          )

  record-ends : (n : ℕ) (st : State) (more : Bool) (r : Record) (number peak : ℕ) → record-proceeds n s st more r ≡ spent number peak
      → number ≢ 23 → peak ≤ s' → (record-proceeds n s' st more r ≡ spent number peak) × (st.peak ≤ peak)
  unfolding entered
  record-ends n st more (NodeEntry b) number peak q other p =
      go (put s st.nodes b.variable (entry_node st b.low.0) (entry_node st b.high.0)) q
    where
      go : {R : Type 0} (x : Placing) → entered st x ≡ spent number peak → R
      go (full t) e = absurd (other (sym (ap number_in e)))
      go (placed t k) e = next-not e
  record-ends n st more (SetEntry kind b) number peak q other p = go (place s st.nodes (set_diagram n kind b)) q
    where
      go : {R : Type 0} (x : Placing) → entered st x ≡ spent number peak → R
      go (full t) e = absurd (other (sym (ap number_in e)))
      go (placed t k) e = next-not e
  record-ends n st more (ProofLine Rup root) number peak q other p = judged-ends st (entry_node st root.0)
      (line_of n st Rup (entry_node st root.0)) number peak q other p
  record-ends n st more (ProofLine Pr root) number peak q other p = judged-ends st (entry_node st root.0)
      (line_of n st Pr (entry_node st root.0)) number peak q other p
  record-ends n st more (ProofLine Path root) number peak q other p = judged-ends st (entry_node st root.0)
      (line_of n st Path (entry_node st root.0)) number peak q other p
  record-ends n st more (Witness v b) number peak q other p = next-not q
  record-ends n st more (Strike k) number peak q other p = next-not q
  record-ends n st more End number peak q other p = next-not q
  record-ends n st more CutShort number peak q other p = next-not q
  record-ends n st more UnknownKind number peak q other p = next-not q
  record-ends n st more NoRecord number peak q other p = next-not q

  added-ends : (profile : Bool) (n : ℕ) (st : State) (ls : List meaning.Literal) (x : Placing) → place s st.nodes (meaning.clause n ls)
      ≡ x
      → (number peak : ℕ) → once_made st x (λ st₁ k. tries profile n s st₁ k ls) ≡ spent number peak → number ≢ 23 → peak ≤ s'
      → (once_made st (place s' st.nodes (meaning.clause n ls)) (λ st₁ k. tries profile n s' st₁ k ls) ≡ spent number peak)
      × (st.peak ≤ peak)
  added-ends profile n st ls (full t) e number peak q other p = absurd (other (sym (ap number_in q)))
  added-ends profile n st ls (placed t k) e number peak q other p =
      let (same, below) = tries-end profile n (with_entry st t k) k ls number peak q other p in
      let here : place s' st.nodes (meaning.clause n ls) ≡ placed t k =
      place_same s s' st.nodes (meaning.clause n ls) t k e (omega (arith, below, p)) in
      (ap (λ (x : Placing). once_made st x (λ st₁ k. tries profile n s' st₁ k ls)) here ∙ same, omega (arith, below))

  struck-not : {R : Type 0} (profile : Bool) (n : ℕ) (st : State) (x : Option ℕ) (number peak : ℕ)
      → struck-proceeds profile n s st x ≡ spent number peak → R
  struck-not profile n st none number peak q = next-not q
  struck-not profile n st (some i) number peak q = next-not q

  proceeds-ends : (profile : Bool) (n : ℕ) (st : State) (c : Command) (number peak : ℕ) → proceeds profile n s st c ≡ spent number peak
      → number ≢ 23 → peak ≤ s' → (proceeds profile n s' st c ≡ spent number peak) × (st.peak ≤ peak)
  proceeds-ends profile n st (recorded r more) number peak q other p = record-ends n st more r number peak q other p
  proceeds-ends profile n st (added ls) number peak q other p =
      added-ends profile n st ls (place s st.nodes (meaning.clause n ls)) refl number peak q other p
  proceeds-ends profile n st (struck_out ls) number peak q other p =
      struck-not profile n st (first_same (length st.members) st 0 (meaning.clause n ls)) number peak q
  proceeds-ends profile n st (wrong k o) number peak q other p = next-not q
  proceeds-ends profile n st finished number peak q other p = next-not q

  command-ends : (profile : Bool) (n : ℕ) (st : State) (c : Command) (number peak : ℕ) → step profile n s st c ≡ spent number peak
      → number ≢ 23 → peak ≤ s' → (step profile n s' st c ≡ spent number peak) × (st.peak ≤ peak)
  command-ends profile n st c number peak q other p =
      let here : chain (refusals profile n st c) (proceeds profile n s st c) ≡ spent number peak = sym (command-is profile n s st c) ∙ q in
      let last : proceeds profile n s st c ≡ spent number peak = chain-spent (refusals profile n st c) (proceeds profile n s st c) number
      peak here in
      let (same, below) = proceeds-ends profile n st c number peak last other p in
      (command-is profile n s' st c ∙ ap (chain (refusals profile n st c)) (same ∙ sym last) ∙ here, below)

  -- ---- the run

  making-same : {text : List ℕ} {n many : ℕ} {t : List Node} {ms : List ℕ} {fs : List Function} {r : Reading} →
      Making s text n many t ms fs r
      → length t ≤ s' → Making s' text n many t ms fs r
  making-same (opened e) p = opened e
  making-same {text} {n} (made {t} {t₁} {ms} {k} {fs} {ls} M e) p =
      let longer : length t ≤ length t₁ = subst (λ (x : Placing). length t ≤ length (nodes_after x)) e
      (place-longer s t (meaning.clause n ls)) in
      made (making-same M (omega arith)) (place_same s s' t (meaning.clause n ls) t₁ k e p)

  reached-same : {mode : Mode} {text proof : List ℕ} {n : ℕ} {st : State} {at : ℕ} {m : Meant} → Reached mode s text proof n st at m
      → st.peak ≤ s' → Reached mode s' text proof n st at m
  reached-same (begins M) p = begins (making-same M p)
  reached-same {mode} {text} {proof} {n} (goes {st} {st'} {at} R T) p =
      let c : Command = command_in mode proof n at in
      goes (reached-same R (omega (arith, p, command-grows mode.consequence n st c st' T)))
      (command-taken mode.consequence n st c st' T p)

  ended_same : (mode : Mode) (text proof : List ℕ) (v : Verdict) → Ended mode s text proof v → v.number ≢ 8 → v.number ≢ 23 → v.peak ≤ s'
      → Ended mode s' text proof v
  ended_same mode text proof _ (no_header h) n8 n23 p = no_header h
  ended_same mode text proof _ (not-read M) n8 n23 p = not-read (making-same M p)
  ended_same mode text proof _ (no_room M e) n8 n23 p = absurd (n8 refl)
  ended_same mode text proof _ (stopped {n} {number} {offset} {at} {st} R e) n8 n23 p =
      let c : Command = command_in mode proof n at in
      stopped (reached-same R p)
      ((step-refuses mode.consequence n s' st c number offset).1 ((step-refuses mode.consequence n s st c number offset).0 e))
  ended_same mode text proof _ (tried {n} {number} {peak} {at} {st} R e) n8 n23 p =
      let (same, below) = command-ends mode.consequence n st (command_in mode proof n at) number peak e n23 p in
      tried (reached-same R (omega (arith, below, p))) same

  -- THEOREM: a check that is not refused for room comes to the same in every table with as many places as its peak, be it smaller or
  -- larger.
  pub enough-room : (mode : Mode) (text proof : List ℕ) → (verdict mode s text proof).number ≢ 8 → (verdict mode s text proof).number ≢ 23
      → (verdict mode s text proof).peak ≤ s' → verdict mode s' text proof ≡ verdict mode s text proof
  enough-room mode text proof n8 n23 p =
      ended_is mode s' text proof (verdict mode s text proof)
      (ended_same mode text proof (verdict mode s text proof) (ended mode s text proof) n8 n23 p)
