-- 19 is given only for a line of which a propagation ends without conflict before any diagram finds no room, or for a clause that neither
-- of its tries shows. The idea: the tests before it have other numbers, and a line is judged by what is met first. Assumes nothing.
use Rattle.paths.specs.Paths.{path_count}
use mathlib.Core.Path.{◌≡◌, refl, sym, ap, ◌∙◌, subst}
use mathlib.Core.Logic.{inr}
use mathlib.Core.Bool.{Bool, true, false, not, ◌&&◌, ◌||◌, cond}
use mathlib.Core.List.{List, [], ◌∷◌}
use Prim.Native.Nat.{ℕ, ◌<◌}
use native.Mathlib.Omega.{arith}
use lib.ListN.{length}
use lib.Dec.{eqb, leb, ltb}
use borrow.Author.Tests.{leb-false}
use Rattle.meaning.specs.Diagram.{leaf, same}
use Rattle.meaning.specs.Operations as meaning
use Rattle.meaning.specs.Rules.{Line, witnessed}
use Rattle.meaning.specs.Words.{in_word}
use Rattle.table.specs.Nodes.{above, Placing, full, placed, put, place}
use Rattle.table.specs.Making.{line_reach}
use Rattle.records.specs.declared.EntryNo.{EntryNo}
use Rattle.records.specs.declared.NodeBody.{NodeBody}
use Rattle.records.specs.declared.Rule.{Rule}
use Rattle.records.specs.declared.Rule.TheVariants.{Rup, Pr, Path}
use Rattle.records.specs.declared.Record.{Record}
use Rattle.records.specs.declared.Record.TheVariants.{NodeEntry, Witness, ProofLine, Strike, SetEntry, End, CutShort, UnknownKind}
use Rattle.records.specs.declared.Record.TheVariants.{NoRecord}
use Rattle.commands.specs.declared.Form.{Form}
use Rattle.commands.specs.declared.Form.TheVariants.{Records, Text, Binary}
use Rattle.commands.specs.Commands.{Command, recorded, added, struck_out, wrong, finished}
use Rattle.verdict.specs.Steps.{State, with_entry, Step, next, stop, spent, is_entry, entry_node, is_variable, entered, node_step}
use Rattle.verdict.specs.Steps.{witness_step}
use Rattle.verdict.specs.Steps.{waiting, accepted, judged, diagram_in, live_members, line_step, is_live, strike_step, beyond, no_parity}
use Rattle.verdict.specs.Steps.{set_diagram, set_step, end_step, record_step}
use Rattle.verdict.specs.Clausal.{with_peak, judged_or, second_line, second_try, after_first, tries, once_made, add_step}
use Rattle.verdict.specs.Check.{step, shut_out}
use Rattle.verdict.specs.Taken.{line_of, peak_with}
use Rattle.verdict.specs.ClauseTaken.{first_line, SecondFits}
use Rattle.verdict.specs.Run.{command_in}
use Rattle.verdict.specs.MetFirst.{Met, all_shown, no-conflict, no_place, met_by, say_met}
use Rattle.verdict.proofs.Steps.{spent-other, next-not-spent, stop-not-spent, past-early}
use Rattle.verdict.proofs.ClauseSays.{StruckSays, FinishSays, struck-says, finish-says}
use Rattle.verdict.proofs.Numbers.{NumberedIn, reached-numbered}
use Rattle.verdict.proofs.MetFirst.{met-first}
use Rattle.demands.specs.Leaving.{Handed, checked, places, EndsWith, AtEnd, SecondFails, ClauseNotShown, NotShown, AtLine}
use Rattle.demands.specs.Leaving.{SecondNotShown}
use Rattle.demands.proofs.Places.{check-place}
use Rattle.demands.proofs.InProof.{in-proof-said}

module _ (n s : ℕ) (st : State) {peak : ℕ} where
  entered-other : {A : Type 0} (p : Placing) → entered st p ≡ spent 19 peak → A
  unfolding entered
  entered-other (full t) e = spent-other 23 _ refl e
  entered-other (placed t k) e = next-not-spent _ e

  node-other : {A : Type 0} (b : NodeBody) → node_step n s st b ≡ spent 19 peak → A
  unfolding node_step
  node-other b e =
      let l : ℕ = entry_node st b.low.0 in
      let h : ℕ = entry_node st b.high.0 in
      let (p₁, e₁) = past-early (leb 4096 (length st.entries)) 21 0 _ e in
      let (p₂, e₂) = past-early (not (is_variable n b.variable)) 12 0 _ e₁ in
      let (p₃, e₃) = past-early (not (is_entry st b.low.0 && is_entry st b.high.0)) 13 0 _ e₂ in
      let (p₄, e₄) = past-early (not (above st.nodes b.variable l && above st.nodes b.variable h)) 14 0 _ e₃ in
      entered-other (put s st.nodes b.variable l h) e₄

  judged-met : (rule : Rule) (g : ℕ) → judged s st g (line_of n st rule g) ≡ spent 19 peak → met_by n s st rule g ≡ no-conflict
  judged-met rule g e = go (met_by n s st rule g) (sym (met-first n s st rule g) ∙ e)
    where
      go : (x : Met) → say_met st g (line_of n st rule g) (peak_with s st (line_of n st rule g)) x ≡ spent 19 peak → x ≡ no-conflict
      go all_shown q = next-not-spent _ q
      go no-conflict q = refl
      go no_place q = spent-other 23 _ refl q

  line-met : (rule : Rule) (root : ℕ) → line_step n s st rule root ≡ spent 19 peak → met_by n s st rule (entry_node st root) ≡ no-conflict
  unfolding line_step
  line-met Rup root e =
      let g : ℕ = entry_node st root in
      let (p₁, e₁) = past-early (not (is_entry st root)) 13 0 _ e in
      let (p₂, e₂) = past-early (waiting st) 16 0 _ e₁ in
      let (p₃, e₃) = past-early (leb 1024 st.lines) 22 0 _ e₂ in
      let (p₄, e₄) = past-early (eqb g 1) 17 0 _ e₃ in
      judged-met Rup g e₄
  line-met Pr root e =
      let g : ℕ = entry_node st root in
      let (p₁, e₁) = past-early (not (is_entry st root)) 13 0 _ e in
      let (p₂, e₂) = past-early (leb 1024 st.lines) 22 0 _ e₁ in
      let (p₃, e₃) = past-early (eqb g 1) 17 0 _ e₂ in
      let (p₄, e₄) = past-early (not (witnessed n (in_word st.positive) (in_word st.negative) (diagram_in st g))) 18 0 _ e₃ in
      judged-met Pr g e₄
  line-met Path root e =
      let g : ℕ = entry_node st root in
      let (p₁, e₁) = past-early (not (is_entry st root)) 13 0 _ e in
      let (p₂, e₂) = past-early (waiting st) 16 0 _ e₁ in
      let (p₃, e₃) = past-early (leb 1024 st.lines) 22 0 _ e₂ in
      let (p₄, e₄) = past-early (eqb g 1) 17 0 _ e₃ in
      let (p₅, e₅) = past-early (ltb 4096 (path_count (diagram_in st g))) 34 0 _ e₄ in
      judged-met Path g e₅

  record-met : (more : Bool) (r : Record) → record_step n s st more r ≡ spent 19 peak
      → (rule : Rule) × (root : EntryNo) × (r ≡ ProofLine rule root) × (met_by n s st rule (entry_node st root.0) ≡ no-conflict)
  unfolding record_step witness_step strike_step set_step end_step
  record-met more (NodeEntry b) e = node-other b e
  record-met more (ProofLine rule root) e = (rule, root, refl, line-met rule root.0 e)
  record-met more (Witness v b) e =
      let (p₁, e₁) = past-early (not (is_variable n v)) 12 0 _ e in
      let (p₂, e₂) = past-early (in_word st.positive v || in_word st.negative v) 15 0 _ e₁ in
      next-not-spent _ e₂
  record-met more (Strike k) e =
      let (p₁, e₁) = past-early (waiting st) 16 0 _ e in
      let (p₂, e₂) = past-early (not (is_live st k.0)) 28 0 _ e₁ in
      next-not-spent _ e₂
  record-met more (SetEntry kind b) e =
      let (p₁, e₁) = past-early (leb 4096 (length st.entries)) 21 0 _ e in
      let (p₂, e₂) = past-early (beyond n b.set) 12 0 _ e₁ in
      let (p₃, e₃) = past-early (no_parity kind b.byte) 29 0 _ e₂ in
      entered-other (place s st.nodes (set_diagram n kind b)) e₃
  record-met more End e =
      let (p₁, e₁) = past-early (waiting st) 16 0 _ e in
      let (p₂, e₂) = past-early more 11 1 _ e₁ in
      let (p₃, e₃) = past-early st.refuted 0 0 _ e₂ in
      stop-not-spent 20 0 e₃
  record-met more CutShort e = stop-not-spent 10 0 e
  record-met more UnknownKind e = stop-not-spent 9 0 e
  record-met more NoRecord e = stop-not-spent 10 0 e

  -- ---- a clause

  judged-fails : (x : State) (g : ℕ) (line : Line) → judged s x g line ≡ spent 19 peak → ((line_reach s x.nodes line).fits ≡ true)
      × (line.shown ≡ false)
  unfolding judged
  judged-fails x g line e = go (line_reach s x.nodes line).fits refl line.shown refl e
    where
      go : (fits : Bool) → (line_reach s x.nodes line).fits ≡ fits → (shown : Bool) → line.shown ≡ shown
          → cond (not fits) (spent 23 (peak_with s x line))
          (cond (not shown) (spent 19 (peak_with s x line)) (next (accepted x g line (peak_with s x line)))) ≡ spent 19 peak
          → ((line_reach s x.nodes line).fits ≡ true) × (line.shown ≡ false)
      go false q shown r e = spent-other 23 _ refl e
      go true q true r e = next-not-spent _ e
      go true q false r e = (q, r)

  second-fails : (x : State) (k : ℕ) (ls : List meaning.Literal) (most : ℕ) → second_try n s x k ls most ≡ spent 19 peak
      → SecondFits n s x.nodes (live_members x) ls × SecondFails n (live_members x) ls
  unfolding second_try
  second-fails x k [] most e = (tt, tt)
  second-fails x k (p ∷ ls) most e = judged-fails (with_peak x most) k (second_line n (live_members x) p ls) e

  later-fails : (profile : Bool) (x : State) (k : ℕ) (ls : List meaning.Literal) (most : ℕ) → after_first profile n s x k ls most
      ≡ spent 19 peak
      → SecondNotShown profile n s x.nodes (live_members x) ls
  unfolding after_first
  later-fails true x k ls most e = tt
  later-fails false x k ls most e = second-fails x k ls most e

  tries-fail : (profile : Bool) (x : State) (k : ℕ) (ls : List meaning.Literal) → tries profile n s x k ls ≡ spent 19 peak
      → ((line_reach s x.nodes (first_line n x ls)).fits ≡ true) × ((first_line n x ls).shown ≡ false)
      × SecondNotShown profile n s x.nodes (live_members x) ls
  unfolding tries judged_or
  tries-fail profile x k ls e = go (line_reach s x.nodes first).fits refl first.shown refl e
    where
      first : Line
      first = first_line n x ls

      go : (fits : Bool) → (line_reach s x.nodes (first_line n x ls)).fits ≡ fits → (shown : Bool) → (first_line n x ls).shown ≡ shown
          → cond (not fits) (spent 23 (peak_with s x first))
          (cond (not shown) (after_first profile n s x k ls (peak_with s x first)) (next (accepted x k first (peak_with s x first))))
          ≡ spent 19 peak
          → ((line_reach s x.nodes (first_line n x ls)).fits ≡ true) × ((first_line n x ls).shown ≡ false)
          × SecondNotShown profile n s x.nodes (live_members x) ls
      go false q shown r e = spent-other 23 _ refl e
      go true q true r e = next-not-spent _ e
      go true q false r e = (q, r, later-fails profile x k ls (peak_with s x first) e)

  clause-met : (profile : Bool) (ls : List meaning.Literal) → add_step profile n s st ls ≡ spent 19 peak → ClauseNotShown profile n s st ls
  unfolding add_step
  clause-met profile ls e =
      let (p₁, e₁) = past-early (leb 1024 st.lines) 22 0 _ e in
      let (p₂, e₂) = past-early (same (meaning.clause n ls) (leaf true)) 17 0 _ e₁ in
      go (leb-false 1024 st.lines p₁) (place s st.nodes (meaning.clause n ls)) refl e₂
    where
      go : st.lines < 1024 → (q : Placing) → place s st.nodes (meaning.clause n ls) ≡ q →
          once_made st q (λ st₁ k. tries profile n s st₁ k ls) ≡ spent 19 peak → ClauseNotShown profile n s st ls
      go few (full t) r e = spent-other 23 _ refl e
      go few (placed t k) r e =
          let (fits, failed, second) = tries-fail profile (with_entry st t k) k ls e in
          record { nodes = t; node = k; few = few; made = r; first_fits = fits; first-fails = failed; second-fails = second }

  command-met : (profile : Bool) (c : Command) → step profile n s st c ≡ spent 19 peak → NotShown profile n s st c
  unfolding step
  command-met profile (recorded r more) e = let (p₁, e₁) = past-early (shut_out profile r) 33 0 _ e in record-met more r e₁
  command-met profile (added ls) e = clause-met profile ls e
  command-met profile (struck_out ls) e = absurd (subst StruckSays e (struck-says n st ls))
  command-met profile (wrong number offset) e = stop-not-spent number offset e
  command-met profile finished e = absurd (subst FinishSays e (finish-says st))

-- 19 is given only once nodes were made
not-early : (form : Form) (number offset : ℕ) → NumberedIn form (stop number offset) → number ≡ 19 → ⊥
not-early Records number offset N z = N.2 z
not-early Text number offset N z = N.5 z
not-early Binary number offset N z = N.6 z

-- "19: not shown: no conflict": the line or clause at the place, all commands before it taken; no conflict is met before a diagram without
-- room.
pub nineteen-only : (i : Handed) → (checked i).number ≡ 19 → AtLine i (checked i).place
nineteen-only i z = go (check-place i (in-proof-said i (inr (omega arith))))
  where
    tried : (n : ℕ) (st : State) (c : Command) (x : Step) → step i.mode.consequence n (places i) st c ≡ x →
        NumberedIn i.mode.form x → (offset : ℕ) → EndsWith x 19 offset
        → NotShown i.mode.consequence n (places i) st c × (offset ≡ 0)
    tried n st c (next st') q N offset e = absurd e
    tried n st c (stop k o) q N offset e = absurd (not-early i.mode.form k o N e.0)
    tried n st c (spent k peak) q N offset e = (
      command-met n (places i) st i.mode.consequence c
          (q ∙ ap (λ (m : ℕ). spent m peak) e.0),
      e.1,
    )

    go : AtEnd i (checked i) → AtLine i (checked i).place
    go E =
        let c : Command = command_in i.mode i.proof E.n E.at in
        let x : Step = step i.mode.consequence E.n (places i) E.state c in
        let (fails, here) = tried E.n E.state c x refl (reached-numbered i.mode (places i) i.text i.proof E.reached)
        E.offset
        (subst (λ (k : ℕ). EndsWith x k E.offset) z E.says) in
        let place : E.at ≡ (checked i).place = omega (arith, E.place) in
        subst (AtLine i) place (record { n = E.n; state = E.state; meant = E.meant; reached = E.reached; not-shown = fails })
