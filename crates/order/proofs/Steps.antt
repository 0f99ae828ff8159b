-- The same of the check's own step: a line's record comes to the same whatever the order of the live members, and an accepted RUP line
-- stays accepted with more of them, where there is room. The idea: behind the tests that do not look at members a step says 23, 19 or goes
-- on, by room and by what its rule shows. Assumes nothing.
use mathlib.Core.Path.{◌≡◌, refl, sym, ap, ◌∙◌, subst}
use mathlib.Core.Bool.{Bool, true, false, not, cond}
use mathlib.Core.List.{List}
use Prim.Native.Nat.{ℕ, ◌+◌, ◌≤◌}
use lib.ListN.{length, set}
use lib.Dec.{eqb, leb, ltb}
use borrow.Author.Tests.{lt-leb, le-ltb, ne_eqb}
use Rattle.meaning.specs.Diagram.{Diagram}
use Rattle.meaning.specs.Operations.{negation}
use Rattle.meaning.specs.Rules.{Line, by_diagram, rup, pr, witnessed}
use Rattle.meaning.specs.Words.{in_word}
use Rattle.meaning.proofs.Booleans.{t≢f}
use Rattle.paths.specs.Paths.{path_line, path_count}
use Rattle.table.specs.Making.{line_reach}
use Rattle.records.specs.declared.EntryNo.{EntryNo}
use Rattle.records.specs.declared.MemberNo.{MemberNo}
use Rattle.records.specs.declared.Rule.{Rule}
use Rattle.records.specs.declared.Rule.TheVariants.{Rup, Pr, Path}
use Rattle.records.specs.declared.Record.TheVariants.{ProofLine, Strike}
use Rattle.verdict.specs.Steps.{State, Step, next, stop, spent, is_entry, entry_node, waiting, accepted, judged, diagram_in, unstruck}
use Rattle.verdict.specs.Steps.{live_members, line_step}
use Rattle.verdict.specs.Steps.{record_step}
use Rattle.verdict.specs.Steps.{with_marks}
use Rattle.verdict.specs.Taken.{line_of, peak_with, LineTaken, StrikeTaken}
use Rattle.verdict.proofs.Steps.{record-taken}
use Rattle.order.specs.Choices.{Contained, Reordered, Propagates}
use Rattle.order.specs.Lines.{RoomFor, ComesToRule, by_rule, SameLine, Alike, with_members, beside}
use Rattle.order.proofs.Members.{within-map, reordered-within, reordered-back}
use Rattle.order.proofs.Marks.{reordered-live, struck-within}
use Rattle.order.proofs.Rules.{rup-any-choice, rup-more, rup-same, pr-same, path-same}
use Rattle.order.proofs.Room.{line_size, line-fits}
use Rattle.verdict.specs.ClauseTaken.{GoesOn}

-- ---- a line that comes to its rule and has room

module _ (n s : ℕ) (st : State) where
  judged-fits : (g : ℕ) (line : Line) → (line_reach s st.nodes line).fits ≡ true → judged s st g line ≡ by_rule s st g line line.shown
  unfolding judged
  judged-fits g line fits = rw fits (go line.shown)
    where
      go : (b : Bool) → cond (not b) (spent 19 (peak_with s st line)) (next (accepted st g line (peak_with s st line)))
          ≡ by_rule s st g line b
      go true = refl
      go false = refl

  line-judged : (rule : Rule) (root : ℕ) → ComesToRule n st rule root → line_step n s st rule root
      ≡ judged s st (entry_node st root) (line_of n st rule (entry_node st root))
  unfolding line_step
  line-judged Rup root J = rw (J.entry, J.witness, lt-leb 1024 st.lines J.few, ne_eqb (entry_node st root) 1 J.not-one)
  line-judged Pr root J = rw (J.entry, lt-leb 1024 st.lines J.few, ne_eqb (entry_node st root) 1 J.not-one, J.witness)
  line-judged Path root J =
      rw (
        J.entry,
        J.witness.0,
        lt-leb 1024 st.lines J.few,
        ne_eqb (entry_node st root) 1 J.not-one,
        le-ltb 4096 (path_count (diagram_in st (entry_node st root))) J.witness.1,
      )

  step-shown : (more : Bool) (rule : Rule) (root : EntryNo) → ComesToRule n st rule root.0 → RoomFor n s st rule root.0
      → record_step n s st more (ProofLine rule root) ≡ by_rule s st (entry_node st root.0) (line_of n st rule (entry_node st root.0))
      (line_of n st rule (entry_node st root.0)).shown
  unfolding record_step
  step-shown more rule root J fits = line-judged rule root.0 J ∙ judged-fits (entry_node st root.0)
      (line_of n st rule (entry_node st root.0)) fits

  -- Whichever member with units each round of a RUP line takes: accepted where a conflict comes, else refused with 19.
  pub step-any-choice : (more : Bool) (root : EntryNo) → ComesToRule n st Rup root.0 → RoomFor n s st Rup root.0 →
      (rounds : ℕ) (b : Bool)
      → Propagates n (by_diagram n (negation n (diagram_in st (entry_node st root.0))) (live_members st)) rounds b
      → record_step n s st more (ProofLine Rup root) ≡ by_rule s st (entry_node st root.0) (line_of n st Rup (entry_node st root.0)) b
  step-any-choice more root J fits rounds b R =
      step-shown more Rup root J fits
      ∙ ap (by_rule s st (entry_node st root.0) (line_of n st Rup (entry_node st root.0)))
      (sym (rup-any-choice n (live_members st) (diagram_in st (entry_node st root.0)) rounds b R))

accepted-next : (x : Step) → GoesOn x → (st : State) × (x ≡ next st)
accepted-next (next st) a = (st, refl)
accepted-next (stop number offset) a = absurd a
accepted-next (spent number peak) a = absurd a

accepted-rule : (s : ℕ) (st : State) (g : ℕ) (line : Line) (b : Bool) → b ≡ true → GoesOn (by_rule s st g line b)
accepted-rule s st g line true e = tt
accepted-rule s st g line false e = t≢f (sym e)

alike-rule : (s s' : ℕ) (st st' : State) (g g' : ℕ) (line line' : Line) (b : Bool) →
    Alike (by_rule s st g line b) (by_rule s' st' g' line' b)
alike-rule s s' st st' g g' line line' true = tt
alike-rule s s' st st' g g' line line' false = refl

-- ---- two checks of one line

module _ (n : ℕ) (st st' : State) (root root' : ℕ) (L : SameLine st root st' root') where
  abbrev g : Diagram
  g = diagram_in st (entry_node st root)

  shown-more : Contained (live_members st) (live_members st') → (line_of n st Rup (entry_node st root)).shown ≡ true →
      (line_of n st' Rup (entry_node st' root')).shown ≡ true
  shown-more w t = ap (λ (f : Diagram). (rup n (live_members st') f).shown) (sym L.line)
      ∙ rup-more n (live_members st) (live_members st') g w t

  shown-same : (rule : Rule) → Contained (live_members st) (live_members st') → Contained (live_members st') (live_members st)
      → (line_of n st rule (entry_node st root)).shown ≡ (line_of n st' rule (entry_node st' root')).shown
  shown-same Rup w w' = rup-same n (live_members st) (live_members st') g w w'
      ∙ ap (λ (f : Diagram). (rup n (live_members st') f).shown) L.line
  shown-same Pr w w' =
      pr-same n (in_word st.positive) (in_word st.negative) (live_members st) (live_members st') g w w'
      ∙ ap (λ (f : Diagram). (pr n (in_word st.positive) (in_word st.negative) (live_members st') f).shown) L.line
      ∙ ap (λ (w : ℕ). (pr n (in_word w) (in_word st.negative) (live_members st') (diagram_in st' (entry_node st' root'))).shown) L.positive
      ∙ ap (λ (w : ℕ). (pr n (in_word st'.positive) (in_word w) (live_members st') (diagram_in st' (entry_node st' root'))).shown)
      L.negative
  shown-same Path w w' = path-same n (live_members st) (live_members st') g w w'
      ∙ ap (λ (f : Diagram). (path_line n (live_members st') f).shown) L.line

module _ (n s s' : ℕ) (st st' : State) (more more' : Bool) (root root' : EntryNo) (L : SameLine st root.0 st' root'.0) where
  pub lines-alike : (rule : Rule) → Contained (live_members st) (live_members st') → Contained (live_members st') (live_members st)
      → ComesToRule n st rule root.0 → ComesToRule n st' rule root'.0 → RoomFor n s st rule root.0 →
      RoomFor n s' st' rule root'.0
      → Alike (record_step n s st more (ProofLine rule root)) (record_step n s' st' more' (ProofLine rule root'))
  lines-alike rule w w' J J' fits fits' =
      rw (
        step-shown n s st more rule root J fits,
        step-shown n s' st' more' rule root' J' fits',
        shown-same n st st' root.0 root'.0 L rule w w',
      )
      (alike-rule s s' st st' _ _ _ _ (line_of n st' rule (entry_node st' root'.0)).shown)

  pub lines_more : Contained (live_members st) (live_members st') → ComesToRule n st' Rup root'.0 → RoomFor n s' st' Rup root'.0
      → GoesOn (record_step n s st more (ProofLine Rup root)) → GoesOn (record_step n s' st' more' (ProofLine Rup root'))
  lines_more w J' fits' a =
      let (st₁, e) = accepted-next (record_step n s st more (ProofLine Rup root)) a in
      let T : LineTaken n s st Rup root.0 st₁ = record-taken n s st more (ProofLine Rup root) st₁ e in
      rw (step-shown n s' st' more' Rup root' J' fits')
      (accepted-rule s' st' _ _ _ (shown-more n st st' root.0 root'.0 L w T.shown))

-- ---- one state with other members

-- Four tests, each with its number, and then x.
abbrev tested : Bool → Bool → Bool → Bool → ℕ → ℕ → ℕ → ℕ → Step → Step
tested a b c d i j k l x = cond a (stop i 0) (cond b (stop j 0) (cond c (stop k 0) (cond d (stop l 0) x)))

alike-tested : (a b c d : Bool) (i j k l : ℕ) (x y : Step) → Alike x y → Alike (tested a b c d i j k l x) (tested a b c d i j k l y)
alike-tested true b c d i j k l x y e = (refl, refl)
alike-tested false true c d i j k l x y e = (refl, refl)
alike-tested false false true d i j k l x y e = (refl, refl)
alike-tested false false false true i j k l x y e = (refl, refl)
alike-tested false false false false i j k l x y e = e

alike-one : (c : Bool) (number : ℕ) (x y : Step) → Alike x y → Alike (cond c (stop number 0) x) (cond c (stop number 0) y)
alike-one true number x y e = (refl, refl)
alike-one false number x y e = e

module _ (n s : ℕ) (st : State) (members marks : List ℕ) where
  abbrev st' : State
  st' = with_members st members marks

  same_line : (root : ℕ) → SameLine st root st' root
  unfolding entry_node
  same_line root = record { line = refl; positive = refl; negative = refl }

  live-within : Contained (unstruck st.struck st.members) (unstruck marks members) → Contained (live_members st) (live_members st')
  live-within w = within-map (diagram_in st) (unstruck st.struck st.members) (unstruck marks members) w

  -- what is asked before the rule does not look at members
  still : (root : ℕ) (st₁ : State) → LineTaken n s st Rup root st₁ → ComesToRule n st' Rup root
  unfolding is_entry entry_node waiting
  still root st₁ T = record { entry = T.entry; few = T.few; not-one = T.not-one; witness = T.witness }

  judged-alike : (rule : Rule) (root : ℕ) → Reordered (beside st.struck st.members) (beside marks members) →
      RoomFor n s st rule root → RoomFor n s st' rule root
      → Alike (judged s st (entry_node st root) (line_of n st rule (entry_node st root)))
      (judged s st' (entry_node st' root) (line_of n st' rule (entry_node st' root)))
  judged-alike rule root r fits fits' =
      let r' : Reordered (unstruck st.struck st.members) (unstruck marks members) =
      reordered-live st.struck marks st.members members r in
      let w : Contained (live_members st) (live_members st') = live-within (reordered-within r') in
      let w' : Contained (live_members st') (live_members st) = within-map (diagram_in st) (unstruck marks members)
      (unstruck st.struck st.members) (reordered-within (reordered-back r')) in
      rw (
        judged-fits n s st (entry_node st root) (line_of n st rule (entry_node st root)) fits,
        judged-fits n s st' (entry_node st' root) (line_of n st' rule (entry_node st' root)) fits',
        shown-same n st st' root root (same_line root) rule w w',
      )
      (alike-rule s s st st' _ _ _ _ (line_of n st' rule (entry_node st' root)).shown)

  pub step-any-order : (more : Bool) (rule : Rule) (root : EntryNo) → Reordered (beside st.struck st.members) (beside marks members) →
      RoomFor n s st rule root.0 → RoomFor n s st' rule root.0
      → Alike (record_step n s st more (ProofLine rule root)) (record_step n s st' more (ProofLine rule root))
  unfolding record_step line_step is_entry entry_node waiting
  step-any-order more Rup root r fits fits' =
      let g : ℕ = entry_node st root.0 in
      alike-tested (not (is_entry st root.0)) (waiting st) (leb 1024 st.lines) (eqb g 1) 13 16 22 17
      (judged s st g (line_of n st Rup g)) (judged s st' g (line_of n st' Rup g)) (judged-alike Rup root.0 r fits fits')
  step-any-order more Pr root r fits fits' =
      let g : ℕ = entry_node st root.0 in
      alike-tested (not (is_entry st root.0)) (leb 1024 st.lines) (eqb g 1)
      (not (witnessed n (in_word st.positive) (in_word st.negative) (diagram_in st g))) 13 22 17 18
      (judged s st g (line_of n st Pr g)) (judged s st' g (line_of n st' Pr g)) (judged-alike Pr root.0 r fits fits')
  step-any-order more Path root r fits fits' =
      let g : ℕ = entry_node st root.0 in
      let many : Bool = ltb 4096 (path_count (diagram_in st g)) in
      alike-tested (not (is_entry st root.0)) (waiting st) (leb 1024 st.lines) (eqb g 1) 13 16 22 17
      (cond many (stop 34 0) (judged s st g (line_of n st Path g))) (cond many (stop 34 0) (judged s st' g (line_of n st' Path g)))
      (alike-one many 34 _ _ (judged-alike Path root.0 r fits fits'))

  pub step-more : (more : Bool) (root : EntryNo) → Contained (unstruck st.struck st.members) (unstruck marks members) →
      RoomFor n s st' Rup root.0
      → GoesOn (record_step n s st more (ProofLine Rup root)) → GoesOn (record_step n s st' more (ProofLine Rup root))
  step-more more root w fits' a =
      let (st₁, e) = accepted-next (record_step n s st more (ProofLine Rup root)) a in
      let T : LineTaken n s st Rup root.0 st₁ = record-taken n s st more (ProofLine Rup root) st₁ e in
      lines_more n s s st st' more more root root (same_line root.0) (live-within w) (still root.0 st₁ T) fits' a

-- A RUP line that is accepted once a member is struck is accepted without the striking.
pub step-unstruck : (n s : ℕ) (st st₁ : State) (more more' : Bool) (k : MemberNo) (root : EntryNo) → record_step n s st more (Strike k)
    ≡ next st₁ → RoomFor n s st Rup root.0
    → GoesOn (record_step n s st₁ more' (ProofLine Rup root)) → GoesOn (record_step n s st more' (ProofLine Rup root))
step-unstruck n s st st₁ more more' k root e fits a =
    let T : StrikeTaken st k.0 st₁ = record-taken n s st more (Strike k) st₁ e in
    let a' : GoesOn (record_step n s (with_marks st (set st.struck k.0 1)) more' (ProofLine Rup root)) =
    subst (λ (x : State). GoesOn (record_step n s x more' (ProofLine Rup root))) (sym T.is) a in
    step-more n s (with_marks st (set st.struck k.0 1)) st.members st.struck more' root
    (struck-within st.struck k.0 st.members) fits a'

-- ---- room

-- For every line there is a size of the table from which on it has room.
pub enough-room : (n : ℕ) (st : State) (rule : Rule) (root : ℕ) → (least : ℕ) × ((s : ℕ) → least ≤ s → RoomFor n s st rule root)
enough-room n st rule root = (
  length st.nodes + line_size (line_of n st rule (entry_node st root)),
  λ s most. line-fits s st.nodes (line_of n st rule (entry_node st root)) most,
)
