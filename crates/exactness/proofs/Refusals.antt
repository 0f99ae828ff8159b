-- A command ends the run before it makes a node exactly with the first refusal of its table that holds. The idea: the definition is the
-- table read from the top.
-- Assumes nothing.
use mathlib.Core.Path.{◌≡◌, refl, sym, ap, ◌∙◌, subst}
use mathlib.Core.Logic.{◌⊎◌, inl, inr, ◌↔◌}
use mathlib.Core.Bool.{Bool, true, false, not, ◌&&◌, ◌||◌, cond}
use mathlib.Core.List.{List, [], ◌∷◌}
use mathlib.Core.Option.{Option, none, some}
use Prim.Native.Nat.{ℕ, ◌/◌, ◌%◌}
use native.Mathlib.Omega.{arith}
use lib.ListN.{length, set}
use lib.Dec.{eqb, ltb}
use borrow.Author.Tests.{eqb-true, le-ltb}
use Rattle.meaning.specs.Operations as meaning
use Rattle.meaning.specs.Rules.{Line, rup, pr}
use Rattle.meaning.proofs.Booleans.{t≢f, and_both}
use Rattle.paths.specs.Paths.{path_line}
use Rattle.table.specs.Nodes.{Placing, full, placed, put, place}
use Rattle.table.specs.Making.{line_reach}
use Rattle.dimacs.specs.Numbers.{Token, Closing, Literal, Wrong}
use Rattle.records.specs.declared.Rule.TheVariants.{Rup, Pr, Path}
use Rattle.records.specs.declared.Record.{Record}
use Rattle.records.specs.declared.Record.TheVariants.{NodeEntry, Witness, ProofLine, Strike, SetEntry, End, CutShort, UnknownKind}
use Rattle.records.specs.declared.Record.TheVariants.{NoRecord}
use Rattle.commands.specs.Commands.{Command, recorded, added, struck_out, wrong, finished, groups, groups_token}
use Rattle.verdict.specs.Steps.{State, Step, next, stop, spent, with_entry, entered, entry_node, assigned, with_witness, with_marks, judged}
use Rattle.verdict.specs.Steps.{live_members, diagram_in, set_diagram}
use Rattle.verdict.specs.Steps.{node_step, witness_step, line_step, strike_step, set_step, end_step, record_step}
use Rattle.verdict.specs.Clausal.{with_peak, judged_or, second_line, second_try, after_first, tries, once_made, add_step, first_same}
use Rattle.verdict.specs.Clausal.{strike_found}
use Rattle.verdict.specs.Clausal.{strike_clause}
use Rattle.verdict.specs.Check.{shut_out, step}
use Rattle.meaning.specs.Words.{in_word}
use Rattle.demands.specs.Leaving.{Handed, checked, places, EndsWith, AtEnd}
use Rattle.verdict.specs.Run.{command_in}
use Rattle.exactness.specs.Refusals.{Test, test, First, here, there, record_refusals, is_none, refusals, group_refusals}

-- ---- a table read from the top

abbrev pub chain : List Test → Step → Step
chain [] last = last
chain (t ∷ ts) last = let rest = chain ts last in cond t.holds (stop t.number t.offset) rest

abbrev NotStop : Step → Type 0
NotStop (next st) = Unit {0}
NotStop (spent number peak) = Unit {0}
NotStop (stop number offset) = ⊥

abbrev number_in : Step → ℕ
number_in (next st) = 0
number_in (spent number peak) = number
number_in (stop number offset) = number

abbrev offset_in : Step → ℕ
offset_in (next st) = 0
offset_in (spent number peak) = 0
offset_in (stop number offset) = offset

to-first : (ts : List Test) (last : Step) → NotStop last → (k o : ℕ) → chain ts last ≡ stop k o → First ts k o
to-first [] last goes k o e = absurd (subst NotStop e goes)
to-first (t ∷ ts) last goes k o e = go t.holds refl e (to-first ts last goes k o)
  where
    go : (b : Bool) → t.holds ≡ b → cond b (stop t.number t.offset) (chain ts last) ≡ stop k o →
        (chain ts last ≡ stop k o → First ts k o) → First (t ∷ ts) k o
    go true is q rec = subst (λ (x : ℕ). First (t ∷ ts) x o) (ap number_in q) (subst (First (t ∷ ts) t.number) (ap offset_in q) (here is))
    go false is q rec = there is (rec q)

from_first : (ts : List Test) (last : Step) (k o : ℕ) → First ts k o → chain ts last ≡ stop k o
from_first [] last k o x' = elim x' [ ]
from_first (t ∷ ts) last _ _ (here is) = rw is
from_first (t ∷ ts) last k o (there is F) = rw is (from_first ts last k o F)

-- ---- what comes once no refusal holds: a next state, or 23 or 19 once nodes were made

entered-goes : (st : State) (p : Placing) → NotStop (entered st p)
unfolding entered
entered-goes st (full t) = tt
entered-goes st (placed t k) = tt

cond_goes : (b : Bool) (x y : Step) → NotStop x → NotStop y → NotStop (cond b x y)
cond_goes true x y p q = p
cond_goes false x y p q = q

judged-goes : (s : ℕ) (st : State) (g : ℕ) (line : Line) → NotStop (judged s st g line)
unfolding judged
judged-goes s st g line = cond_goes (not (line_reach s st.nodes line).fits) _ _ tt (cond_goes (not line.shown) _ _ tt tt)

second-goes : (profile : Bool) (n s : ℕ) (st : State) (k : ℕ) (ls : List meaning.Literal) (peak : ℕ) →
    NotStop (after_first profile n s st k ls peak)
unfolding after_first second_try
second-goes true n s st k ls peak = tt
second-goes false n s st k [] peak = tt
second-goes false n s st k (p ∷ ls) peak = judged-goes s (with_peak st peak) k (second_line n (live_members st) p ls)

tries-goes : (profile : Bool) (n s : ℕ) (st : State) (k : ℕ) (ls : List meaning.Literal) → NotStop (tries profile n s st k ls)
unfolding tries judged_or
tries-goes profile n s st k ls =
    cond_goes (not (line_reach s st.nodes (rup n (live_members st) (meaning.clause n ls))).fits) _ _ tt
    (cond_goes (not (rup n (live_members st) (meaning.clause n ls)).shown) _ _ (second-goes profile n s st k ls _) tt)

made-goes : (profile : Bool) (n s : ℕ) (st : State) (ls : List meaning.Literal) (p : Placing)
    → NotStop (once_made st p (λ st₁ k. tries profile n s st₁ k ls))
made-goes profile n s st ls (full t) = tt
made-goes profile n s st ls (placed t k) = tries-goes profile n s (with_entry st t k) k ls

-- ---- records

module _ (n s : ℕ) (st : State) (more : Bool) where
  abbrev pub record-proceeds : Record → Step
  record-proceeds (NodeEntry b) = entered st (put s st.nodes b.variable (entry_node st b.low.0) (entry_node st b.high.0))
  record-proceeds (Witness v b) = next (with_witness st (assigned b st.positive v) (assigned (not b) st.negative v))
  record-proceeds (ProofLine Rup root) = judged s st (entry_node st root.0)
      (rup n (live_members st) (diagram_in st (entry_node st root.0)))
  record-proceeds (ProofLine Pr root) = judged s st (entry_node st root.0)
      (pr n (in_word st.positive) (in_word st.negative) (live_members st) (diagram_in st (entry_node st root.0)))
  record-proceeds (ProofLine Path root) = judged s st (entry_node st root.0)
      (path_line n (live_members st) (diagram_in st (entry_node st root.0)))
  record-proceeds (Strike k) = next (with_marks st (set st.struck k.0 1))
  record-proceeds (SetEntry kind b) = entered st (place s st.nodes (set_diagram n kind b))
  record-proceeds End = next st
  record-proceeds CutShort = next st
  record-proceeds UnknownKind = next st
  record-proceeds NoRecord = next st

  record-goes : (r : Record) → NotStop (record-proceeds r)
  record-goes (NodeEntry b) = entered-goes st _
  record-goes (Witness v b) = tt
  record-goes (ProofLine Rup root) = judged-goes s st _ _
  record-goes (ProofLine Pr root) = judged-goes s st _ _
  record-goes (ProofLine Path root) = judged-goes s st _ _
  record-goes (Strike k) = tt
  record-goes (SetEntry kind b) = entered-goes st _
  record-goes End = tt
  record-goes CutShort = tt
  record-goes UnknownKind = tt
  record-goes NoRecord = tt

  record_is : (r : Record) → record_step n s st more r ≡ chain (record_refusals n st more r) (record-proceeds r)
  unfolding record_step node_step witness_step line_step strike_step set_step end_step
  record_is (NodeEntry b) = refl
  record_is (Witness v b) = refl
  record_is (ProofLine Rup root) = refl
  record_is (ProofLine Pr root) = refl
  record_is (ProofLine Path root) = refl
  record_is (Strike k) = refl
  record_is (SetEntry kind b) = refl
  record_is End = refl
  record_is CutShort = refl
  record_is UnknownKind = refl
  record_is NoRecord = refl

-- ---- commands

module _ (profile : Bool) (n s : ℕ) (st : State) where
  abbrev pub struck-proceeds : Option ℕ → Step
  struck-proceeds none = next st
  struck-proceeds (some i) = next (with_marks st (set st.struck i 1))

  struck-goes : (x : Option ℕ) → NotStop (struck-proceeds x)
  struck-goes none = tt
  struck-goes (some i) = tt

  struck-is : (x : Option ℕ) → strike_found st x ≡ chain (test (is_none x) 28 ∷ []) (struck-proceeds x)
  struck-is none = refl
  struck-is (some i) = refl

  abbrev pub proceeds : Command → Step
  proceeds (recorded r more) = record-proceeds n s st more r
  proceeds (added ls) = once_made st (place s st.nodes (meaning.clause n ls)) (λ st₁ k. tries profile n s st₁ k ls)
  proceeds (struck_out ls) = struck-proceeds (first_same (length st.members) st 0 (meaning.clause n ls))
  proceeds (wrong number offset) = next st
  proceeds finished = next st

  proceeds-goes : (c : Command) → NotStop (proceeds c)
  proceeds-goes (recorded r more) = record-goes n s st more r
  proceeds-goes (added ls) = made-goes profile n s st ls (place s st.nodes (meaning.clause n ls))
  proceeds-goes (struck_out ls) = struck-goes (first_same (length st.members) st 0 (meaning.clause n ls))
  proceeds-goes (wrong number offset) = tt
  proceeds-goes finished = tt

  pub command-is : (c : Command) → step profile n s st c ≡ chain (refusals profile n st c) (proceeds c)
  unfolding step add_step strike_clause
  command-is (recorded r more) = ap (λ (x : Step). cond (shut_out profile r) (stop 33 0) x) (record_is n s st more r)
  command-is (added ls) = refl
  command-is (struck_out ls) = struck-is (first_same (length st.members) st 0 (meaning.clause n ls))
  command-is (wrong number offset) = refl
  command-is finished = refl

  -- "else the first refused place and its number": a command is refused before it makes a node, or ends the proof, exactly with the first
  -- of its table that holds.
  pub step-refuses : (c : Command) (k o : ℕ) → (step profile n s st c ≡ stop k o) ↔ First (refusals profile n st c) k o
  step-refuses c k o = (
    (λ e. to-first (refusals profile n st c) (proceeds c) (proceeds-goes c) k o (sym (command-is c) ∙ e)),
    (λ F. command-is c ∙ from_first (refusals profile n st c) (proceeds c) k o F),
  )

-- ---- the reader of a binary proof

abbrev wrong_by : Token → ℕ
wrong_by Closing = 0
wrong_by (Literal v b) = 0
wrong_by (Wrong number) = number

abbrev IsWrong : Token → Type 0
IsWrong Closing = ⊥
IsWrong (Literal v b) = ⊥
IsWrong (Wrong number) = Unit {0}

-- two tests, one after the other
module _ (v : ℕ) (sign : Bool) (k : ℕ) where
  two_to : (b c : Bool) → cond b (Wrong 31) (cond c (Wrong 4) (Literal v sign)) ≡ Wrong k → First (test b 31 ∷ test c 4 ∷ []) k 0
  two_to true c e = subst (λ (x : ℕ). First (test true 31 ∷ test c 4 ∷ []) x 0) (ap wrong_by e) (here refl)
  two_to false true e = subst (λ (x : ℕ). First (test false 31 ∷ test true 4 ∷ []) x 0) (ap wrong_by e) (there refl (here refl))
  two_to false false e = absurd (subst IsWrong (sym e) tt)

  two_from : (b c : Bool) (j o : ℕ) → First (test b 31 ∷ test c 4 ∷ []) j o → cond b (Wrong 31) (cond c (Wrong 4) (Literal v sign))
      ≡ Wrong j
  two_from b c _ _ (here e) = rw e
  two_from b c _ _ (there e (here f)) = rw (e, f)
  two_from b c j o (there e (there _ x15)) = elim x15 [ ]

-- A literal of an open clause is refused exactly with the first refusal of its groups' table that holds.
pub groups-refuse : (n number many last k : ℕ) → (groups_token n number many last ≡ Wrong k) ↔ First
    (group_refusals n (groups number many last)) k 0
groups-refuse n number many last k = go (eqb number 0 && eqb many 1) refl
  where
    bad : Bool
    bad = eqb last 0 || eqb number 1

    far : Bool
    far = ltb n (number / 2)

    go : (c : Bool) → (eqb number 0 && eqb many 1) ≡ c
        → (cond c Closing (cond bad (Wrong 31) (cond far (Wrong 4) (Literal (number / 2) (eqb (number % 2) 0)))) ≡ Wrong k)
        ↔ First (test (not c && bad) 31 ∷ test far 4 ∷ []) k 0
    go false is = (two_to (number / 2) (eqb (number % 2) 0) k bad far, two_from (number / 2) (eqb (number % 2) 0) k bad far k 0)
    go true is = ((λ e. absurd (subst IsWrong (sym e) tt)), closes k 0)
      where
        none : number ≡ 0
        none = eqb-true number 0 (and_both (eqb number 0) (eqb many 1) is).0

        near : far ≡ false
        near = le-ltb n (number / 2) (omega (arith, none))

        closes : (j o : ℕ) → First (test false 31 ∷ test far 4 ∷ []) j o → Closing ≡ Wrong j
        closes _ _ (here e) = t≢f (sym e)
        closes _ _ (there e (here f)) = t≢f (sym f ∙ near)
        closes j o (there e (there _ x16)) = elim x16 [ ]

-- ---- of the call

module _ (i : Handed) (E : AtEnd i (checked i)) where
  abbrev at-end : Command
  at-end = command_in i.mode i.proof E.n E.at

  -- The number and the place that the call gives are those of the first refusal of the command at which the run ends; or it made nodes
  -- first: 19 or 23.
  pub check-refusal : First (refusals i.mode.consequence E.n E.state at-end) (checked i).number E.offset
      ⊎ ((peak : ℕ) × (step i.mode.consequence E.n (places i) E.state at-end ≡ spent (checked i).number peak))
  check-refusal = go (step i.mode.consequence E.n (places i) E.state at-end) refl E.says
    where
      R : Type 0
      R = First (refusals i.mode.consequence E.n E.state at-end) (checked i).number E.offset
          ⊎ ((peak : ℕ) × (step i.mode.consequence E.n (places i) E.state at-end ≡ spent (checked i).number peak))

      go : (x : Step) → step i.mode.consequence E.n (places i) E.state at-end ≡ x → EndsWith x (checked i).number E.offset → R
      go (next st) e says = absurd says
      go (stop k o) e says =
          inl ((step-refuses i.mode.consequence E.n (places i) E.state at-end (checked i).number E.offset).0
          (e ∙ ap (λ (x : ℕ). stop x o) says.0 ∙ ap (stop (checked i).number) says.1))
      go (spent k peak) e says = inr (peak, e ∙ ap (λ (x : ℕ). spent x peak) says.0)
