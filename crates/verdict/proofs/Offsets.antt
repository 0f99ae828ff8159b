-- A record that is refused before it makes a node is refused at its first byte, but for 11, which is given behind the end record; 28 is
-- given for strikings alone. The idea: each number stands in the definition with its place. Assumes nothing.
use Rattle.verdict.specs.Check.{shut_out}
use mathlib.Core.Path.{◌≡◌, refl}
use mathlib.Core.Bool.{Bool, true, false, not, ◌&&◌, ◌||◌, cond}
use Prim.Native.Nat.{ℕ}
use lib.ListN.{length}
use lib.Dec.{eqb, leb, ltb}
use Rattle.meaning.specs.Rules.{Line, witnessed}
use Rattle.meaning.specs.Words.{in_word}
use Rattle.paths.specs.Paths.{path_count}
use Rattle.table.specs.Nodes.{above, Placing, full, placed, put, place}
use Rattle.table.specs.Making.{line_reach}
use Rattle.records.specs.declared.MemberNo.{MemberNo}
use Rattle.records.specs.declared.Rule.{Rule}
use Rattle.records.specs.declared.Rule.TheVariants.{Rup, Pr, Path}
use Rattle.records.specs.declared.Record.{Record}
use Rattle.records.specs.declared.Record.TheVariants.{NodeEntry, Witness, ProofLine, Strike, SetEntry, End, CutShort, UnknownKind}
use Rattle.records.specs.declared.Record.TheVariants.{NoRecord}
use Rattle.verdict.specs.Steps.{State, Step, next, stop, spent, is_entry, entry_node, is_variable, entered, node_step, witness_step}
use Rattle.verdict.specs.Steps.{waiting, judged, diagram_in, line_step, is_live, strike_step, beyond, no_parity, set_diagram, set_step}
use Rattle.verdict.specs.Steps.{end_step}
use Rattle.verdict.specs.Steps.{record_step}
use Rattle.verdict.specs.Taken.{line_of}
use Rattle.verdict.proofs.Formula.{either}

-- Where a number is given, counted from the first byte of the state's record.
pub data Offset (st : State) (r : Record) (number offset : ℕ) : Type 0 where
  at-record : offset ≡ 0 → eqb number 11 ≡ false → eqb number 28 ≡ false → Offset st r number offset
  at-striking : {member : MemberNo} → offset ≡ 0 → number ≡ 28 → r ≡ Strike member → waiting st ≡ false → is_live st member.0 ≡ false →
      Offset st r number offset
  behind-end : offset ≡ 1 → number ≡ 11 → r ≡ End → Offset st r number offset

abbrev pub Placed : State → Record → Step → Type 0
Placed st r (next st') = Unit {0}
Placed st r (stop number offset) = Offset st r number offset
Placed st r (spent number peak) = Unit {0}

module _ (st : State) (r : Record) where
  refuses : (c : Bool) (number : ℕ) (x : Step) → eqb number 11 ≡ false → eqb number 28 ≡ false → Placed st r x →
      Placed st r (cond c (stop number 0) x)
  refuses c number x other another q = either (Placed st r) c (stop number 0) x (at-record refl other another) q

  entered-placed : (p : Placing) → Placed st r (entered st p)
  unfolding entered
  entered-placed (full t) = tt
  entered-placed (placed t k) = tt

  judged-placed : (s g : ℕ) (line : Line) → Placed st r (judged s st g line)
  unfolding judged
  judged-placed s g line = either (Placed st r) (not (line_reach s st.nodes line).fits) _ _ tt
      (either (Placed st r) (not line.shown) _ _ tt tt)

  line-placed : (n s : ℕ) (rule : Rule) (root : ℕ) → Placed st r (line_step n s st rule root)
  unfolding line_step
  line-placed n s Rup root =
      let g : ℕ = entry_node st root in
      refuses (not (is_entry st root)) _ _ refl refl
      (refuses (waiting st) _ _ refl refl (refuses (leb 1024 st.lines) _ _ refl refl
      (refuses (eqb g 1) _ _ refl refl (judged-placed s g (line_of n st Rup g)))))
  line-placed n s Pr root =
      let g : ℕ = entry_node st root in
      refuses (not (is_entry st root)) _ _ refl refl
      (refuses (leb 1024 st.lines) _ _ refl refl
      (refuses (eqb g 1) _ _ refl refl
      (refuses (not (witnessed n (in_word st.positive) (in_word st.negative) (diagram_in st g))) _ _ refl refl
      (judged-placed s g (line_of n st Pr g)))))
  line-placed n s Path root =
      let g : ℕ = entry_node st root in
      refuses (not (is_entry st root)) _ _ refl refl
      (refuses (waiting st) _ _ refl refl
      (refuses (leb 1024 st.lines) _ _ refl refl
      (refuses (eqb g 1) _ _ refl refl (refuses (ltb 4096 (path_count (diagram_in st g))) _ _ refl refl
      (judged-placed s g (line_of n st Path g))))))

strike-placed : (st : State) (k : MemberNo) → Placed st (Strike k) (strike_step st k.0)
unfolding strike_step
strike-placed st k = go (waiting st) (is_live st k.0) refl refl _ tt
  where
    go : (waits live : Bool) → waiting st ≡ waits → is_live st k.0 ≡ live → (x : Step) → Placed st (Strike k) x
        → Placed st (Strike k) (cond waits (stop 16 0) (cond (not live) (stop 28 0) x))
    go true live w l x q = at-record refl refl refl
    go false true w l x q = q
    go false false w l x q = at-striking refl refl refl w l

pub record-placed : (n s : ℕ) (st : State) (more : Bool) (r : Record) → Placed st r (record_step n s st more r)
unfolding record_step node_step witness_step set_step end_step
record-placed n s st more (NodeEntry b) =
    let l : ℕ = entry_node st b.low.0 in
    let h : ℕ = entry_node st b.high.0 in
    refuses st _ (leb 4096 (length st.entries)) _ _ refl refl
    (refuses st _ (not (is_variable n b.variable)) _ _ refl refl
    (refuses st _ (not (is_entry st b.low.0 && is_entry st b.high.0)) _ _ refl refl
    (refuses st _ (not (above st.nodes b.variable l && above st.nodes b.variable h)) _ _ refl refl
    (entered-placed st _ (put s st.nodes b.variable l h)))))
record-placed n s st more (Witness v b) =
    refuses st _ (not (is_variable n v)) _ _ refl refl (refuses st _ (in_word st.positive v || in_word st.negative v) _ _ refl refl tt)
record-placed n s st more (ProofLine rule root) = line-placed st _ n s rule root.0
record-placed n s st more (Strike k) = strike-placed st k
record-placed n s st more (SetEntry kind b) =
    refuses st _ (leb 4096 (length st.entries)) _ _ refl refl
    (refuses st _ (beyond n b.set) _ _ refl refl
    (refuses st _ (no_parity kind b.byte) _ _ refl refl (entered-placed st _ (place s st.nodes (set_diagram n kind b)))))
record-placed n s st more End =
    refuses st End (waiting st) _ _ refl refl
    (either (Placed st End) more (stop 11 1) _ (behind-end refl refl refl)
    (refuses st End st.refuted _ _ refl refl (at-record refl refl refl)))
record-placed n s st more CutShort = at-record refl refl refl
record-placed n s st more UnknownKind = at-record refl refl refl
record-placed n s st more NoRecord = at-record refl refl refl

-- the same where the profile shuts the record out
pub shut-placed : (profile : Bool) (n s : ℕ) (st : State) (more : Bool) (r : Record) →
    Placed st r (cond (shut_out profile r) (stop 33 0) (record_step n s st more r))
shut-placed profile n s st more r = refuses st r (shut_out profile r) _ _ refl refl (record-placed n s st more r)
