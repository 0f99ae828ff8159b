-- A record gives a next state exactly where it passes what 01 asks of its kind, and the number 0 exactly where it ends a refutation. The
-- idea: each test that refuses gives `stop` or `spent`, so that `next` lies behind all of them. Assumes nothing.
use mathlib.Core.Path.{◌≡◌, refl, sym, ap}
use mathlib.Core.Bool.{Bool, true, false, not, ◌&&◌, ◌||◌, cond}
use mathlib.Core.List.{List}
use Prim.Native.Nat.{ℕ, ◌^◌}
use native.Mathlib.Omega.{arith}
use lib.ListN.{length}
use lib.Dec.{eqb, leb, ltb}
use borrow.Author.Tests.{leb-true, leb-false, le-leb, lt-leb, ltb-false, le-ltb, eqb-false, ne_eqb, not-false}
use Rattle.meaning.specs.Rules.{Line, witnessed}
use Rattle.meaning.specs.Words.{in_word}
use Rattle.meaning.proofs.Booleans.{and_both, or-neither}
use Rattle.paths.specs.Paths.{path_count}
use Rattle.table.specs.Nodes.{Node, above, Placing, full, placed, put, place}
use Rattle.table.specs.Making.{line_reach}
use Rattle.records.specs.declared.NodeBody.{NodeBody}
use Rattle.records.specs.declared.Record.{Record}
use Rattle.records.specs.declared.Record.TheVariants.{NodeEntry, Witness, ProofLine, Strike, SetEntry, End, CutShort, UnknownKind}
use Rattle.records.specs.declared.Record.TheVariants.{NoRecord}
use Rattle.records.specs.declared.SetKind.{SetKind}
use Rattle.records.specs.declared.SetBody.{SetBody}
use Rattle.records.specs.declared.Rule.{Rule}
use Rattle.records.specs.declared.Rule.TheVariants.{Rup, Pr, Path}
use Rattle.records.specs.Records.{number_of}
use Rattle.verdict.specs.Steps.{State, Step, next, stop, spent, is_entry, entry_node, is_variable, entered, node_step, witness_step}
use Rattle.verdict.specs.Steps.{waiting, accepted, judged, diagram_in, line_step, is_live, strike_step, beyond, no_parity, set_diagram}
use Rattle.verdict.specs.Steps.{set_step, end_step}
use Rattle.verdict.specs.Steps.{record_step}
use Rattle.verdict.specs.Steps.{with_entry}
use Rattle.verdict.specs.Taken.{NodeTaken, WitnessTaken, line_of, peak_with, LineTaken, StrikeTaken, SetTaken, Taken}

pub stop-not-next : {A : Type 0} (number offset : ℕ) (st : State) → stop number offset ≡ next st → A
stop-not-next number offset st e = let z : ◌≡◌ {A = ℕ} 0 1 = cc in absurd (omega arith)

pub spent-not-next : {A : Type 0} (number peak : ℕ) (st : State) → spent number peak ≡ next st → A
spent-not-next number peak st e = let z : ◌≡◌ {A = ℕ} 0 1 = cc in absurd (omega arith)

module _ {st' : State} where
  -- a test that refuses was passed
  pub passed : (c : Bool) (number : ℕ) (r : Step) → cond c (stop number 0) r ≡ next st' → (c ≡ false) × (r ≡ next st')
  passed true number r e = stop-not-next number 0 st' e
  passed false number r e = (refl, e)

  -- one that asks for a fact
  pub met : (c : Bool) (number : ℕ) (r : Step) → cond (not c) (stop number 0) r ≡ next st' → (c ≡ true) × (r ≡ next st')
  met c number r e = let (p, q) = passed (not c) number r e in (not-false c p, q)

  -- one that asks for a fact once nodes were made
  pub met-late : (c : Bool) (number peak : ℕ) (r : Step) → cond (not c) (spent number peak) r ≡ next st' → (c ≡ true) × (r ≡ next st')
  met-late true number peak r e = (refl, e)
  met-late false number peak r e = spent-not-next number peak st' e

-- ---- node records

entered-taken : (st : State) (p : Placing) (st' : State) → entered st p ≡ next st' → (t : List Node) × (k : ℕ) × (p ≡ placed t k)
    × (with_entry st t k ≡ st')
unfolding entered
entered-taken st (full t) st' e = spent-not-next 23 _ st' e
entered-taken st (placed t k) st' e = (t, k, refl, cc)

node-taken : (n s : ℕ) (st : State) (b : NodeBody) (st' : State) → node_step n s st b ≡ next st' → NodeTaken n s st b st'
unfolding node_step
node-taken n s st b st' e =
    let l : ℕ = entry_node st b.low.0 in
    let h : ℕ = entry_node st b.high.0 in
    let made : Step = entered st (put s st.nodes b.variable l h) in
    let (few, e₁) = passed (leb 4096 (length st.entries)) 21 _ e in
    let (variable, e₂) = met (is_variable n b.variable) 12 _ e₁ in
    let (entries, e₃) = met (is_entry st b.low.0 && is_entry st b.high.0) 13 _ e₂ in
    let (over, e₄) = met (above st.nodes b.variable l && above st.nodes b.variable h) 14 made e₃ in
    let (least, most) = and_both (leb 1 b.variable) (leb b.variable n) variable in
    let (low, high) = and_both (is_entry st b.low.0) (is_entry st b.high.0) entries in
    let (over-low, over-high) = and_both (above st.nodes b.variable l) (above st.nodes b.variable h) over in
    let (nodes, entry, room, is) = entered-taken st (put s st.nodes b.variable l h) st' e₄ in
    record {
      few = leb-false 4096 (length st.entries) few;
      least = leb-true 1 b.variable least;
      most = leb-true b.variable n most;
      low = low;
      high = high;
      over-low = over-low;
      over-high = over-high;
      nodes = nodes;
      entry = entry;
      room = room;
      is = is;
    }

taken-node : (n s : ℕ) (st : State) (b : NodeBody) (st' : State) → NodeTaken n s st b st' → node_step n s st b ≡ next st'
unfolding node_step is_variable entered
taken-node n s st b st' T =
    rw (
      lt-leb 4096 (length st.entries) T.few,
      le-leb 1 b.variable T.least,
      le-leb b.variable n T.most,
      T.low,
      T.high,
      T.over-low,
      T.over-high,
      T.room,
    )
    (ap next T.is)

-- ---- witness records

pub witness-taken : (n : ℕ) (st : State) (v : ℕ) (b : Bool) (st' : State) → witness_step n st v b ≡ next st' → WitnessTaken n st v b st'
unfolding witness_step
witness-taken n st v b st' e =
    let (variable, e₁) = met (is_variable n v) 12 _ e in
    let (new, e₂) = passed (in_word st.positive v || in_word st.negative v) 15 _ e₁ in
    let (least, most) = and_both (leb 1 v) (leb v n) variable in
    let (positive, negative) = or-neither (in_word st.positive v) (in_word st.negative v) new in
    record {
      least = leb-true 1 v least;
      most = leb-true v n most;
      new-positive = positive;
      new-negative = negative;
      is = cc;
    }

taken-witness : (n : ℕ) (st : State) (v : ℕ) (b : Bool) (st' : State) → WitnessTaken n st v b st' → witness_step n st v b ≡ next st'
unfolding witness_step is_variable
taken-witness n st v b st' T = rw (le-leb 1 v T.least, le-leb v n T.most, T.new-positive, T.new-negative) (ap next T.is)

-- ---- lines

judged-taken : (s : ℕ) (st : State) (g : ℕ) (line : Line) (st' : State) → judged s st g line ≡ next st'
    → ((line_reach s st.nodes line).fits ≡ true) × (line.shown ≡ true) × (accepted st g line (peak_with s st line) ≡ st')
unfolding judged
judged-taken s st g line st' e =
    let (fits, e₁) = met-late (line_reach s st.nodes line).fits 23 (peak_with s st line) _ e in
    let (shown, e₂) = met-late line.shown 19 (peak_with s st line) _ e₁ in
    (fits, shown, cc)

line_taken : (n s : ℕ) (st : State) (rule : Rule) (root : ℕ) (st' : State) → line_step n s st rule root ≡ next st' →
    LineTaken n s st rule root st'
unfolding line_step
line_taken n s st Rup root st' e =
    let g : ℕ = entry_node st root in
    let (entry, e₁) = met (is_entry st root) 13 _ e in
    let (none, e₂) = passed (waiting st) 16 _ e₁ in
    let (few, e₃) = passed (leb 1024 st.lines) 22 _ e₂ in
    let (one, e₄) = passed (eqb g 1) 17 _ e₃ in
    let (fits, shown, is) = judged-taken s st g (line_of n st Rup g) st' e₄ in
    record {
      entry = entry;
      few = leb-false 1024 st.lines few;
      not-one = eqb-false g 1 one;
      witness = none;
      fits = fits;
      shown =
          shown;
      is = is;
    }
line_taken n s st Pr root st' e =
    let g : ℕ = entry_node st root in
    let (entry, e₁) = met (is_entry st root) 13 _ e in
    let (few, e₂) = passed (leb 1024 st.lines) 22 _ e₁ in
    let (one, e₃) = passed (eqb g 1) 17 _ e₂ in
    let (witness, e₄) = met (witnessed n (in_word st.positive) (in_word st.negative) (diagram_in st g)) 18 _ e₃ in
    let (fits, shown, is) = judged-taken s st g (line_of n st Pr g) st' e₄ in
    record {
      entry = entry;
      few = leb-false 1024 st.lines few;
      not-one = eqb-false g 1 one;
      witness = witness;
      fits = fits;
      shown =
          shown;
      is = is;
    }
line_taken n s st Path root st' e =
    let g : ℕ = entry_node st root in
    let (entry, e₁) = met (is_entry st root) 13 _ e in
    let (none, e₂) = passed (waiting st) 16 _ e₁ in
    let (few, e₃) = passed (leb 1024 st.lines) 22 _ e₂ in
    let (one, e₄) = passed (eqb g 1) 17 _ e₃ in
    let (paths, e₅) = passed (ltb 4096 (path_count (diagram_in st g))) 34 _ e₄ in
    let (fits, shown, is) = judged-taken s st g (line_of n st Path g) st' e₅ in
    record {
      entry = entry;
      few = leb-false 1024 st.lines few;
      not-one = eqb-false g 1 one;
      witness = (none, ltb-false 4096 (path_count (diagram_in st g)) paths);
      fits = fits;
      shown = shown;
      is = is;
    }

taken-line : (n s : ℕ) (st : State) (rule : Rule) (root : ℕ) (st' : State) → LineTaken n s st rule root st' → line_step n s st rule root
    ≡ next st'
unfolding line_step judged
taken-line n s st Rup root st' T =
    rw (T.entry, T.witness, lt-leb 1024 st.lines T.few, ne_eqb (entry_node st root) 1 T.not-one, T.fits, T.shown)
    (ap next T.is)
taken-line n s st Pr root st' T =
    rw (T.entry, lt-leb 1024 st.lines T.few, ne_eqb (entry_node st root) 1 T.not-one, T.witness, T.fits, T.shown)
    (ap next T.is)
taken-line n s st Path root st' T =
    rw (
      T.entry,
      T.witness.0,
      lt-leb 1024 st.lines T.few,
      ne_eqb (entry_node st root) 1 T.not-one,
      le-ltb 4096 (path_count (diagram_in st (entry_node st root))) T.witness.1,
      T.fits,
      T.shown,
    )
    (ap next T.is)

-- ---- strikings

strike-taken : (st : State) (k : ℕ) (st' : State) → strike_step st k ≡ next st' → StrikeTaken st k st'
unfolding strike_step
strike-taken st k st' e =
    let (none, e₁) = passed (waiting st) 16 _ e in
    let (live, e₂) = met (is_live st k) 28 _ e₁ in
    record { none-waits = none; live = live; is = cc }

taken-strike : (st : State) (k : ℕ) (st' : State) → StrikeTaken st k st' → strike_step st k ≡ next st'
unfolding strike_step
taken-strike st k st' T = rw (T.none-waits, T.live) (ap next T.is)

-- ---- entries of sets

set-taken : (n s : ℕ) (st : State) (kind : SetKind) (b : SetBody) (st' : State) → set_step n s st kind b ≡ next st' →
    SetTaken n s st kind b st'
unfolding set_step beyond
set-taken n s st kind b st' e =
    let (few, e₁) = passed (leb 4096 (length st.entries)) 21 _ e in
    let (within, e₂) = passed (leb (2 ^ n) b.set) 12 _ e₁ in
    let (byte, e₃) = passed (no_parity kind b.byte) 29 _ e₂ in
    let (nodes, entry, room, is) = entered-taken st (place s st.nodes (set_diagram n kind b)) st' e₃ in
    record {
      few = leb-false 4096 (length st.entries) few;
      within = leb-false (2 ^ n) b.set within;
      byte = byte;
      nodes = nodes;
      entry = entry;
      room = room;
      is = is;
    }

taken-set : (n s : ℕ) (st : State) (kind : SetKind) (b : SetBody) (st' : State) → SetTaken n s st kind b st' → set_step n s st kind b
    ≡ next st'
unfolding set_step beyond entered
taken-set n s st kind b st' T =
    rw (lt-leb 4096 (length st.entries) T.few, lt-leb (2 ^ n) b.set T.within, T.byte, T.room) (ap next T.is)

-- ---- the end record

end-not-next : (st : State) (more : Bool) (st' : State) {A : Type 0} → end_step st more ≡ next st' → A
unfolding end_step
end-not-next st more st' e = go (waiting st) more st.refuted e
  where
    go : (a b c : Bool) {A : Type 0} → cond a (stop 16 0) (cond b (stop 11 1) (cond c (stop 0 0) (stop 20 0))) ≡ next st' → A
    go true b c e = stop-not-next 16 0 st' e
    go false true c e = stop-not-next 11 1 st' e
    go false false true e = stop-not-next 0 0 st' e
    go false false false e = stop-not-next 20 0 st' e

-- ---- every record

-- A record gives a next state exactly where it passes what its kind asks.
pub record-taken : (n s : ℕ) (st : State) (more : Bool) (r : Record) (st' : State) → record_step n s st more r ≡ next st' →
    Taken n s st r st'
unfolding record_step
record-taken n s st more (NodeEntry b) st' e = node-taken n s st b st' e
record-taken n s st more (Witness v b) st' e = witness-taken n st v b st' e
record-taken n s st more (ProofLine rule root) st' e = line_taken n s st rule root.0 st' e
record-taken n s st more (Strike k) st' e = strike-taken st k.0 st' e
record-taken n s st more (SetEntry kind b) st' e = set-taken n s st kind b st' e
record-taken n s st more End st' e = end-not-next st more st' e
record-taken n s st more CutShort st' e = stop-not-next 10 0 st' e
record-taken n s st more UnknownKind st' e = stop-not-next 9 0 st' e
record-taken n s st more NoRecord st' e = stop-not-next 10 0 st' e

pub taken-record : (n s : ℕ) (st : State) (more : Bool) (r : Record) (st' : State) → Taken n s st r st' → record_step n s st more r
    ≡ next st'
unfolding record_step
taken-record n s st more (NodeEntry b) st' T = taken-node n s st b st' T
taken-record n s st more (Witness v b) st' T = taken-witness n st v b st' T
taken-record n s st more (ProofLine rule root) st' T = taken-line n s st rule root.0 st' T
taken-record n s st more (Strike k) st' T = taken-strike st k.0 st' T
taken-record n s st more (SetEntry kind b) st' T = taken-set n s st kind b st' T
taken-record n s st more End st' T = absurd T
taken-record n s st more CutShort st' T = absurd T
taken-record n s st more UnknownKind st' T = absurd T
taken-record n s st more NoRecord st' T = absurd T

-- A record that gives a next state is of right form.
pub next-form : (n s : ℕ) (st : State) (more : Bool) (r : Record) (st' : State) → record_step n s st more r ≡ next st' → number_of r ≡ 0
unfolding record_step
next-form n s st more (NodeEntry b) st' e = refl
next-form n s st more (Witness v b) st' e = refl
next-form n s st more (ProofLine rule root) st' e = refl
next-form n s st more (Strike k) st' e = refl
next-form n s st more (SetEntry kind b) st' e = refl
next-form n s st more End st' e = refl
next-form n s st more CutShort st' e = stop-not-next 10 0 st' e
next-form n s st more UnknownKind st' e = stop-not-next 9 0 st' e
next-form n s st more NoRecord st' e = stop-not-next 10 0 st' e

-- ---- the number 0

module _ {wanted offset : ℕ} where
  pub stop-other : {A : Type 0} (number at : ℕ) → eqb number wanted ≡ false → stop number at ≡ stop wanted offset → A
  stop-other number at other e = let z : number ≡ wanted = cc in absurd (eqb-false number wanted other z)

  next-not-stop : {A : Type 0} (st : State) → next st ≡ stop wanted offset → A
  next-not-stop st e = stop-not-next wanted offset st (sym e)

  spent-not-stop : {A : Type 0} (number peak : ℕ) → spent number peak ≡ stop wanted offset → A
  spent-not-stop number peak e = let z : ◌≡◌ {A = ℕ} 0 1 = cc in absurd (omega arith)

  -- A test that refuses with another number was passed.
  pub past : (c : Bool) (number at : ℕ) (r : Step) → eqb number wanted ≡ false → cond c (stop number at) r ≡ stop wanted offset →
      (c ≡ false) × (r ≡ stop wanted offset)
  past true number at r other e = stop-other number at other e
  past false number at r other e = (refl, e)

  past-late : (c : Bool) (number peak : ℕ) (r : Step) → cond c (spent number peak) r ≡ stop wanted offset → (c ≡ false)
      × (r ≡ stop wanted offset)
  past-late true number peak r e = spent-not-stop number peak e
  past-late false number peak r e = (refl, e)

-- The same of a refusal once nodes were made.
module _ {wanted peak : ℕ} where
  pub spent-other : {A : Type 0} (number p : ℕ) → eqb number wanted ≡ false → spent number p ≡ spent wanted peak → A
  spent-other number p other e = let z : number ≡ wanted = cc in absurd (eqb-false number wanted other z)

  pub next-not-spent : {A : Type 0} (st : State) → next st ≡ spent wanted peak → A
  next-not-spent st e = spent-not-next wanted peak st (sym e)

  pub stop-not-spent : {A : Type 0} (number at : ℕ) → stop number at ≡ spent wanted peak → A
  stop-not-spent number at e = let z : ◌≡◌ {A = ℕ} 0 1 = cc in absurd (omega arith)

  pub past-early : (c : Bool) (number at : ℕ) (r : Step) → cond c (stop number at) r ≡ spent wanted peak → (c ≡ false)
      × (r ≡ spent wanted peak)
  past-early true number at r e = stop-not-spent number at e
  past-early false number at r e = (refl, e)

module _ {offset : ℕ} where
  entered-not-zero : {A : Type 0} (st : State) (p : Placing) → entered st p ≡ stop 0 offset → A
  unfolding entered
  entered-not-zero st (full t) e = spent-not-stop 23 _ e
  entered-not-zero st (placed t k) e = next-not-stop _ e

  node-not-zero : {A : Type 0} (n s : ℕ) (st : State) (b : NodeBody) → node_step n s st b ≡ stop 0 offset → A
  unfolding node_step
  node-not-zero n s st b e =
      let l : ℕ = entry_node st b.low.0 in
      let h : ℕ = entry_node st b.high.0 in
      let (p₁, e₁) = past (leb 4096 (length st.entries)) 21 0 _ refl e in
      let (p₂, e₂) = past (not (is_variable n b.variable)) 12 0 _ refl e₁ in
      let (p₃, e₃) = past (not (is_entry st b.low.0 && is_entry st b.high.0)) 13 0 _ refl e₂ in
      let (p₄, e₄) = past (not (above st.nodes b.variable l && above st.nodes b.variable h)) 14 0 _ refl e₃ in
      entered-not-zero st (put s st.nodes b.variable l h) e₄

  witness-not-zero : {A : Type 0} (n : ℕ) (st : State) (v : ℕ) (b : Bool) → witness_step n st v b ≡ stop 0 offset → A
  unfolding witness_step
  witness-not-zero n st v b e =
      let (p₁, e₁) = past (not (is_variable n v)) 12 0 _ refl e in
      let (p₂, e₂) = past (in_word st.positive v || in_word st.negative v) 15 0 _ refl e₁ in
      next-not-stop _ e₂

  judged-not-zero : {A : Type 0} (s : ℕ) (st : State) (g : ℕ) (line : Line) → judged s st g line ≡ stop 0 offset → A
  unfolding judged
  judged-not-zero s st g line e =
      let (p₁, e₁) = past-late (not (line_reach s st.nodes line).fits) 23 (peak_with s st line) _ e in
      let (p₂, e₂) = past-late (not line.shown) 19 (peak_with s st line) _ e₁ in
      next-not-stop _ e₂

  line-not-zero : {A : Type 0} (n s : ℕ) (st : State) (rule : Rule) (root : ℕ) → line_step n s st rule root ≡ stop 0 offset → A
  unfolding line_step
  line-not-zero n s st Rup root e =
      let g : ℕ = entry_node st root in
      let (p₁, e₁) = past (not (is_entry st root)) 13 0 _ refl e in
      let (p₂, e₂) = past (waiting st) 16 0 _ refl e₁ in
      let (p₃, e₃) = past (leb 1024 st.lines) 22 0 _ refl e₂ in
      let (p₄, e₄) = past (eqb g 1) 17 0 _ refl e₃ in
      judged-not-zero s st g (line_of n st Rup g) e₄
  line-not-zero n s st Pr root e =
      let g : ℕ = entry_node st root in
      let (p₁, e₁) = past (not (is_entry st root)) 13 0 _ refl e in
      let (p₂, e₂) = past (leb 1024 st.lines) 22 0 _ refl e₁ in
      let (p₃, e₃) = past (eqb g 1) 17 0 _ refl e₂ in
      let (p₄, e₄) = past (not (witnessed n (in_word st.positive) (in_word st.negative) (diagram_in st g))) 18 0 _ refl e₃ in
      judged-not-zero s st g (line_of n st Pr g) e₄
  line-not-zero n s st Path root e =
      let g : ℕ = entry_node st root in
      let (p₁, e₁) = past (not (is_entry st root)) 13 0 _ refl e in
      let (p₂, e₂) = past (waiting st) 16 0 _ refl e₁ in
      let (p₃, e₃) = past (leb 1024 st.lines) 22 0 _ refl e₂ in
      let (p₄, e₄) = past (eqb g 1) 17 0 _ refl e₃ in
      let (p₅, e₅) = past (ltb 4096 (path_count (diagram_in st g))) 34 0 _ refl e₄ in
      judged-not-zero s st g (line_of n st Path g) e₅

  strike-not-zero : {A : Type 0} (st : State) (k : ℕ) → strike_step st k ≡ stop 0 offset → A
  unfolding strike_step
  strike-not-zero st k e =
      let (p₁, e₁) = past (waiting st) 16 0 _ refl e in
      let (p₂, e₂) = past (not (is_live st k)) 28 0 _ refl e₁ in
      next-not-stop _ e₂

  set-not-zero : {A : Type 0} (n s : ℕ) (st : State) (kind : SetKind) (b : SetBody) → set_step n s st kind b ≡ stop 0 offset → A
  unfolding set_step
  set-not-zero n s st kind b e =
      let (p₁, e₁) = past (leb 4096 (length st.entries)) 21 0 _ refl e in
      let (p₂, e₂) = past (beyond n b.set) 12 0 _ refl e₁ in
      let (p₃, e₃) = past (no_parity kind b.byte) 29 0 _ refl e₂ in
      entered-not-zero st (place s st.nodes (set_diagram n kind b)) e₃

-- The record that ends the proof with 0.
pub record EndRefutes (st : State) (more : Bool) (r : Record) (offset : ℕ) : Type 0 where
  pub end : r ≡ End
  pub none-waits : waiting st ≡ false
  pub last : more ≡ false
  pub zero-line : st.refuted ≡ true
  pub here : offset ≡ 0

end-refutes : (st : State) (more : Bool) (offset : ℕ) → end_step st more ≡ stop 0 offset → EndRefutes st more End offset
unfolding end_step
end-refutes st more offset e =
    let (none, e₁) = past (waiting st) 16 0 _ refl e in
    let (last, e₂) = past more 11 1 _ refl e₁ in
    let (zero-line, here) = go st.refuted e₂ in
    record { end = refl; none-waits = none; last = last; zero-line = zero-line; here = here }
  where
    go : (c : Bool) → cond c (stop 0 0) (stop 20 0) ≡ stop 0 offset → (c ≡ true) × (offset ≡ 0)
    go true e = (refl, cc)
    go false e = stop-other 20 0 refl e

pub record-refutes : (n s : ℕ) (st : State) (more : Bool) (r : Record) (offset : ℕ) → record_step n s st more r ≡ stop 0 offset →
    EndRefutes st more r offset
unfolding record_step
record-refutes n s st more (NodeEntry b) offset e = node-not-zero n s st b e
record-refutes n s st more (Witness v b) offset e = witness-not-zero n st v b e
record-refutes n s st more (ProofLine rule root) offset e = line-not-zero n s st rule root.0 e
record-refutes n s st more (Strike k) offset e = strike-not-zero st k.0 e
record-refutes n s st more (SetEntry kind b) offset e = set-not-zero n s st kind b e
record-refutes n s st more End offset e = end-refutes st more offset e
record-refutes n s st more CutShort offset e = stop-other 10 0 refl e
record-refutes n s st more UnknownKind offset e = stop-other 9 0 refl e
record-refutes n s st more NoRecord offset e = stop-other 10 0 refl e

pub refutes-record : (n s : ℕ) (st : State) (more : Bool) (r : Record) (offset : ℕ) → EndRefutes st more r offset →
    record_step n s st more r
    ≡ stop 0 offset
unfolding record_step end_step
refutes-record n s st more r offset F = rw (F.end, F.none-waits, F.last, F.zero-line, F.here)
