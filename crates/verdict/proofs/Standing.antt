-- What holds in every state that the check reaches: the nodes are in good order and use no variable beyond the header, and each member's
-- and each entry's node has the values of what it stands for. The idea: a placing extends the nodes, and old numbers keep their
-- diagrams. Assumes nothing.
use mathlib.Core.Path.{◌≡◌, refl, ap, ◌∙◌, subst}
use mathlib.Core.Bool.{Bool, true, false}
use mathlib.Core.List.{List, [], ◌∷◌, ◌++◌}
use Prim.Native.Nat.{ℕ, zero, suc, ◌+◌, ◌≤◌, ◌<◌}
use native.Mathlib.Omega.{arith}
use lib.ListN.{length, get_or, set, take, length-append, length-set}
use borrow.Author.Tests.{ltb-true}
use Rattle.meaning.specs.Diagram.{Assignment, Diagram, value, value_from, branch}
use Rattle.meaning.specs.Reduced.{Reduced}
use Rattle.meaning.proofs.Canonical.{reduced-from, branch-reduced}
use Rattle.meaning.proofs.Values.{reduced-to, branch-at}
use Rattle.table.specs.Nodes.{Node, at, diagram_at, placed, put}
use Rattle.table.proofs.Order.{Ordered, above-true}
use Rattle.table.proofs.Numbers.{diagram_at-zero, diagram_at-one, UsesTo, uses-64, reduced-from-to}
use Rattle.table.proofs.Growth.{Extends, extends-same, extends-length, diagram_at-grown, diagram_at-dropped}
use Rattle.table.proofs.Placing.{After, place_after, put-place}
use Rattle.records.specs.declared.NodeBody.{NodeBody}
use Rattle.records.specs.declared.SetKind.{SetKind}
use Rattle.records.specs.declared.SetBody.{SetBody}
use Rattle.records.specs.declared.Rule.{Rule}
use Rattle.records.specs.declared.Record.{Record}
use Rattle.records.specs.declared.Record.TheVariants.{NodeEntry, Witness, ProofLine, Strike, SetEntry, End, CutShort, UnknownKind}
use Rattle.records.specs.declared.Record.TheVariants.{NoRecord}
use Rattle.verdict.specs.Steps.{State, numbered, is_entry, entry_node, set_diagram}
use Rattle.verdict.specs.Steps.{with_entry, with_marks}
use Rattle.verdict.specs.Taken.{Function, Meant, numbered_meant, entry_meant, node_meant, set_meant, after_record, Valued, NodeTaken}
use Rattle.verdict.specs.Taken.{WitnessTaken, LineTaken, SetTaken, Taken}
use Rattle.verdict.proofs.SetValues.{set-reduced, set-valued}
use Rattle.verdict.proofs.Uses.{UsesAfter, place-uses}

-- ---- numbers with their functions

pub valued-append : (t : List Node) (b : ℕ) (ks : List ℕ) (fs : List Function) (k : ℕ) (f : Function)
    → Valued t b ks fs → k < b → ((a : Assignment) → value (diagram_at t k) a ≡ f a) → Valued t b (ks ++ k ∷ []) (fs ++ f ∷ [])
valued-append t b [] [] k f W p e = (p, e, tt)
valued-append t b [] (g ∷ fs) k f W p e = absurd W
valued-append t b (j ∷ ks) [] k f W p e = absurd W
valued-append t b (j ∷ ks) (g ∷ fs) k f W p e = (W.0, W.1, valued-append t b ks fs k f W.2 p e)

-- numbers of other nodes that have the same diagrams
valued-along : (t t' : List Node) (b b' : ℕ) → b ≤ b' → ((k : ℕ) → k < b → diagram_at t' k ≡ diagram_at t k)
    → (ks : List ℕ) (fs : List Function) → Valued t b ks fs → Valued t' b' ks fs
valued-along t t' b b' le same [] [] W = tt
valued-along t t' b b' le same [] (f ∷ fs) W = absurd W
valued-along t t' b b' le same (k ∷ ks) [] W = absurd W
valued-along t t' b b' le same (k ∷ ks) (f ∷ fs) W =
    (omega arith, (λ a. ap (λ (D : Diagram). value D a) (same k W.0) ∙ W.1 a), valued-along t t' b b' le same ks fs W.2)

pub valued-grown : (t t' : List Node) (b b' : ℕ) → Ordered t → Extends t t' → b ≤ length t → b ≤ b'
    → (ks : List ℕ) (fs : List Function) → Valued t b ks fs → Valued t' b' ks fs
valued-grown t t' b b' O E within le = valued-along t t' b b' le (λ k p. diagram_at-grown t t' O E k (omega arith))

pub valued-dropped : (t : List Node) (b : ℕ) → Ordered t → 2 ≤ b → b ≤ length t → (ks : List ℕ) (fs : List Function) → Valued t b ks fs →
    Valued (take b t) b ks fs
valued-dropped t b O two within = valued-along t (take b t) b b (omega arith) (λ k p. diagram_at-dropped t O b two within k p)

pub valued-at : (t : List Node) (b : ℕ) (ks : List ℕ) (fs : List Function) → Valued t b ks fs → (i : ℕ) → i < length ks → (other : Function)
    → (get_or ks i 0 < b) × ((a : Assignment) → value (diagram_at t (get_or ks i 0)) a ≡ get_or fs i other a)
valued-at t b [] fs W i p other = absurd (omega arith)
valued-at t b (k ∷ ks) [] W i p other = absurd W
valued-at t b (k ∷ ks) (f ∷ fs) W zero p other = (W.0, W.1)
valued-at t b (k ∷ ks) (f ∷ fs) W (suc i) p other = valued-at t b ks fs W.2 i (omega arith) other

pub valued-length : (t : List Node) (b : ℕ) (ks : List ℕ) (fs : List Function) → Valued t b ks fs → length ks ≡ length fs
valued-length t b [] [] W = refl
valued-length t b [] (f ∷ fs) W = absurd W
valued-length t b (k ∷ ks) [] W = absurd W
valued-length t b (k ∷ ks) (f ∷ fs) W = ap suc (valued-length t b ks fs W.2)

-- ---- states

-- With n variables, a table of s places, and the functions that members and entries stand for.
pub record Standing (s n : ℕ) (m : Meant) (st : State) : Type 0 where
  pub ordered : Ordered st.nodes
  pub uses : UsesTo n st.nodes
  pub room : 2 ≤ s → length st.nodes ≤ s
  pub least : 2 ≤ st.kept
  pub kept : st.kept ≤ length st.nodes
  pub members : Valued st.nodes st.kept st.members m.members
  pub marks : length st.struck ≡ length st.members
  pub entries : Valued st.nodes (length st.nodes) st.entries m.entries
  pub few : length st.entries ≤ 4096
  pub lines : st.lines ≤ 1024
  pub many : length st.members ≤ 1024 + st.lines

module _ {s n : ℕ} {m : Meant} {st : State} (S : Standing s n m st) where
  numbered-valued : Valued st.nodes (length st.nodes) (numbered st) (numbered_meant m)
  unfolding value_from
  numbered-valued = (
    omega (arith, S.ordered.two),
    (λ a. ap (λ (D : Diagram). value D a) (diagram_at-zero st.nodes)),
    (omega (arith, S.ordered.two), (λ a. ap (λ (D : Diagram). value D a) (diagram_at-one st.nodes)), S.entries),
  )

  -- an entry's node has the entry's values
  pub entry-valued : (e : ℕ) → is_entry st e ≡ true
      → (entry_node st e < length st.nodes) × ((a : Assignment) → value (diagram_at st.nodes (entry_node st e)) a ≡ entry_meant m e a)
  unfolding is_entry entry_node entry_meant
  entry-valued e there = valued-at st.nodes (length st.nodes) (numbered st) (numbered_meant m) numbered-valued e
      (ltb-true e (length (numbered st)) there) (λ a. false)

-- ---- one entry more

-- An entry whose diagram D is placed, and has the values of f.
module _ {s n : ℕ} {m : Meant} {st : State} (S : Standing s n m st) (D : Diagram) where
  entered-standing : (f : Function) → ((a : Assignment) → value D a ≡ f a) → length st.entries < 4096
      → (t : List Node) (k : ℕ) → After s st.nodes D (placed t k) → UsesAfter n (placed t k) → (st' : State) → with_entry st t k ≡ st'
      → Standing s n (record { members = m.members; entries = m.entries ++ f ∷ [] }) st'
  entered-standing f values few t k A u st' is =
      let longer : length st.nodes ≤ length t = extends-length st.nodes t A.kept.extends in
      subst (Standing s n (record { members = m.members; entries = m.entries ++ f ∷ [] })) is (record {
        ordered = A.kept.ordered;
        uses = u;
        room = λ two. A.kept.room (S.room two);
        least = S.least;
        kept = omega (arith, S.kept);
        members = valued-grown st.nodes t st.kept st.kept S.ordered A.kept.extends S.kept (omega arith) st.members
            m.members S.members;
        marks = S.marks;
        entries = valued-append t (length t) st.entries m.entries k f
            (valued-grown st.nodes t (length st.nodes) (length t) S.ordered A.kept.extends (omega arith) longer st.entries
            m.entries S.entries)
            A.inside (λ a. ap (λ (D : Diagram). value D a) A.is ∙ values a);
        few = omega (arith, length-append st.entries (k ∷ []));
        lines = S.lines;
        many = S.many;
      })

-- ---- node records

module _ {s n : ℕ} {m : Meant} {st : State} (S : Standing s n m st) (v l h : ℕ) (low-in : l < length st.nodes)
    (high-in : h < length st.nodes)
    (least : 1 ≤ v) (over-low : 2 ≤ l → v < (at st.nodes l).var) (over-high : 2 ≤ h → v < (at st.nodes h).var) where
  abbrev pub over : Diagram
  over = branch v (diagram_at st.nodes l) (diagram_at st.nodes h)

  pub over-reduced : (w : ℕ) → UsesTo w st.nodes → v ≤ w → Reduced 1 (suc w) over
  over-reduced w uses most =
      reduced-from 1 v (suc w) over least
      (branch-reduced v (suc w) (diagram_at st.nodes l) (diagram_at st.nodes h) (omega arith)
      (reduced-from-to w st.nodes S.ordered uses l low-in (suc v) over-low)
      (reduced-from-to w st.nodes S.ordered uses h high-in (suc v) over-high))

  module _ (most : v ≤ n) (narrow : n ≤ 64) where
    put-after : After s st.nodes over (put s st.nodes v l h)
    put-after =
        rw (put-place s st.nodes S.ordered v l h low-in high-in)
        (place_after s st.nodes S.ordered over (over-reduced 64 (uses-64 st.nodes S.ordered) (omega arith)))

    put-uses : UsesAfter n (put s st.nodes v l h)
    put-uses =
        rw (put-place s st.nodes S.ordered v l h low-in high-in)
        (place-uses n s st.nodes over S.uses (over-reduced n S.uses most))

-- ---- every record

-- Steps keep what holds, and the nodes are extended.
module _ {s n : ℕ} {m : Meant} {st : State} (S : Standing s n m st) (narrow : n ≤ 64) where
  module _ (b : NodeBody) (st' : State) (T : NodeTaken n s st b st') where
    abbrev l : ℕ
    l = entry_node st b.low.0

    abbrev h : ℕ
    h = entry_node st b.high.0

    low-in : l < length st.nodes
    low-in = (entry-valued S b.low.0 T.low).0

    high-in : h < length st.nodes
    high-in = (entry-valued S b.high.0 T.high).0

    over-low : 2 ≤ l → b.variable < (at st.nodes l).var
    over-low = above-true st.nodes b.variable l T.over-low

    over-high : 2 ≤ h → b.variable < (at st.nodes h).var
    over-high = above-true st.nodes b.variable h T.over-high

    node-after : After s st.nodes (branch b.variable (diagram_at st.nodes l) (diagram_at st.nodes h))
        (placed T.nodes T.entry)
    node-after = subst (After s st.nodes _) T.room
        (put-after S b.variable l h low-in high-in T.least over-low over-high T.most narrow)

    node-standing : Standing s n (after_record m (NodeEntry b)) st'
    unfolding after_record
    node-standing =
        entered-standing S (branch b.variable (diagram_at st.nodes l) (diagram_at st.nodes h)) (node_meant m b)
        (λ a. branch-at 1 b.variable (diagram_at st.nodes l) (diagram_at st.nodes h) a
        ∙ rw ((entry-valued S b.low.0 T.low).1 a, (entry-valued S b.high.0 T.high).1 a))
        T.few T.nodes T.entry node-after
        (subst (UsesAfter n) T.room (put-uses S b.variable l h low-in high-in T.least over-low over-high T.most narrow)) st'
        T.is

    node-extends : Extends st.nodes st'.nodes
    node-extends = subst (λ (x : State). Extends st.nodes x.nodes) T.is node-after.kept.extends

  module _ (kind : SetKind) (b : SetBody) (st' : State) (T : SetTaken n s st kind b st') where
    set_after : After s st.nodes (set_diagram n kind b) (placed T.nodes T.entry)
    set_after =
        subst (After s st.nodes _) T.room
        (place_after s st.nodes S.ordered (set_diagram n kind b)
        (reduced-to 1 (suc n) 65 (set_diagram n kind b) (omega arith) (set-reduced n kind b)))

    set-standing : Standing s n (after_record m (SetEntry kind b)) st'
    unfolding after_record
    set-standing =
        entered-standing S (set_diagram n kind b) (set_meant kind b) (set-valued n kind b T.within) T.few T.nodes T.entry
        set_after
        (subst (UsesAfter n) T.room (place-uses n s st.nodes (set_diagram n kind b) S.uses (set-reduced n kind b))) st' T.is

    set-extends : Extends st.nodes st'.nodes
    set-extends = subst (λ (x : State). Extends st.nodes x.nodes) T.is set_after.kept.extends

  witness-standing : (v : ℕ) (b : Bool) (st' : State) → WitnessTaken n st v b st' → Standing s n m st'
  witness-standing v b st' T = subst (Standing s n m) T.is (record {
    ordered = S.ordered;
    uses = S.uses;
    room = S.room;
    least = S.least;
    kept = S.kept;
    members = S.members;
    marks = S.marks;
    entries = S.entries;
    few = S.few;
    lines = S.lines;
    many = S.many;
  })

  -- a striking, by number or by clause
  pub struck-standing : (k : ℕ) (st' : State) → with_marks st (set st.struck k 1) ≡ st' → Standing s n m st'
  struck-standing k st' is = subst (Standing s n m) is (record {
    ordered = S.ordered;
    uses = S.uses;
    room = S.room;
    least = S.least;
    kept = S.kept;
    members = S.members;
    marks = length-set st.struck k 1 ∙ S.marks;
    entries = S.entries;
    few = S.few;
    lines = S.lines;
    many = S.many;
  })

  line-standing : (rule : Rule) (root : ℕ) (st' : State) → LineTaken n s st rule root st'
      → Standing s n (record { members = m.members ++ entry_meant m root ∷ []; entries = [] }) st'
  line-standing rule root st' T =
      let (inside, is) = entry-valued S root T.entry in
      subst (Standing s n (record { members = m.members ++ entry_meant m root ∷ []; entries = [] })) T.is (record {
        ordered = S.ordered;
        uses = S.uses;
        room = S.room;
        least = S.ordered.two;
        kept = omega arith;
        members = valued-append st.nodes (length st.nodes) st.members m.members (entry_node st root) (entry_meant m root)
            (valued-along st.nodes st.nodes st.kept (length st.nodes) S.kept (λ k p. refl) st.members m.members
            S.members) inside is;
        marks = omega (arith, length-append st.struck (0 ∷ []), length-append st.members (entry_node st root ∷ []), S.marks);
        entries = tt;
        few = omega arith;
        lines = omega (arith, T.few);
        many = omega (arith, length-append st.members (entry_node st root ∷ []), S.many);
      })

  pub record-standing : (r : Record) (st' : State) → Taken n s st r st' → Standing s n (after_record m r) st'
  unfolding after_record
  record-standing (NodeEntry b) st' T = node-standing b st' T
  record-standing (Witness v b) st' T = witness-standing v b st' T
  record-standing (ProofLine rule root) st' T = line-standing rule root.0 st' T
  record-standing (Strike k) st' T = struck-standing k.0 st' T.is
  record-standing (SetEntry kind b) st' T = set-standing kind b st' T
  record-standing End st' T = absurd T
  record-standing CutShort st' T = absurd T
  record-standing UnknownKind st' T = absurd T
  record-standing NoRecord st' T = absurd T

  pub record-extends : (r : Record) (st' : State) → Taken n s st r st' → Extends st.nodes st'.nodes
  record-extends (NodeEntry b) st' T = node-extends b st' T
  record-extends (Witness v b) st' T = subst (λ (x : State). Extends st.nodes x.nodes) T.is (extends-same st.nodes)
  record-extends (ProofLine rule root) st' T = subst (λ (x : State). Extends st.nodes x.nodes) T.is (extends-same st.nodes)
  record-extends (Strike k) st' T = subst (λ (x : State). Extends st.nodes x.nodes) T.is (extends-same st.nodes)
  record-extends (SetEntry kind b) st' T = set-extends kind b st' T
  record-extends End st' T = absurd T
  record-extends CutShort st' T = absurd T
  record-extends UnknownKind st' T = absurd T
  record-extends NoRecord st' T = absurd T
