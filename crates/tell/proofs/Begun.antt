-- What the check leaves, as the line in which it was refused began: the lists lent hold that state, and the line's records done again
-- over them give the state before the refused record, but for marks, counts and peak. Assumes nothing.
use mathlib.Core.Path.{◌≡◌, refl, sym, ap, ap₂, ◌∙◌, subst}
use mathlib.Core.Bool.{Bool, false}
use mathlib.Core.List.{List, [], ◌∷◌, ◌++◌}
use Prim.Native.Nat.{ℕ, zero, suc, ◌+◌, ◌-◌, ◌≤◌, ◌<◌}
use native.Mathlib.Omega.{arith}
use lib.ListN.{length, get_or, take, length-replicate, length-append}
use lib.Seq.{length-take-le, get_or-take, take-append_seam}
use Rattle.table.specs.Nodes.{Node, at, blank}
use Rattle.table.specs.Columns.{Columns, columns_made, stored_as}
use Rattle.table.specs.Indexed.{table_of, nodes_of, indexed, Good}
use Rattle.table.specs.Lists.{Inside}
use Rattle.table.proofs.Order.{Ordered}
use Rattle.table.proofs.Growth.{ordered-dropped}
use Rattle.table.proofs.Written.{nodes-indexed, good-indexed}
use Rattle.table.proofs.InOrder.{left-stored}
use Rattle.table.proofs.Zeros.{zeros-at}
use Rattle.records.specs.declared.Record.{Record}
use Rattle.records.specs.declared.Record.TheVariants.{NodeEntry, Witness, ProofLine, Strike, SetEntry, End, CutShort, UnknownKind}
use Rattle.records.specs.declared.Record.TheVariants.{NoRecord}
use Rattle.records.specs.Records.{record_at, length_of}
use Rattle.commands.specs.declared.Form.TheVariants.{Records}
use Rattle.commands.specs.Commands.{in_form}
use Rattle.verdict.specs.Steps as check
use Rattle.verdict.specs.Check.{zeros}
use Rattle.verdict.specs.Taken.{Function, Meant, Valued}
use Rattle.verdict.specs.Run.{Reached}
use Rattle.verdict.proofs.Standing.{Standing}
use Rattle.verdict.proofs.Ends.{reached-standing}
use Rattle.state.specs.declared.State.{State}
use Rattle.state.specs.States.{Lent, table_in, state_of, Held}
use Rattle.why.specs.Again.{Rest, on_line, as_begun, Redo, Retaken, done, then, line_start, Walk, again}
use Rattle.why.proofs.Again.{so_far, retaken-again}
use Rattle.remake.specs.Remade.{Remakes}
use Rattle.tell.specs.Begun.{line_state, line_rest}

-- zeros behind a list
behind : (xs : List ℕ) (k i : ℕ) → length xs ≤ i → ◌≡◌ {A = ℕ} (get_or (xs ++ zeros k) i 0) 0
behind [] k i h = zeros-at k i
behind (x ∷ xs) k zero h = absurd (omega (arith, h))
behind (x ∷ xs) k (suc i) h = behind xs k i (omega (arith, h))

valued-inside : (t : List Node) (b : ℕ) (ks : List ℕ) (fs : List Function) → Valued t b ks fs → Inside b ks
valued-inside t b [] [] W i p = absurd (omega arith)
valued-inside t b [] (f ∷ fs) W i p = absurd W
valued-inside t b (k ∷ ks) [] W i p = absurd W
valued-inside t b (k ∷ ks) (f ∷ fs) W zero p = W.0
valued-inside t b (k ∷ ks) (f ∷ fs) W (suc i) p = valued-inside t b ks fs W.2 i (omega (arith, p))

-- The lists as the check leaves them of the state st: session's equation, list by list.
pub record LeftOf (s m c : ℕ) (st : check.State) (l : Lent) : Type 0 where
  pub columns : columns_made l.vars l.lows l.highs l.heads l.links ≡ stored_as s (take st.kept st.nodes)
  pub members : l.members ≡ st.members ++ zeros (m - length st.members)
  pub struck : l.struck ≡ st.struck ++ zeros (m - length st.struck)
  pub scratch : l.scratch ≡ zeros c

module _ (s m c : ℕ) (two : 2 ≤ s) (most : s ≤ 65536) (wide : 2048 ≤ m) (long : 4096 ≤ c) (n : ℕ) (narrow : n ≤ 64) (st : check.State)
    (meant : Meant) (S : Standing s n meant st)
    (l : Lent) (L : LeftOf s m c st l) where
  abbrev nodes : List Node
  nodes = take st.kept st.nodes

  abbrev count : ℕ
  count = st.kept

  abbrev many : ℕ
  many = length st.members

  abbrev first : State
  first = line_state count many st.lines

  counted : length nodes ≡ count
  counted = length-take-le st.kept st.nodes S.kept

  room : length nodes ≤ s
  room = omega (arith, counted, S.kept, S.room two)

  in_order : Ordered nodes
  in_order = ordered-dropped st.nodes S.ordered st.kept S.least S.kept

  table_is : table_in l count ≡ indexed s nodes
  unfolding indexed
  table_is =
      ap₂ (λ (d : Columns) (k : ℕ). table_of d.vars d.lows d.highs d.heads d.links k)
      (L.columns ∙ sym (left-stored s nodes (omega (arith, counted, S.least)) room)) (sym counted)

  nodes-are : nodes_of (table_in l count) ≡ nodes
  nodes-are = ap nodes_of table_is ∙ nodes-indexed s nodes

  members-are : take many l.members ≡ st.members
  members-are = ap (take many) L.members ∙ take-append_seam st.members (zeros (m - many))

  few : many ≤ m
  few = omega (arith, S.many, S.lines, wide)

  members-long : length l.members ≡ m
  members-long = ap length L.members ∙ length-append st.members (zeros (m - many))
      ∙ ap (λ (k : ℕ). many + k) (length-replicate (m - many) 0) ∙ omega (arith, few)

  struck-long : length l.struck ≡ m
  struck-long =
      ap length L.struck ∙ length-append st.struck (zeros (m - length st.struck))
      ∙ ap (λ (k : ℕ). length st.struck + k) (length-replicate (m - length st.struck) 0) ∙ omega (arith, few, S.marks)

  struck-are : take many l.struck ≡ st.struck
  struck-are =
      ap (λ (k : ℕ). take k l.struck) (sym S.marks) ∙ ap (take (length st.struck)) L.struck
      ∙ take-append_seam st.struck (zeros (m - length st.struck))

  -- The lists hold the state as its line began.
  pub begun-held : Held n l first
  begun-held = record {
    entries = record {
      good = subst Good (sym table_is) (good-indexed s nodes in_order room most);
      uses = λ k a b.
          let inside : k < st.kept = omega (arith, ap length nodes-are, counted, b) in
          rw (nodes-are, get_or-take st.kept st.nodes k blank inside) (S.uses k a (omega (arith, inside, S.kept)));
      inside = λ i p. absurd (omega arith);
      few = omega arith;
      room = omega (arith, ap length L.scratch ∙ length-replicate c 0, long);
      narrow = narrow;
    };
    least = S.least;
    kept = omega arith;
    inside = subst (Inside count) (sym members-are) (valued-inside st.nodes st.kept st.members meant.members S.members);
    rest = λ i p. ap (λ (xs : List ℕ). get_or xs i 0) L.members ∙ behind st.members (m - many) i p;
    many = S.many;
    lines = S.lines;
    room = omega (arith, members-long, wide);
    marked = struck-long ∙ sym members-long;
    unmarked = λ i p. ap (λ (xs : List ℕ). get_or xs i 0) L.struck ∙ behind st.struck (m - length st.struck) i
        (omega (arith, S.marks, p));
    rounds = omega arith;
  }

  pub begun-is : state_of l first ≡ on_line (line_rest l count many st.lines) (as_begun st)
  begun-is = ap₂ made nodes-are members-are
    where
      made : List Node → List ℕ → check.State
      made t ms = record {
        nodes = t;
        kept = count;
        members = ms;
        struck = take many l.struck;
        entries = [];
        positive = 0;
        negative = 0;
        lines = st.lines;
        rounds = 0;
        peak = count;
        refuted = false;
      }

-- ---- marks

-- Records done again leave the marks as they are.
redo-marks : (n s : ℕ) (st : check.State) (r : Record) (st' : check.State) → Redo n s st r st' → st'.struck ≡ st.struck
redo-marks n s st (NodeEntry b) st' T = sym (ap (λ (x : check.State). x.struck) T.is)
redo-marks n s st (Witness v b) st' T = sym (ap (λ (x : check.State). x.struck) T.is)
redo-marks n s st (SetEntry kind b) st' T = sym (ap (λ (x : check.State). x.struck) T.is)
redo-marks n s st (Strike k) st' T = sym (ap (λ (x : check.State). x.struck) T)
redo-marks n s st (ProofLine rule root) st' T = absurd T
redo-marks n s st End st' T = absurd T
redo-marks n s st CutShort st' T = absurd T
redo-marks n s st UnknownKind st' T = absurd T
redo-marks n s st NoRecord st' T = absurd T

retaken-marks : (n s : ℕ) (proof : List ℕ) (st : check.State) (at : ℕ) (st' : check.State) (to : ℕ) → Retaken n s proof st at st' to →
    st'.struck ≡ st.struck
retaken-marks n s proof st at _ _ done = refl
retaken-marks n s proof st at st' to (then {st₁ = x} form F W) =
    retaken-marks n s proof x (at + length_of (record_at proof at)) st' to W ∙ redo-marks n s st (record_at proof at) x F

-- ---- the line done again

-- The state st but for lines, rounds, peak and `refuted`.
pub record SameLine (st x : check.State) : Type 0 where
  pub nodes : x.nodes ≡ st.nodes
  pub kept : x.kept ≡ st.kept
  pub members : x.members ≡ st.members
  pub struck : x.struck ≡ st.struck
  pub entries : x.entries ≡ st.entries
  pub positive : x.positive ≡ st.positive
  pub negative : x.negative ≡ st.negative

module _ (s m c : ℕ) (two : 2 ≤ s) (most : s ≤ 65536) (wide : 2048 ≤ m) (long : 4096 ≤ c) (profile : Bool)
    (text proof : List ℕ) {n : ℕ} {st : check.State} {at : ℕ} {meant : Meant}
    (R : Reached (in_form Records profile) s text proof n st at meant) (l : Lent) (L : LeftOf s m c st l) where
  abbrev from : ℕ
  from = (so_far profile s text proof R).from

  pub start_is : line_start at proof 0 0 at ≡ from
  start_is = (so_far profile s text proof R).starts at (omega arith)

  pub start-walks : Walk proof 0 at
  start-walks = (so_far profile s text proof R).walked

  abbrev begun_one : State
  begun_one = line_state st.kept (length st.members) st.lines

  retaken : (o : Rest) × Retaken n s proof (state_of l begun_one) from (on_line o st) at
  retaken =
      let (narrow, S) = reached-standing (in_form Records profile) s text proof R in
      let (o, W) = (so_far profile s text proof R).redone (line_rest l st.kept (length st.members) st.lines) in (
        o,
        subst (λ (x : check.State). Retaken n s proof x from (on_line o st) at)
            (sym (begun-is s m c two most wide long n narrow st meant S l L)) W,
      )

  pub remakes : Remakes n s proof (state_of l begun_one) from at
  remakes = record { last = on_line retaken.0 st; taken = retaken.1 }

  marks-same : (on_line retaken.0 st).struck ≡ st.struck
  marks-same =
      let (narrow, W) = reached-standing (in_form Records profile) s text proof R in
      retaken-marks n s proof (state_of l begun_one) from (on_line retaken.0 st) at retaken.1
      ∙ struck-are s m c two most wide long n narrow st meant W l L

  pub remade-same : SameLine st (again at n s proof (state_of l begun_one) from at)
  remade-same =
      let is = retaken-again n s proof at (state_of l begun_one) from (on_line retaken.0 st) at retaken.1 (omega arith) in
      subst (SameLine st) (sym is) (record {
        nodes = refl;
        kept = refl;
        members = refl;
        struck = marks-same;
        entries = refl;
        positive =
            refl;
        negative = refl;
      })
