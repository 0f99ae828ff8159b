-- What is left at the end: the emptied lists of a refused formula, and the table with only the nodes that stay of a proof that was
-- judged, are the definition's outcome. The idea: a table that is written out has its nodes' columns. Assumes nothing.
use mathlib.Core.Path.{◌≡◌, refl, sym, ap, ap₂, ◌∙◌, subst}
use mathlib.Core.Bool.{Bool, true, false, ◌&&◌}
use mathlib.Core.List.{List, [], ◌++◌}
use Prim.Native.Nat.{ℕ, ◌+◌, ◌-◌, ◌*◌, ◌≤◌}
use native.Mathlib.Omega.{arith}
use lib.ListN.{length, get_or, take, drop, length-replicate, length-drop, take-append-drop}
use lib.Seq.{length-take-le, get_or-take, get_or-drop, ext_get_or}
use lib.Dec.{eqb, leb}
use borrow.Author.Tests.{leb-true, eqb-true}
use Rattle.table.specs.Nodes.{Node}
use Rattle.table.specs.Columns.{size_fits, Columns, columns_made, stored_as}
use Rattle.table.specs.Indexed.{Table, table_of, lists_of, size, nodes_of, indexed}
use Rattle.meaning.proofs.Booleans.{and_both}
use Rattle.table.proofs.Written.{count-indexed, length-nodes}
use Rattle.table.proofs.Sizes.{Sized, sized}
use Rattle.table.proofs.InOrder.{left-stored}
use Rattle.table.proofs.Emptied.{table-emptied, stored-emptied}
use Rattle.dimacs.specs.Header.{Proper, Improper, header}
use Rattle.dimacs.specs.Clauses.{clauses_from}
use Rattle.dimacs.proofs.Bounds.{HeaderIn, header-in}
use Rattle.commands.specs.declared.Mode.{Mode}
use Rattle.words.specs.Sets.{no_literals}
use Rattle.verdict.specs.Steps as check
use Rattle.verdict.specs.Steps.{emptied, begun}
use Rattle.verdict.specs.Check.{zeros, Verdict, left, proof_from, refused_formula, clauses, verdict, CheckOutcome, lent_fits, outcome}
use Rattle.state.specs.declared.State.{State}
use Rattle.state.specs.States.{Lent, table_in, state_of, Held}
use Rattle.session.specs.declared.Checked.{Checked}
use Rattle.session.specs.Checked.{check_outcome}
use Rattle.formula.specs.declared.Start.{Start}
use Rattle.formula.specs.declared.Start.TheVariants.{Begun, Refused}
use Rattle.formula.specs.Formula.{Opened, said_from, Built}
use Rattle.replay.specs.Ends.{Ends}
use Rattle.table.proofs.Zeros.{part-zeros, zeros-at}

-- ---- an outcome from its parts

abbrev pub answer : ℕ → Bool → ℕ → ℕ → ℕ → ℕ → ℕ → Checked
answer number in_proof place lines rounds count peak = record
    { number = number; in_proof = in_proof; place = place; lines = lines; rounds = rounds; count = count; peak = peak }

outcome-is : (s m c number : ℕ) (in_proof : Bool) (place lines rounds count peak : ℕ) (d : Columns) (ms ss : List ℕ) (t : List Node)
    (ks ps : List ℕ)
    → count ≡ length t → d ≡ stored_as s t → ms ≡ ks ++ zeros (m - length ks) → ss ≡ ps ++ zeros (m - length ps)
    → check_outcome d ms ss (zeros c) (answer number in_proof place lines rounds count peak)
    ≡ outcome s m c (record {
      number = number;
      in_proof = in_proof;
      place = place;
      lines = lines;
      rounds = rounds;
      peak = peak;
      nodes =
          t;
      members = ks;
      struck = ps;
    })
unfolding outcome
outcome-is s m c number in_proof place lines rounds count peak d ms ss t ks ps e f g h =
    ap₂ (λ (k : ℕ) (d : Columns). made k d ms ss) e f ∙ ap₂ (made (length t) (stored_as s t)) g h
  where
    made : ℕ → Columns → List ℕ → List ℕ → CheckOutcome
    made k d xs ys = record {
      number = number;
      in_proof = in_proof;
      place = place;
      lines = lines;
      rounds = rounds;
      count = k;
      peak = peak;
      columns = d;
      members = xs;
      struck = ys;
      scratch = zeros c;
    }

-- a table written out
written-lists : (T : Table) (s : ℕ) (t : List Node) → T ≡ indexed s t → 2 ≤ length t → length t ≤ s → lists_of T ≡ stored_as s t
written-lists T s t e two room = ap lists_of e ∙ left-stored s t two room

-- ---- a refused formula

no-members : (m : ℕ) → zeros m ≡ [] ++ zeros (m - 0)
no-members m = let e : m ≡ m - 0 = omega arith in ap zeros e

-- the lists once they are emptied again
module _ (s : ℕ) (two : 2 ≤ s) (vs ls hs ds ks : List ℕ) (a : vs ≡ zeros s) (b : ls ≡ zeros s) (d : hs ≡ zeros s) (e : ds ≡ zeros (2 * s))
    (f : ks ≡ zeros s) where
  emptied-lists : columns_made vs ls hs ds ks ≡ stored_as s emptied
  emptied-lists =
      ap₂ (λ (x y : List ℕ). columns_made x y hs ds ks) a b ∙ ap₂ (λ (x y : List ℕ). columns_made (zeros s) (zeros s) x y ks) d e
      ∙ ap (columns_made (zeros s) (zeros s) (zeros s) (zeros (2 * s))) f ∙ sym (stored-emptied s two)

  emptied-table : table_of vs ls hs ds ks 2 ≡ indexed s emptied
  emptied-table =
      ap₂ (λ (x y : List ℕ). table_of x y hs ds ks 2) a b ∙ ap₂ (λ (x y : List ℕ). table_of (zeros s) (zeros s) x y ks 2) d e
      ∙ ap (λ (x : List ℕ). table_of (zeros s) (zeros s) (zeros s) (zeros (2 * s)) x 2) f ∙ table-emptied s two

  pub refused-is : (m c number place peak : ℕ) (ms ss : List ℕ) → ms ≡ zeros m → ss ≡ zeros m
      → check_outcome (columns_made vs ls hs ds ks) ms ss (zeros c) (answer number false place 0 0 2 peak)
      ≡ outcome s m c (refused_formula number place peak)
  refused-is m c number place peak ms ss g h =
      outcome-is s m c number false place 0 0 2 peak (columns_made vs ls hs ds ks) ms ss emptied [] [] refl emptied-lists (g ∙ no-members m)
      (h ∙ no-members m)

-- the lists as they were opened
pub unopened-is : (T : Table) (members struck : List ℕ) → Opened T members → struck ≡ zeros (length members) → (c number place : ℕ)
    → check_outcome (lists_of T) members struck (zeros c) (answer number false place 0 0 2 2)
    ≡ outcome (size T) (length members) c (refused_formula number place 2)
unopened-is T members struck O none c number place =
    outcome-is (size T) (length members) c number false place 0 0 2 2 (lists_of T) members struck emptied [] [] refl
    (written-lists T (size T) emptied O.written (omega arith) O.least) (O.none ∙ no-members (length members))
    (none ∙ no-members (length members))

-- ---- the proof

rest-zeros : (ms : List ℕ) (k : ℕ) → k ≤ length ms → ((i : ℕ) → k ≤ i → ◌≡◌ {A = ℕ} (get_or ms i 0) 0)
    → ms ≡ take k ms ++ zeros (length ms - length (take k ms))
rest-zeros ms k within rest =
    let len : length (take k ms) ≡ k = length-take-le k ms within in
    sym (take-append-drop k ms) ∙ ap (λ (xs : List ℕ). take k ms ++ xs)
    (ext_get_or 0 (drop k ms) (zeros (length ms - length (take k ms)))
    (length-drop k ms ∙ ap (λ (j : ℕ). length ms - j) (sym len) ∙ sym (length-replicate (length ms - length (take k ms)) 0))
    (λ i p. get_or-drop k ms i 0 ∙ rest (k + i) (omega arith) ∙ sym (zeros-at (length ms - length (take k ms)) i)))

-- the table once the nodes that do not stay are dropped
pub judged-is : (l : Lent) (st : State) → Ends l st → (T : Table) → T.count ≡ st.kept
    → T ≡ indexed (length l.vars) (take st.kept (nodes_of (table_in l st.count))) → (s m : ℕ) → length l.vars ≡ s →
    length l.members ≡ m
    → (c number place peak : ℕ) (whole : Verdict) → whole ≡ left number place peak (state_of l st)
    → check_outcome (lists_of T) l.members l.struck (zeros c) (answer number true place st.lines st.rounds st.kept peak)
    ≡ outcome s m c whole
judged-is l st E T count e s m same same' c number place peak whole v =
    let t : List Node = take st.kept (nodes_of (table_in l st.count)) in
    let marks : List ℕ = take st.members l.struck in
    let many : st.kept ≡ length t = sym count ∙ ap (λ (u : Table). u.count) e ∙ count-indexed (length l.vars) t in
    outcome-is (length l.vars) (length l.members) c number true place st.lines st.rounds st.kept peak (lists_of T)
    l.members l.struck t (take st.members l.members) marks
    many (written-lists T (length l.vars) t e (omega (arith, E.least)) (omega (arith, E.kept, E.good.within)))
    (rest-zeros l.members st.members E.room E.rest)
    (subst (λ (k : ℕ). l.struck ≡ marks ++ zeros (k - length marks)) E.marked
    (rest-zeros l.struck st.members (omega (arith, E.room, E.marked)) E.unmarked))
    ∙ ap₂ (λ (a b : ℕ). outcome a b c (left number place peak (state_of l st))) same same' ∙ ap (outcome s m c) (sym v)

-- the state before the first command
abbrev pub first_of : ℕ → ℕ → State
first_of count made = record {
  count = count;
  kept = count;
  members = made;
  entries = 0;
  witness = no_literals;
  lines = 0;
  rounds = 0;
  peak = count;
  refuted = false;
}

module _ (n : ℕ) (l : Lent) (count made : ℕ) (B : Built n (table_in l count) l.members made) (room : 2048 ≤ length l.members)
    (none : l.struck ≡ zeros (length l.members)) where
  few : made ≤ length l.members
  few = omega (arith, B.few, room)

  first_marks : take made l.struck ≡ zeros (length (take made l.members))
  first_marks =
      ap (take made) none
      ∙ part-zeros made (length l.members) few
      ∙ ap zeros (sym (length-take-le made l.members few))

  pub first-is : state_of l (first_of count made) ≡ begun (nodes_of (table_in l count)) (take made l.members)
  first-is = ap₂ with (sym (length-nodes (table_in l count) B.good)) first_marks
    where
      with : ℕ → List ℕ → check.State
      with k marks = record {
        nodes = nodes_of (table_in l count);
        kept = k;
        members = take made l.members;
        struck = marks;
        entries = [];
        positive = 0;
        negative = 0;
        lines = 0;
        rounds = 0;
        peak = k;
        refuted = false;
      }

  pub first-held : n ≤ 64 → 4096 ≤ length l.scratch → Held n l (first_of count made)
  first-held narrow scratch =
      let len : length (take made l.members) ≡ made = length-take-le made l.members few in
      record {
        entries = record {
          good = B.good;
          uses = B.uses;
          inside = λ i p. absurd (omega arith);
          few = omega arith;
          room = scratch;
          narrow =
              narrow;
        };
        least = B.good.least;
        kept = omega arith;
        inside = λ i p. rw (get_or-take made l.members i 0 (omega arith)) (B.inside i (omega arith));
        rest = B.rest;
        many = omega (arith, B.few);
        lines = omega arith;
        room = room;
        marked = ap length none ∙ length-replicate (length l.members) 0;
        unmarked = λ i p. ap (λ (xs : List ℕ). get_or xs i 0) none ∙ zeros-at (length l.members) i;
        rounds = omega arith;
      }

-- ---- the formula

module _ (mode : Mode) (s : ℕ) (formula proof : List ℕ) where
  pub verdict-proper : (n wanted from : ℕ) → header formula ≡ Proper n wanted from → verdict mode s formula proof
      ≡ clauses mode n s proof emptied [] (clauses_from formula n wanted from)
  unfolding verdict
  verdict-proper n wanted from e = rw e

  pub verdict-improper : (number place : ℕ) → header formula ≡ Improper number place → verdict mode s formula proof
      ≡ refused_formula number place 2
  unfolding verdict
  verdict-improper number place e = rw e

pub header-bounds : (formula : List ℕ) (n wanted from : ℕ) → header formula ≡ Proper n wanted from → (n ≤ 64) × (wanted ≤ 1024)
    × (from ≤ length formula)
header-bounds formula n wanted from e = subst (HeaderIn formula) e (header-in formula)

-- what the clauses come to, by how the formula was read
module _ (mode : Mode) (n : ℕ) (proof vs ls hs ds ks ms : List ℕ) (s m c : ℕ) (whole : Verdict) (r : Start)
    (w : whole ≡ said_from mode n proof vs ls hs ds ks ms r) where
  pub begun-is : (count made : ℕ) → r ≡ Begun count made → length vs ≡ s → length ms ≡ m
      → outcome (length vs) (length ms) c (proof_from mode n (length vs) proof
      (begun (nodes_of (table_of vs ls hs ds ks count)) (take made ms))) ≡ outcome s m c whole
  begun-is count made e same same' =
      ap₂ (λ (a b : ℕ). outcome a b c (said_from mode n proof vs ls hs ds ks ms (Begun count made))) same same'
      ∙ ap (outcome s m c) (sym (w ∙ ap (said_from mode n proof vs ls hs ds ks ms) e))

  pub unbegun-is : (number place peak : ℕ) → r ≡ Refused number place peak → outcome s m c (refused_formula number place peak)
      ≡ outcome s m c whole
  unbegun-is number place peak e = ap (outcome s m c) (sym (w ∙ ap (said_from mode n proof vs ls hs ds ks ms) e))

-- ---- the lists lent

pub record LentSized (c : Columns) (members struck scratch : List ℕ) : Type 0 where
  pub columns : Sized c.vars c.lows c.highs c.heads c.links
  pub member-room : 2048 ≤ length members
  pub marks : length struck ≡ length members
  pub scratch-room : 4096 ≤ length scratch

pub lent-sized : (c : Columns) (members struck scratch : List ℕ) → lent_fits c members struck scratch ≡ true →
    LentSized c members struck scratch
unfolding lent_fits
lent-sized c members struck scratch e =
    let (columns, lists) = and_both (size_fits c.vars c.lows c.highs c.heads c.links)
    (leb 2048 (length members) && (eqb (length struck) (length members) && leb 4096 (length scratch))) e in
    let (m, rest) = and_both (leb 2048 (length members)) (eqb (length struck) (length members) && leb 4096 (length scratch)) lists in
    let (k, last) = and_both (eqb (length struck) (length members)) (leb 4096 (length scratch)) rest in
    record {
      columns = sized c.vars c.lows c.highs c.heads c.links columns;
      member-room = leb-true 2048 (length members) m;
      marks = eqb-true (length struck) (length members) k;
      scratch-room = leb-true 4096 (length scratch) last;
    }

-- columns, index and member list once they are emptied
pub emptied-opened : (s m : ℕ) → 2 ≤ s → s ≤ 65536 → 2048 ≤ m → (vs ls hs ds ks ms : List ℕ) → vs ≡ zeros s → ls ≡ zeros s → hs ≡ zeros s
    → ds ≡ zeros (2 * s) → ks ≡ zeros s → ms ≡ zeros m → Opened (table_of vs ls hs ds ks 2) ms
emptied-opened s m two most room vs ls hs ds ks ms a b d e f g =
    let len : length vs ≡ s = ap length a ∙ length-replicate s 0 in
    let long : length ms ≡ m = ap length g ∙ length-replicate m 0 in
    record {
      least = omega arith;
      most = omega arith;
      written = emptied-table s two vs ls hs ds ks a b d e f ∙ ap (λ (k : ℕ). indexed k emptied) (sym len);
      room = omega arith;
      none = g ∙ ap zeros (sym long);
    }

-- the whole, once the scratch list is zeros
pub run_is : (mode : Mode) (s m c : ℕ) (formula proof : List ℕ) (d : Columns) (ms ss : List ℕ) (r : Checked) (s' m' c' : ℕ) (cs : List ℕ)
    → check_outcome d ms ss (zeros c) r ≡ outcome s' m' c (verdict mode s' formula proof) → s' ≡ s → m' ≡ m → cs ≡ zeros c' → c' ≡ c
    → check_outcome d ms ss cs r ≡ outcome s m c (verdict mode s formula proof)
run_is mode s m c formula proof d ms ss r s' m' c' cs e same same' none same'' =
    ap (λ (x : List ℕ). check_outcome d ms ss x r) (none ∙ ap zeros same'') ∙ e
    ∙ ap₂ (λ (a b : ℕ). outcome a b c (verdict mode a formula proof)) same same'
