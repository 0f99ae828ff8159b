-- From the number with which a record is refused to what the two functions ask. Each test of the record stands behind the ones before it.
-- Assumes nothing.
use mathlib.Core.Path.{◌≡◌, refl, sym, ◌∙◌}
use mathlib.Core.Bool.{Bool, true, false, not, ◌&&◌, cond}
use Prim.Native.Nat.{ℕ, ◌+◌, ◌≤◌, ◌<◌, max}
use native.Mathlib.Omega.{arith}
use lib.ListN.{length}
use lib.Dec.{eqb, leb}
use borrow.Author.Tests.{ltb-true}
use Rattle.meaning.specs.Rules.{Line, pr, witnessed}
use Rattle.meaning.specs.Words.{in_word}
use Rattle.meaning.proofs.Booleans.{t≢f}
use Rattle.table.specs.Indexed.{nodes_of}
use Rattle.table.specs.Making.{line_reach}
use Rattle.table.proofs.Numbers.{reduced-to}
use Rattle.table.proofs.Written.{length-nodes, good-ordered}
use Rattle.records.specs.declared.NodeBody.{NodeBody}
use Rattle.records.specs.declared.Rule.TheVariants.{Pr}
use Rattle.verdict.specs.Steps as check
use Rattle.verdict.specs.Steps.{next, stop, spent, accepted, judged, is_entry, entry_node, is_variable, node_step, line_step}
use Rattle.verdict.specs.Steps.{diagram_in, live_members}
use Rattle.verdict.proofs.Steps.{past}
use Rattle.state.specs.declared.State.{State}
use Rattle.state.specs.States.{Lent, table_in, state_of, Held}
use Rattle.entries.proofs.Entries.{entry-is, entry_in}
use Rattle.why.specs.Greedy.{Shut}

both : (x y : Bool) → not (x && y) ≡ false → (x ≡ true) × (y ≡ true)
both true true e = (refl, refl)
both true false e = t≢f e
both false y e = t≢f e

is_true : (x : Bool) → not x ≡ false → x ≡ true
is_true true e = refl
is_true false e = t≢f e

-- A line that is judged stops with no number before it makes nodes.
judged-goes : (s : ℕ) (st : check.State) (g : ℕ) (line : Line) (number offset : ℕ) → judged s st g line ≡ stop number offset → ⊥
unfolding judged
judged-goes s st g line number offset e = go (line_reach s st.nodes line).fits line.shown e
  where
    top : ℕ
    top = max st.peak (line_reach s st.nodes line).peak

    go : (a b : Bool) → cond (not a) (spent 23 top) (cond (not b) (spent 19 top) (next (accepted st g line top))) ≡ stop number offset → ⊥
    go true true e = let z : ◌≡◌ {A = ℕ} 0 1 = cc in omega arith
    go true false e = let z : ◌≡◌ {A = ℕ} 0 1 = cc in omega arith
    go false b e = let z : ◌≡◌ {A = ℕ} 0 1 = cc in omega arith

-- The last test of a PR line.
shut : (t : Bool) (s : ℕ) (st : check.State) (g : ℕ) (line : Line) → cond (not t) (stop 18 0) (judged s st g line) ≡ stop 18 0 → t ≡ false
shut false s st g line e = refl
shut true s st g line e = absurd (judged-goes s st g line 18 0 e)

module _ (n s : ℕ) (l : Lent) (st : State) (H : Held n l st) where
  abbrev S : check.State
  S = state_of l st

  pub room : st.entries ≤ length l.scratch
  room = omega (arith, H.entries.few, H.entries.room)

  entry-below : (e : ℕ) → is_entry S e ≡ true → e < st.entries + 2
  entry-below e there = ltb-true e (st.entries + 2) (sym (entry-is l st room e) ∙ there)

  -- THEOREM: a node record that is refused with 14 names two entries that are there.
  pub refused-14 : (b : NodeBody) → node_step n s S b ≡ stop 14 0 → (b.low.0 < st.entries + 2) × (b.high.0 < st.entries + 2)
  unfolding node_step
  refused-14 b e =
      let (_, after-full) = past (leb 4096 (length S.entries)) 21 0 _ refl e in
      let (_, after-variable) = past (not (is_variable n b.variable)) 12 0 _ refl after-full in
      let (there, _) = past (not (is_entry S b.low.0 && is_entry S b.high.0)) 13 0 _ refl after-variable in
      let (low, high) = both (is_entry S b.low.0) (is_entry S b.high.0) there in
      (entry-below b.low.0 low, entry-below b.high.0 high)

  -- THEOREM: the witness of a PR line that is refused with 18, of the header's variables, does not make it 1.
  pub refused-18 : (root : ℕ) → ((v : ℕ) → n < v → in_word st.witness.positive v ≡ false) → line_step n s S Pr root ≡ stop 18 0
      → (root < st.entries + 2) × Shut n (diagram_in S (entry_node S root)) st.witness
  unfolding line_step
  refused-18 root within e =
      let (there, after-entry) = past (not (is_entry S root)) 13 0 _ refl e in
      let (_, after-lines) = past (leb 1024 S.lines) 22 0 _ refl after-entry in
      let (_, after_one) = past (eqb (entry_node S root) 1) 17 0 _ refl after-lines in
      let entry = is_true (is_entry S root) there in
      let inside = entry_in n l st H root entry in (
        entry-below root entry,
        record {
          reduced =
              reduced-to n (nodes_of (table_in l st.count)) (good-ordered (table_in l st.count) H.entries.good) H.entries.uses
              (entry_node S root) (omega (arith, length-nodes (table_in l st.count) H.entries.good, inside));
          open-there = shut (witnessed n (in_word S.positive) (in_word S.negative) (diagram_in S (entry_node S root))) s S
              (entry_node S root)
              (pr n (in_word S.positive) (in_word S.negative) (live_members S) (diagram_in S (entry_node S root))) after_one;
          within = within;
        },
      )
