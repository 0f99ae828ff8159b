-- What stands after 4,096 entries: node record 4,097 of a line is 21, before 12, 13 and 29, after 10; and the rows of the single calls, 26
-- and 27. The idea: by
-- induction on the records taken so far. Assumes nothing.
use mathlib.Core.Path.{◌≡◌, refl, sym, ap, ◌∙◌, subst}
use mathlib.Core.Bool.{Bool, true, cond}
use mathlib.Core.List.{List, [], ◌∷◌, ◌++◌}
use Prim.Native.Nat.{ℕ, zero, suc, ◌+◌, ◌-◌, ◌*◌, ◌≤◌, ◌<◌}
use native.Mathlib.Omega.{arith}
use lib.ListN.{length, drop, length-append}
use lib.Dec.{leb}
use borrow.Author.Tests.{lt-ltb, le-ltb, le-leb}
use Rattle.table.specs.Nodes.{Node, node_of, above, placed, put}
use Rattle.table.specs.Index.{bucket, good_order}
use Rattle.table.specs.Columns.{rows, size_fits, columns_made}
use Rattle.dimacs.specs.Header.{header}
use Rattle.dimacs.specs.Clauses.{complete, clauses_from}
use Rattle.dimacs.specs.Texts.{bytes}
use Rattle.records.specs.declared.NodeBody.{NodeBody}
use Rattle.records.specs.declared.SetKind.TheVariants.{Parity}
use Rattle.records.specs.declared.Record.{Record}
use Rattle.records.specs.declared.Record.TheVariants.{NodeEntry, SetEntry, CutShort}
use Rattle.records.specs.Records.{low_byte_first, record_in, record_at, length_of}
use Rattle.commands.specs.Commands.{in_records}
use Rattle.operate.specs.declared.Operation.TheVariants.{Negation, Cofactor}
use Rattle.single.specs.Single.{evaluation, operation}
use Rattle.verdict.specs.Steps.{State, emptied, begun, with_entry, stop, is_entry, entry_node, node_step, set_step, record_step}
use Rattle.verdict.specs.Check.{step}
use Rattle.verdict.specs.Taken.{Meant, NodeTaken, Taken}
use Rattle.verdict.specs.Run.{command_in, after_command, Making, opened, Reached, begins, goes}
use Rattle.verdict.specs.Cases.{Gives, GivesAll, printed, over, odd_even}
use Rattle.verdict.proofs.Exactly.{reached-stops}
use Rattle.demands.specs.LongRows.{node_records, entries_row, entries_order}

-- ---- the record after 4,096 entries

abbrev body : NodeBody
body = record { variable = 1; low = record { 0 = 0 }; high = record { 0 = 1 } }

node_at : (k : ℕ) (rest : List ℕ) → record_in (node_records (suc k) rest) ≡ NodeEntry body
unfolding record_in low_byte_first
node_at k rest =
    ap (λ (c : Bool). cond c CutShort (NodeEntry body)) (le-ltb (length (1 ∷ 0 ∷ 0 ∷ 1 ∷ 0 ∷ node_records k rest)) 5 (omega arith))

nodes-drop : (j k : ℕ) (rest : List ℕ) → drop (6 * j) (node_records (j + k) rest) ≡ node_records k rest
nodes-drop zero k rest = let z : 0 + k ≡ k = omega arith in ap (λ (x : ℕ). node_records x rest) z
nodes-drop (suc j) k rest =
    let six : 6 * suc j ≡ suc (suc (suc (suc (suc (suc (6 * j)))))) = omega arith in
    let s : suc j + k ≡ suc (j + k) = omega arith in
    rw (six, s) (nodes-drop j k rest)

record-there : (j k : ℕ) (rest : List ℕ) → record_at (node_records (j + k) rest) (6 * j) ≡ record_in (node_records k rest)
unfolding record_at
record-there j k rest = ap record_in (nodes-drop j k rest)

abbrev text-21 : List ℕ
text-21 = bytes "p cnf 1 0\n"

begun-21 : Making 4096 text-21 1 0 emptied [] [] complete
unfolding header clauses_from
begun-21 = opened {at = 9} refl

-- the nodes with the one that the records ask for
abbrev one-node : List Node
one-node = emptied ++ node_of 1 0 1 ∷ []

first-put : put 4096 emptied 1 0 1 ≡ placed one-node 2
unfolding put
first-put = refl

next-put : put 4096 one-node 1 0 1 ≡ placed one-node 2
unfolding put
next-put = refl

-- after so many of them
record Entered (j : ℕ) (st : State) : Type 0 where
  entries : length st.entries ≡ j
  lines : st.lines ≡ 0
  rounds : st.rounds ≡ 0
  there : put 4096 st.nodes 1 0 1 ≡ placed one-node 2
  most : st.peak ≤ 3
  peak : 1 ≤ j → st.peak ≡ 3

entered-next : (j : ℕ) → j < 4096 → (st : State) → Entered j st → NodeTaken 1 4096 st body (with_entry st one-node 2)
    × Entered (suc j) (with_entry st one-node 2)
unfolding is_entry entry_node above
entered-next j few st E = (
  record {
    few = omega (arith, E.entries);
    least = omega arith;
    most = omega arith;
    low = lt-ltb 0 (suc (suc (length st.entries))) (omega arith);
    high = lt-ltb 1 (suc (suc (length st.entries))) (omega arith);
    over-low = refl;
    over-high = refl;
    nodes = one-node;
    entry = 2;
    room = E.there;
    is = refl;
  },
  record {
    entries = length-append st.entries (2 ∷ []) ∙ omega (arith, E.entries);
    lines = E.lines;
    rounds = E.rounds;
    there = next-put;
    most = let three : length one-node ≡ 3 = refl in omega (arith, E.most);
    peak = λ _. let three : length one-node ≡ 3 = refl in omega (arith, E.most);
  },
)

-- the state before record j of so many
record Before (proof : List ℕ) (j : ℕ) : Type 0 where
  state : State
  meant : Meant
  reached : Reached in_records 4096 text-21 proof 1 state (6 * j) meant
  entered : Entered j state

before : (k : ℕ) (rest : List ℕ) → k ≤ 4096 → (j : ℕ) → j ≤ k → Before (node_records k rest) j
before k rest most zero p = record {
  state = begun emptied [];
  meant = _;
  reached = begins begun-21;
  entered = record {
    entries = refl;
    lines = refl;
    rounds = refl;
    there = first-put;
    most = omega arith;
    peak = λ one. absurd (omega arith);
  };
}
before k rest most (suc j) p =
    let B : Before (node_records k rest) j = before k rest most j (omega arith) in
    let split : k ≡ j + suc (k - suc j) = omega arith in
    let here : record_at (node_records k rest) (6 * j) ≡ NodeEntry body =
    ap (λ (x : ℕ). record_at (node_records x rest) (6 * j)) split ∙ record-there j (suc (k - suc j)) rest ∙ node_at (k - suc j) rest in
    let (T, E) = entered-next j (omega arith) B.state B.entered in
    let six : 6 * j + 6 ≡ 6 * suc j = omega arith in
    let R = goes B.reached (refl, subst (λ (r : Record). Taken 1 4096 B.state r (with_entry B.state one-node 2)) (sym here) T) in
    let m : Meant = after_command B.meant (command_in in_records (node_records k rest) 1 (6 * j)) in
    record {
      state = with_entry B.state one-node 2;
      meant = m;
      reached = subst (λ (x : ℕ). Reached in_records 4096 text-21 (node_records k rest) 1 (with_entry B.state one-node 2) x m)
          (ap (λ (r : Record). 6 * j + length_of r) here ∙ six) R;
      entered = E;
    }

-- the record behind 4,096 entries is refused as its step is in such a state
behind-entries : (rest : List ℕ) (r : Record) (number : ℕ) → record_in rest ≡ r
    → ((st : State) (more : Bool) → leb 4096 (length st.entries) ≡ true → record_step 1 4096 st more r ≡ stop number 0)
    → Gives (entries_row rest number)
unfolding step
behind-entries rest r number is refused =
    let B : Before (node_records 4096 rest) 4096 = before 4096 rest (omega arith) 4096 (omega arith) in
    let here : record_at (node_records 4096 rest) 24576 ≡ r = record-there 4096 0 rest ∙ is in
    let over : leb 4096 (length B.state.entries) ≡ true = le-leb 4096 (length B.state.entries) (omega (arith, B.entered.entries))
    in
    ap printed (reached-stops in_records 4096 text-21 (node_records 4096 rest) B.reached number 0 (rw here (refused B.state _ over)))
    ∙ rw (B.entered.lines, B.entered.rounds, B.entered.peak (omega arith))

-- "21: over 4,096 entries: node record 4,097 of a line"
pub twenty-one : Gives (entries_row (over 1 0 1 []) 21)
unfolding record_in record_step node_step low_byte_first
twenty-one = behind-entries (over 1 0 1 []) (NodeEntry body) 21 refl (λ st more over. rw over)

-- and whatever else is wrong with it but 10
pub entries-order : GivesAll entries_order
unfolding record_in record_step node_step set_step low_byte_first
entries-order = (
  behind-entries (0x4E ∷ 0 ∷ []) CutShort 10 refl (λ st more over. refl),
  (
    behind-entries (over 0 9 9 []) (NodeEntry (record { variable = 0; low = record { 0 = 9 }; high = record { 0 = 9 } })) 21 refl
        (λ st more over. rw over),
    (behind-entries (odd_even 4 2 []) (SetEntry Parity (record { set = 4; byte = 2 })) 21 refl (λ st more over. rw over), tt),
  ),
)

-- ---- the single calls

-- "26: table not in good order: node 2 = 1, 0, 0"
pub twenty-six : (operation Negation (columns_made (0 ∷ 0 ∷ 1 ∷ []) (0 ∷ 0 ∷ 0 ∷ []) (0 ∷ 0 ∷ 0 ∷ []) (0 ∷ 2 ∷ 0 ∷ 0 ∷ 0 ∷ 0 ∷ [])
    (0 ∷ 0 ∷ 0 ∷ [])) 3 2 1).number ≡ 26
unfolding operation size_fits good_order rows bucket
twenty-six = refl

-- "27: cofactor by 0: f = 1, g = 0"
pub twenty-seven : (operation Cofactor (columns_made (0 ∷ 0 ∷ []) (0 ∷ 0 ∷ []) (0 ∷ 0 ∷ []) (0 ∷ 0 ∷ 0 ∷ 0 ∷ []) (0 ∷ 0 ∷ [])) 2 1 0).number
    ≡ 27
unfolding operation size_fits good_order rows bucket
twenty-seven = refl

-- "and, in single calls, a wrong one with 26": node 2 is variable 1, of chain 0 among 6; with its own head, with none, with that of chain
-- 1, with a link
-- past the count. (02, 7/14)
abbrev pub evaluated_with : List ℕ → List ℕ → ℕ
evaluated_with heads links = (evaluation (columns_made (0 ∷ 0 ∷ 1 ∷ []) (0 ∷ 0 ∷ 0 ∷ []) (0 ∷ 0 ∷ 1 ∷ []) heads links) 3 2 0).number

pub index-judged : (evaluated_with (2 ∷ 0 ∷ 0 ∷ 0 ∷ 0 ∷ 0 ∷ []) (0 ∷ 0 ∷ 0 ∷ []) ≡ 0)
    × (evaluated_with (0 ∷ 0 ∷ 0 ∷ 0 ∷ 0 ∷ 0 ∷ []) (0 ∷ 0 ∷ 0 ∷ []) ≡ 26)
    × (evaluated_with (0 ∷ 2 ∷ 0 ∷ 0 ∷ 0 ∷ 0 ∷ []) (0 ∷ 0 ∷ 0 ∷ []) ≡ 26)
    × (evaluated_with (2 ∷ 0 ∷ 0 ∷ 0 ∷ 0 ∷ 0 ∷ []) (0 ∷ 0 ∷ 2 ∷ []) ≡ 26)
unfolding evaluation size_fits good_order rows bucket
index-judged = (refl, refl, refl, refl)
