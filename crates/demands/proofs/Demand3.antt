-- Demand 3, values: one theorem a sentence. The idea: proved in the files named. Assumes nothing.
use Rattle.verdict.proofs.Refuted.{AllOne}
use Rattle.records.specs.declared.Rule.TheVariants.{Path}
use Rattle.commands.specs.Commands.{in_form}
use Rattle.commands.specs.declared.Form.TheVariants.{Records}
use Rattle.verdict.specs.Profile.{without_pr}
use Rattle.verdict.specs.Check.{check}
use mathlib.Core.Path.{◌≡◌, ◌∙◌, refl}
use mathlib.Core.Logic.{◌≢◌, ◌↔◌}
use mathlib.Core.Bool.{true, false, cond}
use mathlib.Core.List.{[], List}
use Prim.Native.Nat.{ℕ, ◌+◌, ◌≤◌, ◌<◌}
use lib.ListN.{length, get_or}
use Rattle.meaning.specs.Diagram.{Assignment, holds, value}
use Rattle.meaning.specs.Operations.{clause_value, nearest}
use Rattle.meaning.specs.Words.{assignment_of}
use Rattle.meaning.proofs.Nearest.{Nearest}
use Rattle.table.specs.Nodes.{at, diagram_at}
use Rattle.table.specs.Columns.{rows, Columns}
use Rattle.table.proofs.Numbers as Numbers
use Rattle.table.proofs.InOrder.{good-order}
use Rattle.operate.specs.declared.Operation.{Operation}
use Rattle.operate.specs.declared.Operation.TheVariants.{Cofactor}
use Rattle.single.specs.Single.{evaluation, operation, at_least_call}
use Rattle.verdict.specs.Steps.{State, is_entry, entry_node, unstruck}
use Rattle.verdict.specs.Taken.{Meant, entry_meant, LineTaken}
use Rattle.verdict.specs.Run.{Reached, Later}
use Rattle.verdict.specs.Satisfies.{Unsatisfiable, satisfies}
use Rattle.verdict.proofs.Refuted as Refuted
use Rattle.verdict.proofs.Values as Values
use Rattle.verdict.proofs.Ends as Ends
use Rattle.verdict.proofs.Consequence as Consequence
use Rattle.demands.specs.Calls.{nodes_of_columns, in_good_order, value_at, Answers, OperationSays, answered, refused, LeastSays}
use Rattle.demands.specs.Leaving.{Handed, checked, Fits, places, clauses_read, lines_of, Member}
use Rattle.demands.proofs.Singles as Singles
use Rattle.demands.proofs.Leasts as Leasts
use Rattle.demands.proofs.Words as Words
use Rattle.demands.proofs.Lists as Lists
use Rattle.demands.proofs.Profile as Profile

-- ---- a table in good order

-- Two node numbers are equal exactly when their values are equal under every assignment.
pub numbers-equal : (c : Columns) (count : ℕ) → in_good_order c count ≡ true → (j k : ℕ) → j < count → k < count
    → (j ≡ k) ↔ ((a : Assignment) → length a ≡ 64 → value_at c count j a ≡ value_at c count k a)
numbers-equal c count order =
    Numbers.numbers-equal (rows c.vars c.lows c.highs) count
    (good-order (rows c.vars c.lows c.highs) count c.heads c.links order)

-- "any smaller n that no variable in use exceeds gives the same values"
pub numbers-equal-to : (n : ℕ) (c : Columns) (count : ℕ) → in_good_order c count ≡ true
    → ((i : ℕ) → 2 ≤ i → i < count → (at (rows c.vars c.lows c.highs) i).var ≤ n) → (j k : ℕ) → j < count → k < count
    → (j ≡ k) ↔ ((a : Assignment) → length a ≡ n → value_at c count j a ≡ value_at c count k a)
numbers-equal-to n c count order =
    Numbers.numbers-equal-to n (rows c.vars c.lows c.highs) count
    (good-order (rows c.vars c.lows c.highs) count c.heads c.links order)

-- "Node 0 has the value 0, node 1 the value 1; any other node has the value of its high where its variable is true, of its low where it is
-- false."
pub zero-value : (c : Columns) (count : ℕ) (a : Assignment) → value_at c count 0 a ≡ false
zero-value = Words.zero-value

pub one_value : (c : Columns) (count : ℕ) (a : Assignment) → value_at c count 1 a ≡ true
one_value = Words.one_value

pub node-value : (c : Columns) (count : ℕ) → in_good_order c count ≡ true → (k : ℕ) → 2 ≤ k → k < count → (a : Assignment)
    → value_at c count k a ≡ cond (holds a (at (nodes_of_columns c count) k).var)
    (value_at c count (at (nodes_of_columns c count) k).high a)
    (value_at c count (at (nodes_of_columns c count) k).low a)
node-value = Words.node-value

-- ---- the single calls

-- For every table, count and operand: the call is refused, changes nothing and gives node 0; or it answers with a node of the table as left
-- that has exactly 01's value of the operation under every assignment, the table as left is in good order, and every old number keeps its
-- diagram.
pub operation-says : (op : Operation) (c : Columns) (count f g : ℕ) → OperationSays op c count f g (operation op c count f g)
operation-says = Singles.operation-says

-- The same where number 0 is at hand.
pub operation-answers : (op : Operation) (c : Columns) (count f g : ℕ) → (operation op c count f g).number ≡ 0
    → Answers op c count f g (operation op c count f g)
operation-answers op c count f g z = go (operation-says op c count f g)
  where
    go : OperationSays op c count f g (operation op c count f g) → Answers op c count f g (operation op c count f g)
    go (answered _ A) = A
    go (refused other _) = absurd (other z)

-- "its value, and that of the single call's node [..], is 1 where the number of the set's true variables is [..] at least k; else 0"; the
-- excluded assignments are counted "for sets of up to 32 variables [..] (no count for larger ones or with a refusal)". (02, 5/14)
pub at-least-says : (c : Columns) (count set k : ℕ) → LeastSays c count set k (at_least_call c count set k)
at-least-says = Leasts.at-least-says

-- A cofactor's value is taken at an assignment that satisfies g, and none that does is nearer.
pub cofactor-nearest : (c : Columns) (count f g : ℕ) → (operation Cofactor c count f g).number ≡ 0
    → (a : Assignment) → Nearest 64 (value_at c count g) a (nearest 64 (value_at c count g) a)
cofactor-nearest = Singles.cofactor-nearest

-- "Evaluation, where it does not refuse, says yes exactly when the node's value under the word's assignment is 1."
pub evaluation-says : (c : Columns) (count f word : ℕ)
    → ((evaluation c count f word).number ≡ 0 → (evaluation c count f word).yes ≡ value_at c count f (assignment_of 64 word))
    × ((evaluation c count f word).number ≢ 0 → (evaluation c count f word).yes ≡ false)
evaluation-says = Singles.evaluation-says

-- ---- the check

-- "a clause's [..] node from its making until it is dropped": in every state that the check reaches (`Values.clause-values`,
-- `Values.member-value`), and in what it leaves: place k of the member list is a node with clause k's value.
pub clause-left : (i : Handed) → Fits i → (checked i).in_proof ≡ true → (k : ℕ) → k < length (clauses_read i)
    → Member (checked i) k (clause_value (get_or (clauses_read i) k []))
clause-left i fits late = (Lists.check-kept i fits late).clauses

-- Then the accepted lines in order, each with its root's value, or its added clause's, as the proof's bytes fix it.
pub line-left : (i : Handed) → Fits i → (checked i).in_proof ≡ true → (j : ℕ) → j < (checked i).lines
    → Member (checked i) (length (clauses_read i) + j) (get_or (lines_of i) j (λ a. false))
line-left i fits late = (Lists.check-kept i fits late).lines

-- The table as left is in good order.
pub left-in-order : (i : Handed) → Fits i → (checked i).in_proof ≡ true → in_good_order (checked i).columns (checked i).count ≡ true
left-in-order i fits late = (Lists.check-kept i fits late).good

module _ (i : Handed) {n : ℕ} {st : State} {at : ℕ} {m : Meant} (R : Reached i.mode (places i) i.text i.proof n st at m) where
  -- "an entry's node [has its value] from its making until it is dropped, though the proof be refused later": in every state reached later,
  pub entry_kept : {st' : State} {at' : ℕ} → Later i.mode (places i) i.proof n st at st' at' → (e : ℕ) → is_entry st e ≡ true →
      (a : Assignment)
      → value (diagram_at st'.nodes (entry_node st e)) a ≡ entry_meant m e a
  entry_kept = Values.entry_kept (places i) i.text i.mode i.proof R

  -- in the table as left, where it is not dropped,
  pub entry-left : Fits i → (e : ℕ) → is_entry st e ≡ true → entry_node st e < (checked i).count
      → (a : Assignment) → value_at (checked i).columns (checked i).count (entry_node st e) a ≡ entry_meant m e a
  entry-left fits = Lists.entry-left i fits R

  -- and it is not where its line is accepted.
  pub entry-stays : Fits i → (e : ℕ) → is_entry st e ≡ true → st.lines < (checked i).lines → entry_node st e < (checked i).count
  entry-stays fits = Lists.entry-stays i fits R

-- Where 0 is said no assignment satisfies the formula's bytes, whatever the proof's bytes and whatever the lent places held.
pub check-refuted : (i : Handed) → (checked i).number ≡ 0 → Unsatisfiable i.text
check-refuted i = Refuted.check-refuted i.mode i.columns i.count i.members i.struck i.scratch i.text i.proof

-- ---- the consequence profile

-- "each accepted line is true under every assignment that satisfies the formula": in the member list that the call leaves, the struck lines
-- too. (02, 11/14; a path line passes there: 12/14)
pub lines-true : (i : Handed) → Fits i → i.mode.consequence ≡ true → (checked i).in_proof ≡ true → (a : Assignment) →
    satisfies a (clauses_read i) ≡ true
    → (j : ℕ) → j < (checked i).lines → value_at (checked i).columns (checked i).count
    (get_or (checked i).members (length (clauses_read i) + j) 0) a ≡ true
lines-true i fits profile late a sat j p = (line-left i fits late j p).1 a ∙ Profile.lines-true i profile a sat late j p

-- "a proof in records without a PR one gets the results it has outside the profile": the number, the place, the counts and every lent
-- place.
pub profile-same : (c : Columns) (count : ℕ) (members struck scratch text proof : List ℕ) → without_pr proof ≡ true
    → check (in_form Records true) c count members struck scratch text proof
    ≡ check (in_form Records false) c count members struck scratch text proof
profile-same = Consequence.profile-same

-- "an accepted path line follows from the members": in every state that the check reaches, from the live ones, at every assignment. (02,
-- 12/14)
pub path-follows : (i : Handed) {n : ℕ} {st : State} {at : ℕ} {m : Meant} → Reached i.mode (places i) i.text i.proof n st at m
    → (root : ℕ) (st' : State) → LineTaken n (places i) st Path root st' → (a : Assignment) → length a ≡ n →
    AllOne a (unstruck st.struck m.members) → entry_meant m root a ≡ true
path-follows i R root st' T = Consequence.line-follows (Ends.reached-standing i.mode (places i) i.text i.proof R).1 Path root st'
    refl T
