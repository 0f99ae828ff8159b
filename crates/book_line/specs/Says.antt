-- What the inner functions of a book's call say and ask. No call open to others cites `LineReady`.
use Rattle.std.specs.Prelude.{◌≡◌, true, List, ◌++◌, ℕ, ◌+◌, ◌-◌, ◌≤◌, ◌<◌, max, length, get_or, take}
use Rattle.table.specs.Nodes.{Node}
use Rattle.table.specs.Columns.{Columns}
use Rattle.table.specs.Making.{all}
use Rattle.table.specs.Indexed.{Table, size, nodes_of, indexed, Good}
use Rattle.verdict.specs.Steps.{emptied}
use Rattle.verdict.specs.Check.{zeros}
use Rattle.words.specs.Sets.{no_literals}
use Rattle.state.specs.declared.State.{State}
use Rattle.state.specs.States as entries
use Rattle.state.specs.States.{Lent, table_in}
use Rattle.formula.specs.Formula.{Opened}
use Rattle.shares.specs.declared.Stage.TheVariants.{Formula, Lines}
use Rattle.shares.specs.declared.Book.{Book}
use Rattle.shares.specs.Shares.{alone}
use Rattle.shares.specs.Alone.{Answer, places, state_of}
use Rattle.shares.specs.Books.{BookLists, BookOutcome, holding_fits, holding, members_in, alone_of}
use Rattle.book_line.specs.declared.Said.{Said}

abbrev pub lists_made : List ℕ → List ℕ → List ℕ → BookLists
lists_made members struck own = record { members = members; struck = struck; own = own }

abbrev pub answer_of : Said → Answer
answer_of r = record { number = r.number; place = r.place; lines = r.lines; rounds = r.rounds; peak = r.peak }

-- What is said and left, as the definition has it.
abbrev pub said_outcome : Columns → BookLists → List ℕ → Said → BookOutcome
said_outcome c l scratch r = record { answer = answer_of r; count = r.count; columns = c; lists = l; scratch = scratch; book = r.book }

abbrev pub said_by : ℕ → ℕ → ℕ → Book → Said
said_by number place count b =
    record { number = number; place = place; lines = b.lines; rounds = b.rounds; peak = b.peak; count = count; book = b }

-- `book_on` by the code's state.
abbrev pub book_with : Book → State → Book
book_with b st = record {
  share = b.share;
  stage = Lines;
  variables = b.variables;
  clauses = b.clauses;
  lines = st.lines;
  rounds = b.rounds + st.rounds;
  charge = st.count - 2;
  peak = st.peak - 2;
  refuted = st.refuted;
}

abbrev pub RoundsFit : Book → State → Type 0
RoundsFit b st = (b.rounds ≤ 268435456) × (st.rounds ≤ 268435456)

abbrev pub own_nodes : Lent → State → List Node
own_nodes lent st = nodes_of (table_in lent st.count)

-- Everything before the first record of a later call: the tests are passed, and the own table is made again.
pub record LineReady (T : Table) (l : BookLists) (b : Book) (lent : Lent) (first : State) : Type 0 where
  pub stage : b.stage ≡ Lines
  pub good : Good T
  pub fits : holding_fits (size T) (length (nodes_of T)) (holding b l) ≡ true
  pub made : alone (places b) (nodes_of T) ((holding b l).own ++ (holding b l).members) ≡ all (own_nodes lent first)
  pub enough : places b - first.count ≤ size T - T.count
  pub sized : length lent.vars ≡ places b
  pub own : length l.own ≡ size T
  pub members : 2048 ≤ length l.members
  pub struck : length l.struck ≡ length l.members
  pub many : first.members ≡ b.clauses + b.lines
  pub begun : entries.state_of lent first ≡ state_of (alone_of (nodes_of T) (holding b l) (own_nodes lent first))

abbrev pub unfit_said : ℕ → Book → Said
unfit_said count b = record { number = 26; place = 0; lines = 0; rounds = 0; peak = 0; count = count; book = b }

-- The state before a call's first record, as the code holds it.
abbrev pub first_state : Book → ℕ → State
first_state b count = record {
  count = count;
  kept = count;
  members = b.clauses + b.lines;
  entries = 0;
  witness = no_literals;
  lines = b.lines;
  rounds = 0;
  peak = max (b.peak + 2) count;
  refuted = b.refuted;
}

-- The tests of the book's numbers, members and marks are passed, and its own table is made again, with the members' numbers in it and
-- their marks.
pub record Remade (T : Table) (l : BookLists) (b : Book) (lent : Lent) (owncount : ℕ) : Type 0 where
  pub good : Good T
  pub fits : holding_fits (size T) (length (nodes_of T)) (holding b l) ≡ true
  pub made : alone (places b) (nodes_of T) ((holding b l).own ++ (holding b l).members) ≡ all (nodes_of (table_in lent owncount))
  pub sized : length lent.vars ≡ places b
  pub own-good : Good (table_in lent owncount)
  pub own : length l.own ≡ size T
  pub members : 2048 ≤ length l.members
  pub struck : length l.struck ≡ length l.members
  pub scratch : 4096 ≤ length lent.scratch
  pub found : take (b.clauses + b.lines) lent.members ≡ members_in (places b) (nodes_of T) (nodes_of (table_in lent owncount))
      (holding b l).members
  pub inside : (i : ℕ) → i < b.clauses + b.lines → get_or lent.members i 0 < owncount
  pub rest : (i : ℕ) → b.clauses + b.lines ≤ i → ◌≡◌ {A = ℕ} (get_or lent.members i 0) 0
  pub marks : take (b.clauses + b.lines) lent.struck ≡ (holding b l).struck
  pub room : 2048 ≤ length lent.members
  pub marked : length lent.struck ≡ length lent.members
  pub unmarked : (i : ℕ) → b.clauses + b.lines ≤ i → ◌≡◌ {A = ℕ} (get_or lent.struck i 0) 0

-- Before the own table is made again: the tests are passed, the own table and the lists that go with it are emptied.
pub record Prepared (T : Table) (l : BookLists) (b : Book) (lent : Lent) (known : List ℕ) : Type 0 where
  pub good : Good T
  pub fits : holding_fits (size T) (length (nodes_of T)) (holding b l) ≡ true
  pub sized : length lent.vars ≡ places b
  pub opened : table_in lent 2 ≡ indexed (places b) emptied
  pub known-room : T.count ≤ length known
  pub known-none : known ≡ zeros (length known)
  pub own : length l.own ≡ size T
  pub members : 2048 ≤ length l.members
  pub struck : length l.struck ≡ length l.members
  pub scratch : 4096 ≤ length lent.scratch
  pub room : 2048 ≤ length lent.members
  pub none_found : lent.members ≡ zeros (length lent.members)
  pub marked : length lent.struck ≡ length lent.members

-- Before a book's formula is read: the tests are passed, the own table and the lists that go with it are emptied.
pub record FirstReady (T : Table) (l : BookLists) (b : Book) (empty : Table) (found strikes : List ℕ) : Type 0 where
  pub stage : b.stage ≡ Formula
  pub good : Good T
  pub fits : holding_fits (size T) (length (nodes_of T)) (holding b l) ≡ true
  pub sized : size empty ≡ places b
  pub opened : Opened empty found
  pub unmarked : strikes ≡ zeros (length found)
  pub own : length l.own ≡ size T
  pub members : 2048 ≤ length l.members
  pub struck : length l.struck ≡ length l.members
