-- Sessions of two books, call after call: what is said, and what is left of the shared table, the members and their marks; then books that
-- are not as a call left them, at each limit and beyond it; and openings. (02, 10/14) The sessions take the rules at 4 variables.
use Rattle.std.specs.Prelude.{◌≡◌, false, List, [] as []ᴸ, ◌∷◌ as ◌∷ᴸ◌, ℕ}
use Rattle.dimacs.specs.Texts.{bytes}
use Rattle.table.specs.Nodes.{Node, blank}
use Rattle.table.specs.Columns.{columns_made}
use Rattle.verdict.specs.Check.{zeros}
use Rattle.verdict.specs.Cases.{over, rup_line, pr_line, path_record, strike, odd_even, end}
use Rattle.shares.specs.declared.Stage.TheVariants.{Lines}
use Rattle.shares.specs.declared.Book.{Book}
use Rattle.shares.specs.Alone.{Answer, opened_book}
use Rattle.shares.specs.Books.{Holding, BookLists, book_call, open_outcome}
use Rattle.shares.specs.Turns.{Turn, ofA, ofB}
use Rattle.shares.specs.Sessions.{opened, Said, say, saying, session}

-- ---- sessions

-- What the calls say, and what the last one leaves.
abbrev answers_of : List Said → List Answer
answers_of []ᴸ = []ᴸ
answers_of (x ∷ᴸ xs) = x.answer ∷ᴸ answers_of xs

abbrev last_of : Said → List Said → Said
last_of x []ᴸ = x
last_of x (y ∷ᴸ ys) = last_of y ys

pub record Left : Type 0 where
  pub nodes : List Node
  pub members_a : List ℕ
  pub struck_a : List ℕ
  pub members_b : List ℕ
  pub struck_b : List ℕ

abbrev left_of : Said → Left
left_of x = record { nodes = x.nodes; members_a = x.members_a; struck_a = x.struck_a; members_b = x.members_b; struck_b = x.struck_b }

pub record Session : Type 0 where
  pub size : ℕ
  pub share_a : ℕ
  pub share_b : ℕ
  pub turns : List Turn
  pub says : List Answer
  pub left : Left

abbrev plays : ℕ → ℕ → ℕ → List Turn → List Answer → Left → Session
plays size share_a share_b turns says left =
    record { size = size; share_a = share_a; share_b = share_b; turns = turns; says = says; left = left }

abbrev pub Plays : Session → Type 0
Plays x =
    let played = session 4 x.size (opened x.share_a x.share_b) x.turns in
    (answers_of played ≡ x.says) × (left_of (last_of (saying (say 0 0 0 0 0) (opened 0 0)) played) ≡ x.left)

abbrev pub PlaysAll : List Session → Type 0
PlaysAll []ᴸ = Unit {0}
PlaysAll (x ∷ᴸ xs) = Plays x × PlaysAll xs

abbrev entry : ℕ → ℕ → ℕ → Node
entry v l h = record { var = v; low = l; high = h }

abbrev leave : List Node → List ℕ → List ℕ → List ℕ → List ℕ → Left
leave nodes members_a struck_a members_b struck_b = record {
  nodes = blank ∷ᴸ blank ∷ᴸ nodes;
  members_a = members_a;
  struck_a = struck_a;
  members_b = members_b;
  struck_b = struck_b;
}

-- Two books with one formula have one node, which each is charged for; a line is accepted, and its node stays for both.
abbrev session-1 : Session
session-1 =
    plays 8 3 3
    (ofA (bytes "p cnf 1 1\n1 0\n") ∷ᴸ ofB (bytes "p cnf 1 1\n1 0\n") ∷ᴸ ofA (over 1 0 1 (rup_line 2 []ᴸ)) ∷ᴸ ofB end ∷ᴸ ofA end ∷ᴸ []ᴸ)
    (say 35 14 0 0 1 ∷ᴸ say 35 14 0 0 1 ∷ᴸ say 35 9 1 0 2 ∷ᴸ say 20 0 0 0 1 ∷ᴸ say 20 0 1 0 2 ∷ᴸ []ᴸ)
    (leave (entry 1 0 1 ∷ᴸ []ᴸ)
    (2 ∷ᴸ 2 ∷ᴸ []ᴸ) (0 ∷ᴸ 0 ∷ᴸ []ᴸ) (2 ∷ᴸ []ᴸ) (0 ∷ᴸ []ᴸ))

-- 8 where the charge would pass the share, though the table has free places; 19 of a path line.
abbrev session-2 : Session
session-2 =
    plays 8 1 5
    (ofA (bytes "p cnf 2 1\n1 2 0\n") ∷ᴸ ofB (bytes "p cnf 2 1\n1 2 0\n") ∷ᴸ ofA (over 1 0 1 (rup_line 2 []ᴸ)) ∷ᴸ
    ofB (odd_even 3 1 (path_record 0 []ᴸ)) ∷ᴸ []ᴸ)
    (say 8 10 0 0 1 ∷ᴸ say 35 16 0 0 2 ∷ᴸ say 8 10 0 0 1 ∷ᴸ say 19 10 0 0 4 ∷ᴸ []ᴸ)
    (leave (entry 2 0 1 ∷ᴸ entry 1 2 1 ∷ᴸ []ᴸ)
    []ᴸ []ᴸ (3 ∷ᴸ []ᴸ) (0 ∷ᴸ []ᴸ))

-- 23 where the charge would pass the share, though the other book has placed the node; the call's nodes are dropped.
abbrev session-3 : Session
session-3 =
    plays 10 2 6
    (ofB (bytes "p cnf 2 4\n1 2 0\n-1 2 0\n1 -2 0\n-1 -2 0\n") ∷ᴸ ofA (bytes "p cnf 2 1\n1 2 0\n") ∷ᴸ
    ofA (over 2 1 0 (rup_line 2 []ᴸ)) ∷ᴸ ofB (over 2 0 1 (rup_line 2 []ᴸ)) ∷ᴸ ofA end ∷ᴸ []ᴸ)
    (say 35 38 0 0 6 ∷ᴸ say 35 16 0 0 2 ∷ᴸ say 23 0 0 0 2 ∷ᴸ say 23 6 0 0 6 ∷ᴸ say 23 0 0 0 2 ∷ᴸ []ᴸ)
    (leave (entry 2 0 1 ∷ᴸ entry 1 2 1 ∷ᴸ entry 1 1 2 ∷ᴸ entry 2 1 0 ∷ᴸ entry 1 5 1 ∷ᴸ entry 1 1 5 ∷ᴸ []ᴸ)
    (3 ∷ᴸ []ᴸ) (0 ∷ᴸ []ᴸ) (3 ∷ᴸ 4 ∷ᴸ 6 ∷ᴸ 7 ∷ᴸ []ᴸ) (0 ∷ᴸ 0 ∷ᴸ 0 ∷ᴸ 0 ∷ᴸ []ᴸ))

-- Case A line by line: 35, 35, 0; the other book's calls between them.
abbrev session-4 : Session
session-4 =
    plays 22 12 8
    (ofA (bytes "p cnf 2 4\n1 2 0\n-1 2 0\n1 -2 0\n-1 -2 0\n") ∷ᴸ ofB (bytes "p cnf 2 2\n1 2 0\n-1 -2 0\n") ∷ᴸ
    ofA (over 2 0 1 (rup_line 2 []ᴸ)) ∷ᴸ ofB (over 1 1 0 (rup_line 2 []ᴸ)) ∷ᴸ ofA (rup_line 0 []ᴸ) ∷ᴸ ofA end ∷ᴸ ofA end ∷ᴸ []ᴸ)
    (say 35 38 0 0 6 ∷ᴸ say 35 24 0 0 4 ∷ᴸ say 35 9 1 0 8 ∷ᴸ say 19 6 0 0 6 ∷ᴸ say 35 3 2 1 8 ∷ᴸ say 0 0 2 1 8 ∷ᴸ say 0 0 2 1 8 ∷ᴸ []ᴸ)
    (leave (entry 2 0 1 ∷ᴸ entry 1 2 1 ∷ᴸ entry 1 1 2 ∷ᴸ entry 2 1 0 ∷ᴸ entry 1 5 1 ∷ᴸ entry 1 1 5 ∷ᴸ []ᴸ)
    (3 ∷ᴸ 4 ∷ᴸ 6 ∷ᴸ 7 ∷ᴸ 2 ∷ᴸ 0 ∷ᴸ []ᴸ) (0 ∷ᴸ 0 ∷ᴸ 0 ∷ᴸ 0 ∷ᴸ 0 ∷ᴸ 0 ∷ᴸ []ᴸ) (3 ∷ᴸ 7 ∷ᴸ []ᴸ) (0 ∷ᴸ 0 ∷ᴸ []ᴸ))

-- Path lines, entries and strikings before the line; a struck member; the rounds of both calls.
abbrev session-5 : Session
session-5 =
    plays 22 12 8
    (ofA (bytes "p cnf 2 4\n1 2 0\n-1 2 0\n1 -2 0\n-1 -2 0\n") ∷ᴸ ofA (strike 3 (over 2 0 1 (path_record 2 []ᴸ))) ∷ᴸ
    ofB (bytes "p cnf 1 1\n1 0\n") ∷ᴸ ofA (path_record 0 []ᴸ) ∷ᴸ ofA end ∷ᴸ []ᴸ)
    (say 35 38 0 0 6 ∷ᴸ say 35 12 1 0 8 ∷ᴸ say 35 14 0 0 1 ∷ᴸ say 19 0 1 0 8 ∷ᴸ say 19 0 1 0 8 ∷ᴸ []ᴸ)
    (leave (entry 2 0 1 ∷ᴸ entry 1 2 1 ∷ᴸ entry 1 1 2 ∷ᴸ entry 2 1 0 ∷ᴸ entry 1 5 1 ∷ᴸ entry 1 1 5 ∷ᴸ entry 1 0 1 ∷ᴸ []ᴸ)
    (3 ∷ᴸ 4 ∷ᴸ 6 ∷ᴸ 7 ∷ᴸ 2 ∷ᴸ []ᴸ) (0 ∷ᴸ 0 ∷ᴸ 0 ∷ᴸ 1 ∷ᴸ 0 ∷ᴸ []ᴸ) (8 ∷ᴸ []ᴸ) (0 ∷ᴸ []ᴸ))

-- 10 at the length of a call without a line or end; the mark set in it stays, and a later line changes nothing.
abbrev session-6 : Session
session-6 =
    plays 12 4 6
    (ofA (bytes "p cnf 2 1\n1 2 0\n") ∷ᴸ ofA (strike 0 []ᴸ) ∷ᴸ ofA (over 1 0 1 (rup_line 2 []ᴸ)) ∷ᴸ ofB (bytes "p cnf 1 1\n1 0\n") ∷ᴸ
    ofB []ᴸ ∷ᴸ ofB end ∷ᴸ []ᴸ)
    (say 35 16 0 0 2 ∷ᴸ say 10 3 0 0 2 ∷ᴸ say 10 3 0 0 2 ∷ᴸ say 35 14 0 0 1 ∷ᴸ say 10 0 0 0 1 ∷ᴸ say 10 0 0 0 1 ∷ᴸ []ᴸ)
    (leave (entry 2 0 1 ∷ᴸ entry 1 2 1 ∷ᴸ entry 1 0 1 ∷ᴸ []ᴸ)
    (3 ∷ᴸ []ᴸ) (1 ∷ᴸ []ᴸ) (4 ∷ᴸ []ᴸ) (0 ∷ᴸ []ᴸ))

-- 11 just after the line, before 13; 11 after the end record.
abbrev session-7 : Session
session-7 =
    plays 20 4 14
    (ofA (bytes "p cnf 2 1\n1 2 0\n") ∷ᴸ ofB (bytes "p cnf 2 4\n1 2 0\n-1 2 0\n1 -2 0\n-1 -2 0\n") ∷ᴸ ofA (rup_line 9 end) ∷ᴸ
    ofB (0x45 ∷ᴸ end) ∷ᴸ ofA end ∷ᴸ []ᴸ)
    (say 35 16 0 0 2 ∷ᴸ say 35 38 0 0 6 ∷ᴸ say 11 3 0 0 2 ∷ᴸ say 11 1 0 0 6 ∷ᴸ say 11 3 0 0 2 ∷ᴸ []ᴸ)
    (leave (entry 2 0 1 ∷ᴸ entry 1 2 1 ∷ᴸ entry 1 1 2 ∷ᴸ entry 2 1 0 ∷ᴸ entry 1 5 1 ∷ᴸ entry 1 1 5 ∷ᴸ []ᴸ)
    (3 ∷ᴸ []ᴸ) (0 ∷ᴸ []ᴸ) (3 ∷ᴸ 4 ∷ᴸ 6 ∷ᴸ 7 ∷ᴸ []ᴸ) (0 ∷ᴸ 0 ∷ᴸ 0 ∷ᴸ 0 ∷ᴸ []ᴸ))

-- A witness and its PR line in one call; a witness that waits at the end of the next is 16.
abbrev session-8 : Session
session-8 =
    plays 12 4 6
    (ofA (bytes "p cnf 2 1\n1 2 0\n") ∷ᴸ ofA (over 1 0 1 (84 ∷ᴸ 1 ∷ᴸ (pr_line 2 []ᴸ))) ∷ᴸ ofA (70 ∷ᴸ 1 ∷ᴸ end) ∷ᴸ ofA end ∷ᴸ []ᴸ)
    (say 35 16 0 0 2 ∷ᴸ say 35 11 1 0 4 ∷ᴸ say 16 2 1 0 4 ∷ᴸ say 16 2 1 0 4 ∷ᴸ []ᴸ)
    (leave (entry 2 0 1 ∷ᴸ entry 1 2 1 ∷ᴸ entry 1 0 1 ∷ᴸ []ᴸ)
    (3 ∷ᴸ 4 ∷ᴸ []ᴸ) (0 ∷ᴸ 0 ∷ᴸ []ᴸ) []ᴸ []ᴸ)

-- Refused formulas: 5 and 2; the later calls repeat them, whatever their bytes.
abbrev session-9 : Session
session-9 =
    plays 8 3 3
    (ofA (bytes "p cnf 1 2\n1 0\n") ∷ᴸ ofB (bytes "p cnf 65 1\n1 0\n") ∷ᴸ ofA (bytes "p cnf 1 1\n1 0\n") ∷ᴸ ofB end ∷ᴸ []ᴸ)
    (say 5 14 0 0 1 ∷ᴸ say 2 0 0 0 0 ∷ᴸ say 5 14 0 0 1 ∷ᴸ say 2 0 0 0 0 ∷ᴸ []ᴸ)
    (leave []ᴸ
    []ᴸ []ᴸ []ᴸ []ᴸ)

-- 12 by the book's own header, whatever the other book's names; 13, 14.
abbrev session-10 : Session
session-10 =
    plays 14 4 8
    (ofA (bytes "p cnf 1 1\n1 0\n") ∷ᴸ ofB (bytes "p cnf 2 4\n1 2 0\n-1 2 0\n1 -2 0\n-1 -2 0\n") ∷ᴸ
    ofA (over 2 0 1 (rup_line 2 []ᴸ)) ∷ᴸ ofB (over 2 0 1 (over 2 0 2 (rup_line 2 []ᴸ))) ∷ᴸ ofB end ∷ᴸ []ᴸ)
    (say 35 14 0 0 1 ∷ᴸ say 35 38 0 0 6 ∷ᴸ say 12 0 0 0 1 ∷ᴸ say 14 6 0 0 6 ∷ᴸ say 14 6 0 0 6 ∷ᴸ []ᴸ)
    (leave (entry 1 0 1 ∷ᴸ entry 2 0 1 ∷ᴸ entry 1 3 1 ∷ᴸ entry 1 1 3 ∷ᴸ entry 2 1 0 ∷ᴸ entry 1 6 1 ∷ᴸ entry 1 1 6 ∷ᴸ []ᴸ)
    (2 ∷ᴸ []ᴸ) (0 ∷ᴸ []ᴸ) (4 ∷ᴸ 5 ∷ᴸ 7 ∷ᴸ 8 ∷ᴸ []ᴸ) (0 ∷ᴸ 0 ∷ᴸ 0 ∷ᴸ 0 ∷ᴸ []ᴸ))

-- 19, and 14 once the call has placed a node; both are repeated.
abbrev session-11 : Session
session-11 =
    plays 24 12 10
    (ofA (bytes "p cnf 2 4\n1 2 0\n-1 2 0\n1 -2 0\n-1 -2 0\n") ∷ᴸ ofB (bytes "p cnf 2 2\n1 2 0\n-1 -2 0\n") ∷ᴸ ofA (rup_line 0 []ᴸ) ∷ᴸ
    ofB (over 1 0 1 (over 2 1 2 (rup_line 1 []ᴸ))) ∷ᴸ ofA end ∷ᴸ []ᴸ)
    (say 35 38 0 0 6 ∷ᴸ say 35 24 0 0 4 ∷ᴸ say 19 0 0 0 6 ∷ᴸ say 14 6 0 0 5 ∷ᴸ say 19 0 0 0 6 ∷ᴸ []ᴸ)
    (leave (entry 2 0 1 ∷ᴸ entry 1 2 1 ∷ᴸ entry 1 1 2 ∷ᴸ entry 2 1 0 ∷ᴸ entry 1 5 1 ∷ᴸ entry 1 1 5 ∷ᴸ []ᴸ)
    (3 ∷ᴸ 4 ∷ᴸ 6 ∷ᴸ 7 ∷ᴸ []ᴸ) (0 ∷ᴸ 0 ∷ᴸ 0 ∷ᴸ 0 ∷ᴸ []ᴸ) (3 ∷ᴸ 7 ∷ᴸ []ᴸ) (0 ∷ᴸ 0 ∷ᴸ []ᴸ))

-- 20 and 17 bind; a later line changes nothing.
abbrev session-12 : Session
session-12 =
    plays 24 12 10
    (ofA (bytes "p cnf 2 1\n1 2 0\n") ∷ᴸ ofB (bytes "p cnf 2 2\n1 2 0\n-1 -2 0\n") ∷ᴸ ofA end ∷ᴸ ofB (rup_line 1 []ᴸ) ∷ᴸ
    ofA (over 1 0 1 (rup_line 2 []ᴸ)) ∷ᴸ []ᴸ)
    (say 35 16 0 0 2 ∷ᴸ say 35 24 0 0 4 ∷ᴸ say 20 0 0 0 2 ∷ᴸ say 17 0 0 0 4 ∷ᴸ say 20 0 0 0 2 ∷ᴸ []ᴸ)
    (leave (entry 2 0 1 ∷ᴸ entry 1 2 1 ∷ᴸ entry 2 1 0 ∷ᴸ entry 1 1 4 ∷ᴸ []ᴸ)
    (3 ∷ᴸ []ᴸ) (0 ∷ᴸ []ᴸ) (3 ∷ᴸ 5 ∷ᴸ []ᴸ) (0 ∷ᴸ 0 ∷ᴸ []ᴸ))

-- The sessions, as an independent checker plays them too (rust/reference: `open`, `book`, `dump`).
abbrev pub sessions : List Session
sessions =
    session-1
    ∷ᴸ session-2
    ∷ᴸ session-3
    ∷ᴸ session-4
    ∷ᴸ session-5
    ∷ᴸ session-6
    ∷ᴸ session-7
    ∷ᴸ session-8
    ∷ᴸ session-9
    ∷ᴸ session-10
    ∷ᴸ session-11
    ∷ᴸ session-12
    ∷ᴸ []ᴸ

-- ---- kept numbers at their limits and beyond

-- A book of one clause, which is node 2, with a share of 3: how many variables, clauses, lines, rounds, charge and peak are kept.
abbrev kept : ℕ → ℕ → ℕ → ℕ → ℕ → ℕ → Book
kept variables clauses lines rounds charge peak = record {
  share = 3;
  stage = Lines;
  variables = variables;
  clauses = clauses;
  lines = lines;
  rounds = rounds;
  charge = charge;
  peak = peak;
  refuted = false;
}

abbrev holds : Book → List ℕ → List ℕ → List ℕ → Holding
holds b members struck own = record { book = b; members = members; struck = struck; own = own }

-- x1; not-x1; x2.
abbrev three : List Node
three = blank ∷ᴸ blank ∷ᴸ entry 1 0 1 ∷ᴸ entry 1 1 0 ∷ᴸ entry 2 0 1 ∷ᴸ []ᴸ

-- The number of a call that is the end record alone: 20 where the tests are passed.
pub record Limit : Type 0 where
  pub size : ℕ
  pub held : Holding
  pub number : ℕ

abbrev at : ℕ → Holding → ℕ → Limit
at size held number = record { size = size; held = held; number = number }

abbrev pub Limits : List Limit → Type 0
Limits []ᴸ = Unit {0}
Limits (x ∷ᴸ xs) = ((book_call 4 x.size three x.held end).answer.number ≡ x.number) × Limits xs

-- Node 2 alone, and one mark 0.
abbrev one : List ℕ
one = 2 ∷ᴸ []ᴸ

abbrev none : List ℕ
none = 0 ∷ᴸ []ᴸ

-- "one of its members not below the count or with a mark above 1, kept variables, clauses, lines or rounds above 64, 1,024, 1,024 or
-- 268,435,456, a kept charge or peak above its share, or fewer free places than its share less its charge"
abbrev pub limits : List Limit
limits =
    at 8 (holds (kept 1 1 0 0 1 1) one none one) 20
    ∷ᴸ at 8 (holds (kept 1 1 0 0 1 1) (4 ∷ᴸ []ᴸ) none one) 20
    ∷ᴸ at 8 (holds (kept 1 1 0 0 1 1) (5 ∷ᴸ []ᴸ) none one) 26
    ∷ᴸ at 8 (holds (kept 1 1 0 0 1 1) one (1 ∷ᴸ []ᴸ) one) 20
    ∷ᴸ at 8 (holds (kept 1 1 0 0 1 1) one (2 ∷ᴸ []ᴸ) one) 26
    ∷ᴸ at 8 (holds (kept 64 1 0 0 1 1) one none one) 20
    ∷ᴸ at 8 (holds (kept 65 1 0 0 1 1) one none one) 26
    ∷ᴸ at 8 (holds (kept 1 1024 0 0 1 1) one none one) 20
    ∷ᴸ at 8 (holds (kept 1 1025 0 0 1 1) one none one) 26
    ∷ᴸ at 8 (holds (kept 1 1 1024 0 1 1) one none one) 20
    ∷ᴸ at 8 (holds (kept 1 1 1025 0 1 1) one none one) 26
    ∷ᴸ at 8 (holds (kept 1 1 0 268435456 1 1) one none one) 20
    ∷ᴸ at 8 (holds (kept 1 1 0 268435457 1 1) one none one) 26
    ∷ᴸ at 8 (holds (kept 1 1 0 0 3 1) one none one) 20
    ∷ᴸ at 8 (holds (kept 1 1 0 0 4 1) one none one) 26
    ∷ᴸ at 8 (holds (kept 1 1 0 0 1 3) one none one) 20
    ∷ᴸ at 8 (holds (kept 1 1 0 0 1 4) one none one) 26
    ∷ᴸ at 7 (holds (kept 1 1 0 0 1 1) one none one) 20
    ∷ᴸ at 6 (holds (kept 1 1 0 0 1 1) one none one) 26
    ∷ᴸ at 6 (holds (kept 1 1 0 0 2 2) one none (2 ∷ᴸ 3 ∷ᴸ []ᴸ)) 20
    ∷ᴸ []ᴸ

-- ---- openings

abbrev lists : BookLists
lists = record { members = zeros 2048; struck = zeros 2048; own = zeros 8 }

-- The number of an opening with a table of 8 places and such a scratch list.
abbrev pub opening_number : ℕ → ℕ → ℕ → ℕ
opening_number scratch share_a share_b =
    (open_outcome (columns_made (zeros 8) (zeros 8) (zeros 8) (zeros 16) (zeros 8)) 0 lists lists (zeros scratch) (opened_book 0)
    (opened_book 0)
    share_a share_b).answer.number
