-- DIMACS CNF: which texts say a formula, and which formula. (01, The formula; 02, 1/14) No call open to others cites this file: the
-- theorems on the reader do.
use Rattle.std.specs.Prelude.{◌≡◌, List, [], ◌∷◌, ℕ, ◌≤◌, length}
use Rattle.meaning.specs.Operations as meaning
use Rattle.grammar.specs.Parts.{Blank, blanks, Spaces, spacing, Comment, comment, comments, Piece, gap, Parting, parting}
use Rattle.grammar.specs.Parts.{Number, number, number_value, Signed, signed, literal}

-- ---- the header

-- "Before the header: blank lines (spaces, tabs, CR at most) and lines beginning with `c`."
pub data Passed : Type 0 where
  blank_line : List Blank → Passed
  comment_line : Comment → Passed

abbrev pub passed_line : Passed → List ℕ → List ℕ
passed_line (blank_line bs) r = blanks bs r
passed_line (comment_line c) r = comment c r

abbrev pub passed : List Passed → List ℕ → List ℕ
passed [] r = r
passed (l ∷ ls) r = passed_line l (10 ∷ passed ls r)

-- "The header line is `p`, `cnf`, variables, clauses, parted by spaces or tabs; `p` stands first in its line and only spaces, tabs or CR
-- may follow."
pub record HeaderLine : Type 0 where
  pub behind_p : Spaces
  pub behind_cnf : Spaces
  pub variables : Number
  pub behind_variables : Spaces
  pub clauses : Number
  pub behind_clauses : List Blank

abbrev pub header_line : HeaderLine → List ℕ → List ℕ
header_line h r =
    let numbers = number h.variables (spacing h.behind_variables (number h.clauses (blanks h.behind_clauses r))) in
    let cnf : List ℕ = 99 ∷ 110 ∷ 102 ∷ spacing h.behind_cnf numbers in 112 ∷ spacing h.behind_p cnf

-- The header's line ends behind it: with an LF or with the text.
abbrev pub LineEnds : List ℕ → Type 0
LineEnds [] = Unit {0}
LineEnds (b ∷ bs) = b ≡ 10

-- ---- the clauses

-- A literal and what parts it from the next token.
pub record Item : Type 0 where
  pub said : Signed
  pub behind : Parting

-- "each clause closed by `0`"
abbrev pub clause : List Item → List ℕ → List ℕ
clause [] r = 48 ∷ r
clause (i ∷ is) r = signed i.said (parting i.behind (clause is r))

abbrev pub literals : List Item → List meaning.Literal
literals [] = []
literals (i ∷ is) = literal i.said ∷ literals is

-- What comes behind the last clause; a comment that is the text's last line may lack its LF.
pub data Ending : Type 0 where
  plain : List Piece → Ending
  last_comment : List Piece → List Comment → Comment → Ending

abbrev pub ending : Ending → List ℕ
ending (plain g) = gap g []
ending (last_comment g cs c) = gap g (10 ∷ comments cs (comment c []))

-- "Then literals parted by space, tab, CR or LF, each clause closed by `0`."
pub data Body : Type 0 where
  end : Ending → Body
  clause_then : Parting → List Item → Body → Body

abbrev pub body : Body → List ℕ
body (end e) = ending e
body (clause_then p is b) = parting p (clause is (body b))

abbrev pub clauses : Body → List (List meaning.Literal)
clauses (end e) = []
clauses (clause_then p is b) = literals is ∷ clauses b

-- ---- the formula

-- No literal lies beyond the header.
abbrev pub Within : ℕ → List meaning.Literal → Type 0
Within n [] = Unit {0}
Within n (l ∷ ls) = (l.variable ≤ n) × Within n ls

abbrev pub AllWithin : ℕ → List (List meaning.Literal) → Type 0
AllWithin n [] = Unit {0}
AllWithin n (c ∷ cs) = Within n c × AllWithin n cs

-- The text s says the formula of n variables and the clauses cs: as many as the header says, and "at most 64 variables, 1,024 clauses".
pub record Dimacs (s : List ℕ) (n : ℕ) (cs : List (List meaning.Literal)) : Type 0 where
  pub before : List Passed
  pub line : HeaderLine
  pub behind : Body
  pub is : s ≡ passed before (header_line line (body behind))
  pub line_ends : LineEnds (body behind)
  pub variables : number_value line.variables ≡ n
  pub count : number_value line.clauses ≡ length cs
  pub are : clauses behind ≡ cs
  pub small : n ≤ 64
  pub few : length cs ≤ 1024
  pub within : AllWithin n cs
