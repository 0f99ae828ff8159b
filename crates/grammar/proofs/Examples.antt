-- Texts of the grammar with CRLF, spacing of all kinds, comments in an open clause and no LF at the end, printed and read; and texts that
-- are no DIMACS. By computation. Assumes nothing.
use mathlib.Core.Path.{◌≡◌, refl}
use mathlib.Core.Bool.{true, false}
use mathlib.Core.List.{List, [] as []ᴸ, ◌∷◌ as ◌∷ᴸ◌}
use Prim.Native.Nat.{ℕ, ◌≤◌}
use Prim.Native.String.{String}
use native.Mathlib.Omega.{arith}
use Rattle.meaning.specs.Operations.{Literal}
use Rattle.dimacs.specs.Clauses.{formula, clause, complete}
use Rattle.grammar.specs.Parts.{space, tab, spaced, carriage, Spaces, Comment, Piece, blank, new_line, Parting, Decimal, nought}
use Rattle.grammar.specs.Parts.{positive}
use Rattle.grammar.specs.Formula.{blank_line, comment_line, Item, plain, last_comment, end, clause_then, Dimacs}
use Rattle.grammar.specs.Reads.{Gives}
use Rattle.grammar.proofs.Exact.{formula-exactly}
use Rattle.dimacs.specs.Texts.{bytes, plus, minus}

-- ---- parts

abbrev one : Spaces
one = record { first = space; more = []ᴸ }

abbrev digit : (d : ℕ) → 1 ≤ d → d ≤ 9 → Decimal
digit d h k = record { first = d; more = []ᴸ; least = h; most = k; are_digits = tt }

abbrev 1ᵈ : Decimal
1ᵈ = digit 1 (omega arith) (omega arith)

abbrev 2ᵈ : Decimal
2ᵈ = digit 2 (omega arith) (omega arith)

abbrev 12ᵈ : Decimal
12ᵈ = record { first = 1; more = 2 ∷ᴸ []ᴸ; least = omega arith; most = omega arith; are_digits = (omega arith, tt) }

abbrev behind : Piece → List Piece → Parting
behind p g = record { first = p; more = g }

abbrev blank_piece : Piece
blank_piece = blank (spaced space)

abbrev line_break : Parting
line_break = behind (blank carriage) (new_line []ᴸ ∷ᴸ []ᴸ)

abbrev positively : Decimal → Parting → Item
positively m p = record { said = record { is_positive = true; magnitude = m }; behind = p }

abbrev negatively : Decimal → Parting → Item
negatively m p = record { said = record { is_positive = false; magnitude = m }; behind = p }

-- ---- texts of the grammar

-- CR before each LF, a comment and a blank line before the header.
windows : Dimacs (bytes "c x\r\n \t\r\np cnf 2 2\r\n1 -2 0\r\n2 0\r\n") 2 ((plus 1 ∷ᴸ minus 2 ∷ᴸ []ᴸ) ∷ᴸ (plus 2 ∷ᴸ []ᴸ) ∷ᴸ []ᴸ)
windows = record {
  before = comment_line (record {
    bytes = bytes " x\r";
    in_line =
        (λ e. absurd (omega arith), (λ e. absurd (omega arith), (λ e. absurd (omega arith), tt)));
  })
      ∷ᴸ blank_line (spaced space ∷ᴸ spaced tab ∷ᴸ carriage ∷ᴸ []ᴸ) ∷ᴸ []ᴸ;
  line = record {
    behind_p = one;
    behind_cnf = one;
    variables = positive 2ᵈ;
    behind_variables = one;
    clauses = positive 2ᵈ;
    behind_clauses = carriage ∷ᴸ []ᴸ;
  };
  behind = clause_then (behind (new_line []ᴸ) []ᴸ) (positively 1ᵈ (behind blank_piece []ᴸ) ∷ᴸ negatively 2ᵈ (behind blank_piece []ᴸ) ∷ᴸ []ᴸ)
      (clause_then line_break (positively 2ᵈ (behind blank_piece []ᴸ) ∷ᴸ []ᴸ) (end (plain (blank carriage ∷ᴸ new_line []ᴸ ∷ᴸ []ᴸ))));
  is = refl;
  line_ends = refl;
  variables = refl;
  count = refl;
  are = refl;
  small = omega arith;
  few = omega arith;
  within = ((omega arith, (omega arith, tt)), ((omega arith, tt), tt));
}

windows-read : formula (bytes "c x\r\n \t\r\np cnf 2 2\r\n1 -2 0\r\n2 0\r\n")
    ≡ clause (plus 1 ∷ᴸ minus 2 ∷ᴸ []ᴸ) 20 (clause (plus 2 ∷ᴸ []ᴸ) 28 complete)
unfolding formula
windows-read = refl

-- Tabs, a clause over lines with comment lines inside it, an empty clause, and a comment without LF at the end.
abbrev zero_comment : Comment
zero_comment = record { bytes = bytes " 0"; in_line = (λ e. absurd (omega arith), (λ e. absurd (omega arith), tt)) }

abbrev bare_comment : Comment
bare_comment = record { bytes = []ᴸ; in_line = tt }

mixed : Dimacs (bytes "p\tcnf  12 2 \n1\nc 0\nc\n-12 0\t0\nc 0") 12 ((plus 1 ∷ᴸ minus 12 ∷ᴸ []ᴸ) ∷ᴸ []ᴸ ∷ᴸ []ᴸ)
mixed = record {
  before = []ᴸ;
  line = record {
    behind_p = record { first = tab; more = []ᴸ };
    behind_cnf = record { first = space; more = space ∷ᴸ []ᴸ };
    variables = positive 12ᵈ;
    behind_variables = one;
    clauses = positive 2ᵈ;
    behind_clauses = spaced space ∷ᴸ []ᴸ;
  };
  behind = clause_then (behind (new_line []ᴸ) []ᴸ)
      (positively 1ᵈ (behind (new_line (zero_comment ∷ᴸ bare_comment ∷ᴸ []ᴸ)) []ᴸ) ∷ᴸ negatively 12ᵈ (behind blank_piece []ᴸ) ∷ᴸ []ᴸ)
      (clause_then (behind (blank (spaced tab)) []ᴸ) []ᴸ (end (last_comment []ᴸ []ᴸ zero_comment)));
  is = refl;
  line_ends = refl;
  variables = refl;
  count = refl;
  are = refl;
  small = omega arith;
  few = omega arith;
  within = ((omega arith, (omega arith, tt)), (tt, tt));
}

mixed-read : formula (bytes "p\tcnf  12 2 \n1\nc 0\nc\n-12 0\t0\nc 0") ≡ clause (plus 1 ∷ᴸ minus 12 ∷ᴸ []ᴸ) 13 (clause []ᴸ 27 complete)
unfolding formula
mixed-read = refl

-- "Zero variables and zero clauses are allowed."
none : Dimacs (bytes "p cnf 0 0") 0 []ᴸ
none = record {
  before = []ᴸ;
  line = record { behind_p = one; behind_cnf = one; variables = nought; behind_variables = one; clauses = nought; behind_clauses = []ᴸ };
  behind = end (plain []ᴸ);
  is = refl;
  line_ends = tt;
  variables = refl;
  count = refl;
  are = refl;
  small = omega arith;
  few = omega arith;
  within = tt;
}

-- ---- texts that are no DIMACS, whatever the clauses

abbrev Not : String → Type 0
Not text = (n : ℕ) (cs : List (List Literal)) → Dimacs (bytes text) n cs → ⊥

-- The reading ends in a refusal.
refused : (text : String) → ((cs : List (List Literal)) → Gives cs (formula (bytes text)) → ⊥) → Not text
refused text h n cs D = h cs ((formula-exactly (bytes text) cs).1 n D)

-- A leading zero; a `c` behind a CR, where no line starts; a minus before `0`.
leading-zero : Not "p cnf 1 1\n01 0\n"
unfolding formula
leading-zero = refused "p cnf 1 1\n01 0\n" (λ cs g. go cs g)
  where
    go : (cs : List (List Literal)) → Gives cs (formula (bytes "p cnf 1 1\n01 0\n")) → ⊥
    go []ᴸ g = g
    go (c ∷ᴸ cs) g = g

behind-return : Not "p cnf 1 1\n1 0\rc 1 0\n"
unfolding formula
behind-return = refused "p cnf 1 1\n1 0\rc 1 0\n" (λ cs g. go cs g)
  where
    go : (cs : List (List Literal)) → Gives cs (formula (bytes "p cnf 1 1\n1 0\rc 1 0\n")) → ⊥
    go []ᴸ g = g
    go (c ∷ᴸ []ᴸ) g = g.1
    go (c ∷ᴸ d ∷ᴸ cs) g = g.1

minus-zero : Not "p cnf 1 1\n1 -0\n"
unfolding formula
minus-zero = refused "p cnf 1 1\n1 -0\n" (λ cs g. go cs g)
  where
    go : (cs : List (List Literal)) → Gives cs (formula (bytes "p cnf 1 1\n1 -0\n")) → ⊥
    go []ᴸ g = g
    go (c ∷ᴸ cs) g = g
