-- Every formula within the limits has a text, which is read back as that formula: each number a numeral, single spaces, a line for each
-- clause. The idea: the numeral of a number's successor is its numeral raised by one, from the last digit on. Assumes nothing.
use mathlib.Core.Path.{◌≡◌, refl, ap, ap₂, sym, ◌∙◌}
use mathlib.Core.List.{List, [], ◌∷◌}
use Prim.Native.Nat.{ℕ, zero, suc, ◌*◌, ◌^◌, ◌≤◌}
use native.Mathlib.Omega.{arith}
use native.Mathlib.Nat.{suc-mul, zero-mul, pow-succ'}
use native.Mathlib.Decide.{dec_lt}
use lib.ListN.{length, replicate, length-replicate}
use Rattle.meaning.specs.Operations as meaning
use Rattle.grammar.specs.Parts.{Digits, worth, Decimal, decimal_value, Number, nought, positive, number_value, Spaces, space, spaced}
use Rattle.grammar.specs.Parts.{blank, new_line, Parting, literal}
use Rattle.grammar.specs.Formula.{passed, HeaderLine, header_line, LineEnds, Item, literals, plain, Body, end, clause_then, body}
use Rattle.grammar.specs.Formula.{clauses, Within, AllWithin, Dimacs}
use Rattle.grammar.specs.Reads.{Reads}
use Rattle.grammar.proofs.Exact.{print-and-read}
use Rattle.meaning.specs.Literals.{OfVariables}

-- ---- numerals

abbrev noughts : ℕ → List ℕ
noughts k = replicate k 0

noughts-length : (k : ℕ) → length (noughts k) ≡ k
noughts-length k = length-replicate {A = ℕ} k 0

noughts-digits : (k : ℕ) → Digits (noughts k)
noughts-digits zero = tt
noughts-digits (suc k) = (omega arith, noughts-digits k)

noughts-worth : (k : ℕ) → worth (noughts k) ≡ 0
noughts-worth zero = refl
noughts-worth (suc k) = omega (arith, zero-mul (10 ^ length (noughts k)), noughts-worth k)

-- As many digits, worth one more; or all of them are 9.
data Raised (ds : List ℕ) : Type 0 where
  raised : (es : List ℕ) → Digits es → length es ≡ length ds → worth es ≡ suc (worth ds) → Raised ds
  over : suc (worth ds) ≡ 10 ^ length ds → Raised ds

-- The digit d before k noughts.
round-worth : (d k : ℕ) → worth (d ∷ noughts k) ≡ d * 10 ^ k
round-worth d k = omega (arith, ap (λ (m : ℕ). d * 10 ^ m) (noughts-length k), noughts-worth k)

raise-digit : (d : ℕ) (ds : List ℕ) → d ≤ 9 → Raised ds → Raised (d ∷ ds)
raise-digit d ds h (raised es e l w) = raised (d ∷ es) (h, e) (ap suc l) (omega (arith, ap (λ (m : ℕ). d * 10 ^ m) l, w))
raise-digit d ds h (over o) = elim (dec_lt d 9) [
  | yes lt ↦ raised (suc d ∷ noughts (length ds)) (omega arith, noughts-digits (length ds)) (ap suc (noughts-length (length ds)))
      (omega (arith, round-worth (suc d) (length ds), suc-mul d (10 ^ length ds), o))
  | no ge ↦ let nine : d ≡ 9 = omega (arith, ge) in over
      (omega (arith, ap (λ (x : ℕ). x * 10 ^ length ds) nine, pow-succ' 10 (length ds), o))
]

raise : (ds : List ℕ) → Digits ds → Raised ds
raise [] h = over refl
raise (d ∷ ds) h = raise-digit d ds h.0 (raise ds h.1)

-- The numeral of the next number.
next-decimal : (m : Decimal) → Raised m.more → (k : Decimal) × (decimal_value k ≡ suc (decimal_value m))
next-decimal m (raised es e l w) = (
  record { first = m.first; more = es; least = m.least; most = m.most; are_digits = e },
  omega (arith, ap (λ (j : ℕ). m.first * 10 ^ j) l, w),
)
next-decimal m (over o) =
    let k = length m.more in
    elim (dec_lt m.first 9) [
      | yes lt ↦ (
        record { first = suc m.first; more = noughts k; least = omega arith; most = omega arith; are_digits = noughts-digits k },
        omega (arith, round-worth (suc m.first) k, suc-mul m.first (10 ^ k), o),
      )
      | no ge ↦ let nine : m.first ≡ 9 = omega (arith, ge, m.most) in (
        record { first = 1; more = noughts (suc k); least = omega arith; most = omega arith; are_digits = noughts-digits (suc k) },
        omega (arith, round-worth 1 (suc k), ap (λ (x : ℕ). x * 10 ^ k) nine, pow-succ' 10 k, o),
      )
    ]

numeral-from : (v : ℕ) → (m : Decimal) × (decimal_value m ≡ suc v)
numeral-from zero = (record { first = 1; more = []; least = omega arith; most = omega arith; are_digits = tt }, refl)
numeral-from (suc v) =
    let m = numeral-from v in
    let k = next-decimal m.0 (raise m.0.more m.0.are_digits) in (k.0, k.1 ∙ ap suc m.1)

-- Every number has a numeral.
numeral : (v : ℕ) → (x : Number) × (number_value x ≡ v)
numeral zero = (nought, refl)
numeral (suc v) = let m = numeral-from v in (positive m.0, m.1)

-- ---- clauses

abbrev pub AllProper : ℕ → List (List meaning.Literal) → Type 0
AllProper n [] = Unit {0}
AllProper n (c ∷ cs) = OfVariables n c × AllProper n cs

within : (n : ℕ) (c : List meaning.Literal) → OfVariables n c → Within n c
within n [] h = tt
within n (l ∷ c) h = (h.1, within n c h.2)

all-within : (n : ℕ) (cs : List (List meaning.Literal)) → AllProper n cs → AllWithin n cs
all-within n [] h = tt
all-within n (c ∷ cs) h = (within n c h.0, all-within n cs h.1)

abbrev line : Parting
line = record { first = new_line []; more = [] }

literal-item : (l : meaning.Literal) (v : ℕ) → l.variable ≡ suc v → (i : Item) × (literal i.said ≡ l)
literal-item l v e =
    let m = numeral-from v in (
      record { said = record { is_positive = l.positive; magnitude = m.0 }; behind = record { first = blank (spaced space); more = [] } },
      ap (λ (x : ℕ). record { variable = x; positive = l.positive }) (m.1 ∙ sym e),
    )

predecessor : (v : ℕ) → 1 ≤ v → (u : ℕ) × (v ≡ suc u)
predecessor zero h = absurd (omega arith)
predecessor (suc v) h = (v, refl)

items : (n : ℕ) (c : List meaning.Literal) → OfVariables n c → (is : List Item) × (literals is ≡ c)
items n [] h = ([], refl)
items n (l ∷ c) h =
    let u = predecessor l.variable h.0 in
    let i = literal-item l u.0 u.1 in
    let rest = items n c h.2 in
    (i.0 ∷ rest.0, ap₂ (λ (x : meaning.Literal) (y : List meaning.Literal). x ∷ y) i.1 rest.1)

lines : (n : ℕ) (cs : List (List meaning.Literal)) → AllProper n cs → (b : Body) × (clauses b ≡ cs) × LineEnds (body b)
lines n [] h = (end (plain (new_line [] ∷ [])), refl, refl)
lines n (c ∷ cs) h =
    let is = items n c h.0 in
    let rest = lines n cs h.1 in
    (clause_then line is.0 rest.0, ap₂ (λ (x : List meaning.Literal) (y : List (List meaning.Literal)). x ∷ y) is.1 rest.1, refl)

-- ---- the formula

-- Every formula of at most 64 variables and 1,024 clauses has a DIMACS text.
pub written : (n : ℕ) (cs : List (List meaning.Literal)) → n ≤ 64 → length cs ≤ 1024 → AllProper n cs → (s : List ℕ) × Dimacs s n cs
written n cs small few h =
    let one : Spaces = record { first = space; more = [] } in
    let v = numeral n in
    let c = numeral (length cs) in
    let b = lines n cs h in
    let header : HeaderLine = record {
      behind_p = one;
      behind_cnf = one;
      variables = v.0;
      behind_variables = one;
      clauses = c.0;
      behind_clauses = [];
    } in (
      passed [] (header_line header (body b.0)),
      record {
        before = [];
        line = header;
        behind = b.0;
        is = refl;
        line_ends = b.2;
        variables = v.1;
        count = c.1;
        are = b.1;
        small = small;
        few = few;
        within = all-within n cs h;
      },
    )

-- What is written so is read back: the same variables, the same clauses, nothing refused.
pub read-after-write : (n : ℕ) (cs : List (List meaning.Literal)) (small : n ≤ 64) (few : length cs ≤ 1024) (h : AllProper n cs)
    → Reads (written n cs small few h).0 n cs
read-after-write n cs small few h = print-and-read (written n cs small few h).0 n cs (written n cs small few h).1
