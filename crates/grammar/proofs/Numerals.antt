-- A number has one numeral: digits that start with no 0 and have the same worth are the same digits. The idea: k digits are worth less than
-- ten to the k, and with a first digit that is no 0 not less than a tenth of that. Assumes nothing.
use mathlib.Core.Path.{◌≡◌, refl, ap, ap₂, sym, ◌∙◌}
use mathlib.Core.List.{List, [], ◌∷◌}
use Prim.Native.Nat.{ℕ, suc, ◌+◌, ◌*◌, ◌^◌, ◌≤◌, ◌<◌}
use native.Mathlib.Omega.{arith}
use native.Mathlib.Nat.{suc-mul, pow-succ', mul-le-mul_right, pow-le-pow_right, one-le-pow}
use native.Mathlib.Decide.{dec_lt}
use lib.ListN.{length}
use Rattle.grammar.specs.Parts.{Digits, digits, worth, Decimal, decimal_value, Number, nought, positive, number, number_value}

worth-most : (ds : List ℕ) → Digits ds → worth ds < 10 ^ length ds
worth-most [] h = omega arith
worth-most (d ∷ ds) h =
    let nine : d * 10 ^ length ds ≤ 9 * 10 ^ length ds = mul-le-mul_right (10 ^ length ds) h.0 in
    omega (arith, pow-succ' 10 (length ds), worth-most ds h.1)

-- A digit and what is behind it, less than its unit p, are told by their sum.
digit-less : (d e p w u : ℕ) → w < p → d < e → d * p + w ≡ e * p + u → ⊥
digit-less d e p w u h lt q =
    let more : suc d * p ≤ e * p = mul-le-mul_right p lt in omega (arith, suc-mul d p)

digit-same : (d e p w u : ℕ) → w < p → u < p → d * p + w ≡ e * p + u → d ≡ e
digit-same d e p w u h k q = elim (dec_lt d e) [
  | yes lt ↦ absurd (digit-less d e p w u h lt q)
  | no ge ↦ elim (dec_lt e d) [
    | yes lt ↦ absurd (digit-less e d p u w k lt (sym q))
    | no le ↦ omega (arith, ge, le)
  ]
]

worth-same : (ds es : List ℕ) → Digits ds → Digits es → length ds ≡ length es → worth ds ≡ worth es → ds ≡ es
worth-same [] [] h k l q = refl
worth-same [] (e ∷ es) h k l q = absurd (omega arith)
worth-same (d ∷ ds) [] h k l q = absurd (omega arith)
worth-same (d ∷ ds) (e ∷ es) h k l q =
    let m : length ds ≡ length es = omega arith in
    let p = 10 ^ length ds in
    let u : worth es < p = rw m (worth-most es k.1) in
    let r : d * p + worth ds ≡ e * p + worth es = q ∙ ap (λ (j : ℕ). e * 10 ^ j + worth es) (sym m) in
    let same : d ≡ e = digit-same d e p (worth ds) (worth es) (worth-most ds h.1) u r in
    let rest : worth ds ≡ worth es = omega (arith, r, ap (λ (x : ℕ). x * p) same) in
    ap₂ (λ (x : ℕ) (xs : List ℕ). x ∷ xs) same (worth-same ds es h.1 k.1 m rest)

-- ---- numerals

decimal-least : (m : Decimal) → 10 ^ length m.more ≤ decimal_value m
decimal-least m =
    let one : 1 * 10 ^ length m.more ≤ m.first * 10 ^ length m.more = mul-le-mul_right (10 ^ length m.more) m.least in
    omega arith

decimal-most : (m : Decimal) → decimal_value m < 10 ^ suc (length m.more)
decimal-most m = worth-most (m.first ∷ m.more) (m.most, m.are_digits)

-- A longer numeral is worth more.
shorter : (m k : Decimal) → length m.more < length k.more → decimal_value m < decimal_value k
shorter m k lt =
    let grows : 10 ^ suc (length m.more) ≤ 10 ^ length k.more = pow-le-pow_right {n = 10} (omega arith) (omega arith) in
    omega (arith, decimal-least k, decimal-most m)

decimal-same : (m k : Decimal) → decimal_value m ≡ decimal_value k → m.first ∷ m.more ≡ k.first ∷ k.more
decimal-same m k e =
    let long : length m.more ≡ length k.more = elim (dec_lt (length m.more) (length k.more)) [
      | yes lt ↦ absurd (omega (arith, shorter m k lt))
      | no ge ↦ elim (dec_lt (length k.more) (length m.more)) [
        | yes lt ↦ absurd (omega (arith, shorter k m lt))
        | no le ↦ omega (arith, ge, le)
      ]
    ] in
    worth-same (m.first ∷ m.more) (k.first ∷ k.more) (m.most, m.are_digits) (k.most, k.are_digits) (ap suc long) e

decimal-some : (m : Decimal) → 1 ≤ decimal_value m
decimal-some m = omega (arith, decimal-least m, one-le-pow (length m.more) 10 (omega arith))

-- Numbers of the same value are printed by the same bytes.
pub one-numeral : (x y : Number) (r : List ℕ) → number_value x ≡ number_value y → number x r ≡ number y r
one-numeral nought nought r e = refl
one-numeral nought (positive k) r e = absurd (omega (arith, decimal-some k))
one-numeral (positive m) nought r e = absurd (omega (arith, decimal-some m))
one-numeral (positive m) (positive k) r e = ap (λ (ds : List ℕ). digits ds r) (decimal-same m k e)
