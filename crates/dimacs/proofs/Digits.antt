-- Numbers: what the code reads digit by digit, cut off above 1,024, is the number of the definition cut off. Cutting off after each
-- digit and at the end are one (`capped-after`), since ten times a number above 1,024 is above it too. Assumes nothing.
use mathlib.Core.Path.{◌≡◌, refl, ap, sym, ◌∙◌}
use mathlib.Core.Bool.{true, false, cond}
use mathlib.Core.List.{List, [], ◌∷◌}
use Prim.Native.Nat.{ℕ, suc, ◌+◌, ◌-◌, ◌*◌, ◌≤◌, ◌<◌, min}
use native.Mathlib.Omega.{arith}
use native.Mathlib.Numerals.{add-one}
use lib.ListN.{length, get_or}
use lib.Seq.{slice, slice_empty, slice-cons}
use lib.Dec.{ltb, leb, eqb}
use borrow.Author.Tests.{ltb-true, ltb-false, lt-ltb, eq-eqb, ne_eqb, eqb-true, leb-true}
use Rattle.std.specs.Prelude.{None, Some}
use Rattle.dimacs.specs.Numbers.{is_digit, all_digits, is_zero, is_digits, is_natural, value_after, value_of_digits}
use Rattle.dimacs.specs.Inner.{capped, digits_after, natural_of}
use Rattle.dimacs.proofs.Cases.{by, clash}

-- ---- digits

digit-bounds : (b : ℕ) → is_digit b ≡ true → (48 ≤ b) × (b ≤ 57)
digit-bounds b e =
    by (leb 48 b)
    (λ t. by (leb b 57) (λ u. (leb-true 48 b t, leb-true b 57 u)) (λ u. clash (sym e ∙ rw (t, u))))
    (λ f. clash (sym e ∙ rw f))

pub digit-least : (b : ℕ) → is_digit b ≡ true → 48 ≤ b
digit-least b e = (digit-bounds b e).0

pub digit-most : (b : ℕ) → is_digit b ≡ true → b ≤ 57
digit-most b e = (digit-bounds b e).1

-- ---- numbers cut off

pub capped-over : (v : ℕ) → 1024 < v → capped v ≡ 1025
capped-over v h = rw (lt-ltb 1024 v h)

pub capped-under : (v : ℕ) → v ≤ 1025 → capped v ≡ v
capped-under v h = by (ltb 1024 v) (λ t. rw t (let q : 1024 < v = ltb-true 1024 v t in omega arith)) (λ f. rw f)

pub capped-min : (m v : ℕ) → m ≡ v → capped v ≡ min m 1025
capped-min m v e = by (ltb 1024 v) (λ t. let q : 1024 < v = ltb-true 1024 v t in rw t (omega arith)) (λ f.
    let q : v ≤ 1024 = ltb-false 1024 v f in rw f (omega arith))

capped-step : (m d : ℕ) → capped (capped m * 10 + d) ≡ capped (m * 10 + d)
capped-step m d =
    by (ltb 1024 m)
    (λ t. let q : 1024 < m = ltb-true 1024 m t in rw t
    (capped-over (1025 * 10 + d) (omega arith) ∙ sym (capped-over (m * 10 + d) (omega arith))))
    (λ f. rw f)

capped-after : (bs : List ℕ) (m : ℕ) → capped (value_after (capped m) bs) ≡ capped (value_after m bs)
unfolding value_after
capped-after [] m = by (ltb 1024 m) (λ t. rw t) (λ f. rw (f, f))
capped-after (b ∷ bs) m =
    sym (capped-after bs (capped m * 10 + (b - 48))) ∙ ap (λ (x : ℕ). capped (value_after x bs)) (capped-step m (b - 48))
    ∙ capped-after bs (m * 10 + (b - 48))

-- ---- digits from `at` to `to`

module _ (s : List ℕ) (at to n : ℕ) where
  pub digits-end : at ≡ to → n ≤ 1025 → digits_after n (slice at to s) ≡ Some n
  unfolding all_digits value_after
  digits-end e h = rw (e, slice_empty to s) (ap Some (capped-under n h))

  pub digits-stop : at < to → to ≤ length s → is_digit (get_or s at 0) ≡ false → digits_after n (slice at to s) ≡ None
  unfolding all_digits value_after
  digits-stop h k e = rw (slice-cons at to s 0 h k, e)

  pub digits-go : (m : ℕ) → at < to → to ≤ length s → is_digit (get_or s at 0) ≡ true → m ≡ capped (n * 10 + (get_or s at 0 - 48))
      → digits_after n (slice at to s) ≡ digits_after m (slice (at + 1) to s)
  unfolding all_digits value_after
  digits-go m h k e is =
      rw (slice-cons at to s 0 h k, e, add-one, is)
      (ap (λ (v : ℕ). cond (all_digits (slice (suc at) to s)) (Some v) None)
      (sym (capped-after (slice (suc at) to s) (n * 10 + (get_or s at 0 - 48)))))

-- ---- a number with no minus

natural-none : natural_of [] ≡ None
unfolding is_natural
natural-none = refl

zero-not : (b : ℕ) (bs : List ℕ) → eqb b 48 ≡ false → is_zero (b ∷ bs) ≡ false
unfolding is_zero
zero-not b [] e = e
zero-not b (c ∷ bs) e = refl

natural-digits : (b : ℕ) (bs : List ℕ) → eqb b 48 ≡ false → natural_of (b ∷ bs) ≡ digits_after 0 (b ∷ bs)
unfolding is_natural is_digits
natural-digits b bs e = rw (zero-not b bs e, e)

natural-zero : (b : ℕ) → b ≡ 48 → natural_of (b ∷ []) ≡ Some 0
unfolding is_natural value_after
natural-zero b e = rw e

natural-zeros : (b c : ℕ) (bs : List ℕ) → b ≡ 48 → natural_of (b ∷ c ∷ bs) ≡ None
unfolding is_natural
natural-zeros b c bs e = rw e

-- The same from `from` to `to`.
module _ (s : List ℕ) (from to : ℕ) (inside : to ≤ length s) where
  pub natural-empty : from ≡ to → natural_of (slice from to s) ≡ None
  natural-empty e = rw (e, slice_empty to s) natural-none

  pub natural-other : from < to → (get_or s from 0 ≡ 48 → ⊥) → natural_of (slice from to s) ≡ digits_after 0 (slice from to s)
  natural-other h e = rw (slice-cons from to s 0 h inside)
      (natural-digits (get_or s from 0) (slice (suc from) to s) (ne_eqb (get_or s from 0) 48 e))

  pub natural-alone : to - from ≡ 1 → get_or s from 0 ≡ 48 → natural_of (slice from to s) ≡ Some 0
  natural-alone h e =
      let q : suc from ≡ to = omega arith in
      let l : from < to = omega arith in
      let none : slice (suc from) to s ≡ [] = rw q (slice_empty to s) in
      rw (slice-cons from to s 0 l inside, none) (natural-zero (get_or s from 0) e)

  pub natural-longer : from < to → (to - from ≡ 1 → ⊥) → get_or s from 0 ≡ 48 → natural_of (slice from to s) ≡ None
  natural-longer h more e =
      let l : suc from < to = omega (arith, more) in
      rw (slice-cons from to s 0 h inside, slice-cons (suc from) to s 0 l inside)
      (natural-zeros (get_or s from 0) (get_or s (suc from) 0) (slice (suc (suc from)) to s) e)

pub zero-value : (bs : List ℕ) → is_zero bs ≡ true → value_of_digits bs ≡ 0
unfolding is_zero value_after
zero-value [] e = clash (sym e)
zero-value (b ∷ []) e = rw (eqb-true b 48 e)
zero-value (b ∷ c ∷ bs) e = clash (sym e)

value_grows : (bs : List ℕ) (n : ℕ) → n ≤ value_after n bs
unfolding value_after
value_grows [] n = omega arith
value_grows (b ∷ bs) n = omega (arith, value_grows bs (n * 10 + (b - 48)))

pub digits_value : (bs : List ℕ) → is_digits bs ≡ true → 1 ≤ value_of_digits bs
unfolding is_digits value_after
digits_value [] e = clash (sym e)
digits_value (b ∷ bs) e =
    by (eqb b 48) (λ t. clash (sym e ∙ rw t))
    (λ f. by (is_digit b)
    (λ d. let least : 48 ≤ b = digit-least b d in let other : b ≡ 48 → ⊥ = λ q. clash (sym (eq-eqb b 48 q) ∙ f) in
    omega (arith, value_grows bs (0 * 10 + (b - 48)), other))
    (λ d. clash (sym e ∙ rw (f, d))))
