-- The literals that `units_to` lists are those of U, and a round's words have their variables. The idea: they are listed variable by
-- variable; a word is taken digit by digit. Assumes nothing.
use mathlib.Core.Path.{◌≡◌, refl, sym, ap, ap₂, ◌∙◌}
use mathlib.Core.Bool.{Bool, true, false, ◌&&◌, ◌||◌, cond}
use mathlib.Core.List.{List, [], ◌∷◌, ◌++◌}
use Prim.Native.Nat.{ℕ, zero, suc, ◌+◌, ◌-◌, ◌*◌, ◌/◌, ◌%◌, ◌^◌, ◌<◌}
use native.Mathlib.Nat.{div-div-eq-div-mul, div-one}
use native.Mathlib.Omega.{arith}
use lib.Dec.{eqb, leb}
use borrow.Author.Tests.{eqb-false, le-leb, lt-leb, leb-true, leb-false}
use Rattle.meaning.specs.Diagram.{Diagram}
use Rattle.meaning.specs.Operations.{Literal, is_unit}
use Rattle.meaning.specs.Words.{in_word}
use Rattle.meaning.proofs.Booleans.{eqb-eq, and-false}
use Rattle.clausal.specs.Literals.{alike, has, literal}
use Rattle.meaning.specs.Rules.{units_to}
use Rattle.causes.specs.Answers.{word_from}

-- ---- words

in-next : (w j : ℕ) → in_word (w / 2) (suc j) ≡ in_word w (suc (suc j))
unfolding in_word
in-next w j =
    let a : suc j - 1 ≡ j = omega arith in
    let b : suc (suc j) - 1 ≡ suc j = omega arith in
    let twice : 2 ^ suc j ≡ 2 * 2 ^ j = omega arith in
    rw (a, b) (ap (λ (x : ℕ). eqb (x % 2) 1) (div-div-eq-div-mul w 2 (2 ^ j) ∙ ap (λ (x : ℕ). w / x) (sym twice)))

in-first : (w : ℕ) → in_word w 1 ≡ eqb (w % 2) 1
unfolding in_word
in-first w = ap (λ (x : ℕ). eqb (x % 2) 1) (div-one w)

-- A word below 2^k is that of its k variables.
pub word-is : (k i : ℕ) (S : ℕ → Bool) (w : ℕ) → w < 2 ^ k → ((j : ℕ) → j < k → in_word w (suc j) ≡ S (i + j)) → w ≡ word_from k i S
unfolding word_from
word-is zero i S w lt same = omega (arith, lt)
word-is (suc k) i S w lt same =
    let twice : 2 ^ suc k ≡ 2 * 2 ^ k = omega arith in
    let rest : w / 2 ≡ word_from k (suc i) S =
    word-is k (suc i) S (w / 2) (omega (arith, lt, twice)) (λ j h. in-next w j ∙ same (suc j) (omega (arith, h)) ∙ ap S (shift j)) in
    let top : eqb (w % 2) 1 ≡ S i = sym (in-first w) ∙ same 0 (omega arith) ∙ ap S (stay i) in
    parts (S i) top rest
  where
    shift : (j : ℕ) → i + suc j ≡ suc i + j
    shift j = omega arith

    stay : (i : ℕ) → i + 0 ≡ i
    stay i = omega arith

    parts : (b : Bool) → eqb (w % 2) 1 ≡ b → w / 2 ≡ word_from k (suc i) S → w ≡ cond b 1 0 + 2 * word_from k (suc i) S
    parts true e r = omega (arith, eqb-eq (w % 2) 1 e, r)
    parts false e r = omega (arith, eqb-false (w % 2) 1 e, r)

-- ---- literals

has_both : (xs ys : List Literal) (l : Literal) → has (xs ++ ys) l ≡ (has xs l || has ys l)
unfolding has
has_both [] ys l = refl
has_both (x ∷ xs) ys l = go (alike x l) (has_both xs ys l)
  where
    go : (b : Bool) → has (xs ++ ys) l ≡ (has xs l || has ys l) → (b || has (xs ++ ys) l) ≡ ((b || has xs l) || has ys l)
    go true e = refl
    go false e = e

-- the two literals of one variable, where they are units
pair-has : (w v : ℕ) (s p q : Bool)
    → has (cond p (literal w true ∷ []) [] ++ cond q (literal w false ∷ []) []) (literal v s) ≡ (eqb w v && cond s p q)
unfolding has alike
pair-has w v true true true = go (eqb w v)
  where
    go : (b : Bool) → ((b && true) || ((b && false) || false)) ≡ (b && true)
    go true = refl
    go false = refl
pair-has w v true true false = go (eqb w v)
  where
    go : (b : Bool) → ((b && true) || false) ≡ (b && true)
    go true = refl
    go false = refl
pair-has w v true false true = go (eqb w v)
  where
    go : (b : Bool) → ((b && false) || false) ≡ (b && false)
    go true = refl
    go false = refl
pair-has w v true false false = sym (and-false (eqb w v))
pair-has w v false true true = go (eqb w v)
  where
    go : (b : Bool) → ((b && false) || ((b && true) || false)) ≡ (b && true)
    go true = refl
    go false = refl
pair-has w v false true false = go (eqb w v)
  where
    go : (b : Bool) → ((b && false) || false) ≡ (b && false)
    go true = refl
    go false = refl
pair-has w v false false true = go (eqb w v)
  where
    go : (b : Bool) → ((b && true) || false) ≡ (b && true)
    go true = refl
    go false = refl
pair-has w v false false false = sym (and-false (eqb w v))

-- THEOREM: the literals listed of the variables 1 to w are those of U.
pub units-has : (n w : ℕ) (f : Diagram) (v : ℕ) (s : Bool) → has (units_to n w f) (literal v s) ≡ (leb 1 v && (leb v w && is_unit n f v s))
unfolding units_to has
units-has n zero f v s = go v
  where
    go : (v : ℕ) → false ≡ (leb 1 v && (leb v 0 && is_unit n f v s))
    go zero = refl
    go (suc v) = rw (lt-leb (suc v) 0 (omega arith), le-leb 1 (suc v) (omega arith))
units-has n (suc w) f v s =
    has_both (units_to n w f) _ (literal v s)
    ∙ ap₂ (λ (x y : Bool). x || y) (units-has n w f v s) (pair-has (suc w) v s (is_unit n f (suc w) true) (is_unit n f (suc w) false))
    ∙ go (eqb (suc w) v) refl
  where
    at_sign : (s : Bool) → cond s (is_unit n f (suc w) true) (is_unit n f (suc w) false) ≡ is_unit n f (suc w) s
    at_sign true = refl
    at_sign false = refl

    below : (a b : Bool) → ((a && (false && b)) || b) ≡ b
    below true b = refl
    below false b = refl

    go : (e : Bool) → eqb (suc w) v ≡ e
        → ((leb 1 v && (leb v w && is_unit n f v s)) || (e && cond s (is_unit n f (suc w) true) (is_unit n f (suc w) false)))
        ≡ (leb 1 v && (leb v (suc w) && is_unit n f v s))
    go true e =
        let is : v ≡ suc w = sym (eqb-eq (suc w) v e) in
        rw (is, lt-leb (suc w) w (omega arith), le-leb 1 (suc w) (omega arith), le-leb (suc w) (suc w) (omega arith)) (at_sign s)
    go false e =
        or-false (leb 1 v && (leb v w && is_unit n f v s)) ∙ ap (λ (x : Bool). leb 1 v && (x && is_unit n f v s)) (less (leb v w) refl)
      where
        less : (b : Bool) → leb v w ≡ b → leb v w ≡ leb v (suc w)
        less true q = q ∙ sym (le-leb v (suc w) (omega (arith, leb-true v w q)))
        less false q = q ∙ sym (lt-leb v (suc w) (omega (arith, leb-false v w q, eqb-false (suc w) v e)))

        or-false : (x : Bool) → (x || false) ≡ x
        or-false true = refl
        or-false false = refl
