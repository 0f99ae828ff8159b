-- The variables of the words of all and of those below or from a variable on, for every variable count; a word with none is 0, and what
-- two words share. The idea: 2^(j+k) − 1 is (2^j − 1)·2^k + (2^k − 1), so that a shift leaves a word of the same kind. Assumes nothing.
use mathlib.Core.Path.{◌≡◌, refl, sym, ap, ap₂, ◌∙◌}
use mathlib.Core.Bool.{true, false, ◌&&◌, ◌||◌}
use Prim.Native.Nat.{ℕ, zero, suc, ◌+◌, ◌-◌, ◌*◌, ◌/◌, ◌%◌, ◌^◌, ◌≤◌, ◌<◌}
use native.Mathlib.Nat.{div-eq_of_lt, zero-div, pow-suc, pow-succ', mul_assoc, mul-mod_left}
use native.Mathlib.Omega.{arith}
use native.Mathlib.Decide.{ℕ_discrete, dec_lt}
use lib.Dec.{eqb, ltb, leb}
use lib.Bits.{bit_and, bit_or}
use lib.Pow.{pow_pos, pow_mono, pow-add, ones_lt, ones_split, high, high_ones, shl-shr, shr-shr}
use borrow.Author.Tests.{lt-ltb, le-ltb, le-leb, lt-leb, eq-eqb, eqb-true}
use Rattle.meaning.specs.Words.{in_word}
use Rattle.meaning.proofs.Booleans.{t≢f, or_left, or_right, or_cases, or-neither, and_both}
use Rattle.meaning.proofs.Words.{in_and, in-or, in-none}
use Rattle.words.specs.Sets.{all_word, ends_before, below_word, without, shares}

-- ---- digits

odd : (d : ℕ) → (2 ^ suc d - 1) % 2 ≡ 1
odd d = omega (arith, pow-succ' 2 d, pow_pos d)

-- the digit j of 2^i − 1
digit : (i j : ℕ) → eqb ((2 ^ i - 1) / 2 ^ j % 2) 1 ≡ ltb j i
digit i j = go (dec_lt j i)
  where
    go : Dec (j < i) → eqb ((2 ^ i - 1) / 2 ^ j % 2) 1 ≡ ltb j i
    go (yes less) =
        let d : ℕ = i - j - 1 in
        let is : i ≡ suc d + j = omega arith in
        let over : (2 ^ i - 1) / 2 ^ j ≡ 2 ^ suc d - 1 =
        ap (λ (k : ℕ). (2 ^ k - 1) / 2 ^ j) is ∙ ap (λ (k : ℕ). k / 2 ^ j) (ones_split (suc d) j) ∙ high (2 ^ suc d - 1) j (ones_lt j) in
        rw (over, odd d, lt-ltb j i less)
    go (no more) =
        let none : (2 ^ i - 1) / 2 ^ j ≡ 0 = div-eq_of_lt (omega (arith, ones_lt i, pow_mono {i = i} {j = j} (omega arith))) in
        rw (none, le-ltb j i (omega arith))

-- a number shifted past the digit has none there
even-below : (x e j : ℕ) → x * 2 ^ (suc e + j) / 2 ^ j % 2 ≡ 0
even-below x e j =
    ap (λ (m : ℕ). x * m / 2 ^ j % 2) (pow-add 2 (suc e) j) ∙ ap (λ (m : ℕ). m / 2 ^ j % 2) (sym (mul_assoc x (2 ^ suc e) (2 ^ j)))
    ∙ ap (λ (m : ℕ). m % 2) (shl-shr (x * 2 ^ suc e) j ∙ ap (λ (m : ℕ). x * m) (pow-suc 2 e) ∙ sym (mul_assoc x (2 ^ e) 2))
    ∙ mul-mod_left (x * 2 ^ e) 2

-- the digit j of (2^d − 1)·2^i
high_digit : (d i j : ℕ) → j < d + i → eqb ((2 ^ d - 1) * 2 ^ i / 2 ^ j % 2) 1 ≡ leb i j
high_digit d i j inside = go (dec_lt j i)
  where
    go : Dec (j < i) → eqb ((2 ^ d - 1) * 2 ^ i / 2 ^ j % 2) 1 ≡ leb i j
    go (yes less) =
        let is : i ≡ suc (i - j - 1) + j = omega arith in
        let none : (2 ^ d - 1) * 2 ^ i / 2 ^ j % 2 ≡ 0 =
        ap (λ (k : ℕ). (2 ^ d - 1) * 2 ^ k / 2 ^ j % 2) is ∙ even-below (2 ^ d - 1) (i - j - 1) j in
        rw (none, lt-leb i j less)
    go (no more) =
        let is : j ≡ i + (j - i) = omega arith in
        let over : (2 ^ d - 1) * 2 ^ i / 2 ^ j ≡ (2 ^ d - 1) / 2 ^ (j - i) =
        ap (λ (k : ℕ). (2 ^ d - 1) * 2 ^ i / 2 ^ k) is ∙ sym (shr-shr ((2 ^ d - 1) * 2 ^ i) i (j - i))
        ∙ ap (λ (m : ℕ). m / 2 ^ (j - i)) (shl-shr (2 ^ d - 1) i) in
        rw (over, digit d (j - i), lt-ltb (j - i) d (omega arith), le-leb i j (omega arith))

-- ---- sets

pub in_all : (n v : ℕ) → 1 ≤ v → v ≤ n → in_word (all_word n) v ≡ true
unfolding in_word
in_all n v one most = digit n (v - 1) ∙ lt-ltb (v - 1) n (omega arith)

pub in-below : (b v : ℕ) → 1 ≤ b → 1 ≤ v → in_word (below_word b) v ≡ ltb v b
unfolding in_word below_word
in-below b v least one = digit (b - 1) (v - 1) ∙ go (dec_lt v b)
  where
    go : Dec (v < b) → ltb (v - 1) (b - 1) ≡ ltb v b
    go (yes p) = rw (lt-ltb v b p, lt-ltb (v - 1) (b - 1) (omega arith))
    go (no p) = rw (le-ltb v b (omega arith), le-ltb (v - 1) (b - 1) (omega arith))

-- all that are not below
above-is : (n i : ℕ) → i ≤ n → (2 ^ n - 1) - (2 ^ i - 1) ≡ (2 ^ (n - i) - 1) * 2 ^ i
above-is n i le =
    let rest : (2 ^ n - 1) - (2 ^ i - 1) ≡ 2 ^ n - 2 ^ i = omega (arith, pow_pos i) in
    let sum : n ≡ n - i + i = omega arith in
    rest ∙ ap (λ (k : ℕ). 2 ^ k - 2 ^ i) sum ∙ high_ones (n - i) i

pub in-above : (n b v : ℕ) → 1 ≤ b → b ≤ n + 1 → 1 ≤ v → v ≤ n → in_word (all_word n - below_word b) v ≡ leb b v
unfolding in_word below_word
in-above n b v least last one most =
    ap (λ (w : ℕ). eqb (w / 2 ^ (v - 1) % 2) 1) (above-is n (b - 1) (omega arith)) ∙ high_digit (n - (b - 1)) (b - 1) (v - 1) (omega arith)
    ∙ go (dec_lt v b)
  where
    go : Dec (v < b) → leb (b - 1) (v - 1) ≡ leb b v
    go (yes p) = rw (lt-leb b v p, lt-leb (b - 1) (v - 1) (omega arith))
    go (no p) = rw (le-leb b v (omega arith), le-leb (b - 1) (v - 1) (omega arith))

pub in_without : (n word from to v : ℕ) → 1 ≤ from → 1 ≤ to → to ≤ n + 1 → 1 ≤ v → v ≤ n → in_word (without n word from to) v
    ≡ (in_word word v && (ltb v from || leb to v))
unfolding without
in_without n word from to v a b c one most =
    in_and word (bit_or (below_word from) (all_word n - below_word to)) v
    ∙ ap (◌&&◌ (in_word word v)) (in-or (below_word from) (all_word n - below_word to) v
    ∙ ap₂ ◌||◌ (in-below from v a one) (in-above n to v b c one most))

-- a word that ends before v
pub none_from : (w v : ℕ) → 1 ≤ v → ends_before w v ≡ true → (u : ℕ) → v ≤ u → in_word w u ≡ false
unfolding in_word ends_before
none_from w v one e u le =
    let is : u - 1 ≡ (v - 1) + (u - v) = omega arith in
    let none : w / 2 ^ (u - 1) ≡ 0 =
    ap (λ (k : ℕ). w / 2 ^ k) is ∙ sym (shr-shr w (v - 1) (u - v)) ∙ ap (λ (m : ℕ). m / 2 ^ (u - v)) (eqb-true _ _ e)
    ∙ zero-div (2 ^ (u - v)) in
    rw none

-- ---- words other than 0

half-in-word : (w v : ℕ) → 1 ≤ v → in_word w (suc v) ≡ in_word (w / 2) v
unfolding in_word
half-in-word w v p =
    let z : suc v - 1 ≡ 1 + (v - 1) = omega arith in
    ap (λ (x : ℕ). eqb (x % 2) 1) (ap (λ (x : ℕ). w / 2 ^ x) z ∙ sym (shr-shr w 1 (v - 1)))

-- a word of n bits other than 0 has a variable: the bits above the first are those of the half
pub some-in-word : {A : Type 0} (n w : ℕ) → w < 2 ^ n → (w ≡ 0 → ⊥) → ((v : ℕ) → 1 ≤ v → v ≤ n → in_word w v ≡ true → A) → A
unfolding in_word
some-in-word zero w p ne f = absurd (ne (omega arith))
some-in-word (suc n) w p ne f = elim (ℕ_discrete (w % 2) 1) [
  | yes odd ↦ f 1 (omega arith) (omega arith) (eq-eqb (w / 1 % 2) 1 (omega arith))
  | no even ↦ some-in-word n (w / 2) (omega (arith, pow-suc 2 n)) (λ e. ne (omega (arith, even)))
      (λ v x y e. f (suc v) (omega arith) (omega arith) (half-in-word w v x ∙ e))
]

pub word-zero : (n w : ℕ) → w < 2 ^ n → ((v : ℕ) → 1 ≤ v → v ≤ n → in_word w v ≡ false) → w ≡ 0
word-zero n w fits none = go (ℕ_discrete w 0)
  where
    go : Dec (w ≡ 0) → w ≡ 0
    go (yes e) = e
    go (no ne) = some-in-word n w fits ne (λ v lo hi e. t≢f (sym e ∙ none v lo hi))

-- ---- two words

pub shares-some : (k a b v : ℕ) → 1 ≤ v → v ≤ k → in_word (bit_and a b) v ≡ true → shares k a b ≡ true
unfolding shares
shares-some zero a b v lo hi e = absurd (omega arith)
shares-some (suc k) a b v lo hi e = go (ℕ_discrete v (suc k)) (λ less. shares-some k a b v lo less e)
  where
    go : Dec (v ≡ suc k) → (v ≤ k → shares k a b ≡ true) → ((in_word a (suc k) && in_word b (suc k)) || shares k a b) ≡ true
    go (yes q) ih = or_left (in_word a (suc k) && in_word b (suc k)) (shares k a b)
        (sym (in_and a b (suc k)) ∙ ap (in_word (bit_and a b)) (sym q) ∙ e)
    go (no ne) ih = or_right (in_word a (suc k) && in_word b (suc k)) (shares k a b) (ih (omega arith))

pub shares-none : (k a b : ℕ) → bit_and a b ≡ 0 → shares k a b ≡ false
unfolding shares
shares-none zero a b e = refl
shares-none (suc k) a b e = ap₂ ◌||◌ (sym (in_and a b (suc k)) ∙ ap (λ (w : ℕ). in_word w (suc k)) e ∙ in-none (suc k))
    (shares-none k a b e)

-- a variable that both have
pub shares-found : {A : Type 0} (k a b : ℕ) → shares k a b ≡ true → ((v : ℕ) → 1 ≤ v → v ≤ k → in_word a v ≡ true → in_word b v ≡ true → A)
    →
    A
unfolding shares
shares-found zero a b e f = t≢f (sym e)
shares-found (suc k) a b e f =
    or_cases (in_word a (suc k) && in_word b (suc k)) (shares k a b) e
    (λ t. let x : (in_word a (suc k) ≡ true) × (in_word b (suc k) ≡ true) = and_both (in_word a (suc k)) (in_word b (suc k)) t in
    f (suc k) (omega arith) (omega arith) x.0 x.1)
    (λ t. shares-found k a b t (λ v lo hi. f v lo (omega arith)))

-- no variable is in both
pub shares-apart : (k a b : ℕ) → shares k a b ≡ false → (v : ℕ) → 1 ≤ v → v ≤ k → (in_word a v && in_word b v) ≡ false
unfolding shares
shares-apart zero a b e v lo hi = absurd (omega arith)
shares-apart (suc k) a b e v lo hi =
    go (ℕ_discrete v (suc k)) (or-neither (in_word a (suc k) && in_word b (suc k)) (shares k a b) e)
    (λ t less. shares-apart k a b t v lo less)
  where
    go : Dec (v ≡ suc k) → ((in_word a (suc k) && in_word b (suc k)) ≡ false) × (shares k a b ≡ false) →
        (shares k a b ≡ false → v ≤ k → (in_word a v && in_word b v) ≡ false)
        → (in_word a v && in_word b v) ≡ false
    go (yes q) z ih = ap (λ (x : ℕ). in_word a x && in_word b x) q ∙ z.0
    go (no ne) z ih = ih z.1 (omega arith)
