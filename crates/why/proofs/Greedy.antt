-- The smallest assignment found variable by variable: a variable is false where some assignment that agrees with all decided so far makes
-- the line false, else true. The idea: variables decided first are the higher digits, so that each decision keeps the smallest. Assumes
-- nothing.
use mathlib.Core.Path.{◌≡◌, refl, sym, ap, ap₂, ◌∙◌, subst}
use mathlib.Core.Bool.{Bool, true, false, not, ◌||◌, cond}
use mathlib.Core.List.{[], ◌∷◌}
use Prim.Native.Nat.{ℕ, zero, suc, ◌+◌, ◌-◌, ◌^◌, ◌≤◌, ◌<◌}
use native.Mathlib.Omega.{arith}
use lib.ListN.{length, get_or}
use lib.Seq.{ext_get_or}
use lib.Dec.{eqb}
use Rattle.meaning.specs.Diagram.{Assignment, holds, Diagram, leaf, value, value_from}
use Rattle.meaning.specs.Operations.{forced, cofactor_literals}
use Rattle.meaning.specs.Rules.{witnessed}
use Rattle.meaning.specs.Words.{in_word, truth_from, assignment_of}
use Rattle.meaning.proofs.Booleans.{t≢f, and_both, not-true, or_cases, or-neither, eqb-eq, eq-eqb}
use Rattle.meaning.proofs.Pointwise.{literals-value}
use Rattle.meaning.proofs.Units.{same-eq}
use Rattle.meaning.proofs.Words.{truth-at}
use Rattle.causes.specs.Causes.{agrees, smallest}
use Rattle.causes.specs.Shows.{digits, Agrees, Smallest}
use Rattle.causes.proofs.Smallest.{digits-below, so-agrees, smallest-so}
use Rattle.why.specs.Greedy.{Decided, with_it}

-- ---- digits

-- At the first place where two assignments differ the greater one is true.
digits-less : (a b : Assignment) → length a ≡ length b → (j : ℕ) → j < length a → ((k : ℕ) → k < j → get_or a k false ≡ get_or b k false)
    → get_or a j false ≡ true → get_or b j false ≡ false → digits b < digits a
unfolding digits
digits-less [] b e j lt up p q = absurd (omega (arith, lt))
digits-less (x ∷ a) [] e j lt up p q = absurd (omega (arith, e))
digits-less (x ∷ a) (y ∷ b) e zero lt up p q =
    let long : length a ≡ length b = omega (arith, e) in
    let powers : 2 ^ length b ≡ 2 ^ length a = ap (λ (k : ℕ). 2 ^ k) (sym long) in rw (p, q) (omega (arith, digits-below b, powers))
digits-less (x ∷ a) (y ∷ b) e (suc j) lt up p q =
    let long : length a ≡ length b = omega (arith, e) in
    let top : x ≡ y = up 0 (omega arith) in
    let powers : cond y (2 ^ length b) 0 ≡ cond x (2 ^ length a) 0 = ap₂ (λ (c : Bool) (k : ℕ). cond c (2 ^ k) 0) (sym top) (sym long) in
    let less : digits b < digits a = digits-less a b long j (omega (arith, lt)) (λ k h. up (suc k) (omega (arith, h))) p q in
    omega (arith, powers, less)

digits_same : (a b : Assignment) → length a ≡ length b → digits a ≡ digits b → a ≡ b
unfolding digits
digits_same [] [] e d = refl
digits_same [] (y ∷ b) e d = absurd (omega (arith, e))
digits_same (x ∷ a) [] e d = absurd (omega (arith, e))
digits_same (x ∷ a) (y ∷ b) e d = go x y d (digits_same a b (omega (arith, e)))
  where
    long : length a ≡ length b
    long = omega (arith, e)

    powers : 2 ^ length a ≡ 2 ^ length b
    powers = ap (λ (k : ℕ). 2 ^ k) long

    go : (x y : Bool) → cond x (2 ^ length a) 0 + digits a ≡ cond y (2 ^ length b) 0 + digits b → (digits a ≡ digits b → a ≡ b) → x ∷ a
        ≡ y ∷ b
    go true true d rec = ap (◌∷◌ true) (rec (omega (arith, d, powers)))
    go false false d rec = ap (◌∷◌ false) (rec (omega (arith, d)))
    go true false d rec = absurd (omega (arith, d, powers, digits-below b))
    go false true d rec = absurd (omega (arith, d, powers, digits-below a))

pub smallest-one : (n : ℕ) (P N : ℕ → Bool) (g : Diagram) (a b : Assignment) → Smallest n P N g a → Smallest n P N g b → a ≡ b
smallest-one n P N g a b A B =
    digits_same a b (A.long ∙ sym B.long) (omega
    (arith, A.least b B.long B.agrees B.false-there, B.least a A.long A.agrees A.false-there))

truth-length : (i k w : ℕ) → length (truth_from i k w) ≡ k
unfolding truth_from
truth-length i zero w = refl
truth-length i (suc k) w = ap suc (truth-length (suc i) k w)

-- ---- a witness that makes the line 1

forced-same : (P N : ℕ → Bool) (i : ℕ) (a : Assignment) → agrees P N i a ≡ true → forced P N i a ≡ a
unfolding agrees forced
forced-same P N i [] e = refl
forced-same P N i (b ∷ a) e =
    let (here, rest) = and_both (cond (P i) b (cond (N i) (not b) true)) (agrees P N (suc i) a) e in
    ap₂ ◌∷◌ (go (P i) (N i) b here) (forced-same P N (suc i) a rest)
  where
    go : (p q b : Bool) → cond p b (cond q (not b) true) ≡ true → cond p true (cond q false b) ≡ b
    go true q b h = sym h
    go false true true h = t≢f (sym h)
    go false true false h = refl
    go false false b h = refl

module _ (n : ℕ) (g : Diagram) where
  one-there : (P N : ℕ → Bool) → witnessed n P N g ≡ true → (a : Assignment) → length a ≡ n → Agrees P N a → value g a ≡ true
  unfolding witnessed Agrees value_from
  one-there P N w a len so =
      let fixed : forced P N 1 a ≡ a = forced-same P N 1 a (so-agrees P N 1 a (λ v lo hi. so v lo (omega (arith, hi)))) in
      let is : cofactor_literals n P N g ≡ leaf true = same-eq (cofactor_literals n P N g) (leaf true) w in
      sym (literals-value n a len P N g ∙ ap (value g) fixed) ∙ ap (λ (f : Diagram). value f a) is

  some_fits : (P N : ℕ → Bool) (a : Assignment) → length a ≡ n → Agrees P N a → value g a ≡ false → witnessed n P N g ≡ false
  some_fits P N a len so off = not-true (witnessed n P N g) (λ w. t≢f (sym (one-there P N w a len so) ∙ off))

  -- ---- one variable more

  module _ (P N : ℕ → Bool) (v : ℕ) (lo : 1 ≤ v) (hi : v ≤ n) (new_true : P v ≡ false) (new-false : N v ≡ false) where
    agrees-true : (b : Assignment) → Agrees (with_it P v) N b → Agrees P N b
    unfolding Agrees
    agrees-true b so w l h = (
      (λ p. (so w l h).0 (rw p)),
      λ p q. (so w l h).1 (rw p (other w q)) q,
    )
      where
        other : (w : ℕ) → N w ≡ true → eqb v w ≡ false
        other w q = not-true (eqb v w) (λ e. t≢f (sym q ∙ ap N (sym (eqb-eq v w e)) ∙ new-false))

    agrees-false : (b : Assignment) → Agrees P (with_it N v) b → Agrees P N b
    unfolding Agrees
    agrees-false b so w l h = ((λ p. (so w l h).0 p), λ p q. (so w l h).1 p (rw q))

    true-agrees : (b : Assignment) → Agrees P N b → holds b v ≡ true → Agrees (with_it P v) N b
    unfolding Agrees
    true-agrees b so t w l h = (
      (λ p. or_cases (P w) (eqb v w) p (λ q. (so w l h).0 q) (λ e. subst (λ (x : ℕ). holds b x ≡ true) (eqb-eq v w e) t)),
      λ p q. (so w l h).1 (or-neither (P w) (eqb v w) p).0 q,
    )

    false-agrees : (b : Assignment) → Agrees P N b → holds b v ≡ false → Agrees P (with_it N v) b
    unfolding Agrees
    false-agrees b so f w l h = (
      (λ p. (so w l h).0 p),
      λ p q. or_cases (N w) (eqb v w) q (λ r. (so w l h).1 p r) (λ e. subst (λ (x : ℕ). holds b x ≡ false) (eqb-eq v w e) f),
    )

    -- No assignment with v false fits: v is true.
    pub taken_true : witnessed n P N g ≡ false → witnessed n P (with_it N v) g ≡ true
        → (witnessed n (with_it P v) N g ≡ false) × (smallest n (with_it P v) N g ≡ smallest n P N g)
    taken_true open-before one =
        let a : Assignment = smallest n P N g in
        let A : Smallest n P N g a = smallest-so n P N g open-before in
        let t : holds a v ≡ true = go a A (holds a v) refl in
        let fits : Agrees (with_it P v) N a = true-agrees a A.agrees t in
        let open_after : witnessed n (with_it P v) N g ≡ false = some_fits (with_it P v) N a A.long fits A.false-there in
        let B : Smallest n (with_it P v) N g a =
        record {
          long = A.long;
          agrees = fits;
          false-there = A.false-there;
          least =
              λ b len so off. A.least b len (agrees-true b so) off;
        } in
        (open_after, smallest-one n (with_it P v) N g (smallest n (with_it P v) N g) a (smallest-so n (with_it P v) N g open_after) B)
      where
        go : (a : Assignment) → Smallest n P N g a → (x : Bool) → holds a v ≡ x → holds a v ≡ true
        go a A true e = e
        go a A false e = t≢f (sym (one-there P (with_it N v) one a A.long (false-agrees a A.agrees e)) ∙ A.false-there)

    -- Two assignments that agree with what is decided are one below v.
    one_below : Decided P N v → (a b : Assignment) → length a ≡ n → length b ≡ n → Agrees P N a → Agrees P N b → (k : ℕ) → k < v - 1 →
        get_or a k false ≡ get_or b k false
    unfolding Agrees
    one_below decided a b la lb A B k lt = go (P (suc k)) refl
      where
        move : suc k - 1 ≡ k
        move = omega arith

        at_a : (P (suc k) ≡ true → get_or a k false ≡ true) × (P (suc k) ≡ false → N (suc k) ≡ true → get_or a k false ≡ false)
        at_a = rw move at (A (suc k) (omega arith) (omega (arith, la, lt, hi)))

        at_b : (P (suc k) ≡ true → get_or b k false ≡ true) × (P (suc k) ≡ false → N (suc k) ≡ true → get_or b k false ≡ false)
        at_b = rw move at (B (suc k) (omega arith) (omega (arith, lb, lt, hi)))

        go : (x : Bool) → P (suc k) ≡ x → get_or a k false ≡ get_or b k false
        go true e = at_a.0 e ∙ sym (at_b.0 e)
        go false e =
            let q : N (suc k) ≡ true = rw e at (decided (suc k) (omega arith) (omega (arith, lt))) in at_a.1 e q ∙ sym (at_b.1 e q)

    -- Some assignment with v false fits: v is false.
    pub taken_false : Decided P N v → witnessed n P N g ≡ false → witnessed n P (with_it N v) g ≡ false → smallest n P (with_it N v) g
        ≡ smallest n P N g
    unfolding Agrees
    taken_false decided open-before open_after =
        let a : Assignment = smallest n P N g in
        let b : Assignment = smallest n P (with_it N v) g in
        let A : Smallest n P N g a = smallest-so n P N g open-before in
        let B : Smallest n P (with_it N v) g b = smallest-so n P (with_it N v) g open_after in
        let b-fits : Agrees P N b = agrees-false b B.agrees in
        let f : holds b v ≡ false = (B.agrees v lo (omega (arith, hi, B.long))).1 new_true (or-it (N v)) in
        let off : holds a v ≡ false = not-true (holds a v) (λ t. absurd (omega (
          arith,
          digits-less a b (A.long ∙ sym B.long) (v - 1) (omega (arith, A.long, hi, lo))
              (one_below decided a b A.long B.long A.agrees b-fits) t f,
          A.least b B.long b-fits B.false-there,
        ))) in
        let C : Smallest n P (with_it N v) g a = record {
          long = A.long;
          agrees = false-agrees a A.agrees off;
          false-there = A.false-there;
          least = λ c len so off-c. A.least c len (agrees-false c so) off-c;
        } in
        smallest-one n P (with_it N v) g b a B C
      where
        or-it : (x : Bool) → (x || eqb v v) ≡ true
        or-it true = refl
        or-it false = eq-eqb v v refl

  -- ---- all decided

  pub all-decided : (p : ℕ) (N : ℕ → Bool) → Decided (in_word p) N (suc n) → witnessed n (in_word p) N g ≡ false → assignment_of n p
      ≡ smallest n (in_word p) N g
  unfolding Agrees
  all-decided p N decided open_after =
      let a : Assignment = smallest n (in_word p) N g in
      let A : Smallest n (in_word p) N g a = smallest-so n (in_word p) N g open_after in
      ext_get_or false (assignment_of n p) a (truth-length 1 n p ∙ sym A.long) (λ i lt. at_i a A i (omega (arith, lt, truth-length 1 n p)))
    where
      at_i : (a : Assignment) → Smallest n (in_word p) N g a → (i : ℕ) → i < n → get_or (assignment_of n p) i false ≡ get_or a i false
      at_i a A i lt = truth-at 1 n p i lt ∙ ap (in_word p) one_more ∙ go (in_word p (suc i)) refl
        where
          one_more : 1 + i ≡ suc i
          one_more = omega arith

          move : suc i - 1 ≡ i
          move = omega arith

          here : (in_word p (suc i) ≡ true → get_or a i false ≡ true)
              × (in_word p (suc i) ≡ false → N (suc i) ≡ true → get_or a i false ≡ false)
          here = rw move at (A.agrees (suc i) (omega arith) (omega (arith, lt, A.long)))

          go : (x : Bool) → in_word p (suc i) ≡ x → in_word p (suc i) ≡ get_or a i false
          go true e = e ∙ sym (here.0 e)
          go false e = e ∙ sym (here.1 e (rw e at (decided (suc i) (omega arith) (omega (arith, lt)))))
