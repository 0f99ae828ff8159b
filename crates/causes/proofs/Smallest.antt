-- The assignment shown for 18 is the smallest that agrees with the witness and makes the line false. The idea: the list of all assignments
-- rises when they are read with variable 1 as the top digit, so the first that fits is the smallest; one fits, or the witness would make
-- the line 1. Assumes nothing.
use mathlib.Core.Path.{◌≡◌, refl, sym, ap, ◌∙◌, subst}
use mathlib.Core.Logic.{◌⊎◌, inl, inr}
use mathlib.Core.Bool.{Bool, true, false, not, ◌&&◌, cond}
use mathlib.Core.List.{List, [], ◌∷◌, ◌++◌, map}
use Prim.Native.Nat.{ℕ, zero, suc, ◌+◌, ◌-◌, ◌^◌, ◌≤◌, ◌<◌}
use native.Mathlib.Omega.{arith}
use lib.ListN.{length, get_or}
use Rattle.meaning.specs.Diagram.{Assignment, Diagram, leaf, value, value_from}
use Rattle.meaning.specs.Operations.{assignments, forced, cofactor_literals}
use Rattle.meaning.specs.Rules.{witnessed}
use Rattle.meaning.proofs.Booleans.{t≢f, and_both, not-not}
use Rattle.meaning.proofs.Assignments.{Listed, listed, AllLong, all-long}
use Rattle.meaning.proofs.Values.{diagram-is}
use Rattle.meaning.proofs.Pointwise.{forced-length}
use Rattle.meaning.proofs.Units.{eq-same}
use Rattle.causes.specs.Causes.{agrees, first_with, smallest}
use Rattle.causes.specs.Shows.{digits, Agrees, Smallest}

-- ---- the list rises

pub digits-below : (a : Assignment) → digits a < 2 ^ length a
unfolding digits
digits-below [] = omega arith
digits-below (b ∷ a) = go b (digits-below a)
  where
    double : 2 ^ suc (length a) ≡ 2 ^ length a + 2 ^ length a
    double = omega arith

    go : (b : Bool) → digits a < 2 ^ length a → cond b (2 ^ length a) 0 + digits a < 2 ^ suc (length a)
    go true h = omega (arith, h, double)
    go false h = omega (arith, h, double)

-- Each listed assignment is at most those behind it.
abbrev Rises : List Assignment → Type 0
Rises [] = Unit {0}
Rises (a ∷ rest) = ((b : Assignment) → Listed b rest → digits a ≤ digits b) × Rises rest

listed-append : (a : Assignment) (xs ys : List Assignment) → Listed a (xs ++ ys) → Listed a xs ⊎ Listed a ys
listed-append a [] ys h = inr h
listed-append a (x ∷ xs) ys (inl e) = inl (inl e)
listed-append a (x ∷ xs) ys (inr h) = go (listed-append a xs ys h)
  where
    go : Listed a xs ⊎ Listed a ys → Listed a (x ∷ xs) ⊎ Listed a ys
    go (inl p) = inl (inr p)
    go (inr q) = inr q

rises-append : (xs ys : List Assignment) → Rises xs → Rises ys → ((a b : Assignment) → Listed a xs → Listed b ys → digits a ≤ digits b) →
    Rises (xs ++ ys)
rises-append [] ys r q less = q
rises-append (x ∷ xs) ys r q less =
    ((λ b h. go b (listed-append b xs ys h)), rises-append xs ys r.1 q (λ a b h k. less a b (inr h) k))
  where
    go : (b : Assignment) → Listed b xs ⊎ Listed b ys → digits x ≤ digits b
    go b (inl h) = r.0 b h
    go b (inr k) = less x b (inl refl) k

-- An assignment listed with a value before it.
listed-under : (v : Bool) (a : Assignment) (xs : List Assignment) → Listed a (map (◌∷◌ v) xs) → (c : Assignment) × (a ≡ v ∷ c) × Listed c xs
listed-under v a [] h = absurd h
listed-under v a (x ∷ xs) (inl e) = (x, e, inl refl)
listed-under v a (x ∷ xs) (inr h) = let (c, e, l) = listed-under v a xs h in (c, e, inr l)

rises-under : (v : Bool) (n : ℕ) (xs : List Assignment) → ((a : Assignment) → Listed a xs → length a ≡ n) → Rises xs →
    Rises (map (◌∷◌ v) xs)
unfolding digits
rises-under v n [] long r = tt
rises-under v n (x ∷ xs) long r = ((λ b h. go b (listed-under v b xs h)), rises-under v n xs (λ a h. long a (inr h)) r.1)
  where
    go : (b : Assignment) → (c : Assignment) × (b ≡ v ∷ c) × Listed c xs → digits (v ∷ x) ≤ digits b
    go b (c, e, l) =
        let same-long : length x ≡ length c = long x (inl refl) ∙ sym (long c (inr l)) in
        let less : digits x ≤ digits c = r.0 c l in
        subst (λ (y : Assignment). digits (v ∷ x) ≤ digits y) (sym e)
        (subst (λ (k : ℕ). cond v (2 ^ length x) 0 + digits x ≤ cond v (2 ^ k) 0 + digits c) same-long (omega (arith, less)))

all-rise : (n : ℕ) → Rises (assignments n)
unfolding assignments AllLong digits
all-rise zero = ((λ b h. absurd h), tt)
all-rise (suc n) =
    rises-append (map (◌∷◌ false) (assignments n)) (map (◌∷◌ true) (assignments n))
    (rises-under false n (assignments n) (all-long n) (all-rise n)) (rises-under true n (assignments n) (all-long n) (all-rise n))
    (λ a b h k. go a b (listed-under false a (assignments n) h) (listed-under true b (assignments n) k))
  where
    go : (a b : Assignment) → (c : Assignment) × (a ≡ false ∷ c) × Listed c (assignments n) → (d : Assignment) × (b ≡ true ∷ d)
        × Listed d (assignments n)
        → digits a ≤ digits b
    go a b (c, e, l) (d, f, k) =
        let p : length c ≡ n = all-long n c l in
        let q : length d ≡ n = all-long n d k in
        let least : digits c < 2 ^ length c = digits-below c in
        let powers : 2 ^ length c ≡ 2 ^ length d = ap (λ (k : ℕ). 2 ^ k) (p ∙ sym q) in
        rw (e, f) (omega (arith, least, powers))

-- ---- the first that fits

-- What is known of the first with a property: it is listed, has it and is least; or none has it.
abbrev Found : (Assignment → Bool) → List Assignment → Type 0
Found p xs = Listed (first_with p xs) xs × (p (first_with p xs) ≡ true)
    × ((b : Assignment) → Listed b xs → p b ≡ true → digits (first_with p xs) ≤ digits b)

first-is : (p : Assignment → Bool) (xs : List Assignment) → Rises xs → Found p xs ⊎ ((b : Assignment) → Listed b xs → p b ≡ false)
unfolding first_with
first-is p [] r = inr (λ b h. absurd h)
first-is p (a ∷ xs) r = go (p a) refl (first-is p xs r.1)
  where
    later : ((b : Assignment) → Listed b xs → p b ≡ true → digits (first_with p xs) ≤ digits b) → p a ≡ false → (b : Assignment) →
        (b ≡ a) ⊎ Listed b xs → p b ≡ true
        → digits (first_with p xs) ≤ digits b
    later least e b (inl q) h = t≢f (sym h ∙ ap p q ∙ e)
    later least e b (inr l) h = least b l h

    none-fits : p a ≡ false → ((b : Assignment) → Listed b xs → p b ≡ false) → (b : Assignment) → (b ≡ a) ⊎ Listed b xs → p b ≡ false
    none-fits e none-later b (inl q) = ap p q ∙ e
    none-fits e none-later b (inr l) = none-later b l

    first-least : (b : Assignment) → (b ≡ a) ⊎ Listed b xs → digits a ≤ digits b
    first-least b (inl q) = rw q (omega arith)
    first-least b (inr l) = r.0 b l

    go : (t : Bool) → p a ≡ t → Found p xs ⊎ ((b : Assignment) → Listed b xs → p b ≡ false)
        → (Listed (cond t a (first_with p xs)) (a ∷ xs) × (p (cond t a (first_with p xs)) ≡ true)
        × ((b : Assignment) → Listed b (a ∷ xs) → p b ≡ true → digits (cond t a (first_with p xs)) ≤ digits b)) ⊎
        ((b : Assignment) → Listed b (a ∷ xs) → p b ≡ false)
    go true e x = inl (inl refl, e, λ b h k. first-least b h)
    go false e (inl (l, q, least)) = inl (inr l, q, later least e)
    go false e (inr none-later) = inr (none-fits e none-later)

-- ---- agreement

-- The same from the variable i on.
abbrev pub AgreesFrom : (ℕ → Bool) → (ℕ → Bool) → ℕ → Assignment → Type 0
AgreesFrom P N i a = (v : ℕ) → i ≤ v → v < i + length a
    → (P v ≡ true → get_or a (v - i) false ≡ true) × (P v ≡ false → N v ≡ true → get_or a (v - i) false ≡ false)

test-both : (p q b : Bool) → cond p b (cond q (not b) true) ≡ true → (p ≡ true → b ≡ true) × (p ≡ false → q ≡ true → b ≡ false)
test-both true q b e = ((λ _. e), λ f. t≢f f)
test-both false true b e = ((λ f. t≢f (sym f)), λ _ _. sym (not-not b) ∙ ap not e)
test-both false false b e = ((λ f. t≢f (sym f)), λ _ f. t≢f (sym f))

both-test : (p q b : Bool) → (p ≡ true → b ≡ true) → (p ≡ false → q ≡ true → b ≡ false) → cond p b (cond q (not b) true) ≡ true
both-test true q b h k = h refl
both-test false true b h k = ap not (k refl refl)
both-test false false b h k = refl

module _ (P N : ℕ → Bool) where
  pub agrees-so : (i : ℕ) (a : Assignment) → agrees P N i a ≡ true → AgreesFrom P N i a
  unfolding agrees
  agrees-so i [] e v lo hi = absurd (omega arith)
  agrees-so i (b ∷ a) e v lo hi =
      let (here, rest) = and_both (cond (P i) b (cond (N i) (not b) true)) (agrees P N (suc i) a) e in
      go (test-both (P i) (N i) b here) (agrees-so (suc i) a rest) (v - i) refl
    where
      go : (P i ≡ true → b ≡ true) × (P i ≡ false → N i ≡ true → b ≡ false) → AgreesFrom P N (suc i) a → (k : ℕ) → v - i ≡ k
          → (P v ≡ true → get_or (b ∷ a) k false ≡ true) × (P v ≡ false → N v ≡ true → get_or (b ∷ a) k false ≡ false)
      go here later zero e = let at_i : v ≡ i = omega (arith, lo, e) in
          ((λ p. here.0 (ap P (sym at_i) ∙ p)), λ p q. here.1 (ap P (sym at_i) ∙ p) (ap N (sym at_i) ∙ q))
      go here later (suc k) e =
          let x = later v (omega (arith, lo, e)) (omega (arith, hi)) in
          let k-is : v - suc i ≡ k = omega (arith, e) in (rw k-is at x)

  pub so-agrees : (i : ℕ) (a : Assignment) → AgreesFrom P N i a → agrees P N i a ≡ true
  unfolding agrees
  so-agrees i [] h = refl
  so-agrees i (b ∷ a) h =
      let first = h i (omega arith) (omega arith) in
      let z : i - i ≡ 0 = omega arith in
      let here : (P i ≡ true → b ≡ true) × (P i ≡ false → N i ≡ true → b ≡ false) = rw z at first in
      let rest : agrees P N (suc i) a ≡ true = so-agrees (suc i) a (λ v lo hi. shift v lo (h v (omega (arith, lo)) (omega (arith, hi)))) in
      rw (both-test (P i) (N i) b here.0 here.1) rest
    where
      shift : (v : ℕ) → suc i ≤ v → (P v ≡ true → get_or (b ∷ a) (v - i) false ≡ true)
          × (P v ≡ false → N v ≡ true → get_or (b ∷ a) (v - i) false ≡ false)
          → (P v ≡ true → get_or a (v - suc i) false ≡ true) × (P v ≡ false → N v ≡ true → get_or a (v - suc i) false ≡ false)
      shift v lo x = let e : v - i ≡ suc (v - suc i) = omega (arith, lo) in (rw e at x)

  forced-agrees : (i : ℕ) (a : Assignment) → agrees P N i (forced P N i a) ≡ true
  unfolding agrees forced
  forced-agrees i [] = refl
  forced-agrees i (b ∷ a) = go (P i) (N i) (forced-agrees (suc i) a)
    where
      go : (p q : Bool) → agrees P N (suc i) (forced P N (suc i) a) ≡ true
          → (cond p (cond p true (cond q false b)) (cond q (not (cond p true (cond q false b))) true)
          && agrees P N (suc i) (forced P N (suc i) a)) ≡ true
      go true q h = h
      go false true h = h
      go false false h = h

-- ---- the theorem

module _ (n : ℕ) (P N : ℕ → Bool) (g : Diagram) where
  abbrev fits : Assignment → Bool
  fits a = agrees P N 1 a && not (value g a)

  -- where none fits the witness makes the line 1
  none-one : ((b : Assignment) → Listed b (assignments n) → fits b ≡ false) → witnessed n P N g ≡ true
  unfolding witnessed cofactor_literals value_from
  none-one none-fits =
      eq-same (cofactor_literals n P N g) (leaf true)
      (diagram-is n (λ a. value g (forced P N 1 a)) (leaf true) tt (λ a len.
      let e : fits (forced P N 1 a) ≡ false = none-fits (forced P N 1 a) (listed n (forced P N 1 a) (forced-length P N 1 a ∙ len)) in
      go (value g (forced P N 1 a)) (agrees P N 1 (forced P N 1 a)) (forced-agrees P N 1 a) e))
    where
      go : (x y : Bool) → y ≡ true → (y && not x) ≡ false → x ≡ true
      go true y e f = refl
      go false true e f = t≢f f
      go false false e f = t≢f (sym e)

  -- THEOREM: where the witness does not make the line 1, `smallest` is the smallest assignment that agrees with it and makes the line
  -- false.
  pub smallest-so : witnessed n P N g ≡ false → Smallest n P N g (smallest n P N g)
  unfolding smallest AllLong Agrees
  smallest-so w = go (first-is fits (assignments n) (all-rise n))
    where
      go : Found fits (assignments n) ⊎ ((b : Assignment) → Listed b (assignments n) → fits b ≡ false) →
          Smallest n P N g (first_with fits (assignments n))
      go (inr none-fits) = t≢f (sym (none-one none-fits) ∙ w)
      go (inl (l, holds-there, least)) =
          let a : Assignment = first_with fits (assignments n) in
          let (agree, off) = and_both (agrees P N 1 a) (not (value g a)) holds-there in
          record {
            long = all-long n a l;
            agrees = λ v lo hi. agrees-so P N 1 a agree v lo (omega (arith, hi));
            false-there = sym (not-not (value g a)) ∙ ap not off;
            least = λ b len so off-b. least b (listed n b len) (rw (so-agrees P N 1 b (λ v lo hi. so v lo (omega (arith, hi))), off-b));
          }
