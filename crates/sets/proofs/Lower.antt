-- The set's variables from the greatest down, and the diagrams of the last of them: at least j of the last i + 1 is a branch over two of
-- the last i; all of them are the set's. The idea: between two of them there is none. Assumes nothing.
use mathlib.Core.Path.{◌≡◌, refl, sym, ap, ap₂, ◌∙◌, subst}
use mathlib.Core.Bool.{Bool, true, false}
use Prim.Native.Nat.{ℕ, zero, suc, ◌+◌, ◌-◌, ◌≤◌, ◌<◌}
use native.Mathlib.Omega.{arith}
use native.Mathlib.Decide.{ℕ_discrete}
use lib.Dec.{eqb}
use borrow.Author.Tests.{lt-ltb, ne_eqb}
use Rattle.meaning.specs.Diagram.{leaf, branch}
use Rattle.meaning.specs.Reduced.{Reduced}
use Rattle.meaning.specs.Words.{in_word}
use Rattle.meaning.proofs.Canonical.{reduced-from, branch_same}
use Rattle.meaning.specs.Sets.{at_least, size_from, size_of}
use Rattle.meaning.specs.Tallies.{at_least_from}
use Rattle.meaning.proofs.Sets.{size_in, size-out, size-end}
use Rattle.meaning.proofs.Tallies.{tally-end, tally-reduced, tally-skipped, tally-here, at_least-is, none-wanted}
use Rattle.sets.specs.Variables.{lower, nth, Deep, Members}
use Rattle.sets.specs.Building.{last_of}

-- ---- the next lower variable

pub lower-hit : (set v : ℕ) → 1 ≤ v → in_word set v ≡ true → lower set (suc v) ≡ v
unfolding lower
lower-hit set v p e = rw (lt-ltb 0 v (omega arith), e)

lower-miss : (set v : ℕ) → in_word set v ≡ false → lower set (suc v) ≡ lower set v
unfolding lower
lower-miss set zero e = refl
lower-miss set (suc v) e = rw (lt-ltb 0 (suc v) (omega arith), e)

lower-one : (set : ℕ) → lower set 1 ≡ 0
unfolding lower
lower-one set = refl

pub record Lower (set v w : ℕ) : Type 0 where
  pub less : w < v
  pub none : (u : ℕ) → w < u → u < v → in_word set u ≡ false
  pub here : 1 ≤ w → in_word set w ≡ true

pub lower-is : (set v : ℕ) → 1 ≤ v → Lower set v (lower set v)
lower-is set zero p = absurd (omega arith)
lower-is set (suc zero) p = subst (Lower set 1) (sym (lower-one set))
    (record { less = omega arith; none = λ u a b. absurd (omega arith); here = λ q. absurd (omega arith) })
lower-is set (suc (suc v)) p = go (in_word set (suc v)) refl (lower-is set (suc v) (omega arith))
  where
    go : (b : Bool) → in_word set (suc v) ≡ b → Lower set (suc v) (lower set (suc v)) → Lower set (suc (suc v)) (lower set (suc (suc v)))
    go true e L = subst (Lower set (suc (suc v))) (sym (lower-hit set (suc v) (omega arith) e))
        (record { less = omega arith; none = λ u a b. absurd (omega arith); here = λ _. e })
    go false e L =
        subst (Lower set (suc (suc v))) (sym (lower-miss set (suc v) e))
        (record {
          less = omega (arith, L.less);
          none = λ u a b. elim (ℕ_discrete u (suc v)) [ yes q ↦ ap (in_word set) q ∙ e | no q ↦ L.none u a (omega (arith, q)) ];
          here = L.here;
        })

-- ---- one after the other

pub nth-zero : (set : ℕ) → nth set 0 ≡ 65
unfolding nth
nth-zero set = refl

pub nth-suc : (set i : ℕ) → nth set (suc i) ≡ lower set (nth set i)
unfolding nth
nth-suc set i = refl

nth-is : (set i : ℕ) → 1 ≤ nth set i → Lower set (nth set i) (nth set (suc i))
nth-is set i p = subst (Lower set (nth set i)) (sym (nth-suc set i)) (lower-is set (nth set i) p)

pub nth-falls : (set i : ℕ) → Deep set i → nth set i + i ≤ 65
nth-falls set zero D = omega (arith, nth-zero set)
nth-falls set (suc i) D =
    let L : Lower set (nth set i) (nth set (suc i)) = nth-is set i (D i (omega arith)) in
    omega (arith, L.less, nth-falls set i (λ k p. D k (omega arith)))

module _ (set : ℕ) where
  abbrev S : ℕ → Bool
  S = in_word set

  -- at least j, as a tally
  abbrev met : ℕ → Bool
  met j = eqb j 0

  abbrev less : ℕ → ℕ
  less j = j - 1

  pub last_none : (i : ℕ) → last_of set i 0 ≡ leaf true
  last_none i = none-wanted S (65 - nth set i) (nth set i)

  last-zero : (j : ℕ) → last_of set 0 j ≡ leaf (eqb j 0)
  last-zero j = ap (λ (v : ℕ). at_least_from S (65 - v) v j) (nth-zero set) ∙ tally-end met less S 65 j

  pub last-reduced : (i j : ℕ) → Deep set i → Reduced 1 65 (last_of set i j)
  last-reduced i j D =
      let n : nth set i ≤ 65 = omega (arith, nth-falls set i D) in
      reduced-from 1 (nth set i) 65 (last_of set i j) (D i (omega arith))
      (tally-reduced met less S (65 - nth set i) (nth set i) 65 j (omega arith))

  -- at least j of the last i + 1 variables
  pub last_step : (i j : ℕ) → Deep set (suc i) → last_of set (suc i) j ≡ branch (nth set (suc i)) (last_of set i j) (last_of set i (j - 1))
  last_step i j D =
      let L : Lower set (nth set i) (nth set (suc i)) = nth-is set i (D i (omega arith)) in
      let n : nth set i ≤ 65 = omega (arith, nth-falls set i (λ k p. D k (omega arith))) in
      tally-here met less S 65 (nth set (suc i)) j (omega (arith, L.less)) (L.here (D (suc i) (omega arith)))
      ∙ ap₂ (branch (nth set (suc i)))
      (tally-skipped met less S 65 (suc (nth set (suc i))) (nth set i) j (omega (arith, L.less)) n (λ u a b. L.none u (omega arith) b))
      (tally-skipped met less S 65 (suc (nth set (suc i))) (nth set i) (j - 1) (omega (arith, L.less)) n
      (λ u a b. L.none u (omega arith) b))

  -- "k above the set's size gives 0"
  pub last-beyond : (i j : ℕ) → Deep set i → i < j → last_of set i j ≡ leaf false
  last-beyond zero j D lt = last-zero j ∙ ap leaf (ne_eqb j 0 (λ e. omega arith))
  last-beyond (suc i) j D lt =
      let D' : Deep set i = λ k p. D k (omega arith) in
      last_step i j D
      ∙ ap₂ (branch (nth set (suc i))) (last-beyond i j D' (omega arith)) (last-beyond i (j - 1) D' (omega arith))
      ∙ branch_same (nth set (suc i)) (leaf false) (leaf false) refl

  -- all of them are the set's
  pub last-whole : (m j : ℕ) → Members set m → last_of set m j ≡ at_least 64 (in_word set) j
  last-whole m j M =
      let L : Lower set (nth set m) (nth set (suc m)) = nth-is set m (M.there m (omega arith)) in
      let n : nth set m ≤ 65 = omega (arith, nth-falls set m M.there) in
      sym (at_least-is S 64 j ∙ tally-skipped met less S 65 1 (nth set m) j (M.there m (omega arith)) n
      (λ u a b. L.none u (omega (arith, M.end)) b))

  -- ---- how many they are

  size-skip : (d k i : ℕ) → ((u : ℕ) → i ≤ u → u < i + d → S u ≡ false) → size_from S (d + k) i ≡ size_from S k (i + d)
  size-skip zero k i none = ap₂ (size_from S) (omega arith) (omega arith)
  size-skip (suc d) k i none =
      let z : suc d + k ≡ suc (d + k) = omega arith in
      let w : suc i + d ≡ i + suc d = omega arith in
      rw z (size-out S (d + k) i (none i (omega arith) (omega arith)) ∙ size-skip d k (suc i) (λ u p q. none u (omega arith) (omega arith))
      ∙ rw w)

  size-skipped : (v w : ℕ) → v ≤ w → w ≤ 65 → ((u : ℕ) → v ≤ u → u < w → S u ≡ false) → size_from S (65 - v) v ≡ size_from S (65 - w) w
  size-skipped v w least most none =
      let p : 65 - v ≡ (w - v) + (65 - w) = omega arith in
      let q : v + (w - v) ≡ w = omega arith in
      rw p (size-skip (w - v) (65 - w) v (λ u a b. none u a (omega arith)) ∙ rw q)

  size-nth : (i : ℕ) → Deep set i → size_from S (65 - nth set i) (nth set i) ≡ i
  size-nth zero D = ap (λ (v : ℕ). size_from S (65 - v) v) (nth-zero set) ∙ size-end S 65
  size-nth (suc i) D =
      let D' : Deep set i = λ k p. D k (omega arith) in
      let L : Lower set (nth set i) (nth set (suc i)) = nth-is set i (D i (omega arith)) in
      let n : nth set i ≤ 65 = omega (arith, nth-falls set i D') in
      let z : 65 - nth set (suc i) ≡ suc (65 - suc (nth set (suc i))) = omega (arith, L.less) in
      ap (λ (m : ℕ). size_from S m (nth set (suc i))) z
      ∙ size_in S (65 - suc (nth set (suc i))) (nth set (suc i)) (L.here (D (suc i) (omega arith)))
      ∙ ap suc (size-skipped (suc (nth set (suc i))) (nth set i) (omega (arith, L.less)) n (λ u a b. L.none u (omega arith) b)
      ∙ size-nth i D')

  size-whole : (m : ℕ) → Deep set m → nth set (suc m) ≡ 0 → m ≡ size_of 64 (in_word set)
  unfolding size_of
  size-whole m D e =
      let L : Lower set (nth set m) (nth set (suc m)) = nth-is set m (D m (omega arith)) in
      let n : nth set m ≤ 65 = omega (arith, nth-falls set m D) in
      sym (size-skipped 1 (nth set m) (D m (omega arith)) n (λ u a b. L.none u (omega (arith, e)) b) ∙ size-nth m D)

  pub members : (m : ℕ) → Deep set m → nth set (suc m) ≡ 0 → Members set m
  members m D e = record { most = omega (arith, nth-falls set m D, D m (omega arith)); there = D; end = e; many = size-whole m D e }

-- ---- the loops

pub lower-first : (set v : ℕ) → 1 ≤ v → lower set v ≡ lower set (suc (v - 1))
lower-first set v p = let z : v ≡ suc (v - 1) = omega arith in ap (lower set) z

pub lower-go : (set w : ℕ) → 1 ≤ w → in_word set w ≡ false → lower set (suc w) ≡ lower set (suc (w - 1))
lower-go set w p e = lower-miss set w e ∙ lower-first set w p

pub lower-done : (set w : ℕ) → w < 1 → lower set (suc w) ≡ 0
lower-done set w p = let z : w ≡ 0 = omega arith in ap (λ (x : ℕ). lower set (suc x)) z ∙ lower-one set

-- m variables are counted, and v is the next
pub record Counting (set m v : ℕ) : Type 0 where
  pub most : m ≤ 64
  pub below : v ≤ 64
  pub at : v ≡ nth set (suc m)
  pub deep : Deep set m

pub counting-start : (set v : ℕ) → v ≡ lower set 65 → Counting set 0 v
counting-start set v e =
    let L : Lower set 65 (lower set 65) = lower-is set 65 (omega arith) in
    record {
      most = omega arith;
      below = omega (arith, L.less);
      at = e ∙ sym (nth-suc set 0 ∙ ap (lower set) (nth-zero set));
      deep = λ i p. let z : i ≡ 0 = omega arith in subst (λ (i : ℕ). 1 ≤ nth set i) (sym z) (omega (arith, nth-zero set));
    }

pub counting-next : (set m v u : ℕ) → Counting set m v → 1 ≤ v → u ≡ lower set v → Counting set (m + 1) u
counting-next set m v u C p e =
    let z : suc m ≡ m + 1 = omega arith in
    let L : Lower set v (lower set v) = lower-is set v p in
    let D : Deep set (m + 1) = λ i q. elim (ℕ_discrete i (suc m)) [
      | yes s ↦ subst (λ (i : ℕ). 1 ≤ nth set i) (sym s) (omega (arith, C.at))
      | no s ↦ C.deep i (omega (arith, s))
    ] in
    record {
      most = omega (arith, nth-falls set (m + 1) D, D (m + 1) (omega arith));
      below = omega (arith, L.less, C.below);
      at = e ∙ ap (lower set) C.at ∙ sym (nth-suc set (suc m)) ∙ ap (λ (n : ℕ). nth set (suc n)) z;
      deep = D;
    }

pub counting-end : (set m v : ℕ) → Counting set m v → v < 1 → Members set m
counting-end set m v C p = members set m C.deep (let z : v ≡ 0 = omega arith in sym C.at ∙ z)
