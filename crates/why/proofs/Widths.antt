-- The literals that UnitProp fixes are the same over n variables as over the m in use, m ≤ n. The idea: no member other than 0 has a unit
-- beyond its own variables, and more rounds fix nothing more. Assumes nothing.
use mathlib.Core.Path.{◌≡◌, refl, sym, ap, ap₂, ◌∙◌}
use mathlib.Core.Logic.{◌≢◌}
use mathlib.Core.Bool.{Bool, true, false, ◌||◌, cond}
use mathlib.Core.List.{List, [], ◌∷◌, append-nil}
use mathlib.Core.Option.{Option, none, some}
use Prim.Native.Nat.{ℕ, zero, suc, ◌+◌, ◌-◌, ◌≤◌}
use native.Mathlib.Omega.{arith}
use Rattle.meaning.specs.Diagram.{Diagram, leaf, same}
use Rattle.meaning.specs.Reduced.{Reduced}
use Rattle.meaning.specs.Operations.{Literal, negation}
use Rattle.meaning.specs.Rules.{any, conflicts, has_unit, first_with_unit, by_units, Propagation, round, still, taking, propagate}
use Rattle.meaning.proofs.Booleans.{t≢f, or-neither}
use Rattle.meaning.proofs.PointwiseSteps.{negation-width, literals-cong, literals-width}
use Rattle.meaning.proofs.Units.{eq-same, is_unit-width, is_unit-beyond}
use Rattle.meaning.proofs.Ends.{AllReduced, by_units-reduced, first_taken, more-rounds}
use Rattle.meaning.specs.Rules.{units_to}
use Rattle.causes.specs.Causes.{taking_fixes, fixes_within, fixes}

-- ---- more rounds

same_more : (most n : ℕ) (ms : List Diagram) → (propagate (suc most) n ms).rounds ≡ (propagate most n ms).rounds →
    fixes_within (suc most) n ms
    ≡ fixes_within most n ms
unfolding propagate fixes_within round
same_more zero n ms stays = go (conflicts n ms) (first_with_unit n ms) stays
  where
    go : (b : Bool) (x : Option Diagram) → (cond b (still true)
        (taking x (λ u. round (by_units n u ms) (propagate zero n (by_units n u ms))))
        ).rounds ≡ 0
        → cond b [] (taking_fixes x (λ u. units_to n n u ∷ fixes_within zero n (by_units n u ms))) ≡ []
    go true x q = refl
    go false none q = refl
    go false (some u) q = absurd (omega (arith, q))
same_more (suc most) n ms stays = go (conflicts n ms) (first_with_unit n ms) stays (λ u. same_more most n (by_units n u ms))
  where
    step : ℕ → Bool → Option Diagram → Propagation
    step k b x = cond b (still true) (taking x (λ u. round (by_units n u ms) (propagate k n (by_units n u ms))))

    go : (b : Bool) (x : Option Diagram) → (step (suc most) b x).rounds ≡ (step most b x).rounds
        → ((u : Diagram) → (propagate (suc most) n (by_units n u ms)).rounds ≡ (propagate most n (by_units n u ms)).rounds →
        fixes_within (suc most) n (by_units n u ms) ≡ fixes_within most n (by_units n u ms))
        → cond b [] (taking_fixes x (λ u. units_to n n u ∷ fixes_within (suc most) n (by_units n u ms)))
        ≡ cond b [] (taking_fixes x (λ u. units_to n n u ∷ fixes_within most n (by_units n u ms)))
    go true x q rec = refl
    go false none q rec = refl
    go false (some u) q rec = ap (◌∷◌ (units_to n n u)) (rec u (omega (arith, q)))

more-fixes : (n k : ℕ) (ms : List Diagram) → AllReduced n ms → fixes_within (n + k) n ms ≡ fixes_within n n ms
more-fixes n zero ms o = let z : n + 0 ≡ n = omega arith in ap (λ (k : ℕ). fixes_within k n ms) z
more-fixes n (suc k) ms o =
    let z : n + suc k ≡ suc (n + k) = omega arith in
    let stays : (propagate (suc (n + k)) n ms).rounds ≡ (propagate (n + k) n ms).rounds =
    ap (λ (p : Propagation). p.rounds) (ap (λ (j : ℕ). propagate j n ms) (sym z) ∙ more-rounds n (suc k) ms o ∙ sym (more-rounds n k ms o))
    in
    ap (λ (j : ℕ). fixes_within j n ms) z ∙ same_more (n + k) n ms stays ∙ more-fixes n k ms o

-- ---- the parts of a round

any-cong : (m : ℕ) (p q : Diagram → Bool) (ms : List Diagram) → AllReduced m ms → ((f : Diagram) → Reduced 1 (suc m) f → p f ≡ q f) →
    any p ms ≡ any q ms
unfolding any
any-cong m p q [] o h = refl
any-cong m p q (f ∷ fs) o h = ap₂ ◌||◌ (h f o.0) (any-cong m p q fs o.1 h)

module _ (m n : ℕ) (more : m ≤ n) where
  conflicts-width : (ms : List Diagram) → AllReduced m ms → conflicts n ms ≡ conflicts m ms
  unfolding conflicts
  conflicts-width ms o = ap (◌||◌ (any (same (leaf false)) ms))
      (any-cong m _ _ ms o (λ f of. any-cong m _ _ ms o (λ g og. ap (same f) (negation-width m n more g og))))

  has_unit-width : (w : ℕ) (f : Diagram) → Reduced 1 (suc m) f → w ≤ m → has_unit n w f ≡ has_unit m w f
  unfolding has_unit
  has_unit-width zero f o hi = refl
  has_unit-width (suc w) f o hi =
      rw (
        is_unit-width m n more f o (suc w) true (omega arith) hi,
        is_unit-width m n more f o (suc w) false (omega arith) hi,
        has_unit-width w f o (omega arith),
      )

  has_unit-beyond : (k : ℕ) (f : Diagram) → Reduced 1 (suc m) f → f ≢ leaf false → m + k ≤ n → has_unit n (m + k) f ≡ has_unit n m f
  unfolding has_unit
  has_unit-beyond zero f o nz hi = let z : m + 0 ≡ m = omega arith in rw z
  has_unit-beyond (suc k) f o nz hi =
      let z : m + suc k ≡ suc (m + k) = omega arith in
      rw (
        z,
        is_unit-beyond m n more f o (suc (m + k)) true (omega arith) (omega arith) nz,
        is_unit-beyond m n more f o (suc (m + k)) false (omega arith) (omega arith) nz,
      )
      (has_unit-beyond k f o nz (omega arith))

  units-width : (f : Diagram) → Reduced 1 (suc m) f → f ≢ leaf false → has_unit n n f ≡ has_unit m m f
  units-width f o nz =
      let z : m + (n - m) ≡ n = omega arith in
      (rw z at (has_unit-beyond (n - m) f o nz (omega arith))) ∙ has_unit-width m f o (omega arith)

  not-zero : (f : Diagram) → same (leaf false) f ≡ false → f ≢ leaf false
  not-zero f b e = t≢f (sym (eq-same (leaf false) f (sym e)) ∙ b)

  first_with_unit-width : (ms : List Diagram) → AllReduced m ms → any (same (leaf false)) ms ≡ false → first_with_unit n ms
      ≡ first_with_unit m ms
  unfolding first_with_unit any
  first_with_unit-width [] o c = refl
  first_with_unit-width (f ∷ fs) o c =
      let b : (same (leaf false) f ≡ false) × (any (same (leaf false)) fs ≡ false) =
      or-neither (same (leaf false) f) (any (same (leaf false)) fs) c in
      rw (units-width f o.0 (not-zero f b.0), first_with_unit-width fs o.1 b.1)

  by_units-width : (u : Diagram) (ms : List Diagram) → Reduced 1 (suc m) u → AllReduced m ms → by_units n u ms ≡ by_units m u ms
  unfolding by_units
  by_units-width u [] ou o = refl
  by_units-width u (f ∷ fs) ou o =
      ap₂ ◌∷◌ (literals-width m n more _ _ f o.0
      ∙ literals-cong m _ _ _ _ f (λ v lo hi. is_unit-width m n more u ou v true lo hi)
      (λ v lo hi. is_unit-width m n more u ou v false lo hi))
      (by_units-width u fs ou o.1)

  -- the literals of U
  listed-width : (w : ℕ) (f : Diagram) → Reduced 1 (suc m) f → w ≤ m → units_to n w f ≡ units_to m w f
  unfolding units_to
  listed-width zero f o hi = refl
  listed-width (suc w) f o hi =
      rw (
        is_unit-width m n more f o (suc w) true (omega arith) hi,
        is_unit-width m n more f o (suc w) false (omega arith) hi,
        listed-width w f o (omega arith),
      )

  listed-beyond : (k : ℕ) (f : Diagram) → Reduced 1 (suc m) f → f ≢ leaf false → m + k ≤ n → units_to n (m + k) f ≡ units_to n m f
  unfolding units_to
  listed-beyond zero f o nz hi = let z : m + 0 ≡ m = omega arith in rw z
  listed-beyond (suc k) f o nz hi =
      let z : m + suc k ≡ suc (m + k) = omega arith in
      rw (
        z,
        is_unit-beyond m n more f o (suc (m + k)) true (omega arith) (omega arith) nz,
        is_unit-beyond m n more f o (suc (m + k)) false (omega arith) (omega arith) nz,
      )
      (append-nil (units_to n (m + k) f) ∙ listed-beyond k f o nz (omega arith))

  units_to-width : (f : Diagram) → Reduced 1 (suc m) f → f ≢ leaf false → units_to n n f ≡ units_to m m f
  units_to-width f o nz =
      let z : m + (n - m) ≡ n = omega arith in
      (rw z at (listed-beyond (n - m) f o nz (omega arith))) ∙ listed-width m f o (omega arith)

  within-width : (most : ℕ) (ms : List Diagram) → AllReduced m ms → fixes_within most n ms ≡ fixes_within most m ms
  unfolding fixes_within
  within-width zero ms o = refl
  within-width (suc most) ms o = rw (conflicts-width ms o) (go (conflicts m ms) refl (within-width most))
    where
      next : ℕ → Diagram → List (List Literal)
      next w u = units_to w w u ∷ fixes_within most w (by_units w u ms)

      zeros : conflicts m ms ≡ false → any (same (leaf false)) ms ≡ false
      zeros c = (or-neither (any (same (leaf false)) ms) (any (λ f. any (λ g. same f (negation m g)) ms) ms) c).0

      taken : (x : Option Diagram) → first_with_unit m ms ≡ x → conflicts m ms ≡ false →
          ((ms' : List Diagram) → AllReduced m ms' → fixes_within most n ms' ≡ fixes_within most m ms')
          → taking_fixes x (next n) ≡ taking_fixes x (next m)
      taken none e c ih = refl
      taken (some u) e c ih =
          let T = first_taken m ms u e o in
          let nz : u ≢ leaf false = λ q. t≢f (sym (T.2 (same (leaf false)) (eq-same (leaf false) u (sym q))) ∙ zeros c) in
          ap₂ ◌∷◌ (units_to-width u T.1 nz) (ap (fixes_within most n) (by_units-width u ms T.1 o)
          ∙ ih (by_units m u ms) (by_units-reduced m u ms))

      go : (b : Bool) → conflicts m ms ≡ b → ((ms' : List Diagram) → AllReduced m ms' → fixes_within most n ms' ≡ fixes_within most m ms')
          → cond b [] (taking_fixes (first_with_unit n ms) (next n)) ≡ cond b [] (taking_fixes (first_with_unit m ms) (next m))
      go true c ih = refl
      go false c ih = rw (first_with_unit-width ms o (zeros c)) (taken (first_with_unit m ms) refl c ih)

  -- THEOREM: the literals fixed over n variables are those fixed over the m in use.
  pub fixes-width : (ms : List Diagram) → AllReduced m ms → fixes n ms ≡ fixes m ms
  unfolding fixes
  fixes-width ms o =
      let z : m + (n - m) ≡ n = omega arith in within-width n ms o ∙ (rw z at (more-fixes m (n - m) ms o))
