-- A cofactor by a conjunction of literals is that by the literals. The idea: at each variable in turn; where the conjunction has it, both
-- take the side that its literal makes true, and elsewhere both go down both sides. Assumes nothing.
use mathlib.Core.Path.{◌≡◌, refl, sym, ap, ap₂, ◌∙◌, subst}
use mathlib.Core.Logic.{inl, inr, ⊎_elim, ◌≢◌}
use mathlib.Core.Bool.{Bool, true, false, not, cond, ◌&&◌, ◌||◌}
use Prim.Native.Nat.{ℕ, zero, suc, ◌+◌, ◌≤◌}
use native.Mathlib.Omega.{arith}
use native.Mathlib.Decide.{ℕ_discrete}
use lib.Dec.{eqb}
use borrow.Author.Tests.{eq-eqb, ne_eqb}
use Rattle.meaning.specs.Diagram.{Diagram, leaf, node, branch}
use Rattle.meaning.specs.Reduced.{Reduced}
use Rattle.meaning.specs.Operations.{cofactor, cofactor_literals}
use Rattle.meaning.proofs.Booleans.{t≢f}
use Rattle.meaning.proofs.Canonical.{branch_same, side, side-reduced, reduced-from}
use Rattle.meaning.proofs.Cofactor.{side-below}
use Rattle.meaning.proofs.CofactorSteps.{cofactor-leaf, cofactor-one, cofactor-both}
use Rattle.meaning.proofs.PointwiseSteps.{literals-leaf, literals-high, literals-low, literals-branch}
use Rattle.judge.specs.Cubes.{is_zero, IsCube, literal_in}

-- a conjunction is not 0
cube-some : (D : Diagram) → IsCube D → is_zero D ≡ false
cube-some (leaf b) c = ap not c
cube-some (node v l h) c = refl

zero_test : (D : Diagram) → D ≡ leaf false → is_zero D ≡ true
zero_test D e = ap is_zero e

cube-nonzero : (D : Diagram) → IsCube D → D ≢ leaf false
cube-nonzero D c e = t≢f (sym (zero_test D e) ∙ cube-some D c)

-- ---- the literals of a node

module _ (s : Bool) (v : ℕ) (l h : Diagram) (w : ℕ) where
  pub literal-high : is_zero l ≡ true → literal_in s (node v l h) w ≡ ((s && eqb v w) || literal_in s h w)
  literal-high e = rw e

  pub literal-low : is_zero l ≡ false → literal_in s (node v l h) w ≡ ((not s && eqb v w) || literal_in s l w)
  literal-low e = rw e

false-and : (s : Bool) → (s && false) ≡ false
false-and true = refl
false-and false = refl

-- a diagram from behind w on has no literal of w
absent : (s : Bool) (w e : ℕ) (D : Diagram) → Reduced (suc w) e D → literal_in s D w ≡ false
absent s w e (leaf b) o = refl
absent s w e (node v l h) o =
    go (is_zero l) (absent s w e l (reduced-from (suc w) (suc v) e l (omega arith) o.3))
    (absent s w e h (reduced-from (suc w) (suc v) e h (omega arith) o.4))
  where
    other : eqb v w ≡ false
    other = ne_eqb v w (λ q. absurd (omega (arith, q, o.0)))

    go : (b : Bool) → literal_in s l w ≡ false → literal_in s h w ≡ false →
        cond b ((s && eqb v w) || literal_in s h w) ((not s && eqb v w) || literal_in s l w) ≡ false
    go true p q = rw (other, q, false-and s)
    go false p q = rw (other, p, false-and (not s))

-- ---- the law

module _ (P N : ℕ → Bool) where
  -- From variable i on the sets are the conjunction's literals.
  abbrev Same : ℕ → Diagram → Type 0
  Same i D = (w : ℕ) → i ≤ w → (P w ≡ literal_in true D w) × (N w ≡ literal_in false D w)

  -- what is set true may be taken from the high side, what is set false from the low one
  high-side : (i : ℕ) → 1 ≤ i → i ≤ 64 → P i ≡ true → (f : Diagram) → cofactor_literals 64 P N (side i true f) ≡ cofactor_literals 64 P N f
  unfolding side
  high-side i least most p (leaf b) = refl
  high-side i least most p (node v l h) = go (ℕ_discrete v i)
    where
      go : (d : Dec (v ≡ i)) → cofactor_literals 64 P N (elim d [ yes e ↦ h | no n ↦ node v l h ]) ≡ cofactor_literals 64 P N (node v l h)
      go (yes e) = sym (literals-high 64 P N v l h (omega arith) (omega arith) (ap P e ∙ p))
      go (no n) = refl

  low-side : (i : ℕ) → 1 ≤ i → i ≤ 64 → P i ≡ false → N i ≡ true → (f : Diagram) →
      cofactor_literals 64 P N (side i false f) ≡ cofactor_literals 64 P N f
  unfolding side
  low-side i least most p q (leaf b) = refl
  low-side i least most p q (node v l h) = go (ℕ_discrete v i)
    where
      go : (d : Dec (v ≡ i)) → cofactor_literals 64 P N (elim d [ yes e ↦ l | no n ↦ node v l h ]) ≡ cofactor_literals 64 P N (node v l h)
      go (yes e) = sym (literals-low 64 P N v l h (omega arith) (omega arith) (ap P e ∙ p) (ap N e ∙ q))
      go (no n) = refl

  -- what is not set has both sides
  both-sides : (i : ℕ) → 1 ≤ i → P i ≡ false → N i ≡ false → (f : Diagram) → Reduced i 65 f →
      branch i (cofactor_literals 64 P N (side i false f)) (cofactor_literals 64 P N (side i true f)) ≡ cofactor_literals 64 P N f
  unfolding side
  both-sides i least p q (leaf b) o = branch_same i _ _ refl
  both-sides i least p q (node v l h) o = go (ℕ_discrete v i)
    where
      go : (d : Dec (v ≡ i)) → branch i (cofactor_literals 64 P N (elim d [ yes e ↦ l | no n ↦ node v l h ]))
          (cofactor_literals 64 P N (elim d [ yes e ↦ h | no n ↦ node v l h ])) ≡ cofactor_literals 64 P N (node v l h)
      go (yes e) =
          ap (λ (x : ℕ). branch x (cofactor_literals 64 P N l) (cofactor_literals 64 P N h)) (sym e)
          ∙ sym (literals-branch 64 P N v l h (reduced-from 1 i 65 (node v l h) least o) (ap P e ∙ p) (ap N e ∙ q))
      go (no n) = branch_same i _ _ refl

  -- The law for diagrams from variable i on.
  abbrev Agree : ℕ → Type 0
  Agree i = (f D : Diagram) → Reduced i 65 f → Reduced i 65 D → IsCube D → Same i D → cofactor 64 f D ≡ cofactor_literals 64 P N f

  module _ (i : ℕ) (least : 1 ≤ i) (most : i ≤ 64) (later : Agree (suc i)) (f : Diagram) (of : Reduced i 65 f) where
    -- the conjunction has no literal of i
    skip : (D : Diagram) → Reduced (suc i) 65 D → IsCube D → Same i D → cofactor 64 f D ≡ cofactor_literals 64 P N f
    skip D o c same =
        cofactor-both 64 i f D least most of (reduced-from i (suc i) 65 D (omega arith) o) (some false) (some true)
        ∙ ap₂ (branch i) (down false) (down true)
        ∙ both-sides i least ((same i (omega arith)).0 ∙ absent true i 65 D o) ((same i (omega arith)).1 ∙ absent false i 65 D o) f of
      where
        own : (b : Bool) → side i b D ≡ D
        own b = side-below i 65 b D o

        some : (b : Bool) → side i b D ≢ leaf false
        some b e = cube-nonzero D c (sym (own b) ∙ e)

        down : (b : Bool) → cofactor 64 (side i b f) (side i b D) ≡ cofactor_literals 64 P N (side i b f)
        down b = ap (cofactor 64 (side i b f)) (own b) ∙ later (side i b f) D (side-reduced i 65 b f of) o c (λ w p. same w (omega arith))

    -- it has i's literal
    module _ (l h : Diagram) (o : Reduced i 65 (node i l h)) (same : Same i (node i l h)) where
      at-root : (b : Bool) → side i b (node i l h) ≡ cond b h l
      unfolding side
      at-root b = go (ℕ_discrete i i)
        where
          go : (d : Dec (i ≡ i)) → elim d [ yes e ↦ cond b h l | no n ↦ node i l h ] ≡ cond b h l
          go (yes e) = refl
          go (no n) = absurd (n refl)

      beyond : (w : ℕ) → suc i ≤ w → eqb i w ≡ false
      beyond w p = ne_eqb i w (λ e. absurd (omega arith))

      take-high : l ≡ leaf false → IsCube h → cofactor 64 f (node i l h) ≡ cofactor_literals 64 P N f
      take-high z c =
          cofactor-one 64 i f (node i l h) least most of o false (cube-nonzero (node i l h) (inl (z, c))) (at-root false ∙ z)
          ∙ ap (cofactor 64 (side i true f)) (at-root true)
          ∙ later (side i true f) h (side-reduced i 65 true f of) o.4 c
          (λ w p. (
            (same w (omega arith)).0 ∙ literal-high true i l h w (zero_test l z) ∙ rw (beyond w p),
            (same w (omega arith)).1 ∙ literal-high false i l h w (zero_test l z),
          ))
          ∙ high-side i least most ((same i (omega arith)).0 ∙ literal-high true i l h i (zero_test l z) ∙ rw (eq-eqb i i refl)) f

      take-low : h ≡ leaf false → IsCube l → cofactor 64 f (node i l h) ≡ cofactor_literals 64 P N f
      take-low z c =
          cofactor-one 64 i f (node i l h) least most of o true (cube-nonzero (node i l h) (inr (z, c))) (at-root true ∙ z)
          ∙ ap (cofactor 64 (side i false f)) (at-root false)
          ∙ later (side i false f) l (side-reduced i 65 false f of) o.3 c
          (λ w p. (
            (same w (omega arith)).0 ∙ literal-low true i l h w (cube-some l c),
            (same w (omega arith)).1 ∙ literal-low false i l h w (cube-some l c) ∙ rw (beyond w p),
          ))
          ∙ low-side i least most
          ((same i (omega arith)).0 ∙ literal-low true i l h i (cube-some l c) ∙ absent true i 65 l o.3)
          ((same i (omega arith)).1 ∙ literal-low false i l h i (cube-some l c) ∙ rw (eq-eqb i i refl)) f

    step : (D : Diagram) → Reduced i 65 D → IsCube D → Same i D → cofactor 64 f D ≡ cofactor_literals 64 P N f
    step (leaf b) o c same = skip (leaf b) tt c same
    step (node v l h) o c same = go (ℕ_discrete v i)
      where
        root : v ≡ i → cofactor 64 f (node v l h) ≡ cofactor_literals 64 P N f
        root e =
            let o' : Reduced i 65 (node i l h) = subst (λ (x : ℕ). Reduced i 65 (node x l h)) e o in
            let same' : Same i (node i l h) = subst (λ (x : ℕ). Same i (node x l h)) e same in
            ap (λ (x : ℕ). cofactor 64 f (node x l h)) e
            ∙ ⊎_elim (λ p. take-high l h o' same' p.0 p.1) (λ p. take-low l h o' same' p.0 p.1) c

        go : Dec (v ≡ i) → cofactor 64 f (node v l h) ≡ cofactor_literals 64 P N f
        go (yes e) = root e
        go (no n) = skip (node v l h) (omega (arith, n, o.0), o.1, o.2, o.3, o.4) c same

  from : (k i : ℕ) → 1 ≤ i → i + k ≡ 65 → Agree i
  from zero i least e (leaf b) D of og c same = cofactor-leaf 64 b D ∙ sym (literals-leaf 64 P N b)
  from zero i least e (node v l h) D of og c same = absurd (omega (arith, of.0, of.1))
  from (suc k) i least e f D of og c same =
      step i least (omega arith) (from k (suc i) (omega arith) (omega arith)) f of D og c same

  pub cube-cofactor : (f D : Diagram) → Reduced 1 65 f → Reduced 1 65 D → IsCube D → Same 1 D → cofactor 64 f D ≡ cofactor_literals 64 P N f
  cube-cofactor = from 64 1 (omega arith) refl
