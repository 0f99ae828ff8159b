-- U(f), read off the branches, is the U(f) of all assignments; and variables that f does not have change nothing. The idea: a literal that
-- is forced at a node of another variable is forced in both branches; at a node of its own the branch where it is false is 0. Assumes
-- nothing.
use mathlib.Core.Path.{◌≡◌, refl, sym, ap, ◌∙◌}
use mathlib.Core.Logic.{◌≢◌}
use mathlib.Core.Bool.{Bool, true, false, not, ◌&&◌, ◌||◌, cond, beq}
use Prim.Native.Nat.{ℕ, zero, suc, ◌-◌, ◌≤◌, ◌<◌}
use native.Mathlib.Omega.{arith}
use native.Mathlib.Decide.{ℕ_discrete}
use lib.ListN.{length, set, replicate, length-set, length-replicate, get_or-replicate}
use lib.Seq.{get_or-set_same, get_or-set_other}
use lib.Dec.{eqb}
use Rattle.meaning.specs.Diagram.{Assignment, holds, Diagram, leaf, node, same?, same, value_from, value}
use Rattle.meaning.specs.Reduced.{Reduced}
use Rattle.meaning.specs.Operations.{is_unit}
use Rattle.meaning.specs.Branchwise.{unit_at}
use Rattle.meaning.proofs.Canonical.{reduced-from, unique}
use Rattle.meaning.proofs.Booleans.{t≢f, both_ways, not-true, and_both, or_cases, or_left, or_right, eqb-eq, eq-eqb, beq-eq}
use Rattle.meaning.proofs.Assignments.{every-all, all-every}
use Rattle.meaning.proofs.Values.{reduced-to, value_set}

-- ---- what a unit says

pub same-eq : (f g : Diagram) → same f g ≡ true → f ≡ g
unfolding same
same-eq f g e = go (same? f g) e
  where
    go : (d : Dec (f ≡ g)) → elim d [ yes _ ↦ true | no _ ↦ false ] ≡ true → f ≡ g
    go (yes p) e = p
    go (no n) e = t≢f (sym e)

pub eq-same : (f g : Diagram) → f ≡ g → same f g ≡ true
unfolding same
eq-same f g p = go (same? f g)
  where
    go : (d : Dec (f ≡ g)) → ◌≡◌ {A = Bool} (elim d [ yes _ ↦ true | no _ ↦ false ]) true
    go (yes q) = refl
    go (no n) = absurd (n p)

-- an assignment that satisfies f makes its units true
pub unit-holds : (n : ℕ) (f : Diagram) (v : ℕ) (s : Bool) (a : Assignment) → is_unit n f v s ≡ true → length a ≡ n → value f a ≡ true →
    holds a v ≡ s
unfolding is_unit
unit-holds n f v s a u len t =
    or_cases (beq (holds a v) s) (not (value f a)) (every-all n _ u a len) (beq-eq (holds a v) s) (λ e. t≢f (sym e ∙ ap not t))

-- f is 0 wherever the literal is false
abbrev Forced : ℕ → Diagram → ℕ → Bool → Type 0
Forced n f v s = (a : Assignment) → length a ≡ n → holds a v ≡ not s → value f a ≡ false

unit-forced : (n : ℕ) (f : Diagram) (v : ℕ) (s : Bool) → is_unit n f v s ≡ true → Forced n f v s
unit-forced n f v s u a len e = not-true (value f a) (λ t. differ s (sym (unit-holds n f v s a u len t) ∙ e))
  where
    differ : (s : Bool) → s ≡ not s → ⊥
    differ true e = t≢f e
    differ false e = t≢f (sym e)

forced-unit : (n : ℕ) (f : Diagram) (v : ℕ) (s : Bool) → Forced n f v s → is_unit n f v s ≡ true
unfolding is_unit
forced-unit n f v s F = all-every n _ (λ a len. go s (holds a v) (value f a) (F a len))
  where
    go : (s x y : Bool) → (x ≡ not s → y ≡ false) → (beq x s || not y) ≡ true
    go true true y h = refl
    go true false y h = ap not (h refl)
    go false true y h = ap not (h refl)
    go false false y h = refl

-- ---- the units of a node

module _ (w : ℕ) (l h : Diagram) (v : ℕ) (s : Bool) where
  both-units : unit_at l v s ≡ true → unit_at h v s ≡ true → unit_at (node w l h) v s ≡ true
  unfolding unit_at
  both-units p q = rw (p, q)

  root-unit : w ≡ v → cond s l h ≡ leaf false → unit_at (node w l h) v s ≡ true
  unfolding unit_at
  root-unit p q = or_right (unit_at l v s && unit_at h v s) (eqb w v && same (cond s l h) (leaf false))
      (rw (eq-eqb w v p, eq-same (cond s l h) (leaf false) q))

  unit-cases : {A : Type 0} → unit_at (node w l h) v s ≡ true → (unit_at l v s ≡ true → unit_at h v s ≡ true → A) →
      (w ≡ v → cond s l h ≡ leaf false → A) → A
  unfolding unit_at
  unit-cases u below root =
      or_cases (unit_at l v s && unit_at h v s) (eqb w v && same (cond s l h) (leaf false)) u
      (λ p. let b : (unit_at l v s ≡ true) × (unit_at h v s ≡ true) = and_both (unit_at l v s) (unit_at h v s) p in below b.0 b.1)
      (λ p. let b : (eqb w v ≡ true) × (same (cond s l h) (leaf false) ≡ true) = and_both (eqb w v) (same (cond s l h) (leaf false)) p in
      root (eqb-eq w v b.0) (same-eq (cond s l h) (leaf false) b.1))

-- ---- the branchwise units are forced

unit_at-forced : (f : Diagram) (v : ℕ) (s : Bool) (a : Assignment) → unit_at f v s ≡ true → holds a v ≡ not s → value f a ≡ false
unfolding unit_at value_from
unit_at-forced (leaf true) v s a u e = sym u
unit_at-forced (leaf false) v s a u e = refl
unit_at-forced (node w l h) v s a u e =
    unit-cases w l h v s u (λ p q. both (holds a w) (value h a) (value l a) (unit_at-forced h v s a q e) (unit_at-forced l v s a p e))
    (λ p q. here s (rw p e) q)
  where
    both : (x y z : Bool) → y ≡ false → z ≡ false → cond x y z ≡ false
    both true y z p q = p
    both false y z p q = q

    here : (s : Bool) → holds a w ≡ not s → cond s l h ≡ leaf false → cond (holds a w) (value h a) (value l a) ≡ false
    here true p q = rw (p, q)
    here false p q = rw (p, q)

-- ---- and the forced ones are branchwise units

module _ (n v w : ℕ) (s : Bool) (l h : Diagram) (o : Reduced 1 (suc n) (node w l h)) (F : Forced n (node w l h) v s) where
  -- the side taken where the root's variable is made b has its own value there
  at_side : (b : Bool) (a : Assignment) → length a ≡ n → holds (set a (w - 1) b) v ≡ not s → value (cond b h l) a ≡ false
  unfolding value_from
  at_side b a len g = go b (F (set a (w - 1) b) (length-set a (w - 1) b ∙ len) g)
    where
      in-range : w - 1 < length a
      in-range = omega arith

      go : (b : Bool) → value (node w l h) (set a (w - 1) b) ≡ false → value (cond b h l) a ≡ false
      go true z = sym (value_set 1 (suc n) w h a true o.0 o.4) ∙ (rw (get_or-set_same a (w - 1) true false in-range) at z)
      go false z = sym (value_set 1 (suc n) w l a false o.0 o.3) ∙ (rw (get_or-set_same a (w - 1) false false in-range) at z)

  -- the root has another variable: both sides are forced too
  forced-side : w ≢ v → 1 ≤ v → (b : Bool) → Forced n (cond b h l) v s
  forced-side ne lo b a len g = at_side b a len (get_or-set_other a (w - 1) (v - 1) b false (omega arith) ∙ g)

  -- the root has the literal's variable: the side where it is false is 0
  forced-root : w ≡ v → cond s l h ≡ leaf false
  unfolding value_from
  forced-root p = zero s refl
    where
      side-reduced : (b : Bool) → Reduced 1 (suc n) (cond b h l)
      side-reduced true = reduced-from 1 (suc w) (suc n) h (omega arith) o.4
      side-reduced false = reduced-from 1 (suc w) (suc n) l (omega arith) o.3

      is_zero : (b : Bool) → b ≡ not s → cond b h l ≡ leaf false
      is_zero b e = unique n 1 (suc n) (cond b h l) (leaf false) (omega arith) (side-reduced b) tt λ a len.
          at_side b a len (let r : w - 1 < length a = omega arith in rw (← p) (get_or-set_same a (w - 1) b false r ∙ e))

      zero : (t : Bool) → s ≡ t → cond t l h ≡ leaf false
      zero true e = is_zero false (sym (ap not e))
      zero false e = is_zero true (sym (ap not e))

forced-unit_at : (n : ℕ) (f : Diagram) (v : ℕ) (s : Bool) → Reduced 1 (suc n) f → 1 ≤ v → v ≤ n → Forced n f v s → unit_at f v s ≡ true
unfolding unit_at value_from
forced-unit_at n (leaf true) v s o lo hi F = sym
    (F (replicate n (not s)) (length-replicate n (not s)) (get_or-replicate n (v - 1) (not s) false (omega arith)))
forced-unit_at n (leaf false) v s o lo hi F = refl
forced-unit_at n (node w l h) v s o lo hi F = go (ℕ_discrete w v)
    (λ ne. forced-unit_at n l v s (reduced-from 1 (suc w) (suc n) l (omega arith) o.3) lo hi (forced-side n v w s l h o F ne lo false))
    (λ ne. forced-unit_at n h v s (reduced-from 1 (suc w) (suc n) h (omega arith) o.4) lo hi (forced-side n v w s l h o F ne lo true))
  where
    go : Dec (w ≡ v) → (w ≢ v → unit_at l v s ≡ true) → (w ≢ v → unit_at h v s ≡ true) → unit_at (node w l h) v s ≡ true
    go (yes x) fl fh = root-unit w l h v s x (forced-root n v w s l h o F x)
    go (no x) fl fh = both-units w l h v s (fl x) (fh x)

pub is_unit-is : (n : ℕ) (f : Diagram) (v : ℕ) (s : Bool) → Reduced 1 (suc n) f → 1 ≤ v → v ≤ n → is_unit n f v s ≡ unit_at f v s
is_unit-is n f v s o lo hi =
    both_ways (is_unit n f v s) (unit_at f v s) (λ u. forced-unit_at n f v s o lo hi (unit-forced n f v s u))
    (λ u. forced-unit n f v s (λ a len e. unit_at-forced f v s a u e))

-- ---- variables that f does not have

-- Whether variable v stands in the diagram.
unfoldable pub variable_in : ℕ → Diagram → Bool
variable_in v (leaf b) = false
variable_in v (node w l h) = eqb w v || (variable_in v l || variable_in v h)

variable-range : (i e v : ℕ) (f : Diagram) → Reduced i e f → variable_in v f ≡ true → v < e
unfolding variable_in
variable-range i e v (leaf b) o u = t≢f (sym u)
variable-range i e v (node w l h) o u =
    or_cases (eqb w v) (variable_in v l || variable_in v h) u (λ t. let q : w ≡ v = eqb-eq w v t in omega arith)
    (λ t. or_cases (variable_in v l) (variable_in v h) t (variable-range (suc w) e v l o.3) (variable-range (suc w) e v h o.4))

-- a unit's variable stands in the diagram, if that is not 0
pub unit-in : (i e v : ℕ) (s : Bool) (f : Diagram) → Reduced i e f → f ≢ leaf false → unit_at f v s ≡ true → variable_in v f ≡ true
unfolding unit_at variable_in
unit-in i e v s (leaf true) o nz u = u
unit-in i e v s (leaf false) o nz u = absurd (nz refl)
unit-in i e v s (node w l h) o nz u =
    unit-cases w l h v s u
    (λ p q. or_right (eqb w v) (variable_in v l || variable_in v h)
    (go (same? l (leaf false)) (λ n. unit-in (suc w) e v s l o.3 n p) (λ n. unit-in (suc w) e v s h o.4 n q)))
    (λ p q. or_left (eqb w v) (variable_in v l || variable_in v h) (eq-eqb w v p))
  where
    go : Dec (l ≡ leaf false) → (l ≢ leaf false → variable_in v l ≡ true) → (h ≢ leaf false → variable_in v h ≡ true) →
        (variable_in v l || variable_in v h) ≡ true
    go (yes p) fl fh = or_right (variable_in v l) (variable_in v h) (fh (λ q. o.2 (p ∙ sym q)))
    go (no n) fl fh = or_left (variable_in v l) (variable_in v h) (fl n)

module _ (m n : ℕ) (more : m ≤ n) (f : Diagram) (o : Reduced 1 (suc m) f) (v : ℕ) (s : Bool) where
  pub is_unit-width : 1 ≤ v → v ≤ m → is_unit n f v s ≡ is_unit m f v s
  is_unit-width lo hi = is_unit-is n f v s (reduced-to 1 (suc m) (suc n) f (omega arith) o) lo (omega arith)
      ∙ sym (is_unit-is m f v s o lo hi)

  pub is_unit-beyond : m < v → v ≤ n → f ≢ leaf false → is_unit n f v s ≡ false
  is_unit-beyond lo hi nz = is_unit-is n f v s (reduced-to 1 (suc m) (suc n) f (omega arith) o) (omega arith) hi
      ∙ not-true (unit_at f v s) (λ u. omega (arith, variable-range 1 (suc m) v f o (unit-in 1 (suc m) v s f o nz u)))
