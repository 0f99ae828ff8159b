-- What is known of every turn stored, and of the members passed by it. The idea: a claim about nodes and rounds that holds of what is
-- stored holds of what is stored next, and carries a count over the members that are passed. Assumes nothing.
use mathlib.Core.Path.{◌≡◌, refl, sym, ◌∙◌, subst}
use mathlib.Core.Logic.{◌⊎◌, inl, inr, ⊎_elim}
use mathlib.Core.List.{List}
use Prim.Native.Nat.{ℕ, zero, suc, ◌+◌, ◌*◌, ◌≤◌, ◌<◌}
use native.Mathlib.Omega.{arith}
use native.Mathlib.Decide.{ℕ_discrete}
use lib.ListN.{length, get_or, set, replicate}
use lib.Seq.{get_or-set_same, get_or-set_other}
use Rattle.turn_memo.specs.Turns.{Holds, Stores, Passes, here, next}

-- ---- what is known of all that is stored

-- P holds of every node stored and its rounds.
abbrev pub Known : List ℕ → (ℕ → ℕ → Type 0) → Type 0
Known turns P = (f m : ℕ) → Holds turns f m → P f m

zero-get_or : (n c : ℕ) → ◌≡◌ {A = ℕ} (get_or (replicate n 0) c 0) 0
zero-get_or zero c = refl
zero-get_or (suc n) zero = refl
zero-get_or (suc n) (suc c) = zero-get_or n c

-- nothing is stored
pub known-none : (n : ℕ) (P : ℕ → ℕ → Type 0) → Known (replicate n 0) P
known-none n P f m h = let z = zero-get_or n h.cell in absurd (omega (arith, z, h.has))

-- one turn more is stored
pub set-stores : (turns : List ℕ) (c v f m : ℕ) → c < length turns → v ≡ f * 128 + suc m → Stores turns f m (set turns c v)
set-stores turns c v f m p e d = go (ℕ_discrete d c)
  where
    go : Dec (d ≡ c) → (get_or (set turns c v) d 0 ≡ f * 128 + suc m) ⊎ (get_or (set turns c v) d 0 ≡ get_or turns d 0)
    go (yes q) = inl (rw q (get_or-set_same turns c v 0 p ∙ e))
    go (no n) = inr (get_or-set_other turns c d v 0 n)

pub known-stored : (turns after : List ℕ) (P Q : ℕ → ℕ → Type 0) (f m : ℕ) → Known turns P → ((g k : ℕ) → P g k → Q g k) → Q f m → m ≤ 64
    → Stores turns f m after → Known after Q
known-stored turns after P Q f m known so this few s g k h = ⊎_elim
    (λ e.
    let same-node : f ≡ g = omega (arith, e, h.has, h.few) in
    let same-rounds : m ≡ k = omega (arith, e, h.has, h.few) in
    subst (Q g) same-rounds (subst (λ (x : ℕ). Q x m) same-node this))
    (λ e. so g k (known g k (record { cell = h.cell; has = sym e ∙ h.has; few = h.few })))
    (s h.cell)

-- ---- the members passed

module _ (members turns : List ℕ) (from rounds : ℕ) where
  pub passes-least : (i sum : ℕ) → Passes members turns from rounds i sum → from ≤ i
  passes-least i sum here = omega arith
  passes-least i sum (next j s m p lt h) = omega (arith, passes-least j s p)

  -- what each stored turn carries on is carried over all that are passed
  pub passes-carry : (P : ℕ → ℕ → Type 0) → ((i sum m : ℕ) → i < length members → Holds turns (get_or members i 0) m → P i sum →
      P (i + 1) (sum + m))
      → P from rounds → (i sum : ℕ) → Passes members turns from rounds i sum → P i sum
  passes-carry P on start i sum here = start
  passes-carry P on start i sum (next j s m p lt h) = on j s m lt h (passes-carry P on start j s p)
