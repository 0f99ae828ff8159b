-- What `pr_cause` tells is the definition's cause: the first live member that is not shown, in a state as the code holds it. Assumes
-- nothing.
use mathlib.Core.Path.{◌≡◌, refl, ap, ap₂, ◌∙◌, subst}
use mathlib.Core.Bool.{Bool, true, false, ◌&&◌}
use mathlib.Core.List.{List, [], ◌∷◌}
use mathlib.Core.Option.{some}
use Prim.Native.Nat.{ℕ, zero, suc, ◌+◌, ◌≤◌, ◌<◌}
use native.Mathlib.Omega.{arith}
use native.Mathlib.Decide.{dec_lt}
use lib.ListN.{length, get_or}
use lib.Seq.{length-take-le, get_or-take}
use lib.Dec.{eqb}
use borrow.Author.Tests.{lt-ltb}
use Rattle.meaning.specs.Diagram.{Diagram}
use Rattle.meaning.specs.Rules.{pr_turns}
use Rattle.verdict.specs.Steps as check
use Rattle.verdict.specs.Steps.{diagram_in, is_live}
use Rattle.state.specs.declared.State.{State}
use Rattle.state.specs.States.{Lent, state_of}
use Rattle.causes.specs.Causes.{Cause, fixed, fixes, turn_members, unshown}

-- ---- the first that is named

module _ (w : ℕ) (st : check.State) (P N : ℕ → Bool) (ms : List Diagram) (i : ℕ) where
  abbrev member : ℕ → Diagram
  member j = diagram_in st (get_or st.members j 0)

  abbrev shown : ℕ → Bool
  shown j = (pr_turns w P N ms (member j ∷ [])).shown

  abbrev named : Cause
  named = fixed (fixes w (turn_members w P N ms (member i))) (some i)

  unshown-here : (k j : ℕ) → is_live st j ≡ true → shown j ≡ false → unshown (suc k) w P N ms st j
      ≡ fixed (fixes w (turn_members w P N ms (member j))) (some j)
  unfolding unshown
  unshown-here k j l s = rw (l, s)

  unshown-dead : (k j : ℕ) → is_live st j ≡ false → unshown (suc k) w P N ms st j ≡ unshown k w P N ms st (suc j)
  unfolding unshown
  unshown-dead k j l = rw l

  unshown-past : (k j : ℕ) → is_live st j ≡ true → shown j ≡ true → unshown (suc k) w P N ms st j ≡ unshown k w P N ms st (suc j)
  unfolding unshown
  unshown-past k j l s = rw (l, s)

  module _ (live : is_live st i ≡ true) (hidden : shown i ≡ false) (lower : (j : ℕ) → j < i → is_live st j ≡ true → shown j ≡ true) where
    skipped : (k j : ℕ) → j < i → unshown (suc k) w P N ms st j ≡ unshown k w P N ms st (suc j)
    skipped k j h = go (is_live st j) refl
      where
        go : (b : Bool) → is_live st j ≡ b → unshown (suc k) w P N ms st j ≡ unshown k w P N ms st (suc j)
        go true l = unshown-past k j l (lower j h l)
        go false l = unshown-dead k j l

    step : (k j : ℕ) → j ≤ i → (j < i → unshown k w P N ms st (suc j) ≡ named) → unshown (suc k) w P N ms st j ≡ named
    step k j h later = elim (dec_lt j i) [
      | yes lt ↦ skipped k j lt ∙ later lt
      | no ge ↦ let same : i ≡ j = omega (arith, ge, h) in
          subst (λ (x : ℕ). unshown (suc k) w P N ms st x ≡ named) same (unshown-here k i live hidden)
    ]

    pub first-named : (k j : ℕ) → j ≤ i → i < j + k → unshown k w P N ms st j ≡ named
    first-named zero j h g = absurd (omega (arith, h, g))
    first-named (suc k) j h g = step k j h (λ lt. first-named k (suc j) (omega (arith, lt)) (omega (arith, g)))

-- ---- what the code tells

module _ (l : Lent) (x : State) (m-room : x.members ≤ length l.members) (s-room : x.members ≤ length l.struck) where
  abbrev st : check.State
  st = state_of l x

  pub many-are : length st.members ≡ x.members
  many-are = length-take-le x.members l.members m-room

  pub member_is : (j : ℕ) → j < x.members → get_or st.members j 0 ≡ get_or l.members j 0
  member_is j h = get_or-take x.members l.members j 0 h

  pub live-is : (j : ℕ) → j < x.members → is_live st j ≡ eqb (get_or l.struck j 0) 0
  unfolding is_live
  live-is j h =
      ap₂ ◌&&◌ (lt-ltb j (length st.members) (omega (arith, h, many-are)))
      (ap (λ (k : ℕ). eqb k 0) (get_or-take x.members l.struck j 0 h))
