-- The records of a line done again, one after another: what is left to be done leads to the same state. Assumes nothing.
use mathlib.Core.Path.{◌≡◌, refl, sym, ap, ◌∙◌, subst}
use mathlib.Core.List.{List}
use Prim.Native.Nat.{ℕ, ◌+◌, ◌≤◌, ◌<◌}
use native.Mathlib.Omega.{arith}
use Rattle.records.specs.declared.Record.{Record}
use Rattle.records.specs.Records.{record_at, length_of, number_of}
use Rattle.records.proofs.Laws.{record-takes}
use Rattle.verdict.specs.Steps as check
use Rattle.state.specs.declared.State.{State}
use Rattle.state.specs.States.{Lent, state_of, Held}
use Rattle.why.specs.Again.{Redo, Retaken, done, then, again}
use Rattle.why.proofs.Again.{walk-most, retaken-walk, retaken-again}
use Rattle.remake.specs.Remade.{Remade, Remakes}

-- The first record, and the rest.
retaken-first : (n s : ℕ) (proof : List ℕ) (x : check.State) (at : ℕ) (y : check.State) (to : ℕ) → Retaken n s proof x at y to → at < to
    → (z : check.State) × (number_of (record_at proof at) ≡ 0) × Redo n s x (record_at proof at) z
    × Retaken n s proof z (at + length_of (record_at proof at)) y to
retaken-first n s proof x at _ _ done lt = absurd (omega (arith, lt))
retaken-first n s proof x at y to (then {st₁ = z} form R U) lt = (z, form, R, U)

pub record Remaking (n s : ℕ) (proof : List ℕ) (whole : check.State) (to : ℕ) (l : Lent) (st : State) (at : ℕ) : Type 0 where
  pub held : Held n l st
  pub left : Retaken n s proof (state_of l st) at whole to

module _ (n s : ℕ) (proof : List ℕ) (whole : check.State) (to : ℕ) (l : Lent) (st : State) (at : ℕ)
    (W : Remaking n s proof whole to l st at) where
  pub remaking-last : to ≤ at → state_of l st ≡ whole
  remaking-last h = go (state_of l st) at h W.left
    where
      go : (x : check.State) (at : ℕ) → to ≤ at → Retaken n s proof x at whole to → x ≡ whole
      go x at h done = refl
      go x at h (then {st₁ = y} form R U) =
          absurd (omega (
            arith,
            h,
            record-takes (record_at proof at) form,
            walk-most proof (at + length_of (record_at proof at)) to
                (retaken-walk n s proof y (at + length_of (record_at proof at)) whole to U),
          ))

  -- one record more
  pub remaking-on : at < to → (r : Record) → r ≡ record_at proof at → (len : ℕ) → len ≡ length_of r → (l' : Lent) (q : State) →
      Remade n s l l' st r q
      → (1 ≤ len) × (at + len ≤ to) × Remaking n s proof whole to l' q (at + len)
  remaking-on lt r is len long l' q M = let (y, form, R, U) = retaken-first n s proof (state_of l st) at whole to W.left lt in
      more y form R U
    where
      long-is : len ≡ length_of (record_at proof at)
      long-is = long ∙ ap length_of is

      more : (y : check.State) → number_of (record_at proof at) ≡ 0 → Redo n s (state_of l st) (record_at proof at) y →
          Retaken n s proof y (at + length_of (record_at proof at)) whole to
          → (1 ≤ len) × (at + len ≤ to) × Remaking n s proof whole to l' q (at + len)
      more y form R U =
          let (same-one, held) = M y (subst (λ (x : Record). Redo n s (state_of l st) x y) (sym is) R) in
          let U' : Retaken n s proof y (at + len) whole to = subst (λ (k : ℕ). Retaken n s proof y (at + k) whole to) (sym long-is) U in
          let takes : 1 ≤ length_of (record_at proof at) = record-takes (record_at proof at) form in (
            omega (arith, takes, long-is),
            walk-most proof (at + len) to (retaken-walk n s proof y (at + len) whole to U'),
            record { held = held; left = subst (λ (x : check.State). Retaken n s proof x (at + len) whole to) (sym same-one) U' },
          )

pub remakes-is : (n s : ℕ) (proof : List ℕ) (st : check.State) (from to : ℕ) (R : Remakes n s proof st from to) → R.last
    ≡ again to n s proof st from to
remakes-is n s proof st from to R = sym (retaken-again n s proof to st from R.last to R.taken (omega arith))
