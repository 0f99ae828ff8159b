-- `checker::mode_of` gives the definition's mode: each way out is one case of `form_of`. Assumes nothing.
use mathlib.Core.Path.{◌≡◌}
use mathlib.Core.Bool.{Bool}
use Prim.Native.Nat.{ℕ}
use borrow.Author.Tests.{eq-eqb, ne_eqb}
use Rattle.commands.specs.declared.Form.TheVariants.{Records, Text, Binary}
use Rattle.commands.specs.Commands.{in_form}
use Rattle.checker.specs.Forms.{form_of}
use Rattle.checker.proofs.mode_of.Goals as goal

named-records : (form : ℕ) (profile : Bool) → form ≡ 0 → in_form Records profile ≡ in_form (form_of form) profile
named-records form profile e = rw (eq-eqb form 0 e)

named-text : (form : ℕ) (profile : Bool) → (form ≡ 0 → ⊥) → form ≡ 1 → in_form Text profile ≡ in_form (form_of form) profile
named-text form profile d e = rw (ne_eqb form 0 d, eq-eqb form 1 e)

named-binary : (form : ℕ) (profile : Bool) → (form ≡ 0 → ⊥) → (form ≡ 1 → ⊥) → in_form Binary profile ≡ in_form (form_of form) profile
named-binary form profile d e = rw (ne_eqb form 0 d, ne_eqb form 1 e)

pub returns-then-form-eq0 : goal.returns-then-form-eq0
returns-then-form-eq0 c = named-records _ _ c.if-form-eq0.true

pub returns-then-form-eq1 : goal.returns-then-form-eq1
returns-then-form-eq1 c = named-text _ _ c.if-form-eq0.false c.if-form-eq1.true

pub returns : goal.returns
returns c = named-binary _ _ c.if-form-eq0.false c.if-form-eq1.false
