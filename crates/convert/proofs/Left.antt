-- What is left of a list at a place: the place and what is left are carried along together. Assumes nothing.
use mathlib.Core.Path.{◌≡◌, refl, sym, ap, ◌∙◌}
use mathlib.Core.Bool.{Bool}
use mathlib.Core.List.{List, [], ◌∷◌, ◌++◌}
use Prim.Native.Nat.{ℕ, ◌+◌, ◌<◌}
use native.Mathlib.Omega.{arith}
use lib.ListN.{length, get_or, drop, length-append}
use lib.Seq.{drop-drop, drop-append_seam, drop-cons}
use Rattle.meaning.specs.Operations.{Literal}
use Rattle.meaning.specs.Literals.{OfVariables}
use Rattle.convert.specs.Convert.{Lines}

pub record At (s : List ℕ) (at : ℕ) (left : List ℕ) : Type 0 where
  pub is : drop at s ≡ left
  pub size : at + length left ≡ length s

pub at-start : (s : List ℕ) → At s 0 s
at-start s = record { is = refl; size = omega arith }

pub at_on : {s : List ℕ} {at : ℕ} (xs ys : List ℕ) → At s at (xs ++ ys) → At s (at + length xs) ys
at_on {s} {at} xs ys A = record {
  is = sym (drop-drop (length xs) at s) ∙ ap (drop (length xs)) A.is ∙ drop-append_seam xs ys;
  size = omega (arith, A.size, length-append xs ys);
}

pub at_byte : {s : List ℕ} {at b : ℕ} (ys : List ℕ) → At s at (b ∷ ys) → (at < length s) × (get_or s at 0 ≡ b)
at_byte {s} {at} {b} ys A =
    let lt : at < length s = omega (arith, A.size) in
    (lt, head (drop-cons s at 0 lt) A.is)
  where
    head : {x : ℕ} {xs ds : List ℕ} → ds ≡ x ∷ xs → ds ≡ b ∷ ys → x ≡ b
    head p q = cc

-- Literals of the variables 1 to 64.
abbrev pub Small : List Literal → Type 0
Small ls = OfVariables 64 ls

abbrev pub AllSmall : List (Bool × List Literal) → Type 0
AllSmall [] = Unit {0}
AllSmall (x ∷ xs) = Small x.1 × AllSmall xs

-- The lines read to their end.
abbrev pub whole : List (Bool × List Literal) → Lines
whole xs = record { lines = xs; number = 0; place = 0 }
