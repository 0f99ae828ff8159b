-- Runs of bytes: one step of `past`, and where it may end. A place's bytes are those of the list from it on, so each
-- law is one step of that list. Assumes nothing.
use mathlib.Core.Path.{◌≡◌}
use mathlib.Core.Bool.{Bool, true, false, cond}
use mathlib.Core.List.{List, [], ◌∷◌}
use Prim.Native.Nat.{ℕ, suc, ◌+◌, ◌≤◌, ◌<◌}
use native.Mathlib.Omega.{arith}
use native.Mathlib.Numerals.{add-one}
use lib.ListN.{length, get_or, drop, drop_of_length-le, length-drop}
use lib.Seq.{drop-cons}
use Rattle.dimacs.specs.Text.{run, past}

run-most : (p : ℕ → Bool) (bs : List ℕ) → run p bs ≤ length bs
unfolding run
run-most p [] = omega arith
run-most p (b ∷ bs) = go (p b) (run-most p bs)
  where
    go : (t : Bool) → run p bs ≤ length bs → cond t (suc (run p bs)) 0 ≤ suc (length bs)
    go true h = omega arith
    go false h = omega arith

module _ (p : ℕ → Bool) (s : List ℕ) (at : ℕ) where
  pub past_end : length s ≤ at → past p s at ≡ at
  unfolding past
  past_end h = rw (drop_of_length-le s h) (omega arith)

  pub past_stop : at < length s → p (get_or s at 0) ≡ false → past p s at ≡ at
  unfolding past
  past_stop h e = rw (drop-cons s at 0 h, e) (omega arith)

  pub past-go : at < length s → p (get_or s at 0) ≡ true → past p s at ≡ past p s (at + 1)
  unfolding past
  past-go h e = rw (drop-cons s at 0 h, e, add-one) (omega arith)

  pub past-least : at ≤ past p s at
  unfolding past
  past-least = omega arith

  pub past-most : at ≤ length s → past p s at ≤ length s
  unfolding past
  past-most h = omega (arith, run-most p (drop at s), length-drop at s)
