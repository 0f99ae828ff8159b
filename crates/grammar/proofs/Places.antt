-- A place of a text by the bytes that lie from it on: what `past` passes over and what it leaves. The idea: a place's bytes are `drop at
-- s`, and those split into what a class admits and the rest. Assumes nothing.
use mathlib.Core.Path.{◌≡◌, refl, ap, sym, ◌∙◌}
use mathlib.Core.Bool.{Bool, true, false, cond}
use mathlib.Core.List.{List, [], ◌∷◌, ◌++◌}
use Prim.Native.Nat.{ℕ, zero, suc, ◌+◌, ◌≤◌, ◌<◌}
use native.Mathlib.Omega.{arith}
use lib.ListN.{length, get_or, take, drop, length-drop, take-append-drop}
use lib.Seq.{slice, drop-cons, drop-nil, take-nil, take-append_seam, drop-append_seam}
use Rattle.dimacs.specs.Text.{run, past}

-- ---- lists

pub drop-drop : (i j : ℕ) (l : List ℕ) → drop (i + j) l ≡ drop j (drop i l)
drop-drop zero j l = ap (λ (k : ℕ). drop k l) (let z : 0 + j ≡ j = omega arith in z)
drop-drop (suc i) j [] = drop-nil (suc i + j) ∙ sym (drop-nil j)
drop-drop (suc i) j (x ∷ xs) = ap (λ (k : ℕ). drop k (x ∷ xs)) (let z : suc i + j ≡ suc (i + j) = omega arith in z) ∙ drop-drop i j xs

slice_front : (i j : ℕ) (l : List ℕ) → slice i (i + j) l ≡ take j (drop i l)
slice_front zero j l = ap (λ (k : ℕ). take k l) (let z : 0 + j ≡ j = omega arith in z)
slice_front (suc i) j [] = ap (drop (suc i)) (take-nil (suc i + j)) ∙ sym (take-nil j)
slice_front (suc i) j (x ∷ xs) = ap (λ (k : ℕ). drop (suc i) (take k (x ∷ xs))) (let z : suc i + j ≡ suc (i + j) = omega arith in z)
    ∙ slice_front i j xs

-- ---- classes of bytes

abbrev pub All : (ℕ → Bool) → List ℕ → Type 0
All p [] = Unit {0}
All p (b ∷ bs) = (p b ≡ true) × All p bs

-- No byte of the class comes next.
abbrev pub Stops : (ℕ → Bool) → List ℕ → Type 0
Stops p [] = Unit {0}
Stops p (b ∷ bs) = p b ≡ false

run-whole : (p : ℕ → Bool) (xs r : List ℕ) → All p xs → Stops p r → run p (xs ++ r) ≡ length xs
unfolding run
run-whole p [] [] a h = refl
run-whole p [] (b ∷ r) a h = rw h
run-whole p (x ∷ xs) r a h = rw a.0 (ap suc (run-whole p xs r a.1 h))

run-all : (p : ℕ → Bool) (r : List ℕ) → All p (take (run p r) r)
unfolding run
run-all p [] = tt
run-all p (b ∷ r) = go (p b) refl (run-all p r)
  where
    go : (t : Bool) → p b ≡ t → All p (take (run p r) r) → All p (take (cond t (suc (run p r)) 0) (b ∷ r))
    go true e h = (e, h)
    go false e h = tt

run-stops : (p : ℕ → Bool) (r : List ℕ) → Stops p (drop (run p r) r)
unfolding run
run-stops p [] = tt
run-stops p (b ∷ r) = go (p b) refl (run-stops p r)
  where
    go : (t : Bool) → p b ≡ t → Stops p (drop (run p r) r) → Stops p (drop (cond t (suc (run p r)) 0) (b ∷ r))
    go true e h = h
    go false e h = e

-- ---- places of s

module _ (s : List ℕ) (at : ℕ) where
  pub outside : drop at s ≡ [] → length s ≤ at
  outside e = omega (arith, length-drop at s, ap length e)

  module _ (b : ℕ) (r : List ℕ) (e : drop at s ≡ b ∷ r) where
    pub inside : at < length s
    inside = omega (arith, length-drop at s, ap length e)

    split : get_or s at 0 ∷ drop (suc at) s ≡ b ∷ r
    split = sym (drop-cons s at 0 inside) ∙ e

    pub byte : get_or s at 0 ≡ b
    byte = let q : get_or s at 0 ∷ drop (suc at) s ≡ b ∷ r = split in cc

    pub behind : drop (suc at) s ≡ r
    behind = let q : get_or s at 0 ∷ drop (suc at) s ≡ b ∷ r = split in cc

  module _ (p : ℕ → Bool) where
    past_is : past p s at ≡ at + run p (drop at s)
    unfolding past
    past_is = refl

    -- What is known to be passed over is.
    module _ (xs r : List ℕ) (e : drop at s ≡ xs ++ r) (a : All p xs) (h : Stops p r) where
      pub past-length : past p s at ≡ at + length xs
      past-length = past_is ∙ ap (λ (k : ℕ). at + k) (ap (run p) e ∙ run-whole p xs r a h)

      pub past-part : slice at (past p s at) s ≡ xs
      past-part =
          ap (λ (k : ℕ). slice at k s) past-length
          ∙ slice_front at (length xs) s ∙ ap (take (length xs)) e ∙ take-append_seam xs r

      pub past-rest : drop (past p s at) s ≡ r
      past-rest =
          ap (λ (k : ℕ). drop k s) past-length ∙ drop-drop at (length xs) s ∙ ap (drop (length xs)) e ∙ drop-append_seam xs r

    -- What is passed over, whatever it is.
    part-is : slice at (past p s at) s ≡ take (run p (drop at s)) (drop at s)
    part-is = ap (λ (k : ℕ). slice at k s) past_is ∙ slice_front at (run p (drop at s)) s

    rest-is : drop (past p s at) s ≡ drop (run p (drop at s)) (drop at s)
    rest-is = ap (λ (k : ℕ). drop k s) past_is ∙ drop-drop at (run p (drop at s)) s

    pub past_all : All p (slice at (past p s at) s)
    past_all = rw part-is (run-all p (drop at s))

    pub past-stops : Stops p (drop (past p s at) s)
    past-stops = rw rest-is (run-stops p (drop at s))

    pub past_split : drop at s ≡ slice at (past p s at) s ++ drop (past p s at) s
    past_split = rw (part-is, rest-is) (sym (take-append-drop (run p (drop at s)) (drop at s)))
