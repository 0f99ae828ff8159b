-- A call over the arrays, with the nodes loaded before and written back after, is the call over the slice's own columns.
-- A slice of at most 65,536 nodes is loaded and written back whole; of a longer one the first 65,536 nodes are, unchanged, since the call
-- says 7. Assumes nothing.
use mathlib.Core.Path.{◌≡◌, refl, sym, ap, ◌∙◌, subst}
use mathlib.Core.Bool.{Bool, true, false, ◌&&◌, cond}
use Prim.Native.Nat.{ℕ, ◌≤◌, ◌<◌}
use native.Mathlib.Omega.{arith}
use mathlib.Core.List.{List, [], ◌∷◌, ◌++◌, map, append-nil}
use lib.ListN.{length, take, drop, length-map, take-append-drop}
use lib.Seq.{length-take-le, take_all, take_at, take-length, drop-length}
use lib.Dec.{eqb, leb}
use borrow.Author.Tests.{le-leb, lt-leb, leb-true, leb-false}
use Rattle.table.specs.Columns.{size_fits}
use Rattle.columns.specs.declared.Node.{Node}
use Rattle.columns.specs.Slice.{vars_of, lows_of, highs_of}
use Rattle.columns.specs.Inner.{as_nodes}
use Rattle.columns.proofs.Lists.{by-test, var_of, low_of, high_of, column, slice}
use Rattle.columns.proofs.Setting.{Cut}

-- ---- lists

-- the columns of the slice of three columns
nodes-columns : (a b c : List ℕ) → length b ≡ length a → length c ≡ length a → (vars_of (as_nodes a b c) ≡ a)
    × (lows_of (as_nodes a b c) ≡ b)
    × (highs_of (as_nodes a b c) ≡ c)
unfolding vars_of lows_of highs_of as_nodes
nodes-columns [] [] [] eb ec = (refl, refl, refl)
nodes-columns [] [] (h ∷ c) eb ec = absurd (omega (arith, ec))
nodes-columns [] (l ∷ b) c eb ec = absurd (omega (arith, eb))
nodes-columns (v ∷ a) [] c eb ec = absurd (omega (arith, eb))
nodes-columns (v ∷ a) (l ∷ b) [] eb ec = absurd (omega (arith, ec))
nodes-columns (v ∷ a) (l ∷ b) (h ∷ c) eb ec =
    let r = nodes-columns a b c (omega (arith, eb)) (omega (arith, ec)) in
    (ap (λ (x : List ℕ). v ∷ x) r.0, ap (λ (x : List ℕ). l ∷ x) r.1, ap (λ (x : List ℕ). h ∷ x) r.2)

-- the slice of its own columns: its three columns settle it
pub own-nodes : (t : List Node) → as_nodes (vars_of t) (lows_of t) (highs_of t) ≡ t
unfolding vars_of lows_of highs_of as_nodes
own-nodes [] = refl
own-nodes (y ∷ t) = ap (λ (x : List Node). y ∷ x) (own-nodes t)

-- what is loaded stands in the first places
column-first : (f : Node → ℕ) (ys : List Node) (xs : List ℕ) (m : ℕ) → m ≤ length ys → take m (column f ys xs m) ≡ map f (take m ys)
column-first f ys xs m h = take_at (map f (take m ys)) (drop m xs) m (length-map (take m ys) f ∙ length-take-le m ys h)

slice-whole : (vs ls hs : List ℕ) (ys : List Node) → slice vs ls hs ys (length ys)
    ≡ as_nodes (take (length ys) vs) (take (length ys) ls) (take (length ys) hs)
slice-whole vs ls hs ys = ap (λ (r : List Node). as_nodes (take (length ys) vs) (take (length ys) ls) (take (length ys) hs) ++ r)
    (drop-length ys) ∙ append-nil (as_nodes (take (length ys) vs) (take (length ys) ls) (take (length ys) hs))

-- three arrays of 65,536 places
abbrev pub Sized : List ℕ → List ℕ → List ℕ → Type 0
Sized vs ls hs = (length vs ≡ 65536) × (length ls ≡ 65536) × (length hs ≡ 65536)

-- a slice that the arrays have room for: its columns are in the first places before, and it has what stands there after
pub columns-before : (ys : List Node) (vs ls hs : List ℕ) → (take (length ys) (column var_of ys vs (length ys)) ≡ vars_of ys)
    × (take (length ys) (column low_of ys ls (length ys)) ≡ lows_of ys)
    × (take (length ys) (column high_of ys hs (length ys)) ≡ highs_of ys)
unfolding vars_of lows_of highs_of
columns-before ys vs ls hs =
    let n : ℕ = length ys in
    let all : (f : Node → ℕ) (xs : List ℕ) → take n (column f ys xs n) ≡ map f ys = λ f xs. column-first f ys xs n (omega arith)
    ∙ ap (map f) (take-length ys) in
    (all var_of vs, all low_of ls, all high_of hs)

columns-after : (ys : List Node) (vs ls hs : List ℕ) → length ys ≤ 65536 → Sized vs ls hs
    → (vars_of (slice vs ls hs ys (length ys)) ≡ take (length ys) vs) × (lows_of (slice vs ls hs ys (length ys)) ≡ take (length ys) ls)
    × (highs_of (slice vs ls hs ys (length ys)) ≡ take (length ys) hs)
columns-after ys vs ls hs h e =
    let n : ℕ = length ys in
    let firsts : (xs : List ℕ) → length xs ≡ 65536 → length (take n xs) ≡ n = λ xs s. length-take-le n xs (omega (arith, h, s)) in
    rw (slice-whole vs ls hs ys) (nodes-columns (take n vs) (take n ls) (take n hs) (firsts ls e.1 ∙ sym (firsts vs e.0))
    (firsts hs e.2 ∙ sym (firsts vs e.0)))

-- arrays that are left as they were loaded are written back with no change
written_back : (ys : List Node) (m : ℕ) (vs ls hs vs₀ ls₀ hs₀ : List ℕ) → m ≤ length ys → vs ≡ column var_of ys vs₀ m → ls
    ≡ column low_of ys ls₀ m → hs ≡ column high_of ys hs₀ m → slice vs ls hs ys m ≡ ys
unfolding vars_of lows_of highs_of
written_back ys m vs ls hs vs₀ ls₀ hs₀ h eV eL eH =
    rw (eV, eL, eH, column-first var_of ys vs₀ m h, column-first low_of ys ls₀ m h, column-first high_of ys hs₀ m h, own-nodes (take m ys))
    (take-append-drop m ys)

-- a column of more than 65,536 places is of wrong size
and-false : (t : Bool) → (t && false) ≡ false
and-false true = refl
and-false false = refl

pub unfit : (vs ls hs ds js : List ℕ) → 65536 < length vs → size_fits vs ls hs ds js ≡ false
unfolding size_fits
unfit vs ls hs ds js h = rw (
  lt-leb (length vs) 65536 h,
  and-false (leb 2 (length vs)),
  and-false (eqb (length ls) (length vs) && eqb (length hs) (length vs)),
)

pub vars-past : (ys : List Node) → 65536 < length ys → 65536 < length (vars_of ys)
unfolding vars_of
vars-past ys h = omega (arith, h, length-map ys var_of)

-- ---- a call over the arrays and over the slice
-- `out` is what is said and left, as the three columns are left; `call` is the definition of the call, and `stay` what it says where the
-- columns are of wrong size: they stay
module _ {X : Type 0} (ds js : List ℕ) (out call stay : List ℕ → List ℕ → List ℕ → X)
    (refused : (v l h : List ℕ) → size_fits v l h ds js ≡ false → call v l h ≡ stay v l h)
    (moved : (a b c v l h : List ℕ) → out a b c ≡ stay v l h → ((a ≡ v) × (b ≡ l) × (c ≡ h)) × ((v l h : List ℕ) → out v l h ≡ stay v l h))
    (ys : List Node) (vs₀ ls₀ hs₀ vs ls hs : List ℕ) (e : Sized vs ls hs) where
  abbrev n : ℕ
  n = length ys

  abbrev Arrays-say : ℕ → Type 0
  Arrays-say m = out (take n vs) (take n ls) (take n hs) ≡ cond (leb n 65536)
      (call (take n (column var_of ys vs₀ m)) (take n (column low_of ys ls₀ m)) (take n (column high_of ys hs₀ m)))
      (stay (column var_of ys vs₀ m) (column low_of ys ls₀ m) (column high_of ys hs₀ m))

  abbrev Slice-says : ℕ → Type 0
  Slice-says m = out (vars_of (slice vs ls hs ys m)) (lows_of (slice vs ls hs ys m)) (highs_of (slice vs ls hs ys m))
      ≡ call (vars_of ys) (lows_of ys) (highs_of ys)

  fit-case : n ≤ 65536 → Arrays-say n → Slice-says n
  fit-case h told =
      let a = columns-after ys vs ls hs h e in
      let b = columns-before ys vs₀ ls₀ hs₀ in
      let said : out (take n vs) (take n ls) (take n hs) ≡ call (take n (column var_of ys vs₀ n)) (take n (column low_of ys ls₀ n))
      (take n (column high_of ys hs₀ n)) = told ∙ rw (le-leb n 65536 h) in
      rw (a.0, a.1, a.2) (said ∙ rw (b.0, b.1, b.2))

  past-case : (m : ℕ) → m ≤ n → 65536 < n → Arrays-say m → Slice-says m
  past-case m i h told =
      let all : (xs : List ℕ) → length xs ≡ 65536 → xs ≡ take n xs = λ xs s. sym (take_all n xs (omega (arith, h, s))) in
      let stayed = moved (take n vs) (take n ls) (take n hs) (column var_of ys vs₀ m) (column low_of ys ls₀ m) (column high_of ys hs₀ m)
      (told ∙ rw (lt-leb n 65536 h)) in
      let back : slice vs ls hs ys m ≡ ys = written_back ys m vs ls hs vs₀ ls₀ hs₀ i (all vs e.0 ∙ stayed.0.0)
      (all ls e.1 ∙ stayed.0.1) (all hs e.2 ∙ stayed.0.2) in
      rw back (stayed.1 (vars_of ys) (lows_of ys) (highs_of ys) ∙ sym
      (refused (vars_of ys) (lows_of ys) (highs_of ys) (unfit (vars_of ys) (lows_of ys) (highs_of ys) ds js (vars-past ys h))))

  pub whole : (m : ℕ) → Cut n m → Arrays-say m → Slice-says m
  whole m cut told = by-test (leb n 65536)
      (λ t. let h : n ≤ 65536 = leb-true _ _ t in
      let same : n ≡ m = omega (arith, cut.0, cut.2 h) in
      subst (λ (k : ℕ). Arrays-say k → Slice-says k) same (fit-case h) told)
      (λ t. past-case m cut.0 (leb-false _ _ t) told)
