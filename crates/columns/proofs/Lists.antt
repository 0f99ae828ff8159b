-- The lists that a slice of nodes and its columns go through, one place after the other.
-- Assumes nothing.
use mathlib.Core.Path.{◌≡◌, refl, ap}
use mathlib.Core.Bool.{Bool, true, false}
use Prim.Native.Nat.{ℕ, zero, suc, ◌+◌, ◌<◌, ◌≤◌}
use native.Mathlib.Omega.{arith}
use mathlib.Core.List.{List, [], ◌∷◌, ◌++◌, map}
use lib.ListN.{length, get_or, set, take, drop}
use Rattle.columns.specs.declared.Node.{Node}
use Rattle.columns.specs.Inner.{as_nodes}

-- by a test's answer
pub by-test {α} : {P : Type α} (t : Bool) → (t ≡ true → P) → (t ≡ false → P) → P
by-test true f g = f refl
by-test false f g = g refl

pub add-one : (i : ℕ) → i + 1 ≡ suc i
add-one i = omega arith

abbrev pub var_of : Node → ℕ
var_of y = y.var

abbrev pub low_of : Node → ℕ
low_of y = y.low

abbrev pub high_of : Node → ℕ
high_of y = y.high

-- what `get_or` gives past the end, where nothing is read
abbrev pub blank : Node
blank = record { var = 0; low = 0; high = 0 }

-- the column of a field once i nodes are read into it
module _ (f : Node → ℕ) where
  abbrev pub column : List Node → List ℕ → ℕ → List ℕ
  column ys xs i = map f (take i ys) ++ drop i xs

  pub column-step : (ys : List Node) (xs : List ℕ) (i : ℕ) → i < length ys → i < length xs → set (column ys xs i) i (f (get_or ys i blank))
      ≡ column ys xs (suc i)
  column-step [] xs i l m = absurd (omega (arith, l))
  column-step (y ∷ ys) [] i l m = absurd (omega (arith, m))
  column-step (y ∷ ys) (x ∷ xs) zero l m = refl
  column-step (y ∷ ys) (x ∷ xs) (suc i) l m = ap (λ (r : List ℕ). f y ∷ r) (column-step ys xs i (omega (arith, l)) (omega (arith, m)))

  pub column-length : (ys : List Node) (xs : List ℕ) (i : ℕ) → i ≤ length ys → i ≤ length xs → length (column ys xs i) ≡ length xs
  column-length ys xs zero l m = refl
  column-length [] xs (suc i) l m = absurd (omega (arith, l))
  column-length (y ∷ ys) [] (suc i) l m = absurd (omega (arith, m))
  column-length (y ∷ ys) (x ∷ xs) (suc i) l m = ap suc (column-length ys xs i (omega (arith, l)) (omega (arith, m)))

-- the slice once i places of the columns are written to it
abbrev pub slice : List ℕ → List ℕ → List ℕ → List Node → ℕ → List Node
slice vs ls hs ys i = as_nodes (take i vs) (take i ls) (take i hs) ++ drop i ys

abbrev pub node_at : List ℕ → List ℕ → List ℕ → ℕ → Node
node_at vs ls hs i = record { var = get_or vs i 0; low = get_or ls i 0; high = get_or hs i 0 }

pub slice-step : (vs ls hs : List ℕ) (ys : List Node) (i : ℕ) → i < length vs → i < length ls → i < length hs → i < length ys →
    set (slice vs ls hs ys i) i (node_at vs ls hs i) ≡ slice vs ls hs ys (suc i)
unfolding as_nodes
slice-step [] ls hs ys i a b c d = absurd (omega (arith, a))
slice-step (v ∷ vs) [] hs ys i a b c d = absurd (omega (arith, b))
slice-step (v ∷ vs) (l ∷ ls) [] ys i a b c d = absurd (omega (arith, c))
slice-step (v ∷ vs) (l ∷ ls) (h ∷ hs) [] i a b c d = absurd (omega (arith, d))
slice-step (v ∷ vs) (l ∷ ls) (h ∷ hs) (y ∷ ys) zero a b c d = refl
slice-step (v ∷ vs) (l ∷ ls) (h ∷ hs) (y ∷ ys) (suc i) a b c d = ap (λ (r : List Node). record { var = v; low = l; high = h } ∷ r)
    (slice-step vs ls hs ys i (omega (arith, a)) (omega (arith, b)) (omega (arith, c)) (omega (arith, d)))

pub slice-length : (vs ls hs : List ℕ) (ys : List Node) (i : ℕ) → i ≤ length vs → i ≤ length ls → i ≤ length hs → i ≤ length ys →
    length (slice vs ls hs ys i) ≡ length ys
unfolding as_nodes
slice-length vs ls hs ys zero a b c d = refl
slice-length [] ls hs ys (suc i) a b c d = absurd (omega (arith, a))
slice-length (v ∷ vs) [] hs ys (suc i) a b c d = absurd (omega (arith, b))
slice-length (v ∷ vs) (l ∷ ls) [] ys (suc i) a b c d = absurd (omega (arith, c))
slice-length (v ∷ vs) (l ∷ ls) (h ∷ hs) [] (suc i) a b c d = absurd (omega (arith, d))
slice-length (v ∷ vs) (l ∷ ls) (h ∷ hs) (y ∷ ys) (suc i) a b c d = ap suc
    (slice-length vs ls hs ys i (omega (arith, a)) (omega (arith, b)) (omega (arith, c)) (omega (arith, d)))
