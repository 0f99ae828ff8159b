-- Which members are live: what stands beside marks of 0, by place. The idea: mark after mark. Assumes nothing.
use mathlib.Core.Path.{◌≡◌, refl, ap}
use mathlib.Core.Bool.{Bool, true, false, cond}
use mathlib.Core.List.{List, [], ◌∷◌, ◌++◌, map}
use Prim.Native.Nat.{ℕ, zero, suc, ◌<◌}
use native.Mathlib.Omega.{arith}
use lib.ListN.{length, get_or, replicate}
use lib.Dec.{eqb}
use borrow.Author.Tests.{eqb-true, eq-eqb}
use Rattle.table.specs.Nodes.{Node}
use Rattle.verdict.specs.Steps.{unstruck}
use Rattle.verdict.specs.Taken.{Function, Valued}

-- Striking looks at places alone.
pub unstruck-map : {A B : Type 0} (f : A → B) (marks : List ℕ) (xs : List A) → map f (unstruck marks xs) ≡ unstruck marks (map f xs)
unfolding unstruck
unstruck-map f marks [] = refl
unstruck-map f [] (x ∷ xs) = refl
unstruck-map {A} {B} f (m ∷ marks) (x ∷ xs) = go (eqb m 0) (unstruck-map f marks xs)
  where
    go : (c : Bool) → map f (unstruck marks xs) ≡ unstruck marks (map f xs)
        → map f (cond c (x ∷ unstruck marks xs) (unstruck marks xs)) ≡ cond c (f x ∷ unstruck marks (map f xs)) (unstruck marks (map f xs))
    go true e = ap (λ (ys : List B). f x ∷ ys) e
    go false e = e

-- What is added with the mark 0 is live, behind the others.
pub unstruck-append : {A : Type 0} (marks : List ℕ) (xs : List A) (x : A) → length marks ≡ length xs
    → unstruck (marks ++ 0 ∷ []) (xs ++ x ∷ []) ≡ unstruck marks xs ++ x ∷ []
unfolding unstruck
unstruck-append [] [] x same = refl
unstruck-append [] (y ∷ xs) x same = absurd (omega arith)
unstruck-append (m ∷ marks) [] x same = absurd (omega arith)
unstruck-append {A} (m ∷ marks) (y ∷ xs) x same = go (eqb m 0) (unstruck-append marks xs x (omega arith))
  where
    go : (c : Bool) → unstruck (marks ++ 0 ∷ []) (xs ++ x ∷ []) ≡ unstruck marks xs ++ x ∷ []
        → cond c (y ∷ unstruck (marks ++ 0 ∷ []) (xs ++ x ∷ [])) (unstruck (marks ++ 0 ∷ []) (xs ++ x ∷ []))
        ≡ cond c (y ∷ unstruck marks xs) (unstruck marks xs) ++ x ∷ []
    go true e = ap (λ (ys : List A). y ∷ ys) e
    go false e = e

-- With marks of 0 alone all are live.
pub unstruck-none : {A : Type 0} (k : ℕ) (xs : List A) → unstruck (replicate k 0) xs ≡ xs
unfolding unstruck
unstruck-none zero [] = refl
unstruck-none zero (x ∷ xs) = refl
unstruck-none (suc k) [] = refl
unstruck-none {A} (suc k) (x ∷ xs) = ap (λ (ys : List A). x ∷ ys) (unstruck-none k xs)

-- What stands beside a mark of 0 is among the live, and nothing else is.
pub unstruck-has : {A : Type 0} (marks : List ℕ) (xs : List A) (other : A) (k : ℕ) → k < length xs → get_or marks k 0 ≡ 0
    → (i : ℕ) × (i < length (unstruck marks xs)) × (get_or (unstruck marks xs) i other ≡ get_or xs k other)
unfolding unstruck
unstruck-has marks [] other k p e = absurd (omega arith)
unstruck-has [] (x ∷ xs) other k p e = (k, p, refl)
unstruck-has (m ∷ marks) (x ∷ xs) other zero p e = rw (eq-eqb m 0 e) (0, omega arith, refl)
unstruck-has {A} (m ∷ marks) (x ∷ xs) other (suc k) p e = go (eqb m 0) (unstruck-has marks xs other k (omega arith) e)
  where
    go : (c : Bool) → (i : ℕ) × (i < length (unstruck marks xs)) × (get_or (unstruck marks xs) i other ≡ get_or xs k other)
        → (i : ℕ) × (i < length (cond c (x ∷ unstruck marks xs) (unstruck marks xs)))
        × (get_or (cond c (x ∷ unstruck marks xs) (unstruck marks xs)) i other ≡ get_or xs k other)
    go true (i, q, same) = (suc i, omega arith, same)
    go false found = found

pub unstruck-only : {A : Type 0} (marks : List ℕ) (xs : List A) (other : A) (i : ℕ) → i < length (unstruck marks xs)
    → (k : ℕ) × (k < length xs) × (get_or marks k 0 ≡ 0) × (get_or (unstruck marks xs) i other ≡ get_or xs k other)
unfolding unstruck
unstruck-only marks [] other i p = absurd (omega arith)
unstruck-only [] (x ∷ xs) other i p = (i, p, refl, refl)
unstruck-only {A} (m ∷ marks) (x ∷ xs) other i p = go (eqb m 0) refl i p (unstruck-only marks xs other)
  where
    Found : List A → ℕ → Type 0
    Found live i = (k : ℕ) × (k < length (x ∷ xs)) × (get_or (m ∷ marks) k 0 ≡ 0) × (get_or live i other ≡ get_or (x ∷ xs) k other)

    go : (c : Bool) → eqb m 0 ≡ c → (i : ℕ) → i < length (cond c (x ∷ unstruck marks xs) (unstruck marks xs))
        → ((i : ℕ) → i < length (unstruck marks xs) → (k : ℕ) × (k < length xs) × (get_or marks k 0 ≡ 0)
        × (get_or (unstruck marks xs) i other ≡ get_or xs k other))
        → Found (cond c (x ∷ unstruck marks xs) (unstruck marks xs)) i
    go true e zero p rec = (0, omega arith, eqb-true m 0 e, refl)
    go true e (suc i) p rec = let (k, q, mark, same) = rec i (omega arith) in (suc k, omega arith, mark, same)
    go false e i p rec = let (k, q, mark, same) = rec i p in (suc k, omega arith, mark, same)

-- The live numbers have the live functions' values.
pub valued-unstruck : (t : List Node) (b : ℕ) (marks ks : List ℕ) (fs : List Function) → Valued t b ks fs →
    Valued t b (unstruck marks ks) (unstruck marks fs)
unfolding unstruck
valued-unstruck t b marks [] [] W = tt
valued-unstruck t b marks [] (f ∷ fs) W = absurd W
valued-unstruck t b marks (k ∷ ks) [] W = absurd W
valued-unstruck t b [] (k ∷ ks) (f ∷ fs) W = W
valued-unstruck t b (m ∷ marks) (k ∷ ks) (f ∷ fs) W = go (eqb m 0) (valued-unstruck t b marks ks fs W.2)
  where
    go : (c : Bool) → Valued t b (unstruck marks ks) (unstruck marks fs)
        → Valued t b (cond c (k ∷ unstruck marks ks) (unstruck marks ks)) (cond c (f ∷ unstruck marks fs) (unstruck marks fs))
    go true rest = (W.0, W.1, rest)
    go false rest = rest
