-- Live members: reordered where members and marks are reordered together, and more of them with a striking less. Assumes nothing.
use mathlib.Core.Path.{◌≡◌, refl, ap}
use mathlib.Core.Logic.{inl, inr}
use mathlib.Core.Bool.{Bool, true, false, cond}
use mathlib.Core.List.{List, [], ◌∷◌}
use Prim.Native.Nat.{ℕ, zero, suc}
use lib.ListN.{set}
use lib.Dec.{eqb}
use Rattle.verdict.specs.Steps.{unstruck}
use Rattle.order.specs.Choices.{Among, Contained, Reordered}
use Rattle.order.specs.Choices as orders
use Rattle.order.specs.Lines.{beside}

-- ---- marks reordered with their members

-- Of marked things those whose mark is 0.
unfoldable keep : {A : Type 0} → List (ℕ × A) → List A
keep [] = []
keep (p ∷ ps) = cond (eqb p.0 0) (p.1 ∷ keep ps) (keep ps)

module _ {A : Type 0} where
  unstruck-keep : (marks : List ℕ) (xs : List A) → unstruck marks xs ≡ keep (beside marks xs)
  unfolding unstruck keep
  unstruck-keep [] [] = refl
  unstruck-keep (m ∷ marks) [] = refl
  unstruck-keep [] (x ∷ xs) = ap (◌∷◌ x) (go xs)
    where
      go : (xs : List A) → xs ≡ keep (beside [] xs)
      go [] = refl
      go (x ∷ xs) = ap (◌∷◌ x) (go xs)
  unstruck-keep (m ∷ marks) (x ∷ xs) = ap (λ (rest : List A). cond (eqb m 0) (x ∷ rest) rest) (unstruck-keep marks xs)

  keep-reordered : {ps qs : List (ℕ × A)} → Reordered ps qs → Reordered (keep ps) (keep qs)
  unfolding keep
  keep-reordered orders.empty = orders.empty
  keep-reordered (orders.behind {xs = ps} {ys = qs} p r) = go (eqb p.0 0) (keep-reordered r)
    where
      go : (b : Bool) → Reordered (keep ps) (keep qs) → Reordered (cond b (p.1 ∷ keep ps) (keep ps)) (cond b (p.1 ∷ keep qs) (keep qs))
      go true r = orders.behind p.1 r
      go false r = r
  keep-reordered (orders.exchanged p q rest) = go (eqb p.0 0) (eqb q.0 0)
    where
      as-it-is : (xs : List A) → Reordered xs xs
      as-it-is [] = orders.empty
      as-it-is (x ∷ xs) = orders.behind x (as-it-is xs)

      go : (b c : Bool) → Reordered (cond b (p.1 ∷ cond c (q.1 ∷ keep rest) (keep rest)) (cond c (q.1 ∷ keep rest) (keep rest)))
          (cond c (q.1 ∷ cond b (p.1 ∷ keep rest) (keep rest)) (cond b (p.1 ∷ keep rest) (keep rest)))
      go true true = orders.exchanged p.1 q.1 (keep rest)
      go true false = as-it-is (p.1 ∷ keep rest)
      go false true = as-it-is (q.1 ∷ keep rest)
      go false false = as-it-is (keep rest)
  keep-reordered (orders.again r s) = orders.again (keep-reordered r) (keep-reordered s)

  pub reordered-live : (marks marks' : List ℕ) (xs ys : List A) → Reordered (beside marks xs) (beside marks' ys) →
      Reordered (unstruck marks xs) (unstruck marks' ys)
  reordered-live marks marks' xs ys r = rw (unstruck-keep marks xs, unstruck-keep marks' ys) (keep-reordered r)

  -- ---- a striking less

  pub struck-within : (marks : List ℕ) (k : ℕ) (xs : List A) → Contained (unstruck (set marks k 1) xs) (unstruck marks xs)
  unfolding unstruck
  struck-within [] k xs x i = i
  struck-within (m ∷ marks) zero [] x i = i
  struck-within (m ∷ marks) (suc k) [] x i = i
  struck-within (m ∷ marks) zero (y ∷ ys) x i = go (eqb m 0)
    where
      go : (b : Bool) → Among x (cond b (y ∷ unstruck marks ys) (unstruck marks ys))
      go true = inr i
      go false = i
  struck-within (m ∷ marks) (suc k) (y ∷ ys) x i = go (eqb m 0) (struck-within marks k ys x) i
    where
      go : (b : Bool) → (Among x (unstruck (set marks k 1) ys) → Among x (unstruck marks ys))
          → Among x (cond b (y ∷ unstruck (set marks k 1) ys) (unstruck (set marks k 1) ys)) →
          Among x (cond b (y ∷ unstruck marks ys) (unstruck marks ys))
      go true ih (inl q) = inl q
      go true ih (inr i) = inr (ih i)
      go false ih i = ih i
