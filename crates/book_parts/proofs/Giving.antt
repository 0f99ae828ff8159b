-- What the parts of `give` come to together. Assumes nothing.
use mathlib.Core.Path.{◌≡◌, refl, sym, ap, ap₂, ◌∙◌}
use mathlib.Core.List.{List, [], ◌∷◌, map}
use Prim.Native.Nat.{ℕ, zero, suc, ◌+◌, ◌-◌, ◌≤◌, ◌<◌}
use native.Mathlib.Omega.{arith}
use native.Mathlib.Decide.{dec_lt}
use lib.ListN.{length, get_or, take}
use lib.Seq.{get_or-take}
use Rattle.table.specs.Nodes.{Node}
use Rattle.table.specs.Indexed.{Table}
use Rattle.shares.specs.Shares.{number_in}
use Rattle.shares.specs.Books.{padded}
use Rattle.shares.proofs.Sharing.{number-leaf, number-node}
use Rattle.alone.specs.Copies.{SharedBy}
use Rattle.book_parts.specs.Gives.{Gives}

number-front : (own : List ℕ) (k x : ℕ) → x < k + 2 → number_in own x ≡ number_in (take k own) x
number-front own k x p = go (dec_lt x 2)
  where
    go : Dec (x < 2) → number_in own x ≡ number_in (take k own) x
    go (yes q) = number-leaf own x q ∙ sym (number-leaf (take k own) x q)
    go (no q) = number-node own x (omega (arith, q)) ∙ sym (get_or-take k own (x - 2) 0 (omega (arith, q)))
        ∙ sym (number-node (take k own) x (omega (arith, q)))

map-front : (own : List ℕ) (k : ℕ) (xs : List ℕ) (m : ℕ) → m ≤ length xs → ((i : ℕ) → i < m → get_or xs i 0 < k + 2) →
    map (number_in own) (take m xs) ≡ map (number_in (take k own)) (take m xs)
map-front own k xs zero le h = refl
map-front own k [] (suc m) le h = absurd (omega arith)
map-front own k (x ∷ xs) (suc m) le h = ap₂ ◌∷◌ (number-front own k x (h 0 (omega arith)))
    (map-front own k xs m (omega arith) (λ i p. h (suc i) (omega arith)))

-- own₁ after sharing, members₁ renumbered, struck₁ with the marks copied; then zeros above.
pub gives : (T : Table) (xs : List Node) (after : Table) (owncount m : ℕ) (found marks : List ℕ) (own-long members-long struck-long : ℕ) →
    2 ≤ owncount
    → (own₁ : List ℕ) → SharedBy T xs after (owncount - 2) own₁ → m ≤ length found → ((i : ℕ) → i < m → get_or found i 0 < owncount)
    → (members₁ : List ℕ) → take m members₁ ≡ map (number_in own₁) (take m found) → (members₂ : List ℕ) → members₂
    ≡ padded (take m members₁) members-long
    → (own₂ : List ℕ) → own₂ ≡ padded (take (owncount - 2) own₁) own-long
    → (struck₁ : List ℕ) → take m struck₁ ≡ take m marks → (struck₂ : List ℕ) → struck₂ ≡ padded (take m struck₁) struck-long
    → Gives T xs after (owncount - 2) m found marks own-long members-long struck-long own₂ members₂ struck₂
gives T xs after owncount m found marks own-long members-long struck-long two own₁ S le inside members₁ e₁ members₂ e₂ own₂ e₃ struck₁ e₄
    struck₂ e₅ = record {
      good = S.good;
      same_size = S.same_size;
      shared = record { nodes = _; own = take (owncount - 2) own₁ };
      comes = S.comes;
      nodes = refl;
      own_is = e₃;
      members-are = e₂ ∙ ap (λ (ys : List ℕ). padded ys members-long)
          (e₁ ∙ map-front own₁ (owncount - 2) found m le (λ i p. omega (arith, inside i p)));
      struck-are = e₅ ∙ ap (λ (ys : List ℕ). padded ys struck-long) e₄;
    }
