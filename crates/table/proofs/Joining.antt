-- Low side, high side, then the node over both: that is the placing of `branch v l h`, whatever the operation that makes the sides. The
-- idea: equal sides are one diagram, which is there once the low side is placed, so that the high side places nothing. Assumes nothing.
use Rattle.std.proofs.Common.{◌≡◌, ℕ, List, sym, refl, ap, ◌∙◌}
use Rattle.meaning.specs.Diagram.{Diagram, same?, branch}
use Rattle.meaning.specs.Reduced.{Reduced}
use Rattle.meaning.proofs.Canonical.{branch_same, branch_differ}
use Rattle.table.specs.Nodes.{Node, Placing, full, placed, put, and_then, place}
use Rattle.table.proofs.Order.{Ordered}
use Rattle.table.proofs.Placing.{put_same, After, place_after, place-there}

module _ (s : ℕ) (t : List Node) (O : Ordered t) (v : ℕ) (l h : Diagram) (o : Reduced 1 65 l) where
  same-sides : l ≡ h → (p : Placing) → After s t l p → p ≡ and_then p (λ t₁ a. and_then (place s t₁ h) (λ t₂ b. put s t₂ v a b))
  unfolding and_then
  same-sides e (full t₁) A = refl
  same-sides e (placed t₁ a) A =
      let again : place s t₁ h ≡ placed t₁ a = ap (place s t₁) (sym (A.is ∙ e)) ∙ place-there s t₁ A.kept.ordered a A.inside in
      rw again (sym (put_same s t₁ v a a refl))

  pub place-branch : place s t (branch v l h) ≡ and_then (place s t l) (λ t₁ a. and_then (place s t₁ h) (λ t₂ b. put s t₂ v a b))
  unfolding place
  place-branch = go (same? l h)
    where
      go : Dec (l ≡ h) → place s t (branch v l h) ≡ and_then (place s t l) (λ t₁ a. and_then (place s t₁ h) (λ t₂ b. put s t₂ v a b))
      go (yes e) = ap (place s t) (branch_same v l h e) ∙ same-sides e (place s t l) (place_after s t O l o)
      go (no n) = ap (place s t) (branch_differ v l h n)
