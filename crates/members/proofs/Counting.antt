-- How many diagrams of one list differ from those of another, counted place by place. The idea: what is to be counted is what is counted
-- and what is left to be counted; two nodes of a table have one diagram exactly where their numbers are one. Assumes nothing.
use mathlib.Core.Path.{◌≡◌, refl, sym, ap, ap₂, ◌∙◌}
use mathlib.Core.Bool.{Bool, true, false, cond}
use mathlib.Core.List.{List, [], ◌∷◌}
use Prim.Native.Nat.{ℕ, suc, ◌+◌, ◌≤◌, ◌<◌}
use native.Mathlib.Omega.{arith}
use native.Mathlib.Numerals.{add-one}
use native.Mathlib.Decide.{ℕ_discrete}
use lib.ListN.{length, get_or, drop, drop_of_length-le}
use lib.Seq.{drop-cons}
use lib.Dec.{eqb}
use borrow.Author.Tests.{eq-eqb, ne_eqb}
use Rattle.meaning.specs.Diagram.{Diagram, leaf, same}
use Rattle.meaning.proofs.Booleans.{not-true}
use Rattle.meaning.proofs.Units.{same-eq, eq-same}
use Rattle.table.specs.Nodes.{diagram_at}
use Rattle.table.specs.Indexed.{Table, nodes_of, Good}
use Rattle.table.proofs.Written.{length-nodes, good-ordered}
use Rattle.table.proofs.Numbers.{diagram_at-injective}
use Rattle.members.specs.Made.{differing}

-- numbers differ exactly where diagrams do
pub same_numbers : (T : Table) → Good T → (j k : ℕ) → j < T.count → k < T.count →
    same (diagram_at (nodes_of T) j) (diagram_at (nodes_of T) k)
    ≡ eqb j k
same_numbers T G j k p q = go (ℕ_discrete j k)
  where
    go : Dec (j ≡ k) → same (diagram_at (nodes_of T) j) (diagram_at (nodes_of T) k) ≡ eqb j k
    go (yes e) = eq-same (diagram_at (nodes_of T) j) (diagram_at (nodes_of T) k) (ap (diagram_at (nodes_of T)) e) ∙ sym (eq-eqb j k e)
    go (no n) =
        not-true (same (diagram_at (nodes_of T) j) (diagram_at (nodes_of T) k))
        (λ z. n (diagram_at-injective (nodes_of T) (good-ordered T G) j k (omega (arith, length-nodes T G))
        (omega (arith, length-nodes T G))
        (same-eq (diagram_at (nodes_of T) j) (diagram_at (nodes_of T) k) z)))
        ∙ sym (ne_eqb j k n)

-- Of the places below i so many differ.
pub record Counting (ms rs : List Diagram) (i written : ℕ) : Type 0 where
  pub most : written ≤ i
  pub counted : differing ms rs ≡ written + differing (drop i ms) (drop i rs)

differing-cons : (f g : Diagram) (fs gs : List Diagram) → differing (f ∷ fs) (g ∷ gs)
    ≡ cond (same f g) (differing fs gs) (suc (differing fs gs))
unfolding differing
differing-cons f g fs gs = refl

differing-nil : (gs : List Diagram) → differing [] gs ≡ 0
unfolding differing
differing-nil gs = refl

module _ (ms rs : List Diagram) where
  pub counting-none : Counting ms rs 0 0
  counting-none = record { most = omega arith; counted = zero-plus (differing ms rs) }
    where
      zero-plus : (x : ℕ) → x ≡ 0 + x
      zero-plus x = omega arith

  pub counting-next : (i written : ℕ) → Counting ms rs i written → i < length ms → i < length rs
      → (b : Bool) → same (get_or ms i (leaf false)) (get_or rs i (leaf false)) ≡ b → Counting ms rs (i + 1) (written + cond b 0 1)
  counting-next i written N p q b e =
      record {
        most = less b;
        counted =
            N.counted
            ∙ ap (λ (x : ℕ). written + x)
            (ap₂ differing (drop-cons ms i (leaf false) p) (drop-cons rs i (leaf false) q)
            ∙ differing-cons (get_or ms i (leaf false)) (get_or rs i (leaf false)) (drop (suc i) ms) (drop (suc i) rs)
            ∙ ap (λ (x : Bool). cond x (differing (drop (suc i) ms) (drop (suc i) rs))
            (suc (differing (drop (suc i) ms) (drop (suc i) rs)))) e)
            ∙ moved b (differing (drop (suc i) ms) (drop (suc i) rs))
            ∙ ap (λ (j : ℕ). written + cond b 0 1 + differing (drop j ms) (drop j rs)) (sym (add-one i));
      }
    where
      less : (b : Bool) → written + cond b 0 1 ≤ i + 1
      less true = omega (arith, N.most)
      less false = omega (arith, N.most)

      moved : (b : Bool) (x : ℕ) → written + cond b x (suc x) ≡ written + cond b 0 1 + x
      moved true x = omega arith
      moved false x = omega arith

  pub counting-all : (i written : ℕ) → length ms ≤ i → Counting ms rs i written → written ≡ differing ms rs
  counting-all i written h N =
      sym (N.counted
      ∙ ap (λ (l : List Diagram). written + differing l (drop i rs)) (drop_of_length-le ms {i = i} h)
      ∙ ap (λ (x : ℕ). written + x) (differing-nil (drop i rs))
      ∙ plus-zero written)
    where
      plus-zero : (x : ℕ) → x + 0 ≡ x
      plus-zero x = omega arith
