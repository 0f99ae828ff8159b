-- Conflicts of a list of nodes, told from node numbers: a member is 0 where node 0 is listed, and the negation of another where a
-- member's negation is listed. The idea: equal diagrams have equal numbers, and the two members may be taken in either order.
-- Assumes nothing.
use mathlib.Core.Path.{◌≡◌, refl, sym, ap, ap₂, ◌∙◌}
use mathlib.Core.Logic.{◌≢◌}
use mathlib.Core.Bool.{Bool, true, false, ◌||◌}
use mathlib.Core.List.{List, [], ◌∷◌}
use Prim.Native.Nat.{ℕ, suc, ◌<◌}
use native.Mathlib.Omega.{arith}
use lib.ListN.{length}
use lib.Dec.{eqb}
use borrow.Author.Tests.{eq-eqb, eqb-true}
use Rattle.meaning.specs.Diagram.{Diagram, leaf, same}
use Rattle.meaning.specs.Operations.{negation}
use Rattle.meaning.specs.Rules.{any, conflicts}
use Rattle.meaning.proofs.Booleans.{both_ways, not-true}
use Rattle.meaning.proofs.Units.{same-eq, eq-same}
use Rattle.table.specs.Nodes.{Node, diagram_at}
use Rattle.table.proofs.Order.{Ordered}
use Rattle.table.proofs.Numbers.{diagram_at-zero, diagram_at-injective}
use Rattle.conflict.specs.Members.{negation_in, some_negated}
use Rattle.table.specs.Lists.{diagrams_of, Inside}
use Rattle.conflict.specs.Marks.{is_listed}

-- ---- two members in either order

or_swap : (a b c d : Bool) → ((a || b) || (c || d)) ≡ ((a || c) || (b || d))
or_swap true b c d = refl
or_swap false true true d = refl
or_swap false true false d = refl
or_swap false false c d = refl

any-or : (p q : Diagram → Bool) (ms : List Diagram) → (any p ms || any q ms) ≡ any (λ f. p f || q f) ms
unfolding any
any-or p q [] = refl
any-or p q (f ∷ fs) = or_swap (p f) (any p fs) (q f) (any q fs) ∙ ap (λ (b : Bool). (p f || q f) || b) (any-or p q fs)

any_false : (ms : List Diagram) → any (λ f. false) ms ≡ false
unfolding any
any_false [] = refl
any_false (f ∷ fs) = any_false fs

any_swap : (P : Diagram → Diagram → Bool) (ms ns : List Diagram) → any (λ f. any (P f) ns) ms ≡ any (λ g. any (λ f. P f g) ms) ns
unfolding any
any_swap P [] ns = sym (any_false ns)
any_swap P (f ∷ fs) ns = ap (λ (b : Bool). any (P f) ns || b) (any_swap P fs ns) ∙ any-or (P f) (λ g. any (λ f'. P f' g) fs) ns

-- ---- diagrams and numbers

module _ (t : List Node) (O : Ordered t) where
  same_number : (j k : ℕ) → j < length t → k < length t → same (diagram_at t j) (diagram_at t k) ≡ eqb j k
  same_number j k p q =
      both_ways (same (diagram_at t j) (diagram_at t k)) (eqb j k)
      (λ e. eq-eqb j k (diagram_at-injective t O j k p q (same-eq (diagram_at t j) (diagram_at t k) e)))
      (λ e. eq-same (diagram_at t j) (diagram_at t k) (ap (diagram_at t) (eqb-true j k e)))

  -- a node's diagram is among the members where its number is listed
  any-listed : (list : List ℕ) (k : ℕ) → k < length t → Inside (length t) list → any (λ f. same f (diagram_at t k)) (diagrams_of t list)
      ≡ is_listed list k
  unfolding any is_listed
  any-listed [] k p h = refl
  any-listed (j ∷ js) k p h = ap₂ ◌||◌ (same_number j k (h 0 (omega arith)) p) (any-listed js k p (λ i q. h (suc i) (omega arith)))

  -- a diagram that no node has is not among them
  any-absent : (list : List ℕ) (D : Diagram) → ((k : ℕ) → k < length t → diagram_at t k ≢ D) → Inside (length t) list →
      any (λ f. same f D) (diagrams_of t list) ≡ false
  unfolding any
  any-absent [] D n h = refl
  any-absent (j ∷ js) D n h =
      ap₂ ◌||◌ (not-true (same (diagram_at t j) D) (λ e. n j (h 0 (omega arith)) (same-eq (diagram_at t j) D e)))
      (any-absent js D n (λ i q. h (suc i) (omega arith)))

  zero_number : (j : ℕ) → j < length t → same (leaf false) (diagram_at t j) ≡ eqb j 0
  zero_number j p =
      both_ways (same (leaf false) (diagram_at t j)) (eqb j 0)
      (λ e. eq-eqb j 0 (diagram_at-injective t O j 0 p (omega arith)
      (sym (same-eq (leaf false) (diagram_at t j) e) ∙ sym (diagram_at-zero t))))
      (λ e. eq-same (leaf false) (diagram_at t j) (sym (diagram_at-zero t) ∙ ap (diagram_at t) (sym (eqb-true j 0 e))))

  zero-listed : (list : List ℕ) → Inside (length t) list → any (same (leaf false)) (diagrams_of t list) ≡ is_listed list 0
  unfolding any is_listed
  zero-listed [] h = refl
  zero-listed (j ∷ js) h = ap₂ ◌||◌ (zero_number j (h 0 (omega arith))) (zero-listed js (λ i q. h (suc i) (omega arith)))

  -- ---- the conflict test

  module _ (list : List ℕ) (h : Inside (length t) list) where
    pub zero-conflicts : is_listed list 0 ≡ true → conflicts 64 (diagrams_of t list) ≡ true
    unfolding conflicts
    zero-conflicts e = rw (zero-listed list h, e)

    pub others-conflict : is_listed list 0 ≡ false → conflicts 64 (diagrams_of t list) ≡ some_negated (diagrams_of t list)
    unfolding conflicts some_negated negation_in
    others-conflict e =
        ap (λ (b : Bool). b || any (λ f. any (λ g. same f (negation 64 g)) (diagrams_of t list)) (diagrams_of t list))
        (zero-listed list h ∙ e)
        ∙ any_swap (λ f g. same f (negation 64 g)) (diagrams_of t list) (diagrams_of t list)

    -- a node is the negation of g
    pub negation-found : (g : Diagram) (k : ℕ) → k < length t → diagram_at t k ≡ negation 64 g → negation_in (diagrams_of t list) g
        ≡ is_listed list k
    unfolding negation_in
    negation-found g k p e = ap (λ (D : Diagram). any (λ f. same f D) (diagrams_of t list)) (sym e) ∙ any-listed list k p h

    -- no node is
    pub negation-absent : (g : Diagram) → ((k : ℕ) → k < length t → diagram_at t k ≢ negation 64 g) → negation_in (diagrams_of t list) g
        ≡ false
    unfolding negation_in
    negation-absent g n = any-absent list (negation 64 g) n h
