-- A clause looked for in the table: while the clause of the later variables stands there, the next node is looked up over it; where that
-- does not stand there, the clause does not. The idea: a diagram that stands there has its sides there. Assumes nothing.
use mathlib.Core.Path.{◌≡◌, refl, sym, ap, ap₂, ◌∙◌, subst}
use mathlib.Core.Bool.{Bool, true, false, ◌&&◌, cond}
use mathlib.Core.List.{List, [], ◌∷◌, ◌++◌}
use mathlib.Core.Option.{Option, none, some}
use Prim.Native.Nat.{ℕ, zero, suc, ◌+◌, ◌-◌, ◌≤◌, ◌<◌}
use native.Mathlib.Omega.{arith}
use lib.ListN.{length, length-append}
use lib.Dec.{ltb}
use Rattle.meaning.specs.Diagram.{Diagram, leaf, node, same?, branch}
use Rattle.meaning.specs.Words.{in_word}
use Rattle.meaning.proofs.Booleans.{t≢f}
use Rattle.meaning.proofs.Canonical.{branch_same, branch_differ}
use Rattle.meaning.proofs.Clauses.{clause_from}
use Rattle.table.specs.Nodes.{Node, at, node_of, diagram_at, Placing, full, placed, find, or_append, put, place}
use Rattle.table.specs.declared.Found.{Found}
use Rattle.table.specs.Indexed.{Table, size, nodes_of, Good, found_of, Outcome, written}
use Rattle.table.proofs.Order.{Fits, Ordered}
use Rattle.table.proofs.Numbers.{Kind, is_zero, is_one, from-two, kind, diagram_at-zero, diagram_at-one, diagram_at-node}
use Rattle.table.proofs.Written.{nodes-indexed, length-nodes, good-ordered}
use Rattle.table.proofs.Placing.{After, Made, place_after, place-there, put_same, put-differ}
use Rattle.table.proofs.Outcomes.{place_in, put_in, there}
use Rattle.words.specs.declared.Literals.{Literals}
use Rattle.words.specs.Sets.{shares}
use Rattle.clause.specs.Words.{clause_of_words, Stands}
use Rattle.clause.proofs.Diagrams.{clause_words, words_are, one-sign}
use Rattle.clause.proofs.Values.{of-words-reduced}
use Rattle.clause.proofs.Making.{stay, Making, make-both, make-end, next-is, make-turn}
use Rattle.table.proofs.PlacedAll.{nodes_after}

-- ---- one node

-- a node that is not there is appended, or finds no room
appended : (s : ℕ) (t : List Node) (x : Node) (k : ℕ) → or_append s t x none ≡ placed t k → ⊥
unfolding or_append
appended s t x k e = go (ltb (length t) s) e
  where
    go : (b : Bool) → cond b (placed (t ++ x ∷ []) (length t)) (full t) ≡ placed t k → ⊥
    go true e = let longer : length (t ++ x ∷ []) ≡ length t = ap (λ (p : Placing). length (nodes_after p)) e in
        omega (arith, length-append t (x ∷ []))
    go false e = let z : ◌≡◌ {A = ℕ} 0 1 = cc in omega arith

module _ (s : ℕ) (t : List Node) (v l h : ℕ) where
  pub over-same : l ≡ h → put s t v l h ≡ placed t l
  over-same e = put_same s t v l h e

  pub over-looked : (l ≡ h → ⊥) → (r : Found) → r ≡ found_of (find t (node_of v l h)) → Stands t (put s t v l h) r
  unfolding or_append
  over-looked ne r e = subst (Stands t (put s t v l h)) (sym e) (go (find t (node_of v l h)) refl)
    where
      go : (o : Option ℕ) → find t (node_of v l h) ≡ o → Stands t (put s t v l h) (found_of o)
      go none q = λ k e. appended s t (node_of v l h) k (ap (or_append s t (node_of v l h)) (sym q) ∙ sym (put-differ s t v l h ne) ∙ e)
      go (some k) q = put-differ s t v l h ne ∙ ap (or_append s t (node_of v l h)) q

-- ---- a diagram that stands there has its sides there

abbrev Standing : List Node → Diagram → Type 0
Standing t D = (k : ℕ) × (k < length t) × (diagram_at t k ≡ D)

module _ (t : List Node) (O : Ordered t) (v : ℕ) (l h : Diagram) where
  node-sides : (k : ℕ) → k < length t → diagram_at t k ≡ node v l h → Kind k → Standing t l × Standing t h
  node-sides _ p e is_zero = let z : ◌≡◌ {A = ℕ} 0 1 = cc (diagram_at-zero t) in absurd (omega arith)
  node-sides _ p e is_one = let z : ◌≡◌ {A = ℕ} 0 1 = cc (diagram_at-one t) in absurd (omega arith)
  node-sides k p e (from-two two) =
      let F : Fits t k (at t k) = O.fits k two p in
      let d : node (at t k).var (diagram_at t (at t k).low) (diagram_at t (at t k).high) ≡ node v l h = sym (diagram_at-node t O k two p)
      ∙ e in
      let low : diagram_at t (at t k).low ≡ l = cc in
      let high : diagram_at t (at t k).high ≡ h = cc in
      (((at t k).low, omega (arith, F.low-less), low), ((at t k).high, omega (arith, F.high-less), high))

  sides : Standing t (branch v l h) → Standing t l × Standing t h
  sides (k, p, e) = go (same? l h)
    where
      go : Dec (l ≡ h) → Standing t l × Standing t h
      go (yes q) = ((k, p, e ∙ branch_same v l h q), (k, p, e ∙ branch_same v l h q ∙ q))
      go (no ne) = node-sides k p (e ∙ branch_differ v l h ne) (kind k)

-- a clause there has there the clause of its later variables
rest-stands : (t : List Node) → Ordered t → (v : ℕ) (rest : Diagram) (low high : Bool) → (low && high) ≡ false
    → Standing t (branch v (cond low (leaf true) rest) (cond high (leaf true) rest)) → Standing t rest
rest-stands t O v rest true true d S = t≢f d
rest-stands t O v rest true false d S = (sides t O v (leaf true) rest S).1
rest-stands t O v rest false high d S = (sides t O v rest (cond high (leaf true) rest) S).0

-- ---- what is written into the table that there is

written-stays : (T : Table) (p : Placing) (k : ℕ) → written (size T) p ≡ stay T k → p ≡ placed (nodes_of T) k
unfolding written
written-stays T (full t) k e = t≢f (ap (λ (o : Outcome). o.full) e)
written-stays T (placed t j) k e =
    ap₂ placed (sym (nodes-indexed (size T) t) ∙ ap (λ (o : Outcome). nodes_of o.table) e) (ap (λ (o : Outcome). o.node) e)

stays-written : (T : Table) → Good T → (k : ℕ) → stay T k ≡ written (size T) (placed (nodes_of T) k)
unfolding written
stays-written T G k = ap (λ (t : Table). stay t k) G.written

-- ---- the turns

module _ (T : Table) (G : Good T) (u : Literals) where
  abbrev t : List Node
  t = nodes_of T

  abbrev p : ℕ
  p = u.positive

  abbrev n : ℕ
  n = u.negative

  abbrev wanted : Placing
  wanted = place (size T) t (clause_of_words u)

  pub find-both : shares 64 p n ≡ true → wanted ≡ placed t 1
  find-both e = written-stays T wanted 1 (sym (make-both T G u e))

  pub find-end : (v : ℕ) → v ≤ 0 → (k : ℕ) → Making T u v (stay T k) → wanted ≡ placed t k
  find-end v le k M = written-stays T wanted k (sym (make-end T G u v le (stay T k) M))

  -- what is given has the clause's diagram
  pub stands-is : (k : ℕ) → wanted ≡ placed t k → (k < length t) × (diagram_at t k ≡ clause_of_words u)
  stands-is k e =
      let M : Made (size T) t (clause_of_words u) t k = subst (After (size T) t (clause_of_words u)) e
      (place_after (size T) t (good-ordered T G) (clause_of_words u) (of-words-reduced u)) in
      (M.inside, M.is)

  -- and where nothing is given, no node has it
  pub stands-not : ((k : ℕ) → wanted ≡ placed t k → ⊥) → (k : ℕ) → k < length t → diagram_at t k ≡ clause_of_words u → ⊥
  stands-not absent k q e = absent k (ap (place (size T) t) (sym e) ∙ place-there (size T) t (good-ordered T G) k q)

  module _ (apart : shares 64 p n ≡ false) where
    down : (i k : ℕ) → suc i + k ≡ 65 → Standing t (clause_words u 64 1) → Standing t (clause_words u k (suc i))
    unfolding clause_from
    down zero k q S = let z : 64 ≡ k = omega arith in subst (λ (x : ℕ). Standing t (clause_words u x 1)) z S
    down (suc i) k q S =
        rest-stands t (good-ordered T G) (suc i) (clause_words u k (suc (suc i))) (in_word n (suc i)) (in_word p (suc i))
        (one-sign u apart (suc i) (omega arith) (omega arith))
        (down i (suc k) (omega arith) S)

    module _ (v : ℕ) (some : 0 < v) (k : ℕ) (M : Making T u v (stay T k)) (l h : ℕ) (low : l ≡ cond (in_word n v) 1 k)
        (high : h ≡ cond (in_word p v) 1 k) where
      pub find-turn : (j : ℕ) → put (size T) t v l h ≡ placed t j → Making T u (v - 1) (stay T j)
      find-turn j e =
          (make-turn T G u apart v some (stay T k) M l h low high (stay T j) (stays-written T G j ∙ ap (written (size T)) (sym e))).next
          refl

      pub find_absent : ((j : ℕ) → put (size T) t v l h ≡ placed t j → ⊥) → (j : ℕ) → wanted ≡ placed t j → ⊥
      find_absent absent j e =
          let (q, is) = stands-is j e in
          let (j', q', is') = down (v - 1) (64 - (v - 1)) (omega (arith, M.most)) (j, q, is ∙ words_are u) in
          absent j' (written-stays T (put (size T) t v l h) j'
          (next-is T G u apart v some (stay T k) M l h low high (put_in T v l h) refl ∙ ap (place_in T) (sym is')
          ∙ there T G j' (omega (arith, length-nodes T G))))
