-- A member's negation is listed exactly where its node is found and marked. Assumes nothing.
use mathlib.Core.Path.{◌≡◌, sym, ap, ◌∙◌}
use mathlib.Core.Bool.{Bool, true, false}
use mathlib.Core.List.{List}
use Prim.Native.Nat.{ℕ, ◌+◌, ◌≤◌, ◌<◌}
use native.Mathlib.Omega.{arith}
use lib.ListN.{length, get_or, length-replicate}
use Rattle.meaning.proofs.Booleans.{t≢f}
use Rattle.table.specs.declared.Found.{Found}
use Rattle.table.specs.declared.Found.TheVariants.{At, Nothing}
use Rattle.table.specs.Nodes.{diagram_at}
use Rattle.table.specs.Indexed.{Table, size, nodes_of, Good}
use Rattle.table.proofs.Written.{length-nodes, good-ordered}
use Rattle.table.proofs.Numbers.{diagram_at-injective}
use Rattle.negate.specs.Negations.{Negates}
use Rattle.conflict.specs.Members.{negation_in, some_negated, asks, NegationsAsked, Unnegated, NegatedBy, Passed, Marked}
use Rattle.table.specs.Lists.{diagrams_of, Inside}
use Rattle.conflict.specs.Marks.{unmarked, set_all, marked_at, FoundInside}
use Rattle.conflict.proofs.Marks.{marked-length, marks-tell}
use Rattle.conflict.proofs.Numbers.{negation-found, negation-absent}
use Rattle.conflict.proofs.Asked.{negated-here, none-negated, asked-next, asked-passed}

-- where 0 is the negation of f no other node is
pub zero-negates : (T : Table) → Good T → (f k : ℕ) → k ≡ 0 → NegatedBy T f k → Unnegated T f
zero-negates T G f k z n m least p e =
    let same : m ≡ k = diagram_at-injective (nodes_of T) (good-ordered T G) m k (omega (arith, length-nodes T G))
    (omega (arith, n.0, length-nodes T G)) (e ∙ sym n.1) in
    absurd (omega arith)

module _ (T : Table) (G : Good T) (list : List ℕ) (h : Inside T.count list) where
  pub in-nodes : Inside (length (nodes_of T)) list
  in-nodes i p = omega (arith, h i p, length-nodes T G)

  pub in_size : Inside (size T) list
  in_size i p = omega (arith, h i p, G.within)

  pub found_inside : (f : ℕ) (r : Found) → Negates T f r → FoundInside (size T) r
  found_inside f (At k) n = omega (arith, n.0, G.within)
  found_inside f Nothing n = tt

  negation-marked : (f : ℕ) (r : Found) → Negates T f r → negation_in (diagrams_of (nodes_of T) list) (diagram_at (nodes_of T) f)
      ≡ marked_at (set_all 1 (unmarked (size T)) list) r
  negation-marked f (At k) n =
      negation-found (nodes_of T) (good-ordered T G) list in-nodes (diagram_at (nodes_of T) f) k.0 (omega (arith, n.0, length-nodes T G))
      n.1
      ∙ sym (marks-tell (size T) list in_size k.0 (omega (arith, n.0, G.within)))
  negation-marked f Nothing n =
      negation-absent (nodes_of T) (good-ordered T G) list in-nodes (diagram_at (nodes_of T) f)
      (λ k p. n k (omega (arith, length-nodes T G)))

  -- what its mark tells of a member's negation
  negation-told : (f : ℕ) (r : Found) → Negates T f r → (marks : List ℕ) → marks ≡ set_all 1 (unmarked (size T)) list → (b : Bool) → b
      ≡ marked_at marks r
      → negation_in (diagrams_of (nodes_of T) list) (diagram_at (nodes_of T) f) ≡ b
  negation-told f r n marks e b m = negation-marked f r n ∙ ap (λ (ms : List ℕ). marked_at ms r) (sym e) ∙ sym m

  pub in-unmarked : (marks : List ℕ) → marks ≡ unmarked (size T) → Inside (length marks) list
  in-unmarked marks e i p = rw (e, length-replicate {A = ℕ} (size T) 0) (in_size i p)

  pub in-marked : (marks : List ℕ) → marks ≡ set_all 1 (unmarked (size T)) list → Inside (length marks) list
  in-marked marks e i p = rw (e, marked-length (size T) list) (in_size i p)

-- ---- what is known of every list whose members are marked, once the first i are asked

abbrev pub StillAsked : Table → List ℕ → List ℕ → Bool → ℕ → ℕ → Type 0
StillAsked T asked marks all from i =
    (list : List ℕ) → Marked T list asked marks all → NegationsAsked (nodes_of T) list asked all from →
    NegationsAsked (nodes_of T) list asked all i

module _ (T : Table) (G : Good T) (asked marks : List ℕ) (all : Bool) (from : ℕ) where
  pub still-passed : (i place : ℕ) → Passed T asked all i place → StillAsked T asked marks all from i →
      StillAsked T asked marks all from place
  still-passed i place P S list M N = asked-passed T list asked all M.inside M.none i place (S list M N) P

  -- one that is not asked
  pub still-unasked : (i : ℕ) → i < length asked → asks (nodes_of T) (get_or asked i 0) all ≡ false → StillAsked T asked marks all from i →
      StillAsked T asked marks all from (i + 1)
  still-unasked i p n S list M N = asked-next (nodes_of T) list asked all i (S list M N) p (λ e. t≢f (sym e ∙ n))

  module _ (i : ℕ) (p : i < length asked) (r : Found) (n : Negates T (get_or asked i 0) r) where
    -- one whose negation is not marked
    pub still-unmarked : marked_at marks r ≡ false → StillAsked T asked marks all from i → StillAsked T asked marks all from (i + 1)
    still-unmarked m S list M N =
        asked-next (nodes_of T) list asked all i (S list M N) p
        (λ _. negation-told T G list M.inside (get_or asked i 0) r n marks M.marked false (sym m))

    -- one whose negation is
    pub marked-conflict : marked_at marks r ≡ true → (list : List ℕ) → Marked T list asked marks all →
        some_negated (diagrams_of (nodes_of T) list) ≡ true
    marked-conflict m list M =
        negated-here (nodes_of T) list (get_or asked i 0) (M.enough.listed i p)
        (negation-told T G list M.inside (get_or asked i 0) r n marks M.marked true (sym m))

  pub still-none : (i : ℕ) → length asked ≤ i → StillAsked T asked marks all from i
      → (list : List ℕ) → Marked T list asked marks all → NegationsAsked (nodes_of T) list asked all from →
      some_negated (diagrams_of (nodes_of T) list) ≡ false
  still-none i h S list M N =
      none-negated (nodes_of T) list (good-ordered T G) (in-nodes T G list M.inside) asked all M.enough
      (λ k q. (S list M N).none k (omega (arith, h)))
