-- The node that `make` gives has the clause's value under every assignment, of the header's variables and of all 64. The idea: the diagram
-- placed is the clause's, and the diagram of a function has its values. Assumes nothing.
use mathlib.Core.Path.{◌≡◌, ap, ◌∙◌}
use mathlib.Core.Bool.{false}
use mathlib.Core.List.{List}
use Prim.Native.Nat.{ℕ, ◌≤◌}
use lib.ListN.{length}
use Rattle.meaning.specs.Diagram.{Assignment, Diagram, value}
use Rattle.meaning.specs.Reduced.{Reduced}
use Rattle.meaning.specs.Operations.{Literal, clause_value, clause}
use Rattle.meaning.proofs.Values.{diagram-reduced, diagram-value}
use Rattle.meaning.specs.Literals.{OfVariables}
use Rattle.table.specs.Nodes.{diagram_at}
use Rattle.table.specs.Indexed.{Table, nodes_of, Good, Outcome}
use Rattle.table.proofs.Outcomes.{place_in, Grown, grown, Longer}
use Rattle.words.specs.declared.Literals.{Literals}
use Rattle.words.specs.Sets.{literals_of}
use Rattle.clause.specs.Words.{words_value, clause_of_words}
use Rattle.clause.proofs.Literals.{within_more, clause-of-words}

pub of-words-reduced : (u : Literals) → Reduced 1 65 (clause_of_words u)
unfolding clause_of_words
of-words-reduced u = diagram-reduced 64 (words_value u 64)

-- what `make` leaves and gives
pub made : (T : Table) → Good T → (u : Literals) (o : Outcome) → o ≡ place_in T (clause_of_words u) → Grown T (clause_of_words u) o
made T G u o e = grown T G (clause_of_words u) (of-words-reduced u) o e

module _ (n : ℕ) (most : n ≤ 64) (ls : List Literal) (i : OfVariables n ls) where
  -- for n variables, or any greater number
  pub clause-value : (m : ℕ) → n ≤ m → m ≤ 64 → (a : Assignment) → length a ≡ m → value (clause_of_words (literals_of ls)) a
      ≡ clause_value ls a
  unfolding clause
  clause-value m le top a len =
      ap (λ (f : Diagram). value f a) (clause-of-words m top ls (within_more n m le ls i)) ∙ diagram-value m (clause_value ls) a len

  module _ (T : Table) (G : Good T) (o : Outcome) (e : o ≡ place_in T (clause_of_words (literals_of ls))) (room : o.full ≡ false) where
    -- from its making on, in every table that keeps its node
    pub made-clause : (T' : Table) → Longer o.table T' → diagram_at (nodes_of T') o.node ≡ clause n ls
    made-clause T' L =
        let W : Grown T (clause_of_words (literals_of ls)) o = made T G (literals_of ls) o e in
        L.kept o.node W.inside ∙ W.is room ∙ clause-of-words n most ls i

    pub made-value : (T' : Table) → Longer o.table T' → (m : ℕ) → n ≤ m → m ≤ 64 → (a : Assignment) → length a ≡ m
        → value (diagram_at (nodes_of T') o.node) a ≡ clause_value ls a
    made-value T' L m le top a len =
        let W : Grown T (clause_of_words (literals_of ls)) o = made T G (literals_of ls) o e in
        ap (λ (f : Diagram). value f a) (L.kept o.node W.inside ∙ W.is room) ∙ clause-value m le top a len
