-- What holds while the clauses are made: the state is standing, the members are the clauses read so far, and what is left to be read is
-- within the header. The idea: a clause looks at the variables of the header alone, so that its node has its values under every
-- assignment, whatever its length. Assumes nothing.
use mathlib.Core.Path.{◌≡◌, refl, ap, ap₂, ◌∙◌, subst}
use mathlib.Core.Bool.{Bool, ◌||◌, beq}
use mathlib.Core.List.{List, [], ◌∷◌, ◌++◌, map, append_assoc}
use Prim.Native.Nat.{ℕ, zero, suc, ◌+◌, ◌-◌, ◌≤◌, ◌<◌}
use native.Mathlib.Omega.{arith}
use lib.ListN.{length, length-append, length-replicate}
use Rattle.meaning.specs.Diagram.{Assignment, holds, Diagram, value}
use Rattle.meaning.specs.Reduced.{Reduced}
use Rattle.meaning.specs.Operations as meaning
use Rattle.meaning.proofs.Values.{diagram-reduced, reduced-to}
use Rattle.meaning.specs.Literals.{OfVariables}
use Rattle.table.specs.Nodes.{Node, placed, place}
use Rattle.table.proofs.Order.{Ordered}
use Rattle.table.proofs.Growth.{extends-length}
use Rattle.table.proofs.Placing.{After, place_after}
use Rattle.dimacs.specs.Header.{Proper, header}
use Rattle.dimacs.specs.Clauses.{Reading, clause, clauses_from, formula}
use Rattle.dimacs.proofs.Bounds.{HeaderIn, header-in}
use Rattle.verdict.specs.Steps.{emptied, begun}
use Rattle.verdict.specs.Taken.{Function, Meant}
use Rattle.verdict.specs.Run.{Making, opened, made}
use Rattle.verdict.specs.Satisfies.{clauses_of, read_to_end}
use Rattle.verdict.proofs.Fitted.{fitted, fitted-holds, diagram-fitted}
use Rattle.verdict.proofs.Uses.{UsesAfter, place-uses}
use Rattle.verdict.proofs.Standing.{Standing, valued-append, valued-grown}
use Rattle.verdict.proofs.Formula.{Read, clauses-read}

-- ---- clauses under assignments of any length

-- a clause looks at the variables of its literals alone
clause-agree : (n : ℕ) (ls : List meaning.Literal) → OfVariables n ls → (a b : Assignment) →
    ((v : ℕ) → 1 ≤ v → v ≤ n → holds a v ≡ holds b v)
    → meaning.clause_value ls a ≡ meaning.clause_value ls b
unfolding meaning.clause_value meaning.literal_value
clause-agree n [] w a b same = refl
clause-agree n (l ∷ ls) w a b same =
    ap₂ ◌||◌ (ap (λ (x : Bool). beq x l.positive) (same l.variable w.0 w.1)) (clause-agree n ls w.2 a b same)

pub clause-fitted : (n : ℕ) (ls : List meaning.Literal) → OfVariables n ls → (a : Assignment) → meaning.clause_value ls (fitted n a)
    ≡ meaning.clause_value ls a
clause-fitted n ls w a = clause-agree n ls w (fitted n a) a (fitted-holds n a)

module _ (n : ℕ) (ls : List meaning.Literal) where
  clause-reduced : Reduced 1 (suc n) (meaning.clause n ls)
  unfolding meaning.clause
  clause-reduced = diagram-reduced n (meaning.clause_value ls)

  -- Its diagram has its values, whatever the assignment's length.
  pub clause-valued : OfVariables n ls → (a : Assignment) → value (meaning.clause n ls) a ≡ meaning.clause_value ls a
  unfolding meaning.clause
  clause-valued w a = diagram-fitted n (meaning.clause_value ls) a ∙ clause-fitted n ls w a

-- ---- while the clauses are made

pub emptied-ordered : Ordered emptied
emptied-ordered = record {
  two = omega arith;
  first = refl;
  second = refl;
  fits = λ k p q. absurd (omega arith);
  alike = λ j k a p b q e. absurd (omega arith);
}

abbrev meant_members : List Function → Meant
meant_members fs = record { members = fs; entries = [] }

pub record Underway (s : ℕ) (text : List ℕ) (n many : ℕ) (t : List Node) (ms : List ℕ) (fs : List Function) (r : Reading) : Type 0 where
  pub narrow : n ≤ 64
  pub limit : many ≤ 1024
  pub standing : Standing s n (meant_members fs) (begun t ms)
  pub left : ℕ
  pub counted : length ms + left ≡ many
  pub read : Read n left r
  pub clauses : fs ++ map meaning.clause_value (clauses_of r) ≡ map meaning.clause_value (clauses_of (formula text))
  pub end : read_to_end r ≡ read_to_end (formula text)

begun-standing : (s n : ℕ) → Standing s n (meant_members []) (begun emptied [])
begun-standing s n = record {
  ordered = emptied-ordered;
  uses = λ k p q. absurd (omega arith);
  room = λ two. two;
  least = omega arith;
  kept = omega arith;
  members = tt;
  marks = refl;
  entries = tt;
  few = omega arith;
  lines = omega arith;
  many = omega arith;
}

module _ (s : ℕ) (text : List ℕ) (n many : ℕ) where
  opened-underway : (at : ℕ) → header text ≡ Proper n many at → Underway s text n many emptied [] [] (clauses_from text n many at)
  unfolding formula
  opened-underway at e =
      let h : (n ≤ 64) × (many ≤ 1024) × (at ≤ length text) = subst (HeaderIn text) e (header-in text) in
      record {
        narrow = h.0;
        limit = h.1;
        standing = begun-standing s n;
        left = many;
        counted = omega arith;
        read = clauses-read text n many at h.2;
        clauses = rw e;
        end = rw e;
      }

  made-standing : (t t₁ : List Node) (ms : List ℕ) (k : ℕ) (fs : List Function) (ls : List meaning.Literal) → n ≤ 64 → length ms < 1024 →
      OfVariables n ls
      → Standing s n (meant_members fs) (begun t ms) → After s t (meaning.clause n ls) (placed t₁ k) → UsesAfter n (placed t₁ k)
      → Standing s n (meant_members (fs ++ meaning.clause_value ls ∷ [])) (begun t₁ (ms ++ k ∷ []))
  made-standing t t₁ ms k fs ls narrow few w S A u =
      let longer : length t ≤ length t₁ = extends-length t t₁ A.kept.extends in
      record {
        ordered = A.kept.ordered;
        uses = u;
        room = λ two. A.kept.room (S.room two);
        least = A.kept.ordered.two;
        kept = omega arith;
        members = valued-append t₁ (length t₁) ms fs k (meaning.clause_value ls)
            (valued-grown t t₁ (length t) (length t₁) S.ordered A.kept.extends (omega arith) longer ms fs S.members)
            A.inside (λ a. ap (λ (D : Diagram). value D a) A.is ∙ clause-valued n ls w a);
        marks = length-replicate (length (ms ++ k ∷ [])) 0;
        entries = tt;
        few = omega arith;
        lines = omega arith;
        many = omega (arith, length-append ms (k ∷ []));
      }

  made-underway : (t t₁ : List Node) (ms : List ℕ) (k : ℕ) (fs : List Function) (ls : List meaning.Literal) (first : ℕ) (rest : Reading)
      → Underway s text n many t ms fs (clause ls first rest) → place s t (meaning.clause n ls) ≡ placed t₁ k
      → Underway s text n many t₁ (ms ++ k ∷ []) (fs ++ meaning.clause_value ls ∷ []) rest
  unfolding clauses_of read_to_end
  made-underway t t₁ ms k fs ls first rest Y e = go Y.left Y.counted Y.read
    where
      S : Standing s n (meant_members fs) (begun t ms)
      S = Y.standing

      A : After s t (meaning.clause n ls) (placed t₁ k)
      A = subst (After s t (meaning.clause n ls)) e
          (place_after s t S.ordered (meaning.clause n ls)
          (reduced-to 1 (suc n) 65 (meaning.clause n ls) (omega (arith, Y.narrow)) (clause-reduced n ls)))

      u : UsesAfter n (placed t₁ k)
      u = subst (UsesAfter n) e (place-uses n s t (meaning.clause n ls) S.uses (clause-reduced n ls))

      go : (left : ℕ) → length ms + left ≡ many → Read n left (clause ls first rest) →
          Underway s text n many t₁ (ms ++ k ∷ []) (fs ++ meaning.clause_value ls ∷ []) rest
      go zero counted read = absurd read
      go (suc left) counted read = record {
        narrow = Y.narrow;
        limit = Y.limit;
        standing = made-standing t t₁ ms k fs ls Y.narrow (omega (arith, Y.limit)) read.0 S A u;
        left = left;
        counted = omega (arith, length-append ms (k ∷ []));
        read = read.1;
        clauses = append_assoc fs (meaning.clause_value ls ∷ []) (map meaning.clause_value (clauses_of rest)) ∙ Y.clauses;
        end = Y.end;
      }

  pub underway : {t : List Node} {ms : List ℕ} {fs : List Function} {r : Reading} → Making s text n many t ms fs r →
      Underway s text n many t ms fs r
  underway (opened {at} e) = opened-underway at e
  underway (made {t} {t₁} {ms} {k} {fs} {ls} {first} {rest} M e) = made-underway t t₁ ms k fs ls first rest (underway M) e
