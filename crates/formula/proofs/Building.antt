-- The clauses made one by one: what the whole formula comes to is what is left to be said after the clauses made so far. The idea: a
-- clause that closes is placed as its diagram, and the definition goes on with the nodes and the member that this leaves. Assumes nothing.
use mathlib.Core.Path.{◌≡◌, refl, sym, ap, ap₂, ◌∙◌, subst}
use mathlib.Core.Bool.{true, false}
use mathlib.Core.List.{List, [], ◌∷◌, ◌++◌}
use Prim.Native.Nat.{ℕ, suc, ◌+◌, ◌-◌, ◌≤◌, ◌<◌}
use native.Mathlib.Omega.{arith}
use native.Mathlib.Decide.{ℕ_discrete}
use lib.ListN.{length, get_or, set, take, length-set}
use lib.Seq.{take-suc-set, get_or-set_same, get_or-set_other}
use Rattle.meaning.specs.Reduced.{Reduced}
use Rattle.meaning.specs.Operations as meaning
use Rattle.meaning.proofs.Values.{diagram-reduced, reduced-to}
use Rattle.table.specs.Nodes.{Node, Placing, full, placed, place}
use Rattle.table.specs.Indexed.{Table, size, nodes_of, Outcome, written}
use Rattle.meaning.proofs.Booleans.{t≢f}
use Rattle.table.proofs.Numbers.{UsesTo}
use Rattle.table.proofs.Written.{nodes-indexed, length-nodes}
use Rattle.table.proofs.Outcomes.{place_in, Grown, grown}
use Rattle.dimacs.specs.declared.ClosedClause.{ClosedClause}
use Rattle.dimacs.specs.declared.Refusal.{Refusal}
use Rattle.std.specs.Prelude.{None, Some, Ok, Err}
use Rattle.dimacs.specs.Clauses.{Reading, clause, next_clause, clauses_from}
use Rattle.dimacs.specs.Inner.{clause_of}
use Rattle.dimacs.proofs.Formula.{IsClosed, closed_is, ended_is, refused-is, closed-wanted, clauses-closed, clauses-ended, clauses-refused}
use Rattle.dimacs.proofs.Bounds.{NextIn, next-in}
use Rattle.clause.specs.Words.{clause_of_words}
use Rattle.clause.proofs.Literals.{clause-of-words}
use Rattle.verdict.specs.Steps.{emptied, begun}
use Rattle.commands.specs.declared.Mode.{Mode}
use Rattle.verdict.specs.Check.{Verdict, proof_from, refused_formula, clauses}
use Rattle.verdict.proofs.Uses.{place-uses, uses-written}
use Rattle.formula.specs.Formula.{Opened, Built}
use Rattle.formula.proofs.Emptied.{opened-good}
use Rattle.table.proofs.Zeros.{zeros-at}

-- ---- one clause of the definition, by the outcome of its placing

module _ (mode : Mode) (n s : ℕ) (proof : List ℕ) (t : List Node) (ms : List ℕ) (ls : List meaning.Literal) (first : ℕ) (rest : Reading)
  where
    clause-full : (p : Placing) → place s t (meaning.clause n ls) ≡ p → (written s p).full ≡ true
        → clauses mode n s proof t ms (clause ls first rest) ≡ refused_formula 8 first (length (nodes_of (written s p).table))
    unfolding clauses written
    clause-full (full t₁) e f = rw (e, nodes-indexed s t₁)
    clause-full (placed t₁ k) e f = t≢f (sym f)

    clause-placed : (p : Placing) → place s t (meaning.clause n ls) ≡ p → (written s p).full ≡ false
        → clauses mode n s proof t ms (clause ls first rest) ≡ clauses mode n s proof (nodes_of (written s p).table)
        (ms ++ (written s p).node ∷ []) rest
    unfolding clauses written
    clause-placed (full t₁) e f = t≢f f
    clause-placed (placed t₁ k) e f = rw (e, nodes-indexed s t₁)

clause-reduced : (n : ℕ) (ls : List meaning.Literal) → Reduced 1 (suc n) (meaning.clause n ls)
unfolding meaning.clause
clause-reduced n ls = diagram-reduced n (meaning.clause_value ls)

-- ---- the clauses made so far

module _ (n wanted from : ℕ) (formula : List ℕ) (s : ℕ) where
  -- What is to be said of the whole formula with a proof.
  abbrev Whole : Mode → List ℕ → Verdict
  Whole mode proof = clauses mode n s proof emptied [] (clauses_from formula n wanted from)

  -- `made` clauses are made, the next one is looked for at `at`.
  pub record Building (T : Table) (members : List ℕ) (made at : ℕ) : Type 0 where
    pub narrow : n ≤ 64
    pub limit : wanted ≤ 1024
    pub room : 2048 ≤ length members
    pub same_size : size T ≡ s
    pub built : Built n T members made
    pub counted : made ≤ wanted
    pub within : at ≤ length formula
    pub left : (mode : Mode) (proof : List ℕ) → Whole mode proof ≡ clauses mode n s proof (nodes_of T) (take made members)
        (clauses_from formula n (wanted - made) at)

  pub building-start : n ≤ 64 → wanted ≤ 1024 → from ≤ length formula → (T : Table) (members : List ℕ) → size T ≡ s → Opened T members →
      Building T members 0 from
  building-start narrow limit within T members same O =
      let none_made : wanted ≡ wanted - 0 = omega arith in
      let nodes : nodes_of T ≡ emptied = ap nodes_of O.written ∙ nodes-indexed (size T) emptied in
      record {
        narrow = narrow;
        limit = limit;
        room = O.room;
        same_size = same;
        built = record {
          good = opened-good T members O;
          uses = subst (UsesTo n) (sym nodes) (λ k p q. absurd (omega arith));
          inside = λ i p. absurd (omega arith);
          few = omega arith;
          rest = λ i p. ap (λ (xs : List ℕ). get_or xs i 0) O.none ∙ zeros-at (length members) i;
        };
        counted = omega arith;
        within = within;
        left = λ mode proof. ap₂ (λ (t : List Node) (k : ℕ). clauses mode n s proof t [] (clauses_from formula n k from)) (sym nodes)
            none_made;
      }

  module _ (T : Table) (members : List ℕ) (made at : ℕ) (B : Building T members made at) where
    abbrev remaining : ℕ
    remaining = wanted - made

    pub building-end : clause_of (next_clause formula n remaining at) ≡ Ok None → (mode : Mode) (proof : List ℕ)
        → Whole mode proof ≡ proof_from mode n (size T) proof (begun (nodes_of T) (take made members))
    unfolding clauses
    building-end e mode proof =
        B.left mode proof ∙ ap (clauses mode n s proof (nodes_of T) (take made members))
        (clauses-ended formula n remaining at (ended_is (next_clause formula n remaining at) e))
        ∙ ap (λ (k : ℕ). proof_from mode n k proof (begun (nodes_of T) (take made members))) (sym B.same_size)

    pub building-refused : (r : Refusal) → clause_of (next_clause formula n remaining at) ≡ Err r →
        (mode : Mode) (proof : List ℕ)
        → Whole mode proof ≡ refused_formula r.number r.place T.count
    unfolding clauses
    building-refused r e mode proof =
        B.left mode proof ∙ ap (clauses mode n s proof (nodes_of T) (take made members))
        (clauses-refused formula n remaining at r.number r.place (refused-is (next_clause formula n remaining at) r e))
        ∙ ap (refused_formula r.number r.place) (length-nodes T B.built.good)

    module _ (c : ClosedClause) (e : clause_of (next_clause formula n remaining at) ≡ Ok (Some c)) where
      closes : IsClosed (next_clause formula n remaining at) c
      closes = closed_is (next_clause formula n remaining at) c e

      abbrev ls : List meaning.Literal
      ls = closes.list

      pub building-more : made < wanted
      building-more = omega (arith, closed-wanted formula n remaining at ls c.first c.next closes.is)

      inside-text : NextIn formula n (next_clause formula n remaining at)
      inside-text = next-in formula n remaining at B.within

      module _ (o : Outcome) (q : o ≡ place_in T (clause_of_words c.literals)) where
        is-clause : clause_of_words c.literals ≡ meaning.clause n ls
        is-clause =
            ap clause_of_words closes.literals
            ∙ clause-of-words n B.narrow ls (subst (NextIn formula n) closes.is inside-text).2

        placed-is : o ≡ place_in T (meaning.clause n ls)
        placed-is = q ∙ ap (place_in T) is-clause

        placed-s : o ≡ written s (place s (nodes_of T) (meaning.clause n ls))
        placed-s = placed-is ∙ ap (λ (k : ℕ). written k (place k (nodes_of T) (meaning.clause n ls))) B.same_size

        abbrev rest : Reading
        rest = clauses_from formula n (remaining - 1) c.next

        before : (mode : Mode) (proof : List ℕ) → Whole mode proof ≡ clauses mode n s proof (nodes_of T) (take made members)
            (clause ls c.first rest)
        before mode proof =
            B.left mode proof ∙ ap (clauses mode n s proof (nodes_of T) (take made members))
            (clauses-closed formula n remaining at ls c.first c.next closes.is)

        grown-so : Grown T (meaning.clause n ls) o
        grown-so = grown T B.built.good (meaning.clause n ls)
            (reduced-to 1 (suc n) 65 (meaning.clause n ls) (omega (arith, B.narrow)) (clause-reduced n ls)) o placed-is

        pub building-full : o.full ≡ true → (mode : Mode) (proof : List ℕ) → Whole mode proof
            ≡ refused_formula 8 c.first o.table.count
        building-full f mode proof =
            before mode proof
            ∙ clause-full mode n s proof (nodes_of T) (take made members) ls c.first rest (place s (nodes_of T) (meaning.clause n ls)) refl
            (sym (ap (λ (x : Outcome). x.full) placed-s) ∙ f)
            ∙ ap (λ (x : Outcome). refused_formula 8 c.first (length (nodes_of x.table))) (sym placed-s)
            ∙ ap (refused_formula 8 c.first) (length-nodes o.table grown-so.good)

        pub building-next : o.full ≡ false → Building o.table (set members made o.node) (made + 1) c.next
        building-next f =
            let more : made < wanted = building-more in
            let len : length (set members made o.node) ≡ length members = length-set members made o.node in
            let inside : made < length members = omega (arith, B.room, B.limit) in
            let one : made + 1 ≡ suc made = omega arith in
            let less : remaining - 1 ≡ wanted - (made + 1) = omega arith in
            record {
              narrow = B.narrow;
              limit = B.limit;
              room = omega (arith, B.room);
              same_size = grown-so.same_size ∙ B.same_size;
              built = record {
                good = grown-so.good;
                uses = subst (λ (x : Outcome). UsesTo n (nodes_of x.table)) (sym placed-s)
                    (uses-written n s (place s (nodes_of T) (meaning.clause n ls))
                    (place-uses n s (nodes_of T) (meaning.clause n ls) B.built.uses (clause-reduced n ls)));
                inside = λ i p. with-node i (ℕ_discrete i made) p;
                few = omega (arith, B.limit);
                rest = λ i p. get_or-set_other members made i o.node 0 (λ z. absurd (omega arith)) ∙ B.built.rest i (omega arith);
              };
              counted = omega arith;
              within = (subst (NextIn formula n) closes.is inside-text).1;
              left = λ mode proof. before mode proof
                  ∙ clause-placed mode n s proof (nodes_of T) (take made members) ls c.first rest
                  (place s (nodes_of T) (meaning.clause n ls)) refl (sym (ap (λ (x : Outcome). x.full) placed-s) ∙ f)
                  ∙ ap (λ (x : Outcome). clauses mode n s proof (nodes_of x.table) (take made members ++ x.node ∷ []) rest)
                  (sym placed-s)
                  ∙ ap₂ (λ (ms : List ℕ) (k : ℕ). clauses mode n s proof (nodes_of o.table) ms (clauses_from formula n k c.next))
                  (sym (ap (λ (k : ℕ). take k (set members made o.node)) one ∙ take-suc-set members made o.node inside)) less;
            }
          where
            with-node : (i : ℕ) → Dec (i ≡ made) → i < made + 1 → get_or (set members made o.node) i 0 < o.table.count
            with-node i (yes z) p = rw (
              z,
              get_or-set_same members made o.node 0
                  (omega (arith, B.room, B.limit, B.counted, building-more)),
            ) grown-so.inside
            with-node i (no ne) p = rw (get_or-set_other members made i o.node 0 ne)
                (omega (arith, B.built.inside i (omega (arith, ne)), grown-so.more))
