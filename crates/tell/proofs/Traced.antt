-- The turn of a member that is not shown, traced: h is not 1, all finds room, and the propagation is that of the members by not-h. Assumes
-- nothing.
use mathlib.Core.Path.{◌≡◌, refl, sym, ap, ap₂, ◌∙◌}
use mathlib.Core.Bool.{Bool, true, false}
use mathlib.Core.List.{List}
use Prim.Native.Nat.{ℕ, ◌<◌}
use native.Mathlib.Omega.{arith}
use lib.ListN.{length}
use Rattle.meaning.specs.Diagram.{Diagram, leaf, same}
use Rattle.meaning.specs.Operations.{cofactor_literals}
use Rattle.meaning.specs.Rules.{Line, rup, unit_prop}
use Rattle.meaning.specs.Words.{in_word}
use Rattle.meaning.proofs.Booleans.{t≢f}
use Rattle.table.specs.Nodes.{diagram_at}
use Rattle.table.specs.Indexed.{Table, size, nodes_of, Outcome}
use Rattle.table.specs.Making.{Reach, reached}
use Rattle.table.specs.Lists.{diagrams_of, room, Extended}
use Rattle.walks.specs.Readable.{ListReady}
use Rattle.walks.specs.Constant.{one_at}
use Rattle.operate.specs.declared.Operation.TheVariants.{Literals}
use Rattle.operate.specs.Operate.{result}
use Rattle.operate.specs.Inner.{applied}
use Rattle.judge.specs.Lines.{LineSays}
use Rattle.judge.proofs.Fits.{constant-turn, turn-shown, rup-reach}
use Rattle.judge.proofs.Turning.{judged_as, turn-full, turn-judged}
use Rattle.causes.specs.Causes.{fixes}
use Rattle.traces.specs.declared.Traced.{Traced}
use Rattle.causes.specs.Answers.{fixed_as}
use Rattle.why.specs.Lines.{LineTraced}
use Rattle.table.proofs.Outcomes.{Longer, longer, Grown, grown}
use Rattle.operate.proofs.Results.{result-reduced}
use Rattle.table.proofs.Extended.{longer-extended, extended-trans, diagrams-kept}
use Rattle.table.proofs.Outcomes.{dropped_to, undone}
use Rattle.table.proofs.Extended.{extended-longer}
use Rattle.tell.specs.Failed.{Unshown, Fixed, by_not, turn_line, under_witness}

module _ (T : Table) (list memo : List ℕ) (R : ListReady T list memo) (f p n : ℕ) (inside : f < T.count) where
  abbrev ms : List Diagram
  ms = diagrams_of (nodes_of T) list

  abbrev F : Diagram
  F = diagram_at (nodes_of T) f

  module _ (U : Unshown T (turn_line p n ms F)) where
    pub turn-other : one_at (nodes_of T) p n f ≡ false
    unfolding one_at
    turn-other = go (same (cofactor_literals 64 (in_word p) (in_word n) F) (leaf true)) refl
      where
        go : (b : Bool) → same (cofactor_literals 64 (in_word p) (in_word n) F) (leaf true) ≡ b →
            same (cofactor_literals 64 (in_word p) (in_word n) F) (leaf true) ≡ false
        go false e = e
        go true e = t≢f (sym (ap (λ (L : Line). L.shown) (constant-turn 64 (in_word p) (in_word n) ms F e)) ∙ U.unshown)

    module _ (o : Outcome) (e : o ≡ applied T (Literals p n) f 1) where
      pub turn-room : o.full ≡ false
      turn-room = go o.full refl
        where
          go : (b : Bool) → o.full ≡ b → o.full ≡ false
          go false q = q
          go true q = t≢f (sym U.fits ∙ ap (λ (y : Reach). y.fits) (turn-full T list memo R f p n inside turn-other o e q).reaches)

      made : Grown T (cofactor_literals 64 (in_word p) (in_word n) F) o
      unfolding result
      made = grown T R.good (cofactor_literals 64 (in_word p) (in_word n) F) (result-reduced (Literals p n) F (diagram_at (nodes_of T) 1)) o
          e

      long : Longer T o.table
      long = longer T (cofactor_literals 64 (in_word p) (in_word n) F) o made

      list_same : diagrams_of (nodes_of o.table) list ≡ ms
      list_same = diagrams-kept T o.table long list R.inside

      root-same : diagram_at (nodes_of o.table) o.node ≡ under_witness p n F
      root-same = made.is turn-room

      abbrev ms₁ : List Diagram
      ms₁ = diagrams_of (nodes_of o.table) list

      abbrev root₁ : Diagram
      root₁ = diagram_at (nodes_of o.table) o.node

      pub turn-grown : Extended T o.table
      turn-grown = longer-extended T o.table long

      pub turn-calm : (unit_prop 64 (by_not root₁ ms₁)).conflict ≡ false
      unfolding rup one_at
      turn-calm =
          ap₂ (λ (g : Diagram) (ds : List Diagram). (unit_prop 64 (by_not g ds)).conflict) root-same list_same
          ∙ sym (turn-shown 64 (in_word p) (in_word n) ms F turn-other) ∙ U.unshown

      module _ (r : Traced) (T₁ : Table) (words : List ℕ) (L : LineTraced o.table ms₁ root₁ r T₁ words) where
        not_full : r.full ≡ false
        not_full = go r.full refl
          where
            go : (b : Bool) → r.full ≡ b → r.full ≡ false
            go false q = q
            go true q =
                let S : LineSays o.table (rup 64 ms₁ root₁) 64 (judged_as true false 0 0 (length (nodes_of T₁))) T₁ = record {
                  extended = L.extended;
                  reaches = rup-reach (size o.table) (nodes_of o.table) 64 ms₁ root₁
                      ∙ ap reached (L.places ∙ ap (λ (b : Bool). room b (nodes_of T₁)) q);
                  shown = λ z. t≢f z;
                  rounds = λ z. t≢f z;
                  most = omega arith;
                } in
                t≢f (sym U.fits ∙ ap (λ (y : Reach). y.fits)
                (turn-judged T list memo R f p n inside turn-other o e turn-room (judged_as true false 0 0 (length (nodes_of T₁))) T₁ S
                ).reaches)

        pub turn-fixed : Fixed (by_not (under_witness p n F) ms) r.rounds words
        turn-fixed = record {
          rounds-are = L.rounds not_full ∙ ap₂ (λ (g : Diagram) (ds : List Diagram). length (fixes 64 (by_not g ds))) root-same list_same;
          words_are = L.fixed not_full ∙ ap₂ (λ (g : Diagram) (ds : List Diagram). fixed_as (length words) (fixes 64 (by_not g ds)))
              root-same list_same;
        }

        pub turn-undone : (T₂ : Table) → T₂ ≡ dropped_to T.count T₁ → T₂ ≡ T
        turn-undone T₂ q = q ∙ undone T R.good T₁
            (extended-longer T T₁ R.good (extended-trans T o.table T₁ R.good turn-grown L.extended))

        pub turn_more : Extended T T₁
        turn_more = extended-trans T o.table T₁ R.good turn-grown L.extended
