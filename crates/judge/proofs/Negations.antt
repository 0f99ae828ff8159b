-- The negation of a node, and the members by it. The idea: the negation of what is not 1 is not 0, so that it can be cofactored by,
-- and one list placed after another is both placed. Assumes nothing.
use mathlib.Core.Path.{◌≡◌, refl, sym, ap, ap₂, ◌∙◌, subst}
use mathlib.Core.Logic.{◌≢◌}
use mathlib.Core.Bool.{Bool, true, false}
use mathlib.Core.List.{List}
use Prim.Native.Nat.{ℕ, ◌<◌}
use native.Mathlib.Omega.{arith}
use lib.ListN.{length}
use Rattle.meaning.specs.Diagram.{Diagram, leaf}
use Rattle.meaning.specs.Operations.{negation}
use Rattle.meaning.specs.Rules.{by_diagram}
use Rattle.meaning.proofs.Booleans.{t≢f}
use Rattle.meaning.proofs.LineWidths.{negation-some}
use Rattle.table.specs.Nodes.{diagram_at}
use Rattle.table.specs.Indexed.{Table, size, nodes_of, Good, Outcome}
use Rattle.table.proofs.Written.{length-nodes, good-ordered}
use Rattle.table.proofs.Numbers.{diagram_at-zero, diagram_at-one, diagram_at-injective, diagram_at-reduced}
use Rattle.table.proofs.Outcomes.{Longer, longer, Grown, grown}
use Rattle.operate.specs.declared.Operation.TheVariants.{Negation, Cofactor}
use Rattle.operate.specs.Operate.{result}
use Rattle.operate.specs.Inner.{applied, Allowed, MemoRight, Ready}
use Rattle.operate.proofs.Results.{result-reduced}
use Rattle.table.specs.Making.{placed_all}
use Rattle.supports.specs.Supports.{Support, Supports}
use Rattle.walks.specs.Readable.{ListReady}
use Rattle.table.specs.Lists.{diagrams_of}
use Rattle.members.specs.Made.{results, AllMade}
use Rattle.table.proofs.PlacedAll.{first-full, first-placed}
use Rattle.table.proofs.Extended.{longer-extended, extended-trans, diagrams-kept}
use Rattle.judge.specs.Lines.{Negatable, Worded, ByNegation}
use Rattle.judge.proofs.Worded.{negation-has, supports-longer}

-- A number that is not 1 has not the diagram 1.
pub not-one : (T : Table) → Good T → (g : ℕ) → g < T.count → (g ≡ 1 → ⊥) → diagram_at (nodes_of T) g ≢ leaf true
not-one T G g inside ne e =
    ne (diagram_at-injective (nodes_of T) (good-ordered T G) g 1 (omega (arith, length-nodes T G))
    (omega (arith, length-nodes T G, G.least))
    (e ∙ sym (diagram_at-one (nodes_of T))))

module _ (T : Table) (list memo : List ℕ) (g : ℕ) (R : Negatable T list memo g) where
  pub negation-ready : (memo' : List ℕ) → MemoRight Negation memo' T → Ready Negation memo' T g 1
  negation-ready memo' right =
      record {
        operands = record {
          good = R.ready.good;
          f-inside = R.inside;
          g_inside = omega (arith, R.ready.good.least);
          allowed = refl;
        };
        right = right;
      }

  module _ (o : Outcome) (e : o ≡ applied T Negation g 1) where
    made : Grown T (negation 64 (diagram_at (nodes_of T) g)) o
    unfolding result
    made = grown T R.ready.good (negation 64 (diagram_at (nodes_of T) g))
        (result-reduced Negation (diagram_at (nodes_of T) g) (diagram_at (nodes_of T) 1)) o e

    long : Longer T o.table
    long = longer T (negation 64 (diagram_at (nodes_of T) g)) o made

    -- not-g found no room
    pub negation-full : o.full ≡ true → (list' : List ℕ) → ByNegation T (diagrams_of (nodes_of T) list) (diagram_at (nodes_of T) g) true
        o.table list'
    unfolding result
    negation-full f list' =
        record {
          extended = longer-extended T o.table long;
          places = first-full (size T) (nodes_of T) (negation 64 (diagram_at (nodes_of T) g))
              (by_diagram 64 (negation 64 (diagram_at (nodes_of T) g)) (diagrams_of (nodes_of T) list)) o e f;
          inside = λ q. t≢f q;
          are = λ q. t≢f q;
        }

    module _ (f : o.full ≡ false) where
      not-zero : o.node ≡ 0 → ⊥
      not-zero z =
          negation-some 64 (diagram_at (nodes_of T) g)
          (diagram_at-reduced (nodes_of T) (good-ordered T R.ready.good) g
          (omega (arith, length-nodes T R.ready.good, R.inside)))
          (not-one T R.ready.good g R.inside R.not-one)
          (sym (made.is f) ∙ ap (diagram_at (nodes_of o.table)) z ∙ diagram_at-zero (nodes_of o.table))

      -- the members can be cofactored by it
      pub cofactors-ready : (memo' : List ℕ) → length memo' ≡ length memo → ListReady o.table list memo' × (o.node < o.table.count)
          × Allowed Cofactor o.node
      cofactors-ready memo' len = (
        record {
          good = made.good;
          inside = λ i p. omega (arith, made.more, R.ready.inside i p);
          room = omega (arith, R.ready.room, made.same_size);
        },
        made.inside,
        not-zero,
      )

      -- and the words are as before, with g's for not-g
      pub negation-words : (words : List ℕ) (word : ℕ) → Worded T list words g word
          → (length words ≡ length list) × Supports (nodes_of o.table) list words
          × Support word (diagram_at (nodes_of o.table) o.node)
      negation-words words word W = (
        W.lengths,
        supports-longer T o.table long list words R.ready.inside W.have,
        subst (Support word) (sym (made.is f)) (negation-has T R.ready.good g R.inside word W.has),
      )

      cofactors : results Cofactor o.table list o.node ≡ by_diagram 64 (negation 64 (diagram_at (nodes_of T) g))
          (diagrams_of (nodes_of T) list)
      unfolding result
      cofactors =
          ap₂ (λ (h : Diagram) (ms : List Diagram). by_diagram 64 h ms) (made.is f)
          (diagrams-kept T o.table long list R.ready.inside)

      pub cofactors-made : (full : Bool) (T' : Table) (list' : List ℕ) →
          AllMade o.table (results Cofactor o.table list o.node) full T' list'
          → ByNegation T (diagrams_of (nodes_of T) list) (diagram_at (nodes_of T) g) full T' list'
      unfolding result
      cofactors-made full T' list' A =
          record {
            extended = extended-trans T o.table T' R.ready.good (longer-extended T o.table long) A.extended;
            places =
                first-placed (size T) (nodes_of T) (negation 64 (diagram_at (nodes_of T) g))
                (by_diagram 64 (negation 64 (diagram_at (nodes_of T) g)) (diagrams_of (nodes_of T) list)) o e f
                ∙ ap₂ (λ (s : ℕ) (Ds : List Diagram). placed_all s (nodes_of o.table) Ds) (sym made.same_size) (sym cofactors)
                ∙ A.places;
            inside = A.inside;
            are = λ q. A.are q ∙ cofactors;
          }
