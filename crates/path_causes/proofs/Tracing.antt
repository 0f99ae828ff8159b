-- A turn that finds room and is not shown, traced. The idea: neither the members by the literals nor their propagation is `full`, since
-- the turn would then find no room. Assumes nothing.
use mathlib.Core.Path.{◌≡◌, refl, sym, ap, ◌∙◌, subst}
use mathlib.Core.Bool.{Bool, true, false}
use mathlib.Core.List.{List}
use Prim.Native.Nat.{ℕ}
use native.Mathlib.Omega.{arith}
use lib.ListN.{length}
use Rattle.meaning.specs.Diagram.{Diagram}
use Rattle.meaning.specs.Rules.{unit_prop}
use Rattle.meaning.proofs.Booleans.{t≢f}
use Rattle.words.specs.declared.Literals.{Literals}
use Rattle.table.specs.Indexed.{Table, nodes_of, Good}
use Rattle.table.specs.Making.{Reach}
use Rattle.table.specs.Lists.{diagrams_of, Extended, room}
use Rattle.table.proofs.Outcomes.{dropped_to, undone}
use Rattle.table.proofs.Extended.{extended-longer, extended-trans}
use Rattle.operate.specs.Operate.{result}
use Rattle.members.specs.Made.{AllMade}
use Rattle.propagate.specs.declared.Propagated.{Propagated}
use Rattle.propagate.specs.Rounds.{unit_results, Said}
use Rattle.path_lines.specs.Turns.{by_words, turn_by}
use Rattle.path_lines.proofs.Turning.{turn-full, turn-judged}
use Rattle.causes.specs.Causes.{fixes}
use Rattle.causes.specs.Answers.{fixed_as}
use Rattle.traces.specs.declared.Traced.{Traced}
use Rattle.traces.specs.Traced.{TraceSays}
use Rattle.tell.specs.Failed.{Unshown, Fixed}
use Rattle.path_causes.specs.Failing.{FirstFailing, PathTold}
use Rattle.path_causes.proofs.Passing.{turn-shown}

module _ (T : Table) (good : Good T) (members : List ℕ) (u : Literals) where
  abbrev ms : List Diagram
  ms = diagrams_of (nodes_of T) members

  module _ (U : Unshown T (turn_by u ms)) (full : Bool) (T₁ : Table) (list : List ℕ) (M : AllMade T (unit_results u T members) full T₁ list)
    where
      pub made-room : full ≡ false
      made-room = go full refl M
        where
          go : (b : Bool) → full ≡ b → AllMade T (unit_results u T members) b T₁ list → full ≡ false
          go false e A = e
          go true e A = t≢f (sym U.fits ∙ ap (λ (x : Reach). x.fits) (turn-full T good members u T₁ list A).reaches)

      pub made : AllMade T (unit_results u T members) false T₁ list
      made = subst (λ (b : Bool). AllMade T (unit_results u T members) b T₁ list) made-room M

      made-are : diagrams_of (nodes_of T₁) list ≡ by_words u ms
      unfolding result
      made-are = made.are refl

      pub calm : (unit_prop 64 (diagrams_of (nodes_of T₁) list)).conflict ≡ false
      calm = ap (λ (ds : List Diagram). (unit_prop 64 ds).conflict) made-are ∙ sym (turn-shown u ms) ∙ U.unshown

      module _ (r : Traced) (T₂ : Table) (words : List ℕ) (S : TraceSays T₁ (diagrams_of (nodes_of T₁) list) r T₂ words) where
        traced-room : r.full ≡ false
        traced-room = go r.full refl
          where
            short : Propagated
            short = record { full = true; conflict = false; rounds = 0; count = T₂.count }

            go : (b : Bool) → r.full ≡ b → r.full ≡ false
            go false e = e
            go true e =
                let no_room : Said T₁ (unit_prop 64 (diagrams_of (nodes_of T₁) list)) short T₂ = record {
                  extended = S.extended;
                  places = S.places ∙ ap (λ (b : Bool). room b (nodes_of T₂)) e;
                  conflict = λ z. t≢f z;
                  rounds = λ z. t≢f z;
                  most = omega arith;
                } in
                t≢f (sym U.fits ∙ ap (λ (x : Reach). x.fits)
                (turn-judged T good members u T₁ list made short T₂ no_room refl).reaches)

        pub traced-more : Extended T T₂
        traced-more = extended-trans T T₁ T₂ good made.extended S.extended

        pub traced-fixed : Fixed (by_words u ms) r.rounds words
        traced-fixed = record {
          rounds-are = S.rounds traced-room ∙ ap (λ (ds : List Diagram). length (fixes 64 ds)) made-are;
          words_are = S.fixed traced-room ∙ ap (λ (ds : List Diagram). fixed_as (length words) (fixes 64 ds)) made-are;
        }

-- the nodes of a trace dropped
pub trace-undone : (T T₁ T₂ : Table) → Good T → Extended T T₁ → T₂ ≡ dropped_to T.count T₁ → T₂ ≡ T
trace-undone T T₁ T₂ good E e = e ∙ undone T good T₁ (extended-longer T T₁ good E)

-- what is told of the failing path
pub told_of : (T : Table) (ms : List Diagram) (g : Diagram) (u : Literals) (rounds : ℕ) (words : List ℕ) → FirstFailing T ms g u
    → Fixed (by_words u ms) rounds words → PathTold ms g rounds words
told_of T ms g u rounds words F X = record {
  literals = fixes 64 (by_words u ms);
  cause = F.cause;
  rounds-are = X.rounds-are;
  words_are = X.words_are;
}
