-- A line judged once more: the members by not-g, then the trace. Assumes nothing.
use mathlib.Core.Path.{◌≡◌, refl, sym, ap, ap₂, ◌∙◌}
use mathlib.Core.Bool.{true, false}
use mathlib.Core.List.{List}
use Prim.Native.Nat.{ℕ}
use lib.ListN.{length}
use Rattle.meaning.specs.Diagram.{Diagram}
use Rattle.meaning.specs.Operations.{negation}
use Rattle.meaning.specs.Rules.{by_diagram, base, unit_prop}
use Rattle.meaning.proofs.Booleans.{t≢f}
use Rattle.table.specs.Indexed.{Table, size, nodes_of, Good}
use Rattle.table.specs.Making.{placed_all}
use Rattle.table.specs.Lists.{diagrams_of}
use Rattle.table.proofs.PlacedAll.{placed-short, placed-then}
use Rattle.table.proofs.Extended.{extended-trans}
use Rattle.judge.specs.Lines.{ByNegation}
use Rattle.causes.specs.Causes.{fixes}
use Rattle.traces.specs.declared.Traced.{Traced}
use Rattle.causes.specs.Answers.{fixed_as}
use Rattle.traces.specs.Traced.{TraceSays}
use Rattle.why.specs.Lines.{LineTraced}

module _ (T : Table) (G : Good T) (ms : List Diagram) (g : Diagram) (T₁ : Table) (list : List ℕ) where
  abbrev by : List Diagram
  by = by_diagram 64 (negation 64 g) ms

  pub traced-full : ByNegation T ms g true T₁ list → (words : List ℕ) →
      LineTraced T ms g (record { full = true; rounds = 0; count = T₁.count }) T₁ words
  traced-full B words =
      record {
        extended = B.extended;
        places = placed-short (size T) (nodes_of T) (base 64 ms g) (unit_prop 64 by).made (nodes_of T₁) B.places;
        rounds = λ z. t≢f z;
        fixed = λ z. t≢f z;
      }

  pub traced-by : ByNegation T ms g false T₁ list → (r : Traced) (T₂ : Table) (words : List ℕ) →
      TraceSays T₁ (diagrams_of (nodes_of T₁) list) r T₂ words → LineTraced T ms g r T₂ words
  traced-by B r T₂ words S =
      let are : diagrams_of (nodes_of T₁) list ≡ by = B.are refl in
      record {
        extended = extended-trans T T₁ T₂ G B.extended S.extended;
        places =
            placed-then (size T) (nodes_of T) (base 64 ms g) (unit_prop 64 by).made (nodes_of T₁) B.places
            ∙ ap₂ (λ (s : ℕ) (ds : List Diagram). placed_all s (nodes_of T₁) (unit_prop 64 ds).made) (sym B.extended.same_size) (sym are)
            ∙ S.places;
        rounds = λ z. S.rounds z ∙ ap (λ (ds : List Diagram). length (fixes 64 ds)) are;
        fixed = λ z. S.fixed z ∙ ap (λ (ds : List Diagram). fixed_as (length words) (fixes 64 ds)) are;
      }
