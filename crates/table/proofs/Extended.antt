-- A table that others extend keeps its nodes' diagrams, and what extends an extension extends the table. Assumes nothing.
use Rattle.std.proofs.Common.{◌≡◌, ℕ, suc, List, [], ◌∷◌, ◌++◌, drop, sym, refl, ap, ◌∙◌, ap₂, arith, take-append-drop}
use Rattle.table.specs.Nodes.{Node}
use Rattle.table.specs.Indexed.{Table, nodes_of, Good}
use Rattle.table.specs.Lists.{diagrams_of, Inside, Extended}
use Rattle.table.proofs.Written.{length-nodes, good-ordered}
use Rattle.table.proofs.Growth.{Extends, diagram_at-grown}
use Rattle.table.proofs.Outcomes.{Longer, longer-same, longer-trans}

pub longer-extended : (T T' : Table) → Longer T T' → Extended T T'
longer-extended T T' L = record { good = L.good; same_size = L.same_size; more = L.more; first = L.first }

pub extended-longer : (T T' : Table) → Good T → Extended T T' → Longer T T'
extended-longer T T' G E =
    let X : Extends (nodes_of T) (nodes_of T') = (
      drop T.count (nodes_of T'),
      sym (take-append-drop T.count (nodes_of T'))
          ∙ ap (λ (u : List Node). u ++ drop T.count (nodes_of T')) E.first,
    ) in
    record {
      good = E.good;
      same_size = E.same_size;
      more = E.more;
      kept = λ k p. diagram_at-grown (nodes_of T) (nodes_of T') (good-ordered T G) X k (omega (arith, length-nodes T G));
      first = E.first;
    }

pub extended-same : (T : Table) → Good T → Extended T T
extended-same T G = longer-extended T T (longer-same T G)

pub extended-trans : (T T' T'' : Table) → Good T → Extended T T' → Extended T' T'' → Extended T T''
extended-trans T T' T'' G E F = longer-extended T T'' (longer-trans T T' T'' (extended-longer T T' G E) (extended-longer T' T'' E.good F))

-- the listed nodes keep their diagrams
pub diagrams-kept : (T T' : Table) → Longer T T' → (list : List ℕ) → Inside T.count list → diagrams_of (nodes_of T') list
    ≡ diagrams_of (nodes_of T) list
diagrams-kept T T' L [] h = refl
diagrams-kept T T' L (k ∷ ks) h = ap₂ ◌∷◌ (L.kept k (h 0 (omega arith))) (diagrams-kept T T' L ks (λ i p. h (suc i) (omega arith)))
