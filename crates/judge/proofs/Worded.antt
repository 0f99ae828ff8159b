-- The words of lists and roots, kept while the table grows, and given on from what the walks found. Assumes nothing.
use mathlib.Core.Path.{◌≡◌, sym, subst}
use mathlib.Core.List.{List}
use Prim.Native.Nat.{ℕ, ◌<◌}
use native.Mathlib.Omega.{arith}
use lib.ListN.{length, get_or}
use Rattle.meaning.specs.Reduced.{Reduced}
use Rattle.meaning.specs.Operations.{negation, cofactor_literals}
use Rattle.meaning.specs.Words.{in_word}
use Rattle.table.specs.Nodes.{diagram_at}
use Rattle.table.specs.Indexed.{Table, nodes_of, Good}
use Rattle.table.proofs.Written.{length-nodes, good-ordered}
use Rattle.table.proofs.Numbers.{diagram_at-reduced}
use Rattle.table.proofs.Outcomes.{Longer}
use Rattle.supports.specs.Supports.{Support, Supports}
use Rattle.meaning.proofs.Uses.{negation-uses, literals-uses}
use Rattle.table.specs.Lists.{Inside}
use Rattle.judge.specs.Lines.{Worded}

-- ---- what is made of a node

module _ (T : Table) (G : Good T) (g : ℕ) (inside : g < T.count) (word : ℕ) (has : Support word (diagram_at (nodes_of T) g)) where
  reduced : Reduced 1 65 (diagram_at (nodes_of T) g)
  reduced = diagram_at-reduced (nodes_of T) (good-ordered T G) g (omega (arith, length-nodes T G))

  pub negation-has : Support word (negation 64 (diagram_at (nodes_of T) g))
  unfolding Support
  negation-has = negation-uses 64 (in_word word) (diagram_at (nodes_of T) g) reduced has

  pub literals-has : (p n : ℕ) → Support word (cofactor_literals 64 (in_word p) (in_word n) (diagram_at (nodes_of T) g))
  unfolding Support
  literals-has p n = literals-uses 64 (in_word p) (in_word n) (in_word word) (diagram_at (nodes_of T) g) reduced has

-- ---- lists

pub supports-longer : (T T' : Table) → Longer T T' → (list words : List ℕ) → Inside T.count list → Supports (nodes_of T) list words →
    Supports (nodes_of T') list words
unfolding Supports
supports-longer T T' L list words inside S i p = subst (Support (get_or words i 0)) (sym (L.kept (get_or list i 0) (inside i p))) (S i p)

-- a member's turn over the first list
pub member-worded : (T : Table) (members words first firstwords : List ℕ) (i : ℕ) → i < length members →
    Supports (nodes_of T) members words → length firstwords ≡ length first
    → Supports (nodes_of T) first firstwords → Worded T first firstwords (get_or members i 0) (get_or words i 0)
unfolding Supports
member-worded T members words first firstwords i p M len F = record { lengths = len; have = F; has = M i p }

pub worded-again : (T T' : Table) (list words : List ℕ) (g word : ℕ) → T' ≡ T → Worded T list words g word → Worded T' list words g word
worded-again T T' list words g word e W = subst (λ (t : Table). Worded t list words g word) (sym e) W
