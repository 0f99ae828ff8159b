-- The cause of a path line over the header's n variables is that over 64, which the code works with: path after path. Assumes nothing.
use mathlib.Core.Path.{◌≡◌, refl, sym, ap₂}
use mathlib.Core.List.{List, [], ◌∷◌}
use Prim.Native.Nat.{ℕ, suc, ◌≤◌}
use native.Mathlib.Omega.{arith}
use lib.ListN.{take}
use Rattle.meaning.specs.Diagram.{Diagram}
use Rattle.meaning.specs.Operations.{Literal}
use Rattle.meaning.proofs.Pointwise.{literals-reduced}
use Rattle.meaning.proofs.PointwiseSteps.{literals-width}
use Rattle.meaning.proofs.Ends.{AllReduced, map-reduced}
use Rattle.meaning.proofs.Widths.{unit_prop-width}
use Rattle.clausal.specs.Tries.{makes_true, makes_false}
use Rattle.paths.specs.Paths.{paths, by_path}
use Rattle.table.specs.Indexed.{Table, nodes_of}
use Rattle.table.specs.Lists.{diagrams_of, Inside}
use Rattle.table.proofs.Numbers.{reduced-to}
use Rattle.table.proofs.Written.{length-nodes, good-ordered}
use Rattle.verdict.specs.Steps as check
use Rattle.verdict.specs.Steps.{live_members, unstruck}
use Rattle.state.specs.declared.State.{State}
use Rattle.state.specs.States.{Lent, table_in, state_of, Held}
use Rattle.causes.specs.Causes.{path_fails, path_cause}
use Rattle.why.proofs.Widths.{fixes-width}
use Rattle.tell.proofs.Refused.{live_inside}

module _ (m n : ℕ) (more : m ≤ n) where
  by_width : (c : List Literal) (ms : List Diagram) → AllReduced m ms → by_path n c ms ≡ by_path m c ms
  by_width c [] o = refl
  by_width c (f ∷ fs) o = ap₂ ◌∷◌ (literals-width m n more (makes_true c) (makes_false c) f o.0) (by_width c fs o.1)

  by-reduced : (c : List Literal) (ms : List Diagram) → AllReduced m (by_path m c ms)
  by-reduced c ms = map-reduced m _ ms (λ f. literals-reduced m (makes_true c) (makes_false c) f)

  fails-width : (ms : List Diagram) → AllReduced m ms → (cs : List (List Literal)) → path_fails n ms cs ≡ path_fails m ms cs
  unfolding path_fails
  fails-width ms o [] = refl
  fails-width ms o (c ∷ cs) =
      rw (
        by_width c ms o,
        unit_prop-width m n more (by_path m c ms) (by-reduced c ms),
        fixes-width m n more (by_path m c ms) (by-reduced c ms),
        fails-width ms o cs,
      )

  cause-width : (ms : List Diagram) → AllReduced m ms → (g : Diagram) → path_cause n ms g ≡ path_cause m ms g
  unfolding path_cause
  cause-width ms o g = fails-width ms o (paths g)

module _ (n : ℕ) (L : Lent) (x : State) (H : Held n L x) where
  abbrev T : Table
  T = table_in L x.count

  abbrev S : check.State
  S = state_of L x

  all-reduced : (ks : List ℕ) → Inside x.count ks → AllReduced n (diagrams_of (nodes_of T) ks)
  all-reduced [] inside = tt
  all-reduced (k ∷ ks) inside = (
    reduced-to n (nodes_of T) (good-ordered T H.entries.good) H.entries.uses k
        (omega (arith, length-nodes T H.entries.good, inside 0 (omega arith))),
    all-reduced ks (λ i p. inside (suc i) (omega arith)),
  )

  -- THEOREM: of a path line of the state held.
  pub path-cause-is : (g : Diagram) → path_cause n (live_members S) g ≡ path_cause 64 (live_members S) g
  path-cause-is g = sym (cause-width n 64 H.entries.narrow (live_members S)
      (all-reduced (unstruck (take x.members L.struck) (take x.members L.members)) (live_inside n L x H)) g)
