-- A path line does not depend on the number of variables, as long as none in use exceeds it. Assumes nothing.
use mathlib.Core.Path.{◌≡◌, refl, ap₂}
use mathlib.Core.List.{List, [], ◌∷◌}
use Prim.Native.Nat.{ℕ, ◌≤◌}
use Rattle.meaning.specs.Diagram.{Diagram}
use Rattle.meaning.specs.Operations.{Literal}
use Rattle.meaning.proofs.Pointwise.{literals-reduced}
use Rattle.meaning.proofs.PointwiseSteps.{literals-width}
use Rattle.meaning.proofs.Ends.{AllReduced, map-reduced}
use Rattle.meaning.proofs.Widths.{unit_prop-width}
use Rattle.clausal.specs.Tries.{makes_true, makes_false}
use Rattle.paths.specs.Paths.{paths, by_path, path_turns, path_line}

module _ (m n : ℕ) (more : m ≤ n) where
  by_path-width : (c : List Literal) (ms : List Diagram) → AllReduced m ms → by_path n c ms ≡ by_path m c ms
  by_path-width c [] o = refl
  by_path-width c (f ∷ fs) o = ap₂ ◌∷◌ (literals-width m n more (makes_true c) (makes_false c) f o.0) (by_path-width c fs o.1)

  pub turns-width : (ms : List Diagram) → AllReduced m ms → (cs : List (List Literal)) → path_turns n ms cs ≡ path_turns m ms cs
  unfolding path_turns
  turns-width ms o [] = refl
  turns-width ms o (c ∷ cs) =
      rw (
        by_path-width c ms o,
        unit_prop-width m n more (by_path m c ms) (map-reduced m _ ms (λ f. literals-reduced m (makes_true c) (makes_false c) f)),
        turns-width ms o cs,
      )

  pub path-width : (ms : List Diagram) → AllReduced m ms → (g : Diagram) → path_line n ms g ≡ path_line m ms g
  unfolding path_line
  path-width ms o g = rw (turns-width ms o (paths g))
