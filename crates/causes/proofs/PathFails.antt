-- The literals that are named for a path line that is not shown are those of the first path whose propagation does not conflict. The idea:
-- path after path, as the turns go. Assumes nothing.
use mathlib.Core.Path.{◌≡◌, refl, ap}
use mathlib.Core.Bool.{Bool, true, false, ◌&&◌, cond}
use mathlib.Core.List.{List, [], ◌∷◌}
use mathlib.Core.Option.{none}
use Prim.Native.Nat.{ℕ}
use Rattle.meaning.specs.Diagram.{Diagram}
use Rattle.meaning.specs.Operations.{Literal}
use Rattle.meaning.specs.Rules.{unit_prop, after_turn}
use Rattle.meaning.proofs.Booleans.{t≢f}
use Rattle.paths.specs.Paths.{by_path, path_turns}
use Rattle.clausal.specs.Tries.{makes_true, makes_false}
use Rattle.meaning.proofs.Pointwise.{literals-reduced}
use Rattle.meaning.proofs.Ends.{map-reduced}
use Rattle.causes.specs.Causes.{Cause, fixed, fixes, path_fails}
use Rattle.causes.specs.Shows.{PathFails}
use Rattle.causes.proofs.Fixes.{fixes-so}

module _ (n : ℕ) (ms : List Diagram) where
  -- A path, and what is known of those that follow it.
  abbrev pub Found : List (List Literal) → Type 0
  Found cs = (rounds : List (List Literal)) × (path_fails n ms cs ≡ fixed rounds none) × PathFails n ms cs rounds

  -- THEOREM: where the paths are not all shown, the literals fixed are those of the first that is not.
  pub path-so : (cs : List (List Literal)) → (path_turns n ms cs).shown ≡ false → Found cs
  unfolding path_turns after_turn path_fails
  path-so [] e = t≢f e
  path-so (c ∷ cs) e = go (unit_prop n (by_path n c ms)).conflict refl e (path-so cs)
    where
      chosen : Bool → Cause
      chosen b = cond b (path_fails n ms cs) (fixed (fixes n (by_path n c ms)) none)

      go : (b : Bool) → (unit_prop n (by_path n c ms)).conflict ≡ b → (b && (path_turns n ms cs).shown) ≡ false
          → ((path_turns n ms cs).shown ≡ false → Found cs)
          → (rounds : List (List Literal)) × (chosen b ≡ fixed rounds none) × PathFails n ms (c ∷ cs) rounds
      go false q f rec = (
        fixes n (by_path n c ms),
        refl,
        record {
          before = [];
          path = c;
          after = cs;
          parts = refl;
          fixes =
              fixes-so n (by_path n c ms) (map-reduced n _ ms (λ f. literals-reduced n (makes_true c) (makes_false c) f)) q;
          shown = refl;
        },
      )
      go true q f rec =
          let (rounds, is, so) = rec f in (
            rounds,
            is,
            record {
              before = c ∷ so.before;
              path = so.path;
              after = so.after;
              parts = ap (◌∷◌ c) so.parts;
              fixes =
                  so.fixes;
              shown = both so.before so.shown;
            },
          )
        where
          both : (before : List (List Literal)) → (path_turns n ms before).shown ≡ true → (path_turns n ms (c ∷ before)).shown ≡ true
          both before h = rw q h
