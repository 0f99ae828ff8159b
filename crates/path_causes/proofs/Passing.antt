-- The turns of a path line one after another, up to the first that does not conflict. The idea: the cause is that of the paths which are
-- left; a line that is not shown has one, and a line that finds room has turns that do. Assumes nothing.
use mathlib.Core.Path.{◌≡◌, refl, sym, ap, ◌∙◌}
use mathlib.Core.Bool.{Bool, true, false, not, cond}
use mathlib.Core.List.{List, [], ◌∷◌}
use mathlib.Core.Option.{none}
use Prim.Native.Nat.{ℕ, suc, ◌+◌, ◌≤◌, ◌<◌, max}
use native.Mathlib.Numerals.{add-one}
use lib.ListN.{length, get_or, drop, drop_of_length-le}
use lib.Seq.{drop-cons}
use Rattle.meaning.specs.Diagram.{Diagram}
use Rattle.meaning.specs.Operations.{Literal}
use Rattle.meaning.specs.Rules.{unit_prop}
use Rattle.meaning.proofs.Booleans.{t≢f, and-true}
use Rattle.words.specs.declared.Literals.{Literals}
use Rattle.words.specs.Sets.{no_literals}
use Rattle.table.specs.Nodes.{diagram_at}
use Rattle.table.specs.Indexed.{Table, nodes_of, Good}
use Rattle.table.specs.Making.{Reach}
use Rattle.table.specs.Lists.{diagrams_of}
use Rattle.judge.specs.declared.Judged.{Judged}
use Rattle.judge.specs.Lines.{LineSays}
use Rattle.paths.specs.declared.NextPath.{NextPath}
use Rattle.paths.specs.Paths.{paths, by_path, path_turns, path_line, path_count}
use Rattle.paths.specs.Walk.{after_from, no_path}
use Rattle.paths.proofs.Sequence.{by-words}
use Rattle.path_lines.specs.Turns.{by_words, turn_by}
use Rattle.path_lines.proofs.Turning.{Turning, Next, turning-none, next-after, rises, turns-full, turns-on}
use Rattle.causes.specs.Causes.{fixed, fixes, path_fails, path_cause}
use Rattle.tell.specs.Failed.{Unshown}
use Rattle.path_causes.specs.Failing.{FirstFailing}

-- ---- one path and those after it

module _ (n : ℕ) (ms : List Diagram) where
  cause-is : (g : Diagram) → path_cause n ms g ≡ path_fails n ms (paths g)
  unfolding path_cause
  cause-is g = refl

  shown-is : (g : Diagram) → (path_line n ms g).shown ≡ (path_turns n ms (paths g)).shown
  unfolding path_line
  shown-is g = refl

  none-shown : (path_turns n ms []).shown ≡ true
  unfolding path_turns
  none-shown = refl

  module _ (c : List Literal) (cs : List (List Literal)) where
    chosen : (b : Bool) → (unit_prop n (by_path n c ms)).conflict ≡ b →
        path_fails n ms (c ∷ cs) ≡ cond b (path_fails n ms cs) (fixed (fixes n (by_path n c ms)) none)
    unfolding path_fails
    chosen b e = ap (λ (x : Bool). cond x (path_fails n ms cs) (fixed (fixes n (by_path n c ms)) none)) e

-- the turn of a path by its words
pub turn-shown : (u : Literals) (ms : List Diagram) → (turn_by u ms).shown ≡ (unit_prop 64 (by_words u ms)).conflict
unfolding turn_by
turn-shown u ms = and-true (unit_prop 64 (by_words u ms)).conflict

-- ---- all paths

module _ (T : Table) (members : List ℕ) (root : ℕ) where
  abbrev ms : List Diagram
  ms = diagrams_of (nodes_of T) members

  abbrev G : Diagram
  G = diagram_at (nodes_of T) root

  abbrev cs : List (List Literal)
  cs = paths G

  -- The turns of the first i paths conflicted: the cause is that of the others.
  pub record Passing (i : ℕ) : Type 0 where
    pub rounds : ℕ
    pub peak : ℕ
    pub turning : Turning T members root i rounds peak
    pub cause-left : path_fails 64 ms cs ≡ path_fails 64 ms (drop i cs)

  pub passing-none : Good T → Passing 0
  passing-none good =
      record { rounds = 0; peak = T.count; turning = turning-none T members root good; cause-left = refl }

  module _ (good : Good T) (inside : root < T.count) (few : path_count G ≤ 4096) (U : Unshown T (path_line 64 ms G)) where
    module _ (i : ℕ) (W : Passing i) (u : Literals) (N : Next T members root i true u) (r : Judged) (T' : Table)
        (said : LineSays T (turn_by u ms) 64 r T') where
      abbrev c : List Literal
      c = get_or cs i []

      more : i < length cs
      more = N.inside refl

      not_full : r.full ≡ false
      not_full = go r.full refl
        where
          go : (b : Bool) → r.full ≡ b → r.full ≡ false
          go false e = e
          go true e =
              t≢f (sym U.fits ∙ ap (λ (x : Reach). x.fits)
              (turns-full T members root good inside i W.rounds W.peak W.turning u N r T' said few e 0).reaches)

      by : by_path 64 c ms ≡ by_words u ms
      by = by-words c (rises T members root good inside i more) ms ∙ ap (λ (w : Literals). by_words w ms) (sym (N.words refl))

      conflict-is : (unit_prop 64 (by_path 64 c ms)).conflict ≡ r.shown
      conflict-is = ap (λ (ds : List Diagram). (unit_prop 64 ds).conflict) by ∙ sym (turn-shown u ms) ∙ sym (said.shown not_full)

      left_is : (b : Bool) → r.shown ≡ b → path_fails 64 ms cs
          ≡ cond b (path_fails 64 ms (drop (suc i) cs)) (fixed (fixes 64 (by_path 64 c ms)) none)
      left_is b z =
          W.cause-left ∙ ap (path_fails 64 ms) (drop-cons cs i [] more) ∙ chosen 64 ms c (drop (suc i) cs) b (conflict-is ∙ z)

      -- a turn that conflicts
      pub goes_on : r.shown ≡ true → Passing (i + 1)
      goes_on z = record {
        rounds = W.rounds + r.rounds;
        peak = max W.peak r.peak;
        turning = turns-on T members root good inside i W.rounds W.peak W.turning u N r T' said few not_full z;
        cause-left = left_is true z ∙ ap (λ (k : ℕ). path_fails 64 ms (drop k cs)) (sym (add-one i));
      }

      -- another path follows it
      pub another : r.shown ≡ true → (x : NextPath) → x ≡ after_from G u.positive no_literals no_path →
          Next T members root (i + 1) true x.literals
      another z x e = go x.found (next-after T members root good inside i u N x e)
        where
          go : (b : Bool) → Next T members root (i + 1) b x.literals → Next T members root (i + 1) true x.literals
          go true M = M
          go false M =
              t≢f (sym ((goes_on z).turning.shown-left
              ∙ ap (λ (ks : List (List Literal)). (path_turns 64 ms ks).shown) (drop_of_length-le cs {i = i + 1} (M.past refl))
              ∙ none-shown 64 ms)
              ∙ sym (shown-is 64 ms G) ∙ U.unshown)

      -- a turn that does not
      pub stops-here : r.shown ≡ false → FirstFailing T ms G u
      stops-here z = record {
        fails = record {
          fits = ap (λ (x : Reach). x.fits) said.reaches ∙ ap not not_full;
          unshown = sym (said.shown not_full) ∙ z;
        };
        cause = cause-is 64 ms G ∙ left_is false z ∙ ap (λ (ds : List Diagram). fixed (fixes 64 ds) none) by;
      }
