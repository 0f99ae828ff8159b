-- The turn of a member whose node had a turn. The idea: a turn is a function of the node's diagram, and the table is the same before each,
-- so the rounds are the same and the count reached is no greater than the peak so far. Assumes nothing.
use mathlib.Core.Path.{◌≡◌, refl, sym, ap, ◌∙◌, subst}
use mathlib.Core.Bool.{Bool, true, false, not}
use mathlib.Core.List.{List, [], ◌∷◌}
use Prim.Native.Nat.{ℕ, ◌+◌, ◌≤◌, ◌<◌, max}
use native.Mathlib.Omega.{arith}
use lib.ListN.{length, get_or}
use Rattle.meaning.specs.Rules.{Line, pr_turns}
use Rattle.meaning.specs.Words.{in_word}
use Rattle.table.specs.Indexed.{Table, nodes_of, Good}
use Rattle.table.specs.Making.{reach}
use Rattle.table.specs.Lists.{diagrams_of}
use Rattle.table.proofs.Extended.{extended-same}
use Rattle.judge.specs.declared.Judged.{Judged}
use Rattle.judge.specs.Lines.{LineSays}
use Rattle.judge.proofs.Turning.{judged_as, Turning, turns-on}
use Rattle.turn_memo.specs.Turns.{Passes}
use Rattle.turn_memo.proofs.Known.{Known, passes-carry}

module _ (T : Table) (list : List ℕ) (p n : ℕ) where
  abbrev turn_of : ℕ → Line
  turn_of f = pr_turns 64 (in_word p) (in_word n) (diagrams_of (nodes_of T) list) (diagrams_of (nodes_of T) (f ∷ []))

  -- The turn of node f conflicts in m rounds, and what it reaches is at most `peak`.
  pub record Turned (peak f m : ℕ) : Type 0 where
    pub reached : ℕ
    pub says : LineSays T (turn_of f) 64 (judged_as false true m T.count reached) T
    pub most : reached ≤ peak

  -- a greater peak
  pub turned-higher : (peak above : ℕ) → peak ≤ above → (f m : ℕ) → Turned peak f m → Turned above f m
  turned-higher peak above h f m t = record { reached = t.reached; says = t.says; most = omega (arith, t.most) }

  module _ (good : Good T) where
    -- a turn that was judged
    pub turned-judged : (peak f : ℕ) (r : Judged) (T' : Table) → LineSays T (turn_of f) 64 r T' → r.full ≡ false → r.shown ≡ true
        → Turned (max peak r.peak) f r.rounds
    turned-judged peak f r T' S q z = record {
      reached = r.peak;
      says = record {
        extended = extended-same T good;
        reaches = S.reaches ∙ ap (λ (b : Bool). reach (not b) r.peak) q;
        shown = λ _. sym z ∙ S.shown q;
        rounds = λ _. S.rounds q;
        most = S.most;
      };
      most = omega arith;
    }

    module _ (members : List ℕ) where
      -- the turn of a member whose node had one
      turning-equal : (i rounds peak m : ℕ) → Turning T list members p n i rounds peak → i < length members
          → Turned peak (get_or members i 0) m → Turning T list members p n (i + 1) (rounds + m) peak
      turning-equal i rounds peak m W more t =
          subst (Turning T list members p n (i + 1) (rounds + m)) (absorbed t.most)
          (turns-on T list members p n good i rounds peak W more (judged_as false true m T.count t.reached) T t.says refl refl)
        where
          absorbed : t.reached ≤ peak → max peak t.reached ≡ peak
          absorbed h = omega arith

      -- the turns of all members passed
      pub turning-passed : (judged : List ℕ) (from start i sum peak : ℕ) → Known judged (Turned peak) →
          Turning T list members p n from start peak
          → Passes members judged from start i sum → Turning T list members p n i sum peak
      turning-passed judged from start i sum peak known W passes =
          passes-carry members judged from start (λ (j k : ℕ). Turning T list members p n j k peak)
          (λ j k m more holds so_far. turning-equal j k peak m so_far more (known (get_or members j 0) m holds)) W i sum passes
