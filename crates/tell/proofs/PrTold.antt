-- A PR line that finds room and is not shown: so are its turns over the members by not-g, and what is told over those is told of the line.
-- Assumes nothing.
use mathlib.Core.Path.{◌≡◌, refl, sym, ap, ap₂, ◌∙◌, subst}
use mathlib.Core.Bool.{Bool, true, false}
use mathlib.Core.List.{List}
use Prim.Native.Nat.{ℕ, ◌≤◌, ◌<◌}
use native.Mathlib.Omega.{arith}
use lib.ListN.{length, get_or, take, replicate, get_or-replicate}
use lib.Seq.{length-take-le, get_or-take}
use Rattle.meaning.specs.Diagram.{Diagram}
use Rattle.meaning.specs.Rules.{Line, pr_turns, pr}
use Rattle.meaning.specs.Words.{in_word}
use Rattle.meaning.proofs.Booleans.{t≢f}
use Rattle.table.specs.Nodes.{diagram_at}
use Rattle.table.specs.Indexed.{Table, size, nodes_of, Good}
use Rattle.table.specs.Making.{Reach, turns_reach, kept_reach, line_reach}
use Rattle.table.specs.Lists.{diagrams_of, Inside}
use Rattle.table.proofs.Outcomes.{Longer, dropped_to, undone}
use Rattle.table.proofs.Extended.{extended-longer, diagrams-kept}
use Rattle.supports.specs.Supports.{Support, Supports}
use Rattle.judge.specs.Lines.{ByNegation}
use Rattle.judge.proofs.Fits.{turns-reach}
use Rattle.judge.proofs.Judging.{pr-full}
use Rattle.tell.specs.Failed.{Unshown, Fixed, by_not, every_variable, turn_line, under_witness, Lowest, PrTold}
use Rattle.tell.proofs.Turns.{every-support}

-- words of ones, for a list of nodes of the table
pub ones-support : (T : Table) → Good T → (list : List ℕ) → Inside T.count list → (m : ℕ) → length list ≡ m → m ≤ 2048
    → Supports (nodes_of T) list (take m (replicate 2048 every_variable))
unfolding Supports
ones-support T G list inside m len few i p =
    let below : i < m = omega (arith, p, len) in
    subst (λ (word : ℕ). Support word (diagram_at (nodes_of T) (get_or list i 0)))
    (sym (get_or-take m (replicate 2048 every_variable) i 0 below ∙ get_or-replicate 2048 i every_variable 0 (omega (arith, below, few))))
    (every-support T G (get_or list i 0) (inside i p))

module _ (T : Table) (G : Good T) (live : List ℕ) (inside : Inside T.count live) (g : Diagram) (T₁ : Table) (list : List ℕ) (p n : ℕ)
    (U : Unshown T (pr 64 (in_word p) (in_word n) (diagrams_of (nodes_of T) live) g)) where
  abbrev ms : List Diagram
  ms = diagrams_of (nodes_of T) live

  pub not_full : (full : Bool) → ByNegation T ms g full T₁ list → full ≡ false
  not_full false B = refl
  not_full true B = t≢f (sym U.fits ∙ ap (λ (x : Reach). x.fits) (pr-full T G ms g T₁ list B 64 (in_word p) (in_word n)).reaches)

  module _ (B : ByNegation T ms g false T₁ list) where
    long : Longer T T₁
    long = extended-longer T T₁ G B.extended

    list-is : diagrams_of (nodes_of T₁) list ≡ by_not g ms
    list-is = B.are refl

    live_same : diagrams_of (nodes_of T₁) live ≡ ms
    live_same = diagrams-kept T T₁ long live inside

    abbrev turned : List Diagram → List Diagram → Line
    turned first ds = pr_turns 64 (in_word p) (in_word n) first ds

    reach-turns : line_reach (size T) (nodes_of T) (pr 64 (in_word p) (in_word n) ms g)
        ≡ turns_reach (size T) (turned (by_not g ms) ms).turns (nodes_of T₁)
    unfolding pr line_reach
    reach-turns = ap (kept_reach (size T) (turned (by_not g ms) ms).turns) B.places

    shown-turns : (pr 64 (in_word p) (in_word n) ms g).shown ≡ (turned (by_not g ms) ms).shown
    unfolding pr
    shown-turns = refl

    -- the turns over the members by not-g
    pub turns-unshown : Unshown T₁ (turned (diagrams_of (nodes_of T₁) list) (diagrams_of (nodes_of T₁) live))
    turns-unshown = subst (Unshown T₁) (sym (ap₂ turned list-is live_same)) (record {
      fits = ap (λ (x : Reach). x.fits)
          (turns-reach 64 (in_word p) (in_word n) (by_not g ms) (size T₁) (nodes_of T₁) ms
          ∙ ap (λ (s : ℕ). turns_reach s (turned (by_not g ms) ms).turns (nodes_of T₁)) B.extended.same_size ∙ sym reach-turns) ∙ U.fits;
      unshown = sym shown-turns ∙ U.unshown;
    })

    module _ (members struck : List ℕ) (many : ℕ) (m-room : many ≤ length members) (m-inside : Inside T.count (take many members)) where
      member-same : (j : ℕ) → j < many → diagram_at (nodes_of T₁) (get_or members j 0) ≡ diagram_at (nodes_of T) (get_or members j 0)
      member-same j h =
          long.kept (get_or members j 0)
          (subst (λ (k : ℕ). k < T.count) (get_or-take many members j 0 h)
          (m-inside j (omega (arith, h, length-take-le many members m-room))))

      pub pr-told : (i rounds : ℕ) (words : List ℕ) → Lowest T₁ p n (diagrams_of (nodes_of T₁) list) members struck many i
          → Fixed (by_not (under_witness p n (diagram_at (nodes_of T₁) (get_or members i 0))) (diagrams_of (nodes_of T₁) list)) rounds words
          → PrTold (nodes_of T) p n (by_not g ms) members struck many i rounds words
      pr-told i rounds words L F = record {
        inside = L.inside;
        live = L.live;
        hidden = sym (ap₂ (λ (ds : List Diagram) (f : Diagram). (turn_line p n ds f).shown) list-is (member-same i L.inside))
            ∙ L.fails.unshown;
        lowest = λ j h e.
            sym (ap₂ (λ (ds : List Diagram) (f : Diagram). (turn_line p n ds f).shown) list-is (member-same j (omega (arith, h, L.inside))))
            ∙ L.lowest j h e;
        fixed = subst (λ (f : Diagram). Fixed (by_not (under_witness p n f) (by_not g ms)) rounds words) (member-same i L.inside)
            (subst (λ (ds : List Diagram). Fixed (by_not (under_witness p n (diagram_at (nodes_of T₁) (get_or members i 0))) ds) rounds
            words)
            list-is F);
      }

    pub pr-undone : (T₂ T₃ : Table) → T₂ ≡ T₁ → T₃ ≡ dropped_to T.count T₂ → T₃ ≡ T
    pr-undone T₂ T₃ e q = q ∙ ap (dropped_to T.count) e ∙ undone T G T₁ long
