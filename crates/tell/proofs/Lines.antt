-- The cause of a line that is refused with 19, over the header's variables, is what `rup_cause` and `pr_cause` tell. Assumes nothing.
use mathlib.Core.Path.{◌≡◌, refl, sym, ap, ap₂, ◌∙◌}
use mathlib.Core.Logic.{◌≢◌}
use mathlib.Core.Bool.{Bool, true, false}
use mathlib.Core.List.{List, [], ◌∷◌}
use mathlib.Core.Option.{none, some}
use Prim.Native.Nat.{ℕ, suc, ◌≤◌, ◌<◌}
use native.Mathlib.Omega.{arith}
use lib.ListN.{length, get_or, take}
use Rattle.meaning.specs.Diagram.{Diagram, leaf, same}
use Rattle.meaning.specs.Reduced.{Reduced}
use Rattle.meaning.specs.Operations.{Literal, negation, cofactor_literals}
use Rattle.meaning.specs.Rules.{Line, by_diagram, pr_turns}
use Rattle.meaning.specs.Words.{in_word}
use Rattle.meaning.proofs.Booleans.{t≢f}
use Rattle.meaning.proofs.Ends.{AllReduced, by_diagram-reduced}
use Rattle.meaning.proofs.Pointwise.{literals-reduced}
use Rattle.table.specs.Nodes.{diagram_at}
use Rattle.table.specs.Indexed.{Table, nodes_of}
use Rattle.table.specs.Lists.{diagrams_of, Inside}
use Rattle.table.proofs.Numbers.{reduced-to}
use Rattle.table.proofs.Written.{length-nodes, good-ordered}
use Rattle.verdict.specs.Steps as check
use Rattle.verdict.specs.Steps.{diagram_in, live_members, unstruck}
use Rattle.judge.proofs.Fits.{constant-turn}
use Rattle.judge.proofs.Negations.{not-one}
use Rattle.state.specs.declared.State.{State}
use Rattle.state.specs.States.{Lent, table_in, state_of, Held}
use Rattle.causes.specs.Causes.{fixed, fixes, rup_cause, pr_cause}
use Rattle.tell.specs.Failed.{by_not, turn_line, under_witness, PrTold}
use Rattle.tell.proofs.Named.{first-named, many-are, member_is, live-is}
use Rattle.tell.proofs.Refused.{members-inside, live_inside}
use Rattle.tell.proofs.Widths.{by_width, rup-cause-width, turn-width, turn-fixes-width}

module _ (n : ℕ) (L : Lent) (x : State) (H : Held n L x) where
  abbrev T : Table
  T = table_in L x.count

  abbrev S : check.State
  S = state_of L x

  reduced : (k : ℕ) → k < x.count → Reduced 1 (suc n) (diagram_at (nodes_of T) k)
  reduced k p = reduced-to n (nodes_of T) (good-ordered T H.entries.good) H.entries.uses k
      (omega (arith, length-nodes T H.entries.good, p))

  all-reduced : (ks : List ℕ) → Inside x.count ks → AllReduced n (diagrams_of (nodes_of T) ks)
  all-reduced [] inside = tt
  all-reduced (k ∷ ks) inside = (reduced k (inside 0 (omega arith)), all-reduced ks (λ i p. inside (suc i) (omega arith)))

  live-reduced : AllReduced n (live_members S)
  live-reduced = all-reduced (unstruck (take x.members L.struck) (take x.members L.members)) (live_inside n L x H)

  module _ (g : ℕ) (inside : g < x.count) (ne : g ≡ 1 → ⊥) where
    abbrev G : Diagram
    G = diagram_in S g

    -- THEOREM: of a RUP line.
    pub rup-cause-is : rup_cause n (live_members S) G ≡ fixed (fixes 64 (by_not G (live_members S))) none
    rup-cause-is = rup-cause-width n H.entries.narrow G (reduced g inside) (not-one T H.entries.good g inside ne) (live_members S)
        live-reduced

    abbrev msₙ : List Diagram
    msₙ = by_diagram n (negation n G) (live_members S)

    same_ms : by_not G (live_members S) ≡ msₙ
    same_ms = by_width n H.entries.narrow G (reduced g inside) (not-one T H.entries.good g inside ne) (live_members S) live-reduced

    m-room : x.members ≤ length L.members
    m-room = omega (arith, H.many, H.lines, H.room)

    s-room : x.members ≤ length L.struck
    s-room = omega (arith, m-room, H.marked)

    module _ (p q : ℕ) where
      abbrev P : ℕ → Bool
      P = in_word p

      abbrev N : ℕ → Bool
      N = in_word q

      abbrev member : ℕ → Diagram
      member j = diagram_in S (get_or S.members j 0)

      member-reduced : (j : ℕ) → j < x.members → Reduced 1 (suc n) (member j)
      member-reduced j h = reduced (get_or S.members j 0) (members-inside n L x H j (omega (arith, h, many-are L x m-room s-room)))

      -- a turn over n variables
      turn_is : (j : ℕ) → j < x.members → (pr_turns n P N msₙ (member j ∷ [])).shown
          ≡ (turn_line p q (by_not G (live_members S)) (diagram_in S (get_or L.members j 0))).shown
      turn_is j h =
          sym (turn-width n H.entries.narrow P N msₙ (by_diagram-reduced n (negation n G) (live_members S)) (member j)
          (member-reduced j h) (literals-reduced n P N (member j)))
          ∙ ap₂ (λ (ds : List Diagram) (k : ℕ). (turn_line p q ds (diagram_in S k)).shown) (sym same_ms) (member_is L x m-room s-room j h)

      other-of : (f : Diagram) → (pr_turns n P N msₙ (f ∷ [])).shown ≡ false → same (cofactor_literals n P N f) (leaf true) ≡ false
      other-of f hidden = go (same (cofactor_literals n P N f) (leaf true)) refl
        where
          go : (b : Bool) → same (cofactor_literals n P N f) (leaf true) ≡ b → same (cofactor_literals n P N f) (leaf true) ≡ false
          go false e = e
          go true e = t≢f (sym (ap (λ (M : Line). M.shown) (constant-turn n P N msₙ f e)) ∙ hidden)

      -- THEOREM: of a PR line, by what is told of it.
      pub pr-cause-is : (i rounds : ℕ) (words : List ℕ) → PrTold (nodes_of T) p q (by_not G (live_members S)) L.members L.struck
          x.members i rounds words
          → pr_cause n P N S G ≡ fixed (fixes 64
          (by_not (under_witness p q (diagram_in S (get_or L.members i 0))) (by_not G (live_members S))))
          (some i)
      unfolding pr_cause
      pr-cause-is i rounds words W =
          let hidden : (pr_turns n P N msₙ (member i ∷ [])).shown ≡ false = turn_is i W.inside ∙ W.hidden in
          first-named n S P N msₙ i (live-is L x m-room s-room i W.inside ∙ W.live) hidden
          (λ j h e. turn_is j (omega (arith, h, W.inside)) ∙ W.lowest j h
          (sym (live-is L x m-room s-room j (omega (arith, h, W.inside))) ∙ e))
          (length S.members) 0 (omega arith) (omega (arith, many-are L x m-room s-room, W.inside))
          ∙ ap (λ (r : List (List Literal)). fixed r (some i))
          (sym (turn-fixes-width n H.entries.narrow P N msₙ (by_diagram-reduced n (negation n G) (live_members S)) (member i)
          (member-reduced i W.inside) (literals-reduced n P N (member i)) (other-of (member i) hidden))
          ∙ ap₂ (λ (ds : List Diagram) (k : ℕ). fixes 64 (by_not (under_witness p q (diagram_in S k)) ds)) (sym same_ms)
          (member_is L x m-room s-room i W.inside))
