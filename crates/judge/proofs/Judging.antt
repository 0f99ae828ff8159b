-- A line judged from the parts that the code makes: not-g and the members by it, then one propagation or the turns. Assumes nothing.
use mathlib.Core.Path.{◌≡◌, refl, sym, ap, ap₂, ◌∙◌}
use mathlib.Core.Bool.{Bool, true, false, not}
use mathlib.Core.List.{List, [], ◌∷◌}
use Prim.Native.Nat.{ℕ}
use native.Mathlib.Omega.{arith}
use lib.ListN.{length}
use Rattle.meaning.specs.Diagram.{Diagram}
use Rattle.meaning.specs.Operations.{negation}
use Rattle.meaning.specs.Rules.{Propagation, Line, unit_prop, by_diagram, rup, pr_turns, pr}
use Rattle.meaning.specs.Words.{in_word}
use Rattle.meaning.proofs.Booleans.{t≢f}
use Rattle.table.specs.Indexed.{Table, size, nodes_of, Good}
use Rattle.table.specs.Making.{placed_all, reach, reached, kept_reach, line_reach}
use Rattle.table.proofs.Written.{length-nodes}
use Rattle.table.proofs.PlacedAll.{one-reach, room-reached}
use Rattle.table.specs.Lists.{diagrams_of, Inside}
use Rattle.propagate.specs.declared.Propagated.{Propagated}
use Rattle.propagate.specs.Rounds.{Said}
use Rattle.table.proofs.Extended.{extended-longer, extended-trans, diagrams-kept}
use Rattle.judge.specs.declared.Judged.{Judged}
use Rattle.judge.specs.Lines.{ByNegation, LineSays}
use Rattle.judge.proofs.Fits.{turns-reach}
use Rattle.judge.proofs.Turning.{judged_as}

module _ (T : Table) (G : Good T) (ms : List Diagram) (g : Diagram) (T₁ : Table) (list : List ℕ) where
  -- not-g or a member by it found no room
  module _ (B : ByNegation T ms g true T₁ list) (bound : ℕ) where
    said-full : (line : Line) → line_reach (size T) (nodes_of T) line ≡ reach false (length (nodes_of T₁)) →
        LineSays T line bound (judged_as true false 0 T₁.count T₁.count) T₁
    said-full line e = record {
      extended = B.extended;
      reaches = e ∙ ap (reach false) (length-nodes T₁ B.extended.good);
      shown = λ z. t≢f z;
      rounds = λ z. t≢f z;
      most = omega arith;
    }

    pub rup-full : LineSays T (rup 64 ms g) bound (judged_as true false 0 T₁.count T₁.count) T₁
    unfolding rup line_reach
    rup-full = said-full (rup 64 ms g) (ap (kept_reach (size T) (rup 64 ms g).turns) B.places)

    pub pr-full : (P N : ℕ → Bool) → LineSays T (pr 64 P N ms g) bound (judged_as true false 0 T₁.count T₁.count) T₁
    unfolding pr line_reach
    pr-full P N = said-full (pr 64 P N ms g) (ap (kept_reach (size T) (pr 64 P N ms g).turns) B.places)

  module _ (B : ByNegation T ms g false T₁ list) where
    same_size : size T₁ ≡ size T
    same_size = B.extended.same_size

    pub rup-judged : (p : Propagated) (T₂ : Table) → Said T₁ (unit_prop 64 (diagrams_of (nodes_of T₁) list)) p T₂
        → T₂.count ≡ p.count
        → LineSays T (rup 64 ms g) 64 (judged_as p.full p.conflict p.rounds p.count p.count) T₂
    unfolding rup line_reach
    rup-judged p T₂ S counted =
        let e : unit_prop 64 (diagrams_of (nodes_of T₁) list) ≡ unit_prop 64 (by_diagram 64 (negation 64 g) ms) =
        ap (unit_prop 64) (B.are refl) in
        let u : Propagation = unit_prop 64 (by_diagram 64 (negation 64 g) ms) in
        record {
          extended = extended-trans T T₁ T₂ G B.extended S.extended;
          reaches =
              ap (kept_reach (size T) (u.made ∷ [])) B.places
              ∙ one-reach (size T) u.made (nodes_of T₁)
              ∙ ap₂ (λ (s : ℕ) (q : Propagation). reached (placed_all s (nodes_of T₁) q.made)) (sym same_size) (sym e)
              ∙ ap reached S.places
              ∙ room-reached p.full (nodes_of T₂)
              ∙ ap (reach (not p.full)) (length-nodes T₂ S.extended.good ∙ counted);
          shown = λ z. S.conflict z ∙ ap (λ (q : Propagation). q.conflict) e;
          rounds = λ z. S.rounds z ∙ ap (λ (q : Propagation). q.rounds) e;
          most = S.most;
        }

module _ (T : Table) (G : Good T) (members : List ℕ) (inside : Inside T.count members) (g : Diagram) (T₁ : Table) (list : List ℕ)
    (B : ByNegation T (diagrams_of (nodes_of T) members) g false T₁ list) (p n : ℕ) where
  abbrev ms : List Diagram
  ms = diagrams_of (nodes_of T) members

  turns-are : pr_turns 64 (in_word p) (in_word n) (diagrams_of (nodes_of T₁) list) (diagrams_of (nodes_of T₁) members)
      ≡ pr_turns 64 (in_word p) (in_word n) (by_diagram 64 (negation 64 g) ms) ms
  turns-are = ap₂ (pr_turns 64 (in_word p) (in_word n)) (B.are refl)
      (diagrams-kept T T₁ (extended-longer T T₁ G B.extended) members inside)

  pub pr-judged : (bound : ℕ) (r : Judged) (T₂ : Table) → LineSays T₁
      (pr_turns 64 (in_word p) (in_word n) (diagrams_of (nodes_of T₁) list) (diagrams_of (nodes_of T₁) members)) bound r T₂
      → LineSays T (pr 64 (in_word p) (in_word n) ms g) bound r T₂
  unfolding pr line_reach
  pr-judged bound r T₂ S =
      let turned : Line = pr_turns 64 (in_word p) (in_word n) (by_diagram 64 (negation 64 g) ms) ms in
      record {
        extended = extended-trans T T₁ T₂ G B.extended S.extended;
        reaches =
            ap (kept_reach (size T) turned.turns) B.places
            ∙ sym (turns-reach 64 (in_word p) (in_word n) (by_diagram 64 (negation 64 g) ms) (size T) (nodes_of T₁) ms)
            ∙ ap₂ (λ (s : ℕ) (L : Line). line_reach s (nodes_of T₁) L) (sym B.extended.same_size) (sym turns-are)
            ∙ S.reaches;
        shown = λ z. S.shown z ∙ ap (λ (L : Line). L.shown) turns-are;
        rounds = λ z. S.rounds z ∙ ap (λ (L : Line). L.rounds) turns-are;
        most = S.most;
      }
