-- A line's peak is the greatest count that it passes through. The idea: a count only grows between two drops. Assumes nothing.
use mathlib.Core.Path.{◌≡◌, refl, sym, ap, ◌∙◌, subst}
use mathlib.Core.Bool.{Bool, true, false}
use mathlib.Core.List.{List, [], ◌∷◌}
use Prim.Native.Nat.{ℕ, ◌≤◌, max}
use native.Mathlib.Omega.{arith}
use native.Mathlib.Decide.{dec_lt}
use lib.ListN.{length}
use Rattle.meaning.specs.Diagram.{Diagram}
use Rattle.meaning.specs.Rules.{Line}
use Rattle.meaning.proofs.Booleans.{t≢f}
use Rattle.table.specs.Nodes.{Node, Placing, full, placed, place}
use Rattle.table.specs.Making.{Room, short, all, after_placing, placed_all, reached, then_reach, turns_reach, kept_reach, line_reach}
use Rattle.table.proofs.PlacedAll.{nodes_after, count-greatest, turns-peak}
use Rattle.exactness.specs.Passing.{Passes, now, stuck, later, TurnPasses, before, this, next, LinePasses, in-base, in-turn, Greatest}

abbrev is_full : Placing → Bool
is_full (full t) = true
is_full (placed t k) = false

not-both : {A : Type 0} {t t₁ : List Node} {k : ℕ} (p : Placing) → p ≡ full t → p ≡ placed t₁ k → A
not-both p e f = let z : ◌≡◌ {A = Bool} true false = sym (ap is_full e) ∙ ap is_full f in t≢f z

module _ (s : ℕ) where
  pub place-longer : (t : List Node) (D : Diagram) → length t ≤ length (nodes_after (place s t D))
  unfolding placed_all
  place-longer t D = go (place s t D) (count-greatest s t (D ∷ []))
    where
      go : (p : Placing) → length t ≤ (reached (after_placing p (λ t₁. all t₁))).peak → length t ≤ length (nodes_after p)
      go (full t₁) h = h
      go (placed t₁ k) h = h

  pub placed-peak : (t : List Node) (Ds : List Diagram) → Greatest (Passes s t Ds) (reached (placed_all s t Ds)).peak
  unfolding placed_all
  placed-peak t [] = record { is = now; most = λ j p. none j p }
    where
      none : (j : ℕ) → Passes s t [] j → j ≤ length t
      none _ now = omega arith
  placed-peak t (D ∷ Ds) = go (place s t D) refl (λ t₁. placed-peak t₁ Ds)
    where
      go : (p : Placing) → place s t D ≡ p → ((t₁ : List Node) → Greatest (Passes s t₁ Ds) (reached (placed_all s t₁ Ds)).peak)
          → Greatest (Passes s t (D ∷ Ds)) (reached (after_placing p (λ t₁. placed_all s t₁ Ds))).peak
      go (full t₁) e rec = record { is = stuck e; most = λ j p. most j p }
        where
          most : (j : ℕ) → Passes s t (D ∷ Ds) j → j ≤ length t₁
          most _ now = subst (λ (p : Placing). length t ≤ length (nodes_after p)) e (place-longer t D)
          most _ (stuck {u} f) = let q : length u ≡ length t₁ = ap (λ (p : Placing). length (nodes_after p)) (sym f ∙ e) in omega arith
          most j (later f P) = not-both (place s t D) e f
      go (placed t₁ k) e rec = record { is = later e (rec t₁).is; most = λ j p. most j p }
        where
          longer : length t ≤ length t₁
          longer = subst (λ (p : Placing). length t ≤ length (nodes_after p)) e (place-longer t D)

          most : (j : ℕ) → Passes s t (D ∷ Ds) j → j ≤ (reached (placed_all s t₁ Ds)).peak
          most _ now = omega (arith, longer, count-greatest s t₁ Ds)
          most j (stuck f) = not-both (place s t D) f e
          most j (later {u} f P) =
              let q : u ≡ t₁ = ap nodes_after (sym f ∙ e) in (rec t₁).most j (subst (λ (x : List Node). Passes s x Ds j) q P)

  not-room : {A : Type 0} {t t₁ : List Node} (r : Room) → r ≡ short t → r ≡ all t₁ → A
  not-room r e f = let z : ◌≡◌ {A = Bool} false true = sym (ap (λ (x : Room). (reached x).fits) e)
      ∙ ap (λ (x : Room). (reached x).fits) f in
      t≢f (sym z)

  turn-peak : (t : List Node) (turns : List (List Diagram)) → Greatest (TurnPasses s t turns) (turns_reach s turns t).peak
  unfolding turns_reach
  turn-peak t [] = record { is = before; most = λ j p. none j p }
    where
      none : (j : ℕ) → TurnPasses s t [] j → j ≤ length t
      none _ before = omega arith
  turn-peak t (made ∷ rest) = go (placed_all s t made) refl (placed-peak t made) (turn-peak t rest)
    where
      go : (r : Room) → placed_all s t made ≡ r → Greatest (Passes s t made) (reached (placed_all s t made)).peak →
          Greatest (TurnPasses s t rest) (turns_reach s rest t).peak
          → Greatest (TurnPasses s t (made ∷ rest)) (then_reach (reached r) (turns_reach s rest t)).peak
      go (short t₁) e G H = record { is = subst (TurnPasses s t (made ∷ rest)) here (this G.is); most = λ j p. most j p }
        where
          here : (reached (placed_all s t made)).peak ≡ length t₁
          here = ap (λ (x : Room). (reached x).peak) e

          most : (j : ℕ) → TurnPasses s t (made ∷ rest) j → j ≤ length t₁
          most _ before = omega (arith, here, count-greatest s t made)
          most j (this P) = omega (arith, here, G.most j P)
          most j (next f P) = not-room (placed_all s t made) e f
      go (all t₁) e G H = record {
        is = elim (dec_lt (length t₁) (turns_reach s rest t).peak) [
          | yes p ↦ subst (TurnPasses s t (made ∷ rest))
              (let q : (turns_reach s rest t).peak ≡ max (length t₁) (turns_reach s rest t).peak = omega arith in q) (next e H.is)
          | no p ↦ subst (TurnPasses s t (made ∷ rest))
              (let q : (reached (placed_all s t made)).peak ≡ max (length t₁) (turns_reach s rest t).peak = omega (arith, here) in q)
              (this G.is)
        ];
        most = λ j p. most j p;
      }
        where
          here : (reached (placed_all s t made)).peak ≡ length t₁
          here = ap (λ (x : Room). (reached x).peak) e

          most : (j : ℕ) → TurnPasses s t (made ∷ rest) j → j ≤ max (length t₁) (turns_reach s rest t).peak
          most _ before = omega (arith, here, count-greatest s t made)
          most j (this P) = omega (arith, here, G.most j P)
          most j (next f P) = omega (arith, H.most j P)

  -- "the greatest count reached, dropped nodes included": a line's peak is the greatest of the counts that it passes through.
  pub line-peak : (t : List Node) (line : Line) → Greatest (LinePasses s t line) (line_reach s t line).peak
  unfolding line_reach
  line-peak t line = go (placed_all s t line.kept) refl (placed-peak t line.kept) (λ t₁. turn-peak t₁ line.turns)
    where
      go : (r : Room) → placed_all s t line.kept ≡ r → Greatest (Passes s t line.kept) (reached (placed_all s t line.kept)).peak
          → ((t₁ : List Node) → Greatest (TurnPasses s t₁ line.turns) (turns_reach s line.turns t₁).peak) →
          Greatest (LinePasses s t line) (kept_reach s line.turns r).peak
      go (short t₁) e G H = record { is = subst (LinePasses s t line) here (in-base G.is); most = λ j p. most j p }
        where
          here : (reached (placed_all s t line.kept)).peak ≡ length t₁
          here = ap (λ (x : Room). (reached x).peak) e

          most : (j : ℕ) → LinePasses s t line j → j ≤ length t₁
          most j (in-base P) = omega (arith, here, G.most j P)
          most j (in-turn f P) = not-room (placed_all s t line.kept) e f
      go (all t₁) e G H = record { is = in-turn e (H t₁).is; most = λ j p. most j p }
        where
          here : (reached (placed_all s t line.kept)).peak ≡ length t₁
          here = ap (λ (x : Room). (reached x).peak) e

          most : (j : ℕ) → LinePasses s t line j → j ≤ (turns_reach s line.turns t₁).peak
          most j (in-base P) = omega (arith, here, G.most j P, turns-peak s line.turns t₁)
          most j (in-turn {u} f P) =
              let q : u ≡ t₁ = all_same (sym f ∙ e) in (H t₁).most j (subst (λ (x : List Node). TurnPasses s x line.turns j) q P)
            where
              all_same : {x y : List Node} → all x ≡ all y → x ≡ y
              all_same e = cc
