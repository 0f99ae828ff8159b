-- A table that has grown at its end, or was cut short: good order stays and numbers keep their diagrams. The idea: what good order asks of
-- a node speaks of smaller places alone, and those are the same in both. Assumes nothing.
use Rattle.std.proofs.Common.{◌≡◌, ℕ, zero, suc, ◌<◌, ◌≤◌, ◌≢◌, List, [], ◌∷◌, ◌++◌, length, take, drop, sym, refl, ap, ◌∙◌, append_assoc}
use Rattle.std.proofs.Common.{append-nil, arith, length-append, take-append-drop, length-take-le, get_or-take}
use native.Mathlib.Decide.{dec_lt}
use lib.ListN.{get_or-append}
use lib.Seq.{get_or-append_seam, take-append_seam}
use Rattle.table.specs.Nodes.{Node, blank, at, diagram_within, diagram_at}
use Rattle.table.proofs.Order.{Fits, Ordered}

-- The nodes t' are t and maybe more after it.
abbrev pub Extends : List Node → List Node → Type 0
Extends t t' = (u : List Node) × (t' ≡ t ++ u)

pub extends-same : (t : List Node) → Extends t t
extends-same t = ([], simp append-nil)

pub extends-trans : (t t' t'' : List Node) → Extends t t' → Extends t' t'' → Extends t t''
extends-trans t t' t'' (u, p) (w, q) = (u ++ w, q ∙ rw (p, append_assoc))

extends-at : (t t' : List Node) → Extends t t' → (k : ℕ) → k < length t → at t' k ≡ at t k
extends-at t t' E k p = rw E.1 (get_or-append t E.0 blank k p)

pub extends-length : (t t' : List Node) → Extends t t' → length t ≤ length t'
extends-length t t' E = rw (E.1, length-append) (omega arith)

-- Dropping what was added gives back what was there.
pub dropped-back : (t t' : List Node) → Extends t t' → take (length t) t' ≡ t
dropped-back t t' E = ap (take (length t)) E.1 ∙ take-append_seam t E.0

-- ---- numbers keep their diagrams

within_grown : (t t' : List Node) → Ordered t → Extends t t' → (f k : ℕ) → k < length t → diagram_within f t' k ≡ diagram_within f t k
unfolding diagram_within
within_grown t t' O E zero k p = refl
within_grown t t' O E (suc f) zero p = refl
within_grown t t' O E (suc f) (suc zero) p = refl
within_grown t t' O E (suc f) (suc (suc j)) p =
    let k : ℕ = suc (suc j) in
    let F : Fits t k (at t k) = O.fits k (omega arith) p in
    rw (extends-at t t' E k p, within_grown t t' O E f (at t k).low (omega arith), within_grown t t' O E f (at t k).high (omega arith))

pub diagram_at-grown : (t t' : List Node) → Ordered t → Extends t t' → (k : ℕ) → k < length t → diagram_at t' k ≡ diagram_at t k
unfolding diagram_at
diagram_at-grown t t' O E k p = within_grown t t' O E (suc k) k p

-- ---- one more node

module _ (t : List Node) (x : Node) where
  at_old : (k : ℕ) → k < length t → at (t ++ x ∷ []) k ≡ at t k
  at_old k p = get_or-append t (x ∷ []) blank k p

  pub at_new : at (t ++ x ∷ []) (length t) ≡ x
  at_new = get_or-append_seam t x [] blank

  pub length-new : length (t ++ x ∷ []) ≡ suc (length t)
  length-new = rw length-append (omega arith)

fits_more : (t : List Node) (y : Node) (k : ℕ) (x : Node) → k ≤ length t → Fits t k x → Fits (t ++ y ∷ []) k x
fits_more t y k x p F =
    record {
      least = F.least;
      most = F.most;
      low-less = F.low-less;
      high-less = F.high-less;
      above_low = rw (at_old t y x.low (omega arith)) F.above_low;
      above-high = rw (at_old t y x.high (omega arith)) F.above-high;
      differ = F.differ;
    }

pub ordered-more : (t : List Node) (x : Node) → Ordered t → Fits t (length t) x → ((k : ℕ) → 2 ≤ k → k < length t → at t k ≢ x) →
    Ordered (t ++ x ∷ [])
ordered-more t x O F new =
    let len : length (t ++ x ∷ []) ≡ suc (length t) = length-new t x in
    let two : 2 ≤ length t = O.two in
    record {
      two = omega arith;
      first = rw (at_old t x 0 (omega arith)) O.first;
      second = rw (at_old t x 1 (omega arith)) O.second;
      fits = λ k a p. elim (dec_lt k (length t)) [
        | yes q ↦ rw (at_old t x k q) (fits_more t x k (at t k) (omega arith) (O.fits k a q))
        | no q ↦ let e : k ≡ length t = omega arith in rw (e, at_new t x) (fits_more t x (length t) x (omega arith) F)
      ];
      alike = λ j k a p b q e. elim (dec_lt j (length t)) [
        | yes f ↦ elim (dec_lt k (length t)) [
          | yes g ↦ O.alike j k a f b g (sym (at_old t x j f) ∙ e ∙ at_old t x k g)
          | no g ↦ let r : k ≡ length t = omega arith in absurd (new j a f (sym (at_old t x j f) ∙ e ∙ rw r (at_new t x)))
        ]
        | no f ↦ let r : j ≡ length t = omega arith in elim (dec_lt k (length t)) [
          | yes g ↦ absurd (new k b g (sym (at_old t x k g) ∙ sym e ∙ rw r (at_new t x)))
          | no g ↦ omega arith
        ]
      ];
    }

-- ---- dropping the nodes from place m on

fits-dropped : (t : List Node) (m k : ℕ) (x : Node) → k ≤ m → Fits t k x → Fits (take m t) k x
fits-dropped t m k x p F =
    record {
      least = F.least;
      most = F.most;
      low-less = F.low-less;
      high-less = F.high-less;
      above_low = rw (get_or-take m t x.low blank (omega arith)) F.above_low;
      above-high = rw (get_or-take m t x.high blank (omega arith)) F.above-high;
      differ = F.differ;
    }

module _ (t : List Node) (O : Ordered t) (m : ℕ) (two : 2 ≤ m) (within : m ≤ length t) where
  pub ordered-dropped : Ordered (take m t)
  ordered-dropped =
      let len : length (take m t) ≡ m = length-take-le m t within in
      record {
        two = omega arith;
        first = rw (get_or-take m t 0 blank (omega arith)) O.first;
        second = rw (get_or-take m t 1 blank (omega arith)) O.second;
        fits = λ k a b. rw (get_or-take m t k blank (omega arith)) (fits-dropped t m k (at t k) (omega arith) (O.fits k a (omega arith)));
        alike = λ j k a b c d e. O.alike j k a (omega arith) c (omega arith)
            (sym (get_or-take m t j blank (omega arith)) ∙ e ∙ get_or-take m t k blank (omega arith));
      }

  -- what is kept keeps its diagram
  pub diagram_at-dropped : (k : ℕ) → k < m → diagram_at (take m t) k ≡ diagram_at t k
  diagram_at-dropped k r = sym (diagram_at-grown (take m t) t ordered-dropped (drop m t, sym (take-append-drop m t)) k
      (omega (arith, length-take-le m t within)))
