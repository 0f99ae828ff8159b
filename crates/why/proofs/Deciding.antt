-- Deciding a variable of a word keeps the smallest assignment. The idea: `taken_true` and `taken_false` with sets that are words. Assumes
-- nothing.
use mathlib.Core.Path.{◌≡◌, refl, sym, ap, ◌∙◌, subst}
use mathlib.Core.Bool.{Bool, true, false, ◌||◌, cond}
use mathlib.Core.List.{List}
use Prim.Native.Nat.{ℕ, suc, ◌+◌, ◌≤◌, ◌<◌}
use native.Mathlib.Omega.{arith}
use lib.ListN.{length}
use lib.Dec.{eqb}
use borrow.Author.Tests.{eqb-false}
use Rattle.meaning.specs.Diagram.{Assignment, Diagram, leaf, same}
use Rattle.meaning.specs.Reduced.{Reduced}
use Rattle.meaning.specs.Rules.{witnessed}
use Rattle.meaning.specs.Words.{in_word, assignment_of}
use Rattle.meaning.proofs.Booleans.{t≢f, not-true, or_left, or_right, eqb-eq, eq-eqb}
use Rattle.meaning.proofs.PointwiseSteps.{literals-cong}
use Rattle.meaning.proofs.LineWidths.{witnessed-width}
use Rattle.words.specs.declared.Literals.{Literals}
use Rattle.words.specs.Sets.{with_variable}
use Rattle.words.proofs.LiteralSets.{in-with}
use Rattle.table.specs.Nodes.{Node, diagram_at}
use Rattle.walks.specs.Constant.{one_at}
use Rattle.causes.specs.Causes.{smallest}
use Rattle.causes.specs.Shows.{Agrees, Smallest}
use Rattle.causes.proofs.Smallest.{smallest-so}
use Rattle.why.specs.Greedy.{Decided, with_it, decided_in, Shut}
use Rattle.why.proofs.Greedy.{smallest-one, taken_true, taken_false, all-decided}

-- ---- sets that have the same variables

module _ (n : ℕ) (g : Diagram) (P N P' N' : ℕ → Bool) (p : (v : ℕ) → 1 ≤ v → v ≤ n → P v ≡ P' v) (q : (v : ℕ) → 1 ≤ v → v ≤ n → N v ≡ N' v)
  where
    witnessed-cong : witnessed n P N g ≡ witnessed n P' N' g
    unfolding witnessed
    witnessed-cong = ap (λ (f : Diagram). same f (leaf true)) (literals-cong n P N P' N' g p q)

    agrees-cong : (a : Assignment) → length a ≡ n → Agrees P N a → Agrees P' N' a
    unfolding Agrees
    agrees-cong a len so v lo hi =
        let most : v ≤ n = omega (arith, hi, len) in
        ((λ e. (so v lo hi).0 (p v lo most ∙ e)), λ e f. (so v lo hi).1 (p v lo most ∙ e) (q v lo most ∙ f))

smallest-cong : (n : ℕ) (g : Diagram) (P N P' N' : ℕ → Bool) → ((v : ℕ) → 1 ≤ v → v ≤ n → P v ≡ P' v) →
    ((v : ℕ) → 1 ≤ v → v ≤ n → N v ≡ N' v)
    → witnessed n P N g ≡ false → smallest n P N g ≡ smallest n P' N' g
smallest-cong n g P N P' N' p q open-there =
    let A : Smallest n P N g (smallest n P N g) = smallest-so n P N g open-there in
    let open-too : witnessed n P' N' g ≡ false = sym (witnessed-cong n g P N P' N' p q) ∙ open-there in
    smallest-one n P' N' g (smallest n P N g) (smallest n P' N' g)
    (record {
      long = A.long;
      agrees = agrees-cong n g P N P' N' p q (smallest n P N g) A.long A.agrees;
      false-there = A.false-there;
      least = λ b len so off. A.least b len (agrees-cong n g P' N' P N (λ v lo hi. sym (p v lo hi)) (λ v lo hi. sym (q v lo hi)) b len so)
          off;
    })
    (smallest-so n P' N' g open-too)

-- ---- the loop

-- All variables below v are decided, and the smallest assignment is the one asked for.
pub record Narrowed (n : ℕ) (g : Diagram) (u₀ u : Literals) (v : ℕ) : Type 0 where
  pub least : 1 ≤ v
  pub most : v ≤ suc n
  pub decided : Decided (in_word u.positive) (in_word u.negative) v
  pub open-there : witnessed n (in_word u.positive) (in_word u.negative) g ≡ false
  pub is : smallest n (in_word u.positive) (in_word u.negative) g ≡ smallest n (in_word u₀.positive) (in_word u₀.negative) g
  pub within : (w : ℕ) → n < w → in_word u.positive w ≡ false

pub narrowed-first : (n : ℕ) (g : Diagram) (u : Literals) → Shut n g u → Narrowed n g u u 1
narrowed-first n g u S =
    record {
      least = omega arith;
      most = omega arith;
      decided = λ w lo hi. absurd (omega (arith, lo, hi));
      open-there = S.open-there;
      is =
          refl;
      within = S.within;
    }

pub narrowed-last : (n : ℕ) (g : Diagram) (u₀ u : Literals) (v : ℕ) → Narrowed n g u₀ u v → n < v
    → assignment_of n u.positive ≡ smallest n (in_word u₀.positive) (in_word u₀.negative) g
narrowed-last n g u₀ u v W over =
    all-decided n g u.positive (in_word u.negative) (λ w lo hi. W.decided w lo (omega (arith, hi, over))) W.open-there ∙ W.is

module _ (n : ℕ) (narrow : n ≤ 64) (t : List Node) (k : ℕ) (red : Reduced 1 (suc n) (diagram_at t k)) (u₀ u : Literals) (v : ℕ)
    (W : Narrowed n (diagram_at t k) u₀ u v) (inside : v ≤ n) where
  g : Diagram
  g = diagram_at t k

  P : ℕ → Bool
  P = in_word u.positive

  N : ℕ → Bool
  N = in_word u.negative

  with-is : (w : ℕ) → (x : ℕ) → 1 ≤ x → x ≤ n → in_word (with_variable w v) x ≡ with_it (in_word w) v x
  with-is w x lo hi = in-with w v x W.least lo

  -- a set that has v already
  kept : (in_word u.positive v || in_word u.negative v) ≡ true → Narrowed n (diagram_at t k) u₀ u (suc v)
  kept has-it = record {
    least = omega arith;
    most = omega (arith, inside);
    decided = λ w lo hi. go w lo hi (eqb w v) refl;
    open-there = W.open-there;
    is = W.is;
    within = W.within;
  }
    where
      go : (w : ℕ) → 1 ≤ w → w < suc v → (e : Bool) → eqb w v ≡ e → (in_word u.positive w || in_word u.negative w) ≡ true
      go w lo hi true e = subst (λ (x : ℕ). (in_word u.positive x || in_word u.negative x) ≡ true) (sym (eqb-eq w v e)) has-it
      go w lo hi false e = W.decided w lo (omega (arith, hi, eqb-false w v e))

  one-is : (p q : ℕ) → one_at t p q k ≡ witnessed n (in_word p) (in_word q) (diagram_at t k)
  unfolding one_at witnessed
  one-is p q = witnessed-width n 64 narrow (in_word p) (in_word q) (diagram_at t k) red

  decided-more : (p q : ℕ) → ((w : ℕ) → 1 ≤ w → (in_word u.positive w || in_word u.negative w) ≡ true → (in_word p w || in_word q w)
      ≡ true)
      → (in_word p v || in_word q v) ≡ true → Decided (in_word p) (in_word q) (suc v)
  decided-more p q keeps has-it w lo hi = go (eqb w v) refl
    where
      go : (e : Bool) → eqb w v ≡ e → (in_word p w || in_word q w) ≡ true
      go true e = subst (λ (x : ℕ). (in_word p x || in_word q x) ≡ true) (sym (eqb-eq w v e)) has-it
      go false e = keeps w lo (W.decided w lo (omega (arith, hi, eqb-false w v e)))

  -- v becomes true
  made-true : P v ≡ false → N v ≡ false → one_at t u.positive (with_variable u.negative v) k ≡ true
      → Narrowed n (diagram_at t k) u₀ (record { positive = with_variable u.positive v; negative = u.negative }) (suc v)
  unfolding g P N
  made-true np nn one =
      let low-one : witnessed n P (with_it N v) g ≡ true =
      sym (witnessed-cong n g P (in_word (with_variable u.negative v)) P (with_it N v) (λ x lo hi. refl) (with-is u.negative))
      ∙ sym (one-is u.positive (with_variable u.negative v)) ∙ one in
      let (Open-after, same-one) = taken_true n g P N v W.least inside np nn W.open-there low-one in
      let open-word : witnessed n (in_word (with_variable u.positive v)) N g ≡ false =
      witnessed-cong n g (in_word (with_variable u.positive v)) N (with_it P v) N (with-is u.positive) (λ x lo hi. refl) ∙ Open-after in
      record {
        least = omega arith;
        most = omega (arith, inside);
        decided = decided-more (with_variable u.positive v) u.negative
            (λ w lo h. rw (in-with u.positive v w W.least lo) (wider (in_word u.positive w) (eqb v w) (in_word u.negative w) h))
            (rw (in-with u.positive v v W.least W.least, eq-eqb v v refl) (it (in_word u.positive v) (in_word u.negative v)));
        open-there = open-word;
        is = smallest-cong n g (in_word (with_variable u.positive v)) N (with_it P v) N (with-is u.positive) (λ x lo hi. refl) open-word
            ∙ same-one ∙ W.is;
        within = λ w over. in-with u.positive v w W.least (omega (arith, over)) ∙ beyond w over;
      }
    where
      wider : (a b c : Bool) → (a || c) ≡ true → ((a || b) || c) ≡ true
      wider true b c h = refl
      wider false true c h = refl
      wider false false c h = h

      it : (a c : Bool) → ((a || true) || c) ≡ true
      it true c = refl
      it false c = refl

      beyond : (w : ℕ) → n < w → (in_word u.positive w || eqb v w) ≡ false
      beyond w over = rw (W.within w over) (not-true (eqb v w) (λ e. absurd (omega (arith, eqb-eq v w e, over, inside))))

  -- v becomes false
  made-false : P v ≡ false → N v ≡ false → one_at t u.positive (with_variable u.negative v) k ≡ false
      → Narrowed n (diagram_at t k) u₀ (record { positive = u.positive; negative = with_variable u.negative v }) (suc v)
  unfolding g P N
  made-false np nn not-one =
      let open-word : witnessed n P (in_word (with_variable u.negative v)) g ≡ false =
      sym (one-is u.positive (with_variable u.negative v)) ∙ not-one in
      let low-open : witnessed n P (with_it N v) g ≡ false =
      sym (witnessed-cong n g P (in_word (with_variable u.negative v)) P (with_it N v) (λ x lo hi. refl) (with-is u.negative))
      ∙ open-word in
      record {
        least = omega arith;
        most = omega (arith, inside);
        decided = decided-more u.positive (with_variable u.negative v)
            (λ w lo h. rw (in-with u.negative v w W.least lo) (wider (in_word u.positive w) (eqb v w) (in_word u.negative w) h))
            (rw (in-with u.negative v v W.least W.least, eq-eqb v v refl) (it (in_word u.positive v) (in_word u.negative v)));
        open-there = open-word;
        is = smallest-cong n g P (in_word (with_variable u.negative v)) P (with_it N v) (λ x lo hi. refl) (with-is u.negative) open-word
            ∙ taken_false n g P N v W.least inside np nn W.decided W.open-there low-open ∙ W.is;
        within = W.within;
      }
    where
      wider : (a b c : Bool) → (a || c) ≡ true → (a || (c || b)) ≡ true
      wider true b c h = refl
      wider false b true h = refl
      wider false b false h = t≢f (sym h)

      it : (a c : Bool) → (a || (c || true)) ≡ true
      it true c = refl
      it false true = refl
      it false false = refl

  -- Deciding v keeps the smallest assignment.
  pub narrowed-next : Narrowed n (diagram_at t k) u₀ (decided_in t k u v) (suc v)
  unfolding decided_in P N
  narrowed-next = go (in_word u.positive v) refl (in_word u.negative v) refl (one_at t u.positive (with_variable u.negative v) k)
      refl
    where
      go : (a : Bool) → in_word u.positive v ≡ a → (b : Bool) → in_word u.negative v ≡ b → (c : Bool) →
          one_at t u.positive (with_variable u.negative v) k ≡ c
          → Narrowed n (diagram_at t k) u₀ (cond a u
          (cond b u (cond c (record { positive = with_variable u.positive v; negative = u.negative })
          (record { positive = u.positive; negative = with_variable u.negative v })))) (suc v)
      go true p b q c e = kept (or_left (in_word u.positive v) (in_word u.negative v) p)
      go false p true q c e = kept (or_right (in_word u.positive v) (in_word u.negative v) q)
      go false p false q true e = made-true p q e
      go false p false q false e = made-false p q e

  pub narrowed-on : (r : Literals) → r ≡ decided_in t k u v → Narrowed n (diagram_at t k) u₀ r (v + 1)
  narrowed-on r is =
      let one_more : v + 1 ≡ suc v = omega arith in
      subst (λ (x : ℕ). Narrowed n (diagram_at t k) u₀ r x) (sym one_more)
      (subst (λ (x : Literals). Narrowed n (diagram_at t k) u₀ x (suc v)) (sym is) narrowed-next)

-- ---- the code's cases

module _ (t : List Node) (g : ℕ) (u : Literals) (v : ℕ) where
  pub decided-positive : in_word u.positive v ≡ true → u ≡ decided_in t g u v
  unfolding decided_in
  decided-positive e = rw e

  pub decided-negative : in_word u.positive v ≡ false → in_word u.negative v ≡ true → u ≡ decided_in t g u v
  unfolding decided_in
  decided-negative e f = rw (e, f)

  pub decided-high : in_word u.positive v ≡ false → in_word u.negative v ≡ false → (off on : ℕ) → off ≡ with_variable u.negative v
      → one_at t u.positive off g ≡ true → on ≡ with_variable u.positive v → record { positive = on; negative = u.negative }
      ≡ decided_in t g u v
  unfolding decided_in
  decided-high e f off on o one is = rw (e, f, is, ap (λ (x : ℕ). one_at t u.positive x g) (sym o) ∙ one)

  pub decided-low : in_word u.positive v ≡ false → in_word u.negative v ≡ false → (off : ℕ) → off ≡ with_variable u.negative v
      → one_at t u.positive off g ≡ false → record { positive = u.positive; negative = off } ≡ decided_in t g u v
  unfolding decided_in
  decided-low e f off o not-one = rw (e, f, o, ap (λ (x : ℕ). one_at t u.positive x g) (sym o) ∙ not-one)
