-- Heads counted: where the nodes that are heads and the heads that are 0 are together as many as the heads, each head is 0 or a node of its
-- chain. The idea: a node heads one chain at most, its own; so each node that is a head is one more of the heads that are nodes of their
-- chains. Assumes nothing.
use mathlib.Core.Path.{◌≡◌, refl, sym, ap, ◌∙◌, subst}
use mathlib.Core.Logic.{◌≢◌}
use mathlib.Core.Bool.{Bool, true, false, ◌&&◌}
use mathlib.Core.List.{List}
use Prim.Native.Nat.{ℕ, zero, suc, ◌+◌, ◌≤◌, ◌<◌}
use native.Mathlib.Omega.{arith}
use native.Mathlib.Decide.{ℕ_discrete}
use lib.ListN.{length, get_or}
use lib.Dec.{eqb, ltb}
use borrow.Table.Steps.{cases}
use borrow.Author.Tests.{lt-ltb, ltb-true, eq-eqb, ne_eqb, eqb-true, eqb-false}
use Rattle.meaning.proofs.Booleans.{t≢f, not-true, both_ways, and_both}
use Rattle.table.proofs.Order.{both_true}
use Rattle.table.specs.Indexed.{Table}
use Rattle.good_order.specs.Tested.{Decides, chain_at, AllInChain, HeadsFit, many, zeros_in}

-- ---- how many pass a test

module _ (p : ℕ → Bool) where
  many-none : many p 0 ≡ 0
  unfolding many
  many-none = refl

  many-yes : (n : ℕ) → p n ≡ true → many p (suc n) ≡ suc (many p n)
  unfolding many
  many-yes n e = rw e refl

  many-no : (n : ℕ) → p n ≡ false → many p (suc n) ≡ many p n
  unfolding many
  many-no n e = rw e refl

  pub many-most : (n : ℕ) → many p n ≤ n
  many-most zero = omega (arith, many-none)
  many-most (suc n) = cases (p n) (λ e. omega (arith, many-yes n e, many-most n)) (λ e. omega (arith, many-no n e, many-most n))

  many-empty : ((b : ℕ) → p b ≡ true → ⊥) → (n : ℕ) → many p n ≡ 0
  many-empty never zero = many-none
  many-empty never (suc n) = many-no n (not-true (p n) (never n)) ∙ many-empty never n

module _ (p q : ℕ → Bool) where
  many-same : (n : ℕ) → ((b : ℕ) → b < n → p b ≡ q b) → many p n ≡ many q n
  many-same zero same = many-none p ∙ sym (many-none q)
  many-same (suc n) same =
      let m : many p n ≡ many q n = many-same n (λ b lt. same b (omega arith)) in
      let e : p n ≡ q n = same n (omega arith) in
      cases (p n) (λ y. many-yes p n y ∙ ap suc m ∙ sym (many-yes q n (sym e ∙ y))) (λ y. many-no p n y ∙ m ∙ sym (many-no q n (sym e ∙ y)))

  -- q holds of one number more
  many-one : (a n : ℕ) → a < n → p a ≡ false → q a ≡ true → ((b : ℕ) → b < n → b ≢ a → p b ≡ q b) → many q n ≡ suc (many p n)
  many-one a zero lt out inside same = absurd (omega arith)
  many-one a (suc n) lt out inside same = elim (ℕ_discrete n a) [
    | yes z ↦
        let m : many p n ≡ many q n = many-same n (λ b l. same b (omega arith) (λ y. absurd (omega arith))) in
        many-yes q n (ap q z ∙ inside) ∙ ap suc (sym m) ∙ ap suc (sym (many-no p n (ap p z ∙ out)))
    | no z ↦
        let m : many q n ≡ suc (many p n) = many-one a n (omega (arith, z)) out inside (λ b l. same b (omega arith)) in
        let e : p n ≡ q n = same n (omega arith) z in
        cases (p n) (λ y. many-yes q n (sym e ∙ y) ∙ ap suc m ∙ ap suc (sym (many-yes p n y)))
        (λ y. many-no q n (sym e ∙ y) ∙ m ∙ ap suc (sym (many-no p n y)))
  ]

-- two tests of which one number never passes both
module _ (p q : ℕ → Bool) (apart : (b : ℕ) → p b ≡ true → q b ≡ false) where
  both_most : (n : ℕ) → many p n + many q n ≤ n
  both_most zero = omega (arith, many-none p, many-none q)
  both_most (suc n) = cases (p n) (λ x. omega (arith, both_most n, many-yes p n x, many-no q n (apart n x)))
      (λ x. cases (q n) (λ y. omega (arith, both_most n, many-no p n x, many-yes q n y))
      (λ y. omega (arith, both_most n, many-no p n x, many-no q n y)))

  all-each : (n : ℕ) → many p n + many q n ≡ n → (b : ℕ) → b < n → q b ≡ false → p b ≡ true
  all-each zero all b lt e = absurd (omega arith)
  all-each (suc n) all b lt e = cases (p n)
      (λ x. elim (ℕ_discrete b n) [
        | yes z ↦ ap p z ∙ x
        | no z ↦ all-each n (omega (arith, all, many-yes p n x, many-no q n (apart n x))) b (omega (arith, z)) e
      ])
      (λ x. cases (q n)
      (λ y. elim (ℕ_discrete b n) [
        | yes z ↦ t≢f (sym y ∙ ap q (sym z) ∙ e)
        | no z ↦ all-each n (omega (arith, all, many-no p n x, many-yes q n y)) b (omega (arith, z)) e
      ])
      (λ y. absurd (omega (arith, all, both_most n, many-no p n x, many-no q n y))))

  each_all : (n : ℕ) → ((b : ℕ) → b < n → q b ≡ false → p b ≡ true) → many p n + many q n ≡ n
  each_all zero each = omega (arith, many-none p, many-none q)
  each_all (suc n) each =
      let rest : many p n + many q n ≡ n = each_all n (λ b lt. each b (omega arith)) in
      cases (q n)
      (λ y. cases (p n) (λ x. t≢f (sym y ∙ apart n x)) (λ x. omega (arith, rest, many-no p n x, many-yes q n y)))
      (λ y. omega (arith, rest, many-yes p n (each n (omega arith) y), many-no q n y))

-- ---- zeros of a column, counted on

module _ (column : List ℕ) where
  pub zeros-none : zeros_in column 0 ≡ 0
  zeros-none = many-none (λ k. eqb (get_or column k 0) 0)

  pub zeros-most : (i : ℕ) → zeros_in column i ≤ i
  zeros-most = many-most (λ k. eqb (get_or column k 0) 0)

  pub zeros-more : (i : ℕ) → get_or column i 0 ≡ 0 → zeros_in column (i + 1) ≡ zeros_in column i + 1
  zeros-more i e = subst (λ (x : ℕ). zeros_in column x ≡ zeros_in column i + 1) next
      (many-yes (λ k. eqb (get_or column k 0) 0) i (eq-eqb (get_or column i 0) 0 e) ∙ one (zeros_in column i))
    where
      next : suc i ≡ i + 1
      next = omega arith

      one : (n : ℕ) → suc n ≡ n + 1
      one n = omega arith

  pub zeros-as-before : (i : ℕ) → (get_or column i 0 ≡ 0 → ⊥) → zeros_in column (i + 1) ≡ zeros_in column i
  zeros-as-before i ne = subst (λ (x : ℕ). zeros_in column x ≡ zeros_in column i) next
      (many-no (λ k. eqb (get_or column k 0) 0) i (ne_eqb (get_or column i 0) 0 ne))
    where
      next : suc i ≡ i + 1
      next = omega arith

-- ---- heads that are nodes

module _ (T : Table) where
  abbrev head : ℕ → ℕ
  head b = get_or T.heads b 0

  abbrev heads : ℕ
  heads = length T.heads

  -- whether head b is a node of its chain below place m
  pub own : ℕ → ℕ → Bool
  own m b = ltb 1 (get_or T.heads b 0) && (ltb (get_or T.heads b 0) m && eqb (chain_at T (get_or T.heads b 0)) b)

  own-true : (m b : ℕ) → own m b ≡ true → (2 ≤ head b) × (head b < m) × (chain_at T (head b) ≡ b)
  unfolding own
  own-true m b e =
      let p = and_both (ltb 1 (head b)) (ltb (head b) m && eqb (chain_at T (head b)) b) e in
      let q = and_both (ltb (head b) m) (eqb (chain_at T (head b)) b) p.1 in
      let two : 1 < head b = ltb-true 1 (head b) p.0 in
      (omega arith, ltb-true (head b) m q.0, eqb-true (chain_at T (head b)) b q.1)

  true-own : (m b : ℕ) → 2 ≤ head b → head b < m → chain_at T (head b) ≡ b → own m b ≡ true
  unfolding own
  true-own m b two lt e = both_true (ltb 1 (head b)) (ltb (head b) m && eqb (chain_at T (head b)) b) (lt-ltb 1 (head b) (omega arith))
      (both_true (ltb (head b) m) (eqb (chain_at T (head b)) b) (lt-ltb (head b) m lt) (eq-eqb (chain_at T (head b)) b e))

  -- place k makes no difference to a head that is not its own
  own-next : (k b : ℕ) → (head b ≡ k → chain_at T k ≡ b → ⊥) → own k b ≡ own (k + 1) b
  own-next k b other = both_ways (own k b) (own (k + 1) b)
      (λ e. let o = own-true k b e in true-own (k + 1) b o.0 (omega (arith, o.1)) o.2)
      (λ e. let o = own-true (k + 1) b e in true-own k b o.0
      (elim (ℕ_discrete (head b) k) [
        | yes z ↦ absurd (other z (subst (λ (x : ℕ). chain_at T x ≡ b) z o.2))
        | no z ↦ omega (arith, o.1, z)
      ]) o.2)

  pub counted_none : 0 ≡ many (own 2) heads
  counted_none = sym (many-empty (own 2) (λ b e. let o = own-true 2 b e in absurd (omega (arith, o.0, o.1))) heads)

  pub counted-head : (k first : ℕ) → 2 ≤ k → chain_at T k < heads → head (chain_at T k) ≡ k → first ≡ many (own k) heads
      → first + 1 ≡ many (own (k + 1)) heads
  counted-head k first two lt e counted =
      let more : many (own (k + 1)) heads ≡ suc (many (own k) heads) =
      many-one (own k) (own (k + 1)) (chain_at T k) heads lt
      (not-true (own k (chain_at T k)) (λ y. let o = own-true k (chain_at T k) y in absurd (omega (arith, o.1, e))))
      (true-own (k + 1) (chain_at T k) (omega (arith, e)) (omega (arith, e)) (ap (chain_at T) e))
      (λ b _ ne. own-next k b (λ _ z. ne (sym z))) in
      omega (arith, more, counted)

  pub counted-behind : (k first : ℕ) → head (chain_at T k) ≢ k → first ≡ many (own k) heads → first ≡ many (own (k + 1)) heads
  counted-behind k first ne counted = counted ∙ many-same (own k) (own (k + 1)) heads (λ b _. own-next k b (λ z e. ne (ap head e ∙ z)))

  -- ---- the two counts

  abbrev none : ℕ → Bool
  none b = eqb (get_or T.heads b 0) 0

  own-some : (b : ℕ) → own T.count b ≡ true → none b ≡ false
  own-some b e = ne_eqb (head b) 0 (λ z. let o = own-true T.count b e in absurd (omega (arith, o.0, z)))

  pub heads-decided : (first zeros : ℕ) → first ≡ many (own T.count) heads → zeros ≡ zeros_in T.heads heads →
      AllInChain T T.count → Decides (eqb (first + zeros) heads) (AllInChain T T.count × HeadsFit T)
  heads-decided first zeros p q A = record {
    yes = λ e. (
      A,
      λ b lt some. own-true T.count b
          (all-each (own T.count) none own-some heads (omega (arith, eqb-true (first + zeros) heads e, p, q)) b lt
          (ne_eqb (head b) 0 some)),
    );
    no = λ e fits. eqb-false (first + zeros) heads e (
        let each : many (own T.count) heads + many none heads ≡ heads = each_all (own T.count) none own-some heads
        (λ b lt z. let o = fits.1 b lt (eqb-false (head b) 0 z) in true-own T.count b o.0 o.1 o.2) in
        omega (arith, each, p, q));
  }
