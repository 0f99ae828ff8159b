-- Good order as facts: the Boolean test of the definition is true exactly where the record of plain facts holds. The idea: each test
-- of numbers is its fact, each `&&` a pair, each `all_below` a statement for every smaller number. Assumes nothing.
use Rattle.std.proofs.Common.{◌≡◌, ℕ, zero, suc, ◌<◌, ◌≤◌, Bool, true, false, not, ◌&&◌, ◌||◌, eqb, ltb, leb, ◌≢◌, List, [], ◌∷◌, length}
use Rattle.std.proofs.Common.{take, drop, sym, refl, ap, ◌∙◌, ap₂, arith, length-take-le, get_or-take, ltb-false, ltb-true, le-ltb, lt-ltb}
use Rattle.std.proofs.Common.{eq-eqb, ne_eqb, eqb-true, le-leb, leb-true}
use native.Mathlib.Decide.{ℕ_discrete, dec_lt}
use borrow.Author.Tests.{eqb-false, not-true}
use Rattle.meaning.proofs.Booleans.{t≢f, and_both}
use Rattle.table.specs.Nodes.{Node, node_of, blank, at, alike, all_blank, all_below, above, fits, is_new, nodes_in_order, good_places}

-- ---- truth values

pub both_true : (a b : Bool) → a ≡ true → b ≡ true → (a && b) ≡ true
both_true a b p q = rw (p, q)

or-second : (a b : Bool) → (a || b) ≡ true → a ≡ false → b ≡ true
or-second true b e p = t≢f p
or-second false b e p = e

all-below : (m : ℕ) (p : ℕ → Bool) → all_below m p ≡ true → (k : ℕ) → k < m → p k ≡ true
unfolding all_below
all-below zero p e k h = absurd (omega arith)
all-below (suc m) p e k h =
    let both : (all_below m p ≡ true) × (p m ≡ true) = and_both (all_below m p) (p m) e in
    elim (ℕ_discrete k m) [ yes q ↦ rw q both.1 | no n ↦ all-below m p both.0 k (omega arith) ]

every-below : (m : ℕ) (p : ℕ → Bool) → ((k : ℕ) → k < m → p k ≡ true) → all_below m p ≡ true
unfolding all_below
every-below zero p h = refl
every-below (suc m) p h = both_true (all_below m p) (p m) (every-below m p (λ k q. h k (omega arith))) (h m (omega arith))

-- ---- equal nodes

pub same-node : (x y : Node) → x.var ≡ y.var → x.low ≡ y.low → x.high ≡ y.high → x ≡ y
same-node x y v l h = ap₂ (node_of x.var) l h ∙ ap (λ (w : ℕ). node_of w y.low y.high) v

pub alike-true : (x y : Node) → alike x y ≡ true → x ≡ y
unfolding alike
alike-true x y e =
    let p : (eqb x.var y.var ≡ true) × ((eqb x.low y.low && eqb x.high y.high) ≡ true) =
    and_both (eqb x.var y.var) (eqb x.low y.low && eqb x.high y.high) e in
    let q : (eqb x.low y.low ≡ true) × (eqb x.high y.high ≡ true) =
    and_both (eqb x.low y.low) (eqb x.high y.high) p.1 in
    same-node x y (eqb-true x.var y.var p.0) (eqb-true x.low y.low q.0) (eqb-true x.high y.high q.1)

same_alike : (x y : Node) → x ≡ y → alike x y ≡ true
unfolding alike
same_alike x y e = rw (
  eq-eqb x.var y.var (ap (λ (z : Node). z.var) e),
  eq-eqb x.low y.low (ap (λ (z : Node). z.low) e),
  eq-eqb x.high y.high (ap (λ (z : Node). z.high) e),
)

pub alike-false : (x y : Node) → alike x y ≡ false → x ≢ y
alike-false x y e q = t≢f (sym (same_alike x y q) ∙ e)

pub differ-alike : (x y : Node) → x ≢ y → alike x y ≡ false
differ-alike x y n = go (alike x y) refl
  where
    go : (b : Bool) → alike x y ≡ b → b ≡ false
    go true e = absurd (n (alike-true x y e))
    go false e = refl

-- ---- blank places

pub all-blank : (xs : List Node) → all_blank xs ≡ true → (k : ℕ) → at xs k ≡ blank
unfolding all_blank
all-blank [] e k = refl
all-blank (x ∷ xs) e zero = alike-true x blank (and_both (alike x blank) (all_blank xs) e).0
all-blank (x ∷ xs) e (suc k) = all-blank xs (and_both (alike x blank) (all_blank xs) e).1 k

pub every-blank : (xs : List Node) → ((k : ℕ) → k < length xs → at xs k ≡ blank) → all_blank xs ≡ true
unfolding all_blank
every-blank [] h = refl
every-blank (x ∷ xs) h = both_true (alike x blank) (all_blank xs) (same_alike x blank (h 0 (omega arith)))
    (every-blank xs (λ k p. h (suc k) (omega arith)))

-- ---- one node

-- What good order asks of the node x at place k.
pub record Fits (t : List Node) (k : ℕ) (x : Node) : Type 0 where
  pub least : 1 ≤ x.var
  pub most : x.var ≤ 64
  pub low-less : x.low < k
  pub high-less : x.high < k
  pub above_low : 2 ≤ x.low → x.var < (at t x.low).var
  pub above-high : 2 ≤ x.high → x.var < (at t x.high).var
  pub differ : x.low ≢ x.high

pub above-true : (t : List Node) (v child : ℕ) → above t v child ≡ true → 2 ≤ child → v < (at t child).var
unfolding above
above-true t v child e h = ltb-true v (at t child).var (or-second (ltb child 2) (ltb v (at t child).var) e (le-ltb child 2 h))

true-above : (t : List Node) (v child : ℕ) → (2 ≤ child → v < (at t child).var) → above t v child ≡ true
unfolding above
true-above t v child h = go (ltb child 2) refl
  where
    go : (b : Bool) → ltb child 2 ≡ b → (b || ltb v (at t child).var) ≡ true
    go true e = refl
    go false e = lt-ltb v (at t child).var (h (ltb-false child 2 e))

pub fits-true : (t : List Node) (k : ℕ) (x : Node) → fits t k x ≡ true → Fits t k x
unfolding fits
fits-true t k x e =
    let p = and_both (leb 1 x.var && leb x.var 64)
    ((above t x.var x.low && above t x.var x.high) && ((ltb x.low k && ltb x.high k) && not (eqb x.low x.high)))
    e in
    let v = and_both (leb 1 x.var) (leb x.var 64) p.0 in
    let q = and_both (above t x.var x.low && above t x.var x.high)
    ((ltb x.low k && ltb x.high k) && not (eqb x.low x.high)) p.1 in
    let a = and_both (above t x.var x.low) (above t x.var x.high) q.0 in
    let r = and_both (ltb x.low k && ltb x.high k) (not (eqb x.low x.high)) q.1 in
    let c = and_both (ltb x.low k) (ltb x.high k) r.0 in
    record {
      least = leb-true 1 x.var v.0;
      most = leb-true x.var 64 v.1;
      low-less = ltb-true x.low k c.0;
      high-less = ltb-true x.high k c.1;
      above_low = above-true t x.var x.low a.0;
      above-high = above-true t x.var x.high a.1;
      differ = eqb-false x.low x.high (not-true (eqb x.low x.high) r.1);
    }

pub true-fits : (t : List Node) (k : ℕ) (x : Node) → Fits t k x → fits t k x ≡ true
unfolding fits
true-fits t k x F =
    rw (
      le-leb 1 x.var F.least,
      le-leb x.var 64 F.most,
      true-above t x.var x.low F.above_low,
      true-above t x.var x.high F.above-high,
      lt-ltb x.low k F.low-less,
      lt-ltb x.high k F.high-less,
      ne_eqb x.low x.high F.differ,
    )

-- ---- all nodes

-- Good order of the nodes t, places 0 and 1 included.
pub record Ordered (t : List Node) : Type 0 where
  pub two : 2 ≤ length t
  pub first : at t 0 ≡ blank
  pub second : at t 1 ≡ blank
  pub fits : (k : ℕ) → 2 ≤ k → k < length t → Fits t k (at t k)
  pub alike : (j k : ℕ) → 2 ≤ j → j < length t → 2 ≤ k → k < length t → at t j ≡ at t k → j ≡ k

is-new : (t : List Node) (k : ℕ) → is_new t k ≡ true → (j : ℕ) → 2 ≤ j → j < k → at t j ≢ at t k
unfolding is_new
is-new t k e j h p =
    alike-false (at t j) (at t k) (not-true (alike (at t j) (at t k))
    (or-second (ltb j 2) (not (alike (at t j) (at t k))) (all-below k (λ i. ltb i 2 || not (alike (at t i) (at t k))) e j p)
    (le-ltb j 2 h)))

new_is : (t : List Node) (k : ℕ) → ((j : ℕ) → 2 ≤ j → j < k → at t j ≢ at t k) → is_new t k ≡ true
unfolding is_new
new_is t k h = every-below k (λ i. ltb i 2 || not (alike (at t i) (at t k))) (λ j p. go j p (ltb j 2) refl)
  where
    go : (j : ℕ) → j < k → (b : Bool) → ltb j 2 ≡ b → (b || not (alike (at t j) (at t k))) ≡ true
    go j p true e = refl
    go j p false e = rw (differ-alike (at t j) (at t k) (h j (ltb-false j 2 e) p))

module _ (t : List Node) (e : nodes_in_order t ≡ true) (two : 2 ≤ length t) where
  parts : (all_blank (take 2 t) ≡ true) × (all_below (length t) (λ k. ltb k 2 || (fits t k (at t k) && is_new t k)) ≡ true)
  unfolding nodes_in_order
  parts = and_both (all_blank (take 2 t)) (all_below (length t) (λ k. ltb k 2 || (fits t k (at t k) && is_new t k))) e

  first-blank : (k : ℕ) → k < 2 → at t k ≡ blank
  first-blank k h = sym (get_or-take 2 t k blank h) ∙ all-blank (take 2 t) parts.0 k

  node-parts : (k : ℕ) → 2 ≤ k → k < length t → (fits t k (at t k) ≡ true) × (is_new t k ≡ true)
  node-parts k h p =
      and_both (fits t k (at t k)) (is_new t k)
      (or-second (ltb k 2) (fits t k (at t k) && is_new t k)
      (all-below (length t) (λ k. ltb k 2 || (fits t k (at t k) && is_new t k)) parts.1 k p) (le-ltb k 2 h))

  pub ordered : Ordered t
  ordered =
      record {
        two = two;
        first = first-blank 0 (omega arith);
        second = first-blank 1 (omega arith);
        fits = λ k h p. fits-true t k (at t k) (node-parts k h p).0;
        alike = λ j k a p b q same. elim (dec_lt j k) [
          | yes l ↦ absurd (is-new t k (node-parts k b q).1 j a l same)
          | no l ↦ elim (dec_lt k j) [ yes m ↦ absurd (is-new t j (node-parts j a p).1 k b m (sym same)) | no m ↦ omega arith ]
        ];
      }

pub in_order : (t : List Node) → Ordered t → nodes_in_order t ≡ true
unfolding nodes_in_order
in_order t O =
    both_true (all_blank (take 2 t)) (all_below (length t) (λ k. ltb k 2 || (fits t k (at t k) && is_new t k)))
    (every-blank (take 2 t) (λ k h. blanks k (omega (arith, length-take-le 2 t O.two))))
    (every-below (length t) (λ k. ltb k 2 || (fits t k (at t k) && is_new t k)) (λ k p. go k p (ltb k 2) refl))
  where
    blanks : (k : ℕ) → k < 2 → at (take 2 t) k ≡ blank
    blanks zero h = get_or-take 2 t 0 blank h ∙ O.first
    blanks (suc zero) h = get_or-take 2 t 1 blank h ∙ O.second
    blanks (suc (suc k)) h = absurd (omega arith)

    go : (k : ℕ) → k < length t → (b : Bool) → ltb k 2 ≡ b → (b || (fits t k (at t k) && is_new t k)) ≡ true
    go k p true e = refl
    go k p false e =
        let h : 2 ≤ k = ltb-false k 2 e in
        both_true (fits t k (at t k)) (is_new t k) (true-fits t k (at t k) (O.fits k h p))
        (new_is t k (λ j a l same. let z : j ≡ k = O.alike j k a (omega arith) h p same in absurd (omega arith)))

-- ---- a table lent in full

pub record GoodPlaces (rows : List Node) (count : ℕ) : Type 0 where
  pub least : 2 ≤ count
  pub within : count ≤ length rows
  pub ordered : Ordered (take count rows)
  pub rest : all_blank (drop count rows) ≡ true

pub good-places : (rows : List Node) (count : ℕ) → good_places rows count ≡ true → GoodPlaces rows count
unfolding good_places
good-places rows count e =
    let p = and_both (leb 2 count && leb count (length rows)) (nodes_in_order (take count rows) && all_blank (drop count rows)) e in
    let n = and_both (leb 2 count) (leb count (length rows)) p.0 in
    let q = and_both (nodes_in_order (take count rows)) (all_blank (drop count rows)) p.1 in
    let least : 2 ≤ count = leb-true 2 count n.0 in
    let within : count ≤ length rows = leb-true count (length rows) n.1 in
    record {
      least = least;
      within = within;
      ordered = ordered (take count rows) q.0 (omega (arith, length-take-le count rows within));
      rest = q.1;
    }

pub in-good-places : (rows : List Node) (count : ℕ) → GoodPlaces rows count → good_places rows count ≡ true
unfolding good_places
in-good-places rows count G =
    rw (le-leb 2 count G.least, le-leb count (length rows) G.within, in_order (take count rows) G.ordered, G.rest)
