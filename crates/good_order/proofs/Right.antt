-- Good order with its index is what the read-only test asks: the literal heads and links are the last of their chains, a table in good
-- order passes each test, and one that passes all is in good order. The idea: both sides are the same facts of places. Assumes nothing.
use mathlib.Core.Path.{◌≡◌, refl, sym, ap, ap₂, ◌∙◌, subst}
use mathlib.Core.Bool.{Bool, true, false, ◌&&◌, cond}
use mathlib.Core.List.{List}
use Prim.Native.Nat.{ℕ, zero, suc, ◌+◌, ◌-◌, ◌*◌, ◌≤◌, ◌<◌}
use native.Mathlib.Omega.{arith}
use native.Mathlib.Decide.{ℕ_discrete, dec_lt}
use lib.ListN.{length, get_or, take, drop}
use lib.Seq.{ext_get_or, get_or-take, length-take-le}
use lib.Dec.{ltb}
use borrow.Author.Tests.{lt-ltb, le-ltb}
use Rattle.table.specs.Nodes.{Node, blank, at, all_blank, fits, good_places}
use Rattle.table.specs.Indexed.{Table, size}
use Rattle.meaning.proofs.Booleans.{and_both}
use Rattle.table.proofs.Order.{both_true, all-blank, Fits, fits-true, true-fits, GoodPlaces, good-places, in-good-places}
use Rattle.table.proofs.Written.{length-rows}
use Rattle.table.proofs.Index.{bucket-less, last_in, last-is, last-here, last-before, last_none, Last}
use Rattle.table.specs.Index.{bucket, bucket_at, highest, heads_of, links_of, same_numbers, good_order}
use Rattle.good_order.specs.Tested.{LentSizes, places_of, chain_at, Comes, Empty, NodesFit, HeadsFit, AllInChain}
use Rattle.good_order.proofs.Paths.{Tested, right-reaches, head-last, link-last, none_alike}
use Rattle.table.proofs.Literal.{same_true, true_same, highest-few, highest-last, length-listed, listed_at}

-- ---- the last of a chain

last-same : (f g : ℕ → ℕ) (b j : ℕ) → ((k : ℕ) → 2 ≤ k → k < suc (suc j) → f k ≡ g k) → last_in f b j ≡ last_in g b j
last-same f g b zero same = last_none f b ∙ sym (last_none g b)
last-same f g b (suc j) same =
    let e : f (suc (suc j)) ≡ g (suc (suc j)) = same (suc (suc j)) (omega arith) (omega arith) in
    let before : last_in f b j ≡ last_in g b j = last-same f g b j (λ k p q. same k p (omega arith)) in
    elim (ℕ_discrete (f (suc (suc j))) b) [
      | yes q ↦ last-here f b j q ∙ sym (last-here g b j (sym e ∙ q))
      | no q ↦ last-before f b j q ∙ before ∙ sym (last-before g b j (λ z. q (e ∙ z)))
    ]

-- a node's link is a lower place
pub link-less : (T : Table) → NodesFit T T.count → (k : ℕ) → 2 ≤ k → k < T.count → get_or T.links k 0 < k
link-less T N k two lt = elim (ℕ_discrete (get_or T.links k 0) 0) [ yes z ↦ omega (arith, z) | no z ↦ ((N k two lt).1 z).1 ]

-- ---- the facts

pub record Right (T : Table) : Type 0 where
  pub order : GoodPlaces (places_of T) T.count
  pub heads : (b : ℕ) → b < length T.heads → get_or T.heads b 0 ≡ last_in (chain_at T) b (T.count - 2)
  pub links : (k : ℕ) → 2 ≤ k → k < T.count → get_or T.links k 0 ≡ last_in (chain_at T) (chain_at T k) (k - 2)
  pub first : Empty T.links 0 2
  pub past : Empty T.links T.count (size T)

module _ (T : Table) (E : LentSizes T) where
  abbrev places : List Node
  places = places_of T

  abbrev nodes : List Node
  nodes = take T.count (places_of T)

  abbrev s : ℕ
  s = length (places_of T)

  length-places : length places ≡ size T
  length-places = length-rows T.vars T.lows T.highs E.lows E.highs

  length-nodes : length nodes ≡ T.count
  length-nodes = length-take-le T.count places (omega (arith, length-places, E.within))

  node_at : (k : ℕ) → k < T.count → at nodes k ≡ at places k
  node_at k lt = get_or-take T.count places k blank lt

  heads-many : length T.heads ≡ 2 * s
  heads-many = omega (arith, E.heads, length-places)

  chain_same : (k : ℕ) → k < T.count → bucket_at (2 * s) nodes k ≡ chain_at T k
  chain_same k lt =
      ap (λ (x : Node). bucket (2 * s) x.var x.low x.high) (node_at k lt)
      ∙ ap (λ (n : ℕ). bucket_at n places k) (sym heads-many)

  pub chain-less : (k : ℕ) → chain_at T k < length T.heads
  chain-less k = bucket-less (length T.heads) (at places k).var (at places k).low (at places k).high
      (omega (arith, E.heads, E.within, E.least))

  -- ---- the literal index

  highest-is : (b m : ℕ) → suc (suc m) ≤ T.count → highest (2 * s) nodes b (suc (suc m)) ≡ last_in (chain_at T) b m
  highest-is b m le = highest-last (2 * s) nodes b m ∙ last-same (bucket_at (2 * s) nodes) (chain_at T) b m
      (λ k p q. chain_same k (omega arith))

  head-literal : (b : ℕ) → b < length T.heads → get_or (heads_of s nodes) b 0 ≡ last_in (chain_at T) b (T.count - 2)
  unfolding heads_of
  head-literal b lt =
      let y : 0 + b ≡ b = omega arith in
      let z : length nodes ≡ suc (suc (T.count - 2)) = omega (arith, length-nodes, E.least) in
      listed_at 0 (2 * s) (λ b. highest (2 * s) nodes b (length nodes)) b (omega (arith, heads-many))
      ∙ rw y (ap (highest (2 * s) nodes b) z ∙ highest-is b (T.count - 2) (omega (arith, E.least)))

  link-listed : (k : ℕ) → k < s → get_or (links_of s nodes) k 0 ≡ cond (ltb k (length nodes))
      (highest (2 * s) nodes (bucket_at (2 * s) nodes k) k) 0
  unfolding links_of
  link-listed k lt =
      let y : 0 + k ≡ k = omega arith in
      listed_at 0 s (λ k. cond (ltb k (length nodes)) (highest (2 * s) nodes (bucket_at (2 * s) nodes k) k) 0) k lt ∙ rw y

  link-literal : (k : ℕ) → 2 ≤ k → k < T.count → get_or (links_of s nodes) k 0 ≡ last_in (chain_at T) (chain_at T k) (k - 2)
  link-literal k two lt =
      let z : k ≡ suc (suc (k - 2)) = omega arith in
      link-listed k (omega (arith, length-places, E.within))
      ∙ rw (lt-ltb k (length nodes) (omega (arith, length-nodes)))
      (ap₂ (λ (b m : ℕ). highest (2 * s) nodes b m) (chain_same k lt) z ∙ highest-is (chain_at T k) (k - 2) (omega arith))

  link-first : (k : ℕ) → k < 2 → get_or (links_of s nodes) k 0 ≡ 0
  link-first k lt =
      link-listed k (omega (arith, length-places, E.within, E.least))
      ∙ rw (lt-ltb k (length nodes) (omega (arith, length-nodes, E.least))) (highest-few (2 * s) nodes (bucket_at (2 * s) nodes k) k lt)

  link-past : (k : ℕ) → T.count ≤ k → k < size T → get_or (links_of s nodes) k 0 ≡ 0
  link-past k le lt = link-listed k (omega (arith, length-places)) ∙ rw (le-ltb k (length nodes) (omega (arith, length-nodes)))

  length-heads_of : length (heads_of s nodes) ≡ 2 * s
  unfolding heads_of
  length-heads_of = length-listed 0 (2 * s) (λ b. highest (2 * s) nodes b (length nodes))

  length-links_of : length (links_of s nodes) ≡ s
  unfolding links_of
  length-links_of = length-listed 0 s (λ k. cond (ltb k (length nodes)) (highest (2 * s) nodes (bucket_at (2 * s) nodes k) k) 0)

  -- ---- the definition is the facts

  abbrev claim : Bool
  claim = good_order (places_of T) T.count T.heads T.links

  pub right : claim ≡ true → Right T
  unfolding good_order
  right e =
      let p = and_both (good_places places T.count) (same_numbers T.heads (heads_of s nodes) && same_numbers T.links (links_of s nodes))
      e in
      let q = and_both (same_numbers T.heads (heads_of s nodes)) (same_numbers T.links (links_of s nodes)) p.1 in
      let d : T.heads ≡ heads_of s nodes = same_true T.heads (heads_of s nodes) q.0 in
      let k : T.links ≡ links_of s nodes = same_true T.links (links_of s nodes) q.1 in
      record {
        order = good-places places T.count p.0;
        heads = λ b lt. ap (λ (x : List ℕ). get_or x b 0) d ∙ head-literal b lt;
        links = λ i two lt. ap (λ (x : List ℕ). get_or x i 0) k ∙ link-literal i two lt;
        first = λ i _ lt. ap (λ (x : List ℕ). get_or x i 0) k ∙ link-first i lt;
        past = λ i le lt. ap (λ (x : List ℕ). get_or x i 0) k ∙ link-past i le lt;
      }

  link-is : Right T → (k : ℕ) → k < length T.links → get_or T.links k 0 ≡ get_or (links_of s nodes) k 0
  link-is R k lt = elim (dec_lt k 2) [
    | yes a ↦ R.first k (omega arith) a ∙ sym (link-first k a)
    | no a ↦ elim (dec_lt k T.count) [
      | yes b ↦ R.links k (omega (arith, a)) b ∙ sym (link-literal k (omega (arith, a)) b)
      | no b ↦ R.past k (omega (arith, b)) (omega (arith, E.links)) ∙ sym (link-past k (omega (arith, b)) (omega (arith, E.links)))
    ]
  ]

  pub right-claim : Right T → claim ≡ true
  unfolding good_order
  right-claim R =
      both_true (good_places places T.count) (same_numbers T.heads (heads_of s nodes) && same_numbers T.links (links_of s nodes))
      (in-good-places places T.count R.order)
      (both_true (same_numbers T.heads (heads_of s nodes)) (same_numbers T.links (links_of s nodes))
      (true_same T.heads (heads_of s nodes) (ext_get_or 0 T.heads (heads_of s nodes) (heads-many ∙ sym length-heads_of)
      (λ b lt. R.heads b lt ∙ sym (head-literal b lt))))
      (true_same T.links (links_of s nodes) (ext_get_or 0 T.links (links_of s nodes) (E.links ∙ sym length-places ∙ sym length-links_of)
      (λ k lt. link-is R k lt))))

  pub refused : (Right T → ⊥) → claim ≡ false
  refused no-right = go claim refl
    where
      go : (b : Bool) → claim ≡ b → b ≡ false
      go true e = absurd (no-right (right e))
      go false e = refl

  -- ---- a right table passes

  fits-places : Right T → (k : ℕ) → 2 ≤ k → k < T.count → fits places k (at places k) ≡ true
  fits-places R k two lt =
      let F : Fits nodes k (at places k) = subst (Fits nodes k) (node_at k lt) (R.order.ordered.fits k two (omega (arith, length-nodes)))
      in
      true-fits places k (at places k) (record {
        least = F.least;
        most = F.most;
        low-less = F.low-less;
        high-less = F.high-less;
        above_low = rw (sym (node_at (at places k).low (omega (arith, F.low-less)))) F.above_low;
        above-high = rw (sym (node_at (at places k).high (omega (arith, F.high-less)))) F.above-high;
        differ = F.differ;
      })

  pub nodes-pass : Right T → NodesFit T T.count
  nodes-pass R k two lt = (
    fits-places R k two lt,
    λ ne.
        let e = R.links k two lt in
        let L : Last (chain_at T) (chain_at T k) (k - 2) (last_in (chain_at T) (chain_at T k) (k - 2)) =
        last-is (chain_at T) (chain_at T k) (k - 2) (λ z. ne (e ∙ z)) in
        (omega (arith, e, L.from), omega (arith, e, L.below), ap (chain_at T) e ∙ L.is),
  )

  pub heads-pass : Right T → HeadsFit T
  heads-pass R b lt ne =
      let e = R.heads b lt in
      let L : Last (chain_at T) b (T.count - 2) (last_in (chain_at T) b (T.count - 2)) =
      last-is (chain_at T) b (T.count - 2) (λ z. ne (e ∙ z)) in
      (omega (arith, e, L.from), omega (arith, e, L.below, E.least), ap (chain_at T) e ∙ L.is)

  apart : Right T → (j k : ℕ) → 2 ≤ k → k < j → j < T.count → at places j ≡ at places k → ⊥
  apart R j k two lt inside e =
      let q : j ≡ k = R.order.ordered.alike j k (omega arith) (omega (arith, length-nodes)) two (omega (arith, length-nodes))
      (node_at j inside ∙ e ∙ sym (node_at k (omega arith))) in
      absurd (omega arith)

  pub all_pass : Right T → AllInChain T T.count
  all_pass R k two lt =
      subst (Comes T k) (sym (R.heads (chain_at T k) (chain-less k)))
      (right-reaches T.count (chain_at T) (λ i. get_or T.links i 0) (λ i. at places i ≡ at places k → ⊥) k two
      (λ j p q. apart R j k two p q)
      (λ j p q. R.links j p q) (suc (T.count - 2)) (T.count - 2) (omega arith) (omega (arith, E.least)) (omega (arith, E.least)))

  -- ---- a table that passes is right

  module _ (zeros : all_blank (take 2 (places_of T)) ≡ true) (rest : all_blank (drop T.count (places_of T)) ≡ true)
      (first : Empty T.links 0 2) (past : Empty T.links T.count (size T))
      (N : NodesFit T T.count) (H : HeadsFit T) (A : AllInChain T T.count) where
    W : Tested T.count (length T.heads) (chain_at T) (λ b. get_or T.heads b 0) (λ k. get_or T.links k 0)
        (λ j k. at places j ≡ at places k)
    W = record {
      falls = link-less T N;
      linked = λ k two lt ne. (((N k two lt).1 ne).0, ((N k two lt).1 ne).2);
      headed = H;
      reached = A;
    }

    alone : (j k : ℕ) → 2 ≤ j → j < k → k < T.count → at nodes j ≡ at nodes k → ⊥
    alone j k two lt inside e =
        let q : at places j ≡ at places k = sym (node_at j (omega arith)) ∙ e ∙ node_at k inside in
        none_alike T.count (length T.heads) (chain_at T) (λ b. get_or T.heads b 0) (λ k. get_or T.links k 0)
        (λ j k. at places j ≡ at places k) W j k two lt inside
        (ap (λ (x : Node). bucket (length T.heads) x.var x.low x.high) q) (sym q)

    fits-nodes : (k : ℕ) → 2 ≤ k → k < T.count → Fits nodes k (at nodes k)
    fits-nodes k two lt =
        let F : Fits places k (at places k) = fits-true places k (at places k) (N k two lt).0 in
        subst (Fits nodes k) (sym (node_at k lt)) (record {
          least = F.least;
          most = F.most;
          low-less = F.low-less;
          high-less = F.high-less;
          above_low = rw (node_at (at places k).low (omega (arith, F.low-less))) F.above_low;
          above-high = rw (node_at (at places k).high (omega (arith, F.high-less))) F.above-high;
          differ = F.differ;
        })

    blank-at : (k : ℕ) → k < 2 → at nodes k ≡ blank
    blank-at k lt = node_at k (omega (arith, E.least)) ∙ sym (get_or-take 2 places k blank lt) ∙ all-blank (take 2 places) zeros k

    pub passed : Right T
    passed = record {
      order = record {
        least = E.least;
        within = omega (arith, E.within, length-places);
        ordered = record {
          two = omega (arith, length-nodes, E.least);
          first = blank-at 0 (omega arith);
          second = blank-at 1 (omega arith);
          fits = λ k two lt. fits-nodes k two (omega (arith, length-nodes));
          alike = λ j k a p b q same. elim (dec_lt j k) [
            | yes l ↦ absurd (alone j k a l (omega (arith, length-nodes)) same)
            | no l ↦ elim (dec_lt k j) [ yes m ↦ absurd (alone k j b m (omega (arith, length-nodes)) (sym same)) | no m ↦ omega arith ]
          ];
        };
        rest = rest;
      };
      heads = λ b lt. head-last T.count (length T.heads) (chain_at T) (λ b. get_or T.heads b 0) (λ k. get_or T.links k 0)
          (λ j k. at places j ≡ at places k) W b lt E.least;
      links = λ k two lt. link-last T.count (length T.heads) (chain_at T) (λ b. get_or T.heads b 0) (λ k. get_or T.links k 0)
          (λ j k. at places j ≡ at places k) W k two lt;
      first = first;
      past = past;
    }
