-- What each return of the test says, in the code's own terms. The idea: a test's answer decides its fact; a refusal contradicts good order.
-- Assumes nothing.
use mathlib.Core.Path.{◌≡◌, refl, sym, ap, ◌∙◌, subst}
use mathlib.Core.Bool.{Bool, true, false}
use mathlib.Core.Logic.{◌≢◌}
use mathlib.Core.List.{List}
use Prim.Native.Nat.{ℕ, ◌+◌, ◌-◌, ◌≤◌, ◌<◌}
use native.Mathlib.Omega.{arith}
use native.Mathlib.Decide.{ℕ_discrete}
use lib.ListN.{length, get_or, take, drop, length-drop}
use lib.Seq.{take_all}
use lib.Dec.{eqb}
use borrow.Author.Tests.{eqb-true, eqb-false}
use Rattle.table.specs.Nodes.{Node, node_of, at, alike, all_blank, fits, good_places}
use Rattle.table.specs.Columns.{size_fits}
use Rattle.table.specs.Indexed.{Table, table_of, size}
use Rattle.meaning.proofs.Booleans.{t≢f}
use Rattle.table.proofs.Order.{alike-true, alike-false}
use Rattle.table.proofs.Written.{length-rows}
use Rattle.table.proofs.Chain.{rows_at}
use Rattle.table.proofs.Sizes.{Sized, sized}
use Rattle.table.specs.Index.{bucket, good_order}
use Rattle.good_order.specs.Tested.{Decides, LentSizes, places_of, chain_at, OfChain, NodeFits, here, next, Comes, InChain, Empty}
use Rattle.good_order.specs.Tested.{NodesFit, HeadsFit, AllInChain, ComesBy}
use Rattle.good_order.specs.declared.Way.TheVariants.{Head, Behind, Lost}
use Rattle.good_order.proofs.Paths.{reach-least}
use Rattle.good_order.proofs.Right.{link-less, right-claim, refused, heads-pass, all_pass, passed}

pub says-no : {P : Type 0} → (P → ⊥) → Decides false P
says-no n = record { yes = λ e. t≢f (sym e); no = λ _. n }

pub says-yes : {P : Type 0} → P → Decides true P
says-yes p = record { yes = λ _. p; no = λ e. t≢f e }

-- one place more
pub one_more : (Q : ℕ → Type 0) (from k : ℕ) → ((j : ℕ) → from ≤ j → j < k → Q j) → Q k → (j : ℕ) → from ≤ j → j < k + 1 → Q j
one_more Q from k before q j a b = elim (ℕ_discrete j k) [ yes e ↦ subst Q (sym e) q | no e ↦ before j a (omega (arith, e)) ]

-- the walk to place k has come to place j
pub record Walking (T : Table) (k j : ℕ) : Type 0 where
  pub below : j < T.count
  pub behind : get_or T.heads (chain_at T k) 0 ≢ k
  pub on : Comes T k j → InChain T k
  pub back : InChain T k → Comes T k j

module _ (T : Table) (E : LentSizes T) where
  abbrev read : ℕ → Node
  read k = node_of (get_or T.vars k 0) (get_or T.lows k 0) (get_or T.highs k 0)

  read_at : (k : ℕ) → at (places_of T) k ≡ node_of (get_or T.vars k 0) (get_or T.lows k 0) (get_or T.highs k 0)
  read_at k = rows_at T.vars T.lows T.highs E.lows E.highs k

  chain-read : (k b : ℕ) → b ≡ bucket (length T.heads) (get_or T.vars k 0) (get_or T.lows k 0) (get_or T.highs k 0) → b ≡ chain_at T k
  chain-read k b e = e ∙ ap (λ (x : Node). bucket (length T.heads) x.var x.low x.high) (sym (read_at k))

  pub chain-decided : (top b j own : ℕ) → 2 ≤ j → j < top → own ≡ bucket (length T.heads) (get_or T.vars j 0) (get_or T.lows j 0)
      (get_or T.highs j 0)
      → (j ≡ 0 → ⊥) → Decides (eqb own b) (OfChain T top b j)
  chain-decided top b j own two lt e ne = record {
    yes = λ q _. (two, lt, sym (chain-read j own e) ∙ eqb-true own b q);
    no = λ q all. eqb-false own b q (chain-read j own e ∙ (all ne).2);
  }

  pub node-decided : (k b : ℕ) (r : Bool) → fits (places_of T) k (at (places_of T) k) ≡ true
      → b ≡ bucket (length T.heads) (get_or T.vars k 0) (get_or T.lows k 0) (get_or T.highs k 0)
      → Decides r (OfChain T k b (get_or T.links k 0)) → Decides r (NodeFits T k)
  node-decided k b r f e D =
      let q : b ≡ chain_at T k = chain-read k b e in
      let D' : Decides r (OfChain T k (chain_at T k) (get_or T.links k 0)) =
      subst (λ (c : ℕ). Decides r (OfChain T k c (get_or T.links k 0))) q D in
      record { yes = λ s. (f, D'.yes s); no = λ s all. D'.no s all.1 }

  -- ---- the walk down a chain

  module _ (N : NodesFit T T.count) (k : ℕ) where
    head_read : (b : ℕ) → b ≡ bucket (length T.heads) (get_or T.vars k 0) (get_or T.lows k 0) (get_or T.highs k 0)
        → get_or T.heads (chain_at T k) 0 ≡ get_or T.heads b 0
    head_read b e = ap (λ (c : ℕ). get_or T.heads c 0) (sym (chain-read k b e))

    pub walk-past : (b : ℕ) → b < length T.heads → b ≡ bucket (length T.heads) (get_or T.vars k 0) (get_or T.lows k 0)
        (get_or T.highs k 0)
        → T.count ≤ get_or T.heads b 0 → ComesBy T k Lost
    walk-past b lt e past _ H =
        let o = H b lt (λ z. absurd (omega (arith, z, past, E.least))) in
        absurd (omega (arith, past, o.1))

    pub walk-head : (b : ℕ) → b ≡ bucket (length T.heads) (get_or T.vars k 0) (get_or T.lows k 0) (get_or T.highs k 0)
        → get_or T.heads b 0 ≡ k → ComesBy T k Head
    walk-head b e z = let q = head_read b e ∙ z in (subst (Comes T k) (sym q) here, q)

    pub walk_start : (b : ℕ) → b ≡ bucket (length T.heads) (get_or T.vars k 0) (get_or T.lows k 0) (get_or T.highs k 0)
        → get_or T.heads b 0 < T.count → (get_or T.heads b 0 ≡ k → ⊥) → Walking T k (get_or T.heads b 0)
    walk_start b e lt ne = record {
      below = lt;
      behind = λ z. ne (sym (head_read b e) ∙ z);
      on = subst (Comes T k) (sym (head_read b e));
      back = subst (Comes T k) (head_read b e);
    }

    onward : (j : ℕ) → k < j → Comes T k j → (at (places_of T) j ≡ at (places_of T) k → ⊥) × Comes T k (get_or T.links j 0)
    onward _ lt here = absurd (omega arith)
    onward j lt (next p free r) = (free, r)

    same_read : (j : ℕ) → read j ≡ read k → at (places_of T) j ≡ at (places_of T) k
    same_read j e = read_at j ∙ e ∙ sym (read_at k)

    read_same : (j : ℕ) → at (places_of T) j ≡ at (places_of T) k → read j ≡ read k
    read_same j e = sym (read_at j) ∙ e ∙ read_at k

    pub walk-next : (j : ℕ) → 2 ≤ k → k < j → Walking T k j → alike (read j) (read k) ≡ false → Walking T k (get_or T.links j 0)
    walk-next j two lt S miss = record {
      below = omega (arith, link-less T N j (omega arith) S.below, S.below);
      behind = S.behind;
      on = λ r. S.on (next {j = j} lt (λ e. alike-false (read j) (read k) miss (read_same j e)) r);
      back = λ r. (onward j lt (S.back r)).1;
    }

    pub walk-hit : (j : ℕ) → k < j → Walking T k j → alike (read j) (read k) ≡ true → ComesBy T k Lost
    walk-hit j lt S hit r _ = (onward j lt (S.back r)).0 (same_read j (alike-true (read j) (read k) hit))

    pub walk-found : (j : ℕ) → Walking T k j → j ≡ k → ComesBy T k Behind
    walk-found j S e = (S.on (subst (Comes T k) (sym e) here), S.behind)

    pub walk_end : (j : ℕ) → j < k → Walking T k j → ComesBy T k Lost
    walk_end j lt S r _ = absurd (let p : k ≤ j = reach-least _ _ k j (S.back r) in omega arith)

-- ---- the whole

pub lent : (vs ls hs ds ks : List ℕ) (count : ℕ) → size_fits vs ls hs ds ks ≡ true → 2 ≤ count → count ≤ length vs →
    LentSizes (table_of vs ls hs ds ks count)
lent vs ls hs ds ks count e two le =
    let S : Sized vs ls hs ds ks = sized vs ls hs ds ks e in
    record { least = two; within = le; most = S.most; lows = S.lows; highs = S.highs; links = S.links; heads = S.heads }

pub no-order : (places : List Node) (count : ℕ) (ds ks : List ℕ) → good_places places count ≡ false → good_order places count ds ks ≡ false
unfolding good_order
no-order places count ds ks e = rw e

pub decided : (T : Table) (E : LentSizes T) → all_blank (take 2 (places_of T)) ≡ true →
    all_blank (take (size T - T.count) (drop T.count (places_of T))) ≡ true
    → Empty T.links 0 2 → Empty T.links T.count (length T.links) → NodesFit T T.count
    → (r : Bool) → Decides r (AllInChain T T.count × HeadsFit T) → r ≡ good_order (places_of T) T.count T.heads T.links
decided T E zeros rest first past N true D =
    sym (right-claim T E (passed T E zeros
    (ap all_blank (sym (take_all (size T - T.count) (drop T.count (places_of T))
    (omega (arith, length-drop T.count (places_of T), length-rows T.vars T.lows T.highs E.lows E.highs)))) ∙ rest)
    first (λ k a b. past k a (omega (arith, E.links))) N (D.yes refl).1 (D.yes refl).0))
decided T E zeros rest first past N false D = sym (refused T E (λ R. D.no refl (all_pass T E R, heads-pass T E R)))
