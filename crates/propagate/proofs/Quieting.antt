-- What is to be asked in a propagation's first look, and in one after a round. The idea: a member that stands at none of the places is as
-- it was, so that it is not 0, has the units that it had, and of two negations one stands at a place. Assumes nothing.
use mathlib.Core.Path.{◌≡◌, refl, sym, ap, ◌∙◌}
use mathlib.Core.Logic.{◌⊎◌, inl, inr}
use mathlib.Core.Bool.{true, false}
use mathlib.Core.List.{List, [], map}
use Prim.Native.Nat.{ℕ, ◌≤◌, ◌<◌}
use native.Mathlib.Omega.{arith}
use lib.ListN.{length, get_or, length-map}
use lib.Bits.{bit_or}
use Rattle.meaning.specs.Diagram.{Diagram, leaf}
use Rattle.meaning.specs.Operations.{negation}
use Rattle.meaning.specs.Rules.{conflicts, has_unit}
use Rattle.meaning.proofs.Booleans.{t≢f}
use Rattle.table.specs.Nodes.{Node, diagram_at}
use Rattle.table.specs.Indexed.{Table, nodes_of}
use Rattle.table.specs.Lists.{diagrams_of}
use Rattle.table.proofs.Numbers.{diagram_at-zero}
use Rattle.walks.specs.Readable.{ListReady}
use Rattle.operate.specs.declared.Operation.TheVariants.{Literals}
use Rattle.words.specs.declared.Literals as sets
use Rattle.supports.specs.Supports.{Supports}
use Rattle.touched.specs.Places.{AllBut, Untouched}
use Rattle.touched.proofs.Places.{but-so, place-or}
use Rattle.conflict.specs.Marks.{is_listed}
use Rattle.conflict.specs.Members.{Asked}
use Rattle.conflict.proofs.Asked.{listed_at, listed_here, no-conflict, no_zero}
use Rattle.members.specs.Made.{results, AllMade}
use Rattle.members.proofs.Touching.{words-apart, stays}
use Rattle.members.proofs.Replacing.{get_d_map, result-at}
use Rattle.unit_search.specs.Units.{Unitless, UnitsAsked}

-- ---- the first look: all members are asked

pub asked-all : (t : List Node) (list : List ℕ) → Asked t list list true
asked-all t list = record {
  listed = listed_here list;
  whole = λ _. listed_here list;
  zero = λ l. l;
  pairs =
      λ i j p q e. inl (listed_here list i p);
}

pub units-all : (ms : List Diagram) → UnitsAsked ms [] 0
units-all ms = (
  omega arith,
  record {
    inside = λ k p. absurd (omega arith);
    rising = λ k p. absurd (omega arith);
    others =
        λ k j p b q z. absurd (omega arith);
  },
)

-- ---- a list that has, but for its places, the diagrams of one that does not conflict

module _ (t t' : List Node) (list list' : List ℕ) (len' : length list' ≡ length list) (places : List ℕ) (P : ℕ → Type 0)
    (B : AllBut (length list) places P)
    (unchanged : (i : ℕ) → i < length list → P i → diagram_at t' (get_or list' i 0) ≡ diagram_at t (get_or list i 0)) where
  -- a member is at a place, and its node among those there, or it is unchanged
  nodes : List ℕ
  nodes = map (λ i. get_or list' i 0) places

  node_at : (k : ℕ) → k < length places → get_or nodes k 0 ≡ get_or list' (get_or places k 0) 0
  unfolding nodes
  node_at k p = get_d_map (λ i. get_or list' i 0) places k 0 0 p

  there-or : (i : ℕ) → i < length list → (is_listed nodes (get_or list' i 0) ≡ true) ⊎ P i
  unfolding nodes
  there-or i p = go (place-or (length list) places P B i p)
    where
      go : ((k : ℕ) × (k < length places) × (get_or places k 0 ≡ i)) ⊎ P i → (is_listed nodes (get_or list' i 0) ≡ true) ⊎ P i
      go (inl m) =
          inl (ap (is_listed nodes) (sym (node_at m.0 m.1 ∙ ap (λ (j : ℕ). get_or list' j 0) m.2))
          ∙ listed_here nodes m.0 (omega (arith, m.1, length-map places (λ i. get_or list' i 0))))
      go (inr x) = inr x

  pub asked-but : conflicts 64 (diagrams_of t list) ≡ false → Asked t' list' (map (λ i. get_or list' i 0) places) false
  unfolding nodes
  asked-but c = record {
    listed = λ k q.
        let p : k < length places = omega (arith, q, length-map places (λ i. get_or list' i 0)) in
        ap (is_listed list') (node_at k p) ∙ listed_here list' (get_or places k 0) (omega (arith, B.inside k p));
    whole = λ z. t≢f (sym z);
    zero = λ l. zero-there (listed_at list' 0 l);
    pairs = λ i j p q e. one (there-or i (omega arith)) (there-or j (omega arith)) (λ x y.
        no-conflict t list c i j (omega arith) (omega arith)
        (sym (unchanged j (omega arith) y) ∙ e ∙ ap (negation 64) (unchanged i (omega arith) x)));
  }
    where
      zero-there : ((i : ℕ) × (i < length list') × (get_or list' i 0 ≡ 0)) → is_listed nodes 0 ≡ true
      zero-there m = go (there-or m.0 (omega (arith, m.1)))
        where
          go : (is_listed nodes (get_or list' m.0 0) ≡ true) ⊎ P m.0 → is_listed nodes 0 ≡ true
          go (inl l) = ap (is_listed nodes) (sym m.2) ∙ l
          go (inr x) =
              absurd (no_zero t list c m.0 (omega (arith, m.1))
              (sym (unchanged m.0 (omega (arith, m.1)) x) ∙ ap (diagram_at t') m.2 ∙ diagram_at-zero t'))

      one : {P Q : Type 0} {X Y : Type 0} → P ⊎ X → Q ⊎ Y → (X → Y → ⊥) → P ⊎ Q
      one (inl p) q no_both = inl p
      one (inr x) (inl q) no_both = inr q
      one (inr x) (inr y) no_both = absurd (no_both x y)

  -- a member that is unchanged has the units that it had
  pub units-but : (place : ℕ) → place ≤ length list → Unitless (diagrams_of t list) place → UnitsAsked (diagrams_of t' list') places place
  units-but place p U = (
    omega (arith, same),
    rw same (but-so (length list) places P _ B (λ j q x z.
        ap (has_unit 64 64) (get_d_map (diagram_at t') list' j 0 (leaf false) (omega arith) ∙ unchanged j q x
        ∙ sym (get_d_map (diagram_at t) list j 0 (leaf false) q)) ∙ U j z)),
  )
    where
      same : length (diagrams_of t' list') ≡ length list
      same = length-map list' (diagram_at t') ∙ len'

-- ---- after a round

module _ (T : Table) (list memo words : List ℕ) (R : ListReady T list memo) (S : Supports (nodes_of T) list words) (u : sets.Literals)
    (places : List ℕ) (B : AllBut (length list) places (Untouched words (bit_or u.positive u.negative)))
    (T' : Table) (list' : List ℕ) (A : AllMade T (results (Literals u.positive u.negative) T list 1) false T' list')
    (len' : length list' ≡ length list) where
  touching : ℕ
  touching = bit_or u.positive u.negative

  unchanged : (i : ℕ) → i < length list → Untouched words touching i → diagram_at (nodes_of T') (get_or list' i 0)
      ≡ diagram_at (nodes_of T) (get_or list i 0)
  unfolding Supports touching
  unchanged i p e =
      sym (get_d_map (diagram_at (nodes_of T')) list' i 0 (leaf false) (omega arith))
      ∙ ap (λ (ms : List Diagram). get_or ms i (leaf false)) (A.are refl)
      ∙ result-at (Literals u.positive u.negative) 1 T list memo R (omega (arith, R.good.least)) i p
      ∙ stays T R.good (get_or list i 0) 1 (R.inside i p) (omega (arith, R.good.least)) (get_or words i 0) touching (S i p)
      (Literals u.positive u.negative) refl refl
      (words-apart (get_or words i 0) touching e)

  pub asked-next : conflicts 64 (diagrams_of (nodes_of T) list) ≡ false →
      Asked (nodes_of T') list' (map (λ i. get_or list' i 0) places) false
  unfolding touching
  asked-next = asked-but (nodes_of T) (nodes_of T') list list' len' places (Untouched words touching) B unchanged

  pub units-next : (place : ℕ) → place ≤ length list → Unitless (diagrams_of (nodes_of T) list) place →
      UnitsAsked (diagrams_of (nodes_of T') list') places place
  unfolding touching
  units-next = units-but (nodes_of T) (nodes_of T') list list' len' places (Untouched words touching) B unchanged
