-- A list of nodes written into columns of s places and read back: the table `indexed s t` holds exactly t, is as long as asked for and is
-- good where t is in good order; a good table's columns read as its nodes. The idea: padding adds blank places, which is what a read past
-- the end gives. Assumes nothing.
use Rattle.std.proofs.Common.{◌≡◌, ℕ, zero, suc, ◌+◌, ◌-◌, ◌*◌, ◌≤◌, List, [], ◌∷◌, ◌++◌, map, length, get_or, take, drop, replicate, sym}
use Rattle.std.proofs.Common.{refl, ap, ◌∙◌, subst, ap₂, arith, length-append, length-drop, length-set, take-append-drop, length-take-le}
use Rattle.std.proofs.Common.{ext_get_or}
use lib.ListN.{length-replicate, length-map}
use lib.ListN.{get_or-map}
use lib.Seq.{take-append_seam}
use Rattle.table.specs.Nodes.{Node, blank, at, nodes_in_order}
use Rattle.table.specs.Columns.{rows, padded, NodeColumns, columns_of}
use Rattle.table.specs.Indexed.{index_from, index_of, Table, table_of, size, nodes_of, indexed, Good}
use Rattle.table.proofs.Order.{all-blank, Ordered, ordered, in_order, GoodPlaces}

-- ---- padding

pub length-padded : (s : ℕ) (t : List Node) → length t ≤ s → length (padded s t) ≡ s
unfolding padded
length-padded s t h = length-append t (replicate (s - length t) blank) ∙ omega (arith, length-replicate (s - length t) blank)

at-blanks : (m k : ℕ) → at (replicate m blank) k ≡ blank
at-blanks zero k = refl
at-blanks (suc m) zero = refl
at-blanks (suc m) (suc k) = at-blanks m k

at-append-blanks : (t : List Node) (m k : ℕ) → at (t ++ replicate m blank) k ≡ at t k
at-append-blanks [] m k = at-blanks m k
at-append-blanks (x ∷ t) m zero = refl
at-append-blanks (x ∷ t) m (suc k) = at-append-blanks t m k

-- places past the nodes read as blank in both
pub at-padded : (s : ℕ) (t : List Node) (k : ℕ) → at (padded s t) k ≡ at t k
unfolding padded
at-padded s t k = at-append-blanks t (s - length t) k

-- ---- columns and rows

pub rows-columns : (t : List Node) → rows (columns_of t).vars (columns_of t).lows (columns_of t).highs ≡ t
unfolding rows columns_of
rows-columns [] = refl
rows-columns (x ∷ t) = ap (λ (u : List Node). x ∷ u) (rows-columns t)

pub columns-rows : (vs ls hs : List ℕ) → length ls ≡ length vs → length hs ≡ length vs → columns_of (rows vs ls hs)
    ≡ record { vars = vs; lows = ls; highs = hs }
unfolding rows columns_of
columns-rows [] [] [] p q = refl
columns-rows [] (l ∷ ls) hs p q = absurd (omega arith)
columns-rows [] [] (h ∷ hs) p q = absurd (omega arith)
columns-rows (v ∷ vs) [] hs p q = absurd (omega arith)
columns-rows (v ∷ vs) (l ∷ ls) [] p q = absurd (omega arith)
columns-rows (v ∷ vs) (l ∷ ls) (h ∷ hs) p q =
    ap (λ (c : NodeColumns). record { vars = v ∷ c.vars; lows = l ∷ c.lows; highs = h ∷ c.highs })
    (columns-rows vs ls hs (omega arith) (omega arith))

pub length-rows : (vs ls hs : List ℕ) → length ls ≡ length vs → length hs ≡ length vs → length (rows vs ls hs) ≡ length vs
unfolding columns_of
length-rows vs ls hs p q = sym (length-map (rows vs ls hs) (λ x. x.var))
    ∙ ap (λ (c : NodeColumns). length c.vars) (columns-rows vs ls hs p q)

-- a table lent in good order is its nodes and zeros
rows-padded : (places : List Node) (count : ℕ) → GoodPlaces places count → places ≡ padded (length places) (take count places)
unfolding padded
rows-padded places count G =
    let len : length (take count places) ≡ count = length-take-le count places G.within in
    sym (take-append-drop count places) ∙ ap (λ (u : List Node). take count places ++ u)
    (ext_get_or blank (drop count places) (replicate (length places - length (take count places)) blank)
    (length-drop count places ∙ rw len (sym (length-replicate (length places - count) blank)))
    (λ k _. all-blank (drop count places) G.rest k ∙ sym (at-blanks (length places - length (take count places)) k)))

-- ---- the index

pub length-index_from : (t : List Node) (n m j : ℕ) → (length (index_from t n m j).heads ≡ n) × (length (index_from t n m j).links ≡ m)
unfolding index_from
length-index_from t n m zero = (length-replicate n 0, length-replicate m 0)
length-index_from t n m (suc j) =
    let r : (length (index_from t n m j).heads ≡ n) × (length (index_from t n m j).links ≡ m) = length-index_from t n m j in
    (simp length-set r.0, simp length-set r.1)

-- ---- the table written

module _ (s : ℕ) (t : List Node) where
  pub nodes-indexed : nodes_of (indexed s t) ≡ t
  unfolding nodes_of indexed padded
  nodes-indexed = ap (take (length t)) (rows-columns (padded s t)) ∙ take-append_seam t (replicate (s - length t) blank)

  pub count-indexed : (indexed s t).count ≡ length t
  unfolding indexed
  count-indexed = refl

  module _ (room : length t ≤ s) where
    pub size-indexed : size (indexed s t) ≡ s
    unfolding indexed columns_of
    size-indexed = length-map (padded s t) (λ x. x.var) ∙ length-padded s t room

    pub lows-indexed : length (indexed s t).lows ≡ s
    unfolding indexed columns_of
    lows-indexed = length-map (padded s t) (λ x. x.low) ∙ length-padded s t room

    pub highs-indexed : length (indexed s t).highs ≡ s
    unfolding indexed columns_of
    highs-indexed = length-map (padded s t) (λ x. x.high) ∙ length-padded s t room

  heads-indexed : length (indexed s t).heads ≡ 2 * s
  unfolding indexed
  heads-indexed = (length-index_from t (2 * s) s (length t - 2)).0

  links-indexed : length (indexed s t).links ≡ s
  unfolding indexed
  links-indexed = (length-index_from t (2 * s) s (length t - 2)).1

pub good-indexed : (s : ℕ) (t : List Node) → Ordered t → length t ≤ s → s ≤ 65536 → Good (indexed s t)
good-indexed s t O room most =
    let n : nodes_of (indexed s t) ≡ t = nodes-indexed s t in
    let z : size (indexed s t) ≡ s = size-indexed s t room in
    let c : (indexed s t).count ≡ length t = count-indexed s t in
    record {
      least = omega (arith, O.two);
      within = omega arith;
      most = omega arith;
      lows = lows-indexed s t room ∙ sym z;
      highs = highs-indexed s t room ∙ sym z;
      links = links-indexed s t ∙ sym z;
      heads = heads-indexed s t ∙ ap (λ (k : ℕ). 2 * k) (sym z);
      ordered = ap nodes_in_order n ∙ in_order t O;
      written = sym (ap₂ indexed z n);
    }

-- ---- a good table

module _ (T : Table) (G : Good T) where
  pub length-nodes : length (nodes_of T) ≡ T.count
  length-nodes = sym (ap (λ (t : Table). t.count) G.written ∙ count-indexed (size T) (nodes_of T))

  pub good-ordered : Ordered (nodes_of T)
  good-ordered = ordered (nodes_of T) G.ordered (omega (arith, length-nodes, G.least))

  -- a column reads as that part of the nodes, past the count too
  column-at : (part : Node → ℕ) → part blank ≡ 0 → (k : ℕ) → get_or (map part (padded (size T) (nodes_of T))) k 0 ≡ part (at (nodes_of T) k)
  column-at part zero-of-blank k =
      ap (get_or (map part (padded (size T) (nodes_of T))) k) (sym zero-of-blank) ∙ get_or-map part (padded (size T) (nodes_of T)) k blank
      ∙ ap part (at-padded (size T) (nodes_of T) k)

  pub var-at : (k : ℕ) → get_or T.vars k 0 ≡ (at (nodes_of T) k).var
  unfolding indexed columns_of
  var-at k = ap (λ (t : Table). get_or t.vars k 0) G.written ∙ column-at (λ x. x.var) refl k

  pub low-at : (k : ℕ) → get_or T.lows k 0 ≡ (at (nodes_of T) k).low
  unfolding indexed columns_of
  low-at k = ap (λ (t : Table). get_or t.lows k 0) G.written ∙ column-at (λ x. x.low) refl k

  pub high-at : (k : ℕ) → get_or T.highs k 0 ≡ (at (nodes_of T) k).high
  unfolding indexed columns_of
  high-at k = ap (λ (t : Table). get_or t.highs k 0) G.written ∙ column-at (λ x. x.high) refl k

-- ---- a table lent with the index of its nodes

module _ (T : Table) (p : length T.lows ≡ size T) (q : length T.highs ≡ size T) (most : size T ≤ 65536)
    (O : GoodPlaces (rows T.vars T.lows T.highs) T.count) where
  abbrev places : List Node
  places = rows T.vars T.lows T.highs

  lent-padded : padded (size T) (nodes_of T) ≡ places
  unfolding nodes_of
  lent-padded = sym (rows-padded places T.count O ∙ ap (λ (s : ℕ). padded s (take T.count places))
      (length-rows T.vars T.lows T.highs p q))

  lent-count : length (nodes_of T) ≡ T.count
  unfolding nodes_of
  lent-count = length-take-le T.count places O.within

  lent-ordered : Ordered (nodes_of T)
  unfolding nodes_of
  lent-ordered = O.ordered

  lent-room : T.count ≤ size T
  lent-room = omega (arith, O.within, length-rows T.vars T.lows T.highs p q)

  module _ (ds : T.heads ≡ (index_of (size T) (nodes_of T)).heads) (ks : T.links ≡ (index_of (size T) (nodes_of T)).links) where
    lent_written : T ≡ indexed (size T) (nodes_of T)
    unfolding indexed
    lent_written =
        ap₂ (λ (a b : List ℕ). table_of T.vars T.lows T.highs a b T.count) ds ks
        ∙ ap (table_of T.vars T.lows T.highs (index_of (size T) (nodes_of T)).heads (index_of (size T) (nodes_of T)).links)
        (sym lent-count)
        ∙ ap (λ (c : NodeColumns). table_of c.vars c.lows c.highs (index_of (size T) (nodes_of T)).heads
        (index_of (size T) (nodes_of T)).links (length (nodes_of T)))
        (sym (ap columns_of lent-padded ∙ columns-rows T.vars T.lows T.highs p q))

    -- Columns in good order with the index of their nodes are a good table.
    pub good-table : Good T
    good-table = subst Good (sym lent_written) (good-indexed (size T) (nodes_of T) lent-ordered (omega (arith, lent-count, lent-room)) most)
