-- The stores of append and of drop, as the nodes they leave: three columns and the index with one node more, or with the last one taken
-- out. The idea: a store into padded nodes at their length is one node more, and a blank stored over the last node undoes it. Assumes
-- nothing.
use Rattle.std.proofs.Common.{◌≡◌, ℕ, zero, suc, ◌+◌, ◌-◌, ◌*◌, ◌<◌, ◌≤◌, Bool, true, false, List, [], ◌∷◌, ◌++◌, map, length, get_or, take}
use Rattle.std.proofs.Common.{set, replicate, sym, refl, ap, ◌∙◌, arith, length-append, length-set, length-take-le, take_all, get_or-take}
use Rattle.std.proofs.Common.{take-suc, take-take, set-set, le-ltb, lt-ltb}
use mathlib.Core.Option.{Option, none, some}
use lib.ListN.{get_or-append, get_or-eq_default}
use lib.Seq.{take-length, set-get_or, set-append_seam, append_snoc}
use lib.Seq.{get_or-append_seam}
use Rattle.table.specs.declared.NodeNo.{NodeNo}
use Rattle.table.specs.declared.Found.TheVariants.{At, Nothing}
use Rattle.table.specs.Nodes.{Node, node_of, blank, at, find, put, or_append, placed, full}
use Rattle.table.specs.Indexed.{took_place}
use Rattle.table.specs.Columns.{padded, NodeColumns, columns_of}
use Rattle.table.specs.Index.{bucket, bucket_at}
use Rattle.table.specs.Indexed.{Index, index_made, insert, index_from, index_of, Table, table_of, size, nodes_of, indexed, Good, Outcome}
use Rattle.table.specs.Indexed.{written, found_of}
use Rattle.table.proofs.Written.{at-padded, rows-columns, length-nodes, size-indexed, lows-indexed, highs-indexed}
use Rattle.table.proofs.Growth.{length-new}
use Rattle.table.proofs.Placing.{put_same, put-differ}
use Rattle.table.proofs.Index.{index-last, index_same, remove, index-remove}
use Rattle.table.proofs.Chain.{rows_at}

-- ---- columns

map-set : (part : Node → ℕ) (xs : List Node) (k : ℕ) (x : Node) → map part (set xs k x) ≡ set (map part xs) k (part x)
map-set part [] k x = refl
map-set part (y ∷ ys) zero x = refl
map-set part (y ∷ ys) (suc k) x = ap (λ (r : List ℕ). part y ∷ r) (map-set part ys k x)

abbrev stored_at : NodeColumns → ℕ → Node → NodeColumns
stored_at c k x = record { vars = set c.vars k x.var; lows = set c.lows k x.low; highs = set c.highs k x.high }

columns-set : (xs : List Node) (k : ℕ) (x : Node) → columns_of (set xs k x) ≡ stored_at (columns_of xs) k x
unfolding columns_of
columns-set xs k x = rw (map-set (λ y. y.var) xs k x, map-set (λ y. y.low) xs k x, map-set (λ y. y.high) xs k x)

padded-more : (s : ℕ) (t : List Node) (x : Node) → length t < s → set (padded s t) (length t) x ≡ padded s (t ++ x ∷ [])
unfolding padded
padded-more s t x lt =
    let n : s - length t ≡ suc (s - length (t ++ x ∷ [])) = omega (arith, length-append t (x ∷ [])) in
    ap (λ (m : ℕ). set (t ++ replicate m blank) (length t) x) n ∙ set-append_seam t blank (replicate (s - length (t ++ x ∷ [])) blank) x
    ∙ sym (append_snoc t x (replicate (s - length (t ++ x ∷ [])) blank))

-- all nodes but the last, and the last
split-last : (u : List Node) (k : ℕ) → length u ≡ suc k → u ≡ take k u ++ at u k ∷ []
split-last u k e = sym (take_all (suc k) u (omega arith)) ∙ take-suc u k blank (omega arith)

padded-less : (s : ℕ) (u : List Node) (k : ℕ) → length u ≡ suc k → k < s → set (padded s u) k blank ≡ padded s (take k u)
padded-less s u k e lt =
    let len : length (take k u) ≡ k = length-take-le k u (omega arith) in
    let last : padded s u ≡ set (padded s (take k u)) k (at u k) =
    ap (padded s) (split-last u k e) ∙ sym (padded-more s (take k u) (at u k) (omega arith))
    ∙ ap (λ (i : ℕ). set (padded s (take k u)) i (at u k)) len in
    let was : at (padded s (take k u)) k ≡ blank = at-padded s (take k u) k ∙ get_or-eq_default (take k u) blank (omega arith) in
    ap (λ (p : List Node). set p k blank) last ∙ set-set (padded s (take k u)) k (at u k) blank
    ∙ ap (set (padded s (take k u)) k) (sym was) ∙ set-get_or (padded s (take k u)) k blank

-- ---- the index

index-more : (s : ℕ) (t : List Node) (x : Node) → 2 ≤ length t
    → index_of s (t ++ x ∷ []) ≡ insert (index_of s t) (bucket (2 * s) x.var x.low x.high) (length t)
index-more s t x two =
    let n : length (t ++ x ∷ []) - 2 ≡ length t - 1 = omega (arith, length-append t (x ∷ [])) in
    ap (index_from (t ++ x ∷ []) (2 * s) s) n ∙ index-last (t ++ x ∷ []) (2 * s) s (length t) two
    ∙ ap (λ (y : Node). insert (index_from (t ++ x ∷ []) (2 * s) s (length t - 2)) (bucket (2 * s) y.var y.low y.high) (length t))
    (get_or-append_seam t x [] blank)
    ∙ ap (λ (i : Index). insert i (bucket (2 * s) x.var x.low x.high) (length t))
    (index_same t (t ++ x ∷ []) (2 * s) s (length t - 2) (λ k h. get_or-append t (x ∷ []) blank k (omega arith)))

index-less : (s : ℕ) (u : List Node) (k : ℕ) → length u ≡ suc k → 2 ≤ k → k < s → remove (index_of s u) (bucket_at (2 * s) u k) k
    ≡ index_of s (take k u)
index-less s u k e two lt =
    let m : length u - 2 ≡ k - 1 = omega arith in
    let m' : k - 2 ≡ length (take k u) - 2 = omega (arith, length-take-le k u (omega arith)) in
    ap (λ (j : ℕ). remove (index_from u (2 * s) s j) (bucket_at (2 * s) u k) k) m ∙ index-remove u (2 * s) s k two lt
    ∙ sym (index_same u (take k u) (2 * s) s (k - 2) (λ i h. get_or-take k u i blank (omega arith)))
    ∙ ap (index_from (take k u) (2 * s) s) m'

-- ---- one node more

module _ (T : Table) (G : Good T) where
  good-index : index_made T.heads T.links ≡ index_of (size T) (nodes_of T)
  unfolding indexed
  good-index = ap (λ (w : Table). index_made w.heads w.links) G.written

  pub appended : (v l h : ℕ) (ds ks : List ℕ) → T.count < size T
      → index_made ds ks ≡ insert (index_made T.heads T.links) (bucket (length T.heads) v l h) T.count
      → table_of (set T.vars T.count v) (set T.lows T.count l) (set T.highs T.count h) ds ks (T.count + 1)
      ≡ indexed (size T) (nodes_of T ++ node_of v l h ∷ [])
  unfolding indexed
  appended v l h ds ks lt e =
      let len : length (nodes_of T) ≡ T.count = length-nodes T G in
      let columns : stored_at (columns_of (padded (size T) (nodes_of T))) (length (nodes_of T)) (node_of v l h)
      ≡ columns_of (padded (size T) (nodes_of T ++ node_of v l h ∷ [])) =
      sym (columns-set (padded (size T) (nodes_of T)) (length (nodes_of T)) (node_of v l h))
      ∙ ap columns_of (padded-more (size T) (nodes_of T) (node_of v l h) (omega arith)) in
      let index : index_made ds ks ≡ index_of (size T) (nodes_of T ++ node_of v l h ∷ []) =
      e ∙ ap (λ (x : Index). insert x (bucket (length T.heads) v l h) T.count) good-index
      ∙ ap (λ (n : ℕ). insert (index_of (size T) (nodes_of T)) (bucket n v l h) T.count) G.heads
      ∙ ap (insert (index_of (size T) (nodes_of T)) (bucket (2 * size T) v l h)) (sym len)
      ∙ sym (index-more (size T) (nodes_of T) (node_of v l h) (omega (arith, G.least))) in
      ap (λ (w : Table). table_of (set w.vars w.count v) (set w.lows w.count l) (set w.highs w.count h) ds ks
      (w.count + 1)) G.written
      ∙ ap (λ (c : NodeColumns). table_of c.vars c.lows c.highs ds ks (length (nodes_of T) + 1)) columns
      ∙ ap (λ (x : Index). table_of (columns_of (padded (size T) (nodes_of T ++ node_of v l h ∷ []))).vars
      (columns_of (padded (size T) (nodes_of T ++ node_of v l h ∷ []))).lows
      (columns_of (padded (size T) (nodes_of T ++ node_of v l h ∷ []))).highs x.heads x.links (length (nodes_of T) + 1)) index
      ∙ ap (table_of (columns_of (padded (size T) (nodes_of T ++ node_of v l h ∷ []))).vars
      (columns_of (padded (size T) (nodes_of T ++ node_of v l h ∷ []))).lows
      (columns_of (padded (size T) (nodes_of T ++ node_of v l h ∷ []))).highs (index_of (size T) (nodes_of T ++ node_of v l h ∷ [])).heads
      (index_of (size T) (nodes_of T ++ node_of v l h ∷ [])).links)
      (sym (length-append (nodes_of T) (node_of v l h ∷ [])))

-- ---- the four ways of `put`

pub found_some : (o : Option ℕ) (k : NodeNo) → found_of o ≡ At k → o ≡ some k.0
found_some none k e = let z : ◌≡◌ {A = ℕ} 0 1 = cc in absurd (omega arith)
found_some (some m) k e = let z : ◌≡◌ {A = NodeNo} (record { 0 = m }) k = cc in ap (λ (n : NodeNo). some n.0) z

pub found_none : (o : Option ℕ) → found_of o ≡ Nothing → o ≡ none
found_none none e = refl
found_none (some m) e = let z : ◌≡◌ {A = ℕ} 0 1 = cc in absurd (omega arith)

append-room : (s : ℕ) (t : List Node) (x : Node) → length t < s → or_append s t x none ≡ placed (t ++ x ∷ []) (length t)
unfolding or_append
append-room s t x lt = rw (lt-ltb (length t) s lt)

append-full : (s : ℕ) (t : List Node) (x : Node) → s ≤ length t → or_append s t x none ≡ full t
unfolding or_append
append-full s t x le = rw (le-ltb (length t) s le)

abbrev outcome : Table → Bool → ℕ → Outcome
outcome w no_room k = record { table = w; full = no_room; node = k }

module _ (T : Table) (G : Good T) (v l h : ℕ) where
  abbrev putting : Outcome
  putting = written (size T) (put (size T) (nodes_of T) v l h)

  pub put-equal : l ≡ h → outcome T false l ≡ putting
  unfolding written
  put-equal e = ap (λ (w : Table). outcome w false l) G.written ∙ ap (written (size T)) (sym (put_same (size T) (nodes_of T) v l h e))

  module _ (ne : l ≡ h → ⊥) where
    pub put-found : (k : ℕ) → find (nodes_of T) (node_of v l h) ≡ some k → outcome T false k ≡ putting
    unfolding written or_append
    put-found k e =
        ap (λ (w : Table). outcome w false k) G.written
        ∙ ap (written (size T)) (sym (put-differ (size T) (nodes_of T) v l h ne ∙ ap (or_append (size T) (nodes_of T) (node_of v l h)) e))

    pub put-new : (w : Table) → find (nodes_of T) (node_of v l h) ≡ none → T.count < size T
        → w ≡ indexed (size T) (nodes_of T ++ node_of v l h ∷ []) → outcome w false T.count ≡ putting
    unfolding written
    put-new w e lt is =
        let len : length (nodes_of T) ≡ T.count = length-nodes T G in
        ap (λ (u : Table). outcome u false T.count) is ∙ ap (outcome (indexed (size T) (nodes_of T ++ node_of v l h ∷ [])) false) (sym len)
        ∙ ap (written (size T)) (sym (put-differ (size T) (nodes_of T) v l h ne ∙ ap (or_append (size T) (nodes_of T) (node_of v l h)) e
        ∙ append-room (size T) (nodes_of T) (node_of v l h) (omega arith)))

    pub put_full : find (nodes_of T) (node_of v l h) ≡ none → size T ≤ T.count → outcome T true 0 ≡ putting
    unfolding written
    put_full e le =
        let len : length (nodes_of T) ≡ T.count = length-nodes T G in
        ap (λ (w : Table). outcome w true 0) G.written
        ∙ ap (written (size T)) (sym (put-differ (size T) (nodes_of T) v l h ne ∙ ap (or_append (size T) (nodes_of T) (node_of v l h)) e
        ∙ append-full (size T) (nodes_of T) (node_of v l h) (omega arith)))

  -- ---- whether the place is new

  abbrev took : Bool
  took = took_place (nodes_of T) (put (size T) (nodes_of T) v l h)

  none-taken : (k : ℕ) → put (size T) (nodes_of T) v l h ≡ placed (nodes_of T) k → false ≡ took
  unfolding took_place
  none-taken k e = rw e (sym (le-ltb (length (nodes_of T)) (length (nodes_of T)) (omega arith)))

  pub took-equal : l ≡ h → false ≡ took
  took-equal e = none-taken l (put_same (size T) (nodes_of T) v l h e)

  module _ (ne : l ≡ h → ⊥) where
    pub took-found : (k : ℕ) → find (nodes_of T) (node_of v l h) ≡ some k → false ≡ took
    unfolding or_append
    took-found k e = none-taken k (put-differ (size T) (nodes_of T) v l h ne ∙ ap (or_append (size T) (nodes_of T) (node_of v l h)) e)

    pub took-new : find (nodes_of T) (node_of v l h) ≡ none → T.count < size T → true ≡ took
    unfolding took_place
    took-new e lt =
        let len : length (nodes_of T) ≡ T.count = length-nodes T G in
        let is : put (size T) (nodes_of T) v l h ≡ placed (nodes_of T ++ node_of v l h ∷ []) (length (nodes_of T)) =
        put-differ (size T) (nodes_of T) v l h ne ∙ ap (or_append (size T) (nodes_of T) (node_of v l h)) e
        ∙ append-room (size T) (nodes_of T) (node_of v l h) (omega arith) in
        rw is (sym (lt-ltb (length (nodes_of T)) (length (nodes_of T ++ node_of v l h ∷ []))
        (omega (arith, length-new (nodes_of T) (node_of v l h)))))

    pub took-full : find (nodes_of T) (node_of v l h) ≡ none → size T ≤ T.count → false ≡ took
    unfolding took_place
    took-full e le =
        let len : length (nodes_of T) ≡ T.count = length-nodes T G in
        rw (put-differ (size T) (nodes_of T) v l h ne ∙ ap (or_append (size T) (nodes_of T) (node_of v l h)) e
        ∙ append-full (size T) (nodes_of T) (node_of v l h) (omega arith)) refl

-- ---- dropping

-- What the loop of drop_to keeps: the table of the first nodes, as many as are left.
pub record Dropping (T₀ T : Table) (keep : ℕ) : Type 0 where
  pub least : keep ≤ T.count
  pub within : T.count ≤ T₀.count
  pub vars : length T.vars ≡ length T₀.vars
  pub lows : length T.lows ≡ length T₀.lows
  pub highs : length T.highs ≡ length T₀.highs
  pub heads : length T.heads ≡ length T₀.heads
  pub links : length T.links ≡ length T₀.links
  pub is : T ≡ indexed (size T₀) (take T.count (nodes_of T₀))

pub drop-start : (T : Table) (keep : ℕ) → Good T → keep ≤ T.count → Dropping T T keep
drop-start T keep G h = record {
  least = h;
  within = omega arith;
  vars = refl;
  lows = refl;
  highs = refl;
  heads = refl;
  links = refl;
  is = G.written ∙ ap (indexed (size T)) (sym (ap (λ (n : ℕ). take n (nodes_of T)) (sym (length-nodes T G)) ∙ take-length (nodes_of T)));
}

-- what the loop stores, b the chain of the last place k
abbrev popped : Table → ℕ → ℕ → Table
popped T k b = table_of (set T.vars k 0) (set T.lows k 0) (set T.highs k 0) (set T.heads b (get_or T.links k 0))
    (set T.links k 0) k

module _ (s : ℕ) (u : List Node) (k : ℕ) (e : length u ≡ suc k) (two : 2 ≤ k) (lt : k < s) where
  read-last : node_of (get_or (indexed s u).vars k 0) (get_or (indexed s u).lows k 0) (get_or (indexed s u).highs k 0) ≡ at u k
  unfolding indexed
  read-last =
      let room : length u ≤ s = omega arith in
      sym (rows_at (indexed s u).vars (indexed s u).lows (indexed s u).highs (lows-indexed s u room ∙ sym (size-indexed s u room))
      (highs-indexed s u room ∙ sym (size-indexed s u room)) k)
      ∙ ap (λ (r : List Node). at r k) (rows-columns (padded s u)) ∙ at-padded s u k

  popped-is : popped (indexed s u) k (bucket_at (2 * s) u k) ≡ indexed s (take k u)
  unfolding indexed
  popped-is =
      let columns : stored_at (columns_of (padded s u)) k blank ≡ columns_of (padded s (take k u)) =
      sym (columns-set (padded s u) k blank) ∙ ap columns_of (padded-less s u k e lt) in
      ap (λ (c : NodeColumns). table_of c.vars c.lows c.highs (remove (index_of s u) (bucket_at (2 * s) u k) k).heads
      (remove (index_of s u) (bucket_at (2 * s) u k) k).links k) columns
      ∙ ap (λ (x : Index). table_of (columns_of (padded s (take k u))).vars (columns_of (padded s (take k u))).lows
      (columns_of (padded s (take k u))).highs x.heads x.links k) (index-less s u k e two lt)
      ∙ ap (table_of (columns_of (padded s (take k u))).vars (columns_of (padded s (take k u))).lows
      (columns_of (padded s (take k u))).highs
      (index_of s (take k u)).heads (index_of s (take k u)).links)
      (sym (length-take-le k u (omega arith)))

module _ (T₀ T : Table) (keep b n : ℕ) (G : Good T₀) (two : 2 ≤ keep) (lt : keep < T.count) (D : Dropping T₀ T keep)
    (heads : n ≡ length T₀.heads)
    (chain : b ≡ bucket n (get_or T.vars (T.count - 1) 0) (get_or T.lows (T.count - 1) 0) (get_or T.highs (T.count - 1) 0)) where
  abbrev left : List Node
  left = take T.count (nodes_of T₀)

  length-left : length left ≡ suc (T.count - 1)
  length-left = length-take-le T.count (nodes_of T₀) (omega (arith, length-nodes T₀ G, D.within)) ∙ omega arith

  chain-is : b ≡ bucket_at (2 * size T₀) left (T.count - 1)
  chain-is =
      chain ∙ ap (λ (m : ℕ). bucket m (get_or T.vars (T.count - 1) 0) (get_or T.lows (T.count - 1) 0)
      (get_or T.highs (T.count - 1) 0)) (heads ∙ G.heads)
      ∙ ap (λ (w : Table). bucket (2 * size T₀) (get_or w.vars (T.count - 1) 0) (get_or w.lows (T.count - 1) 0)
      (get_or w.highs (T.count - 1) 0)) D.is
      ∙ ap (λ (x : Node). bucket (2 * size T₀) x.var x.low x.high)
      (read-last (size T₀) left (T.count - 1) length-left (omega arith) (omega (arith, D.within, G.within)))

  pub drop-next : Dropping T₀ (popped T (T.count - 1) b) keep
  drop-next = record {
    least = omega arith;
    within = omega (arith, D.within);
    vars = length-set T.vars (T.count - 1) 0 ∙ D.vars;
    lows = length-set T.lows (T.count - 1) 0 ∙ D.lows;
    highs = length-set T.highs (T.count - 1) 0 ∙ D.highs;
    heads = length-set T.heads b (get_or T.links (T.count - 1) 0) ∙ D.heads;
    links = length-set T.links (T.count - 1) 0 ∙ D.links;
    is = ap (popped T (T.count - 1)) chain-is ∙ ap (λ (w : Table). popped w (T.count - 1) (bucket_at (2 * size T₀) left (T.count - 1)))
        D.is
        ∙ popped-is (size T₀) left (T.count - 1) length-left (omega arith) (omega (arith, D.within, G.within))
        ∙ ap (indexed (size T₀)) (take-take (T.count - 1) T.count (nodes_of T₀) (omega arith));
  }

pub drop-end : (T₀ T : Table) (keep : ℕ) → T.count ≤ keep → Dropping T₀ T keep
    → table_of T.vars T.lows T.highs T.heads T.links keep ≡ indexed (size T₀) (take keep (nodes_of T₀))
drop-end T₀ T keep le D =
    let e : T.count ≡ keep = omega (arith, D.least) in
    ap (table_of T.vars T.lows T.highs T.heads T.links) (sym e) ∙ D.is
    ∙ ap (λ (c : ℕ). indexed (size T₀) (take c (nodes_of T₀))) e
