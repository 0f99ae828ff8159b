-- Good order in the open words: a table lent so is what the inner functions work on, looking up by its index is the walk, and what they
-- leave is in good order. The idea: the index by insertion is the literal one. Assumes nothing.
use Rattle.std.proofs.Common.{◌≡◌, ℕ, ◌+◌, ◌-◌, ◌≤◌, true, ◌&&◌, List, length, take, drop, replicate, sym, ap, ◌∙◌, subst, ap₂, arith}
use Rattle.std.proofs.Common.{length-take-le, get_or-drop}
use lib.ListN.{get_or-eq_default}
use lib.Seq.{take-append_seam}
use Rattle.meaning.proofs.Booleans.{and_both}
use Rattle.table.specs.Nodes.{Node, blank, find, good_places}
use Rattle.table.specs.Index.{heads_of, links_of, same_numbers, good_order}
use Rattle.table.specs.Lookup.{find_by_index}
use Rattle.table.specs.Columns.{rows, size_fits, padded, columns_made, columns_of, stored_as}
use Rattle.table.specs.Indexed.{indexed, Table, table_of, lists_of, size, nodes_of, Good}
use Rattle.table.proofs.Order.{both_true, every-blank, Ordered, GoodPlaces, good-places, in-good-places}
use Rattle.table.proofs.Written.{length-padded, at-padded, rows-columns, length-rows, length-nodes, good-table}
use Rattle.table.proofs.Sizes.{Sized, sized}
use Rattle.table.proofs.Literal.{same_true, true_same, heads-literal, links-literal, lookup-agrees}

-- ---- a table lent in good order

module _ (places : List Node) (count : ℕ) (ds ks : List ℕ) (e : good_order places count ds ks ≡ true) where
  parts : (good_places places count ≡ true) × (ds ≡ heads_of (length places) (take count places))
      × (ks ≡ links_of (length places) (take count places))
  unfolding good_order
  parts =
      let (p, i) = and_both (good_places places count)
      (same_numbers ds (heads_of (length places) (take count places)) && same_numbers ks (links_of (length places) (take count places))) e
      in
      let (d, k) = and_both (same_numbers ds (heads_of (length places) (take count places)))
      (same_numbers ks (links_of (length places) (take count places))) i in
      (p, same_true ds (heads_of (length places) (take count places)) d, same_true ks (links_of (length places) (take count places)) k)

  -- its places are in good order
  pub good-order : GoodPlaces places count
  good-order = good-places places count parts.0

module _ (vs ls hs ds ks : List ℕ) (count : ℕ) (fits : size_fits vs ls hs ds ks ≡ true) (e : good_order (rows vs ls hs) count ds ks ≡ true)
  where
    abbrev T : Table
    T = table_of vs ls hs ds ks count

    -- it is what the inner functions work on
    pub lent-good : Good T
    unfolding nodes_of
    lent-good =
        let S : Sized vs ls hs ds ks = sized vs ls hs ds ks fits in
        let G : GoodPlaces (rows vs ls hs) count = good-order (rows vs ls hs) count ds ks e in
        let many : length (rows vs ls hs) ≡ length vs = length-rows vs ls hs S.lows S.highs in
        let nodes : length (take count (rows vs ls hs)) ≡ count = length-take-le count (rows vs ls hs) G.within in
        good-table T S.lows S.highs S.most G
        ((parts (rows vs ls hs) count ds ks e).1 ∙ ap (λ (m : ℕ). heads_of m (nodes_of T)) many
        ∙ sym (heads-literal (length vs) (nodes_of T) (omega (arith, nodes, G.least))))
        ((parts (rows vs ls hs) count ds ks e).2 ∙ ap (λ (m : ℕ). links_of m (nodes_of T)) many
        ∙ sym (links-literal (length vs) (nodes_of T) (omega (arith, nodes, G.least)) (omega (arith, nodes, many, G.within))))

    -- "lookup by index and by a walk from place 2 agree on every table in good order" (02, 7/14)
    pub lookup-in-good-order : (x : Node) → find_by_index ds ks (take count (rows vs ls hs)) x ≡ find (take count (rows vs ls hs)) x
    unfolding nodes_of
    lookup-in-good-order x = lookup-agrees T lent-good x

-- ---- a table left

module _ (s : ℕ) (t : List Node) where
  -- the table that the inner functions leave holds the nodes as the open contracts say
  pub left-stored : 2 ≤ length t → length t ≤ s → lists_of (indexed s t) ≡ stored_as s t
  unfolding indexed stored_as
  left-stored two room =
      ap₂ (λ (d k : List ℕ). columns_made (columns_of (padded s t)).vars (columns_of (padded s t)).lows (columns_of (padded s t)).highs d k)
      (heads-literal s t two) (links-literal s t two room)

  pub padded-take : take (length t) (padded s t) ≡ t
  unfolding padded
  padded-take = take-append_seam t (replicate (s - length t) blank)

  padded-good : Ordered t → length t ≤ s → GoodPlaces (padded s t) (length t)
  padded-good O room = record {
    least = O.two;
    within = omega (arith, length-padded s t room);
    ordered = subst Ordered (sym padded-take) O;
    rest = every-blank (drop (length t) (padded s t)) (λ k _.
        get_or-drop (length t) (padded s t) k blank ∙ at-padded s t (length t + k) ∙ get_or-eq_default t blank (omega arith));
  }

  -- "each call leaves them so"
  pub stored-in-order : Ordered t → length t ≤ s
      → good_order (rows (stored_as s t).vars (stored_as s t).lows (stored_as s t).highs) (length t) (stored_as s t).heads
      (stored_as s t).links ≡ true
  unfolding stored_as good_order
  stored-in-order O room =
      let many : length (padded s t) ≡ s = length-padded s t room in
      ap (λ (u : List Node). good_order u (length t) (heads_of s t) (links_of s t)) (rows-columns (padded s t))
      ∙ both_true (good_places (padded s t) (length t))
      (same_numbers (heads_of s t) (heads_of (length (padded s t)) (take (length t) (padded s t)))
      && same_numbers (links_of s t) (links_of (length (padded s t)) (take (length t) (padded s t))))
      (in-good-places (padded s t) (length t) (padded-good O room))
      (both_true (same_numbers (heads_of s t) (heads_of (length (padded s t)) (take (length t) (padded s t))))
      (same_numbers (links_of s t) (links_of (length (padded s t)) (take (length t) (padded s t))))
      (true_same (heads_of s t) (heads_of (length (padded s t)) (take (length t) (padded s t))) (sym (ap₂ heads_of many padded-take)))
      (true_same (links_of s t) (links_of (length (padded s t)) (take (length t) (padded s t))) (sym (ap₂ links_of many padded-take))))

-- the table that an inner function leaves, in the open words
pub good-stored : (T : Table) → Good T → lists_of T ≡ stored_as (size T) (nodes_of T)
good-stored T G =
    ap lists_of G.written
    ∙ left-stored (size T) (nodes_of T) (omega (arith, length-nodes T G, G.least)) (omega (arith, length-nodes T G, G.within))
