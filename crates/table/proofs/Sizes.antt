-- The sizes of a lent table as facts, and what each test of `size_fits` says. The idea: each test of numbers is its fact. Assumes nothing.
use Rattle.std.proofs.Common.{◌≡◌, ℕ, ◌*◌, ◌≤◌, true, ◌&&◌, eqb, leb, List, length, eqb-true, leb-true}
use Rattle.table.specs.Columns.{size_fits}
use Rattle.meaning.proofs.Booleans.{and_both}

module _ (vs ls hs ds ks : List ℕ) where
  pub record Sized : Type 0 where
    pub lows : length ls ≡ length vs
    pub highs : length hs ≡ length vs
    pub least : 2 ≤ length vs
    pub most : length vs ≤ 65536
    pub heads : length ds ≡ 2 * length vs
    pub links : length ks ≡ length vs

  pub sized : size_fits vs ls hs ds ks ≡ true → Sized
  unfolding size_fits
  sized e =
      let (columns, index) = and_both ((eqb (length ls) (length vs) && eqb (length hs) (length vs))
      && (leb 2 (length vs) && leb (length vs) 65536))
      (eqb (length ds) (2 * length vs) && eqb (length ks) (length vs)) e in
      let (equal, within) = and_both (eqb (length ls) (length vs) && eqb (length hs) (length vs))
      (leb 2 (length vs) && leb (length vs) 65536) columns in
      let (l, h) = and_both (eqb (length ls) (length vs)) (eqb (length hs) (length vs)) equal in
      let (a, b) = and_both (leb 2 (length vs)) (leb (length vs) 65536) within in
      let (d, k) = and_both (eqb (length ds) (2 * length vs)) (eqb (length ks) (length vs)) index in
      record {
        lows = eqb-true (length ls) (length vs) l;
        highs = eqb-true (length hs) (length vs) h;
        least = leb-true 2 (length vs) a;
        most = leb-true (length vs) 65536 b;
        heads = eqb-true (length ds) (2 * length vs) d;
        links = eqb-true (length ks) (length vs) k;
      }
