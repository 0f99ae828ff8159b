-- What a single call says, case by case in the order of its refusals. Each is the definition computed. Assumes nothing.
use mathlib.Core.Path.{◌≡◌}
use mathlib.Core.Bool.{Bool, true, false, ◌&&◌}
use Prim.Native.Nat.{ℕ, ◌≤◌, ◌<◌}
use native.Mathlib.Omega.{arith}
use lib.Dec.{ltb}
use borrow.Author.Tests.{lt-ltb, le-ltb}
use Rattle.table.specs.Index.{good_order}
use Rattle.table.specs.Columns.{rows, size_fits, Columns}
use Rattle.table.proofs.Order.{GoodPlaces, in_order}
use Rattle.table.proofs.Sizes.{Sized, sized}
use Rattle.table.proofs.InOrder.{good-order}
use Rattle.table.proofs.Written.{length-rows}
use Rattle.walks.specs.Readable.{Readable, nodes_in, value_under}
use Rattle.single.specs.declared.Evaluated.{Evaluated}
use Rattle.single.specs.Single.{refusal, evaluation}

module _ (c : Columns) (count : ℕ) where
  abbrev pub fits : Bool
  fits = size_fits c.vars c.lows c.highs c.heads c.links

  abbrev pub ordered : Bool
  ordered = good_order (rows c.vars c.lows c.highs) count c.heads c.links

  module _ (f g : ℕ) where
    pub refused-7 : fits ≡ false → refusal c count f g ≡ 7
    unfolding refusal
    refused-7 e = rw e

    pub refused-26 : fits ≡ true → ordered ≡ false → refusal c count f g ≡ 26
    unfolding refusal
    refused-26 e o = rw (e, o)

    pub refused-13 : fits ≡ true → ordered ≡ true → (ltb f count && ltb g count) ≡ false → refusal c count f g ≡ 13
    unfolding refusal
    refused-13 e o p = rw (e, o, p)

    pub accepted-0 : fits ≡ true → ordered ≡ true → f < count → g < count → refusal c count f g ≡ 0
    unfolding refusal
    accepted-0 e o p q = rw (e, o, lt-ltb f count p, lt-ltb g count q)

  module _ (f word : ℕ) where
    abbrev answer : ℕ → Bool → Evaluated
    answer number b = record { number = number; yes = b; count = count }

    pub evaluated-7 : fits ≡ false → answer 7 false ≡ evaluation c count f word
    unfolding evaluation
    evaluated-7 e = rw (refused-7 f f e)

    pub evaluated-26 : fits ≡ true → ordered ≡ false → answer 26 false ≡ evaluation c count f word
    unfolding evaluation
    evaluated-26 e o = rw (refused-26 f f e o)

    pub evaluated-13 : fits ≡ true → ordered ≡ true → count ≤ f → answer 13 false ≡ evaluation c count f word
    unfolding evaluation
    evaluated-13 e o p = rw (refused-13 f f e o (rw (le-ltb f count p)))

    pub evaluated-0 : fits ≡ true → ordered ≡ true → f < count
        → answer 0 (value_under (nodes_in c.vars c.lows c.highs count) f word) ≡ evaluation c count f word
    unfolding evaluation value_under
    evaluated-0 e o p = rw (accepted-0 f f e o p p)

  pub readable : fits ≡ true → ordered ≡ true → Readable c.vars c.lows c.highs count
  readable e o =
      let S : Sized c.vars c.lows c.highs c.heads c.links = sized c.vars c.lows c.highs c.heads c.links e in
      let G : GoodPlaces (rows c.vars c.lows c.highs) count = good-order (rows c.vars c.lows c.highs) count c.heads
      c.links o in
      record {
        least = G.least;
        within = omega (arith, G.within, length-rows c.vars c.lows c.highs S.lows S.highs);
        most = S.most;
        lows = S.lows;
        highs = S.highs;
        ordered = in_order (nodes_in c.vars c.lows c.highs count) G.ordered;
      }
