-- What the test of the lists' sizes says. Assumes nothing.
use mathlib.Core.Path.{◌≡◌, refl, sym, ◌∙◌}
use mathlib.Core.Bool.{Bool, true, false, ◌&&◌}
use mathlib.Core.List.{List}
use Prim.Native.Nat.{ℕ, ◌+◌, ◌-◌, ◌≤◌, ◌<◌}
use native.Mathlib.Omega.{arith}
use lib.ListN.{length}
use lib.Dec.{eqb, ltb, leb}
use borrow.Author.Tests.{le-leb, lt-leb, leb-true, eqb-true, ltb-true, ltb-false}
use Rattle.meaning.proofs.Booleans.{and_both}
use Rattle.table.specs.Columns.{size_fits, Columns}
use Rattle.verdict.specs.Check.{lent_fits}
use Rattle.shares.specs.Books.{BookLists, book_fits}

module _ (c : Columns) (l : BookLists) (scratch : List ℕ) where
  abbrev columns-fit : Bool
  columns-fit = size_fits c.vars c.lows c.highs c.heads c.links

  pub unfit-columns : columns-fit ≡ false → false ≡ book_fits c l scratch
  unfolding book_fits lent_fits
  unfit-columns e = rw e

  pub fit-columns : columns-fit ≡ true → book_fits c l scratch
      ≡ ((leb 2048 (length l.members) && (eqb (length l.struck) (length l.members) && leb 4096 (length scratch)))
      && eqb (length l.own) (length c.vars))
  unfolding book_fits lent_fits
  fit-columns e = rw e

  pub record ListsFit : Type 0 where
    pub columns : columns-fit ≡ true
    pub members : 2048 ≤ length l.members
    pub struck : length l.struck ≡ length l.members
    pub scratch-room : 4096 ≤ length scratch
    pub own : length l.own ≡ length c.vars

  pub lists-fit : book_fits c l scratch ≡ true → ListsFit
  unfolding book_fits lent_fits
  lists-fit e =
      let w = and_both (lent_fits c l.members l.struck scratch) (eqb (length l.own) (length c.vars)) e in
      let x = and_both columns-fit
      (leb 2048 (length l.members) && (eqb (length l.struck) (length l.members) && leb 4096 (length scratch))) w.0 in
      let y = and_both (leb 2048 (length l.members)) (eqb (length l.struck) (length l.members) && leb 4096 (length scratch)) x.1
      in
      let z = and_both (eqb (length l.struck) (length l.members)) (leb 4096 (length scratch)) y.1 in
      record {
        columns = x.0;
        members = leb-true 2048 (length l.members) y.0;
        struck = eqb-true (length l.struck) (length l.members) z.0;
        scratch-room = leb-true 4096 (length scratch) z.1;
        own = eqb-true (length l.own) (length c.vars) w.1;
      }

-- ---- the shares

module _ (size a b : ℕ) where
  pub first-beyond : size < a → false ≡ leb (a + b + 2) size
  first-beyond p = sym (lt-leb (a + b + 2) size (omega arith))

  pub second-beyond : a ≤ size → size - a < b → false ≡ leb (a + b + 2) size
  second-beyond p q = sym (lt-leb (a + b + 2) size (omega arith))

  pub both-last : a ≤ size → b ≤ size - a → leb 2 (size - a - b) ≡ leb (a + b + 2) size
  both-last p q = go (ltb size (a + b + 2)) refl
    where
      go : (c : Bool) → ltb size (a + b + 2) ≡ c → leb 2 (size - a - b) ≡ leb (a + b + 2) size
      go true e =
          let w : size < a + b + 2 = ltb-true size (a + b + 2) e in
          lt-leb 2 (size - a - b) (omega arith) ∙ sym (lt-leb (a + b + 2) size w)
      go false e =
          let w : a + b + 2 ≤ size = ltb-false size (a + b + 2) e in
          le-leb 2 (size - a - b) (omega arith) ∙ sym (le-leb (a + b + 2) size w)
