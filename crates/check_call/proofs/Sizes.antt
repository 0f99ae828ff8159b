-- The call by the sizes of the lists lent: 7 where they do not fit, else the outcome of the verdict. Assumes nothing.
use mathlib.Core.Path.{◌≡◌, ◌∙◌}
use mathlib.Core.Bool.{Bool, true, false, ◌&&◌}
use mathlib.Core.List.{List}
use Prim.Native.Nat.{ℕ}
use lib.ListN.{length}
use lib.Dec.{eqb, leb}
use Rattle.table.specs.Columns.{size_fits, Columns}
use Rattle.commands.specs.declared.Mode.{Mode}
use Rattle.verdict.specs.Check.{verdict, CheckOutcome, lent_fits, outcome, check}
use Rattle.session.specs.Checked.{check_outcome}
use Rattle.session.proofs.Finish.{answer}

module _ (c : Columns) (members struck scratch : List ℕ) where
  abbrev fits : Bool
  fits = size_fits c.vars c.lows c.highs c.heads c.links

  pub unfit-columns : fits ≡ false → lent_fits c members struck scratch ≡ false
  unfolding lent_fits
  unfit-columns e = rw e

  pub fit-columns : fits ≡ true → lent_fits c members struck scratch
      ≡ (leb 2048 (length members) && (eqb (length struck) (length members) && leb 4096 (length scratch)))
  unfolding lent_fits
  fit-columns e = rw e

  module _ (mode : Mode) (count : ℕ) (formula proof : List ℕ) where
    pub called-7 : lent_fits c members struck scratch ≡ false
        → check_outcome c members struck scratch (answer 7 false 0 0 0 count 0) ≡ check mode c count members struck scratch formula proof
    unfolding check
    called-7 e = rw e

    pub called-done : lent_fits c members struck scratch ≡ true → (o : CheckOutcome)
        → o ≡ outcome (length c.vars) (length members) (length scratch) (verdict mode (length c.vars) formula proof) → o
        ≡ check mode c count members struck scratch formula proof
    unfolding check
    called-done e o done = done ∙ rw e
