-- `round`: `all_by` by the literals of the first member's units, at the places that they touch. Assumes nothing.
use mathlib.Core.Path.{refl, sym, subst}
use Prim.Native.Nat.{ℕ}
use native.Mathlib.Omega.{arith}
use lib.ListN.{take}
use lib.Seq.{length-take-le}
use lib.Bits.{bit_or}
use Rattle.supports.proofs.Words.{support-leaf}
use Rattle.touched.specs.Places.{AllBut, Untouched}
use Rattle.traces.proofs.round.Goals as goal

-- src/lib.rt:69:9
pub slice_bounds-all_by-end : goal.slice_bounds-all_by-end
slice_bounds-all_by-end c = sym (length-take-le _ _
    (omega (
      arith,
      c.touched_places-many.ensures.0,
      c.requires.1,
      c.requires.4,
      c.touched_places-many.auto.places,
    )))

-- src/lib.rt:60:5
pub all_by-requires : goal.all_by-requires
all_by-requires c =
    let r = c.requires in
    let a = c.args in
    record {
      fact = (r.0, omega (arith, r.0.good.least), refl);
      fact_2 = (
        r.1,
        r.2,
        refl,
        support-leaf _ 1 0 (omega arith),
        subst
            (λ (k : ℕ). AllBut k (take c.touched_places-many.result c.touched_places-many.new.places)
            (Untouched a.words.now (bit_or a.u.positive a.u.negative)))
            r.1 c.touched_places-many.ensures.1,
      );
    }
