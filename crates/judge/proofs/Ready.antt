-- What the calls ask, met by what those before them left. Assumes nothing.
use mathlib.Core.Path.{◌≡◌, refl, sym, ap, subst}
use mathlib.Core.Bool.{false}
use mathlib.Core.List.{List}
use Prim.Native.Nat.{ℕ}
use native.Mathlib.Omega.{arith}
use lib.ListN.{length}
use Rattle.meaning.specs.Diagram.{Diagram}
use Rattle.table.specs.Indexed.{Table, size, Good}
use Rattle.walks.specs.Readable.{Roomy, ListReady}
use Rattle.table.specs.Lists.{Inside, Extended}
use Rattle.judge.specs.Lines.{Negatable, ByNegation}

-- the members by not-g
pub list-ready : (T : Table) (ms : List Diagram) (g : Diagram) (T' : Table) (list memo memo' : List ℕ) → ByNegation T ms g false T' list →
    Roomy T.vars memo → length memo' ≡ length memo
    → ListReady T' list memo'
list-ready T ms g T' list memo memo' B room len = record
    { good = B.extended.good; inside = B.inside refl; room = omega (arith, B.extended.same_size) }

-- the same list over the same table
pub again-ready : (T T' : Table) (list memo memo' : List ℕ) → T' ≡ T → length memo' ≡ length memo → ListReady T list memo →
    ListReady T' list memo'
again-ready T T' list memo memo' e len R =
    record {
      good = subst Good (sym e) R.good;
      inside = subst (λ (t : Table). Inside t.count list) (sym e) R.inside;
      room = omega (arith, R.room, ap size e);
    }

-- a list over a table that has grown
pub inside-more : (T T' : Table) (list : List ℕ) → Extended T T' → Inside T.count list → Inside T'.count list
inside-more T T' list E h i p = omega (arith, E.more, h i p)

-- the same line with another memo of its length
pub memo-again : (T : Table) (list memo memo' : List ℕ) (g : ℕ) → length memo' ≡ length memo → Negatable T list memo g →
    Negatable T list memo' g
memo-again T list memo memo' g len R =
    record {
      ready = record { good = R.ready.good; inside = R.ready.inside; room = omega (arith, R.ready.room) };
      inside = R.inside;
      not-one = R.not-one;
    }
