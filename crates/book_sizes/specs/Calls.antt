-- What the inner functions of a book's call ask. No call open to others cites this file.
use Rattle.std.specs.Prelude.{◌≡◌, Bool, true, false, List, ℕ, ◌≤◌, length}
use Rattle.table.specs.Indexed.{Table, size, nodes_of, Good}
use Rattle.shares.specs.declared.Stage.{Stage}
use Rattle.shares.specs.declared.Stage.TheVariants.{Formula, Lines, Bound}
use Rattle.shares.specs.declared.Book.{Book}
use Rattle.shares.specs.Books.{BookLists, holding_fits, holding}

-- Whether the book's formula is still to be read.
abbrev pub awaits_formula : Stage → Bool
awaits_formula Formula = true
awaits_formula Lines = false
awaits_formula (Bound number place) = false

-- The tests are passed.
pub record CallReady (T : Table) (l : BookLists) (scratch : List ℕ) (b : Book) : Type 0 where
  pub good : Good T
  pub fits : holding_fits (size T) (length (nodes_of T)) (holding b l) ≡ true
  pub own : length l.own ≡ size T
  pub members : 2048 ≤ length l.members
  pub struck : length l.struck ≡ length l.members
  pub scratch-room : 4096 ≤ length scratch
