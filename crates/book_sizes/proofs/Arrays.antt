-- Working arrays of zeros are what a book's call asks for. Assumes nothing.
use mathlib.Core.Path.{◌≡◌, sym, ap, ap₂, ◌∙◌}
use mathlib.Core.List.{List}
use Prim.Native.Nat.{ℕ, ◌+◌, ◌*◌, ◌≤◌}
use native.Mathlib.Omega.{arith}
use lib.ListN.{length, length-replicate}
use Rattle.table.specs.Indexed.{Table, table_of, size, nodes_of, indexed}
use Rattle.table.proofs.Emptied.{table-emptied}
use Rattle.verdict.specs.Steps.{emptied}
use Rattle.verdict.specs.Check.{zeros}
use Rattle.state.specs.States.{lent_of}
use Rattle.shares.specs.declared.Book.{Book}
use Rattle.shares.specs.Alone.{places}
use Rattle.shares.specs.Books.{BookLists, holding}
use Rattle.book_line.specs.Says.{Prepared}
use Rattle.book_line.proofs.Tests.{Tested, holding-tested}
use Rattle.book_sizes.specs.Calls.{CallReady}

module _ (T : Table) (l : BookLists) (scratch : List ℕ) (b : Book) (R : CallReady T l scratch b) where
  pub tested : Tested (size T) b
  tested = (holding-tested (size T) (length (nodes_of T)) (holding b l) R.fits).0

  pub places-most : (most : ℕ) → size T ≤ most → b.share + 2 ≤ most
  places-most most m = omega (arith, tested.places-in)

  module _ (vs ls hs ds ks : List ℕ) (a : vs ≡ zeros (places b)) (d : ls ≡ zeros (places b)) (e : hs ≡ zeros (places b))
      (f : ds ≡ zeros (2 * places b)) (g : ks ≡ zeros (places b)) where
    emptied-table : table_of vs ls hs ds ks 2 ≡ indexed (places b) emptied
    emptied-table =
        ap₂ (λ (x y : List ℕ). table_of x y hs ds ks 2) a d
        ∙ ap₂ (λ (x y : List ℕ). table_of (zeros (places b)) (zeros (places b)) x y ks 2) e f
        ∙ ap (λ (x : List ℕ). table_of (zeros (places b)) (zeros (places b)) (zeros (places b)) (zeros (2 * places b)) x 2) g
        ∙ table-emptied (places b) (omega arith)

    pub prepared : (known found strikes : List ℕ) (n m : ℕ) → known ≡ zeros n → found ≡ zeros m → strikes ≡ zeros m → size T ≤ n → 2048 ≤ m
        → Prepared T l b (lent_of vs ls hs ds ks found scratch strikes) known
    prepared known found strikes n m k p q most room =
        let long : length known ≡ n = ap length k ∙ length-replicate n 0 in
        let many : length found ≡ m = ap length p ∙ length-replicate m 0 in
        record {
          good = R.good;
          fits = R.fits;
          sized = ap length a ∙ length-replicate (places b) 0;
          opened = emptied-table;
          known-room = omega (arith, R.good.within);
          known-none = k ∙ ap zeros (sym long);
          own = R.own;
          members = R.members;
          struck = R.struck;
          scratch = R.scratch-room;
          room = omega arith;
          none_found = p ∙ ap zeros (sym many);
          marked = ap length q ∙ length-replicate m 0 ∙ sym many;
        }
