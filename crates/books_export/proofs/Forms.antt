-- What the calls say and keep, from what the calls beneath them say. Assumes nothing.
use mathlib.Core.Path.{◌≡◌, ap, ap₂, ◌∙◌}
use mathlib.Core.List.{List}
use Prim.Native.Nat.{ℕ}
use Rattle.table.specs.Columns.{Columns}
use Rattle.shares.specs.Books.{BookLists, BookOutcome, OpenOutcome, refusal}
use Rattle.book_open.specs.declared.Opened.{Opened}
use Rattle.book_open.specs.Opens.{opened_outcome}
use Rattle.book_line.specs.declared.Said.{Said}
use Rattle.book_line.specs.Says.{answer_of, said_outcome}
use Rattle.book_kept.specs.declared.Kept.{Kept}
use Rattle.book_kept.specs.Kept.{kept_as, kept_opened}
use Rattle.book_kept.specs.Calls.{KeptOutcome, kept_outcome, booked_outcome, KeptOpening, opening_by, opening_outcome}

pub booked-is : (d : Columns) (l : BookLists) (s : List ℕ) (said : Said) (k x : Kept) → x ≡ kept_as k said.book → (o : BookOutcome)
    → said_outcome d l s said ≡ o → booked_outcome d l s (record {
      number = said.number;
      place = said.place;
      lines = said.lines;
      rounds = said.rounds;
      peak = said.peak;
      count = said.count;
      book = x;
    }) ≡ kept_outcome k o
booked-is d l s said k x e o q = ap with e ∙ ap (kept_outcome k) q
  where
    with : Kept → KeptOutcome
    with y = record {
      answer = answer_of said;
      count = said.count;
      columns = d;
      lists = l;
      scratch = s;
      kept = y;
    }

pub opening-is : (d : Columns) (a b : BookLists) (s : List ℕ) (said : Opened) (k k' x x' : Kept) (share_a share_b : ℕ)
    → x ≡ kept_opened said.number share_a k → x' ≡ kept_opened said.number share_b k' → (o : OpenOutcome) → opened_outcome d a b s said ≡ o
    → opening_outcome d a b s (record { number = said.number; count = said.count; first = x; second = x' })
    ≡ opening_by k k' share_a share_b o
opening-is d a b s said k k' x x' share_a share_b e e' o q = ap₂ with e e' ∙ ap (opening_by k k' share_a share_b) q
  where
    with : Kept → Kept → KeptOpening
    with u v = record {
      answer = refusal said.number;
      count = said.count;
      columns = d;
      a = a;
      b = b;
      scratch = s;
      first = u;
      second = v;
    }
