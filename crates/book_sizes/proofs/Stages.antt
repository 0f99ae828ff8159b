-- A book's call by its stage: what the formula's call asks, and what is said of the own table at each stage. Assumes nothing.
use mathlib.Core.Path.{◌≡◌, refl, sym, ap, ◌∙◌}
use mathlib.Core.Bool.{true, false}
use mathlib.Core.List.{List, ◌++◌}
use Prim.Native.Nat.{ℕ}
use native.Mathlib.Omega.{arith}
use lib.ListN.{length}
use Rattle.meaning.proofs.Booleans.{t≢f}
use Rattle.table.specs.Nodes.{Node}
use Rattle.table.specs.Making.{Room, all}
use Rattle.table.specs.Indexed.{Table, size, nodes_of, indexed, lists_of}
use Rattle.verdict.specs.Steps.{emptied}
use Rattle.verdict.specs.Check.{zeros}
use Rattle.state.specs.States.{Lent, table_in}
use Rattle.shares.specs.declared.Stage.{Stage}
use Rattle.shares.specs.declared.Stage.TheVariants.{Formula, Lines, Bound}
use Rattle.shares.specs.declared.Book.{Book}
use Rattle.shares.specs.Shares.{alone}
use Rattle.shares.specs.Alone.{places}
use Rattle.shares.specs.Books.{Holding, BookLists, BookOutcome, holding, own_table, charged, book_leaves}
use Rattle.book_line.specs.Says.{Prepared, FirstReady}
use Rattle.book_judge.proofs.Preparing.{passed}
use Rattle.book_sizes.specs.Calls.{awaits_formula}

first-stage : (g : Stage) → awaits_formula g ≡ true → g ≡ Formula
first-stage Formula e = refl
first-stage Lines e = t≢f (sym e)
first-stage (Bound number place) e = t≢f (sym e)

pub later-stage : (g : Stage) → awaits_formula g ≡ false → g ≡ Formula → ⊥
later-stage Formula e q = t≢f e
later-stage Lines e q = t≢f (ap awaits_formula (sym q))
later-stage (Bound number place) e q = t≢f (ap awaits_formula (sym q))

own_first : (g : Stage) (T : List Node) (h : Holding) → awaits_formula g ≡ true → own_table g T h ≡ all emptied
own_first Formula T h e = refl
own_first Lines T h e = t≢f (sym e)
own_first (Bound number place) T h e = t≢f (sym e)

own-later : (g : Stage) (T : List Node) (h : Holding) → awaits_formula g ≡ false
    → own_table g T h ≡ alone (places h.book) T (h.own ++ h.members)
own-later Formula T h e = t≢f e
own-later Lines T h e = refl
own-later (Bound number place) T h e = refl

module _ (T : Table) (l : BookLists) (b : Book) (bytes scratch : List ℕ) (o : BookOutcome) where
  -- what is left, by the room of the own table
  abbrev leaves : Room → BookOutcome
  leaves x = book_leaves (lists_of T) T.count l scratch b (charged 64 (size T) (nodes_of T) (holding b l) bytes x)

  pub first-is : awaits_formula b.stage ≡ true → o ≡ leaves (all emptied) → o ≡ leaves (own_table b.stage (nodes_of T) (holding b l))
  first-is e q = q ∙ ap leaves (sym (own_first b.stage (nodes_of T) (holding b l) e))

  pub later-is : awaits_formula b.stage ≡ false
      → o ≡ leaves (alone (places b) (nodes_of T) ((holding b l).own ++ (holding b l).members))
      → o ≡ leaves (own_table b.stage (nodes_of T) (holding b l))
  later-is e q = q ∙ ap leaves (sym (own-later b.stage (nodes_of T) (holding b l) e))

pub first-ready : (T : Table) (l : BookLists) (b : Book) (lent : Lent) (known : List ℕ) → Prepared T l b lent known
    → awaits_formula b.stage ≡ true → lent.struck ≡ zeros (length lent.members)
    → FirstReady T l b (table_in lent 2) lent.members lent.struck
first-ready T l b lent known P e none =
    let W = passed T l b lent known P in
    record {
      stage = first-stage b.stage e;
      good = P.good;
      fits = P.fits;
      sized = P.sized;
      opened = record {
        least = omega (arith, P.sized);
        most = omega (arith, P.sized, W.places-in, P.good.most);
        written = P.opened ∙ ap (λ (s : ℕ). indexed s emptied) (sym P.sized);
        room = P.room;
        none = P.none_found;
      };
      unmarked = none;
      own = P.own;
      members = P.members;
      struck = P.struck;
    }
