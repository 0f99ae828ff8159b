-- What the tests of a book's call come to: 7, 26, and what is known once they are passed. Assumes nothing.
use mathlib.Core.Path.{◌≡◌, sym, ap, ◌∙◌}
use mathlib.Core.Bool.{Bool, true, false, ◌&&◌}
use mathlib.Core.List.{List}
use Prim.Native.Nat.{ℕ, ◌+◌, ◌≤◌}
use native.Mathlib.Omega.{arith}
use lib.ListN.{length, take}
use lib.Dec.{leb}
use borrow.Author.Tests.{leb-true}
use Rattle.meaning.proofs.Booleans.{and_both}
use Rattle.table.specs.Index.{good_order}
use Rattle.table.specs.Columns.{rows, Columns, columns_made}
use Rattle.table.specs.Indexed.{Table, table_of, size, nodes_of}
use Rattle.table.proofs.Written.{length-nodes}
use Rattle.table.proofs.InOrder.{lent-good}
use Rattle.shares.specs.declared.Book.{Book}
use Rattle.shares.specs.Alone.{places}
use Rattle.shares.specs.Books.{BookLists, BookOutcome, all_less, numbers_fit, holding_fits, holding, own_table, book_fits, charged}
use Rattle.shares.specs.Books.{book_call}
use Rattle.shares.specs.Books.{book_leaves, book_outcome_at, book_outcome}
use Rattle.book_open.proofs.Sizes.{lists-fit}
use Rattle.book_line.specs.declared.Said.{Said}
use Rattle.book_line.specs.Says.{said_outcome, unfit_said}
use Rattle.book_line.proofs.Tests as judge
use Rattle.book_sizes.specs.Calls.{CallReady}

-- ---- numbers, members and marks

pub few-members : (size : ℕ) (b : Book) → numbers_fit size b ≡ true → b.clauses + b.lines ≤ 2048
unfolding numbers_fit
few-members size b e =
    let w = and_both (leb (places b) size && (leb b.variables 64 && leb b.clauses 1024))
    ((leb b.lines 1024 && leb b.rounds 268435456) && (leb b.charge b.share && leb b.peak b.share)) e in
    let x = and_both (leb (places b) size) (leb b.variables 64 && leb b.clauses 1024) w.0 in
    let y = and_both (leb b.variables 64) (leb b.clauses 1024) x.1 in
    let z = and_both (leb b.lines 1024 && leb b.rounds 268435456) (leb b.charge b.share && leb b.peak b.share) w.1 in
    let u = and_both (leb b.lines 1024) (leb b.rounds 268435456) z.0 in
    let p : b.clauses ≤ 1024 = leb-true b.clauses 1024 y.1 in
    let q : b.lines ≤ 1024 = leb-true b.lines 1024 u.0 in
    omega arith

module _ (size count : ℕ) (b : Book) (l : BookLists) where
  pub numbers-beyond : numbers_fit size b ≡ false → false ≡ holding_fits size count (holding b l)
  unfolding holding_fits
  numbers-beyond e = rw e

  pub numbers-within : numbers_fit size b ≡ true → (r : Bool)
      → r ≡ (all_less count (take (b.clauses + b.lines) l.members) && all_less 2 (take (b.clauses + b.lines) l.struck))
      → r ≡ holding_fits size count (holding b l)
  unfolding holding_fits
  numbers-within e r q = q ∙ rw e

-- ---- the outcome

module _ (vs ls hs ds ks : List ℕ) (count : ℕ) (l : BookLists) (scratch : List ℕ) (b : Book) (bytes : List ℕ) where
  abbrev c : Columns
  c = columns_made vs ls hs ds ks

  abbrev T : Table
  T = table_of vs ls hs ds ks count

  abbrev ordered : Bool
  ordered = good_order (rows vs ls hs) count ds ks

  abbrev seven : Said
  seven = record { number = 7; place = 0; lines = 0; rounds = 0; peak = 0; count = count; book = b }

  pub outcome-7 : book_fits c l scratch ≡ false → said_outcome c l scratch seven ≡ book_outcome c count l scratch b bytes
  unfolding book_outcome_at
  outcome-7 e = rw e

  module _ (fits : book_fits c l scratch ≡ true) where
    pub outcome-disordered : ordered ≡ false → (r : Said) → r ≡ unfit_said count b
        → said_outcome c l scratch r ≡ book_outcome c count l scratch b bytes
    unfolding book_outcome_at
    outcome-disordered e r q = ap (said_outcome c l scratch) q ∙ rw (fits, e)

    module _ (e : ordered ≡ true) where
      nodes-count : length (nodes_of T) ≡ count
      nodes-count = length-nodes T (lent-good vs ls hs ds ks count (lists-fit c l scratch fits).columns e)

      called : book_outcome c count l scratch b bytes
          ≡ book_leaves c count l scratch b (book_call 64 (length vs) (nodes_of T) (holding b l) bytes)
      unfolding book_outcome_at nodes_of
      called = rw (fits, e)

      pub outcome-unfit : holding_fits (length vs) count (holding b l) ≡ false → (r : Said) → r ≡ unfit_said count b
          → said_outcome c l scratch r ≡ book_outcome c count l scratch b bytes
      unfolding book_call
      outcome-unfit h r q =
          let g : holding_fits (length vs) (length (nodes_of T)) (holding b l) ≡ false =
          ap (λ (n : ℕ). holding_fits (length vs) n (holding b l)) nodes-count ∙ h in
          ap (said_outcome c l scratch) q ∙ sym (called ∙ rw g)

      module _ (h : holding_fits (length vs) count (holding b l) ≡ true) where
        holding-in : holding_fits (length vs) (length (nodes_of T)) (holding b l) ≡ true
        holding-in = ap (λ (n : ℕ). holding_fits (length vs) n (holding b l)) nodes-count ∙ h

        pub outcome-done : (o : BookOutcome)
            → o ≡ book_leaves c count l scratch b
            (charged 64 (length vs) (nodes_of T) (holding b l) bytes (own_table b.stage (nodes_of T) (holding b l)))
            → o ≡ book_outcome c count l scratch b bytes
        unfolding book_call
        outcome-done o q =
            let g : holding_fits (length vs) (length (nodes_of T)) (holding b l) ≡ true = holding-in in
            q ∙ sym (called ∙ rw g)

        pub ready : CallReady T l scratch b
        ready =
            let F = lists-fit c l scratch fits in
            record {
              good = lent-good vs ls hs ds ks count F.columns e;
              fits = holding-in;
              own = F.own;
              members = F.members;
              struck = F.struck;
              scratch-room = F.scratch-room;
            }

        pub share-small : b.share + 2 ≤ length vs
        share-small = (judge.holding-tested (length vs) (length (nodes_of T)) (holding b l) holding-in).0.places-in
