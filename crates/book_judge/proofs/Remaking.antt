-- A later call once the own table is made again: the state before the first record, and the call by the free places and the stage.
-- Assumes nothing.
use mathlib.Core.Path.{◌≡◌, refl, sym, ap, ap₂, ◌∙◌}
use mathlib.Core.Bool.{Bool, cond}
use mathlib.Core.List.{List, []}
use Prim.Native.Nat.{ℕ, ◌+◌, ◌-◌, ◌≤◌, ◌<◌, max}
use native.Mathlib.Omega.{arith}
use lib.ListN.{length, drop}
use borrow.Author.Tests.{lt-ltb, le-ltb}
use Rattle.table.specs.Nodes.{Node}
use Rattle.table.specs.Columns.{Columns}
use Rattle.table.specs.Making.{all}
use Rattle.table.specs.Indexed.{Table, size, nodes_of, lists_of}
use Rattle.table.proofs.Written.{length-nodes}
use Rattle.verdict.specs.Steps as check
use Rattle.verdict.specs.Check.{zeros}
use Rattle.state.specs.declared.State.{State}
use Rattle.state.specs.States as entries
use Rattle.state.specs.States.{Lent, table_in, Held}
use Rattle.shares.specs.declared.Stage.{Stage}
use Rattle.shares.specs.declared.Stage.TheVariants.{Lines, Bound}
use Rattle.shares.specs.declared.Book.{Book}
use Rattle.shares.specs.Shares.{sharing}
use Rattle.shares.specs.Alone.{Alone, Result, places, state_of, repeated, later_call, by_stage, alone_call}
use Rattle.shares.specs.Books.{Holding, Called, BookLists, BookOutcome, holding, alone_of, unfit, shared_after, refused_after, is_accepted}
use Rattle.shares.specs.Books.{judged, charged, book_leaves}
use Rattle.book_parts.proofs.Lasting.{first-held}
use Rattle.book_line.specs.declared.Said.{Said}
use Rattle.book_line.specs.Says.{said_outcome, said_by, unfit_said, first_state, LineReady, Remade, own_nodes}
use Rattle.book_line.proofs.Tests.{Tested, holding-tested}

module _ (T : Table) (l : BookLists) (b : Book) (lent : Lent) (owncount : ℕ) (M : Remade T l b lent owncount) where
  abbrev h : Holding
  h = holding b l

  abbrev t : List Node
  t = nodes_of (table_in lent owncount)

  abbrev a : Alone
  a = alone_of (nodes_of T) h t

  pub passed : Tested (size T) b
  passed = (holding-tested (size T) (length (nodes_of T)) h M.fits).0

  len : length t ≡ owncount
  len = length-nodes (table_in lent owncount) M.own-good

  shared-len : length (nodes_of T) ≡ T.count
  shared-len = length-nodes T M.good

  pub held : Held 64 lent (first_state b owncount)
  held = first-held lent (first_state b owncount) (record {
    good = M.own-good;
    kept = refl;
    entries = refl;
    scratch = M.scratch;
    inside = M.inside;
    rest = M.rest;
    many = omega (arith, passed.clauses);
    lines = passed.lines;
    room = M.room;
    marked = M.marked;
    unmarked = M.unmarked;
    rounds = refl;
  })

  begun : entries.state_of lent (first_state b owncount) ≡ state_of a
  begun = ap₂ (made owncount) M.found M.marks ∙ ap (λ (k : ℕ). made k a.members a.struck) (sym len)
    where
      made : ℕ → List ℕ → List ℕ → check.State
      made k ms ss = record {
        nodes = t;
        kept = k;
        members = ms;
        struck = ss;
        entries = [];
        positive = 0;
        negative = 0;
        lines = b.lines;
        rounds = 0;
        peak = max (b.peak + 2) k;
        refuted = b.refuted;
      }

  pub line-ready : b.stage ≡ Lines → places b - owncount ≤ size T - T.count → LineReady T l b lent (first_state b owncount)
  line-ready stage enough = record {
    stage = stage;
    good = M.good;
    fits = M.fits;
    made = M.made;
    enough = enough;
    sized = M.sized;
    own = M.own;
    members = M.members;
    struck = M.struck;
    many = refl;
    begun = begun;
  }

  -- ---- the call

  module _ (bytes scratch : List ℕ) where
    abbrev done : Called
    done = judged (size T) (nodes_of T) h (alone_call 64 a bytes)

    abbrev Leaves : BookOutcome → Type 0
    Leaves o = o ≡ book_leaves (lists_of T) T.count l scratch b (charged 64 (size T) (nodes_of T) h bytes (all t))

    pub unfit-is : size T - T.count < places b - owncount → (r : Said) → r ≡ unfit_said T.count b →
        Leaves (said_outcome (lists_of T) l scratch r)
    unfit-is less r er =
        ap (said_outcome (lists_of T) l scratch) er
        ∙ sym (ap (λ (x : Bool). book_leaves (lists_of T) T.count l scratch b (cond x (unfit (nodes_of T) h) done))
        (lt-ltb (size T - length (nodes_of T)) (places b - length t) (omega (arith, less, len, shared-len))))

    module _ (enough : places b - owncount ≤ size T - T.count) where
      goes_on : (o : BookOutcome) → o ≡ book_leaves (lists_of T) T.count l scratch b done → Leaves o
      goes_on o e =
          e ∙ sym (ap (λ (x : Bool). book_leaves (lists_of T) T.count l scratch b (cond x (unfit (nodes_of T) h) done))
          (le-ltb (size T - length (nodes_of T)) (places b - length t) (omega (arith, enough, len, shared-len))))

      by-stage : (s : Stage) → b.stage ≡ s → alone_call 64 a bytes ≡ by_stage 64 s a bytes
      unfolding alone_call
      by-stage s e = ap (λ (s : Stage). by_stage 64 s a bytes) e

      pub line-is : b.stage ≡ Lines → (o : BookOutcome) → o ≡ book_leaves (lists_of T) T.count l scratch b
          (judged (size T) (nodes_of T) h (later_call 64 a bytes)) → Leaves o
      line-is stage o e = goes_on o (e ∙ sym (ap
          (λ (r : Result). book_leaves (lists_of T) T.count l scratch b (judged (size T) (nodes_of T) h r)) (by-stage Lines stage)))

      pub line-ran : b.stage ≡ Lines → (first : State) → first ≡ first_state b owncount →
          (d : Columns) (l' : BookLists) (r : Said) (left : List ℕ) → left ≡ zeros (length scratch)
          → said_outcome d l' (zeros (length scratch)) r ≡ book_leaves (lists_of T) T.count l scratch b
          (judged (size T) (nodes_of T) h (later_call 64 (alone_of (nodes_of T) h (own_nodes lent first)) bytes)) →
          Leaves (said_outcome d l' left r)
      line-ran stage first ef d l' r left es e =
          line-is stage (said_outcome d l' left r) (ap (λ (xs : List ℕ). said_outcome d l' xs r) es ∙ e
          ∙ ap (λ (st : State). book_leaves (lists_of T) T.count l scratch b
          (judged (size T) (nodes_of T) h (later_call 64 (alone_of (nodes_of T) h (own_nodes lent st)) bytes))) ef)

      pub bound-is : (number place : ℕ) → b.stage ≡ Bound number place → (r : Said) → r ≡ said_by number place T.count b →
          Leaves (said_outcome (lists_of T) l scratch r)
      bound-is number place stage r er =
          let x : Result = repeated number place a in
          goes_on (said_outcome (lists_of T) l scratch r) (ap (said_outcome (lists_of T) l scratch) er
          ∙ sym (ap (λ (r : Result). book_leaves (lists_of T) T.count l scratch b (judged (size T) (nodes_of T) h r))
          (by-stage (Bound number place) stage)
          ∙ ap (λ (s : Stage). book_leaves (lists_of T) T.count l scratch b
          (cond (is_accepted s x.answer) (shared_after (nodes_of T) h x (sharing (size T) (nodes_of T) [] (drop 2 x.after.nodes)))
          (refused_after s (nodes_of T) h x))) stage))
