-- A book's first call: the formula read in its own table, and what is written back. Assumes nothing.
use mathlib.Core.Path.{◌≡◌, refl, sym, ap, ap₂, ◌∙◌}
use mathlib.Core.Bool.{Bool, true, false, cond}
use mathlib.Core.List.{List, [], ◌∷◌, map}
use mathlib.Core.Option.{Option}
use Prim.Native.Nat.{ℕ, zero, suc, ◌-◌, ◌≤◌, ◌<◌}
use native.Mathlib.Omega.{arith}
use lib.ListN.{length, take, drop}
use lib.Seq.{length-take-le}
use lib.Dec.{eqb}
use borrow.Author.Tests.{lt-ltb, le-ltb, ne_eqb}
use Rattle.meaning.proofs.Booleans.{t≢f}
use Rattle.table.specs.Nodes.{Node}
use Rattle.table.specs.Columns.{stored_as}
use Rattle.table.specs.Making.{all, placed_all}
use Rattle.table.specs.Indexed.{Table, size, nodes_of, lists_of}
use Rattle.table.proofs.Written.{length-nodes, good-ordered}
use Rattle.table.proofs.InOrder.{good-stored}
use Rattle.table.proofs.Zeros.{part-zeros}
use Rattle.walks.specs.Readable.{nodes_in}
use Rattle.walks.proofs.Here.{good-readable}
use Rattle.dimacs.specs.Header.{header}
use Rattle.commands.specs.Commands.{in_records}
use Rattle.verdict.specs.Steps.{emptied, begun}
use Rattle.verdict.specs.Check.{Verdict, left, refused_formula, verdict, zeros}
use Rattle.verdict.specs.Run.{variables_of}
use Rattle.verdict.proofs.Ends.{ended}
use Rattle.verdict.proofs.Numbers.{Closed, formula-refused, proof-ended, proof-tried, ended-closed}
use Rattle.formula.specs.Formula.{Built}
use Rattle.shares.specs.declared.Stage.{Stage}
use Rattle.shares.specs.declared.Stage.TheVariants.{Formula}
use Rattle.shares.specs.declared.Book.{Book}
use Rattle.shares.specs.Shares.{number_in, Shared, sharing, alone}
use Rattle.shares.specs.Alone.{Alone, Result, places, book_read, book_unread, formula_read, first_call, by_stage, alone_call}
use Rattle.shares.specs.Books.{Holding, Called, BookLists, BookOutcome, padded, holding, alone_of, unfit, shared_after, refused_after}
use Rattle.shares.specs.Books.{is_accepted, judged, charged, book_leaves}
use Rattle.shares.proofs.Sane.{starts}
use Rattle.shares.proofs.Rooms.{own_in, never-full}
use Rattle.alone.specs.Copies.{Shareable}
use Rattle.book_parts.specs.Gives.{GiveReady, Gives}
use Rattle.book_line.specs.declared.Said.{Said}
use Rattle.book_line.specs.Says.{lists_made, said_outcome, said_by, unfit_said, FirstReady}
use Rattle.book_line.proofs.Tests.{Tested, holding-tested}
use Rattle.book_line.proofs.Ending.{made-is}

take_whole : {A : Type 0} (xs : List A) → take (length xs) xs ≡ xs
take_whole [] = refl
take_whole (x ∷ xs) = ap (◌∷◌ x) (take_whole xs)

-- no formula is refused with 10 or 35
refused-not : (s : ℕ) (text : List ℕ) {v : Verdict} → Closed in_records s text [] v → v.in_proof ≡ false → (v.number ≡ 10 → ⊥)
    × (v.number ≡ 35 → ⊥)
refused-not s text (formula-refused named) f = ((λ z. omega (arith, named.1)), λ z. omega (arith, named.1))
refused-not s text (proof-ended P R e) f = t≢f f
refused-not s text (proof-tried P R e) f = t≢f f

module _ (T : Table) (l : BookLists) (b : Book) (empty : Table) (found strikes : List ℕ) (R : FirstReady T l b empty found strikes)
    (bytes scratch : List ℕ) where
  abbrev h : Holding
  h = holding b l

  abbrev a : Alone
  a = alone_of (nodes_of T) h emptied

  pub first-passed : Tested (size T) b
  first-passed = (holding-tested (size T) (length (nodes_of T)) h R.fits).0

  shared-len : length (nodes_of T) ≡ T.count
  shared-len = length-nodes T R.good

  abbrev done : Called
  done = judged (size T) (nodes_of T) h (alone_call 64 a bytes)

  abbrev Leaves : BookOutcome → Type 0
  Leaves o = o ≡ book_leaves (lists_of T) T.count l scratch b (charged 64 (size T) (nodes_of T) h bytes (all emptied))

  pub first-unfit : size T - T.count < b.share → (r : Said) → r ≡ unfit_said T.count b → Leaves (said_outcome (lists_of T) l scratch r)
  first-unfit less r er =
      ap (said_outcome (lists_of T) l scratch) er
      ∙ sym (ap (λ (x : Bool). book_leaves (lists_of T) T.count l scratch b (cond x (unfit (nodes_of T) h) done))
      (lt-ltb (size T - length (nodes_of T)) (places b - length emptied) (omega (arith, less, shared-len))))

  module _ (enough : b.share ≤ size T - T.count) where
    goes_on : (o : BookOutcome) (r : Result) (c : Bool) → eqb r.answer.number 35 ≡ c → alone_call 64 a bytes ≡ r
        → o ≡ book_leaves (lists_of T) T.count l scratch b
        (cond c (shared_after (nodes_of T) h r (sharing (size T) (nodes_of T) [] (drop 2 r.after.nodes)))
        (refused_after Formula (nodes_of T) h r)) → Leaves o
    goes_on o r c ec er e =
        e ∙ sym (ap (λ (x : Bool). book_leaves (lists_of T) T.count l scratch b (cond x (unfit (nodes_of T) h) done))
        (le-ltb (size T - length (nodes_of T)) (places b - length emptied) (omega (arith, enough, shared-len)))
        ∙ ap (λ (r : Result). book_leaves (lists_of T) T.count l scratch b (judged (size T) (nodes_of T) h r)) er
        ∙ ap (λ (s : Stage). book_leaves (lists_of T) T.count l scratch b
        (cond (is_accepted s r.answer) (shared_after (nodes_of T) h r (sharing (size T) (nodes_of T) [] (drop 2 r.after.nodes)))
        (refused_after s (nodes_of T) h r))) R.stage
        ∙ ap (λ (x : Bool). book_leaves (lists_of T) T.count l scratch b
        (cond x (shared_after (nodes_of T) h r (sharing (size T) (nodes_of T) [] (drop 2 r.after.nodes)))
        (refused_after Formula (nodes_of T) h r))) ec)

    first-is : (v : Verdict) → verdict in_records (size empty) bytes [] ≡ v → alone_call 64 a bytes ≡ formula_read b.share bytes v
    unfolding alone_call first_call
    first-is v e =
        ap (λ (s : Stage). by_stage 64 s a bytes) R.stage
        ∙ ap (λ (s : ℕ). formula_read b.share bytes (verdict in_records s bytes [])) (sym R.sized) ∙ ap (formula_read b.share bytes) e

    -- ---- refused

    pub formula-unread : (number place peak : ℕ) → verdict in_records (size empty) bytes [] ≡ refused_formula number place peak →
        (ms ss os : List ℕ) → os ≡ padded [] (length l.own) → ms ≡ padded [] (length l.members)
        → ss ≡ padded [] (length l.struck) → (b' : Book) → b' ≡ book_unread b.share number place peak → (r : Said) → r
        ≡ said_by number place T.count b' → (left : List ℕ) → left ≡ zeros (length scratch)
        → Leaves (said_outcome (lists_of T) (lists_made ms ss os) left r)
    formula-unread number place peak e ms ss os eo em es b' eb r er left el =
        let v : Verdict = verdict in_records (size empty) bytes [] in
        let not = refused-not (size empty) bytes (ended-closed in_records (size empty) bytes [] v (ended in_records (size empty) bytes []))
        (ap (λ (v : Verdict). v.in_proof) e) in
        let number_is : v.number ≡ number = ap (λ (v : Verdict). v.number) e in
        let x : Result = record {
          answer = record { number = number; place = place; lines = 0; rounds = 0; peak = peak - 2 };
          after = record { book = book_unread b.share number place peak; nodes = emptied; members = []; struck = [] };
        } in
        let y : Result = record {
          answer = record { number = 35; place = length bytes; lines = 0; rounds = 0; peak = peak - 2 };
          after = record { book = book_read b.share (variables_of (header bytes)) 0 2 peak; nodes = emptied; members = []; struck = [] };
        } in
        goes_on (said_outcome (lists_of T) (lists_made ms ss os) left r) x false (ne_eqb number 35 (λ z. not.1 (number_is ∙ z)))
        (first-is (refused_formula number place peak) e ∙ ap (λ (c : Bool). cond c y x) (ne_eqb number 10 (λ z. not.0 (number_is ∙ z))))
        (ap₂ (λ (xs : List ℕ) (r : Said). said_outcome (lists_of T) (lists_made ms ss os) xs r) el er
        ∙ made-is number place (zeros (length scratch)) b' (book_unread b.share number place peak) eb T.count (length (nodes_of T))
        (sym shared-len) (lists_of T) (stored_as (size T) (nodes_of T)) (good-stored T R.good)
        ms (padded [] (length l.members)) ss (padded [] (length l.struck)) os (padded [] (length l.own)) em es eo)

    -- ---- read

    module _ (variables made : ℕ) (own : Table) (found' : List ℕ) (same : size own ≡ size empty) (B : Built variables own found' made)
        (long : length found' ≡ length found) where
      abbrev t : List Node
      t = nodes_of own

      own-len : length t ≡ own.count
      own-len = length-nodes own B.good

      own-within : length t ≤ places b
      own-within = omega (arith, length-nodes own B.good, B.good.within, same, R.sized)

      emptied-own : alone (places b) (nodes_of T) [] ≡ all emptied
      unfolding alone placed_all
      emptied-own = refl

      pub first-shareable : Shareable T own.vars own.lows own.highs own.count l.own
      unfolding nodes_of
      first-shareable =
          let O = good-ordered T R.good in
          let O' = good-ordered own B.good in
          let w = own_in (nodes_of T) O (places b) (omega arith) [] emptied emptied-own in
          let s = never-full (nodes_of T) O (places b) (size T) emptied t w.0 w.1 O' (starts t O') own-within
          (omega (arith, enough, shared-len)) (omega (arith, R.good.within, shared-len)) in
          record {
            good = R.good;
            readable = good-readable own B.good;
            room = omega (arith, own-within, length-nodes own B.good, first-passed.places-in, R.own);
            shared = s.0;
            comes = s.1;
          }

      pub first-give-ready : GiveReady own.count made found' strikes l.members l.struck
      first-give-ready = record {
        found = omega (arith, B.few, R.opened.room, long);
        marks = omega (arith, B.few, R.opened.room, ap length R.unmarked, zeros-long (length found));
        members = omega (arith, B.few, R.members);
        struck = omega (arith, B.few, R.members, R.struck);
        inside = B.inside;
      }
        where
          zeros-long : (n : ℕ) → length (zeros n) ≡ n
          zeros-long zero = refl
          zeros-long (suc n) = ap suc (zeros-long n)

      pub formula-read : verdict in_records (size empty) bytes [] ≡ left 10 0 own.count (begun t (take made found')) → variables
          ≡ variables_of (header bytes) → (after : Table) (ms ss os : List ℕ)
          → Gives T (drop 2 (nodes_in own.vars own.lows own.highs own.count)) after (own.count - 2) made found' strikes
          (length l.own) (length l.members) (length l.struck) os ms ss
          → (b' : Book) → b' ≡ book_read b.share variables made own.count own.count → (r : Said) → r
          ≡ said_by 35 (length bytes) after.count b' → (last : List ℕ) → last ≡ zeros (length scratch)
          → Leaves (said_outcome (lists_of after) (lists_made ms ss os) last r)
      unfolding nodes_of
      formula-read e ev after ms ss os G b' eb r er last el =
          let v : Verdict = left 10 0 own.count (begun t (take made found')) in
          let x : Result = formula_read b.share bytes v in
          let S : Shared = G.shared in
          let many : made ≡ length (take made found') = sym (length-take-le made found' (omega (arith, B.few, R.opened.room, long))) in
          let count-is : own.count ≡ length (take (length t) t) = sym own-len ∙ sym (ap length (take_whole t)) in
          let book-is : b' ≡ x.after.book =
          eb ∙ ap₂ (λ (n k : ℕ). book_read b.share n k own.count own.count) ev many
          ∙ ap (λ (k : ℕ). book_read b.share (variables_of (header bytes)) (length (take made found')) k own.count) count-is in
          let marks-are : take made strikes ≡ zeros (length (take made found')) =
          ap (take made) R.unmarked ∙ part-zeros made (length found) (omega (arith, B.few, R.opened.room)) ∙ ap zeros many in
          goes_on (said_outcome (lists_of after) (lists_made ms ss os) last r) x true refl (first-is v e)
          (ap₂ (λ (xs : List ℕ) (r : Said). said_outcome (lists_of after) (lists_made ms ss os) xs r) el er
          ∙ made-is 35 (length bytes) (zeros (length scratch)) b' x.after.book book-is after.count (length S.nodes)
          (sym (length-nodes after G.good) ∙ ap length G.nodes) (lists_of after) (stored_as (size T) S.nodes)
          (good-stored after G.good ∙ ap₂ stored_as G.same_size G.nodes) ms
          (padded (map (number_in S.own) (take made found')) (length l.members))
          ss (padded (zeros (length (take made found'))) (length l.struck)) os (padded S.own (length l.own)) G.members-are
          (G.struck-are ∙ ap (λ (xs : List ℕ). padded xs (length l.struck)) marks-are) G.own_is
          ∙ sym (ap (λ (o : Option Shared). book_leaves (lists_of T) T.count l scratch b (shared_after (nodes_of T) h x o))
          (ap (λ (u : List Node). sharing (size T) (nodes_of T) [] (drop 2 u)) (take_whole t) ∙ G.comes)))
