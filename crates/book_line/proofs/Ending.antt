-- A later call's end: what is written back is what the definition leaves. Assumes nothing.
use mathlib.Core.Path.{◌≡◌, refl, sym, ap, ap₂, ◌∙◌, subst}
use mathlib.Core.Bool.{Bool, true, false, cond}
use mathlib.Core.List.{List, [], ◌++◌, map}
use Prim.Native.Nat.{ℕ, suc, ◌+◌, ◌-◌, ◌≤◌, ◌<◌}
use native.Mathlib.Omega.{arith}
use lib.ListN.{length, get_or, take, drop}
use lib.Seq.{length-take-le, get_or-take}
use lib.Dec.{eqb}
use borrow.Author.Tests.{ne_eqb}
use Rattle.table.specs.Columns.{Columns, stored_as}
use Rattle.table.specs.Indexed.{Table, size, nodes_of, lists_of}
use Rattle.table.proofs.Written.{length-nodes, good-ordered}
use Rattle.table.proofs.InOrder.{good-stored}
use Rattle.walks.specs.Readable.{nodes_in}
use Rattle.walks.proofs.Here.{good-readable}
use Rattle.verdict.specs.Steps as check
use Rattle.verdict.specs.Check.{zeros}
use Rattle.state.specs.declared.State.{State}
use Rattle.state.specs.States as entries
use Rattle.state.specs.States.{Lent, table_in, Held}
use Rattle.shares.specs.declared.Stage.{Stage}
use Rattle.shares.specs.declared.Stage.TheVariants.{Lines}
use Rattle.shares.specs.declared.Book.{Book}
use Rattle.shares.specs.Shares.{number_in, Shared, sharing}
use Rattle.shares.specs.Alone.{Alone, Result, Ending, ended, taken, places, line_call, state_of, book_bound, book_on, after_ending}
use Rattle.shares.specs.Alone.{later_call}
use Rattle.shares.specs.Books.{Holding, BookLists, padded, shared_after, refused_after, is_accepted, judged, book_leaves}
use Rattle.shares.proofs.Sane.{Ends, EndsWell}
use Rattle.shares.proofs.Rooms.{own_in, never-full}
use Rattle.alone.specs.Copies.{Shareable}
use Rattle.book_parts.specs.Gives.{GiveReady, Gives}
use Rattle.book_parts.proofs.Adding.{ends, line-adds}
use Rattle.book_line.specs.declared.Said.{Said}
use Rattle.book_line.specs.Says.{lists_made, said_outcome, said_by, book_with, RoundsFit, LineReady, own_nodes}
use Rattle.book_line.proofs.Tests.{kept_for, book-alone, tested, fit}

-- an outcome from its parts
pub made-is : (number place : ℕ) (scratch : List ℕ) (b b' : Book) → b ≡ b' → (count count' : ℕ) → count ≡ count' → (d d' : Columns) → d
    ≡ d' → (ms ms' ss ss' os os' : List ℕ) → ms ≡ ms' → ss ≡ ss' → os ≡ os'
    → said_outcome d (lists_made ms ss os) scratch (said_by number place count b)
    ≡ said_outcome d' (lists_made ms' ss' os') scratch (said_by number place count' b')
made-is number place scratch b b' eb count count' ec d d' ed ms ms' ss ss' os os' em es eo =
    ap₂ (λ (x : Book) (y : ℕ). said_outcome d (lists_made ms ss os) scratch (said_by number place y x)) eb ec
    ∙ ap₂ (λ (x : Columns) (y : List ℕ). said_outcome x (lists_made y ss os) scratch (said_by number place count' b')) ed em
    ∙ ap₂ (λ (x y : List ℕ). said_outcome d' (lists_made ms' x y) scratch (said_by number place count' b')) es eo

module _ (T : Table) (l : BookLists) (b : Book) (lent : Lent) (first : State) (R : LineReady T l b lent first) (H : Held 64 lent first)
    (bytes : List ℕ) where
  abbrev h : Holding
  h = kept_for T l b lent first R H

  abbrev a : Alone
  a = book-alone T l b lent first R H

  -- the code's records and the definition's
  abbrev Comes : Ending → Type 0
  Comes x = line_call (suc (length bytes)) 64 b.variables (length lent.vars) bytes (entries.state_of lent first) 0 ≡ x

  comes : (x : Ending) → Comes x → line_call (suc (length bytes)) 64 b.variables (places b) bytes (state_of a) 0 ≡ x
  comes x e = sym (ap₂ (λ (s : ℕ) (st : check.State). line_call (suc (length bytes)) 64 b.variables s bytes st 0) R.sized R.begun)
      ∙ e

  later : (x : Ending) → Comes x → later_call 64 a bytes ≡ after_ending a bytes x
  later x e = ap (after_ending a bytes) (comes x e)

  at-lines : (r : Result) (c : Bool) → eqb r.answer.number 35 ≡ c
      → judged (size T) (nodes_of T) h r ≡ cond c (shared_after (nodes_of T) h r (sharing (size T) (nodes_of T) [] (drop 2 r.after.nodes)))
      (refused_after Lines (nodes_of T) h r)
  at-lines r c e =
      ap (λ (s : Stage). cond (is_accepted s r.answer)
      (shared_after (nodes_of T) h r (sharing (size T) (nodes_of T) [] (drop 2 r.after.nodes))) (refused_after s (nodes_of T) h r))
      R.stage
      ∙ ap (λ (c : Bool). cond c (shared_after (nodes_of T) h r (sharing (size T) (nodes_of T) [] (drop 2 r.after.nodes)))
      (refused_after Lines (nodes_of T) h r)) e

  module _ (scratch : List ℕ) where
    abbrev Leaves : Columns → List ℕ → List ℕ → List ℕ → Said → Type 0
    Leaves d ms ss os r = said_outcome d (lists_made ms ss os) (zeros (length scratch)) r
        ≡ book_leaves (lists_of T) T.count l scratch b (judged (size T) (nodes_of T) h (later_call 64 a bytes))

    -- ---- refused

    not-35 : (number place peak : ℕ) (struck : List ℕ) → Comes (ended number place peak struck) → eqb number 35 ≡ false
    not-35 number place peak struck e =
        let E : EndsWell (places b) a.members number peak struck =
        subst (Ends (places b) a.nodes b.clauses b.lines a.members) (comes (ended number place peak struck) e)
        (ends a (fit T l b lent first R H) bytes) in
        ne_eqb number 35 E.settled.2

    pub refused-is : (number place peak : ℕ) (marks : List ℕ) → Comes (ended number place peak (take first.members marks)) →
        (ms ss os : List ℕ)
        → os ≡ padded (take b.charge l.own) (length l.own) → ms ≡ padded (take first.members l.members) (length l.members)
        → ss ≡ padded (take first.members marks) (length l.struck) → (b' : Book) → b' ≡ book_bound b number place peak → (r : Said) → r
        ≡ said_by number place T.count b' → Leaves (lists_of T) ms ss os r
    refused-is number place peak marks e ms ss os eo em es b' eb r er =
        let x : Ending = ended number place peak (take first.members marks) in
        ap (said_outcome (lists_of T) (lists_made ms ss os) (zeros (length scratch))) er
        ∙ made-is number place (zeros (length scratch)) b' (book_bound b number place peak) eb T.count (length (nodes_of T))
        (sym (length-nodes T R.good)) (lists_of T) (stored_as (size T) (nodes_of T)) (good-stored T R.good)
        ms (padded h.members (length l.members)) ss (padded (take first.members marks) (length l.struck)) os
        (padded h.own (length l.own))
        (em ∙ ap (λ (k : ℕ). padded (take k l.members) (length l.members)) R.many) es eo
        ∙ sym (ap (book_leaves (lists_of T) T.count l scratch b)
        (ap (judged (size T) (nodes_of T) h) (later x e) ∙ at-lines (after_ending a bytes x) false
        (not-35 number place peak (take first.members marks) e)))

    -- ---- accepted

    module _ (lent' : Lent) (st : State) (e : Comes (taken (entries.state_of lent' st))) (H' : Held 64 lent' st) where
      pub rounds-fit : RoundsFit b st
      rounds-fit = ((tested T l b lent first R H).0.rounds, omega (arith, H'.rounds, H'.lines))

      pub shareable : Shareable T lent'.vars lent'.lows lent'.highs st.count l.own
      unfolding nodes_of
      shareable =
          let O = good-ordered T R.good in
          let w = own_in (nodes_of T) O (places b) (omega arith) (h.own ++ h.members) (own_nodes lent first) R.made in
          let x = line-adds a (fit T l b lent first R H) bytes (entries.state_of lent' st) (comes (taken (entries.state_of lent' st)) e) in
          let len = length-nodes (table_in lent' st.count) H'.entries.good in
          let len₁ : length (own_nodes lent first) ≡ first.count = length-nodes (table_in lent first.count) H.entries.good in
          let len₂ : length (nodes_of T) ≡ T.count = length-nodes T R.good in
          let s = never-full (nodes_of T) O (places b) (size T) (own_nodes lent first) (own_nodes lent' st) w.0 w.1 x.0 x.1 x.2
          (omega (arith, R.enough, len₁, len₂)) (omega (arith, R.good.within, len₂)) in
          record {
            good = R.good;
            readable = good-readable (table_in lent' st.count) H'.entries.good;
            room = omega (arith, x.2, len, (tested T l b lent first R H).0.places-in, R.own);
            shared = s.0;
            comes = s.1;
          }

      pub give-ready : GiveReady st.count st.members lent'.members lent'.struck l.members l.struck
      give-ready = record {
        found = most;
        marks = omega (arith, most, H'.marked);
        members = omega (arith, H'.many, H'.lines, R.members);
        struck = omega (arith, H'.many, H'.lines, R.members, R.struck);
        inside = λ i p. inside_of i p;
      }
        where
          most : st.members ≤ length lent'.members
          most = omega (arith, H'.many, H'.lines, H'.room)

          inside_of : (i : ℕ) → i < st.members → get_or lent'.members i 0 < st.count
          inside_of i p =
              let x : get_or (take st.members lent'.members) i 0 < st.kept =
              H'.inside i (omega (arith, length-take-le st.members lent'.members most)) in
              omega (arith, x, get_or-take st.members lent'.members i 0 p, H'.kept)

      pub accepted-is : (after : Table) (ms ss os : List ℕ)
          → Gives T (drop 2 (nodes_in lent'.vars lent'.lows lent'.highs st.count)) after (st.count - 2) st.members
          lent'.members lent'.struck (length l.own) (length l.members) (length l.struck) os ms ss
          → (b' : Book) → b' ≡ book_with b st → (r : Said) → r ≡ said_by 35 (length bytes) after.count b' →
          Leaves (lists_of after) ms ss os r
      unfolding nodes_of
      accepted-is after ms ss os G b' eb r er =
          let x : Ending = taken (entries.state_of lent' st) in
          let len : st.count ≡ length (own_nodes lent' st) = sym (length-nodes (table_in lent' st.count) H'.entries.good) in
          let S : Shared = G.shared in
          ap (said_outcome (lists_of after) (lists_made ms ss os) (zeros (length scratch))) er
          ∙ made-is 35 (length bytes) (zeros (length scratch)) b' (book_on b (entries.state_of lent' st))
          (eb ∙ ap (λ (k : ℕ). charged k) len)
          after.count (length S.nodes)
          (sym (length-nodes after G.good) ∙ ap length G.nodes) (lists_of after) (stored_as (size T) S.nodes)
          (good-stored after G.good ∙ ap₂ stored_as G.same_size G.nodes) ms
          (padded (map (number_in S.own) (take st.members lent'.members)) (length l.members)) ss
          (padded (take st.members lent'.struck) (length l.struck))
          os (padded S.own (length l.own)) G.members-are G.struck-are G.own_is
          ∙ sym (ap (book_leaves (lists_of T) T.count l scratch b)
          (ap (judged (size T) (nodes_of T) h) (later x e) ∙ at-lines (after_ending a bytes x) true refl
          ∙ ap (shared_after (nodes_of T) h (after_ending a bytes x)) G.comes))
        where
          charged : ℕ → Book
          charged k = record {
            share = b.share;
            stage = Lines;
            variables = b.variables;
            clauses = b.clauses;
            lines = st.lines;
            rounds = b.rounds + st.rounds;
            charge = k - 2;
            peak = st.peak - 2;
            refuted = st.refuted;
          }
