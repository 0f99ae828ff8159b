-- A call that says 7 or 26, one of a bound book, and a refused opening leave every lent place and every field of what is kept as it was
-- lent, whatever is lent. The idea: a call that changes anything says 35, or a number of the check, which is neither 7 nor 26. Assumes
-- nothing.
use mathlib.Core.Path.{◌≡◌, refl, sym, ap, ◌∙◌, subst}
use mathlib.Core.Logic.{◌≢◌, ◌⊎◌, inl, inr}
use mathlib.Core.Bool.{Bool, true, false, not, ◌&&◌, cond}
use mathlib.Core.List.{List, []}
use mathlib.Core.Option.{Option, none, some}
use Prim.Native.Nat.{ℕ, zero, suc, ◌+◌, ◌-◌, ◌≤◌}
use native.Mathlib.Omega.{arith}
use lib.ListN.{length, take, drop}
use lib.Dec.{ltb, leb}
use Rattle.table.specs.Nodes.{Node}
use Rattle.table.specs.Index.{good_order}
use Rattle.table.specs.Columns.{rows, Columns, stored_as}
use Rattle.table.specs.Making.{Room, short, all}
use Rattle.records.specs.declared.Record.{Record}
use Rattle.records.specs.Records.{record_at, length_of}
use Rattle.verdict.specs.Steps.{State, Step, next, stop, spent, emptied}
use Rattle.verdict.specs.Check.{zeros}
use Rattle.shares.specs.declared.Stage.{Stage}
use Rattle.shares.specs.declared.Stage.TheVariants.{Formula, Lines, Bound}
use Rattle.shares.specs.declared.Book.{Book}
use Rattle.shares.specs.Shares.{Shared, sharing}
use Rattle.shares.specs.Alone.{Answer, Alone, Result, places, is_line, book_step, Ending, ended, taken, after_step, line_call, state_of}
use Rattle.shares.specs.Alone.{after_ending, by_stage, alone_call, opened_book, opened_alone}
use Rattle.shares.specs.Books.{Holding, Called, holding_fits, own_table, alone_of, shared_after, refused_after, is_accepted, judged}
use Rattle.shares.specs.Books.{charged}
use Rattle.shares.specs.Books.{book_call, unfit}
use Rattle.shares.specs.Books.{BookLists, book_fits, holding, BookOutcome, unchanged, book_leaves, book_outcome, book_outcome_at, refusal}
use Rattle.shares.specs.Books.{OpenOutcome, emptied_lists, unopened, open_outcome}
use Rattle.shares.proofs.Sane.{Settled, StepSettled, book-settled, alone-goes, opened-sane}
use Rattle.book_kept.specs.declared.Kept.{Kept}
use Rattle.book_kept.specs.Kept.{stage_of, book_of}
use Rattle.book_kept.specs.Calls.{KeptOutcome, kept_outcome, kept_call, KeptOpening, opening_by, kept_opening}
use Rattle.book_kept.proofs.Forms.{is_bound, kept_same}

-- ---- the numbers of a call that changes something

abbrev EndSettled : Ending → Type 0
EndSettled (ended number place peak struck) = Settled number
EndSettled (taken st) = Unit {0}

ends-settled : (steps n s : ℕ) (bytes : List ℕ) (st : State) (at : ℕ) → EndSettled (line_call steps 64 n s bytes st at)
unfolding line_call
ends-settled zero n s bytes st at = ((λ q. omega arith), (λ q. omega arith), λ q. omega arith)
ends-settled (suc steps) n s bytes st at = go (book_step 64 n s st more r) (is_line r) (book-settled n s st more r)
    (λ st'. ends-settled steps n s bytes st' (at + length_of r))
  where
    r : Record
    r = record_at bytes at

    more : Bool
    more = ltb (at + length_of r) (length bytes)

    go : (x : Step) (line : Bool) → StepSettled x
        → ((st' : State) → EndSettled (line_call steps 64 n s bytes st' (at + length_of r)))
        → EndSettled (after_step x st line at (λ st'. line_call steps 64 n s bytes st' (at + length_of r)))
    go (stop number offset) line N ih = N
    go (spent number peak) line N ih = N
    go (next st') true N ih = tt
    go (next st') false N ih = ih st'

-- A number that a call with changes may say.
abbrev Says : ℕ → Type 0
Says number = (number ≡ 35) ⊎ Settled number

abbrev Told : Stage → Result → Type 0
Told Formula r = Says r.answer.number
Told Lines r = Says r.answer.number
Told (Bound number place) r = Unit {0}

told : (g : Stage) (a : Alone) (bytes : List ℕ) → Told g (by_stage 64 g a bytes)
unfolding alone_call
told Formula a bytes = (alone-goes (opened_alone a.book.share) (opened-sane a.book.share) bytes).numbered
told Lines a bytes =
    go (line_call (suc (length bytes)) 64 a.book.variables (places a.book) bytes (state_of a) 0)
    (ends-settled (suc (length bytes)) a.book.variables (places a.book) bytes (state_of a) 0)
  where
    go : (e : Ending) → EndSettled e → Says (after_ending a bytes e).answer.number
    go (ended number place peak struck) N = inr N
    go (taken st) N = inl refl
told (Bound number place) a bytes = tt

-- ---- a call

abbrev Free : Stage → Type 0
Free Formula = Unit {0}
Free Lines = Unit {0}
Free (Bound number place) = ⊥

-- Nothing is changed; or the number is neither 7 nor 26, and the book was not bound.
abbrev Quiet : Stage → Called → Type 0
Quiet g x = (x.changes ≡ false) ⊎ ((x.answer.number ≢ 7) × (x.answer.number ≢ 26) × Free g)

not-refused : (number : ℕ) → Says number → (number ≢ 7) × (number ≢ 26)
not-refused number (inl e) = ((λ q. omega arith), λ q. omega arith)
not-refused number (inr N) = (N.0, N.1)

module _ (size : ℕ) (T : List Node) (h : Holding) where
  judged-quiet : (g : Stage) (r : Result) → Told g r → (o : Option Shared)
      → Quiet g (cond (is_accepted g r.answer) (shared_after T h r o) (refused_after g T h r))
  judged-quiet Formula r N o = by (is_accepted Formula r.answer) o
    where
      by : (b : Bool) (o : Option Shared) → Quiet Formula (cond b (shared_after T h r o) (refused_after Formula T h r))
      by true none = inl refl
      by true (some S) = inr ((not-refused r.answer.number N).0, (not-refused r.answer.number N).1, tt)
      by false o = inr ((not-refused r.answer.number N).0, (not-refused r.answer.number N).1, tt)
  judged-quiet Lines r N o = by (is_accepted Lines r.answer) o
    where
      by : (b : Bool) (o : Option Shared) → Quiet Lines (cond b (shared_after T h r o) (refused_after Lines T h r))
      by true none = inl refl
      by true (some S) = inr ((not-refused r.answer.number N).0, (not-refused r.answer.number N).1, tt)
      by false o = inr ((not-refused r.answer.number N).0, (not-refused r.answer.number N).1, tt)
  judged-quiet (Bound number place) r N o = inl refl

  called-quiet : (bytes : List ℕ) → Quiet h.book.stage (book_call 64 size T h bytes)
  unfolding book_call alone_call
  called-quiet bytes = fits (not (holding_fits size (length T) h))
    where
      room : (x : Room) → Quiet h.book.stage (charged 64 size T h bytes x)
      room (short t) = inl refl
      room (all t) = by (ltb (size - length T) (places h.book - length t))
        where
          by : (b : Bool) → Quiet h.book.stage (cond b (unfit T h) (judged size T h (alone_call 64 (alone_of T h t) bytes)))
          by true = inl refl
          by false =
              judged-quiet h.book.stage (alone_call 64 (alone_of T h t) bytes) (told h.book.stage (alone_of T h t) bytes)
              (sharing size T [] (drop 2 (alone_call 64 (alone_of T h t) bytes).after.nodes))

      fits : (b : Bool) → Quiet h.book.stage (cond b (unfit T h) (charged 64 size T h bytes (own_table h.book.stage T h)))
      fits true = inl refl
      fits false = room (own_table h.book.stage T h)

-- ---- every lent place

module _ (c : Columns) (count : ℕ) (l : BookLists) (scratch : List ℕ) where
  abbrev Still : Book → BookOutcome → Type 0
  Still b o = (o ≡ unchanged o.answer c count l scratch b)
      ⊎ ((o.answer.number ≢ 7) × (o.answer.number ≢ 26) × Free b.stage)

  leaves-still : (b : Book) (x : Called) → Quiet b.stage x → Still b (book_leaves c count l scratch b x)
  leaves-still b x Q = go x.changes Q
    where
      go : (f : Bool) → (f ≡ false) ⊎ ((x.answer.number ≢ 7) × (x.answer.number ≢ 26) × Free b.stage) → Still b (cond f
          (book_leaves c count l scratch b (record { answer = x.answer; changes = true; nodes = x.nodes; held = x.held }))
          (unchanged x.answer c count l scratch b))
      go true (inl e) = let z : true ≡ false = e in let y : ◌≡◌ {A = ℕ} 0 1 = cc in absurd (omega arith)
      go true (inr N) = inr N
      go false Q = inl refl

  outcome-still : (b : Book) (bytes : List ℕ) → Still b (book_outcome c count l scratch b bytes)
  unfolding book_outcome_at
  outcome-still b bytes = go (book_fits c l scratch) (good_order places count c.heads c.links)
    where
      places : List Node
      places = rows c.vars c.lows c.highs

      called : BookOutcome
      called = book_leaves c count l scratch b (book_call 64 (length c.vars) (take count places) (holding b l) bytes)

      go : (p q : Bool) → Still b (cond p (cond q called (unchanged (refusal 26) c count l scratch b))
          (unchanged (refusal 7) c count l scratch b))
      go true true = leaves-still b (book_call 64 (length c.vars) (take count places) (holding b l) bytes)
          (called-quiet (length c.vars) (take count places) (holding b l) bytes)
      go true false = inl refl
      go false q = inl refl

  -- ---- the call as it is linked

  -- As it was lent, every place and every field.
  abbrev pub as_lent : Answer → Kept → KeptOutcome
  as_lent x k = record { answer = x; count = count; columns = c; lists = l; scratch = scratch; kept = k }

  module _ (k : Kept) (bytes : List ℕ) where
    lent_back : (o : BookOutcome) → o ≡ unchanged o.answer c count l scratch (book_of k) → kept_outcome k o ≡ as_lent o.answer k
    lent_back o e = ap (kept_outcome k) e ∙ ap (as_lent o.answer) (kept_same k)

    -- THEOREM: "26 and 32 are otherwise as 7", which changes nothing: whatever is lent.
    pub refused-unchanged : ((kept_call c count l scratch k bytes).answer.number ≡ 7) ⊎
        ((kept_call c count l scratch k bytes).answer.number ≡ 26)
        → kept_call c count l scratch k bytes ≡ as_lent (kept_call c count l scratch k bytes).answer k
    refused-unchanged = go (outcome-still (book_of k) bytes)
      where
        o : BookOutcome
        o = book_outcome c count l scratch (book_of k) bytes

        go : Still (book_of k) o → (o.answer.number ≡ 7) ⊎ (o.answer.number ≡ 26) → kept_outcome k o ≡ as_lent o.answer k
        go (inl e) q = lent_back o e
        go (inr N) (inl q) = absurd (N.0 q)
        go (inr N) (inr q) = absurd (N.1 q)

    -- THEOREM: "that book's later calls repeat its results and change nothing", where any byte but 0 and 1 is kept for its stage.
    pub bound-unchanged : 2 ≤ k.stage → kept_call c count l scratch k bytes ≡ as_lent (kept_call c count l scratch k bytes).answer k
    bound-unchanged p = go (outcome-still (book_of k) bytes)
      where
        o : BookOutcome
        o = book_outcome c count l scratch (book_of k) bytes

        bound : Free (stage_of k.stage k.number k.place) → ⊥
        bound f = subst Free (sym (is_bound k.stage k.number k.place (λ e. omega arith) (λ e. omega arith))) f

        go : Still (book_of k) o → kept_outcome k o ≡ as_lent o.answer k
        go (inl e) = lent_back o e
        go (inr N) = absurd (bound N.2)

-- ---- the opening

module _ (c : Columns) (count : ℕ) (la lb : BookLists) (scratch : List ℕ) (ka kb : Kept) (share_a share_b : ℕ) where
  abbrev opening_as_lent : Answer → KeptOpening
  opening_as_lent x =
      record { answer = x; count = count; columns = c; a = la; b = lb; scratch = scratch; first = ka; second = kb }

  -- THEOREM: an opening that is refused, with 7 or with 32, leaves every lent place and every field as it was lent.
  pub opening-unchanged : (kept_opening c count la lb scratch ka kb share_a share_b).answer.number ≢ 35
      → kept_opening c count la lb scratch ka kb share_a share_b
      ≡ opening_as_lent (kept_opening c count la lb scratch ka kb share_a share_b).answer
  unfolding open_outcome
  opening-unchanged = go (book_fits c la scratch && book_fits c lb scratch) (leb (share_a + share_b + 2) (length c.vars))
    where
      opened : OpenOutcome
      opened = record {
        answer = refusal 35;
        count = 2;
        columns = stored_as (length c.vars) emptied;
        a = emptied_lists la;
        b = emptied_lists lb;
        scratch = zeros (length scratch);
        book_a = opened_book share_a;
        book_b = opened_book share_b;
      }

      refused : ℕ → OpenOutcome
      refused number = unopened number c count la lb scratch (book_of ka) (book_of kb)

      go : (p q : Bool) → (let o = opening_by ka kb share_a share_b (cond p (cond q opened (refused 32)) (refused 7)) in
          o.answer.number ≢ 35 → o ≡ opening_as_lent o.answer)
      go true true n = absurd (n refl)
      go true false n = refl
      go false q n = refl
