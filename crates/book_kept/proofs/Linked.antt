-- The theorems on two books, of the calls as they are linked: a session of these, each struct handed on as it came back, is a session of
-- the definition's books. The idea: what is kept for a book stands for it (`kept_back`). Assumes nothing.
use mathlib.Core.Path.{◌≡◌, refl, sym, ap, ◌∙◌, subst}
use mathlib.Core.Logic.{◌↔◌}
use mathlib.Core.Bool.{Bool, true, false, ◌&&◌, cond}
use mathlib.Core.List.{List, [], ◌∷◌}
use Prim.Native.Nat.{ℕ, ◌+◌, ◌<◌}
use lib.ListN.{length}
use lib.Dec.{leb}
use Rattle.meaning.specs.Diagram.{Assignment, value}
use Rattle.table.specs.Nodes.{diagram_at}
use Rattle.table.specs.Columns.{Columns, stored_as}
use Rattle.verdict.specs.Steps.{emptied}
use Rattle.verdict.specs.Check.{zeros}
use Rattle.verdict.specs.Taken.{Valued}
use Rattle.shares.specs.declared.Book.{Book}
use Rattle.shares.specs.Alone.{Answer, opened_book, opened_alone, answers_alone}
use Rattle.shares.specs.Books.{BookLists, BookOutcome, book_fits, holding, OpenOutcome, emptied_lists, unopened, open_outcome, refusal}
use Rattle.shares.specs.Turns.{Desk, Turn, ofA, ofB, desk_opened, call_a, call_b, after_a, after_b, desk_after, answers_a, answers_b}
use Rattle.shares.specs.Turns.{calls_a}
use Rattle.shares.specs.Turns.{calls_b}
use Rattle.shares.specs.Meanings.{book_meant, ZeroSays, nodes_on}
use Rattle.shares.proofs.Desks.{alone-a, alone-b, NoneRefused, none-refused-a, none-refused-b}
use Rattle.shares.proofs.Said.{book-refuted-a, book-refuted-b, book-values-a, book-values-b, shared-numbers-equal}
use Rattle.book_kept.specs.declared.Kept.{Kept}
use Rattle.book_kept.specs.Kept.{book_of}
use Rattle.book_kept.specs.Calls.{KeptOpening, opening_by, kept_opening}
use Rattle.book_kept.specs.Linked.{KeptDesk, desk_of, kept_desk, linked_a, linked_b, left_by_a, left_by_b, linked_after, linked_answers_a}
use Rattle.book_kept.specs.Linked.{linked_answers_b}
use Rattle.book_kept.proofs.Forms.{kept_back}

-- ---- a call

left-a : (x : KeptDesk) (bytes : List ℕ) → desk_of (left_by_a x (linked_a x bytes)) ≡ after_a (desk_of x) (call_a 64 (desk_of x) bytes)
left-a x bytes = ap with (kept_back x.first o.book)
  where
    o : BookOutcome
    o = call_a 64 (desk_of x) bytes

    with : Book → Desk
    with b = after_a (desk_of x) (record {
      answer = o.answer;
      count = o.count;
      columns = o.columns;
      lists = o.lists;
      scratch = o.scratch;
      book = b;
    })

left-b : (x : KeptDesk) (bytes : List ℕ) → desk_of (left_by_b x (linked_b x bytes)) ≡ after_b (desk_of x) (call_b 64 (desk_of x) bytes)
left-b x bytes = ap with (kept_back x.second o.book)
  where
    o : BookOutcome
    o = call_b 64 (desk_of x) bytes

    with : Book → Desk
    with b = after_b (desk_of x) (record {
      answer = o.answer;
      count = o.count;
      columns = o.columns;
      lists = o.lists;
      scratch = o.scratch;
      book = b;
    })

-- ---- calls in any order

answers-same-a : (turns : List Turn) (x : KeptDesk) → linked_answers_a x turns ≡ answers_a 64 (desk_of x) turns
unfolding linked_answers_a answers_a
answers-same-a [] x = refl
answers-same-a (ofA bytes ∷ rest) x =
    ap (◌∷◌ (call_a 64 (desk_of x) bytes).answer) (answers-same-a rest (left_by_a x (linked_a x bytes))
    ∙ ap (λ (d : Desk). answers_a 64 d rest) (left-a x bytes))
answers-same-a (ofB bytes ∷ rest) x =
    answers-same-a rest (left_by_b x (linked_b x bytes)) ∙ ap (λ (d : Desk). answers_a 64 d rest) (left-b x bytes)

answers-same-b : (turns : List Turn) (x : KeptDesk) → linked_answers_b x turns ≡ answers_b 64 (desk_of x) turns
unfolding linked_answers_b answers_b
answers-same-b [] x = refl
answers-same-b (ofA bytes ∷ rest) x =
    answers-same-b rest (left_by_a x (linked_a x bytes)) ∙ ap (λ (d : Desk). answers_b 64 d rest) (left-a x bytes)
answers-same-b (ofB bytes ∷ rest) x =
    ap (◌∷◌ (call_b 64 (desk_of x) bytes).answer) (answers-same-b rest (left_by_b x (linked_b x bytes))
    ∙ ap (λ (d : Desk). answers_b 64 d rest) (left-b x bytes))

after_same : (turns : List Turn) (x : KeptDesk) → desk_of (linked_after x turns) ≡ desk_after 64 (desk_of x) turns
unfolding linked_after desk_after
after_same [] x = refl
after_same (ofA bytes ∷ rest) x =
    after_same rest (left_by_a x (linked_a x bytes)) ∙ ap (λ (d : Desk). desk_after 64 d rest) (left-a x bytes)
after_same (ofB bytes ∷ rest) x =
    after_same rest (left_by_b x (linked_b x bytes)) ∙ ap (λ (d : Desk). desk_after 64 d rest) (left-b x bytes)

-- ---- from the opening on

module _ (c : Columns) (count : ℕ) (la lb : BookLists) (scratch : List ℕ) (ka kb : Kept) (share_a share_b : ℕ) where
  -- The opening, and what it leaves.
  abbrev opening : KeptOpening
  opening = kept_opening c count la lb scratch ka kb share_a share_b

  abbrev start : KeptDesk
  start = kept_desk opening

  abbrev outcome : OpenOutcome
  outcome = open_outcome c count la lb scratch (book_of ka) (book_of kb) share_a share_b

  start_is : desk_of start ≡ desk_opened outcome
  unfolding open_outcome
  start_is = go (book_fits c la scratch && book_fits c lb scratch) (leb (share_a + share_b + 2) (length c.vars))
    where
      opened : OpenOutcome
      opened = record {
        answer = refusal 35;
        count = 2;
        columns = stored_as (length c.vars) emptied;
        a = emptied_lists la;
        b = emptied_lists lb;
        scratch = zeros (length scratch);
        book_a = opened_book share_a;
        book_b = opened_book share_b;
      }

      refused : ℕ → OpenOutcome
      refused number = unopened number c count la lb scratch (book_of ka) (book_of kb)

      go : (p q : Bool) → (let o = cond p (cond q opened (refused 32)) (refused 7) in
          desk_of (kept_desk (opening_by ka kb share_a share_b o)) ≡ desk_opened o)
      go true true = refl
      go true false = refl
      go false q = refl

  module _ (opened : opening.answer.number ≡ 35) where
    -- THEOREM: from the opening on, a book's calls get what they get where the book works alone, with a table of its share and the
    -- constants.
    pub linked-alone-a : (turns : List Turn) → linked_answers_a start turns ≡ answers_alone 64 (opened_alone share_a) (calls_a turns)
    linked-alone-a turns =
        answers-same-a turns start ∙ ap (λ (d : Desk). answers_a 64 d turns) start_is
        ∙ alone-a c count la lb scratch (book_of ka) (book_of kb) share_a share_b opened turns

    pub linked-alone-b : (turns : List Turn) → linked_answers_b start turns ≡ answers_alone 64 (opened_alone share_b) (calls_b turns)
    linked-alone-b turns =
        answers-same-b turns start ∙ ap (λ (d : Desk). answers_b 64 d turns) start_is
        ∙ alone-b c count la lb scratch (book_of ka) (book_of kb) share_a share_b opened turns

    -- THEOREM: "however the other book's calls change, a book's same calls get the same numbers, places, lines, rounds and peaks". (02,
    -- 10/14)
    pub linked-apart-a : (turns turns' : List Turn) → calls_a turns ≡ calls_a turns' → linked_answers_a start turns
        ≡ linked_answers_a start turns'
    linked-apart-a turns turns' e =
        linked-alone-a turns ∙ ap (answers_alone 64 (opened_alone share_a)) e ∙ sym (linked-alone-a turns')

    pub linked-apart-b : (turns turns' : List Turn) → calls_b turns ≡ calls_b turns' → linked_answers_b start turns
        ≡ linked_answers_b start turns'
    linked-apart-b turns turns' e =
        linked-alone-b turns ∙ ap (answers_alone 64 (opened_alone share_b)) e ∙ sym (linked-alone-b turns')

    module _ (turns : List Turn) where
      same-a : linked_answers_a start turns ≡ answers_a 64 (desk_opened outcome) turns
      same-a = answers-same-a turns start ∙ ap (λ (d : Desk). answers_a 64 d turns) start_is

      same-b : linked_answers_b start turns ≡ answers_b 64 (desk_opened outcome) turns
      same-b = answers-same-b turns start ∙ ap (λ (d : Desk). answers_b 64 d turns) start_is

      -- THEOREM: a call that is lent what the opening or the last call left is refused neither with 7 nor with 26.
      pub linked-none-refused-a : NoneRefused (linked_answers_a start turns)
      linked-none-refused-a =
          subst NoneRefused (sym same-a) (none-refused-a c count la lb scratch (book_of ka) (book_of kb) share_a share_b opened turns)

      pub linked-none-refused-b : NoneRefused (linked_answers_b start turns)
      linked-none-refused-b =
          subst NoneRefused (sym same-b) (none-refused-b c count la lb scratch (book_of ka) (book_of kb) share_a share_b opened turns)

      -- THEOREM: "what 0 says of a formula": no answer of a book is 0 unless no assignment satisfies the formula that its first call read.
      pub linked-refuted-a : (text : List ℕ) (calls : List (List ℕ)) → calls_a turns ≡ text ∷ calls →
          ZeroSays text (linked_answers_a start turns)
      linked-refuted-a text calls e =
          subst (ZeroSays text) (sym same-a)
          (book-refuted-a c count la lb scratch (book_of ka) (book_of kb) share_a share_b opened turns text calls e)

      pub linked-refuted-b : (text : List ℕ) (calls : List (List ℕ)) → calls_b turns ≡ text ∷ calls →
          ZeroSays text (linked_answers_b start turns)
      linked-refuted-b text calls e =
          subst (ZeroSays text) (sym same-b)
          (book-refuted-b c count la lb scratch (book_of ka) (book_of kb) share_a share_b opened turns text calls e)

      -- What the calls leave.
      abbrev left : Desk
      left = desk_of (linked_after start turns)

      left_is : left ≡ desk_after 64 (desk_opened outcome) turns
      left_is = after_same turns start ∙ ap (λ (d : Desk). desk_after 64 d turns) start_is

      -- THEOREM: "the values of the clauses' and earlier lines' nodes": after any calls each member of a book is a node of the shared
      -- table, and has the values of what it stands for.
      pub linked-values-a : Valued (nodes_on left) left.count (holding left.book_a left.a).members
          (book_meant (calls_a turns) (linked_answers_a start turns))
      linked-values-a =
          subst (λ (d : Desk). Valued (nodes_on d) d.count (holding d.book_a d.a).members
          (book_meant (calls_a turns) (linked_answers_a start turns))) (sym left_is)
          (subst (λ (xs : List Answer). Valued (nodes_on after) after.count (holding after.book_a after.a).members
          (book_meant (calls_a turns) xs)) (sym same-a)
          (book-values-a c count la lb scratch (book_of ka) (book_of kb) share_a share_b opened turns))
        where
          after : Desk
          after = desk_after 64 (desk_opened outcome) turns

      pub linked-values-b : Valued (nodes_on left) left.count (holding left.book_b left.b).members
          (book_meant (calls_b turns) (linked_answers_b start turns))
      linked-values-b =
          subst (λ (d : Desk). Valued (nodes_on d) d.count (holding d.book_b d.b).members
          (book_meant (calls_b turns) (linked_answers_b start turns))) (sym left_is)
          (subst (λ (xs : List Answer). Valued (nodes_on after) after.count (holding after.book_b after.b).members
          (book_meant (calls_b turns) xs)) (sym same-b)
          (book-values-b c count la lb scratch (book_of ka) (book_of kb) share_a share_b opened turns))
        where
          after : Desk
          after = desk_after 64 (desk_opened outcome) turns

      -- THEOREM: "Equality of node numbers now speaks of the shared table."
      pub linked-numbers-equal : (j k : ℕ) → j < left.count → k < left.count
          → (j ≡ k) ↔ ((v : Assignment) → length v ≡ 64 → value (diagram_at (nodes_on left) j) v ≡ value (diagram_at (nodes_on left) k) v)
      linked-numbers-equal =
          subst (λ (d : Desk). (j k : ℕ) → j < d.count → k < d.count
          → (j ≡ k) ↔ ((v : Assignment) → length v ≡ 64 → value (diagram_at (nodes_on d) j) v ≡ value (diagram_at (nodes_on d) k) v))
          (sym left_is) (shared-numbers-equal c count la lb scratch (book_of ka) (book_of kb) share_a share_b opened turns)
