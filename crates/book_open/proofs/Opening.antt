-- The opening's outcome from its parts. Assumes nothing.
use mathlib.Core.Path.{◌≡◌, sym, ap, ap₂, ◌∙◌}
use mathlib.Core.Bool.{true, false}
use mathlib.Core.List.{List}
use Prim.Native.Nat.{ℕ, ◌+◌, ◌*◌}
use lib.ListN.{length}
use lib.Dec.{leb}
use Rattle.table.specs.Columns.{Columns, columns_made, stored_as}
use Rattle.table.proofs.Emptied.{stored-emptied}
use Rattle.table.proofs.Sizes.{Sized, sized}
use Rattle.verdict.specs.Steps.{emptied}
use Rattle.verdict.specs.Check.{zeros}
use Rattle.shares.specs.declared.Book.{Book}
use Rattle.shares.specs.Alone.{opened_book}
use Rattle.shares.specs.Books.{BookLists, book_fits, OpenOutcome, refusal, emptied_lists, open_outcome}
use Rattle.book_open.specs.declared.Opened.{Opened}
use Rattle.book_open.specs.Opens.{lists_of, opened_outcome, unopened_said}
use Rattle.book_open.proofs.Sizes.{lists-fit}

module _ (vs ls hs ds ks : List ℕ) (count : ℕ) (la lb : BookLists) (scratch : List ℕ) (ba bb : Book) (share_a share_b : ℕ) where
  abbrev c : Columns
  c = columns_made vs ls hs ds ks

  abbrev whole : OpenOutcome
  whole = open_outcome c count la lb scratch ba bb share_a share_b

  pub first-unfit : book_fits c la scratch ≡ false → (r : Opened) → r ≡ unopened_said 7 count ba bb → opened_outcome c la lb scratch r
      ≡ whole
  unfolding open_outcome
  first-unfit e r q = ap (opened_outcome c la lb scratch) q ∙ rw e

  module _ (fa : book_fits c la scratch ≡ true) where
    pub second-unfit : book_fits c lb scratch ≡ false → (r : Opened) → r ≡ unopened_said 7 count ba bb
        → opened_outcome c la lb scratch r ≡ whole
    unfolding open_outcome
    second-unfit e r q = ap (opened_outcome c la lb scratch) q ∙ rw (fa, e)

    module _ (fb : book_fits c lb scratch ≡ true) where
      pub shares-unfit : leb (share_a + share_b + 2) (length vs) ≡ false → (r : Opened) → r ≡ unopened_said 32 count ba bb
          → opened_outcome c la lb scratch r ≡ whole
      unfolding open_outcome
      shares-unfit e r q = ap (opened_outcome c la lb scratch) q ∙ rw (fa, fb, e)

      module _ (fit : leb (share_a + share_b + 2) (length vs) ≡ true) where
        abbrev made : Columns → BookLists → BookLists → List ℕ → Book → Book → OpenOutcome
        made d a b s x y =
            record { answer = refusal 35; count = 2; columns = d; a = a; b = b; scratch = s; book_a = x; book_b = y }

        opened-is : made (stored_as (length vs) emptied) (emptied_lists la) (emptied_lists lb) (zeros (length scratch))
            (opened_book share_a)
            (opened_book share_b) ≡ whole
        unfolding open_outcome
        opened-is = rw (fa, fb, fit)

        module _ (vs' ls' hs' ds' ks' : List ℕ) (v : vs' ≡ zeros (length vs)) (l : ls' ≡ zeros (length ls)) (h : hs' ≡ zeros (length hs))
            (d : ds' ≡ zeros (length ds)) (k : ks' ≡ zeros (length ks)) where
          S : Sized vs ls hs ds ks
          S = sized vs ls hs ds ks (lists-fit c la scratch fa).columns

          columns-left : columns_made vs' ls' hs' ds' ks' ≡ stored_as (length vs) emptied
          columns-left =
              let s : ℕ = length vs in
              ap₂ (λ (x y : List ℕ). columns_made x y hs' ds' ks') v (l ∙ ap zeros S.lows)
              ∙ ap₂ (λ (x y : List ℕ). columns_made (zeros s) (zeros s) x y ks') (h ∙ ap zeros S.highs) (d ∙ ap zeros S.heads)
              ∙ ap (columns_made (zeros s) (zeros s) (zeros s) (zeros (2 * s))) (k ∙ ap zeros S.links)
              ∙ sym (stored-emptied s S.least)

          pub opens : (oa ma sa ob mb sb scratch' : List ℕ)
              → oa ≡ zeros (length la.own) → ma ≡ zeros (length la.members) → sa ≡ zeros (length la.struck)
              → ob ≡ zeros (length lb.own) → mb ≡ zeros (length lb.members) → sb ≡ zeros (length lb.struck)
              → scratch' ≡ zeros (length scratch) → (x y : Book) → x ≡ opened_book share_a → y ≡ opened_book share_b
              → opened_outcome (columns_made vs' ls' hs' ds' ks') (lists_of ma sa oa) (lists_of mb sb ob) scratch'
              (record { number = 35; count = 2; first = x; second = y }) ≡ whole
          opens oa ma sa ob mb sb scratch' e₁ e₂ e₃ e₄ e₅ e₆ e₇ x y p q =
              let A : lists_of ma sa oa ≡ emptied_lists la =
              ap₂ (λ (u w : List ℕ). lists_of u w oa) e₂ e₃ ∙ ap (lists_of (zeros (length la.members)) (zeros (length la.struck)))
              e₁ in
              let B : lists_of mb sb ob ≡ emptied_lists lb =
              ap₂ (λ (u w : List ℕ). lists_of u w ob) e₅ e₆ ∙ ap (lists_of (zeros (length lb.members)) (zeros (length lb.struck)))
              e₄ in
              ap₂ (λ (d : Columns) (a : BookLists). made d a (lists_of mb sb ob) scratch' x y) columns-left A
              ∙ ap₂ (λ (b : BookLists) (s : List ℕ). made (stored_as (length vs) emptied) (emptied_lists la) b s x y) B e₇
              ∙ ap₂ (λ (u w : Book). made (stored_as (length vs) emptied) (emptied_lists la) (emptied_lists lb) (zeros (length scratch)) u
              w) p
              q
              ∙ opened-is
