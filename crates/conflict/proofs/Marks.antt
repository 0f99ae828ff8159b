-- Listed numbers and marks: a loop's step over each, what the marks of a list say, and that unmarking leaves none. The idea: what is
-- left to do is done over the rest of the list. Assumes nothing.
use mathlib.Core.Path.{◌≡◌, refl, sym, ap, ◌∙◌}
use mathlib.Core.Bool.{Bool, true, false, ◌||◌}
use mathlib.Core.List.{List, [], ◌∷◌}
use Prim.Native.Nat.{ℕ, suc, ◌+◌, ◌≤◌, ◌<◌}
use native.Mathlib.Omega.{arith}
use native.Mathlib.Numerals.{add-one}
use native.Mathlib.Decide.{ℕ_discrete}
use lib.ListN.{length, get_or, set, drop, length-set, length-replicate, get_or-replicate, drop_of_length-le}
use lib.Seq.{drop-cons, get_or-set_same, get_or-set_other, ext_get_or}
use lib.Dec.{eqb}
use borrow.Author.Tests.{eq-eqb, ne_eqb}
use Rattle.table.specs.Lists.{Inside}
use Rattle.conflict.specs.Marks.{is_listed, unmarked, set_all}

-- ---- the loops' steps

module _ (list : List ℕ) (i : ℕ) (p : i < length list) (k : ℕ) where
  pub listed_here : get_or list i 0 ≡ k → is_listed (drop i list) k ≡ true
  unfolding is_listed
  listed_here e = rw (drop-cons list i 0 p, eq-eqb _ _ e)

  pub listed-later : (get_or list i 0 ≡ k → ⊥) → is_listed (drop i list) k ≡ is_listed (drop (i + 1) list) k
  unfolding is_listed
  listed-later n = rw (add-one, drop-cons list i 0 p, ne_eqb _ _ n)

pub listed-none : (list : List ℕ) (i k : ℕ) → length list ≤ i → is_listed (drop i list) k ≡ false
unfolding is_listed
listed-none list i k h = rw (drop_of_length-le list h)

pub set-step : (m : ℕ) (marks list : List ℕ) (i : ℕ) → i < length list → set_all m marks (drop i list)
    ≡ set_all m (set marks (get_or list i 0) m) (drop (i + 1) list)
unfolding set_all
set-step m marks list i p = rw (add-one, drop-cons list i 0 p)

pub set-end : (m : ℕ) (marks list : List ℕ) (i : ℕ) → length list ≤ i → set_all m marks (drop i list) ≡ marks
unfolding set_all
set-end m marks list i h = rw (drop_of_length-le list h)

-- ---- what the marks say

length-set_all : (m : ℕ) (marks list : List ℕ) → length (set_all m marks list) ≡ length marks
unfolding set_all
length-set_all m marks [] = refl
length-set_all m marks (k ∷ ks) = length-set_all m (set marks k m) ks ∙ length-set marks k m

abbrev at_mark : Bool → ℕ → ℕ → ℕ
at_mark true m old = m
at_mark false m old = old

at-mark-same : (b : Bool) (m : ℕ) → at_mark b m m ≡ m
at-mark-same true m = refl
at-mark-same false m = refl

inside-rest : (s k : ℕ) (ks : List ℕ) → Inside s (k ∷ ks) → Inside s ks
inside-rest s k ks h i p = h (suc i) (omega arith)

-- a place has the mark exactly where it is listed
mark_of : (m : ℕ) (marks list : List ℕ) (j : ℕ) → Inside (length marks) list → get_or (set_all m marks list) j 0
    ≡ at_mark (is_listed list j) m (get_or marks j 0)
unfolding set_all is_listed
mark_of m marks [] j h = refl
mark_of m marks (k ∷ ks) j h =
    mark_of m (set marks k m) ks j (λ i p. rw (length-set marks k m) (inside-rest (length marks) k ks h i p)) ∙ go (ℕ_discrete j k)
  where
    go : Dec (j ≡ k) → at_mark (is_listed ks j) m (get_or (set marks k m) j 0) ≡ at_mark (eqb k j || is_listed ks j) m (get_or marks j 0)
    go (yes e) = rw (e, eq-eqb k k refl, get_or-set_same marks k m 0 (h 0 (omega arith))) (at-mark-same (is_listed ks k) m)
    go (no n) = rw (ne_eqb k j (λ q. n (sym q)), get_or-set_other marks k j m 0 n)

pub marked-length : (s : ℕ) (list : List ℕ) → length (set_all 1 (unmarked s) list) ≡ s
marked-length s list = length-set_all 1 (unmarked s) list ∙ length-replicate {A = ℕ} s 0

module _ (s : ℕ) (list : List ℕ) (h : Inside s list) where
  in-marks : Inside (length (unmarked s)) list
  in-marks i p = rw (length-replicate {A = ℕ} s 0) (h i p)

  pub marks-tell : (j : ℕ) → j < s → eqb (get_or (set_all 1 (unmarked s) list) j 0) 1 ≡ is_listed list j
  marks-tell j p = rw (mark_of 1 (unmarked s) list j in-marks, get_or-replicate {A = ℕ} s j 0 0 p) (go (is_listed list j))
    where
      go : (b : Bool) → eqb (at_mark b 1 0) 1 ≡ b
      go true = refl
      go false = refl

  pub none_left : set_all 0 (set_all 1 (unmarked s) list) list ≡ unmarked s
  none_left =
      ext_get_or 0 (set_all 0 (set_all 1 (unmarked s) list) list) (unmarked s)
      (length-set_all 0 (set_all 1 (unmarked s) list) list ∙ length-set_all 1 (unmarked s) list)
      (λ j p. mark_of 0 (set_all 1 (unmarked s) list) list j (λ i q. rw (marked-length s list) (h i q))
      ∙ ap (at_mark (is_listed list j) 0) (mark_of 1 (unmarked s) list j in-marks)
      ∙ twice (is_listed list j) (get_or (unmarked s) j 0)
      (get_or-replicate {A = ℕ} s j 0 0 (omega (arith, length-set_all 0 (set_all 1 (unmarked s) list) list, marked-length s list))))
    where
      twice : (b : Bool) (z : ℕ) → z ≡ 0 → at_mark b 0 (at_mark b 1 z) ≡ z
      twice true z e = sym e
      twice false z e = refl
