-- The search for the lowest member that is not shown: each turn finds room where the whole line does, and some turn is not shown where the
-- line is not. A word of ones has every variable. Assumes nothing.
use mathlib.Core.Path.{◌≡◌, refl, sym, ap, ap₂, ◌∙◌, subst}
use mathlib.Core.Bool.{Bool, true, false, not, ◌&&◌, ◌||◌, cond}
use mathlib.Core.List.{List, [], ◌∷◌}
use Prim.Native.Nat.{ℕ, zero, suc, ◌+◌, ◌-◌, ◌≤◌, ◌<◌}
use native.Mathlib.Omega.{arith}
use native.Mathlib.Decide.{ℕ_discrete, dec_lt}
use lib.ListN.{length, get_or, take, drop, drop_of_length-le}
use lib.Seq.{length-take-le, get_or-take, drop-cons}
use lib.Dec.{eqb}
use Rattle.meaning.specs.Diagram.{Diagram, leaf, node, same}
use Rattle.meaning.specs.Reduced.{Reduced}
use Rattle.meaning.specs.Rules.{Line, pr_turns}
use Rattle.meaning.specs.Words.{in_word}
use Rattle.meaning.specs.Uses.{Uses}
use Rattle.meaning.proofs.Booleans.{t≢f, and_both}
use Rattle.table.specs.Nodes.{diagram_at}
use Rattle.table.specs.Indexed.{Table, size, nodes_of, Good}
use Rattle.table.specs.Making.{Reach, reach, turns_reach, line_reach}
use Rattle.table.specs.Lists.{diagrams_of}
use Rattle.table.proofs.Numbers.{diagram_at-reduced}
use Rattle.table.proofs.Written.{length-nodes, good-ordered}
use Rattle.supports.specs.Supports.{Support}
use Rattle.verdict.specs.Steps.{unstruck}
use Rattle.judge.specs.declared.Judged.{Judged}
use Rattle.judge.specs.Lines.{LineSays}
use Rattle.judge.proofs.Fits.{turns-reach, GoesOn, Stops, goes_on, stops}
use Rattle.tell.specs.Failed.{Unshown, every_variable, turn_line, Lowest}

-- ---- a word of ones

-- The k variables from v on are in the word.
unfoldable all_from : ℕ → ℕ → ℕ → Bool
unfolding in_word
all_from word zero v = true
all_from word (suc k) v = in_word word v && all_from word k (suc v)

both_of : (word k v : ℕ) → all_from word (suc k) v ≡ true → (in_word word v ≡ true) × (all_from word k (suc v) ≡ true)
unfolding all_from
both_of word k v e = and_both (in_word word v) (all_from word k (suc v)) e

ne-lt : (v w : ℕ) → v ≤ w → (v ≡ w → ⊥) → v < w
ne-lt v w a ne = elim (dec_lt v w) [ yes p ↦ p | no p ↦ let z : v ≡ w = omega (arith, p, a) in absurd (ne z) ]

here-or : (word v w : ℕ) → in_word word v ≡ true → v ≤ w → (suc v ≤ w → in_word word w ≡ true) → in_word word w ≡ true
here-or word v w here a later = elim (ℕ_discrete v w) [
  | yes same ↦ subst (λ (x : ℕ). in_word word x ≡ true) same here
  | no other ↦ later (ne-lt v w a other)
]

all-at : (word k v w : ℕ) → all_from word k v ≡ true → v ≤ w → w < v + k → in_word word w ≡ true
all-at word zero v w e a b = absurd (omega (arith, a, b))
all-at word (suc k) v w e a b =
    let (here, later) = both_of word k v e in
    here-or word v w here a (λ c. all-at word k (suc v) w later c (omega (arith, b)))

every-all : all_from every_variable 64 1 ≡ true
unfolding all_from in_word
every-all = refl

uses-every : (i : ℕ) (D : Diagram) → 1 ≤ i → Reduced i 65 D → Uses (in_word every_variable) D
uses-every i (leaf b) one R = tt
uses-every i (node v l h) one R = (
  all-at every_variable 64 1 v every-all (omega (arith, one, R.0)) (omega (arith, R.1)),
  uses-every (suc v) l (omega arith) R.3,
  uses-every (suc v) h (omega arith) R.4,
)

pub every-support : (T : Table) → Good T → (f : ℕ) → f < T.count → Support every_variable (diagram_at (nodes_of T) f)
unfolding Support
every-support T G f inside =
    uses-every 1 (diagram_at (nodes_of T) f) (omega arith)
    (diagram_at-reduced (nodes_of T) (good-ordered T G) f (omega (arith, length-nodes T G, inside)))

-- ---- one turn

-- A line that finds room is judged without `full`.
pub says-fits : (T : Table) (line : Line) (bound : ℕ) (r : Judged) (T₁ : Table) → LineSays T line bound r T₁ →
    (line_reach (size T) (nodes_of T) line).fits ≡ true → r.shown ≡ line.shown
says-fits T line bound r T₁ S fits = S.shown (go r.full refl)
  where
    go : (b : Bool) → r.full ≡ b → r.full ≡ false
    go false e = e
    go true e = t≢f (sym fits ∙ ap (λ (x : Reach). x.fits) S.reaches ∙ ap not e)

-- ---- the search

unstruck-here : (k m : ℕ) (ss ms : List ℕ) → unstruck (k ∷ ss) (m ∷ ms) ≡ cond (eqb k 0) (m ∷ unstruck ss ms) (unstruck ss ms)
unfolding unstruck
unstruck-here k m ss ms = refl

unstruck-none : (ss : List ℕ) → unstruck {A = ℕ} ss [] ≡ []
unfolding unstruck
unstruck-none ss = refl

none-shown : (p n : ℕ) (ms : List Diagram) → (pr_turns 64 (in_word p) (in_word n) ms []).shown ≡ true
unfolding pr_turns
none-shown p n ms = refl

module _ (T : Table) (p n : ℕ) (ms : List Diagram) (members struck : List ℕ) (many : ℕ) where
  abbrev M : List ℕ
  M = take many members

  abbrev S : List ℕ
  S = take many struck

  -- the members that are left at place i
  abbrev rest_of : ℕ → List ℕ
  rest_of i = unstruck (drop i S) (drop i M)

  abbrev line_of : List ℕ → Line
  line_of ks = pr_turns 64 (in_word p) (in_word n) ms (diagrams_of (nodes_of T) ks)

  abbrev one : ℕ → Line
  one i = turn_line p n ms (diagram_at (nodes_of T) (get_or members i 0))

  abbrev live : ℕ → Bool
  live i = eqb (get_or struck i 0) 0

  pub record Searching (i : ℕ) : Type 0 where
    pub left : Unshown T (line_of (rest_of i))
    pub before : (j : ℕ) → j < i → live j ≡ true → (one j).shown ≡ true

  pub searching-start : Unshown T (line_of (unstruck S M)) → Searching 0
  searching-start U = record { left = U; before = λ j h. absurd (omega (arith, h)) }

  module _ (m-room : many ≤ length members) (s-room : many ≤ length struck) where
    len-M : length M ≡ many
    len-M = length-take-le many members m-room

    len-S : length S ≡ many
    len-S = length-take-le many struck s-room

    module _ (i : ℕ) (inside : i < many) where
      rest-is : rest_of i ≡ cond (live i) (get_or members i 0 ∷ rest_of (suc i)) (rest_of (suc i))
      rest-is =
          ap₂ (λ (xs ys : List ℕ). unstruck xs ys) (drop-cons S i 0 (omega (arith, len-S, inside)))
          (drop-cons M i 0 (omega (arith, len-M, inside)))
          ∙ unstruck-here (get_or S i 0) (get_or M i 0) (drop (suc i) S) (drop (suc i) M)
          ∙ ap₂ (λ (k m : ℕ). cond (eqb k 0) (m ∷ rest_of (suc i)) (rest_of (suc i))) (get_or-take many struck i 0 inside)
          (get_or-take many members i 0 inside)

      rest_live : live i ≡ true → rest_of i ≡ get_or members i 0 ∷ rest_of (suc i)
      rest_live e = rest-is ∙ ap (λ (b : Bool). cond b (get_or members i 0 ∷ rest_of (suc i)) (rest_of (suc i))) e

      rest-struck : live i ≡ false → rest_of i ≡ rest_of (suc i)
      rest-struck e = rest-is ∙ ap (λ (b : Bool). cond b (get_or members i 0 ∷ rest_of (suc i)) (rest_of (suc i))) e

      abbrev f : Diagram
      f = diagram_at (nodes_of T) (get_or members i 0)

      abbrev fs : List Diagram
      fs = diagrams_of (nodes_of T) (rest_of (suc i))

      reach-line : (gs : List Diagram) → line_reach (size T) (nodes_of T) (pr_turns 64 (in_word p) (in_word n) ms gs)
          ≡ turns_reach (size T) (pr_turns 64 (in_word p) (in_word n) ms gs).turns (nodes_of T)
      reach-line gs = turns-reach 64 (in_word p) (in_word n) ms (size T) (nodes_of T) gs

      module _ (W : Searching i) where
        whole : live i ≡ true → Unshown T (pr_turns 64 (in_word p) (in_word n) ms (f ∷ fs))
        whole e = subst (λ (ks : List ℕ). Unshown T (line_of ks)) (rest_live e) W.left

        on : live i ≡ true → (one i).shown ≡ true → ((line_reach (size T) (nodes_of T) (one i)).fits ≡ true)
            × Unshown T (line_of (rest_of (suc i)))
        on e shown =
            let G : GoesOn (size T) (nodes_of T) (one i) (pr_turns 64 (in_word p) (in_word n) ms fs)
            (pr_turns 64 (in_word p) (in_word n) ms (f ∷ fs)) =
            goes_on (size T) (nodes_of T) 64 (in_word p) (in_word n) ms f fs shown in
            let U = whole e in
            let both = and_both (turns_reach (size T) (one i).turns (nodes_of T)).fits
            (turns_reach (size T) (pr_turns 64 (in_word p) (in_word n) ms fs).turns (nodes_of T)).fits
            (sym (ap (λ (x : Reach). x.fits) G.reach) ∙ sym (ap (λ (x : Reach). x.fits) (reach-line (f ∷ fs))) ∙ U.fits) in (
              ap (λ (x : Reach). x.fits) (reach-line (f ∷ [])) ∙ both.0,
              record { fits = ap (λ (x : Reach). x.fits) (reach-line fs) ∙ both.1; unshown = sym G.shown ∙ U.unshown },
            )

        off : live i ≡ true → (one i).shown ≡ false → (line_reach (size T) (nodes_of T) (one i)).fits ≡ true
        off e hidden =
            let G : Stops (size T) (nodes_of T) (one i) (pr_turns 64 (in_word p) (in_word n) ms (f ∷ fs)) =
            stops (size T) (nodes_of T) 64 (in_word p) (in_word n) ms f fs hidden in
            ap (λ (x : Reach). x.fits) (reach-line (f ∷ []) ∙ sym G.reach ∙ sym (reach-line (f ∷ fs))) ∙ (whole e).fits

        -- the turn finds room
        pub searching-fits : live i ≡ true → (line_reach (size T) (nodes_of T) (one i)).fits ≡ true
        searching-fits e = go (one i).shown refl
          where
            go : (b : Bool) → (one i).shown ≡ b → (line_reach (size T) (nodes_of T) (one i)).fits ≡ true
            go true s = (on e s).0
            go false s = off e s

        pub searching-on : (not (live i) || (one i).shown) ≡ true → Searching (i + 1)
        searching-on passed = subst Searching (omega arith) (go (live i) refl)
          where
            earlier : (j : ℕ) → j < suc i → (live i ≡ true → (one i).shown ≡ true) → live j ≡ true → (one j).shown ≡ true
            earlier j h here e = elim (ℕ_discrete j i) [
              | yes s ↦ subst (λ (k : ℕ). live k ≡ true → (one k).shown ≡ true) (sym s) here e
              | no s ↦ W.before j (ne-lt j i (omega (arith, h)) s) e
            ]

            go : (b : Bool) → live i ≡ b → Searching (suc i)
            go true e =
                let shown : (one i).shown ≡ true = sym (ap (λ (b : Bool). not b || (one i).shown) e) ∙ passed in
                record { left = (on e shown).1; before = λ j h. earlier j h (λ z. shown) }
            go false e = record {
              left = subst (λ (ks : List ℕ). Unshown T (line_of ks)) (rest-struck e) W.left;
              before = λ j h. earlier j h (λ z. t≢f (sym z ∙ e));
            }

        pub searching-found : (not (live i) || (one i).shown) ≡ false → Lowest T p n ms members struck many i
        searching-found failed = go (live i) refl
          where
            go : (b : Bool) → live i ≡ b → Lowest T p n ms members struck many i
            go false e = t≢f (sym (ap (λ (b : Bool). not b || (one i).shown) e) ∙ failed)
            go true e =
                let hidden : (one i).shown ≡ false = sym (ap (λ (b : Bool). not b || (one i).shown) e) ∙ failed in
                record { inside = inside; live = e; fails = record { fits = off e hidden; unshown = hidden }; lowest = W.before }

    none_left : {i : ℕ} → length M ≤ i → drop i M ≡ []
    none_left h = drop_of_length-le M h

    -- some turn is not shown
    pub searching-end : (i : ℕ) → Searching i → many ≤ i → ⊥
    searching-end i W past =
        let over : length M ≤ i = omega (arith, len-M, past) in
        let none : rest_of i ≡ [] = ap (unstruck (drop i S)) (none_left over) ∙ unstruck-none (drop i S) in
        t≢f (sym (none-shown p n ms) ∙ sym (ap (λ (ks : List ℕ). (line_of ks).shown) none) ∙ W.left.unshown)
