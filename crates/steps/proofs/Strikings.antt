-- Strikings and the members that are not struck: what one place more adds to them, and the ways out of a striking. Assumes nothing.
use mathlib.Core.Path.{◌≡◌, refl, sym, ap, ◌∙◌}
use mathlib.Core.Logic.{◌≢◌}
use mathlib.Core.Bool.{Bool, true, false, cond}
use mathlib.Core.List.{List, [], ◌∷◌, ◌++◌, append-nil}
use Prim.Native.Nat.{ℕ, zero, suc, ◌+◌, ◌≤◌, ◌<◌}
use native.Mathlib.Omega.{arith}
use lib.ListN.{length, get_or, take, set, length-set}
use lib.Dec.{eqb, ltb}
use lib.Seq.{length-take-le, get_or-take, take-set-lt, take-suc-set, get_or-set_other}
use borrow.Author.Tests.{eq-eqb, ne_eqb, lt-ltb, le-ltb}
use Rattle.table.specs.Lists.{Inside}
use Rattle.verdict.specs.Steps as check
use Rattle.verdict.specs.Steps.{with_marks, next, unstruck, waiting, is_live, strike_step}
use Rattle.state.specs.declared.State.{State}
use Rattle.state.specs.declared.Step.TheVariants.{Next, Stop}
use Rattle.state.specs.States.{Lent, lent_of, state_of, Held, Stepped}
use Rattle.entries.proofs.Stops.{stopped}

-- ---- members that are not struck

-- What holds of the rest holds with the first place put before both sides.
unstruck-before : (m : ℕ) (marks marks' ks ks' : List ℕ) (k : ℕ) (more : List ℕ) → unstruck marks ks ≡ unstruck marks' ks' ++ more
    → unstruck (m ∷ marks) (k ∷ ks) ≡ unstruck (m ∷ marks') (k ∷ ks') ++ more
unfolding unstruck
unstruck-before m marks marks' ks ks' k more e = go (eqb m 0)
  where
    go : (b : Bool) → cond b (k ∷ unstruck marks ks) (unstruck marks ks) ≡ cond b (k ∷ unstruck marks' ks') (unstruck marks' ks') ++ more
    go true = ap (λ (l : List ℕ). k ∷ l) e
    go false = e

-- One place more adds its member where that is live, and nothing where it is struck.
abbrev pub live_at : List ℕ → List ℕ → ℕ → List ℕ
live_at marks ks i = cond (eqb (get_or marks i 0) 0) (get_or ks i 0 ∷ []) []

first-place : (m k : ℕ) → unstruck (m ∷ []) (k ∷ []) ≡ unstruck {A = ℕ} [] [] ++ cond (eqb m 0) (k ∷ []) []
unfolding unstruck
first-place m k = refl

pub unstruck-more : (i : ℕ) (marks ks : List ℕ) → i < length marks → i < length ks
    → unstruck (take (suc i) marks) (take (suc i) ks) ≡ unstruck (take i marks) (take i ks) ++ live_at marks ks i
unstruck-more i [] ks p q = absurd (omega arith)
unstruck-more i (m ∷ marks) [] p q = absurd (omega arith)
unstruck-more zero (m ∷ marks) (k ∷ ks) p q = first-place m k
unstruck-more (suc i) (m ∷ marks) (k ∷ ks) p q =
    unstruck-before m (take (suc i) marks) (take i marks) (take (suc i) ks) (take i ks) k (live_at marks ks i)
    (unstruck-more i marks ks (omega arith) (omega arith))

-- They are among the members.
inside-more : (b : ℕ) (c : Bool) (k : ℕ) (ks : List ℕ) → k < b → Inside b ks → Inside b (cond c (k ∷ ks) ks)
inside-more b true k ks below rest zero p = below
inside-more b true k ks below rest (suc i) p = rest i (omega arith)
inside-more b false k ks below rest i p = rest i p

pub unstruck-inside : (b : ℕ) (marks ks : List ℕ) → Inside b ks → Inside b (unstruck marks ks)
unfolding unstruck
unstruck-inside b marks [] all i p = absurd (omega arith)
unstruck-inside b [] (k ∷ ks) all i p = all i p
unstruck-inside b (m ∷ marks) (k ∷ ks) all i p =
    inside-more b (eqb m 0) k (unstruck marks ks) (all 0 (omega arith)) (unstruck-inside b marks ks (λ j q. all (suc j) (omega arith))) i p

-- ---- gathering them

-- The first places of `live` hold the live ones of the first i of m members.
pub record Gathered (marks ks : List ℕ) (m : ℕ) (live₀ live : List ℕ) (i count : ℕ) : Type 0 where
  pub few : count ≤ i
  pub within : i ≤ m
  pub room : length live ≡ length live₀
  pub held : take count live ≡ unstruck (take i marks) (take i ks)

module _ (marks ks : List ℕ) (m : ℕ) (live₀ : List ℕ) where
  pub gathered_none : Gathered marks ks m live₀ live₀ 0 0
  unfolding unstruck
  gathered_none = record { few = omega arith; within = omega arith; room = refl; held = refl }

  module _ (live : List ℕ) (i count : ℕ) (G : Gathered marks ks m live₀ live i count) (more : i < m) (marked : m ≤ length marks)
      (there : m ≤ length ks)
      (fits : m ≤ length live₀) where
    next_place : unstruck (take (i + 1) marks) (take (i + 1) ks) ≡ unstruck (take i marks) (take i ks) ++ live_at marks ks i
    next_place =
        let e : i + 1 ≡ suc i = omega arith in
        ap (λ (j : ℕ). unstruck (take j marks) (take j ks)) e ∙ unstruck-more i marks ks (omega (arith, more, marked))
        (omega (arith, more, there))

    pub gathered-live : get_or marks i 0 ≡ 0 → Gathered marks ks m live₀ (set live count (get_or ks i 0)) (i + 1) (count + 1)
    gathered-live zero-mark =
        let e : count + 1 ≡ suc count = omega arith in
        record {
          few = omega (arith, G.few);
          within = omega (arith, more);
          room = length-set live count (get_or ks i 0) ∙ G.room;
          held =
              ap (λ (j : ℕ). take j (set live count (get_or ks i 0))) e ∙ take-suc-set live count (get_or ks i 0)
              (omega (arith, G.few, G.room, more, fits))
              ∙ ap (λ (l : List ℕ). l ++ get_or ks i 0 ∷ []) G.held
              ∙ sym (next_place ∙ ap (λ (c : Bool). unstruck (take i marks) (take i ks) ++ cond c (get_or ks i 0 ∷ []) [])
              (eq-eqb (get_or marks i 0) 0 zero-mark));
        }

    pub gathered-struck : get_or marks i 0 ≢ 0 → Gathered marks ks m live₀ live (i + 1) count
    gathered-struck ne = record {
      few = omega (arith, G.few);
      within = omega (arith, more);
      room = G.room;
      held =
          G.held ∙ sym (append-nil (unstruck (take i marks) (take i ks)))
          ∙ sym (next_place ∙ ap (λ (c : Bool). unstruck (take i marks) (take i ks) ++ cond c (get_or ks i 0 ∷ []) [])
          (ne_eqb (get_or marks i 0) 0 ne));
    }

  -- all m places seen
  pub gathered-all : (live : List ℕ) (i count : ℕ) → Gathered marks ks m live₀ live i count → m ≤ i → (count ≤ m)
      × (take count live ≡ unstruck (take m marks) (take m ks))
  gathered-all live i count G p =
      let e : i ≡ m = omega (arith, G.within) in
      (omega (arith, G.few, G.within), G.held ∙ ap (λ (j : ℕ). unstruck (take j marks) (take j ks)) e)

-- ---- the step

-- The member of number k is not struck, as the lent marks hold it.
module _ (l : Lent) (st : State) (marked : st.members ≤ length l.struck) (room : st.members ≤ length l.members) (k : ℕ) where
  members-length : length (state_of l st).members ≡ st.members
  members-length = length-take-le st.members l.members room

  pub live-beyond : st.members ≤ k → is_live (state_of l st) k ≡ false
  unfolding is_live
  live-beyond p = rw (le-ltb k (length (take st.members l.members)) (omega (arith, members-length)))

  module _ (below : k < st.members) where
    there : ltb k (length (take st.members l.members)) ≡ true
    there = lt-ltb k (length (take st.members l.members)) (omega (arith, members-length))

    mark-is : get_or (take st.members l.struck) k 0 ≡ get_or l.struck k 0
    mark-is = get_or-take st.members l.struck k 0 below

    pub live-struck : get_or l.struck k 0 ≢ 0 → is_live (state_of l st) k ≡ false
    unfolding is_live
    live-struck ne = rw (there, ne_eqb (get_or (take st.members l.struck) k 0) 0 (λ e. ne (sym mark-is ∙ e)))

    pub live-there : get_or l.struck k 0 ≡ 0 → is_live (state_of l st) k ≡ true
    unfolding is_live
    live-there e = rw (there, eq-eqb (get_or (take st.members l.struck) k 0) 0 (mark-is ∙ e))

-- A member is marked: the code's state holds no marks, so it stays.
module _ (n : ℕ) (l : Lent) (st : State) (k : ℕ) (below : k < st.members) (H : Held n l st) where
  abbrev l' : Lent
  l' = lent_of l.vars l.lows l.highs l.heads l.links l.members l.scratch (set l.struck k 1)

  held : Held n l' st
  held = record {
    entries = H.entries;
    least = H.least;
    kept = H.kept;
    inside = H.inside;
    rest = H.rest;
    many = H.many;
    lines = H.lines;
    room = H.room;
    marked = length-set l.struck k 1 ∙ H.marked;
    unmarked = λ i p. get_or-set_other l.struck k i 1 0 (λ e. absurd (omega arith)) ∙ H.unmarked i p;
    rounds = H.rounds;
  }

  pub marked_next : Stepped n l l' st (next (with_marks (state_of l st) (set (take st.members l.struck) k 1))) (Next st)
  marked_next = record {
    says = ap (λ (marks : List ℕ). next (with_marks (state_of l st) marks)) (take-set-lt st.members l.struck k 1 below);
    leaves = held;
  }

module _ (n : ℕ) (l : Lent) (st : State) (k : ℕ) where
  abbrev said : check.Step
  said = strike_step (state_of l st) k

  pub strike-16 : waiting (state_of l st) ≡ true → Stepped n l l st said (Stop 16 0)
  unfolding strike_step
  strike-16 w = stopped n l st said 16 0 (rw w)

  module _ (none : waiting (state_of l st) ≡ false) where
    pub strike-28 : is_live (state_of l st) k ≡ false → Stepped n l l st said (Stop 28 0)
    unfolding strike_step
    strike-28 e = stopped n l st said 28 0 (rw (none, e))

    module _ (live : is_live (state_of l st) k ≡ true) (below : k < st.members) (H : Held n l st) where
      says : strike_step (state_of l st) k ≡ next (with_marks (state_of l st) (set (take st.members l.struck) k 1))
      unfolding strike_step
      says = rw (none, live)

      pub strike-next : Stepped n l (lent_of l.vars l.lows l.highs l.heads l.links l.members l.scratch
          (set l.struck k 1)) st said (Next st)
      strike-next = rw says (marked_next n l st k below H)
