-- The member that is named for a PR line that is not shown is live, its turn does not conflict, and every live member before it is shown.
-- The idea: the turns of the live members, one by one, are the members' own walk past those that are struck. Assumes nothing.
use mathlib.Core.Path.{◌≡◌, refl, sym, ap, ◌∙◌, subst}
use mathlib.Core.Bool.{Bool, true, false, not, ◌&&◌, cond}
use mathlib.Core.List.{List, [], ◌∷◌, map}
use mathlib.Core.Option.{some}
use Prim.Native.Nat.{ℕ, zero, suc, ◌+◌, ◌<◌}
use native.Mathlib.Omega.{arith}
use lib.ListN.{length, get_or, drop, drop_of_length-le}
use lib.Seq.{drop-cons}
use lib.Dec.{eqb}
use borrow.Author.Tests.{lt-ltb, eqb-false}
use Rattle.meaning.specs.Diagram.{Diagram, leaf, same}
use Rattle.meaning.specs.Operations.{Literal, negation, cofactor_literals}
use Rattle.meaning.specs.Rules.{unit_prop, after_turn, by_diagram, pr_turns, pr}
use Rattle.meaning.proofs.Booleans.{t≢f, and-true, eqb-eq}
use Rattle.meaning.proofs.Ends.{by_diagram-reduced}
use Rattle.verdict.specs.Steps.{State, diagram_in, unstruck, live_members, is_live}
use Rattle.causes.specs.Causes.{Cause, fixed, fixes, turn_members, unshown, pr_cause}
use Rattle.causes.specs.Shows.{member_in, PrFails}
use Rattle.causes.proofs.Fixes.{fixes-so}

unstruck-end : (marks ks : List ℕ) → ks ≡ [] → unstruck marks ks ≡ []
unfolding unstruck
unstruck-end marks [] e = refl
unstruck-end marks (k ∷ ks) e = let z : ◌≡◌ {A = ℕ} 0 1 = cc in absurd (omega arith)

module _ (n : ℕ) (P N : ℕ → Bool) (ms : List Diagram) where
  -- Whether the turn of one member shows it.
  abbrev turn : Diagram → Bool
  turn f = (pr_turns n P N ms (f ∷ [])).shown

  turns-one : (f : Diagram) (fs : List Diagram) → (pr_turns n P N ms (f ∷ fs)).shown ≡ (turn f && (pr_turns n P N ms fs).shown)
  unfolding pr_turns after_turn
  turns-one f fs = go (same (cofactor_literals n P N f) (leaf true)) (unit_prop n (turn_members n P N ms f)).conflict refl
    where
      before : List Diagram
      before = cofactor_literals n P N f ∷ negation n (cofactor_literals n P N f) ∷ turn_members n P N ms f

      go : (one c : Bool) → (unit_prop n (turn_members n P N ms f)).conflict ≡ c
          → (cond one (pr_turns n P N ms fs) (after_turn (unit_prop n (turn_members n P N ms f)) before (pr_turns n P N ms fs))).shown
          ≡ ((cond one (pr_turns n P N ms []) (after_turn (unit_prop n (turn_members n P N ms f)) before (pr_turns n P N ms []))).shown
          && (pr_turns n P N ms fs).shown)
      go true c e = refl
      go false c e = rw (e, and-true c)

  -- A turn that does not show its member: h is not 1, and there is no conflict.
  turn-fails : (f : Diagram) → turn f ≡ false → (same (cofactor_literals n P N f) (leaf true) ≡ false)
      × ((unit_prop n (turn_members n P N ms f)).conflict ≡ false)
  unfolding pr_turns after_turn
  turn-fails f e = go (same (cofactor_literals n P N f) (leaf true)) e
    where
      before : List Diagram
      before = cofactor_literals n P N f ∷ negation n (cofactor_literals n P N f) ∷ turn_members n P N ms f

      go : (one : Bool) → (cond one (pr_turns n P N ms [])
          (after_turn (unit_prop n (turn_members n P N ms f)) before (pr_turns n P N ms []))
          ).shown ≡ false
          → (one ≡ false) × ((unit_prop n (turn_members n P N ms f)).conflict ≡ false)
      go true e = t≢f e
      go false e = (refl, sym (and-true _) ∙ e)

  module _ (st : State) (marked : length st.struck ≡ length st.members) where
    -- the live members from number i on
    abbrev from : ℕ → List Diagram
    from i = map (diagram_in st) (unstruck (drop i st.struck) (drop i st.members))

    abbrev Lower : ℕ → Type 0
    Lower i = (j : ℕ) → j < i → is_live st j ≡ true → turn (member_in st j) ≡ true

    -- one member more
    from_next : (i : ℕ) → i < length st.members → (m : ℕ) → get_or st.struck i 0 ≡ m → from i
        ≡ cond (eqb m 0) (member_in st i ∷ from (suc i)) (from (suc i))
    unfolding unstruck
    from_next i lt m e =
        let a : drop i st.members ≡ get_or st.members i 0 ∷ drop (suc i) st.members = drop-cons st.members i 0 lt in
        let b : drop i st.struck ≡ get_or st.struck i 0 ∷ drop (suc i) st.struck =
        drop-cons st.struck i 0 (omega (arith, marked)) in
        rw (a, b, e) (go (eqb m 0))
      where
        go : (t : Bool) → map (diagram_in st) (cond t
            (get_or st.members i 0 ∷ unstruck (drop (suc i) st.struck) (drop (suc i) st.members))
            (unstruck (drop (suc i) st.struck) (drop (suc i) st.members)))
            ≡ cond t (member_in st i ∷ from (suc i)) (from (suc i))
        go true = refl
        go false = refl

    -- What the walk from number i on comes to: a live member whose turn fails, those before it being shown.
    pub record Named (c : Cause) : Type 0 where
      pub member : ℕ
      pub is : c ≡ fixed (fixes n (turn_members n P N ms (member_in st member))) (some member)
      pub inside : member < length st.members
      pub live : is_live st member ≡ true
      pub fails : turn (member_in st member) ≡ false
      pub lower : Lower member

    lower-next : (i : ℕ) → Lower i → (is_live st i ≡ true → turn (member_in st i) ≡ true) → Lower (suc i)
    lower-next i low here j lt l = go (eqb j i) refl
      where
        go : (t : Bool) → eqb j i ≡ t → turn (member_in st j) ≡ true
        go true e = let q : j ≡ i = eqb-eq j i e in subst (λ (k : ℕ). turn (member_in st k) ≡ true) (sym q)
            (here (subst (λ (k : ℕ). is_live st k ≡ true) q l))
        go false e = low j (omega (arith, lt, eqb-false j i e)) l

    live_at : (i : ℕ) (b : Bool) → i < length st.members → eqb (get_or st.struck i 0) 0 ≡ b → is_live st i ≡ b
    unfolding is_live
    live_at i b lt q = rw (lt-ltb _ _ lt, q)

    unshown-so : (k i : ℕ) → i + k ≡ length st.members → Lower i → (pr_turns n P N ms (from i)).shown ≡ false →
        Named (unshown k n P N ms st i)
    unfolding unshown pr_turns
    unshown-so zero i e low fails =
        let a : drop i st.members ≡ [] = drop_of_length-le st.members {i = i} (omega (arith, e)) in
        t≢f (sym (ends (unstruck-end (drop i st.struck) (drop i st.members) a)) ∙ fails)
      where
        ends : unstruck (drop i st.struck) (drop i st.members) ≡ [] → (pr_turns n P N ms (from i)).shown ≡ true
        ends q = rw q
    unshown-so (suc k) i e low fails =
        go (eqb (get_or st.struck i 0) 0) refl (turn (member_in st i)) refl (from_next i (omega (arith, e)) (get_or st.struck i 0) refl)
        (λ low' fails'. unshown-so k (suc i) (omega (arith, e)) low' fails')
      where
        lt : i < length st.members
        lt = omega (arith, e)

        go : (b : Bool) → eqb (get_or st.struck i 0) 0 ≡ b → (t : Bool) → turn (member_in st i) ≡ t → from i
            ≡ cond b (member_in st i ∷ from (suc i)) (from (suc i))
            → (Lower (suc i) → (pr_turns n P N ms (from (suc i))).shown ≡ false → Named (unshown k n P N ms st (suc i)))
            → Named (cond (is_live st i && not (turn (member_in st i))) (fixed (fixes n (turn_members n P N ms (member_in st i))) (some i))
            (unshown k n P N ms st (suc i)))
        go true l false s f rec =
            rw (live_at i true lt l, s) (record { member = i; is = refl; inside = lt; live = live_at i true lt l; fails = s; lower = low })
        go true l true s f rec =
            rw (live_at i true lt l, s) (rec (lower-next i low (λ _. s))
            (sym (turns-one (member_in st i) (from (suc i)) ∙ rw s) ∙ sym (ap (λ (x : List Diagram). (pr_turns n P N ms x).shown) f)
            ∙ fails))
        go false l t s f rec =
            rw (live_at i false lt l) (rec (lower-next i low (λ q. t≢f (sym q ∙ live_at i false lt l)))
            (sym (ap (λ (x : List Diagram). (pr_turns n P N ms x).shown) f) ∙ fails))

-- THEOREM: where a PR line is not shown, the cause names the lowest live member whose turn fails and the literals fixed in it.
pub pr-so : (n : ℕ) (P N : ℕ → Bool) (st : State) (g : Diagram) → length st.struck ≡ length st.members →
    (pr n P N (live_members st) g).shown ≡ false
    → (rounds : List (List Literal)) × (i : ℕ) × (pr_cause n P N st g ≡ fixed rounds (some i)) × PrFails n P N st g rounds i
unfolding pr pr_cause
pr-so n P N st g marked fails =
    let ms : List Diagram = by_diagram n (negation n g) (live_members st) in
    let W = unshown-so n P N ms st marked (length st.members) 0 (omega arith) (λ j lt. absurd (omega (arith, lt))) fails in
    let f : Diagram = member_in st W.member in
    let (not-one, calm) = turn-fails n P N ms f W.fails in (
      fixes n (turn_members n P N ms f),
      W.member,
      W.is,
      record {
        inside = W.inside;
        live = W.live;
        not-one = not-one;
        fixes = fixes-so n (turn_members n P N ms f) (by_diagram-reduced n _ ms) calm;
        lowest = W.lower;
      },
    )
