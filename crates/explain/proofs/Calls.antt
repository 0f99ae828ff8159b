-- The call by its ways out: 7 by the sizes, 30 for a check that did not refuse, else the explanation, with every list as the check leaves
-- it. The idea: no formula and no proof is refused with 7, so that the check's number tells the sizes. Assumes nothing.
use mathlib.Core.Path.{◌≡◌, refl, sym, ap, ap₂, ◌∙◌, subst}
use mathlib.Core.Logic.{◌≢◌}
use mathlib.Core.Bool.{Bool, true, false, cond}
use mathlib.Core.List.{List, ◌++◌}
use Prim.Native.Nat.{ℕ, ◌-◌, ◌≤◌, ◌<◌}
use native.Mathlib.Omega.{arith}
use lib.ListN.{length}
use lib.Dec.{eqb, leb}
use borrow.Author.Tests.{leb-true, le-leb, lt-leb}
use Rattle.meaning.proofs.Booleans.{and_both, and-false}
use Rattle.table.specs.Columns.{size_fits, Columns, stored_as}
use Rattle.table.proofs.Sizes.{Sized, sized}
use Rattle.commands.specs.declared.Mode.{Mode}
use Rattle.verdict.specs.Check.{Verdict, verdict, lent_fits, CheckOutcome, outcome, check, zeros}
use Rattle.verdict.proofs.Ends.{ended}
use Rattle.verdict.proofs.Numbers.{Closed, formula-refused, proof-ended, proof-tried, proof-number, ended-closed}
use Rattle.state.specs.States.{lent_of}
use Rattle.session.specs.declared.Checked.{Checked}
use Rattle.session.specs.Checked.{check_outcome}
use Rattle.check_call.proofs.Sizes.{called-7, called-done}
use Rattle.causes.specs.Parts.{nothing}
use Rattle.causes.specs.Causes.{plain}
use Rattle.causes.specs.Explanation.{Explanation, explained, explanation}
use Rattle.causes.specs.Answers.{told, WhyOutcome, answered, unanswered, why}
use Rattle.line_again.specs.Made.{LeftBy}
use Rattle.explain.specs.Inner.{explained_in, why_nothing}
use Rattle.explain.specs.Why.{why_outcome}
use Rattle.explain.proofs.Explaining.{explanation-thirty}

closed-seven : (mode : Mode) (s : ℕ) (formula proof : List ℕ) (v : Verdict) → Closed mode s formula proof v → v.number ≢ 7
closed-seven mode s formula proof _ (formula-refused N) = N.2
closed-seven mode s formula proof _ (proof-ended {number = number} P R e) = (proof-number mode.form number P).1
closed-seven mode s formula proof _ (proof-tried {number = number} P R e) = (proof-number mode.form number P.0).1

unfit : (t : Bool) (x y : CheckOutcome) → x.number ≢ 7 → (cond t x y).number ≡ 7 → t ≡ false
unfit true x y other e = absurd (other e)
unfit false x y other e = refl

fit : (t : Bool) (x y : CheckOutcome) → y.number ≡ 7 → (cond t x y).number ≢ 7 → t ≡ true
fit true x y seven other = refl
fit false x y seven other = absurd (other seven)

module _ (mode : Mode) (c : Columns) (count : ℕ) (members struck scratch formula proof : List ℕ) where
  abbrev v : Verdict
  v = verdict mode (length c.vars) formula proof

  abbrev said : CheckOutcome
  said = check mode c count members struck scratch formula proof

  not-seven : v.number ≢ 7
  not-seven = closed-seven mode (length c.vars) formula proof v (ended-closed mode (length c.vars) formula proof v
      (ended mode (length c.vars) formula proof))

  seven-unfit : said.number ≡ 7 → lent_fits c members struck scratch ≡ false
  unfolding check outcome
  seven-unfit e = unfit (lent_fits c members struck scratch) _ _ not-seven e

  other-fit : said.number ≢ 7 → lent_fits c members struck scratch ≡ true
  unfolding check outcome
  other-fit other = fit (lent_fits c members struck scratch) _ _ refl other

  -- What the check left: the columns d, the lists and what it said.
  module _ (d : Columns) (ms ss cs : List ℕ) (r : Checked) (is : check_outcome d ms ss cs r ≡ said) where
    -- ---- 7

    module _ (words : List ℕ) where
      why-unfit : lent_fits c members struck scratch ≡ false → unanswered c count members struck scratch words
          ≡ why mode c count members struck scratch words formula proof
      unfolding why
      why-unfit e = rw (e, and-false (leb 128 (length words)))

      pub answered-7 : r.number ≡ 7
          → why_outcome d ms ss cs words (why_nothing 7 count) ≡ why mode c count members struck scratch words formula proof
      answered-7 e =
          let no : lent_fits c members struck scratch ≡ false = seven-unfit (sym (ap (λ (o : CheckOutcome). o.number) is) ∙ e) in
          ap (λ (o : CheckOutcome). why_outcome o.columns o.members o.struck o.scratch words (why_nothing 7 count))
          (is ∙ sym (called-7 c members struck scratch mode count formula proof no)) ∙ why-unfit no

    -- ---- the check

    module _ (other : r.number ≢ 7) where
      fits : lent_fits c members struck scratch ≡ true
      fits = other-fit (λ e. other (ap (λ (o : CheckOutcome). o.number) is ∙ e))

      left_is : check_outcome d ms ss cs r ≡ outcome (length c.vars) (length members) (length scratch) v
      left_is = is ∙ sym (called-done c members struck scratch mode count formula proof fits _ refl)

      sizes : (size_fits c.vars c.lows c.highs c.heads c.links ≡ true) × (2048 ≤ length members) × (4096 ≤ length scratch)
      unfolding lent_fits
      sizes =
          let (a, b) = and_both (size_fits c.vars c.lows c.highs c.heads c.links) _ fits in
          let (p, q) = and_both (leb 2048 (length members)) _ b in
          let (_, t) = and_both (eqb (length struck) (length members)) (leb 4096 (length scratch)) q in
          (a, leb-true 2048 (length members) p, leb-true 4096 (length scratch) t)

      pub number_is : r.number ≡ v.number
      unfolding outcome
      number_is = ap (λ (o : CheckOutcome). o.number) left_is

      pub in-proof-is : r.in_proof ≡ v.in_proof
      unfolding outcome
      in-proof-is = ap (λ (o : CheckOutcome). o.in_proof) left_is

      pub place_is : r.place ≡ v.place
      unfolding outcome
      place_is = ap (λ (o : CheckOutcome). o.place) left_is

      -- The lists are as the check leaves them.
      pub left_by : length d.vars ≡ length c.vars → length ms ≡ length members → length cs ≡ length scratch
          → LeftBy v r.count r.lines (lent_of d.vars d.lows d.highs d.heads d.links ms cs ss)
      unfolding outcome
      left_by same_size same-members same-scratch =
          let S : Sized c.vars c.lows c.highs c.heads c.links =
          sized c.vars c.lows c.highs c.heads c.links sizes.0 in
          record {
            columns = ap (λ (o : CheckOutcome). o.columns) left_is ∙ ap (λ (k : ℕ). stored_as k v.nodes) (sym same_size);
            members = ap (λ (o : CheckOutcome). o.members) left_is
                ∙ ap (λ (k : ℕ). v.members ++ zeros (k - length v.members)) (sym same-members);
            struck = ap (λ (o : CheckOutcome). o.struck) left_is
                ∙ ap (λ (k : ℕ). v.struck ++ zeros (k - length v.struck)) (sym same-members);
            scratch = ap (λ (o : CheckOutcome). o.scratch) left_is ∙ ap zeros (sym same-scratch);
            count-is = ap (λ (o : CheckOutcome). o.count) left_is;
            lines-is = ap (λ (o : CheckOutcome). o.lines) left_is;
            two = omega (arith, S.least, same_size);
            most = omega (arith, S.most, same_size);
            wide = omega (arith, sizes.1, same-members);
            long = omega (arith, sizes.2, same-scratch);
          }

      -- what `explained` asks, where the list for the literals is cleared
      pub explained-asks : (size : ℕ) → size ≡ length c.vars → length d.vars ≡ length c.vars → length ms ≡ length members
          → length cs ≡ length scratch → r.number ≢ 0 → (after : List ℕ) → 128 ≤ length after → after ≡ zeros (length after)
          → (let w = verdict mode size formula proof in
          LeftBy w r.count r.lines (lent_of d.vars d.lows d.highs d.heads d.links ms cs ss)
          × (w.number ≢ 0) × (r.number ≡ w.number) × (r.in_proof ≡ w.in_proof) × (r.place ≡ w.place)
          × (128 ≤ length after) × (after ≡ zeros (length after)))
      explained-asks size size_is same_size same-members same-scratch some after long zero =
          subst (λ (k : ℕ). (let w = verdict mode k formula proof in
          LeftBy w r.count r.lines (lent_of d.vars d.lows d.highs d.heads d.links ms cs ss)
          × (w.number ≢ 0) × (r.number ≡ w.number) × (r.in_proof ≡ w.in_proof) × (r.place ≡ w.place)
          × (128 ≤ length after) × (after ≡ zeros (length after)))) (sym size_is)
          (left_by same_size same-members same-scratch, (λ z. some (number_is ∙ z)), number_is, in-proof-is, place_is, long, zero)

      -- ---- the answer

      module _ (words : List ℕ) (long : 128 ≤ length words) where
        abbrev e : Explanation
        e = explanation mode (length c.vars) formula proof

        why-done : answered e (told (length words) e.cause) said ≡ why mode c count members struck scratch words formula proof
        unfolding why
        why-done = rw (le-leb 128 (length words) long, fits)

        -- 30
        pub answered-30 : r.number ≡ 0 → (after : List ℕ) → after ≡ zeros (length words)
            → why_outcome d ms ss cs after (why_nothing 30 r.count) ≡ why mode c count members struck scratch words formula proof
        unfolding told
        answered-30 none after is_zero =
            ap (λ (ws : List ℕ). why_outcome d ms ss cs ws (why_nothing 30 r.count)) is_zero
            ∙ ap (λ (x : Explanation). answered x (told (length words) x.cause) (check_outcome d ms ss cs r)) (sym thirty)
            ∙ ap (answered e (told (length words) e.cause)) is ∙ why-done
          where
            thirty : e ≡ explained 30 nothing plain
            thirty = explanation-thirty mode (length c.vars) formula proof (sym number_is ∙ none)

        -- the explanation over what the check leaves
        pub answered-why : (s m : ℕ) → s ≡ length c.vars → m ≡ length words → (o : WhyOutcome)
            → o ≡ (let x = explanation mode s formula proof in explained_in x (told m x.cause) r.count d ms ss cs)
            → o ≡ why mode c count members struck scratch words formula proof
        answered-why s m s-is m-is o o_is =
            o_is ∙ ap₂ (λ (s m : ℕ). let x = explanation mode s formula proof in explained_in x (told m x.cause) r.count d ms ss cs)
            s-is m-is
            ∙ ap (answered e (told (length words) e.cause)) is ∙ why-done

-- ---- lists that are too short

pub answered-short : (mode : Mode) (c : Columns) (count : ℕ) (members struck scratch words formula proof : List ℕ) → length words < 128
    → why_outcome c members struck scratch words (why_nothing 7 count) ≡ why mode c count members struck scratch words formula proof
unfolding why
answered-short mode c count members struck scratch words formula proof short = rw (lt-leb 128 (length words) short)
