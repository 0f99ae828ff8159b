-- The consequence profile, of the call: each accepted line that is left in the member list is 1 under every assignment that satisfies the
-- formula, and a proof in records without a PR record leaves the same. The idea: so it is in every reached state, and the list is what the
-- last one leaves. Assumes nothing.
use mathlib.Core.Path.{◌≡◌, sym, ap, ◌∙◌, subst}
use mathlib.Core.Bool.{Bool, true, false}
use mathlib.Core.List.{List, [], ◌∷◌, ◌++◌}
use Prim.Native.Nat.{ℕ, zero, suc, ◌+◌, ◌<◌}
use native.Mathlib.Omega.{arith}
use lib.ListN.{length, get_or, take, length-append}
use lib.Seq.{length-take-le, get_or-take}
use Rattle.meaning.specs.Diagram.{Assignment}
use Rattle.meaning.proofs.Booleans.{t≢f}
use Rattle.commands.specs.declared.Mode.{Mode}
use Rattle.commands.specs.Commands.{in_form}
use Rattle.verdict.specs.Steps.{State}
use Rattle.verdict.specs.Check.{CheckOutcome, outcome}
use Rattle.verdict.specs.Taken.{Function, Meant}
use Rattle.verdict.specs.Run.{clause_functions, Reached, no_header, not-read, no_room, stopped, tried}
use Rattle.verdict.specs.Satisfies.{satisfies}
use Rattle.verdict.proofs.Refuted.{AllOne}
use Rattle.verdict.proofs.Members.{members-are, lines-there}
use Rattle.verdict.proofs.Consequence.{lines-follow}
use Rattle.demands.specs.Leaving.{Handed, checked, places, clauses_read, lines_of, Ends, wrong_size, at_place}
use Rattle.demands.proofs.Ending.{check-ends}
use Rattle.demands.proofs.Lists.{get_or-second}

one_at : (a : Assignment) (fs : List Function) → AllOne a fs → (k : ℕ) → k < length fs → get_or fs k (λ a. false) a ≡ true
one_at a [] all k p = absurd (omega arith)
one_at a (f ∷ fs) all zero p = all.0
one_at a (f ∷ fs) all (suc k) p = one_at a fs all.1 k (omega arith)

module _ (i : Handed) (profile : i.mode.consequence ≡ true) (a : Assignment) (sat : satisfies a (clauses_read i) ≡ true) where
  reached-true : {n : ℕ} {st : State} {at : ℕ} {m : Meant} → Reached i.mode (places i) i.text i.proof n st at m
      → (j : ℕ) → j < st.lines → get_or (lines_of i) j (λ a. false) a ≡ true
  reached-true {n} {st} {at} {m} R j p =
      let within : Reached (in_form i.mode.form true) (places i) i.text i.proof n st at m =
      subst (λ (x : Mode). Reached x (places i) i.text i.proof n st at m) (ap (λ (b : Bool). in_form i.mode.form b) profile) R in
      let all : AllOne a m.members = lines-follow i.mode.form (places i) i.text i.proof within a sat in
      let are = members-are (places i) i.text i.mode i.proof R in
      let there = lines-there (places i) i.text i.mode i.proof R in
      let few : length (take st.lines (lines_of i)) ≡ st.lines = length-take-le st.lines (lines_of i) there in
      let k : ℕ = length (clause_functions i.text) + j in
      sym (ap (λ (f : Function). f a) (get_or-second (clause_functions i.text) (take st.lines (lines_of i)) j (λ a. false)
      ∙ get_or-take st.lines (lines_of i) j (λ a. false) p))
      ∙ one_at a (clause_functions i.text ++ take st.lines (lines_of i)) (subst (AllOne a) are all) k
      (omega (arith, length-append (clause_functions i.text) (take st.lines (lines_of i)), few, p))

  -- THEOREM: the function of each accepted line is 1 there.
  pub lines-true : (checked i).in_proof ≡ true → (j : ℕ) → j < (checked i).lines → get_or (lines_of i) j (λ a. false) a ≡ true
  unfolding outcome
  lines-true late = go (checked i) (check-ends i) late
    where
      go : (o : CheckOutcome) → Ends i o → o.in_proof ≡ true → (j : ℕ) → j < o.lines → get_or (lines_of i) j (λ a. false) a ≡ true
      go _ (wrong_size other) late = t≢f (sym late)
      go _ (at_place e (no_header h)) late = t≢f (sym late)
      go _ (at_place e (not-read M)) late = t≢f (sym late)
      go _ (at_place e (no_room M full-there)) late = t≢f (sym late)
      go _ (at_place e (stopped R q)) late = reached-true R
      go _ (at_place e (tried R q)) late = reached-true R
