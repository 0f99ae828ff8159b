-- Witness records: refused, or the next state with one variable more. Assumes nothing.
use mathlib.Core.Path.{◌≡◌, refl, sym, ap, ap₂, ◌∙◌, subst}
use mathlib.Core.Bool.{Bool, true, false, not, or-true}
use Prim.Native.Nat.{ℕ, ◌≤◌}
use Rattle.meaning.specs.Words.{in_word}
use Rattle.words.specs.declared.Literals.{Literals}
use Rattle.words.specs.Sets.{with_literal}
use Rattle.verdict.specs.Steps as check
use Rattle.verdict.specs.Steps.{next, is_variable, assigned, witness_step}
use Rattle.state.specs.declared.State.{State}
use Rattle.state.specs.declared.Step.TheVariants.{Next, Stop}
use Rattle.state.specs.States.{Lent, state_of, Held, Stepped}
use Rattle.steps.specs.NextStates.{state_with_witness}
use Rattle.steps.proofs.Bits.{with-clear}
use Rattle.entries.proofs.Stops.{stopped}

abbrev pair : ℕ → ℕ → Literals
pair positive negative = record { positive = positive; negative = negative }

module _ (n : ℕ) (l : Lent) (st : State) (v : ℕ) (b : Bool) where
  abbrev said : check.Step
  said = witness_step n (state_of l st) v b

  pub refused-12 : is_variable n v ≡ false → Stepped n l l st said (Stop 12 0)
  unfolding witness_step
  refused-12 e = stopped n l st said 12 0 (rw e)

  module _ (variable : is_variable n v ≡ true) where
    pub refused-15 : in_word st.witness.positive v ≡ true → Stepped n l l st said (Stop 15 0)
    unfolding witness_step
    refused-15 e = stopped n l st said 15 0 (rw (variable, e))

    pub refused-15-negative : in_word st.witness.negative v ≡ true → Stepped n l l st said (Stop 15 0)
    unfolding witness_step
    refused-15-negative e = stopped n l st said 15 0 (rw (variable, e, or-true (in_word st.witness.positive v)))

held-witness : (n : ℕ) (l : Lent) (st : State) (witness : Literals) → Held n l st → Held n l (state_with_witness st witness)
held-witness n l st witness H = record {
  entries = H.entries;
  least = H.least;
  kept = H.kept;
  inside = H.inside;
  rest = H.rest;
  many = H.many;
  lines = H.lines;
  room = H.room;
  marked = H.marked;
  unmarked = H.unmarked;
  rounds = H.rounds;
}

module _ (n : ℕ) (l : Lent) (st : State) (v : ℕ) (b : Bool) (H : Held n l st) (variable : is_variable n v ≡ true)
    (positive : in_word st.witness.positive v ≡ false)
    (negative : in_word st.witness.negative v ≡ false) where
  abbrev set : Literals
  set = record { positive = assigned b st.witness.positive v; negative = assigned (not b) st.witness.negative v }

  taken_is : witness_step n (state_of l st) v b ≡ next (state_of l (state_with_witness st set))
  unfolding witness_step
  taken_is = rw (variable, positive, negative)

  set_is : 1 ≤ v → (c : Bool) → c ≡ b → with_literal st.witness v c ≡ set
  set_is lo true e =
      ap₂ pair (with-clear st.witness.positive v lo positive ∙ ap (λ (c : Bool). assigned c st.witness.positive v) e)
      (ap (λ (c : Bool). assigned (not c) st.witness.negative v) e)
  set_is lo false e =
      ap₂ pair (ap (λ (c : Bool). assigned c st.witness.positive v) e)
      (with-clear st.witness.negative v lo negative ∙ ap (λ (c : Bool). assigned (not c) st.witness.negative v) e)

  pub witness-taken : 1 ≤ v → (witness : Literals) (st' : State) → st' ≡ state_with_witness st witness → witness
      ≡ with_literal st.witness v b
      → Stepped n l l st (witness_step n (state_of l st) v b) (Next st')
  witness-taken lo witness st' e is =
      subst (λ (x : State). Stepped n l l st (witness_step n (state_of l st) v b) (Next x))
      (sym (e ∙ ap (state_with_witness st) (is ∙ set_is lo b refl)))
      (record { says = sym taken_is; leaves = held-witness n l st set H })
