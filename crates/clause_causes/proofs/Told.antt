-- What the code gives of a refused clause's last try is the definition's cause. The idea: the members keep their diagrams while the
-- clause's is made. Assumes nothing.
use mathlib.Core.Path.{◌≡◌, refl, sym, ap, ap₂, ◌∙◌, subst}
use mathlib.Core.Bool.{Bool, true, false, cond}
use mathlib.Core.List.{List, [], ◌∷◌, map}
use mathlib.Core.Option.{none, some}
use Prim.Native.Nat.{ℕ, suc, ◌<◌}
use native.Mathlib.Omega.{arith}
use lib.ListN.{length, get_or, take}
use lib.Seq.{length-take-le}
use Rattle.meaning.specs.Diagram.{Diagram}
use Rattle.meaning.specs.Operations.{Literal, clause}
use Rattle.meaning.specs.Literals.{OfVariables}
use Rattle.meaning.specs.Words.{in_word}
use Rattle.words.specs.declared.Literals.{Literals}
use Rattle.words.specs.Sets.{shares, literals_of}
use Rattle.table.specs.Nodes.{diagram_at}
use Rattle.table.specs.Indexed.{Table, nodes_of}
use Rattle.table.specs.Lists.{diagrams_of, Inside}
use Rattle.table.specs.declared.Placed.{Placed}
use Rattle.table.proofs.Outcomes.{place_in, dropped_to, longer, undone}
use Rattle.clause.specs.Words.{clause_of_words}
use Rattle.clausal.specs.Tries.{makes_true, makes_false, witness}
use Rattle.std.specs.Prelude.{None}
use Rattle.commands.specs.declared.DratClause.{DratClause}
use Rattle.commands.specs.Inner.{pivot_of}
use Rattle.verdict.specs.Steps as check
use Rattle.verdict.specs.Steps.{diagram_in, live_members, unstruck, is_live}
use Rattle.state.specs.declared.State.{State}
use Rattle.state.specs.States.{Lent, table_in, state_of, Held}
use Rattle.tries.proofs.Adding.{outcome_at, grown}
use Rattle.tries.proofs.Setting.{witness-true, witness-false}
use Rattle.causes.specs.Causes.{fixed, fixes, rup_cause, pr_cause, clause_cause}
use Rattle.causes.specs.Answers.{fixed_as, Told, told}
use Rattle.tell.specs.Failed.{by_not, under_witness}
use Rattle.tell.proofs.Refused.{members-inside, live_inside}
use Rattle.tell.proofs.Lines.{rup-cause-is, pr-cause-is}
use Rattle.clause_causes.specs.declared.Failed.{Failed}
use Rattle.clause_causes.specs.Clauses.{ClauseRefused, told_of, TryFails, FirstTold, SecondTold, TryTold}
use Rattle.clause_causes.proofs.Turns.{pr-cause-same}
use Rattle.clause_causes.proofs.Made.{lent_made, state_made, Made, apart, clause-made, last-fails}
use Rattle.clause_causes.proofs.Tried.{words_of, try-fails}

-- ---- numbers

abbrev numbers : ℕ → Bool → ℕ → List ℕ → Told
numbers rounds has_member member words = record {
  variable = 0;
  child = 0;
  word = 0;
  rounds = rounds;
  has_member = has_member;
  member = member;
  words = words;
}

module _ (r : Failed) (words : List ℕ) (rs : List (List Literal)) (a : r.rounds ≡ length rs) (b : words ≡ fixed_as (length words) rs) where
  numbers-are : (h : Bool) (i : ℕ) → r.has_member ≡ h → r.member ≡ i → numbers (length rs) h i (fixed_as (length words) rs)
      ≡ told_of r words
  numbers-are h i x y =
      ap₂ (λ (m : ℕ) (ws : List ℕ). numbers m h i ws) (sym a) (sym b)
      ∙ ap₂ (λ (f : Bool) (j : ℕ). numbers r.rounds f j words) (sym x) (sym y)

  none_told : r.has_member ≡ false → r.member ≡ 0 → told (length words) (fixed rs none) ≡ told_of r words
  unfolding told
  none_told x y = numbers-are false 0 x y

  member-told : r.has_member ≡ true → told (length words) (fixed rs (some r.member)) ≡ told_of r words
  unfolding told
  member-told x = numbers-are true r.member x refl

-- ---- the causes before the clause is made and after

module _ (n : ℕ) (L : Lent) (st : State) (H : Held n L st) (T₁ : Table) (k : ℕ) where
  abbrev S : check.State
  S = state_of L st

  abbrev L₁ : Lent
  L₁ = lent_made L T₁

  abbrev st₁ : State
  st₁ = state_made st T₁

  abbrev S₁ : check.State
  S₁ = state_of L₁ st₁

  abbrev live : List ℕ
  live = unstruck (take st.members L.struck) (take st.members L.members)

  abbrev G : Diagram
  G = diagram_at (nodes_of T₁) k

  all-kept : (ls : List Literal) → Made n L st T₁ k ls → (ks : List ℕ) → Inside st.count ks → map (diagram_in S) ks
      ≡ map (diagram_in S₁) ks
  all-kept ls M [] inside = refl
  all-kept ls M (j ∷ ks) inside =
      ap₂ ◌∷◌ (sym (M.kept j (inside 0 (omega arith)))) (all-kept ls M ks (λ i p. inside (suc i) (omega arith)))

  many-are : length S.members ≡ st.members
  many-are = length-take-le st.members L.members (omega (arith, H.many, H.lines, H.room))

  module _ (ls : List Literal) (M : Made n L st T₁ k ls) where
    live_same : live_members S ≡ live_members S₁
    live_same = all-kept ls M live (live_inside n L st H)

    member-same : (i : ℕ) → i < st.members → diagram_in S (get_or S.members i 0) ≡ diagram_in S₁ (get_or S₁.members i 0)
    member-same i h = sym (M.kept (get_or S.members i 0) (members-inside n L st H i (omega (arith, h, many-are))))

    first-cause : rup_cause n (live_members S) (clause n ls) ≡ fixed (fixes 64 (by_not G (diagrams_of (nodes_of T₁) live))) none
    first-cause = ap₂ (rup_cause n) live_same (sym M.is) ∙ rup-cause-is n L₁ st₁ M.held k M.inside M.not-one

    first-told : (r : Failed) (words : List ℕ) → FirstTold (nodes_of T₁) live k r words
        → told (length words) (rup_cause n (live_members S) (clause n ls)) ≡ told_of r words
    first-told r words F =
        ap (told (length words)) first-cause
        ∙ none_told r words (fixes 64 (by_not G (diagrams_of (nodes_of T₁) live))) F.2.rounds-are F.2.words_are F.0 F.1

  module _ (q : Literal) (ls : List Literal) (w : OfVariables n (q ∷ ls)) (M : Made n L st T₁ k (q ∷ ls)) where
    abbrev u : Literals
    u = words_of q ls

    live-still : (i : ℕ) → is_live S i ≡ is_live S₁ i
    unfolding is_live
    live-still i = refl

    words-cause : pr_cause n (makes_true (witness q (q ∷ ls))) (makes_false (witness q (q ∷ ls))) S (clause n (q ∷ ls))
        ≡ pr_cause n (in_word u.positive) (in_word u.negative) S₁ G
    words-cause =
        pr-cause-same n (makes_true (witness q (q ∷ ls))) (makes_false (witness q (q ∷ ls))) (in_word u.positive) (in_word u.negative)
        (λ v lo hi. sym
        (witness-true n (q ∷ ls) w H.entries.narrow q.variable w.0 (omega (arith, w.1, H.entries.narrow)) v lo
        (omega (arith, hi, H.entries.narrow)) q.positive))
        (λ v lo hi. sym
        (witness-false n (q ∷ ls) w H.entries.narrow q.variable w.0 (omega (arith, w.1, H.entries.narrow)) v lo
        (omega (arith, hi, H.entries.narrow)) q.positive))
        S S₁ st.members live-still (member-same (q ∷ ls) M) (clause n (q ∷ ls)) G (sym M.is) (live_same (q ∷ ls) M) many-are many-are

    second-told : (r : Failed) (words : List ℕ) → SecondTold (nodes_of T₁) L.members L.struck st.members k u r words
        → told (length words) (pr_cause n (makes_true (witness q (q ∷ ls))) (makes_false (witness q (q ∷ ls))) S (clause n (q ∷ ls)))
        ≡ told_of r words
    second-told r words F =
        ap (told (length words))
        (words-cause ∙ pr-cause-is n L₁ st₁ M.held k M.inside M.not-one u.positive u.negative r.member r.rounds words
        F.1)
        ∙ member-told r words
        (fixes 64 (by_not (under_witness u.positive u.negative (diagram_at (nodes_of T₁) (get_or L.members r.member 0)))
        (by_not G (diagrams_of (nodes_of T₁) live))))
        F.1.fixed.rounds-are F.1.fixed.words_are F.0

  try-told : (profile : Bool) (ls : List Literal) → OfVariables n ls → Made n L st T₁ k ls → (r : Failed) (words : List ℕ)
      → TryTold (nodes_of T₁) L.members L.struck st.members k (literals_of ls) (cond profile None (pivot_of ls)) r words
      → told (length words) (clause_cause profile n S ls) ≡ told_of r words
  unfolding clause_cause
  try-told true ls w M r words F = first-told ls M r words F
  try-told false [] w M r words F = first-told [] M r words F
  try-told false (q ∷ ls) w M r words F = second-told q ls w M r words F

-- ---- the code's answers

module _ (L : Lent) (st : State) (c : DratClause) (R : ClauseRefused L st c) (T₁ : Table) (p : Placed)
    (e : outcome_at T₁ p ≡ place_in (table_in L st.count) (clause_of_words c.literals)) where
  abbrev k : ℕ
  k = p.node.0

  placed-so : outcome_at T₁ p ≡ place_in (table_in L st.count) (clause_of_words (literals_of R.literals))
  placed-so = subst (λ (x : DratClause). outcome_at T₁ p ≡ place_in (table_in L st.count) (clause_of_words x.literals)) (sym R.is) e

  is_made : Made R.n L st T₁ k R.literals
  is_made = clause-made R.n L st R.held R.literals R.within T₁ p placed-so R.profile R.peak R.refused

  pub code_apart : shares 64 c.literals.positive c.literals.negative ≡ false
  code_apart =
      subst (λ (x : DratClause). shares 64 x.literals.positive x.literals.negative ≡ false) R.is
      (apart R.n L st R.held R.literals R.within T₁ p placed-so R.profile R.peak R.refused)

  -- THEOREM: the last try fails, as the code makes it.
  pub code-fails : TryFails T₁ (unstruck (take st.members L.struck) (take st.members L.members)) k c.literals c.pivot
  code-fails =
      subst (λ (x : DratClause). TryFails T₁ (unstruck (take st.members L.struck) (take st.members L.members)) k x.literals
      x.pivot) R.is
      (try-fails R.n L st T₁ k R.profile R.literals R.within is_made
      (last-fails R.n L st R.held R.literals R.within T₁ p placed-so R.profile R.peak R.refused))

  -- THEOREM: what the code gives of it is the clause's cause.
  pub code-told : (r : Failed) (words : List ℕ)
      → TryTold (nodes_of T₁) L.members L.struck st.members k c.literals c.pivot r words
      → told (length words) (clause_cause R.profile R.n (state_of L st) R.literals) ≡ told_of r words
  code-told r words F =
      try-told R.n L st R.held T₁ k R.profile R.literals R.within is_made r words
      (subst (λ (x : DratClause). TryTold (nodes_of T₁) L.members L.struck st.members k x.literals x.pivot r words)
      (sym R.is) F)

  -- the clause's nodes dropped
  pub code-undone : (T₂ T₃ : Table) → T₂ ≡ T₁ → T₃ ≡ dropped_to st.count T₂ → T₃ ≡ table_in L st.count
  code-undone T₂ T₃ back d =
      d
      ∙ ap (dropped_to st.count) back
      ∙ undone (table_in L st.count) R.held.entries.good T₁
      (longer (table_in L st.count) (clause_of_words c.literals) (outcome_at T₁ p)
      (grown (table_in L st.count) R.held.entries.good c.literals T₁ p e))
