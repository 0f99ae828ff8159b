-- The last try of a refused clause, as the code makes it, fails. The idea: its line over 64 variables is that over the header's n, and the
-- words of its witness are its witness. Assumes nothing.
use mathlib.Core.Path.{◌≡◌, refl, sym, ap, ◌∙◌, subst}
use mathlib.Core.Bool.{Bool, true, false, cond}
use mathlib.Core.List.{List, [], ◌∷◌}
use Prim.Native.Nat.{ℕ}
use lib.ListN.{take}
use Rattle.meaning.specs.Operations.{Literal, clause}
use Rattle.meaning.specs.Literals.{OfVariables}
use Rattle.meaning.specs.Rules.{rup, pr}
use Rattle.meaning.specs.Words.{in_word}
use Rattle.words.specs.declared.Literals.{Literals}
use Rattle.words.specs.Sets.{literals_of}
use Rattle.table.specs.Nodes.{Node, diagram_at}
use Rattle.table.specs.Indexed.{Table, nodes_of}
use Rattle.table.specs.Lists.{diagrams_of}
use Rattle.std.specs.Prelude.{Option, None, Some}
use Rattle.dimacs.specs.declared.Literal as code_literal
use Rattle.commands.specs.Inner.{pivot_of}
use Rattle.judge.proofs.Widths.{rup-at, pr-at}
use Rattle.verdict.specs.Steps as check
use Rattle.verdict.specs.Steps.{live_members, unstruck}
use Rattle.verdict.specs.Clausal.{second_line}
use Rattle.state.specs.declared.State.{State}
use Rattle.state.specs.States.{Lent, state_of}
use Rattle.tries.specs.Words.{witness_words}
use Rattle.tries.specs.Tries.{rup_in, pr_in}
use Rattle.tries.proofs.SecondTry.{second-same}
use Rattle.record_causes.proofs.LastTry.{last_line}
use Rattle.tell.specs.Failed.{Unshown}
use Rattle.tell.proofs.Refused.{live_inside}
use Rattle.clause_causes.specs.declared.Failed.{Failed}
use Rattle.clause_causes.specs.Clauses.{TryFails, FirstTold, SecondTold, TryTold}
use Rattle.clause_causes.proofs.Made.{lent_made, state_made, Made}

-- The words of the witness of the clause with the pivot q.
abbrev pub words_of : Literal → List Literal → Literals
words_of q ls = witness_words (literals_of (q ∷ ls)) q.variable q.positive

module _ (n : ℕ) (L : Lent) (st : State) (T₁ : Table) (k : ℕ) where
  abbrev S₁ : check.State
  S₁ = state_of (lent_made L T₁) (state_made st T₁)

  abbrev live : List ℕ
  live = unstruck (take st.members L.struck) (take st.members L.members)

  module _ (ls : List Literal) (M : Made n L st T₁ k ls) where
    rup-is : rup n (live_members S₁) (clause n ls) ≡ rup_in T₁ live k
    rup-is =
        ap (rup n (live_members S₁)) (sym M.is)
        ∙ sym
        (rup-at n M.held.entries.narrow T₁ M.held.entries.good M.held.entries.uses live
        (live_inside n (lent_made L T₁) (state_made st T₁) M.held) k M.inside M.not-one)

    pr-is : (P N : ℕ → Bool) → pr n P N (live_members S₁) (clause n ls)
        ≡ pr 64 P N (diagrams_of (nodes_of T₁) live) (diagram_at (nodes_of T₁) k)
    pr-is P N =
        ap (pr n P N (live_members S₁)) (sym M.is)
        ∙ sym
        (pr-at n M.held.entries.narrow T₁ M.held.entries.good M.held.entries.uses live
        (live_inside n (lent_made L T₁) (state_made st T₁) M.held) k M.inside M.not-one P N)

  second_is : (q : Literal) (ls : List Literal) → OfVariables n (q ∷ ls) → Made n L st T₁ k (q ∷ ls) → second_line n (live_members S₁) q ls
      ≡ pr_in T₁ live k (words_of q ls)
  second_is q ls w M =
      let u = words_of q ls in
      sym (second-same n M.held.entries.narrow q ls w (live_members S₁) u refl)
      ∙ pr-is (q ∷ ls) M (in_word u.positive) (in_word u.negative)

  -- THEOREM: what the code requires of the last try.
  pub try-fails : (profile : Bool) (ls : List Literal) → OfVariables n ls → Made n L st T₁ k ls → Unshown T₁ (last_line profile n S₁ ls)
      → TryFails T₁ live k (literals_of ls) (cond profile None (pivot_of ls))
  try-fails true ls w M U = subst (Unshown T₁) (rup-is ls M) U
  try-fails false [] w M U = subst (Unshown T₁) (rup-is [] M) U
  try-fails false (q ∷ ls) w M U = subst (Unshown T₁) (second_is q ls w M) U

-- ---- the code's answers, by the pivot

module _ (t : Table) (alive : List ℕ) (g : ℕ) (u : Literals) (pivot : Option code_literal.Literal) where
  pub first-fails : pivot ≡ None → TryFails t alive g u pivot → Unshown t (rup_in t alive g)
  first-fails e F = subst (TryFails t alive g u) e F

  pub second-fails : (l : code_literal.Literal) → pivot ≡ Some l → (w : Literals) → w ≡ witness_words u l.variable l.positive → TryFails t alive g u pivot
      → Unshown t (pr_in t alive g w)
  second-fails l e w is F = subst (λ (x : Literals). Unshown t (pr_in t alive g x)) (sym is) (subst (TryFails t alive g u) e F)

module _ (t : List Node) (members struck : List ℕ) (many g : ℕ) (u : Literals) (pivot : Option code_literal.Literal) (r : Failed) (words : List ℕ) where
  pub first-answer : pivot ≡ None → FirstTold t (unstruck (take many struck) (take many members)) g r words
      → TryTold t members struck many g u pivot r words
  first-answer e F = subst (λ (q : Option code_literal.Literal). TryTold t members struck many g u q r words) (sym e) F

  pub second-answer : (l : code_literal.Literal) → pivot ≡ Some l → (w : Literals) → w ≡ witness_words u l.variable l.positive
      → SecondTold t members struck many g w r words → TryTold t members struck many g u pivot r words
  second-answer l e w is F =
      subst (λ (q : Option code_literal.Literal). TryTold t members struck many g u q r words) (sym e)
      (subst (λ (x : Literals). SecondTold t members struck many g x r words) is F)
