-- What the two tries of a clause say is what the definition says of it. The idea: its lines at 64 variables are those at the header's n,
-- and the words of its witness are its witness. Assumes nothing.
use Rattle.profile.specs.Admitted.{tried_as}
use mathlib.Core.Path.{◌≡◌, refl, sym, ap, ◌∙◌, subst}
use mathlib.Core.Bool.{Bool, true, false, not, ◌||◌, cond}
use mathlib.Core.List.{List, [], ◌∷◌}
use Prim.Native.Nat.{ℕ, ◌≤◌, ◌<◌, max}
use native.Mathlib.Omega.{arith}
use lib.ListN.{length, take}
use Rattle.meaning.specs.Operations.{Literal, clause}
use Rattle.meaning.specs.Rules.{Line, rup, pr}
use Rattle.meaning.specs.Words.{in_word}
use Rattle.meaning.proofs.Booleans.{t≢f}
use Rattle.meaning.specs.Literals.{OfVariables}
use Rattle.words.specs.declared.Literals.{Literals}
use Rattle.words.specs.Sets.{literals_of}
use Rattle.table.specs.Nodes.{Node, diagram_at}
use Rattle.table.specs.Indexed.{Table, size, nodes_of}
use Rattle.table.specs.Making.{reach, line_reach}
use Rattle.table.specs.Lists.{Inside, diagrams_of}
use Rattle.table.specs.declared.Placed.{Placed}
use Rattle.std.specs.Prelude.{Option, None, Some}
use Rattle.dimacs.specs.declared.Literal as code_literal
use Rattle.commands.specs.declared.DratClause.{DratClause}
use Rattle.commands.specs.Inner.{clause_words}
use Rattle.judge.specs.declared.Judged.{Judged}
use Rattle.judge.specs.Lines.{Negatable}
use Rattle.judge.proofs.Widths.{rup-at, pr-at}
use Rattle.verdict.specs.Steps as check
use Rattle.verdict.specs.Steps.{next, spent, judged, live_members}
use Rattle.verdict.specs.Clausal.{with_peak, judged_or, second_try, after_first as on_failing, tries}
use Rattle.state.specs.declared.State.{State}
use Rattle.state.specs.States.{Lent, table_in, state_of, Held}
use Rattle.steps.specs.Tried.{Tried, accepted_by, said_by}
use Rattle.steps.proofs.Lines.{judged-said}
use Rattle.steps.proofs.Strikings.{unstruck-inside}
use Rattle.paths.specs.Rounds.{most_rounds}
use Rattle.tries.specs.Words.{witness_words}
use Rattle.tries.specs.Tries.{live_in, rup_in, pr_in, untried, SecondTried, decided, after_first, BothTried, no_room, once, twice}
use Rattle.tries.proofs.SecondTry.{second-same}

-- ---- the first try

module _ (T : Table) (S : check.State) (same : S.nodes ≡ nodes_of T) (otherwise : ℕ → check.Step) (g : ℕ) (line : Line) (j : Judged)
    (W : Tried T line j) where
  abbrev peak : ℕ
  peak = max S.peak j.peak

  reaches : line_reach (size T) S.nodes line ≡ reach (not j.full) j.peak
  reaches = ap (λ (t : List Node). line_reach (size T) t line) same ∙ W.reaches

  or-decided : decided j ≡ true → judged_or otherwise (size T) S g line ≡ said_by S g j
  unfolding judged_or
  or-decided d = go j.full j.shown refl refl d reaches
    where
      go : (full shown : Bool) → j.full ≡ full → j.shown ≡ shown → (full || shown) ≡ true → line_reach (size T) S.nodes line
          ≡ reach (not full) j.peak
          → judged_or otherwise (size T) S g line ≡ cond full (spent 23 peak)
          (cond (not shown) (spent 19 peak) (next (accepted_by S g j.rounds peak)))
      go true shown f e d at = rw at
      go false true f e d at = rw (at, sym (W.shown f) ∙ e, W.rounds f)
      go false false f e d at = t≢f (sym d)

  or-failed : decided j ≡ false → judged_or otherwise (size T) S g line ≡ otherwise peak
  unfolding judged_or
  or-failed d = go j.full j.shown refl refl d reaches
    where
      go : (full shown : Bool) → j.full ≡ full → j.shown ≡ shown → (full || shown) ≡ false → line_reach (size T) S.nodes line
          ≡ reach (not full) j.peak
          → judged_or otherwise (size T) S g line ≡ otherwise peak
      go true shown f e d at = t≢f d
      go false true f e d at = t≢f d
      go false false f e d at = rw (at, sym (W.shown f) ∙ e)

-- ---- both

max-zero : (a : ℕ) → a ≡ max a 0
max-zero a = omega arith

max-grouped : (a b c : ℕ) → max (max a b) c ≡ max a (max b c)
max-grouped a b c = omega arith

joined : (S : check.State) (k : ℕ) (j r : Judged) → said_by (with_peak S (max S.peak j.peak)) k r ≡ said_by S k (after_first j r)
joined S k j r =
    ap (λ (p : ℕ). cond r.full (spent 23 p) (cond (not r.shown) (spent 19 p) (next (accepted_by S k r.rounds p))))
    (max-grouped S.peak j.peak r.peak)

module _ (n : ℕ) (L : Lent) (st : State) (H : Held n L st) (k : ℕ) (k-in : k < st.count) (k-one : k ≡ 1 → ⊥) where
  abbrev T : Table
  T = table_in L st.count

  abbrev S : check.State
  S = state_of L st

  abbrev live : List ℕ
  live = live_in L.members L.struck st

  live_inside : Inside st.count live
  live_inside = unstruck-inside st.count (take st.members L.struck) (take st.members L.members)
      (λ i p. let b : _ < st.kept = H.inside i p in omega (arith, H.kept))

  module _ (ls : List Literal) (is : diagram_at (nodes_of T) k ≡ clause n ls) where
    rup-is : rup n (live_members S) (clause n ls) ≡ rup_in T live k
    rup-is = ap (rup n (live_members S)) (sym is) ∙ sym
        (rup-at n H.entries.narrow T H.entries.good H.entries.uses live live_inside k k-in k-one)

    pr-is : (P N : ℕ → Bool) → pr n P N (live_members S) (clause n ls) ≡ pr 64 P N (diagrams_of (nodes_of T) live)
        (diagram_at (nodes_of T) k)
    pr-is P N = ap (pr n P N (live_members S)) (sym is) ∙ sym
        (pr-at n H.entries.narrow T H.entries.good H.entries.uses live live_inside k k-in k-one P N)

  second-said : (profile : Bool) (ls : List Literal) → OfVariables n ls → diagram_at (nodes_of T) k ≡ clause n ls → (p₁ : ℕ) (r : Judged)
      → SecondTried T live k (literals_of ls) (tried_as profile (clause_words ls)).pivot r → on_failing profile n (size T) S k ls p₁
      ≡ said_by (with_peak S p₁) k r
  unfolding on_failing second_try
  second-said true ls w is p₁ r Q = ap (spent 19) (max-zero p₁) ∙ ap (said_by (with_peak S p₁) k) (sym Q)
  second-said false [] w is p₁ r Q = ap (spent 19) (max-zero p₁) ∙ ap (said_by (with_peak S p₁) k) (sym Q)
  second-said false (p ∷ ls) w is p₁ r Q =
      let words = witness_words (literals_of (p ∷ ls)) p.variable p.positive in
      ap (judged (size T) (with_peak S p₁) k)
      (sym (second-same n H.entries.narrow p ls w (live_members S) words refl)
      ∙ pr-is (p ∷ ls) is (in_word words.positive) (in_word words.negative))
      ∙ judged-said T (with_peak S p₁) refl k (pr_in T live k words) r Q

  -- THEOREM: what both tries say is what the definition says.
  pub tries-said : (profile : Bool) (ls : List Literal) → OfVariables n ls → diagram_at (nodes_of T) k ≡ clause n ls → (made : Placed) →
      made.node.0 ≡ k → made.full ≡ false
      → (j : Judged) → BothTried T live (tried_as profile (clause_words ls)) made j → tries profile n (size T) S k ls ≡ said_by S k j
  unfolding tries
  tries-said profile ls w is made at f j (no_room g) = t≢f (sym g ∙ f)
  tries-said profile ls w is made at f j (once r g W d) =
      ap (judged_or (on_failing profile n (size T) S k ls) (size T) S k) (rup-is ls is)
      ∙ or-decided T S refl (on_failing profile n (size T) S k ls) k (rup_in T live k) r
      (subst (λ (x : ℕ). Tried T (rup_in T live x) r) at W)
      d
  tries-said profile ls w is made at f j (twice i r g W d Q) =
      ap (judged_or (on_failing profile n (size T) S k ls) (size T) S k) (rup-is ls is)
      ∙ or-failed T S refl (on_failing profile n (size T) S k ls) k (rup_in T live k) i
      (subst (λ (x : ℕ). Tried T (rup_in T live x) i) at W) d
      ∙ second-said profile ls w is (max S.peak i.peak) r
      (subst (λ (x : ℕ). SecondTried T live x (literals_of ls) (tried_as profile (clause_words ls)).pivot r) at Q)
      ∙ joined S k i r

-- ---- the code's answers

second-most : (t : Table) (live : List ℕ) (g : ℕ) (u : Literals) (pivot : Option code_literal.Literal) (r : Judged) → SecondTried t live g u pivot r →
    r.rounds ≤ most_rounds
second-most t live g u None r e = let z : r.rounds ≡ 0 = ap (λ (x : Judged). x.rounds) e in omega arith
second-most t live g u (Some l) r W = W.most

module _ (t : Table) (live : List ℕ) where
  pub second-tried : (g : ℕ) (u : Literals) (pivot : Option code_literal.Literal) (l : code_literal.Literal) → pivot ≡ Some l → (w : Literals) → w
      ≡ witness_words u l.variable l.positive → (r : Judged)
      → Tried t (pr_in t live g w) r → SecondTried t live g u pivot r
  second-tried g u pivot l e w is r W = subst (λ (q : Option code_literal.Literal). SecondTried t live g u q r) (sym e)
      (subst (λ (x : Literals). Tried t (pr_in t live g x) r) is W)

  pub second_none : (g : ℕ) (u : Literals) (pivot : Option code_literal.Literal) → pivot ≡ None → SecondTried t live g u pivot (untried false)
  second_none g u pivot e = subst (λ (q : Option code_literal.Literal). SecondTried t live g u q (untried false)) (sym e) refl

  pub both_most : (c : DratClause) (made : Placed) (r : Judged) → BothTried t live c made r → r.rounds ≤ most_rounds
  both_most c made r (no_room f) = omega arith
  both_most c made r (once i f W d) = W.most
  both_most c made r (twice i k f W d Q) = second-most t live made.node.0 c.literals c.pivot k Q

  -- the second try over the table that the first left
  pub both-twice : (c : DratClause) (made : Placed) (j r : Judged) → made.full ≡ false → Tried t (rup_in t live made.node.0) j →
      decided j ≡ false
      → (t₁ : Table) → t₁ ≡ t → SecondTried t₁ live made.node.0 c.literals c.pivot r → (peak : ℕ) → peak ≡ max j.peak r.peak
      → BothTried t live c made (record { full = r.full; shown = r.shown; rounds = r.rounds; count = r.count; peak = peak })
  both-twice c made j r f W d t₁ back Q peak e =
      subst (λ (x : ℕ). BothTried t live c made
      (record { full = r.full; shown = r.shown; rounds = r.rounds; count = r.count; peak = x })) (sym e)
      (twice j r f W d (subst (λ (x : Table). SecondTried x live made.node.0 c.literals c.pivot r) back Q))

-- what a try asks is there again after another
pub again : (t t₁ : Table) (members memo memo₁ : List ℕ) (g : ℕ) → t₁ ≡ t → length memo₁ ≡ length memo → Negatable t members memo g →
    Negatable t₁ members memo₁ g
again t t₁ members memo memo₁ g back len R = subst (λ (x : Table). Negatable x members memo₁ g) (sym back) (record {
  ready = record { good = R.ready.good; inside = R.ready.inside; room = omega (arith, R.ready.room, len) };
  inside = R.inside;
  not-one = R.not-one;
})
