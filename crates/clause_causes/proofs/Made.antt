-- A refused clause's diagram made again: the state with its nodes is held, and its last try fails over them. The idea: the refusal says
-- that there was room. Assumes nothing.
use mathlib.Core.Path.{◌≡◌, refl, sym, ap, ◌∙◌, subst}
use mathlib.Core.Bool.{Bool, true, false}
use mathlib.Core.List.{List, [], ◌∷◌}
use Prim.Native.Nat.{ℕ, suc, ◌<◌}
use native.Mathlib.Omega.{arith}
use lib.Dec.{leb}
use Rattle.meaning.specs.Diagram.{leaf, same}
use Rattle.meaning.specs.Reduced.{Reduced}
use Rattle.meaning.specs.Operations.{Literal, clause}
use Rattle.meaning.specs.Literals.{OfVariables}
use Rattle.meaning.proofs.Booleans.{t≢f}
use Rattle.meaning.proofs.Units.{eq-same}
use Rattle.meaning.proofs.Pointwise.{clause-reduced}
use Rattle.words.specs.declared.Literals.{Literals}
use Rattle.words.specs.Sets.{shares, literals_of}
use Rattle.table.specs.Nodes.{Node, diagram_at, placed, place}
use Rattle.table.specs.Indexed.{Table, size, nodes_of, Outcome, written}
use Rattle.table.specs.declared.Placed.{Placed}
use Rattle.table.proofs.Numbers.{UsesTo, diagram_at-one}
use Rattle.table.proofs.Written.{nodes-indexed}
use Rattle.table.proofs.Outcomes.{place_in, Grown}
use Rattle.clause.specs.Words.{clause_of_words}
use Rattle.clause.proofs.Diagrams.{both-signs, not-one}
use Rattle.clause.proofs.Literals.{clause-of-words}
use Rattle.verdict.specs.Steps as check
use Rattle.verdict.specs.Steps.{with_entry, spent}
use Rattle.verdict.specs.Clausal.{add_step}
use Rattle.verdict.proofs.Steps.{past-early}
use Rattle.verdict.proofs.Uses.{place-uses, uses-written}
use Rattle.state.specs.declared.State.{State}
use Rattle.state.specs.States.{Lent, table_in, state_of, Held}
use Rattle.entries.proofs.Entering.{lent_with}
use Rattle.tries.specs.Tries.{with_nodes}
use Rattle.tries.proofs.Adding.{outcome_at, grown}
use Rattle.record_causes.proofs.LastTry.{last_line, Fails, LastTry, refused-clause}
use Rattle.tell.specs.Failed.{Unshown}

-- The lists and the state with the clause's nodes.
abbrev pub lent_made : Lent → Table → Lent
lent_made L T₁ = lent_with T₁ L.members L.scratch L.struck

abbrev pub state_made : State → Table → State
state_made st T₁ = with_nodes st T₁.count

-- In the table T₁ node k is the clause's, and the nodes of the table lent are as they were.
pub record Made (n : ℕ) (L : Lent) (st : State) (T₁ : Table) (k : ℕ) (ls : List Literal) : Type 0 where
  pub held : Held n (lent_made L T₁) (state_made st T₁)
  pub is : diagram_at (nodes_of T₁) k ≡ clause n ls
  pub inside : k < T₁.count
  pub not-one : k ≡ 1 → ⊥
  pub kept : (j : ℕ) → j < st.count → diagram_at (nodes_of T₁) j ≡ diagram_at (nodes_of (table_in L st.count)) j

module _ (n : ℕ) (L : Lent) (st : State) (H : Held n L st) (ls : List Literal) (within : OfVariables n ls) (T₁ : Table) (p : Placed)
    (e : outcome_at T₁ p ≡ place_in (table_in L st.count) (clause_of_words (literals_of ls))) where
  abbrev T₀ : Table
  T₀ = table_in L st.count

  abbrev S : check.State
  S = state_of L st

  abbrev u : Literals
  u = literals_of ls

  abbrev k : ℕ
  k = p.node.0

  words-is : clause_of_words u ≡ clause n ls
  words-is = clause-of-words n H.entries.narrow ls within

  W : Grown T₀ (clause_of_words u) (outcome_at T₁ p)
  W = grown T₀ H.entries.good u T₁ p e

  uses : UsesTo n (nodes_of T₁)
  uses =
      subst (λ (x : Outcome). UsesTo n (nodes_of x.table)) (sym e)
      (uses-written n (size T₀) (place (size T₀) (nodes_of T₀) (clause_of_words u))
      (place-uses n (size T₀) (nodes_of T₀) (clause_of_words u) H.entries.uses
      (subst (Reduced 1 (suc n)) (sym words-is) (clause-reduced n ls))))

  held : Held n (lent_made L T₁) (state_made st T₁)
  held = record {
    entries = record {
      good = W.good;
      uses = uses;
      inside = λ i q. let b : _ < st.count = H.entries.inside i q in omega (arith, W.more);
      few = H.entries.few;
      room = H.entries.room;
      narrow = H.entries.narrow;
    };
    least = H.least;
    kept = omega (arith, H.kept, W.more);
    inside = H.inside;
    rest = H.rest;
    many = H.many;
    lines = H.lines;
    room = H.room;
    marked = H.marked;
    unmarked = H.unmarked;
    rounds = H.rounds;
  }

  -- ---- the clause is refused with 19

  module _ (profile : Bool) (peak : ℕ) (refused : add_step profile n (size T₀) S ls ≡ spent 19 peak) where
    different : same (clause n ls) (leaf true) ≡ false
    unfolding add_step
    different =
        let (_, after) = past-early (leb 1024 st.lines) 22 0 _ refused in
        let (other, _) = past-early (same (clause n ls) (leaf true)) 17 0 _ after in other

    pub apart : shares 64 u.positive u.negative ≡ false
    apart = go (shares 64 u.positive u.negative) refl
      where
        go : (b : Bool) → shares 64 u.positive u.negative ≡ b → b ≡ false
        go true h = t≢f (sym (eq-same (clause n ls) (leaf true) (sym words-is ∙ both-signs u h)) ∙ different)
        go false h = refl

    last : LastTry profile n (size T₀) S ls
    last = refused-clause (size T₀) peak n profile S ls refused

    placed-so : outcome_at T₁ p ≡ written (size T₀) (placed last.nodes last.node)
    placed-so = e ∙ ap (place_in T₀) words-is ∙ ap (written (size T₀)) last.room

    roomy : p.full ≡ false
    unfolding written
    roomy = ap (λ (o : Outcome). o.full) placed-so

    nodes-are : nodes_of T₁ ≡ last.nodes
    unfolding written
    nodes-are = ap (λ (o : Outcome). nodes_of o.table) placed-so ∙ nodes-indexed (size T₀) last.nodes

    pub clause-made : Made n L st T₁ k ls
    clause-made = record {
      held = held;
      is = W.is roomy ∙ words-is;
      inside = W.inside;
      not-one = λ q. not-one u apart (sym (W.is roomy) ∙ ap (diagram_at (nodes_of T₁)) q ∙ diagram_at-one (nodes_of T₁));
      kept = W.kept;
    }

    fails-there : Fails (size T₁) (nodes_of T₁) (last_line profile n (with_entry S (nodes_of T₁) last.node) ls)
    fails-there =
        subst (λ (s : ℕ). Fails s (nodes_of T₁) (last_line profile n (with_entry S (nodes_of T₁) last.node) ls)) (sym W.same_size)
        (subst (λ (t : List Node). Fails (size T₀) t (last_line profile n (with_entry S t last.node) ls)) (sym nodes-are) last.fails)

    -- THEOREM: the last try fails in the state with the clause's nodes.
    pub last-fails : Unshown T₁ (last_line profile n (state_of (lent_made L T₁) (state_made st T₁)) ls)
    last-fails = go profile ls last.node fails-there
      where
        go : (b : Bool) (cs : List Literal) (m : ℕ) → Fails (size T₁) (nodes_of T₁) (last_line b n (with_entry S (nodes_of T₁) m) cs) →
            Unshown T₁ (last_line b n (state_of (lent_made L T₁) (state_made st T₁)) cs)
        go true cs m F = record { fits = F.0; unshown = F.1 }
        go false [] m F = record { fits = F.0; unshown = F.1 }
        go false (c ∷ cs) m F = record { fits = F.0; unshown = F.1 }
