-- Every clause's, entry's and accepted line's node has the value of what it stands for, from its making until it is dropped: in every state
-- that the check reaches, though the proof be refused later. The idea: that is what holds in every reached state, and steps extend the
-- nodes. Assumes nothing.
use mathlib.Core.Path.{◌≡◌, sym, ap, ◌∙◌}
use mathlib.Core.Bool.{true, false}
use mathlib.Core.List.{List, map, append-nil}
use Prim.Native.Nat.{ℕ, ◌≤◌, ◌<◌}
use lib.ListN.{length, get_or, take}
use Rattle.meaning.specs.Diagram.{Assignment, Diagram, value}
use Rattle.meaning.specs.Operations as meaning
use Rattle.table.specs.Nodes.{Node, diagram_at}
use Rattle.table.proofs.Growth.{Extends, extends-same, extends-trans, diagram_at-grown}
use Rattle.dimacs.specs.Clauses.{Reading, complete, formula}
use Rattle.commands.specs.declared.Mode.{Mode}
use Rattle.commands.specs.Commands.{Command}
use Rattle.verdict.specs.Steps.{State, is_entry, entry_node}
use Rattle.verdict.specs.Taken.{Function, Meant, entry_meant, Valued}
use Rattle.verdict.specs.Run.{Making, command_in, after_command, Reached, Later, here, after}
use Rattle.verdict.specs.Satisfies.{clauses_of}
use Rattle.verdict.proofs.Standing.{Standing, valued-dropped, valued-at, entry-valued}
use Rattle.verdict.proofs.Clauses.{underway}
use Rattle.verdict.proofs.Ends.{reached-in, reached-standing}
use Rattle.verdict.proofs.Commands.{Fit, command-fit, command-goes, step-standing, step-extends}

module _ (s : ℕ) (text : List ℕ) where
  -- ---- clauses

  -- While clauses are made, each that is made has its clause's value, under every assignment.
  pub clause-values : {n many : ℕ} {t : List Node} {ms : List ℕ} {fs : List Function} {r : Reading} → Making s text n many t ms fs r →
      Valued t (length t) ms fs
  clause-values {n} {many} M = (underway s text n many M).standing.members

  -- When all are made, the members are the formula's clauses, by place.
  pub clause-members : {n many : ℕ} {t : List Node} {ms : List ℕ} {fs : List Function} → Making s text n many t ms fs complete
      → fs ≡ map meaning.clause_value (clauses_of (formula text))
  unfolding clauses_of
  clause-members {n} {many} {t} {ms} {fs} M = sym (append-nil fs) ∙ (underway s text n many M).clauses

  module _ (mode : Mode) (proof : List ℕ) where
    -- ---- reached states

    module _ {n : ℕ} {st : State} {at : ℕ} {m : Meant} (R : Reached mode s text proof n st at m) where
      stands : Standing s n m st
      stands = (reached-standing mode s text proof R).1

      -- The node of member i has the value of what it stands for: a clause, or the root of an accepted line.
      pub member-value : (i : ℕ) → i < length st.members → (a : Assignment)
          → value (diagram_at st.nodes (get_or st.members i 0)) a ≡ get_or m.members i (λ a. false) a
      member-value i p a = (valued-at st.nodes st.kept st.members m.members stands.members i p (λ a. false)).1 a

      -- The node of entry e, the constants 0 and 1 among them, has the value of the entry.
      pub entry_value : (e : ℕ) → is_entry st e ≡ true → (a : Assignment) → value (diagram_at st.nodes (entry_node st e)) a
          ≡ entry_meant m e a
      entry_value e there a = (entry-valued stands e there).1 a

      -- In the nodes that are left the members keep their values.
      pub left-value : (i : ℕ) → i < length st.members → (a : Assignment)
          → value (diagram_at (take st.kept st.nodes) (get_or st.members i 0)) a ≡ get_or m.members i (λ a. false) a
      left-value i p a =
          (valued-at (take st.kept st.nodes) st.kept st.members m.members
          (valued-dropped st.nodes st.kept stands.ordered stands.least stands.kept st.members m.members
          stands.members) i p (λ a. false)).1 a

      -- Numbers of the table keep their diagrams in every state reached later.
      later-standing : {st' : State} {at' : ℕ} → Later mode s proof n st at st' at' → ((m' : Meant) × Standing s n m' st')
          × Extends st.nodes st'.nodes × (at' ≤ length proof)
      later-standing here = ((m, stands), extends-same st.nodes, reached-in mode s text proof R)
      later-standing (after {st₁} {st₂} {at₁} L T) =
          let ((m₁, S₁), E, within) = later-standing L in
          let narrow : n ≤ 64 = (reached-standing mode s text proof R).0 in
          let c : Command = command_in mode proof n at₁ in
          let fit : Fit mode.form n c = command-fit mode.form proof n at₁ within in (
            (after_command m₁ c, step-standing S₁ narrow mode.consequence mode.form c fit st₂ T),
            extends-trans st.nodes st₁.nodes st₂.nodes E (step-extends S₁ narrow mode.consequence mode.form c fit st₂ T),
            (command-goes mode.consequence mode.form proof n s st₁ st₂ at₁ within T).1,
          )

      pub number-kept : {st' : State} {at' : ℕ} → Later mode s proof n st at st' at' → (k : ℕ) → k < length st.nodes →
          diagram_at st'.nodes k ≡ diagram_at st.nodes k
      number-kept {st'} L k p = diagram_at-grown st.nodes st'.nodes stands.ordered (later-standing L).1 k p

      -- "an entry's node [has its value] from its making until it is dropped": in every state reached later.
      pub entry_kept : {st' : State} {at' : ℕ} → Later mode s proof n st at st' at' → (e : ℕ) → is_entry st e ≡ true → (a : Assignment)
          → value (diagram_at st'.nodes (entry_node st e)) a ≡ entry_meant m e a
      entry_kept L e there a =
          let (inside, is) = entry-valued stands e there in
          ap (λ (D : Diagram). value D a) (number-kept L (entry_node st e) inside) ∙ is a
