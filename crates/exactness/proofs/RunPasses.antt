-- In every state that the check reaches its peak is the greatest count that the run passed through. The idea: each command's own greatest
-- count, and the
-- greater of two. Assumes nothing.
use mathlib.Core.Path.{◌≡◌, sym, ap, ◌∙◌, subst}
use mathlib.Core.Logic.{◌⊎◌, inl, inr}
use mathlib.Core.Bool.{Bool, true, false}
use mathlib.Core.List.{List, [], ◌∷◌, map}
use Prim.Native.Nat.{ℕ, ◌≤◌, max}
use native.Mathlib.Omega.{arith}
use native.Mathlib.Decide.{dec_lt}
use lib.ListN.{length}
use Rattle.meaning.specs.Diagram.{Diagram, branch}
use Rattle.meaning.specs.Operations as meaning
use Rattle.table.specs.Nodes.{Node, placed, place}
use Rattle.table.specs.Making.{Room, all, reached, placed_all, line_reach}
use Rattle.table.proofs.Placing.{put-place}
use Rattle.dimacs.specs.Clauses.{formula}
use Rattle.records.specs.declared.Record.{Record}
use Rattle.records.specs.declared.Record.TheVariants.{NodeEntry, Witness, ProofLine, Strike, SetEntry, End, CutShort, UnknownKind}
use Rattle.records.specs.declared.Record.TheVariants.{NoRecord}
use Rattle.commands.specs.declared.Mode.{Mode}
use Rattle.commands.specs.Commands.{Command, recorded, added, struck_out, wrong, finished}
use Rattle.verdict.specs.Steps.{State, emptied, with_entry, entry_node, diagram_in, set_diagram, live_members}
use Rattle.verdict.specs.Clausal.{second_line}
use Rattle.verdict.specs.Taken.{Meant, Taken, line_of}
use Rattle.verdict.specs.ClauseTaken.{first_line, TriesTaken}
use Rattle.verdict.specs.Run.{command_in, CommandTaken, Reached, begins, goes}
use Rattle.verdict.specs.Satisfies.{clauses_of}
use Rattle.verdict.proofs.Standing.{Standing, entry-valued}
use Rattle.verdict.proofs.Ends.{reached-standing}
use Rattle.exactness.specs.Passing.{Passes, LinePasses, Greatest}
use Rattle.exactness.specs.RunPasses.{RecordPasses, TriesPass, CommandPasses, RunPasses}
use Rattle.exactness.proofs.Passing.{placed-peak, line-peak}
use Rattle.exactness.proofs.Nodes.{one_placed, clauses-placed}

-- the greater of two
pub greater : (P Q : ℕ → Type 0) (a b : ℕ) → Greatest P a → Greatest Q b → Greatest (λ k. P k ⊎ Q k) (max a b)
greater P Q a b G H = record { is = here; most = λ j x. most j x }
  where
    here : P (max a b) ⊎ Q (max a b)
    here = elim (dec_lt a b) [
      | yes p ↦ inr (subst Q (let q : b ≡ max a b = omega arith in q) H.is)
      | no p ↦ inl (subst P (let q : a ≡ max a b = omega arith in q) G.is)
    ]

    most : (j : ℕ) → P j ⊎ Q j → j ≤ max a b
    most j (inl p) = omega (arith, G.most j p)
    most j (inr q) = omega (arith, H.most j q)

-- diagrams that are placed
pub all-peak : (s : ℕ) (t : List Node) (Ds : List Diagram) (t₁ : List Node) → placed_all s t Ds ≡ all t₁ →
    Greatest (Passes s t Ds) (length t₁)
all-peak s t Ds t₁ e = subst (Greatest (Passes s t Ds)) (ap (λ (r : Room). (reached r).peak) e) (placed-peak s t Ds)

module _ {s n : ℕ} {m : Meant} {st : State} (S : Standing s n m st) (P : ℕ → Type 0) (G : Greatest P st.peak) where
  entry-peak : (D : Diagram) (t : List Node) (k : ℕ) → place s st.nodes D ≡ placed t k →
      Greatest (λ j. P j ⊎ Passes s st.nodes (D ∷ []) j) (max st.peak (length t))
  entry-peak D t k e = greater P (Passes s st.nodes (D ∷ [])) st.peak (length t) G
      (all-peak s st.nodes (D ∷ []) t (one_placed s st.nodes D t k e))

  record-peak : (r : Record) (st' : State) → Taken n s st r st' → Greatest (RecordPasses P n s st r) st'.peak
  record-peak (NodeEntry b) st' T =
      let low = entry_node st b.low.0 in
      let high = entry_node st b.high.0 in
      let D : Diagram = branch b.variable (diagram_in st low) (diagram_in st high) in
      let is-place : place s st.nodes D ≡ placed T.nodes T.entry =
      sym (put-place s st.nodes S.ordered b.variable low high (entry-valued S b.low.0 T.low).0
      (entry-valued S b.high.0 T.high).0) ∙ T.room in
      subst (λ (x : State). Greatest (RecordPasses P n s st (NodeEntry b)) x.peak) T.is (entry-peak D T.nodes T.entry is-place)
  record-peak (SetEntry kind b) st' T =
      subst (λ (x : State). Greatest (RecordPasses P n s st (SetEntry kind b)) x.peak) T.is
      (entry-peak (set_diagram n kind b) T.nodes T.entry T.room)
  record-peak (ProofLine rule root) st' T =
      let line = line_of n st rule (entry_node st root.0) in
      subst (λ (x : State). Greatest (RecordPasses P n s st (ProofLine rule root)) x.peak) T.is
      (greater P (LinePasses s st.nodes line) st.peak (line_reach s st.nodes line).peak G (line-peak s st.nodes line))
  record-peak (Witness v b) st' T = subst (λ (x : State). Greatest P x.peak) T.is G
  record-peak (Strike k) st' T = subst (λ (x : State). Greatest P x.peak) T.is G
  record-peak End st' T = absurd T
  record-peak CutShort st' T = absurd T
  record-peak UnknownKind st' T = absurd T
  record-peak NoRecord st' T = absurd T

-- the tries of an added clause
tries-peak : (profile : Bool) (n s : ℕ) (st : State) (P : ℕ → Type 0) → Greatest P st.peak →
    (j : ℕ) (ls : List meaning.Literal) (st' : State)
    → (T : TriesTaken profile n s st j ls st') → Greatest (TriesPass P profile n s st j ls st' T) st'.peak
tries-peak profile n s st P G j ls st' (inl J) =
    let line = first_line n st ls in
    subst (λ (x : State). Greatest (λ k. P k ⊎ LinePasses s st.nodes line k) x.peak) J.is
    (greater P (LinePasses s st.nodes line) st.peak (line_reach s st.nodes line).peak G (line-peak s st.nodes line))
tries-peak true n s st P G j ls st' (inr T) = absurd T
tries-peak false n s st P G j [] st' (inr T) = absurd T
tries-peak false n s st P G j (p ∷ ls) st' (inr T) =
    let first = first_line n st (p ∷ ls) in
    let second = second_line n (live_members st) p ls in
    let both = greater P (LinePasses s st.nodes first) st.peak (line_reach s st.nodes first).peak G (line-peak s st.nodes first)
    in
    subst (λ (x : State). Greatest (λ k. (P k ⊎ LinePasses s st.nodes first k) ⊎ LinePasses s st.nodes second k) x.peak)
    T.passes.is
    (greater (λ k. P k ⊎ LinePasses s st.nodes first k) (LinePasses s st.nodes second)
    (max st.peak (line_reach s st.nodes first).peak)
    (line_reach s st.nodes second).peak both (line-peak s st.nodes second))

command-peak : {s n : ℕ} {m : Meant} {st : State} → Standing s n m st → (P : ℕ → Type 0) → Greatest P st.peak
    → (profile : Bool) (c : Command) (st' : State) (T : CommandTaken profile n s st c st') →
    Greatest (CommandPasses P profile n s st c st' T) st'.peak
command-peak S P G profile (recorded r more) st' T = record-peak S P G r st' T.1
command-peak {s} {n} {m} {st} S P G profile (added ls) st' T =
    tries-peak profile n s (with_entry st T.nodes T.node) (λ j. P j ⊎ Passes s st.nodes (meaning.clause n ls ∷ []) j)
    (entry-peak S P G (meaning.clause n ls) T.nodes T.node T.room) T.node ls st' T.tried
command-peak S P G profile (struck_out ls) st' T = subst (λ (x : State). Greatest P x.peak) T.is G
command-peak S P G profile (wrong number offset) st' T = absurd T
command-peak S P G profile finished st' T = absurd T

-- "the check shall report the greatest count reached, dropped nodes included": in every state that the check reaches the peak is reached,
-- and no count that
-- the run passed through is greater.
pub run-peak : {mode : Mode} {s : ℕ} {text proof : List ℕ} {n : ℕ} {st : State} {at : ℕ} {m : Meant}
    (R : Reached mode s text proof n st at m) → Greatest (λ k. RunPasses R k) st.peak
run-peak {mode} {s} {text} {proof} {n} (begins {many} {t} {ms} {fs} M) =
    all-peak s emptied (map (meaning.clause n) (clauses_of (formula text))) t (clauses-placed s text M)
run-peak {mode} {s} {text} {proof} {n} (goes {st} {st'} {at} R T) = command-peak (reached-standing mode s text proof R).1
    (λ j. RunPasses R j) (run-peak R) mode.consequence (command_in mode proof n at) st' T
