-- The lines and rounds that the check says are those of the lines that it took. The idea: by the commands taken. Assumes nothing.
use mathlib.Core.Path.{◌≡◌, refl, sym, ap, ◌∙◌}
use mathlib.Core.Logic.{inl, inr}
use mathlib.Core.Bool.{Bool, true, false}
use mathlib.Core.List.{List, [], ◌∷◌}
use Prim.Native.Nat.{ℕ, ◌+◌}
use native.Mathlib.Omega.{arith}
use lib.ListN.{length}
use Rattle.meaning.specs.Operations as meaning
use Rattle.records.specs.declared.Record.{Record}
use Rattle.records.specs.declared.Record.TheVariants.{NodeEntry, Witness, ProofLine, Strike, SetEntry, End, CutShort, UnknownKind}
use Rattle.records.specs.declared.Record.TheVariants.{NoRecord}
use Rattle.commands.specs.declared.Mode.{Mode}
use Rattle.commands.specs.Commands.{Command, recorded, added, struck_out, wrong, finished}
use Rattle.verdict.specs.Steps.{State, Step, next, stop, spent, with_entry}
use Rattle.verdict.specs.Check.{step, Verdict, CheckOutcome, outcome, left}
use Rattle.verdict.specs.Taken.{Meant, Taken}
use Rattle.verdict.specs.ClauseTaken.{TriesTaken}
use Rattle.verdict.specs.Run.{command_in, CommandTaken, Reached, begins, goes, Ended, stopped, tried}
use Rattle.demands.specs.Leaving.{Handed, checked, Fits, places, at_place, EndsWith, AtEnd}
use Rattle.demands.proofs.Ending.{check-exactly}
use Rattle.exactness.specs.Counted.{record_lines, record_rounds, tries_rounds, command_lines, command_rounds, run_lines, run_rounds}

module _ (n s : ℕ) (st : State) where
  record-lines : (r : Record) (st' : State) → Taken n s st r st' → st'.lines ≡ st.lines + record_lines r
  record-lines (NodeEntry b) st' T = omega (arith, ap (λ (x : State). x.lines) T.is)
  record-lines (Witness v b) st' T = omega (arith, ap (λ (x : State). x.lines) T.is)
  record-lines (ProofLine rule root) st' T = omega (arith, ap (λ (x : State). x.lines) T.is)
  record-lines (Strike k) st' T = omega (arith, ap (λ (x : State). x.lines) T.is)
  record-lines (SetEntry kind b) st' T = omega (arith, ap (λ (x : State). x.lines) T.is)
  record-lines End st' T = absurd T
  record-lines CutShort st' T = absurd T
  record-lines UnknownKind st' T = absurd T
  record-lines NoRecord st' T = absurd T

  record-rounds : (r : Record) (st' : State) → Taken n s st r st' → st'.rounds ≡ st.rounds + record_rounds n st r
  record-rounds (NodeEntry b) st' T = omega (arith, ap (λ (x : State). x.rounds) T.is)
  record-rounds (Witness v b) st' T = omega (arith, ap (λ (x : State). x.rounds) T.is)
  record-rounds (ProofLine rule root) st' T = sym (ap (λ (x : State). x.rounds) T.is)
  record-rounds (Strike k) st' T = omega (arith, ap (λ (x : State). x.rounds) T.is)
  record-rounds (SetEntry kind b) st' T = omega (arith, ap (λ (x : State). x.rounds) T.is)
  record-rounds End st' T = absurd T
  record-rounds CutShort st' T = absurd T
  record-rounds UnknownKind st' T = absurd T
  record-rounds NoRecord st' T = absurd T

  tries-lines : (profile : Bool) (k : ℕ) (ls : List meaning.Literal) (st' : State) → TriesTaken profile n s st k ls st' → st'.lines
      ≡ st.lines + 1
  tries-lines profile k ls st' (inl J) = omega (arith, ap (λ (x : State). x.lines) J.is)
  tries-lines true k ls st' (inr T) = absurd T
  tries-lines false k [] st' (inr T) = absurd T
  tries-lines false k (p ∷ ls) st' (inr T) = omega (arith, ap (λ (x : State). x.lines) T.passes.is)

  tries-rounds : (profile : Bool) (k : ℕ) (ls : List meaning.Literal) (st' : State) (T : TriesTaken profile n s st k ls st')
      → st'.rounds ≡ st.rounds + tries_rounds profile n s st k ls st' T
  tries-rounds profile k ls st' (inl J) = sym (ap (λ (x : State). x.rounds) J.is)
  tries-rounds true k ls st' (inr T) = absurd T
  tries-rounds false k [] st' (inr T) = absurd T
  tries-rounds false k (p ∷ ls) st' (inr T) = sym (ap (λ (x : State). x.rounds) T.passes.is)

module _ (profile : Bool) (n s : ℕ) (st : State) where
  command-lines : (c : Command) (st' : State) → CommandTaken profile n s st c st' → st'.lines ≡ st.lines + command_lines c
  command-lines (recorded r more) st' T = record-lines n s st r st' T.1
  command-lines (added ls) st' T = tries-lines n s (with_entry st T.nodes T.node) profile T.node ls st' T.tried
  command-lines (struck_out ls) st' T = omega (arith, ap (λ (x : State). x.lines) T.is)
  command-lines (wrong number offset) st' T = absurd T
  command-lines finished st' T = absurd T

  command-rounds : (c : Command) (st' : State) (T : CommandTaken profile n s st c st')
      → st'.rounds ≡ st.rounds + command_rounds profile n s st c st' T
  command-rounds (recorded r more) st' T = record-rounds n s st r st' T.1
  command-rounds (added ls) st' T = tries-rounds n s (with_entry st T.nodes T.node) profile T.node ls st' T.tried
  command-rounds (struck_out ls) st' T = omega (arith, ap (λ (x : State). x.rounds) T.is)
  command-rounds (wrong number offset) st' T = absurd T
  command-rounds finished st' T = absurd T

-- In every state that the check reaches.
pub lines_are : {mode : Mode} {s : ℕ} {text proof : List ℕ} {n : ℕ} {st : State} {at : ℕ} {m : Meant}
    (R : Reached mode s text proof n st at m) → st.lines ≡ run_lines R
lines_are (begins M) = refl
lines_are {mode} {s} {text} {proof} {n} (goes {st} {st'} {at} R T) = omega
    (arith, lines_are R, command-lines mode.consequence n s st (command_in mode proof n at) st' T)

pub rounds-are : {mode : Mode} {s : ℕ} {text proof : List ℕ} {n : ℕ} {st : State} {at : ℕ} {m : Meant}
    (R : Reached mode s text proof n st at m) → st.rounds ≡ run_rounds R
rounds-are (begins M) = refl
rounds-are {mode} {s} {text} {proof} {n} (goes {st} {st'} {at} R T) =
    command-rounds mode.consequence n s st (command_in mode proof n at) st' T
    ∙ ap (λ (x : ℕ). x + command_rounds mode.consequence n s st (command_in mode proof n at) st' T) (rounds-are R)

-- ---- of the call

module _ (i : Handed) (fits : Fits i) (E : AtEnd i (checked i)) where
  abbrev here : Command
  here = command_in i.mode i.proof E.n E.at

  -- the call counts what the state counts in which it ends
  state-counts : ((checked i).lines ≡ E.state.lines) × ((checked i).rounds ≡ E.state.rounds)
  unfolding outcome
  state-counts = go (step i.mode.consequence E.n (places i) E.state here) refl E.says
    where
      is : (v : Verdict) → Ended i.mode (places i) i.text i.proof v → checked i
          ≡ outcome (places i) (length i.members) (length i.scratch) v
      is v D = (check-exactly i (outcome (places i) (length i.members) (length i.scratch) v)).1 (at_place fits D)

      go : (x : Step) → step i.mode.consequence E.n (places i) E.state here ≡ x → EndsWith x (checked i).number E.offset
          → ((checked i).lines ≡ E.state.lines) × ((checked i).rounds ≡ E.state.rounds)
      go (next st) e says = absurd says
      go (stop k o) e says = let q = is (left k (E.at + o) E.state.peak E.state) (stopped E.reached e) in
          (ap (λ (o : CheckOutcome). o.lines) q, ap (λ (o : CheckOutcome). o.rounds) q)
      go (spent k peak) e says = let q = is (left k E.at peak E.state) (tried E.reached e) in
          (ap (λ (o : CheckOutcome). o.lines) q, ap (λ (o : CheckOutcome). o.rounds) q)

  -- "It gives [..] the accepted lines, their rounds": of the run that `check-place` gives, all commands before the place taken.
  pub check-lines : (checked i).lines ≡ run_lines E.reached
  check-lines = state-counts.0 ∙ lines_are E.reached

  pub check-rounds : (checked i).rounds ≡ run_rounds E.reached
  check-rounds = state-counts.1 ∙ rounds-are E.reached
