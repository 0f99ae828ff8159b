-- From a reached state to what the check leaves: numbers that are not dropped keep their diagrams, and no node of an accepted line is
-- dropped. The idea: by the steps that are left; the nodes are extended until the last ones are dropped. Assumes nothing.
use mathlib.Core.Bool.{Bool}
use mathlib.Core.Path.{◌≡◌, refl, ◌∙◌, subst}
use mathlib.Core.List.{List}
use Prim.Native.Nat.{ℕ, zero, suc, ◌+◌, ◌-◌, ◌≤◌, ◌<◌}
use native.Mathlib.Omega.{arith}
use native.Mathlib.Decide.{dec_lt}
use lib.ListN.{length, take}
use lib.Seq.{length-take-le}
use Rattle.table.specs.Nodes.{diagram_at}
use Rattle.table.proofs.Growth.{Extends, extends-length, diagram_at-grown, diagram_at-dropped}
use Rattle.records.specs.declared.Record.{Record}
use Rattle.records.specs.declared.Record.TheVariants.{NodeEntry, Witness, ProofLine, Strike, SetEntry, End, CutShort, UnknownKind}
use Rattle.records.specs.declared.Record.TheVariants.{NoRecord}
use Rattle.commands.specs.declared.Mode.{Mode}
use Rattle.commands.specs.declared.Form.{Form}
use Rattle.commands.specs.Commands.{Command, recorded, added, struck_out, wrong, finished}
use Rattle.verdict.specs.Steps.{State, Step, next, stop, spent}
use Rattle.verdict.specs.Check.{step, Verdict, left, after_step, commands, verdict}
use Rattle.verdict.specs.Taken.{Meant, Taken}
use Rattle.verdict.specs.Run.{command_in, next_in, CommandTaken, Reached}
use Rattle.verdict.proofs.Standing.{Standing}
use Rattle.verdict.proofs.Added.{clause-line, clause-grown}
use Rattle.verdict.proofs.Commands.{step-taken, Fit, Known, fit-known, command-fit, command-goes, step-standing, step-extends}
use Rattle.verdict.proofs.Ends.{reached-standing}
use Rattle.verdict.proofs.Exactly.{Ahead, reached-ahead}

pub record Onward (st : State) (v : Verdict) : Type 0 where
  pub least : st.kept ≤ length v.nodes
  pub same : (k : ℕ) → k < length st.nodes → k < length v.nodes → diagram_at v.nodes k ≡ diagram_at st.nodes k
  pub stays : st.lines < v.lines → length st.nodes ≤ length v.nodes

-- what a command does to the counts: a line that is taken keeps all nodes
record Counts (st st' : State) : Type 0 where
  kept : st.kept ≤ st'.kept
  line : st.lines < st'.lines → length st.nodes ≤ st'.kept
  more : st.lines ≤ st'.lines

module _ {s n : ℕ} (narrow : n ≤ 64) where
  record-counts : {m : Meant} {st : State} → Standing s n m st → (r : Record) (st' : State) → Taken n s st r st' → Counts st st'
  record-counts {m} {st} S (NodeEntry b) st' T = subst (Counts st) T.is
      (record { kept = omega arith; line = λ p. absurd (omega arith); more = omega arith })
  record-counts {m} {st} S (Witness v b) st' T = subst (Counts st) T.is
      (record { kept = omega arith; line = λ p. absurd (omega arith); more = omega arith })
  record-counts {m} {st} S (ProofLine rule root) st' T = subst (Counts st) T.is
      (record { kept = S.kept; line = λ _. omega arith; more = omega arith })
  record-counts {m} {st} S (Strike k) st' T = subst (Counts st) T.is
      (record { kept = omega arith; line = λ p. absurd (omega arith); more = omega arith })
  record-counts {m} {st} S (SetEntry kind b) st' T = subst (Counts st) T.is
      (record { kept = omega arith; line = λ p. absurd (omega arith); more = omega arith })
  record-counts S End st' T = absurd T
  record-counts S CutShort st' T = absurd T
  record-counts S UnknownKind st' T = absurd T
  record-counts S NoRecord st' T = absurd T

  known-counts : {m : Meant} {st : State} → Standing s n m st → (profile : Bool) (c : Command) → Known n c → (st' : State) →
      CommandTaken profile n s st c st' → Counts st st'
  known-counts S profile (recorded r more) known st' T = record-counts S r st' T.1
  known-counts {m} {st} S profile (added ls) known st' T =
      let (line, peak, is) = clause-line S narrow ls known st' T in
      let longer : length st.nodes ≤ length T.nodes = extends-length st.nodes T.nodes
      (clause-grown S narrow ls T.nodes T.node T.room) in
      subst (Counts st) is (record { kept = omega (arith, S.kept); line = λ _. longer; more = omega arith })
  known-counts {m} {st} S profile (struck_out ls) known st' C = subst (Counts st) C.is
      (record { kept = omega arith; line = λ p. absurd (omega arith); more = omega arith })
  known-counts S profile (wrong number offset) known st' T = absurd T
  known-counts S profile finished known st' T = absurd T

  step-onward : {m : Meant} {st : State} → Standing s n m st → (profile : Bool) (form : Form) (c : Command) → Fit form n c → (st' : State) →
      CommandTaken profile n s st c st'
      → (v : Verdict) → Onward st' v → Onward st v
  step-onward {m} {st} S profile form c fit st' T v O =
      let C : Counts st st' = known-counts S profile c (fit-known form n c fit) st' T in
      let E : Extends st.nodes st'.nodes = step-extends S narrow profile form c fit st' T in
      let longer : length st.nodes ≤ length st'.nodes = extends-length st.nodes st'.nodes E in
      record {
        least = omega (arith, C.kept, O.least);
        same = λ k p q. O.same k (omega arith) q ∙ diagram_at-grown st.nodes st'.nodes S.ordered E k p;
        stays = λ p. elim (dec_lt st.lines st'.lines) [
          | yes q ↦ omega (arith, C.line q, O.least)
          | no q ↦ omega (arith, O.stays (omega (arith, C.more)))
        ];
      }

  left-onward : {m : Meant} {st : State} → Standing s n m st → (number place peak : ℕ) → Onward st (left number place peak st)
  left-onward {m} {st} S number place peak =
      let len : length (take st.kept st.nodes) ≡ st.kept = length-take-le st.kept st.nodes S.kept in
      record {
        least = omega arith;
        same = λ k p q. diagram_at-dropped st.nodes S.ordered st.kept S.least S.kept k (omega arith);
        stays = λ p. absurd (omega arith);
      }

  commands-onward : (mode : Mode) (proof : List ℕ) (steps : ℕ) (m : Meant) (st : State) (at : ℕ) → at ≤ length proof → Standing s n m st
      → Onward st (commands steps mode n s proof st at)
  unfolding commands
  commands-onward mode proof zero m st at within S = left-onward S 10 at st.peak
  commands-onward mode proof (suc steps) m st at within S = go (step mode.consequence n s st c) refl (commands-onward mode proof steps)
    where
      next-at : ℕ
      next-at = next_in mode proof n at

      c : Command
      c = command_in mode proof n at

      fit : Fit mode.form n (command_in mode proof n at)
      fit = command-fit mode.form proof n at within

      go : (x : Step) → step mode.consequence n s st (command_in mode proof n at) ≡ x
          → ((m' : Meant) (st' : State) (at' : ℕ) → at' ≤ length proof → Standing s n m' st' →
          Onward st' (commands steps mode n s proof st' at'))
          → Onward st (after_step x st at (λ st'. commands steps mode n s proof st' next-at))
      go (stop number offset) e rec = left-onward S number (at + offset) st.peak
      go (spent number peak) e rec = left-onward S number at peak
      go (next st') e rec =
          let T : CommandTaken mode.consequence n s st (command_in mode proof n at) st' =
          step-taken mode.consequence n s st (command_in mode proof n at) st' e in
          step-onward S mode.consequence mode.form c fit st' T (commands steps mode n s proof st' next-at)
          (rec _ st' next-at (command-goes mode.consequence mode.form proof n s st st' at within T).1
          (step-standing S narrow mode.consequence mode.form c fit st' T))

-- What the check leaves, as seen from a state that it reaches.
pub reached-onward : (mode : Mode) (s : ℕ) (text proof : List ℕ) {n : ℕ} {st : State} {at : ℕ} {m : Meant}
    → Reached mode s text proof n st at m → Onward st (verdict mode s text proof)
reached-onward mode s text proof {n} {st} {at} {m} R =
    let (narrow, S) = reached-standing mode s text proof R in
    let A : Ahead mode s text proof n st at = reached-ahead mode s text proof R in
    rw A.is (commands-onward narrow mode proof A.steps m st at A.within S)
