-- What the members stand for is fixed by the bytes: the formula's clauses, and then the accepted lines, as the proof's commands give them.
-- The idea: the run's functions and those of the commands read on from there are the same. Assumes nothing.
use mathlib.Core.Bool.{Bool}
use mathlib.Core.Path.{◌≡◌, refl, sym, ap, ◌∙◌}
use mathlib.Core.List.{List, [], ◌∷◌, ◌++◌, append_assoc, append-nil}
use Prim.Native.Nat.{ℕ, zero, suc, ◌+◌, ◌-◌, ◌≤◌}
use native.Mathlib.Omega.{arith}
use lib.ListN.{length, take, length-append}
use lib.Seq.{take-append_seam, length-take-le}
use Rattle.meaning.specs.Operations.{clause_value}
use Rattle.table.specs.Nodes.{Node}
use Rattle.dimacs.specs.Header.{header}
use Rattle.dimacs.specs.Clauses.{Reading}
use Rattle.records.specs.declared.Record.{Record}
use Rattle.records.specs.declared.Record.TheVariants.{NodeEntry, Witness, ProofLine, Strike, SetEntry, End, CutShort, UnknownKind}
use Rattle.records.specs.declared.Record.TheVariants.{NoRecord}
use Rattle.commands.specs.declared.Mode.{Mode}
use Rattle.commands.specs.Commands.{Command, recorded, added, struck_out, wrong, finished, start}
use Rattle.verdict.specs.Steps.{State, with_entry}
use Rattle.verdict.specs.Taken.{Function, Meant, entry_meant, after_record, Valued}
use Rattle.verdict.specs.Run.{command_in, next_in, CommandTaken, after_command, meant_after, line_functions, clause_functions, variables_of}
use Rattle.verdict.specs.Run.{stands_for, Making, opened, made, Reached, begins, goes}
use Rattle.verdict.proofs.Added.{tries-accepted}
use Rattle.verdict.proofs.Commands.{start-within, command-goes}
use Rattle.verdict.proofs.Standing.{Standing, valued-dropped}
use Rattle.verdict.proofs.Ends.{reached-standing}
use Rattle.verdict.proofs.Values.{clause-members}

-- ---- commands alone

-- members are only added
record-adds : (m : Meant) (r : Record) → (more : List Function) × ((after_record m r).members ≡ m.members ++ more)
unfolding after_record
record-adds m (NodeEntry b) = ([], sym (append-nil m.members))
record-adds m (Witness v b) = ([], sym (append-nil m.members))
record-adds m (ProofLine rule root) = (entry_meant m root.0 ∷ [], refl)
record-adds m (Strike k) = ([], sym (append-nil m.members))
record-adds m (SetEntry kind b) = ([], sym (append-nil m.members))
record-adds m End = ([], sym (append-nil m.members))
record-adds m CutShort = ([], sym (append-nil m.members))
record-adds m UnknownKind = ([], sym (append-nil m.members))
record-adds m NoRecord = ([], sym (append-nil m.members))

command-adds : (m : Meant) (c : Command) → (more : List Function) × ((after_command m c).members ≡ m.members ++ more)
unfolding after_command
command-adds m (recorded r more) = record-adds m r
command-adds m (added ls) = (clause_value ls ∷ [], refl)
command-adds m (struck_out ls) = ([], sym (append-nil m.members))
command-adds m (wrong number offset) = ([], sym (append-nil m.members))
command-adds m finished = ([], sym (append-nil m.members))

commands-add : (k : ℕ) (mode : Mode) (n : ℕ) (proof : List ℕ) (at : ℕ) (m : Meant) → (more : List Function)
    × ((meant_after k mode n proof at m).members ≡ m.members ++ more)
unfolding meant_after
commands-add zero mode n proof at m = ([], sym (append-nil m.members))
commands-add (suc k) mode n proof at m =
    let c : Command = command_in mode proof n at in
    let (one, e) = command-adds m c in
    let (more, f) = commands-add k mode n proof (next_in mode proof n at) (after_command m c) in
    (one ++ more, f ∙ ap (λ (x : List Function). x ++ more) e ∙ append_assoc m.members one more)

-- ---- the run

abbrev meant : List Function → List Function → Meant
meant members entries = record { members = members; entries = entries }

-- In a reached state: the lines' functions so far, as the commands read from the proof's start give them.
record Follows (mode : Mode) (text proof : List ℕ) (n : ℕ) (st : State) (at : ℕ) (m : Meant) : Type 0 where
  steps : ℕ
  few : steps ≤ at
  within : at ≤ length proof
  later : List Function
  counted : length later ≡ st.lines
  are : m.members ≡ clause_functions text ++ later
  run : (j : ℕ) → meant_after (steps + j) mode n proof (start mode.form proof) (meant [] [])
      ≡ meant_after j mode n proof at (meant later m.entries)

module _ (s : ℕ) (text : List ℕ) where
  -- one command: the functions with the clauses' before them, and without
  record Step (m : Meant) (later : List Function) (lines lines' : ℕ) (c : Command) : Type 0 where
    later' : List Function
    counted : length later ≡ lines → length later' ≡ lines'
    are : m.members ≡ clause_functions text ++ later → (after_command m c).members ≡ clause_functions text ++ later'
    apart : after_command (meant later m.entries) c ≡ meant later' (after_command m c).entries

  steps_on : (profile : Bool) (n : ℕ) (st : State) (m : Meant) (later : List Function) (c : Command) (st' : State) →
      CommandTaken profile n s st c st' → Step m later st.lines st'.lines c
  unfolding after_command after_record entry_meant
  steps_on profile n st m later (recorded (NodeEntry b) more) st' T = record
      { later' = later; counted = λ e. e ∙ ap (λ (x : State). x.lines) T.1.is; are = λ e. e; apart = refl }
  steps_on profile n st m later (recorded (Witness v b) more) st' T = record
      { later' = later; counted = λ e. e ∙ ap (λ (x : State). x.lines) T.1.is; are = λ e. e; apart = refl }
  steps_on profile n st m later (recorded (ProofLine rule root) more) st' T = record {
    later' = later ++ entry_meant m root.0 ∷ [];
    counted = λ e. length-append later (entry_meant m root.0 ∷ []) ∙ omega (arith, ap (λ (x : State). x.lines) T.1.is);
    are = λ e. ap (λ (x : List Function). x ++ entry_meant m root.0 ∷ []) e
        ∙ append_assoc (clause_functions text) later (entry_meant m root.0 ∷ []);
    apart = refl;
  }
  steps_on profile n st m later (recorded (Strike k) more) st' T = record
      { later' = later; counted = λ e. e ∙ ap (λ (x : State). x.lines) T.1.is; are = λ e. e; apart = refl }
  steps_on profile n st m later (recorded (SetEntry kind b) more) st' T =
      record { later' = later; counted = λ e. e ∙ ap (λ (x : State). x.lines) T.1.is; are = λ e. e; apart = refl }
  steps_on profile n st m later (recorded End more) st' T = absurd T.1
  steps_on profile n st m later (recorded CutShort more) st' T = absurd T.1
  steps_on profile n st m later (recorded UnknownKind more) st' T = absurd T.1
  steps_on profile n st m later (recorded NoRecord more) st' T = absurd T.1
  steps_on profile n st m later (added ls) st' T =
      let (line, peak, is) = tries-accepted profile n s (with_entry st T.nodes T.node) T.node st' profile ls T.tried in
      record {
        later' = later ++ clause_value ls ∷ [];
        counted = λ e. length-append later (clause_value ls ∷ []) ∙ omega (arith, ap (λ (x : State). x.lines) is);
        are = λ e. ap (λ (x : List Function). x ++ clause_value ls ∷ []) e
            ∙ append_assoc (clause_functions text) later (clause_value ls ∷ []);
        apart = refl;
      }
  steps_on profile n st m later (struck_out ls) st' T = record
      { later' = later; counted = λ e. e ∙ ap (λ (x : State). x.lines) T.is; are = λ e. e; apart = refl }
  steps_on profile n st m later (wrong number offset) st' T = absurd T
  steps_on profile n st m later finished st' T = absurd T

  module _ (mode : Mode) (proof : List ℕ) where
    goes-follows : (n : ℕ) (st st' : State) (at : ℕ) (m : Meant) → CommandTaken mode.consequence n s st (command_in mode proof n at) st' →
        Follows mode text proof n st at m
        → Follows mode text proof n st' (next_in mode proof n at) (after_command m (command_in mode proof n at))
    unfolding meant_after
    goes-follows n st st' at m T F =
        let c : Command = command_in mode proof n at in
        let (on, inside) = command-goes mode.consequence mode.form proof n s st st' at F.within T in
        let O : Step m F.later st.lines st'.lines c = steps_on mode.consequence n st m F.later c st' T in
        record {
          steps = suc F.steps;
          few = omega (arith, F.few, on);
          within = inside;
          later = O.later';
          counted = O.counted F.counted;
          are = O.are F.are;
          run = λ j.
              let same : suc F.steps + j ≡ F.steps + suc j = omega arith in
              ap (λ (k : ℕ). meant_after k mode n proof (start mode.form proof) (meant [] [])) same ∙ F.run (suc j)
              ∙ ap (meant_after j mode n proof (next_in mode proof n at)) O.apart;
        }

    reached-follows : {n : ℕ} {st : State} {at : ℕ} {m : Meant} → Reached mode s text proof n st at m → Follows mode text proof n st at m
    reached-follows {n} (begins {many} {t} {ms} {fs} M) = record {
      steps = 0;
      few = omega arith;
      within = start-within mode.form proof;
      later = [];
      counted = refl;
      are = clause-members s text M ∙ sym (append-nil (clause_functions text));
      run = λ j. let z : 0 + j ≡ j = omega arith in ap (λ (k : ℕ). meant_after k mode n proof (start mode.form proof) (meant [] [])) z;
    }
    reached-follows {n} (goes {st} {st'} {at} {m} R T) = goes-follows n st st' at m T (reached-follows R)

    making-variables : {n many : ℕ} {t : List Node} {ms : List ℕ} {fs : List Function} {r : Reading} → Making s text n many t ms fs r →
        variables_of (header text) ≡ n
    making-variables (opened e) = rw e
    making-variables (made M e) = making-variables M

    -- The variables of a reached state are the header's.
    pub reached-variables : {n : ℕ} {st : State} {at : ℕ} {m : Meant} → Reached mode s text proof n st at m → variables_of (header text) ≡ n
    reached-variables (begins M) = making-variables M
    reached-variables (goes R T) = reached-variables R

    -- The lines accepted so far are the first of the proof's.
    lines-first : {n : ℕ} {st : State} {at : ℕ} {m : Meant} (R : Reached mode s text proof n st at m)
        → (more : List Function) × (line_functions mode (variables_of (header text)) proof ≡ (reached-follows R).later ++ more)
    lines-first {n} {st} {at} {m} R =
        let F : Follows mode text proof n st at m = reached-follows R in
        let rest : ℕ = length proof - F.steps in
        let all : length proof ≡ F.steps + rest = omega (arith, F.few, F.within) in
        let (more, adds) = commands-add rest mode n proof at (meant F.later m.entries) in (
          more,
          ap (λ (w : ℕ). line_functions mode w proof) (reached-variables R)
              ∙ ap (λ (k : ℕ). (meant_after k mode n proof (start mode.form proof) (meant [] [])).members) all
              ∙ ap (λ (x : Meant). x.members) (F.run rest) ∙ adds,
        )

    pub lines-there : {n : ℕ} {st : State} {at : ℕ} {m : Meant} → Reached mode s text proof n st at m →
        st.lines ≤ length (line_functions mode (variables_of (header text)) proof)
    lines-there R =
        let F = reached-follows R in
        let (more, whole) = lines-first R in
        omega (arith, F.counted, ap length whole ∙ length-append F.later more)

    -- The members of a reached state stand for the clauses and the lines accepted so far.
    pub members-are : {n : ℕ} {st : State} {at : ℕ} {m : Meant} → Reached mode s text proof n st at m → m.members
        ≡ stands_for mode text proof st.lines
    members-are {n} {st} {at} {m} R =
        let F : Follows mode text proof n st at m = reached-follows R in
        let (more, whole) = lines-first R in
        F.are ∙ ap (λ (x : List Function). clause_functions text ++ x)
        (sym (ap (take st.lines) whole ∙ ap (λ (k : ℕ). take k (F.later ++ more)) (sym F.counted)
        ∙ take-append_seam F.later more))

    -- In the nodes that a reached state leaves each member has the value of what it stands for.
    pub members-left : {n : ℕ} {st : State} {at : ℕ} {m : Meant} → Reached mode s text proof n st at m
        → Valued (take st.kept st.nodes) (length (take st.kept st.nodes)) st.members (stands_for mode text proof st.lines)
    members-left {n} {st} {at} {m} R =
        let S : Standing s n m st = (reached-standing mode s text proof R).1 in
        let len : length (take st.kept st.nodes) ≡ st.kept = length-take-le st.kept st.nodes S.kept in
        rw (len, sym (members-are R)) (valued-dropped st.nodes st.kept S.ordered S.least S.kept st.members m.members
        S.members)
