-- What the cause of a refused command is worked out from, and what its refusal says of that. A case on the command, then on the number:
-- a record that the profile shuts out is refused with 33, which has no cause. Assumes nothing.
use mathlib.Core.Path.{◌≡◌, refl, sym, ap, ◌∙◌, subst}
use mathlib.Core.Logic.{◌≢◌}
use mathlib.Core.Bool.{Bool, true, false, cond}
use mathlib.Core.List.{List}
use Prim.Native.Nat.{ℕ}
use native.Mathlib.Omega.{arith}
use lib.Dec.{eqb}
use borrow.Author.Tests.{eqb-false}
use Rattle.meaning.specs.Operations.{Literal}
use Rattle.meaning.specs.Literals.{OfVariables}
use Rattle.meaning.proofs.Booleans.{eqb-eq}
use Rattle.records.specs.declared.EntryNo.{EntryNo}
use Rattle.records.specs.declared.NodeBody.{NodeBody}
use Rattle.records.specs.declared.Rule.{Rule}
use Rattle.records.specs.declared.Rule.TheVariants.{Rup, Pr, Path}
use Rattle.records.specs.declared.Record.{Record}
use Rattle.records.specs.declared.Record.TheVariants.{NodeEntry, Witness, ProofLine, Strike, SetEntry, End}
use Rattle.records.specs.declared.Record.TheVariants.{CutShort, UnknownKind, NoRecord}
use Rattle.commands.specs.declared.DratClause.{DratClause}
use Rattle.commands.specs.declared.Command as code
use Rattle.commands.specs.declared.Command.TheVariants.{Recorded}
use Rattle.std.specs.Prelude.{Option, Ok, Err}
use Rattle.std.specs.Result.{result_ok}
use Rattle.dimacs.specs.Inner.{refusal_at}
use Rattle.commands.specs.Commands.{Command, recorded, added, struck_out, wrong, finished}
use Rattle.commands.specs.Inner.{clause_words}
use Rattle.verdict.specs.Steps.{State, Step, stop, spent, entry_node, diagram_in, node_step, line_step, record_step}
use Rattle.verdict.specs.Clausal.{add_step}
use Rattle.verdict.specs.Check.{shut_out, step}
use Rattle.profile.specs.Admitted.{tried_as}
use Rattle.tries.specs.Commands.{CommandFits}
use Rattle.causes.specs.Causes.{Cause, plain, variables_of, line_cause, record_cause, clause_cause, cause}
use Rattle.causes.proofs.Causes.{has_cause, cause-plain}
use Rattle.command_causes.specs.declared.Refused.{Refused}
use Rattle.command_causes.specs.declared.Refused.TheVariants.{Plain, OutOfOrder, NotWitnessed, NotShown, ClauseNotShown}
use Rattle.command_causes.specs.Choice.{node_choice, shut_choice, line_choice, record_choice, command_choice}
use Rattle.command_causes.specs.Causes.{command_let, RefusedWith}

-- The cause x is that of the line, which is refused with 19.
pub record LineSorted (n s : ℕ) (st : State) (rule : Rule) (root : ℕ) (x : Cause) : Type 0 where
  pub peak : ℕ
  pub refused : line_step n s st rule root ≡ spent 19 peak
  pub is : x ≡ line_cause n 19 st rule (diagram_in st (entry_node st root))

-- Of an added clause.
pub record ClauseSorted (profile : Bool) (n s : ℕ) (st : State) (d : DratClause) (x : Cause) : Type 0 where
  pub literals : List Literal
  pub peak : ℕ
  pub within : OfVariables n literals
  pub words : tried_as profile (clause_words literals) ≡ d
  pub refused : add_step profile n s st literals ≡ spent 19 peak
  pub is : x ≡ clause_cause profile n st literals

-- The cause x is worked out from what is refused.
abbrev pub Sorted : Bool → ℕ → ℕ → State → Cause → Refused → Type 0
Sorted profile n s st x Plain = x ≡ plain
Sorted profile n s st x (OutOfOrder b) = (node_step n s st b ≡ stop 14 0) × (x ≡ variables_of st b)
Sorted profile n s st x (NotWitnessed root) =
    (line_step n s st Pr root.0 ≡ stop 18 0) × (x ≡ line_cause n 18 st Pr (diagram_in st (entry_node st root.0)))
Sorted profile n s st x (NotShown rule root) = LineSorted n s st rule root.0 x
Sorted profile n s st x (ClauseNotShown d) = ClauseSorted profile n s st d x

module _ (profile : Bool) (n s : ℕ) (st : State) (number : ℕ) where
  -- A step that is refused with the number.
  abbrev Ends : Step → Type 0
  Ends x = (number ≢ 19 → x ≡ stop number 0) × (number ≡ 19 → (peak : ℕ) × (x ≡ spent 19 peak))

  stops : (k : ℕ) (x : Step) → eqb number k ≡ true → eqb k 19 ≡ false → Ends x → x ≡ stop k 0
  stops k x e other (early, late) =
      let is : number ≡ k = eqb-eq number k e in
      early (λ z. eqb-false k 19 other (sym is ∙ z)) ∙ ap (λ (j : ℕ). stop j 0) is

  -- ---- records

  node-sorted : (b : NodeBody) → Ends (node_step n s st b) → Sorted profile n s st (cond (eqb number 14) (variables_of st b) plain)
      (node_choice number b)
  node-sorted b E = go (eqb number 14) refl
    where
      go : (a : Bool) → eqb number 14 ≡ a → Sorted profile n s st (cond a (variables_of st b) plain) (cond a (OutOfOrder b) Plain)
      go true e = (stops 14 (node_step n s st b) e refl E, refl)
      go false e = refl

  module _ (root : EntryNo) where
    abbrev cause_of : Rule → Cause
    cause_of rule = line_cause n number st rule (diagram_in st (entry_node st root.0))

    rup-plain : eqb number 19 ≡ false → cause_of Rup ≡ plain
    unfolding line_cause
    rup-plain e = rw e

    path-plain : eqb number 19 ≡ false → cause_of Path ≡ plain
    unfolding line_cause
    path-plain e = rw e

    pr-plain : eqb number 19 ≡ false → eqb number 18 ≡ false → cause_of Pr ≡ plain
    unfolding line_cause
    pr-plain e f = rw (f, e)

    neither : (rule : Rule) → eqb number 19 ≡ false → eqb number 18 ≡ false → cause_of rule ≡ plain
    neither Rup e f = rup-plain e
    neither Pr e f = pr-plain e f
    neither Path e f = path-plain e

    shut-sorted : (rule : Rule) → Ends (line_step n s st rule root.0) → eqb number 19 ≡ false → eqb number 18 ≡ true →
        Sorted profile n s st (cause_of rule) (shut_choice rule root)
    shut-sorted Rup E e f = rup-plain e
    shut-sorted Pr E e f = (
      stops 18 (line_step n s st Pr root.0) f refl E,
      ap (λ (k : ℕ). line_cause n k st Pr (diagram_in st (entry_node st root.0))) (eqb-eq number 18 f),
    )
    shut-sorted Path E e f = path-plain e

    line-sorted : (rule : Rule) → Ends (line_step n s st rule root.0) → Sorted profile n s st (cause_of rule) (line_choice number rule root)
    line-sorted rule E = go (eqb number 19) refl (eqb number 18) refl
      where
        go : (a : Bool) → eqb number 19 ≡ a → (b : Bool) → eqb number 18 ≡ b →
            Sorted profile n s st (cause_of rule) (cond a (NotShown rule root) (cond b (shut_choice rule root) Plain))
        go true e b f =
            let (peak, is) = E.1 (eqb-eq number 19 e) in
            record {
              peak = peak;
              refused = is;
              is = ap (λ (k : ℕ). line_cause n k st rule (diagram_in st (entry_node st root.0))) (eqb-eq number 19 e);
            }
        go false e true f = shut-sorted rule E e f
        go false e false f = neither rule e f

  record-sorted : (r : Record) (more : Bool) → Ends (record_step n s st more r) → Sorted profile n s st (record_cause n number st r)
      (record_choice number r)
  unfolding record_cause record_step
  record-sorted (NodeEntry b) more E = node-sorted b E
  record-sorted (Witness v b) more E = refl
  record-sorted (ProofLine rule root) more E = line-sorted root rule E
  record-sorted (Strike k) more E = refl
  record-sorted (SetEntry kind b) more E = refl
  record-sorted End more E = refl
  record-sorted CutShort more E = refl
  record-sorted UnknownKind more E = refl
  record-sorted NoRecord more E = refl

  -- ---- commands

  -- 33 has no cause.
  when_shut : Ends (stop 33 0) → has_cause number ≡ false
  when_shut (early, late) = go (eqb number 19) refl
    where
      go : (a : Bool) → eqb number 19 ≡ a → has_cause number ≡ false
      go true e =
          let (peak, is) = late (eqb-eq number 19 e) in
          let z : ◌≡◌ {A = ℕ} 0 1 = cc in absurd (omega arith)
      go false e =
          let is : stop 33 0 ≡ stop number 0 = early (eqb-false number 19 e) in
          let same : 33 ≡ number = cc in ap has_cause (sym same)

  step_of : (r : Record) (more b : Bool) → shut_out profile r ≡ b → step profile n s st (recorded r more)
      ≡ cond b (stop 33 0) (record_step n s st more r)
  unfolding step
  step_of r more b q = ap (λ (x : Bool). cond x (stop 33 0) (record_step n s st more r)) q

  command-sorted : (c : Command) → CommandFits n c → RefusedWith profile n s st number c → Sorted profile n s st
      (cause profile n number st c) (command_choice number (command_let profile c))
  unfolding cause step
  command-sorted (recorded r more) fits R = go (shut_out profile r) refl
    where
      go : (b : Bool) → shut_out profile r ≡ b → Sorted profile n s st (record_cause n number st r)
          (command_choice number (result_ok (cond b (Err (refusal_at 33 0)) (Ok (Recorded r more)))))
      go true q = cause-plain profile n number st (recorded r more) (when_shut (subst Ends (step_of r more true q) R))
      go false q = record-sorted r more (subst Ends (step_of r more false q) R)
  command-sorted (added ls) fits R = go (eqb number 19) refl
    where
      go : (a : Bool) → eqb number 19 ≡ a → Sorted profile n s st (cond a (clause_cause profile n st ls) plain)
          (cond a (ClauseNotShown (tried_as profile (clause_words ls))) Plain)
      go true e =
          let (peak, is) = R.1 (eqb-eq number 19 e) in
          record { literals = ls; peak = peak; within = fits; words = refl; refused = is; is = refl }
      go false e = refl
  command-sorted (struck_out ls) fits R = refl
  command-sorted (wrong k offset) fits R = refl
  command-sorted finished fits R = refl

  -- THEOREM: the cause of a refused command is worked out from what its number and its kind tell.
  pub sorted : (command : Option code.Command) (c : Command) → command_let profile c ≡ command → CommandFits n c →
      RefusedWith profile n s st number c → Sorted profile n s st (cause profile n number st c) (command_choice number command)
  sorted command c e fits R =
      subst (λ (k : Option code.Command). Sorted profile n s st (cause profile n number st c) (command_choice number k)) e
      (command-sorted c fits R)
