-- A refused command over the lists that hold the state: what the functions ask that its cause is worked out by, and that what they tell is
-- the cause of every command that the code's one stands for. Assumes nothing.
use mathlib.Core.Path.{◌≡◌, sym, ap, ◌∙◌, subst}
use mathlib.Core.Bool.{Bool, false}
use mathlib.Core.List.{List}
use Prim.Native.Nat.{ℕ, ◌+◌, ◌^◌, ◌<◌}
use lib.ListN.{length}
use Rattle.meaning.specs.Words.{in_word, assignment_of}
use Rattle.records.specs.declared.EntryNo.{EntryNo}
use Rattle.records.specs.declared.NodeBody.{NodeBody}
use Rattle.records.specs.declared.Rule.{Rule}
use Rattle.records.specs.declared.Rule.TheVariants.{Pr}
use Rattle.commands.specs.declared.DratClause.{DratClause}
use Rattle.commands.specs.declared.Command as code
use Rattle.commands.specs.Commands.{Command}
use Rattle.verdict.specs.Steps as check
use Rattle.verdict.specs.Steps.{entry_node, diagram_in}
use Rattle.verdict.specs.Check.{zeros}
use Rattle.state.specs.declared.State.{State}
use Rattle.state.specs.States.{Lent, state_of, Held}
use Rattle.tries.specs.Tries.{PivotFits}
use Rattle.tries.specs.Commands.{CommandFits}
use Rattle.tries.proofs.Commands.{added-fits}
use Rattle.std.specs.Prelude.{Option}
use Rattle.causes.specs.Causes.{variables, assignment, variables_of, line_cause, clause_cause, cause}
use Rattle.causes.specs.Answers.{told}
use Rattle.why.specs.Greedy.{Shut}
use Rattle.record_causes.proofs.Refused.{refused-14, refused-18}
use Rattle.clause_causes.specs.declared.Failed.{Failed}
use Rattle.clause_causes.specs.Clauses.{ClauseRefused, told_of}
use Rattle.command_causes.specs.declared.Cause.{Cause}
use Rattle.command_causes.specs.declared.Refused.{Refused}
use Rattle.command_causes.specs.declared.Refused.TheVariants.{Plain, OutOfOrder, NotWitnessed, NotShown, ClauseNotShown}
use Rattle.command_causes.specs.Choice.{command_choice}
use Rattle.command_causes.specs.Causes.{told_by, of_numbers, of_rounds, command_let, RefusedWith, RefusedBy, LineRefused}
use Rattle.command_causes.proofs.Sorting.{LineSorted, ClauseSorted, Sorted, sorted}
use Rattle.command_causes.proofs.Told.{told-plain, told-variables, told-word}

module _ (n number : ℕ) (L : Lent) (x : State) (H : Held n L x) (command : Option code.Command) where
  abbrev s : ℕ
  s = length L.vars

  abbrev S : check.State
  S = state_of L x

  -- ---- what is asked

  module _ (B : RefusedBy n s S number command) where
    refused-is : (w : Refused) → command_choice number command ≡ w →
        Sorted B.profile n s S (cause B.profile n number S B.said) w
    refused-is w is =
        subst (Sorted B.profile n s S (cause B.profile n number S B.said)) is
        (sorted B.profile n s S number command B.said B.admits B.fits B.refused)

    pub asks-node : (b : NodeBody) → command_choice number command ≡ OutOfOrder b → (b.low.0 < x.entries + 2)
        × (b.high.0 < x.entries + 2)
    asks-node b is = refused-14 n s L x H b (refused-is (OutOfOrder b) is).0

    pub asks-witness : (root : EntryNo) → command_choice number command ≡ NotWitnessed root → (root.0 < x.entries + 2)
        × Shut n (diagram_in S (entry_node S root.0)) x.witness
    asks-witness root is = refused-18 n s L x H root.0 B.within (refused-is (NotWitnessed root) is).0

    pub asks-line : (rule : Rule) (root : EntryNo) → command_choice number command ≡ NotShown rule root → LineRefused L x rule root.0
    asks-line rule root is =
        let K : LineSorted n s S rule root.0 (cause B.profile n number S B.said) = refused-is (NotShown rule root) is in
        record { n = n; peak = K.peak; held = H; refused = K.refused }

    module _ (d : DratClause) (is : command_choice number command ≡ ClauseNotShown d) where
      abbrev clause-is : ClauseSorted B.profile n s S d (cause B.profile n number S B.said)
      clause-is = refused-is (ClauseNotShown d) is

      pub asks-clause : ClauseRefused L x d
      asks-clause = record {
        profile = B.profile;
        n = n;
        literals = clause-is.literals;
        peak = clause-is.peak;
        held = H;
        within = clause-is.within;
        is = clause-is.words;
        refused = clause-is.refused;
      }

      pub asks-pivot : PivotFits d.pivot
      asks-pivot = subst (λ (e : DratClause). PivotFits e.pivot) clause-is.words
          (added-fits B.profile n H.entries.narrow clause-is.literals clause-is.within)

  -- ---- what is told, with m words lent for the literals

  module _ (m : ℕ) (words : List ℕ) where
    abbrev pub Tells : Cause → Type 0
    Tells r = (profile : Bool) (c : Command) → command_let profile c ≡ command → CommandFits n c →
        RefusedWith profile n s S number c → told_by r words ≡ told m (cause profile n number S c)

    -- what the cause is worked out from
    module _ (w : Refused) (is : command_choice number command ≡ w) where
      from : (profile : Bool) (c : Command) → command_let profile c ≡ command → CommandFits n c →
          RefusedWith profile n s S number c → Sorted profile n s S (cause profile n number S c) w
      from profile c e fits R =
          subst (Sorted profile n s S (cause profile n number S c)) is (sorted profile n s S number command c e fits R)

    pub tells-plain : command_choice number command ≡ Plain → words ≡ zeros m → Tells (of_numbers 0 0 0)
    tells-plain is z profile c e fits R = told-plain m words z ∙ ap (told m) (sym (from Plain is profile c e fits R))

    pub tells-node : (b : NodeBody) → command_choice number command ≡ OutOfOrder b → (child : ℕ) → variables_of S b
        ≡ variables b.variable child
        → words ≡ zeros m → Tells (of_numbers b.variable child 0)
    tells-node b is child v z profile c e fits R =
        told-variables m words b.variable child z ∙ ap (told m) (sym ((from (OutOfOrder b) is profile c e fits R).1 ∙ v))

    pub tells-witness : (root : EntryNo) → command_choice number command ≡ NotWitnessed root → (word : ℕ) → word < 2 ^ 64
        → line_cause n 18 S Pr (diagram_in S (entry_node S root.0)) ≡ assignment (assignment_of n word)
        → ((v : ℕ) → n < v → in_word word v ≡ false) → words ≡ zeros m → Tells (of_numbers 0 0 word)
    tells-witness root is word lt a no_more z profile c e fits R =
        told-word m words n word H.entries.narrow lt no_more z
        ∙ ap (told m) (sym ((from (NotWitnessed root) is profile c e fits R).1 ∙ a))

    pub tells-line : (rule : Rule) (root : EntryNo) → command_choice number command ≡ NotShown rule root → (r : Cause)
        → ((R : LineRefused L x rule root.0) → told_by r words
        ≡ told m (line_cause R.n 19 S rule (diagram_in S (entry_node S root.0))))
        → Tells r
    tells-line rule root is r W profile c e fits R =
        let K : LineSorted n s S rule root.0 (cause profile n number S c) = from (NotShown rule root) is profile c e fits R in
        W (record { n = n; peak = K.peak; held = H; refused = K.refused }) ∙ ap (told m) (sym K.is)

    pub tells-clause : (d : DratClause) → command_choice number command ≡ ClauseNotShown d → (f : Failed)
        → ((R : ClauseRefused L x d) → told m (clause_cause R.profile R.n S R.literals) ≡ told_of f words)
        → Tells (of_rounds f.rounds f.has_member f.member)
    tells-clause d is f W profile c e fits R =
        let K : ClauseSorted profile n s S d (cause profile n number S c) = from (ClauseNotShown d) is profile c e fits R in
        sym (W (record {
          profile = profile;
          n = n;
          literals = K.literals;
          peak = K.peak;
          held = H;
          within = K.within;
          is = K.words;
          refused = K.refused;
        })) ∙ ap (told m) (sym K.is)

    -- The same, the answer being that one.
    pub tells_as : (r r' : Cause) → r ≡ r' → Tells r' → Tells r
    tells_as r r' e W = subst Tells (sym e) W
