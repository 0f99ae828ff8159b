-- A record's step is the step of its kind. Assumes nothing.
use mathlib.Core.Path.{◌≡◌, refl, sym, ap, ◌∙◌, subst}
use mathlib.Core.Bool.{Bool}
use Prim.Native.Nat.{ℕ}
use Rattle.records.specs.declared.NodeBody.{NodeBody}
use Rattle.records.specs.declared.Rule.{Rule}
use Rattle.records.specs.declared.EntryNo.{EntryNo}
use Rattle.records.specs.declared.MemberNo.{MemberNo}
use Rattle.records.specs.declared.SetKind.{SetKind}
use Rattle.records.specs.declared.SetBody.{SetBody}
use Rattle.records.specs.declared.Record.{Record}
use Rattle.records.specs.declared.Record.TheVariants.{NodeEntry, Witness, ProofLine, Strike, SetEntry, End, CutShort, UnknownKind}
use Rattle.records.specs.declared.Record.TheVariants.{NoRecord}
use Rattle.verdict.specs.Steps as check
use Rattle.verdict.specs.Steps.{stop, node_step, witness_step, line_step, strike_step, set_step, end_step}
use Rattle.verdict.specs.Steps.{record_step}
use Rattle.state.specs.declared.State.{State}
use Rattle.state.specs.declared.Step.{Step}
use Rattle.state.specs.declared.Step.TheVariants.{Stop}
use Rattle.state.specs.States.{Lent, state_of, Stepped}
use Rattle.entries.proofs.Stops.{stopped}

module _ (n s : ℕ) (S : check.State) (more : Bool) where
  step-node : (b : NodeBody) → record_step n s S more (NodeEntry b) ≡ node_step n s S b
  unfolding record_step
  step-node b = refl

  step-witness : (v : ℕ) (b : Bool) → record_step n s S more (Witness v b) ≡ witness_step n S v b
  unfolding record_step
  step-witness v b = refl

  step_line : (rule : Rule) (root : EntryNo) → record_step n s S more (ProofLine rule root) ≡ line_step n s S rule root.0
  unfolding record_step
  step_line rule root = refl

  step-strike : (k : MemberNo) → record_step n s S more (Strike k) ≡ strike_step S k.0
  unfolding record_step
  step-strike k = refl

  step_set : (kind : SetKind) (b : SetBody) → record_step n s S more (SetEntry kind b) ≡ set_step n s S kind b
  unfolding record_step
  step_set kind b = refl

  step_end : record_step n s S more End ≡ end_step S more
  unfolding record_step
  step_end = refl

  step_cut : record_step n s S more CutShort ≡ stop 10 0
  unfolding record_step
  step_cut = refl

  step-unknown : record_step n s S more UnknownKind ≡ stop 9 0
  unfolding record_step
  step-unknown = refl

  step-none : record_step n s S more NoRecord ≡ stop 10 0
  unfolding record_step
  step-none = refl

module _ (n s : ℕ) (l l' : Lent) (st : State) (more : Bool) (r : Record) (res : Step) where
  abbrev S : check.State
  S = state_of l st

  as_said : (r' : Record) (said : check.Step) → r ≡ r' → record_step n s S more r' ≡ said → Stepped n l l' st said res →
      Stepped n l l' st (record_step n s S more r) res
  as_said r' said e is W = subst (λ (x : check.Step). Stepped n l l' st x res) (sym (ap (record_step n s S more) e ∙ is)) W

  pub as-node : (b : NodeBody) → r ≡ NodeEntry b → Stepped n l l' st (node_step n s S b) res →
      Stepped n l l' st (record_step n s S more r) res
  as-node b e = as_said (NodeEntry b) (node_step n s S b) e (step-node n s S more b)

  pub as-witness : (v : ℕ) (b : Bool) → r ≡ Witness v b → Stepped n l l' st (witness_step n S v b) res →
      Stepped n l l' st (record_step n s S more r) res
  as-witness v b e = as_said (Witness v b) (witness_step n S v b) e (step-witness n s S more v b)

  pub as_line : (rule : Rule) (root : EntryNo) → r ≡ ProofLine rule root → Stepped n l l' st (line_step n s S rule root.0) res →
      Stepped n l l' st (record_step n s S more r) res
  as_line rule root e = as_said (ProofLine rule root) (line_step n s S rule root.0) e (step_line n s S more rule root)

  pub as-strike : (k : MemberNo) → r ≡ Strike k → Stepped n l l' st (strike_step S k.0) res →
      Stepped n l l' st (record_step n s S more r) res
  as-strike k e = as_said (Strike k) (strike_step S k.0) e (step-strike n s S more k)

  pub as-set : (kind : SetKind) (b : SetBody) → r ≡ SetEntry kind b → Stepped n l l' st (set_step n s S kind b) res →
      Stepped n l l' st (record_step n s S more r) res
  as-set kind b e = as_said (SetEntry kind b) (set_step n s S kind b) e (step_set n s S more kind b)

  pub as-end : r ≡ End → Stepped n l l' st (end_step S more) res → Stepped n l l' st (record_step n s S more r) res
  as-end e = as_said End (end_step S more) e (step_end n s S more)

module _ (n s : ℕ) (l : Lent) (st : State) (more : Bool) (r : Record) where
  pub cut_short : r ≡ CutShort → Stepped n l l st (record_step n s (state_of l st) more r) (Stop 10 0)
  cut_short e = stopped n l st _ 10 0 (ap (record_step n s (state_of l st) more) e ∙ step_cut n s (state_of l st) more)

  pub unknown-kind : r ≡ UnknownKind → Stepped n l l st (record_step n s (state_of l st) more r) (Stop 9 0)
  unknown-kind e = stopped n l st _ 9 0 (ap (record_step n s (state_of l st) more) e ∙ step-unknown n s (state_of l st) more)

  pub no_record : r ≡ NoRecord → Stepped n l l st (record_step n s (state_of l st) more r) (Stop 10 0)
  no_record e = stopped n l st _ 10 0 (ap (record_step n s (state_of l st) more) e ∙ step-none n s (state_of l st) more)
