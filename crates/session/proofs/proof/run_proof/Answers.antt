-- `run_proof` leaves the outcome of the records read, with the nodes that do not stay dropped. Assumes nothing.
use mathlib.Core.Path.{refl, sym, ap, ◌∙◌}
use lib.ListN.{length}
use Rattle.table.specs.Indexed.{table_of}
use Rattle.verdict.specs.Steps as steps
use Rattle.verdict.specs.Check.{proof_from}
use Rattle.state.specs.declared.State.{State}
use Rattle.state.specs.States.{Lent, lent_of}
use Rattle.session.proofs.Finish.{judged-is, first-is, first-held}
use Rattle.session.proofs.proof.run_proof.Goals as goal

pub read_commands-ended-requires : goal.read_commands-ended-requires
read_commands-ended-requires c =
    let a = c.args in (
      first-held a.variables (lent_of a.vars.now a.lows.now a.highs.now a.heads.now a.links.now a.members.now
          a.scratch.now a.struck.now) a.count a.made c.requires.0 c.requires.2 c.requires.6 c.requires.1
          c.requires.3,
      c.requires.4,
      c.requires.5,
    )

pub drop_to-requires : goal.drop_to-requires
drop_to-requires c =
    let E = c.read_commands-ended.ensures.fact in (E.good, E.least, E.kept)

pub shape_of-vars : goal.shape_of-vars
shape_of-vars c =
    c.drop_to.auto.vars ∙ c.read_commands-ended.auto.vars

pub shape_of-lows : goal.shape_of-lows
shape_of-lows c =
    c.drop_to.auto.lows ∙ c.read_commands-ended.auto.lows

pub shape_of-highs : goal.shape_of-highs
shape_of-highs c =
    c.drop_to.auto.highs ∙ c.read_commands-ended.auto.highs

pub shape_of-heads : goal.shape_of-heads
shape_of-heads c =
    c.drop_to.auto.heads ∙ c.read_commands-ended.auto.heads

pub shape_of-links : goal.shape_of-links
shape_of-links c =
    c.drop_to.auto.links ∙ c.read_commands-ended.auto.links

pub shape_of-memo : goal.shape_of-memo
shape_of-memo c =
    c.read_commands-ended.auto.memo

pub shape_of-marks : goal.shape_of-marks
shape_of-marks c =
    c.read_commands-ended.auto.marks

pub shape_of-members : goal.shape_of-members
shape_of-members c =
    c.read_commands-ended.auto.members

pub shape_of-scratch : goal.shape_of-scratch
shape_of-scratch c =
    c.read_commands-ended.auto.scratch

pub shape_of-struck : goal.shape_of-struck
shape_of-struck c =
    c.read_commands-ended.auto.struck

pub returns : goal.returns
returns c =
    let c12 = c.before.before.before.before.before.before.before.before.before.before.before.before in
    let c24 = c12.before.before.before.before.before.before.before.before.before.before.before.before in
    let c36 = c24.before.before.before.before.before.before.before.before.before.before.before.before in
    let after-read-commands =
    c36.before.before in
    let after-drop-to = c.before.before.before.before.before.before.before.before.before.before.before in
    let a = c.args in
    let l : Lent = lent_of after-read-commands.read_commands-ended.new.vars after-read-commands.read_commands-ended.new.lows
    after-read-commands.read_commands-ended.new.highs after-read-commands.read_commands-ended.new.heads
    after-read-commands.read_commands-ended.new.links after-read-commands.read_commands-ended.new.members
    after-read-commands.read_commands-ended.new.scratch after-read-commands.read_commands-ended.new.struck in
    let st : State = c.read_commands-ended.result.state in
    judged-is l st c.read_commands-ended.ensures.fact
    (table_of after-drop-to.drop_to.new.vars after-drop-to.drop_to.new.lows after-drop-to.drop_to.new.highs after-drop-to.drop_to.new.heads
    after-drop-to.drop_to.new.links st.kept) refl c.drop_to.ensures _ _
    c.read_commands-ended.auto.vars c.read_commands-ended.auto.members _ _ _ _ _
    (ap (λ (first : steps.State). proof_from a.mode a.variables (length a.vars.now) a.proof.now first)
    (sym (first-is a.variables (lent_of a.vars.now a.lows.now a.highs.now a.heads.now a.links.now a.members.now
    a.scratch.now a.struck.now) a.count a.made c.requires.0 c.requires.2 c.requires.6))
    ∙ c.read_commands-ended.ensures.first_after)
