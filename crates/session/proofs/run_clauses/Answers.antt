-- `run_clauses` leaves the outcome of the clauses: emptied lists where the formula is refused, else what the proof leaves. Assumes nothing.
use mathlib.Core.Path.{sym, ap, ◌∙◌, subst}
use native.Mathlib.Omega.{arith}
use lib.ListN.{length}
use Rattle.conflict.specs.Marks.{unmarked}
use Rattle.verdict.specs.Check.{zeros}
use Rattle.formula.specs.Formula.{Begins}
use Rattle.formula.proofs.Emptied.{opened-good}
use Rattle.session.proofs.Finish.{refused-is, begun-is, unbegun-is}
use Rattle.session.proofs.run_clauses.Goals as goal

pub read_clauses-requires : goal.read_clauses-requires
read_clauses-requires c =
    record {
      opened = c.requires.opened;
      variables_bound =
          (c.requires.variables_bound.0, c.requires.variables_bound.1, c.requires.variables_bound.2);
    }

pub run_proof-requires : goal.run_proof-requires
run_proof-requires c =
    let c12 = c.before.before.before.before.before.before.before.before.before.before.before.before in
    let c24 = c12.before.before.before.before.before.before.before.before.before.before.before.before in
    let after-read-clauses = c24 in (
      subst (Begins c.args.variables after-read-clauses.read_clauses.new.vars after-read-clauses.read_clauses.new.lows
          after-read-clauses.read_clauses.new.highs after-read-clauses.read_clauses.new.heads after-read-clauses.read_clauses.new.links
          after-read-clauses.read_clauses.new.members)
          c.in-Begun.is c.read_clauses.ensures.begins,
      c.requires.variables_bound.0,
      omega (arith, c.requires.opened.room, c.read_clauses.auto.members),
      c.requires.variables_bound.3,
      c.requires.variables_bound.4 ∙ ap unmarked (sym c.read_clauses.auto.vars),
      omega (arith, c.requires.variables_bound.5, c.read_clauses.auto.vars),
      c.requires.variables_bound.6 ∙ ap zeros (sym c.read_clauses.auto.members),
    )

pub shape_of-vars-in-Refused : goal.shape_of-vars-in-Refused
shape_of-vars-in-Refused c =
    c.empty.auto.vars ∙ c.read_clauses.auto.vars

pub shape_of-lows-in-Refused : goal.shape_of-lows-in-Refused
shape_of-lows-in-Refused c =
    c.empty.auto.lows ∙ c.read_clauses.auto.lows

pub shape_of-highs-in-Refused : goal.shape_of-highs-in-Refused
shape_of-highs-in-Refused c =
    c.empty.auto.highs ∙ c.read_clauses.auto.highs

pub shape_of-heads-in-Refused : goal.shape_of-heads-in-Refused
shape_of-heads-in-Refused c =
    c.empty.auto.heads ∙ c.read_clauses.auto.heads

pub shape_of-links-in-Refused : goal.shape_of-links-in-Refused
shape_of-links-in-Refused c =
    c.empty.auto.links ∙ c.read_clauses.auto.links

pub shape_of-members-in-Refused : goal.shape_of-members-in-Refused
shape_of-members-in-Refused c =
    c.empty.auto.members ∙ c.read_clauses.auto.members

pub returns-in-Refused : goal.returns-in-Refused
returns-in-Refused c =
    let c12 = c.before.before.before.before.before.before.before.before.before.before.before.before in
    let c24 = c12.before.before.before.before.before.before.before.before.before.before.before.before in
    let after-read-clauses = c24.before.before.before.before.before.before.before.before.before in
    let a = c.args in
    let G = opened-good _ _ c.requires.opened in
    refused-is (length a.vars.now) c.requires.opened.least _ _ _ _ _
    (c.empty.ensures.vars_after ∙ ap zeros c.read_clauses.auto.vars)
    (c.empty.ensures.lows_after ∙ ap zeros (c.read_clauses.auto.lows ∙ G.lows))
    (c.empty.ensures.highs_after ∙ ap zeros (c.read_clauses.auto.highs ∙ G.highs))
    (c.empty.ensures.heads_after ∙ ap zeros (c.read_clauses.auto.heads ∙ G.heads))
    (c.empty.ensures.links_after ∙ ap zeros (c.read_clauses.auto.links ∙ G.links))
    (length a.members.now) (length a.scratch.now) _ _ _ _ _
    (c.empty.ensures.members_after ∙ ap zeros c.read_clauses.auto.members) c.requires.variables_bound.6
    ∙ unbegun-is a.mode a.variables a.proof.now after-read-clauses.read_clauses.new.vars after-read-clauses.read_clauses.new.lows
    after-read-clauses.read_clauses.new.highs after-read-clauses.read_clauses.new.heads after-read-clauses.read_clauses.new.links
    after-read-clauses.read_clauses.new.members (length a.vars.now) (length a.members.now) (length a.scratch.now) _ _
    (c.read_clauses.ensures.from_value a.mode a.proof.now) _ _ _ c.in-Refused.is

pub shape_of-vars-in-Begun : goal.shape_of-vars-in-Begun
shape_of-vars-in-Begun c =
    c.run_proof.auto.vars ∙ c.read_clauses.auto.vars

pub shape_of-lows-in-Begun : goal.shape_of-lows-in-Begun
shape_of-lows-in-Begun c =
    c.run_proof.auto.lows ∙ c.read_clauses.auto.lows

pub shape_of-highs-in-Begun : goal.shape_of-highs-in-Begun
shape_of-highs-in-Begun c =
    c.run_proof.auto.highs ∙ c.read_clauses.auto.highs

pub shape_of-heads-in-Begun : goal.shape_of-heads-in-Begun
shape_of-heads-in-Begun c =
    c.run_proof.auto.heads ∙ c.read_clauses.auto.heads

pub shape_of-links-in-Begun : goal.shape_of-links-in-Begun
shape_of-links-in-Begun c =
    c.run_proof.auto.links ∙ c.read_clauses.auto.links

pub shape_of-memo : goal.shape_of-memo
shape_of-memo c =
    c.run_proof.auto.memo

pub shape_of-marks : goal.shape_of-marks
shape_of-marks c =
    c.run_proof.auto.marks

pub shape_of-members-in-Begun : goal.shape_of-members-in-Begun
shape_of-members-in-Begun c =
    c.run_proof.auto.members ∙ c.read_clauses.auto.members

pub shape_of-scratch : goal.shape_of-scratch
shape_of-scratch c =
    c.run_proof.auto.scratch

pub shape_of-struck : goal.shape_of-struck
shape_of-struck c =
    c.run_proof.auto.struck

pub returns-in-Begun : goal.returns-in-Begun
returns-in-Begun c =
    let c12 = c.before.before.before.before.before.before.before.before.before.before.before.before in
    let c24 = c12.before.before.before.before.before.before.before.before.before.before.before.before in
    let c36 = c24.before.before.before.before.before.before.before.before.before.before.before.before in
    let after-read-clauses = c36.before.before.before.before.before.before.before.before.before in
    let a = c.args in
    c.run_proof.ensures ∙ begun-is a.mode a.variables a.proof.now after-read-clauses.read_clauses.new.vars
    after-read-clauses.read_clauses.new.lows after-read-clauses.read_clauses.new.highs after-read-clauses.read_clauses.new.heads
    after-read-clauses.read_clauses.new.links after-read-clauses.read_clauses.new.members (length a.vars.now) (length a.members.now)
    (length a.scratch.now) _ _
    (c.read_clauses.ensures.from_value a.mode a.proof.now) _ _ c.in-Begun.is
    c.read_clauses.auto.vars c.read_clauses.auto.members
