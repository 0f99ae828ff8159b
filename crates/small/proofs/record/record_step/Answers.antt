-- `record_step`: each kind of record by its function. Assumes nothing.
use mathlib.Core.Path.{refl}
use Rattle.std.proofs.Common.{Ok, Err, ⊎_elim}
use Rattle.std.proofs.lemmas.Result.{err_from_is_err_and}
use Rattle.small.proofs.RecordWays.{entered-halt}
use Rattle.small.specs.Lent.{words_lent, state_of}
use Rattle.small.proofs.RunWays.{held-6, step-node, step_set, step-witness, step_line, step-strike, step_end, step_cut, step-unknown}
use Rattle.small.proofs.RunWays.{step-none}
use Rattle.small.proofs.record.record_step.Goals as goal

pub line_step-requires : goal.line_step-requires
line_step-requires c = held-6 _ _ _ c.requires

pub returns-in_err-w-in-NodeEntry : goal.returns-in_err-w-in-NodeEntry
returns-in_err-w-in-NodeEntry c =
    let p = err_from_is_err_and c.from_residual.result c.from_residual.ensures.1 in
    rw (p.1, p.2) (step-node c.args.variables _ (state_of
    (words_lent c.args.members.now c.args.struck.now c.args.scratch.now)
    c.args.st) c.args.more _ c.args.r c.in-NodeEntry.b
    c.in-NodeEntry.is (Err c.in_err-w-in-NodeEntry.field-0.0)
    (c.in_err-w-in-NodeEntry.ensures.by_index c.args.members.now c.args.struck.now)
    (entered-halt _ _ _ _ _ c.requires _ _))

pub returns-in_ok-w-in-NodeEntry : goal.returns-in_ok-w-in-NodeEntry
returns-in_ok-w-in-NodeEntry c = step-node c.args.variables _ (state_of
    (words_lent c.args.members.now c.args.struck.now c.args.scratch.now)
    c.args.st) c.args.more _ c.args.r c.in-NodeEntry.b
    c.in-NodeEntry.is (Ok c.in_ok-w-in-NodeEntry.w)
    (c.in_ok-w-in-NodeEntry.ensures.by_index c.args.members.now c.args.struck.now)
    (c.entered.ensures c.args.variables c.args.members.now
    c.args.struck.now c.requires)

pub returns-in-Witness : goal.returns-in-Witness
returns-in-Witness c = step-witness c.args.variables _ (state_of
    (words_lent c.args.members.now c.args.struck.now
    c.args.scratch.now) c.args.st) c.args.more _
    c.args.r c.in-Witness.v c.in-Witness.value
    c.in-Witness.is (c.witness_step.ensures (words_lent c.args.members.now
    c.args.struck.now c.args.scratch.now) c.requires)

pub returns-in-ProofLine : goal.returns-in-ProofLine
returns-in-ProofLine c = step_line c.args.variables _ (state_of
    (words_lent c.args.members.now c.args.struck.now
    c.args.scratch.now) c.args.st) c.args.more _
    c.args.r c.in-ProofLine.rule c.in-ProofLine.root
    c.in-ProofLine.is (c.line_step.ensures c.args.variables
    c.requires)

pub returns-in-Strike : goal.returns-in-Strike
returns-in-Strike c = step-strike c.args.variables _ (state_of
    (words_lent c.args.members.now c.args.struck.now
    c.args.scratch.now) c.args.st) c.args.more _
    c.args.r c.in-Strike.k c.in-Strike.is
    (c.strike_step.ensures c.args.variables c.args.members.now
    c.args.scratch.now c.requires)

pub returns-in_err-w-in-SetEntry : goal.returns-in_err-w-in-SetEntry
returns-in_err-w-in-SetEntry c =
    let p = err_from_is_err_and c.from_residual-in_err-w-in-SetEntry.result c.from_residual-in_err-w-in-SetEntry.ensures.1 in
    rw (p.1, p.2) (step_set c.args.variables _ (state_of
    (words_lent c.args.members.now c.args.struck.now c.args.scratch.now)
    c.args.st) c.args.more _ c.args.r
    c.in-SetEntry.kind c.in-SetEntry.b
    c.in-SetEntry.is (Err c.in_err-w-in-SetEntry.field-0.0)
    (c.in_err-w-in-SetEntry.ensures.by_index c.args.members.now c.args.struck.now
    c.args.scratch.now c.requires.places)
    (entered-halt _ _ _ _ _ c.requires _ _))

pub returns-in_ok-w-in-SetEntry : goal.returns-in_ok-w-in-SetEntry
returns-in_ok-w-in-SetEntry c = step_set c.args.variables _ (state_of
    (words_lent c.args.members.now c.args.struck.now
    c.args.scratch.now) c.args.st) c.args.more _
    c.args.r c.in-SetEntry.kind c.in-SetEntry.b
    c.in-SetEntry.is (Ok c.in_ok-w-in-SetEntry.w)
    (c.in_ok-w-in-SetEntry.ensures.by_index c.args.members.now c.args.struck.now
    c.args.scratch.now c.requires.places)
    (c.entered-in-SetEntry.ensures c.args.variables c.args.members.now
    c.args.struck.now c.requires)

pub returns-in-End : goal.returns-in-End
returns-in-End c = step_end c.args.variables _ (state_of
    (words_lent c.args.members.now c.args.struck.now
    c.args.scratch.now) c.args.st) c.args.more _
    c.args.r c.in-End.is (c.end_step.ensures c.args.variables
    (words_lent c.args.members.now c.args.struck.now
    c.args.scratch.now))

pub returns-in-CutShort : goal.returns-in-CutShort
returns-in-CutShort c = rw c.from.ensures (⊎_elim
    (λ e. step_cut c.args.variables _ (state_of
    (words_lent c.args.members.now c.args.struck.now c.args.scratch.now)
    c.args.st) c.args.more _ c.args.r e refl)
    (λ e. step-none c.args.variables _ (state_of
    (words_lent c.args.members.now c.args.struck.now c.args.scratch.now)
    c.args.st) c.args.more _ c.args.r e refl)
    c.in-CutShort.is)

pub returns-in-UnknownKind : goal.returns-in-UnknownKind
returns-in-UnknownKind c = rw c.from-in-UnknownKind.ensures (step-unknown c.args.variables _ (state_of
    (words_lent c.args.members.now c.args.struck.now c.args.scratch.now)
    c.args.st) c.args.more _ c.args.r c.in-UnknownKind.is refl)
