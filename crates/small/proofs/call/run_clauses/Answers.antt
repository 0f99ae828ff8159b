-- `run_clauses`: the clauses, then the records. Assumes nothing.
use mathlib.Core.Path.{sym, ap, ◌∙◌}
use mathlib.Core.List.{[]}
use native.Mathlib.Omega.{arith}
use Prim.Native.Nat.{ℕ, suc}
use lib.ListN.{length, replicate}
use Rattle.dimacs.specs.Clauses.{clauses_from}
use Rattle.small.specs.WordSteps.{WordState, word_clauses, word_records}
use Rattle.small.proofs.RunWays.{begins-few, first-held, first-begun, begun-said, refused-said}
use Rattle.small.proofs.call.run_clauses.Goals as goal

pub read_records-requires : goal.read_records-requires
read_records-requires c = first-held c.args.variables c.in-Ok.made
    c.read_clauses.new.members c.fill.new.self
    c.args.scratch.now c.requires.0
    (begins-few c.read_clauses.result c.in-Ok.made
    c.in-Ok.is c.read_clauses.ensures.begins)
    (omega (arith, c.requires.3, c.read_clauses.auto.members))
    (c.fill.auto.self ∙ c.requires.4 ∙ sym
    c.read_clauses.auto.members) c.requires.5
    (c.fill.ensures.after (λ y e. e) ∙ ap (λ (k : ℕ). replicate k 0)
    (sym c.fill.auto.self))

pub returns-in-Err : goal.returns-in-Err
returns-in-Err c = refused-said c.args.variables c.args.proof.now
    c.read_clauses.new.members c.read_clauses.result
    (word_clauses c.args.variables c.args.proof.now []
    (clauses_from c.args.formula.now c.args.variables c.args.wanted
    c.args.from)) (c.read_clauses.ensures.by_index c.args.proof.now)
    _ c.in-Err.is

pub returns-in-Ok : goal.returns-in-Ok
returns-in-Ok c = begun-said c.args.variables c.args.proof.now
    c.read_clauses.new.members c.read_clauses.result
    (word_clauses c.args.variables c.args.proof.now []
    (clauses_from c.args.formula.now c.args.variables c.args.wanted
    c.args.from)) (c.read_clauses.ensures.by_index c.args.proof.now)
    c.in-Ok.made c.in-Ok.is ∙ ap
    (λ (ws : WordState). word_records (suc (length c.args.proof.now)) c.args.variables
    c.args.proof.now ws 0) (sym (first-begun c.args.variables
    c.in-Ok.made c.read_clauses.new.members
    c.fill.new.self c.args.scratch.now c.requires.0
    (begins-few c.read_clauses.result c.in-Ok.made
    c.in-Ok.is c.read_clauses.ensures.begins)
    (omega (arith, c.requires.3, c.read_clauses.auto.members))
    (c.fill.auto.self ∙ c.requires.4 ∙ sym
    c.read_clauses.auto.members) c.requires.5
    (c.fill.ensures.after (λ y e. e) ∙ ap (λ (k : ℕ). replicate k 0)
    (sym c.fill.auto.self)))) ∙ c.read_records.ensures
