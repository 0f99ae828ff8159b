-- A constant is settled by its number, a node by its variable. Assumes nothing.
use Rattle.thin.proofs.LiteralSteps.{constant-settled, node-open, ends-settled}
use Rattle.thin.proofs.literals.is_settled.Goals as goal

pub returns-then-f-lt2 : goal.returns-then-f-lt2
returns-then-f-lt2 c =
    constant-settled c.args.vars.now c.args.by c.args.f.0 c.if-f-lt2.true

pub bounds-vars-i : goal.bounds-vars-i
bounds-vars-i c =
    (c.requires (node-open c.args.vars.now c.args.by c.args.f.0 c.if-f-lt2.false)).0

pub ends_before-requires : goal.ends_before-requires
ends_before-requires c =
    let l = c.requires (node-open c.args.vars.now c.args.by c.args.f.0 c.if-f-lt2.false) in
    (l.1, l.2)

pub returns : goal.returns
returns c =
    ends-settled c.args.vars.now c.args.by c.args.f.0 c.if-f-lt2.false c.ends_before.result c.ends_before.ensures
