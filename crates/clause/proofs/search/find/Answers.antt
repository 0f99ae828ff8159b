-- `find` finds where the clause's diagram stands: at the start of each turn the clause of the later variables does (Making). Assumes
-- nothing.
use mathlib.Core.Path.{sym, ◌∙◌, subst}
use Prim.Native.Nat.{◌-◌}
use Rattle.table.specs.Nodes.{put}
use Rattle.table.specs.declared.Found.{Found}
use Rattle.table.specs.Indexed.{table_of, size, nodes_of}
use Rattle.clause.specs.Words.{Stands}
use Rattle.clause.proofs.Making.{make-start}
use Rattle.clause.proofs.Finding.{find-both, find-turn, find_absent, find-end}
use Rattle.clause.proofs.search.find.Goals as goal

pub returns-then-shared : goal.returns-then-shared
returns-then-shared c =
    find-both (table_of c.args.vars.now c.args.lows.now c.args.highs.now c.args.heads.now c.args.links.now c.args.count) c.requires
    c.args.literals (sym c.shared.ensures ∙ c.if-shared.true)

pub loop-v-init : goal.loop-v-init
loop-v-init c = make-start _ c.requires _

pub returns-in-Nothing : goal.returns-in-Nothing
returns-in-Nothing c =
    let T = table_of c.args.vars.now c.args.lows.now c.args.highs.now c.args.heads.now c.args.links.now c.args.count in
    find_absent T c.requires c.args.literals (sym c.shared.ensures ∙ c.if-shared.false) c.loop-v.v c.loop-v-test.true c.loop-v.node.0
    c.loop-v.invariant c.side-low.result.0 c.side-high.result.0 c.side-low.ensures c.side-high.ensures
    (subst (λ (r : Found). Stands (nodes_of T) (put (size T) (nodes_of T) c.loop-v.v c.side-low.result.0 c.side-high.result.0) r)
    c.in-Nothing.is c.over.ensures)

pub loop-v-preserved : goal.loop-v-preserved
loop-v-preserved c =
    let T = table_of c.args.vars.now c.args.lows.now c.args.highs.now c.args.heads.now c.args.links.now c.args.count in
    find-turn T c.requires c.args.literals (sym c.shared.ensures ∙ c.if-shared.false) c.loop-v.v c.loop-v-test.true c.loop-v.node.0
    c.loop-v.invariant c.side-low.result.0 c.side-high.result.0 c.side-low.ensures c.side-high.ensures c.in-At.k.0
    (subst (λ (r : Found). Stands (nodes_of T) (put (size T) (nodes_of T) c.loop-v.v c.side-low.result.0 c.side-high.result.0) r)
    c.in-At.is c.over.ensures)

pub returns : goal.returns
returns c =
    find-end (table_of c.args.vars.now c.args.lows.now c.args.highs.now c.args.heads.now c.args.links.now c.args.count) c.requires
    c.args.literals c.loop-v.v c.loop-v-test.false c.loop-v.node.0 c.loop-v.invariant
