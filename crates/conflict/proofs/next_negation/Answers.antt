-- The walk over the asked: those passed over have no negation but 0. Assumes nothing.
use mathlib.Core.Path.{sym, ◌∙◌, subst}
use Prim.Native.Nat.{◌-◌}
use native.Mathlib.Omega.{arith}
use lib.ListN.{get_or}
use Rattle.meaning.proofs.Booleans.{t≢f}
use Rattle.table.specs.Indexed.{Table, table_of, nodes_of}
use Rattle.walks.proofs.Here.{good-readable}
use Rattle.conflict.specs.Members.{NegationSays}
use Rattle.conflict.proofs.Asked.{passed_none, passed-next}
use Rattle.conflict.proofs.next_negation.Goals as goal

pub loop-i-init : goal.loop-i-init
loop-i-init c =
    let table : Table =
    let a = c.args in table_of a.vars.now a.lows.now a.highs.now a.heads.now a.links.now a.count in
    passed_none table c.args.asked.now c.args.all c.args.from c.requires.2

pub is_asked-requires : goal.is_asked-requires
is_asked-requires c =
    let table : Table =
    let a = c.args in table_of a.vars.now a.lows.now a.highs.now a.heads.now a.links.now a.count in (
      good-readable table c.requires.0,
      c.requires.1 c.loop-i.i
          c.loop-i-test.true,
    )

pub negation_of-requires : goal.negation_of-requires
negation_of-requires c =
    (c.requires.0, c.requires.1 c.loop-i.i c.loop-i-test.true)

pub loop-i-smaller-in-Unlisted : goal.loop-i-smaller-in-Unlisted
loop-i-smaller-in-Unlisted c = omega (arith, c.loop-i-test.true)

pub loop-i-preserved-in-Unlisted : goal.loop-i-preserved-in-Unlisted
loop-i-preserved-in-Unlisted c =
    let table : Table =
    let a = c.args in table_of a.vars.now a.lows.now a.highs.now a.heads.now a.links.now a.count in
    let a = c.args in
    passed-next table a.asked.now a.all a.from c.loop-i.i c.loop-i.invariant c.loop-i-test.true
    (λ _. subst (NegationSays table (get_or a.asked.now c.loop-i.i 0)) c.in-Unlisted.is
    c.negation_of.ensures)

pub returns-in-At : goal.returns-in-At
returns-in-At c =
    let table : Table =
    let a = c.args in table_of a.vars.now a.lows.now a.highs.now a.heads.now a.links.now a.count in (
      c.loop-i.invariant,
      λ _. (
        c.loop-i-test.true,
        subst (NegationSays table (get_or c.args.asked.now c.loop-i.i 0))
            c.in-At.is c.negation_of.ensures,
      ),
    )

pub returns-in-Unknown : goal.returns-in-Unknown
returns-in-Unknown c = (c.loop-i.invariant, λ z. t≢f (sym z))

pub loop-i-smaller : goal.loop-i-smaller
loop-i-smaller c = omega (arith, c.loop-i-test.true)

pub loop-i-preserved : goal.loop-i-preserved
unfolding nodes_of
loop-i-preserved c =
    let table : Table =
    let a = c.args in table_of a.vars.now a.lows.now a.highs.now a.heads.now a.links.now a.count in
    let a = c.args in
    passed-next table a.asked.now a.all a.from c.loop-i.i c.loop-i.invariant c.loop-i-test.true
    (λ e. t≢f (sym e ∙ sym c.is_asked.ensures ∙ c.if-is_asked.false))

pub returns : goal.returns
returns c = (c.loop-i.invariant, λ z. t≢f (sym z))
