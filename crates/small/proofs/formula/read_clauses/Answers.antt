-- `read_clauses`: the formula's clauses as words. The idea: what is left of the loop is what is left of the reading. Assumes nothing.
use mathlib.Core.Path.{refl, sym, ap, ◌∙◌}
use Rattle.std.specs.Prelude.{Ok}
use native.Mathlib.Omega.{arith}
use lib.ListN.{length-set}
use Rattle.small.proofs.RunWays.{building-start, building-end, building-refused, building-more, building-next}
use Rattle.small.proofs.formula.read_clauses.Goals as goal

pub loop-c-init : goal.loop-c-init
loop-c-init c = (
  building-start c.args.variables c.args.wanted c.args.from
      c.args.formula.now c.requires.0 c.requires.1 c.requires.2
      c.args.members.now c.requires.3,
  refl,
)

pub overflow_sub-wanted : goal.overflow_sub-wanted
overflow_sub-wanted c = c.loop-c.invariant.0.counted

pub next_clause-requires : goal.next_clause-requires
next_clause-requires c = (c.loop-c.invariant.0.within, omega (arith, c.loop-c.invariant.0.narrow))

pub shape_of-members-in-Ok-None : goal.shape_of-members-in-Ok-None
shape_of-members-in-Ok-None c = c.loop-c.invariant.1

pub returns-in-Ok-None : goal.returns-in-Ok-None
returns-in-Ok-None c = record {
  by_index = building-end c.args.variables c.args.wanted c.args.from
      c.args.formula.now c.loop-c.members c.loop-c.made
      c.loop-c.at c.loop-c.invariant.0
      (sym c.next_clause.ensures ∙ c.in-Ok-None.is ∙ ap Ok c.in-Ok-None.field-0-is);
  begins = omega
      (arith, c.loop-c.invariant.0.counted, c.loop-c.invariant.0.limit);
}

pub shape_of-members-in-Err : goal.shape_of-members-in-Err
shape_of-members-in-Err c = c.loop-c.invariant.1

pub returns-in-Err : goal.returns-in-Err
returns-in-Err c = record {
  by_index = building-refused c.args.variables c.args.wanted
      c.args.from c.args.formula.now c.loop-c.members
      c.loop-c.made c.loop-c.at c.loop-c.invariant.0
      _
      (sym c.next_clause.ensures ∙ c.in-Err.is);
  begins = tt;
}

pub offset_bounds-members-made : goal.offset_bounds-members-made
offset_bounds-members-made c = omega (arith, c.loop-c.invariant.0.counted, c.loop-c.invariant.0.limit)

pub bounds-members-made : goal.bounds-members-made
bounds-members-made c = omega (
  arith,
  building-more c.args.variables c.args.wanted
      c.args.from c.args.formula.now c.loop-c.members
      c.loop-c.made c.loop-c.at c.loop-c.invariant.0
      c.in-Ok-Some.c (sym c.next_clause.ensures ∙ c.in-Ok-Some.is ∙ ap Ok c.in-Ok-Some.field-0-is),
  c.loop-c.invariant.0.limit,
  c.loop-c.invariant.0.room,
)

pub overflow_add-made : goal.overflow_add-made
overflow_add-made c = omega (arith, c.loop-c.invariant.0.counted, c.loop-c.invariant.0.limit)

pub loop-c-smaller : goal.loop-c-smaller
loop-c-smaller c = omega (
  arith,
  building-more c.args.variables c.args.wanted
      c.args.from c.args.formula.now c.loop-c.members
      c.loop-c.made c.loop-c.at c.loop-c.invariant.0
      c.in-Ok-Some.c (sym c.next_clause.ensures ∙ c.in-Ok-Some.is ∙ ap Ok c.in-Ok-Some.field-0-is),
)

pub loop-c-preserved : goal.loop-c-preserved
loop-c-preserved c = (
  building-next c.args.variables c.args.wanted
      c.args.from c.args.formula.now c.loop-c.members
      c.loop-c.made c.loop-c.at c.loop-c.invariant.0
      c.in-Ok-Some.c (sym c.next_clause.ensures ∙ c.in-Ok-Some.is ∙ ap Ok c.in-Ok-Some.field-0-is)
      c.clause.result c.clause.ensures,
  length-set c.loop-c.members c.loop-c.made
      c.clause.result ∙ c.loop-c.invariant.1,
)
