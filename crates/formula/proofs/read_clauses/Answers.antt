-- `read_clauses` says what the definition says of the clauses: at the loop's head what is to be said is what is left to be said
-- (Building). Assumes nothing.
use mathlib.Core.Path.{refl, sym, ap, ◌∙◌}
use Rattle.std.specs.Prelude.{Ok}
use native.Mathlib.Omega.{arith}
use lib.ListN.{length-set}
use Rattle.table.specs.Indexed.{Outcome, outcome_of}
use Rattle.formula.proofs.Building.{building-start, building-end, building-refused, building-more, building-full}
use Rattle.formula.proofs.Building.{building-next}
use Rattle.formula.proofs.read_clauses.Reads as reads
use Rattle.formula.proofs.read_clauses.Lts as lts
use Rattle.formula.proofs.read_clauses.Tie as tie
use Rattle.formula.proofs.read_clauses.Goals as goal

-- what making the clause leaves
module _ (a : lts.After-make tie.the-claims reads.Pre reads.Post goal.the-invariant-loop-c goal.the-decreases-loop-c
    tie.handed_clauses) where
  abbrev left : Outcome
  left =
      outcome_of a.make-p.new.vars a.make-p.new.lows a.make-p.new.highs a.make-p.new.heads a.make-p.new.links a.make-p.result

pub loop-c-init : goal.loop-c-init
loop-c-init c = (
  building-start _ _ _ _ _ (omega (arith, c.requires)) (omega (arith, c.requires)) (omega (arith, c.requires)) _ _ refl c.requires.opened,
  refl,
  refl,
  refl,
  refl,
  refl,
  refl,
)

pub overflow_sub-wanted : goal.overflow_sub-wanted
overflow_sub-wanted c =
    omega (arith, c.loop-c.invariant.0.counted)

pub next_clause-requires : goal.next_clause-requires
next_clause-requires c =
    (c.loop-c.invariant.0.within, c.loop-c.invariant.0.narrow)

pub shape_of-vars-in-Ok-None : goal.shape_of-vars-in-Ok-None
shape_of-vars-in-Ok-None c =
    c.loop-c.invariant.1

pub shape_of-lows-in-Ok-None : goal.shape_of-lows-in-Ok-None
shape_of-lows-in-Ok-None c =
    c.loop-c.invariant.2

pub shape_of-highs-in-Ok-None : goal.shape_of-highs-in-Ok-None
shape_of-highs-in-Ok-None c =
    c.loop-c.invariant.3

pub shape_of-heads-in-Ok-None : goal.shape_of-heads-in-Ok-None
shape_of-heads-in-Ok-None c =
    c.loop-c.invariant.4

pub shape_of-links-in-Ok-None : goal.shape_of-links-in-Ok-None
shape_of-links-in-Ok-None c =
    c.loop-c.invariant.5

pub shape_of-members-in-Ok-None : goal.shape_of-members-in-Ok-None
shape_of-members-in-Ok-None c =
    c.loop-c.invariant.6

pub returns-in-Ok-None : goal.returns-in-Ok-None
returns-in-Ok-None c = record {
  from_value = building-end _ _ _ _ _ _ _ _ _ c.loop-c.invariant.0
      (sym c.next_clause.ensures ∙ c.in-Ok-None.is ∙ ap Ok c.in-Ok-None.field-0-is);
  begins = c.loop-c.invariant.0.built;
}

pub shape_of-vars-in-Err : goal.shape_of-vars-in-Err
shape_of-vars-in-Err c =
    c.loop-c.invariant.1

pub shape_of-lows-in-Err : goal.shape_of-lows-in-Err
shape_of-lows-in-Err c =
    c.loop-c.invariant.2

pub shape_of-highs-in-Err : goal.shape_of-highs-in-Err
shape_of-highs-in-Err c =
    c.loop-c.invariant.3

pub shape_of-heads-in-Err : goal.shape_of-heads-in-Err
shape_of-heads-in-Err c =
    c.loop-c.invariant.4

pub shape_of-links-in-Err : goal.shape_of-links-in-Err
shape_of-links-in-Err c =
    c.loop-c.invariant.5

pub shape_of-members-in-Err : goal.shape_of-members-in-Err
shape_of-members-in-Err c =
    c.loop-c.invariant.6

pub returns-in-Err : goal.returns-in-Err
returns-in-Err c =
    record {
      from_value = building-refused _ _ _ _ _ _ _ _ _ c.loop-c.invariant.0 _
          (sym c.next_clause.ensures ∙ c.in-Err.is);
      begins = tt;
    }

pub make-p-requires : goal.make-p-requires
make-p-requires c =
    c.loop-c.invariant.0.built.good

pub shape_of-vars-then-p : goal.shape_of-vars-then-p
shape_of-vars-then-p c =
    c.make-p.auto.vars ∙ c.loop-c.invariant.1

pub shape_of-lows-then-p : goal.shape_of-lows-then-p
shape_of-lows-then-p c =
    c.make-p.auto.lows ∙ c.loop-c.invariant.2

pub shape_of-highs-then-p : goal.shape_of-highs-then-p
shape_of-highs-then-p c =
    c.make-p.auto.highs ∙ c.loop-c.invariant.3

pub shape_of-heads-then-p : goal.shape_of-heads-then-p
shape_of-heads-then-p c =
    c.make-p.auto.heads ∙ c.loop-c.invariant.4

pub shape_of-links-then-p : goal.shape_of-links-then-p
shape_of-links-then-p c =
    c.make-p.auto.links ∙ c.loop-c.invariant.5

pub shape_of-members-then-p : goal.shape_of-members-then-p
shape_of-members-then-p c =
    c.loop-c.invariant.6

pub returns-then-p : goal.returns-then-p
returns-then-p c =
    let after-make = c.before.before.before.before.before.before.before.before.before.before.before.before in record {
      from_value = building-full _ _ _ _ _ _ _ _ _ c.loop-c.invariant.0 _ (sym c.next_clause.ensures ∙ c.in-Ok-Some.is ∙ ap Ok c.in-Ok-Some.field-0-is)
          (left after-make) c.make-p.ensures c.if-p.true;
      begins = tt;
    }

pub offset_bounds-members-made : goal.offset_bounds-members-made
offset_bounds-members-made c =
    omega (arith, c.loop-c.invariant.0.limit, c.loop-c.invariant.0.counted)

pub bounds-members-made : goal.bounds-members-made
bounds-members-made c =
    omega (
      arith,
      c.loop-c.invariant.0.limit,
      c.loop-c.invariant.0.room,
      building-more _ _ _ _ _ _ _ _ _ c.loop-c.invariant.0 _ (sym c.next_clause.ensures ∙ c.in-Ok-Some.is ∙ ap Ok c.in-Ok-Some.field-0-is),
    )

pub overflow_add-made : goal.overflow_add-made
overflow_add-made c =
    omega (arith, c.loop-c.invariant.0.limit, c.loop-c.invariant.0.counted)

pub loop-c-smaller : goal.loop-c-smaller
loop-c-smaller c =
    omega (
      arith,
      building-more _ _ _ _ _ _ _ _ _ c.loop-c.invariant.0 _
          (sym c.next_clause.ensures ∙ c.in-Ok-Some.is ∙ ap Ok c.in-Ok-Some.field-0-is),
    )

pub loop-c-preserved : goal.loop-c-preserved
loop-c-preserved c =
    let c12 = c.before.before.before.before.before.before.before.before.before.before.before.before in
    let after-make = c12.before in (
      building-next _ _ _ _ _ _ _ _ _ c.loop-c.invariant.0 _ (sym c.next_clause.ensures ∙ c.in-Ok-Some.is ∙ ap Ok c.in-Ok-Some.field-0-is)
          (left after-make) c.make-p.ensures c.if-p.false,
      c.make-p.auto.vars ∙ c.loop-c.invariant.1,
      c.make-p.auto.lows ∙ c.loop-c.invariant.2,
      c.make-p.auto.highs ∙ c.loop-c.invariant.3,
      c.make-p.auto.heads ∙ c.loop-c.invariant.4,
      c.make-p.auto.links ∙ c.loop-c.invariant.5,
      length-set c.loop-c.members c.loop-c.made _ ∙ c.loop-c.invariant.6,
    )
