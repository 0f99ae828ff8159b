-- The walk over the asked: none of them so far has its negation listed, while the memo stays right. Assumes nothing.
use mathlib.Core.Path.{refl, sym, ◌∙◌, subst}
use mathlib.Core.List.{List}
use Prim.Native.Nat.{ℕ, ◌-◌}
use native.Mathlib.Omega.{arith}
use Rattle.table.specs.Indexed.{Table, table_of, nodes_of}
use Rattle.walks.proofs.Here.{good-readable}
use Rattle.negate.specs.Negations.{NegationMemo}
use Rattle.negate.proofs.Entries.{negations-cleared}
use Rattle.conflict.specs.Marks.{FoundInside}
use Rattle.conflict.proofs.Marked.{found_inside, still-unasked, still-unmarked, marked-conflict, still-none}
use Rattle.conflict.proofs.rest_negated.Goals as goal
use Rattle.conflict.proofs.rest_negated.Goals.{then-is_asked+else-is_marked, else-is_asked}

pub loop-i-init : goal.loop-i-init
loop-i-init c =
    let table : Table =
    let a = c.args in table_of a.vars.now a.lows.now a.highs.now a.heads.now a.links.now a.count in
    (refl, negations-cleared table _ c.clear_cells.ensures, λ list M N. N)

pub is_asked-requires : goal.is_asked-requires
is_asked-requires c =
    let table : Table =
    let a = c.args in table_of a.vars.now a.lows.now a.highs.now a.heads.now a.links.now a.count in (
      good-readable table c.requires.0.good,
      c.requires.0.inside c.loop-i.i
          c.loop-i-test.true,
    )

pub negation_from-r-requires : goal.negation_from-r-requires
negation_from-r-requires c =
    let r = c.requires in
    record {
      good = r.0.good;
      inside = r.0.inside c.loop-i.i c.loop-i-test.true;
      room = omega (arith, c.loop-i.invariant.0, c.clear_cells.auto.memo, r.0.room);
      right = c.loop-i.invariant.1;
    }

pub is_marked-requires : goal.is_marked-requires
is_marked-requires c =
    let table : Table =
    let a = c.args in table_of a.vars.now a.lows.now a.highs.now a.heads.now a.links.now a.count in
    subst (λ n. FoundInside n c.negation_from-r.result) (sym c.requires.2)
    (found_inside table c.requires.0.good c.args.asked.now c.requires.0.inside _ c.negation_from-r.result c.negation_from-r.ensures.fact)

pub returns-then-is_marked : goal.returns-then-is_marked
returns-then-is_marked c =
    let table : Table =
    let a = c.args in table_of a.vars.now a.lows.now a.highs.now a.heads.now a.links.now a.count in
    let a = c.args in
    λ list M N. sym (marked-conflict table c.requires.0.good a.asked.now a.marks.now a.all a.from c.loop-i.i
    c.loop-i-test.true c.negation_from-r.result c.negation_from-r.ensures.fact
    (sym c.is_marked.ensures ∙ c.if-is_marked.true) list M)

pub loop-i-preserved : goal.loop-i-preserved
unfolding nodes_of
loop-i-preserved c =
    let table : Table =
    let a = c.args in table_of a.vars.now a.lows.now a.highs.now a.heads.now a.links.now a.count in
    let a = c.args in
    let p = c.loop-i-test.true in
    elim c.if-is_asked.branch [
      | then-is_asked+else-is_marked w ↦ (
        c.if-is_asked.auto.memo ∙ c.loop-i.invariant.0,
        subst (λ (m : List ℕ). NegationMemo m table) (sym w.memo-is) w.negation_from-r.ensures.fact_2,
        still-unmarked table c.requires.0.good a.asked.now a.marks.now a.all a.from c.loop-i.i p w.negation_from-r.result
            w.negation_from-r.ensures.fact (sym w.is_marked.ensures ∙ w.if-is_marked.false) c.loop-i.invariant.2,
      )
      | else-is_asked w ↦ (
        c.if-is_asked.auto.memo ∙ c.loop-i.invariant.0,
        subst (λ (m : List ℕ). NegationMemo m table) (sym w.memo-is) c.loop-i.invariant.1,
        still-unasked table c.requires.0.good a.asked.now a.marks.now a.all a.from c.loop-i.i p
            (sym c.is_asked.ensures ∙ w.if-is_asked.false) c.loop-i.invariant.2,
      )
    ]

pub returns : goal.returns
returns c =
    let table : Table =
    let a = c.args in table_of a.vars.now a.lows.now a.highs.now a.heads.now a.links.now a.count in
    let a = c.args in
    λ list M N. sym (still-none table c.requires.0.good a.asked.now a.marks.now a.all a.from c.loop-i.i
    (omega (arith, c.loop-i-test.false)) c.loop-i.invariant.2 list M N)
