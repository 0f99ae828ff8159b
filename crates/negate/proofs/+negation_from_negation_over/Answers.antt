-- `negation_from` and `negation_over` give the negation's node or say that there is none, and the memo stays right. Assumes nothing.
use mathlib.Core.Path.{sym, subst}
use Prim.Native.Nat.{ℕ}
use native.Mathlib.Omega.{arith}
use lib.ListN.{get_or, set}
use Rattle.table.specs.declared.Found.TheVariants.{At}
use Rattle.table.specs.Indexed.{table_of}
use Rattle.walks.proofs.Here.{Here, here, good-readable}
use Rattle.negate.specs.Negations.{Negates, NegationMemo}
use Rattle.negate.proofs.Branches.{negates-zero, negates-one, negates-low, negates-high, negates-lookup}
use Rattle.negate.proofs.Entries.{negation-known, negation-stored}
use Rattle.negate.proofs.+negation_from_negation_over.Goals as goal

pub negation_from-returns-then-f-eq0-clause-fact : goal.negation_from-returns-then-f-eq0-clause-fact
negation_from-returns-then-f-eq0-clause-fact t c =
    let T = table_of c.args.vars.now c.args.lows.now c.args.highs.now c.args.heads.now c.args.links.now c.args.count in
    subst (λ (k : ℕ). Negates T k (At (record { 0 = 1 }))) (sym c.if-f-eq0.true) (negates-zero T c.requires.good)

pub negation_from-returns-then-f-eq1-clause-fact : goal.negation_from-returns-then-f-eq1-clause-fact
negation_from-returns-then-f-eq1-clause-fact t c =
    let T = table_of c.args.vars.now c.args.lows.now c.args.highs.now c.args.heads.now c.args.links.now c.args.count in
    subst (λ (k : ℕ). Negates T k (At (record { 0 = 0 }))) (sym c.if-f-eq1.true) (negates-one T c.requires.good)

pub negation_from-returns-then-e-f-clause-fact : goal.negation_from-returns-then-e-f-clause-fact
negation_from-returns-then-e-f-clause-fact t c =
    let T = table_of c.args.vars.now c.args.lows.now c.args.highs.now c.args.heads.now c.args.links.now c.args.count in
    subst (Negates T c.args.f.0) (sym c.found_in.ensures)
    (negation-known T c.args.memo.now c.args.f.0 c.requires.inside c.requires.right c.if-e-f.true
    (omega (arith, c.if-f-eq0.false, c.if-f-eq1.false)))

pub negation_from-returns-clause-fact_2 : goal.negation_from-returns-clause-fact_2
negation_from-returns-clause-fact_2 t c =
    let T = table_of c.args.vars.now c.args.lows.now c.args.highs.now c.args.heads.now c.args.links.now c.args.count in
    subst (λ (e : ℕ). NegationMemo (set c.negation_over-r.new.memo c.args.f.0 e) T) (sym c.entry_of.ensures)
    (negation-stored T c.negation_over-r.new.memo c.requires.good c.args.f.0 c.negation_over-r.result
    (omega (arith, c.requires.room, c.requires.inside, c.requires.good.within, c.negation_over-r.auto.memo))
    c.negation_over-r.ensures.fact_2 c.negation_over-r.ensures.fact)

pub negation_over-negation_from-requires : goal.negation_over-negation_from-requires
negation_over-negation_from-requires t c =
    let T = table_of c.args.vars.now c.args.lows.now c.args.highs.now c.args.heads.now c.args.links.now c.args.count in
    let H : Here c.args.vars.now c.args.lows.now c.args.highs.now c.args.count c.args.f.0 =
    here _ _ _ _ (good-readable T c.requires.0.good) _ c.requires.1 c.requires.0.inside in (
      omega (arith, c.decreases, H.low-less),
      record {
        good = c.requires.0.good;
        inside = omega (arith, c.requires.0.inside, H.low-less);
        room = c.requires.0.room;
        right = c.requires.0.right;
      },
    )

pub negation_over-negation_from-requires-in-At : goal.negation_over-negation_from-requires-in-At
negation_over-negation_from-requires-in-At t c =
    let T = table_of c.args.vars.now c.args.lows.now c.args.highs.now c.args.heads.now c.args.links.now c.args.count in
    let H : Here c.args.vars.now c.args.lows.now c.args.highs.now c.args.count c.args.f.0 =
    here _ _ _ _ (good-readable T c.requires.0.good) _ c.requires.1 c.requires.0.inside in (
      omega (arith, c.decreases, H.high-less),
      record {
        good = c.requires.0.good;
        inside = omega (arith, c.requires.0.inside, H.high-less);
        room = omega (arith, c.requires.0.room, c.negation_from.auto.memo);
        right = c.negation_from.ensures.fact_2;
      },
    )

pub negation_over-returns-in-At-negation_from-clause-fact : goal.negation_over-returns-in-At-negation_from-clause-fact
negation_over-returns-in-At-negation_from-clause-fact t c =
    let T = table_of c.args.vars.now c.args.lows.now c.args.highs.now c.args.heads.now c.args.links.now c.args.count in
    negates-lookup T c.requires.0.good c.args.f.0 c.requires.1 c.requires.0.inside c.in-At.l c.in-At-negation_from.h c.lookup.result
    (subst (Negates T (get_or c.args.lows.now c.args.f.0 0)) c.in-At.is c.negation_from.ensures.fact)
    (subst (Negates T (get_or c.args.highs.now c.args.f.0 0)) c.in-At-negation_from.is c.negation_from-in-At.ensures.fact)
    c.lookup.ensures

pub negation_over-returns-in-Nothing-negation_from-clause-fact : goal.negation_over-returns-in-Nothing-negation_from-clause-fact
negation_over-returns-in-Nothing-negation_from-clause-fact t c =
    let T = table_of c.args.vars.now c.args.lows.now c.args.highs.now c.args.heads.now c.args.links.now c.args.count in
    negates-high T c.requires.0.good c.args.f.0 c.requires.1 c.requires.0.inside
    (subst (Negates T (get_or c.args.highs.now c.args.f.0 0)) c.in-Nothing-negation_from.is c.negation_from-in-At.ensures.fact)

pub negation_over-returns-in-Nothing-clause-fact : goal.negation_over-returns-in-Nothing-clause-fact
negation_over-returns-in-Nothing-clause-fact t c =
    let T = table_of c.args.vars.now c.args.lows.now c.args.highs.now c.args.heads.now c.args.links.now c.args.count in
    negates-low T c.requires.0.good c.args.f.0 c.requires.1 c.requires.0.inside
    (subst (Negates T (get_or c.args.lows.now c.args.f.0 0)) c.in-Nothing.is c.negation_from.ensures.fact)
