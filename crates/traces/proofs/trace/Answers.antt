-- `trace`: round by round the words of U are written, and the members are cofactored by it. Assumes nothing.
use mathlib.Core.Path.{refl, sym, ◌∙◌, subst}
use mathlib.Core.List.{List}
use Prim.Native.Nat.{ℕ, ◌+◌, ◌-◌, ◌<◌}
use native.Mathlib.Omega.{arith}
use lib.ListN.{length}
use Rattle.table.specs.Indexed.{Table, table_of, nodes_of}
use Rattle.table.specs.Lists.{diagrams_of}
use Rattle.walks.proofs.Here.{good-readable}
use Rattle.unit_search.specs.Units.{AreFirst}
use Rattle.traces.proofs.Tracing.{Tracing, tracing-first, tracing-ready, tracing-last, tracing-still, tracing-full, tracing-on}
use Rattle.traces.proofs.trace.Reads as reads
use Rattle.traces.proofs.trace.Lts as lts
use Rattle.traces.proofs.trace.Tie as tie
use Rattle.traces.proofs.trace.Goals as goal

abbrev entry : lts.Start tie.the-claims reads.Pre reads.Post goal.the-invariant-loop-rounds goal.the-decreases-loop-rounds
    tie.handed_clauses → Table
entry s = let a = s.args in table_of a.vars.now a.lows.now a.highs.now a.heads.now a.links.now a.count

abbrev here : lts.At-loop tie.the-claims reads.Pre reads.Post goal.the-invariant-loop-rounds goal.the-decreases-loop-rounds
    tie.handed_clauses → Table
here l = table_of l.loop-rounds.vars l.loop-rounds.lows l.loop-rounds.highs l.loop-rounds.heads l.loop-rounds.links l.loop-rounds.n

abbrev after : lts.After-round tie.the-claims reads.Pre reads.Post goal.the-invariant-loop-rounds goal.the-decreases-loop-rounds
    tie.handed_clauses → Table
after c =
    table_of c.round-made.new.vars c.round-made.new.lows c.round-made.new.highs c.round-made.new.heads c.round-made.new.links
    c.round-made.result.count

pub loop-rounds-init : goal.loop-rounds-init
loop-rounds-init c =
    let a = c.args in
    let r = c.requires in (
      tracing-first (entry c.before.before.before.before.before.before.before.before.before.before) a.list.now a.memo.now a.words.now
          a.fixed.now r.fact.0 r.fact.1 r.fact.2 r.in_bounds.1,
      refl,
      refl,
      refl,
      refl,
      refl,
      refl,
      refl,
      refl,
      refl,
    )

pub shape_of-vars-then-rounds-eq64 : goal.shape_of-vars-then-rounds-eq64
shape_of-vars-then-rounds-eq64 c =
    c.loop-rounds.invariant.1

pub shape_of-lows-then-rounds-eq64 : goal.shape_of-lows-then-rounds-eq64
shape_of-lows-then-rounds-eq64 c =
    c.loop-rounds.invariant.2

pub shape_of-highs-then-rounds-eq64 : goal.shape_of-highs-then-rounds-eq64
shape_of-highs-then-rounds-eq64 c =
    c.loop-rounds.invariant.3

pub shape_of-heads-then-rounds-eq64 : goal.shape_of-heads-then-rounds-eq64
shape_of-heads-then-rounds-eq64 c =
    c.loop-rounds.invariant.4

pub shape_of-links-then-rounds-eq64 : goal.shape_of-links-then-rounds-eq64
shape_of-links-then-rounds-eq64 c =
    c.loop-rounds.invariant.5

pub shape_of-memo-then-rounds-eq64 : goal.shape_of-memo-then-rounds-eq64
shape_of-memo-then-rounds-eq64 c =
    c.loop-rounds.invariant.6

pub shape_of-list-then-rounds-eq64 : goal.shape_of-list-then-rounds-eq64
shape_of-list-then-rounds-eq64 c =
    c.loop-rounds.invariant.7

pub shape_of-words-then-rounds-eq64 : goal.shape_of-words-then-rounds-eq64
shape_of-words-then-rounds-eq64 c =
    c.loop-rounds.invariant.8

pub shape_of-fixed-then-rounds-eq64 : goal.shape_of-fixed-then-rounds-eq64
shape_of-fixed-then-rounds-eq64 c =
    c.loop-rounds.invariant.9

pub returns-then-rounds-eq64 : goal.returns-then-rounds-eq64
returns-then-rounds-eq64 c =
    let a = c.args in
    tracing-last (entry c.before.before.before.before.before.before.before.before.before.before.before) c.requires.fact.0.good
    (diagrams_of (nodes_of (entry c.before.before.before.before.before.before.before.before.before.before.before)) a.list.now)
    (length a.fixed.now) c.requires.fact.4
    (here c.before) c.loop-rounds.list c.loop-rounds.memo c.loop-rounds.words c.loop-rounds.fixed c.loop-rounds.rounds
    c.loop-rounds.invariant.0 c.if-rounds-eq64.true

pub first_of-requires : goal.first_of-requires
first_of-requires c =
    let a = c.args in
    let R = tracing-ready (entry c.before.before.before.before.before.before.before.before.before.before.before.before)
    c.requires.fact.0.good (diagrams_of (nodes_of
    (entry c.before.before.before.before.before.before.before.before.before.before.before.before)) a.list.now) (length a.fixed.now)
    c.requires.fact.4 (here c.before.before) c.loop-rounds.list c.loop-rounds.memo c.loop-rounds.words c.loop-rounds.fixed
    c.loop-rounds.rounds c.loop-rounds.invariant.0 in
    (good-readable (here c.before.before) R.good, R.inside, R.room)

pub shape_of-vars-in-Nothing : goal.shape_of-vars-in-Nothing
shape_of-vars-in-Nothing c =
    c.loop-rounds.invariant.1

pub shape_of-lows-in-Nothing : goal.shape_of-lows-in-Nothing
shape_of-lows-in-Nothing c =
    c.loop-rounds.invariant.2

pub shape_of-highs-in-Nothing : goal.shape_of-highs-in-Nothing
shape_of-highs-in-Nothing c =
    c.loop-rounds.invariant.3

pub shape_of-heads-in-Nothing : goal.shape_of-heads-in-Nothing
shape_of-heads-in-Nothing c =
    c.loop-rounds.invariant.4

pub shape_of-links-in-Nothing : goal.shape_of-links-in-Nothing
shape_of-links-in-Nothing c =
    c.loop-rounds.invariant.5

pub shape_of-memo-in-Nothing : goal.shape_of-memo-in-Nothing
shape_of-memo-in-Nothing c =
    c.first_of.auto.memo ∙ c.loop-rounds.invariant.6

pub shape_of-list-in-Nothing : goal.shape_of-list-in-Nothing
shape_of-list-in-Nothing c =
    c.loop-rounds.invariant.7

pub shape_of-words-in-Nothing : goal.shape_of-words-in-Nothing
shape_of-words-in-Nothing c =
    c.loop-rounds.invariant.8

pub shape_of-fixed-in-Nothing : goal.shape_of-fixed-in-Nothing
shape_of-fixed-in-Nothing c =
    c.loop-rounds.invariant.9

pub returns-in-Nothing : goal.returns-in-Nothing
unfolding nodes_of
returns-in-Nothing c =
    let c12 = c.before.before.before.before.before.before.before.before.before.before.before.before in
    let a = c.args in
    tracing-still (entry c12.before.before.before.before.before) c.requires.fact.0.good
    (diagrams_of (nodes_of (entry c12.before.before.before.before.before)) a.list.now) (length a.fixed.now) c.requires.fact.4
    (here c.before.before.before.before.before.before.before) c.loop-rounds.list c.loop-rounds.memo c.loop-rounds.words c.loop-rounds.fixed
    c.loop-rounds.rounds c.loop-rounds.invariant.0
    (subst (AreFirst 64 (diagrams_of (nodes_of (here c.before.before.before.before.before.before.before)) c.loop-rounds.list))
    c.in-Nothing.is
    c.first_of.ensures)

pub note-requires : goal.note-requires
note-requires c =
    let a = c.args in (
      omega (
        arith,
        c.loop-rounds.invariant.0.going.most,
        c.if-rounds-eq64.false,
      ),
      omega (arith, c.loop-rounds.invariant.0.long, c.requires.in_bounds.0),
    )

pub round-made-requires : goal.round-made-requires
unfolding nodes_of
round-made-requires c =
    let c12 = c.before.before.before.before.before.before.before.before.before.before.before.before in
    let c24 = c12.before.before.before.before.before.before.before.before.before.before.before.before in
    let a = c.args in
    let R = tracing-ready (entry
    c24.before.before.before.before.before) c.requires.fact.0.good
    (diagrams_of (nodes_of (entry c24.before.before.before.before.before)) a.list.now) (length a.fixed.now)
    c.requires.fact.4 (here c12.before.before.before.before.before.before.before) c.loop-rounds.list c.loop-rounds.memo c.loop-rounds.words
    c.loop-rounds.fixed c.loop-rounds.rounds c.loop-rounds.invariant.0 in
    let F = subst (AreFirst 64 (diagrams_of (nodes_of
    (here c12.before.before.before.before.before.before.before)) c.loop-rounds.list))
    c.in-Of.is
    c.first_of.ensures in (
      record {
        good = R.good;
        inside = R.inside;
        room = omega (
          arith,
          R.room,
          c.first_of.auto.memo,
        );
      },
      c.loop-rounds.invariant.0.worded,
      c.loop-rounds.invariant.0.supports,
      F.0,
      omega (arith, c.loop-rounds.invariant.7, c.requires.fact.3),
    )

pub shape_of-vars-then-made : goal.shape_of-vars-then-made
shape_of-vars-then-made c =
    c.round-made.auto.vars ∙ c.loop-rounds.invariant.1

pub shape_of-lows-then-made : goal.shape_of-lows-then-made
shape_of-lows-then-made c =
    c.round-made.auto.lows ∙ c.loop-rounds.invariant.2

pub shape_of-highs-then-made : goal.shape_of-highs-then-made
shape_of-highs-then-made c =
    c.round-made.auto.highs ∙ c.loop-rounds.invariant.3

pub shape_of-heads-then-made : goal.shape_of-heads-then-made
shape_of-heads-then-made c =
    c.round-made.auto.heads ∙ c.loop-rounds.invariant.4

pub shape_of-links-then-made : goal.shape_of-links-then-made
shape_of-links-then-made c =
    c.round-made.auto.links ∙ c.loop-rounds.invariant.5

pub shape_of-memo-then-made : goal.shape_of-memo-then-made
shape_of-memo-then-made c =
    c.round-made.auto.memo ∙ c.first_of.auto.memo
    ∙ c.loop-rounds.invariant.6

pub shape_of-list-then-made : goal.shape_of-list-then-made
shape_of-list-then-made c =
    c.round-made.auto.list ∙ c.loop-rounds.invariant.7

pub shape_of-words-then-made : goal.shape_of-words-then-made
shape_of-words-then-made c =
    c.round-made.auto.words ∙ c.loop-rounds.invariant.8

pub shape_of-fixed-then-made : goal.shape_of-fixed-then-made
shape_of-fixed-then-made c =
    c.note.auto.fixed
    ∙ c.loop-rounds.invariant.9

pub returns-then-made : goal.returns-then-made
unfolding nodes_of
returns-then-made c =
    let c12 = c.before.before.before.before.before.before.before.before.before.before.before.before in
    let c24 = c12.before.before.before.before.before.before.before.before.before.before.before.before in
    let c36 = c24.before.before.before.before.before.before.before.before.before.before.before.before in
    let a = c.args in
    let F = subst (AreFirst 64 (diagrams_of (nodes_of
    (here c36.before)) c.loop-rounds.list))
    c.in-Of.is c.first_of.ensures in
    let less : c.loop-rounds.rounds < 64 = omega (
      arith,
      c.loop-rounds.invariant.0.going.most,
      c.if-rounds-eq64.false,
    ) in
    tracing-full (entry c36.before.before.before.before.before.before.before.before.before.before.before) c.requires.fact.0.good
    (diagrams_of (nodes_of (entry c36.before.before.before.before.before.before.before.before.before.before.before)) a.list.now)
    (length a.fixed.now) c.requires.fact.4
    (here c36.before) c.loop-rounds.list c.loop-rounds.memo c.loop-rounds.words c.loop-rounds.fixed c.loop-rounds.rounds
    c.loop-rounds.invariant.0 less
    c.in-Of.u F.0 c.round-made.result.full (after
    c12.before.before.before.before.before.before)
    c.round-made.new.list c.round-made.ensures.fact c.if-made.true _

pub overflow_add-rounds : goal.overflow_add-rounds
overflow_add-rounds c =
    let a = c.args in
    omega (
      arith,
      c.loop-rounds.invariant.0.going.most,
      c.if-rounds-eq64.false,
    )

pub loop-rounds-smaller : goal.loop-rounds-smaller
loop-rounds-smaller c =
    let a = c.args in
    omega (
      arith,
      c.loop-rounds.invariant.0.going.most,
      c.if-rounds-eq64.false,
    )

pub loop-rounds-preserved : goal.loop-rounds-preserved
unfolding nodes_of
loop-rounds-preserved c =
    let c12 = c.before.before.before.before.before.before.before.before.before.before.before.before in
    let c24 = c12.before.before.before.before.before.before.before.before.before.before.before.before in
    let c36 = c24.before.before.before.before.before.before.before.before.before.before.before.before in
    let a = c.args in
    let F = subst (AreFirst 64 (diagrams_of (nodes_of
    (here c36.before)) c.loop-rounds.list))
    c.in-Of.is c.first_of.ensures in
    let less : c.loop-rounds.rounds < 64 = omega (
      arith,
      c.loop-rounds.invariant.0.going.most,
      c.if-rounds-eq64.false,
    ) in
    let t = tracing-on (entry
    c36.before.before.before.before.before.before.before.before.before.before.before) c.requires.fact.0.good
    (diagrams_of (nodes_of (entry c36.before.before.before.before.before.before.before.before.before.before.before)) a.list.now)
    (length a.fixed.now)
    c.requires.fact.4 (here c36.before) c.loop-rounds.list c.loop-rounds.memo c.loop-rounds.words c.loop-rounds.fixed c.loop-rounds.rounds
    c.loop-rounds.invariant.0 less
    c.in-Of.u F.0 c.round-made.result.full (after
    c12.before.before.before.before.before.before)
    c.round-made.new.list c.round-made.ensures.fact c.if-made.false
    c.round-made.new.memo (c.round-made.auto.memo ∙ c.first_of.auto.memo)
    c.round-made.new.words (c.round-made.auto.words ∙ c.loop-rounds.invariant.0.worded ∙ sym c.round-made.auto.list)
    (c.round-made.ensures.supports c.if-made.false) c.requires.in_bounds.0
    c.note.ensures.positive_bound.0
    c.note.ensures.positive_bound.1 in (
      subst (λ (x : List ℕ). Tracing
          (entry c36.before.before.before.before.before.before.before.before.before.before.before)
          (diagrams_of (nodes_of (entry c36.before.before.before.before.before.before.before.before.before.before.before)) a.list.now)
          (length a.fixed.now)
          (after c12.before.before.before.before.before.before) c.round-made.new.list c.round-made.new.memo c.round-made.new.words x
          (c.loop-rounds.rounds + 1))
          (sym c.note.ensures.fixed_after) t,
      c.round-made.auto.vars ∙ c.loop-rounds.invariant.1,
      c.round-made.auto.lows ∙ c.loop-rounds.invariant.2,
      c.round-made.auto.highs ∙ c.loop-rounds.invariant.3,
      c.round-made.auto.heads ∙ c.loop-rounds.invariant.4,
      c.round-made.auto.links ∙ c.loop-rounds.invariant.5,
      c.round-made.auto.memo ∙ c.first_of.auto.memo ∙ c.loop-rounds.invariant.6,
      c.round-made.auto.list ∙ c.loop-rounds.invariant.7,
      c.round-made.auto.words ∙ c.loop-rounds.invariant.8,
      c.note.auto.fixed ∙ c.loop-rounds.invariant.9,
    )
