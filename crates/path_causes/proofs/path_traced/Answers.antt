-- `path_traced`: the members by the literals, and their propagation traced; both find room (Tracing). Assumes nothing.
use mathlib.Core.Path.{◌≡◌, refl, sym, ◌∙◌}
use mathlib.Core.Bool.{false}
use mathlib.Core.List.{List}
use Prim.Native.Nat.{ℕ}
use native.Mathlib.Omega.{arith}
use lib.ListN.{length}
use Rattle.table.specs.Indexed.{Table, table_of}
use Rattle.members.specs.Made.{AllMade}
use Rattle.propagate.specs.Rounds.{unit_results}
use Rattle.path_causes.proofs.Tracing.{made-room, made, calm, traced-more, traced-fixed}
use Rattle.path_causes.proofs.path_traced.Reads as reads
use Rattle.path_causes.proofs.path_traced.Lts as lts
use Rattle.path_causes.proofs.path_traced.Tie as tie
use Rattle.path_causes.proofs.path_traced.Goals as goal

module _ (s : lts.Start tie.the-claims reads.Pre reads.Post tie.handed_clauses) where
  abbrev before : Table
  before = table_of s.args.vars.now s.args.lows.now s.args.highs.now s.args.heads.now s.args.links.now
      s.args.count

-- what the members by the literals leave
module _ (a : lts.After-by_literals tie.the-claims reads.Pre reads.Post tie.handed_clauses) where
  abbrev table₁ : Table
  table₁ = table_of a.by_literals-made.new.vars a.by_literals-made.new.lows a.by_literals-made.new.highs a.by_literals-made.new.heads
      a.by_literals-made.new.links
      a.by_literals-made.result.count

  abbrev list₁ : List ℕ
  list₁ = a.by_literals-made.new.list

  by-literals :
      let a12 = a.before.before.before.before.before.before.before.before.before.before.before.before in
      AllMade (before
      a12.before.before.before.before.before.before.before.before)
      (unit_results a.args.literals (before a12.before.before.before.before.before.before.before.before) a.args.members.now) false
      table₁ list₁
  by-literals =
      let a12 = a.before.before.before.before.before.before.before.before.before.before.before.before in
      made (before
      a12.before.before.before.before.before.before.before.before) a.requires.fact.0.good a.args.members.now a.args.literals
      a.requires.fact.3
      a.by_literals-made.result.full table₁ list₁ a.by_literals-made.ensures.fact_3

  has_room : a.by_literals-made.result.full ≡ false
  has_room =
      let a12 = a.before.before.before.before.before.before.before.before.before.before.before.before in
      made-room (before
      a12.before.before.before.before.before.before.before.before) a.requires.fact.0.good a.args.members.now a.args.literals
      a.requires.fact.3
      a.by_literals-made.result.full table₁ list₁ a.by_literals-made.ensures.fact_3

  memo-length : length a.by_literals-made.new.memo ≡ length a.args.memo.now
  memo-length = a.by_literals-made.auto.memo

pub by_literals-made-requires : goal.by_literals-made-requires
by_literals-made-requires c =
    record { fact = (c.requires.fact.0, c.requires.fact.1, c.requires.fact.2); fact_2 = c.requires.fact_2 }

pub trace-requires : goal.trace-requires
trace-requires c =
    let c12 = c.before.before.before.before.before.before.before.before.before.before.before.before in
    let c24 = c12.before.before.before.before.before.before.before.before.before.before.before.before in
    let c36 = c24.before.before.before.before.before.before.before.before.before.before.before.before in
    let M = by-literals c24.before.before in record {
      fact = (
        record {
          good = M.extended.good;
          inside = M.inside refl;
          room = omega (
            arith,
            M.extended.same_size,
            c.requires.fact.0.room,
            memo-length c24.before.before,
          );
        },
        c.by_literals-made.auto.words ∙ c.requires.fact_2.2
            ∙ sym (c.by_literals-made.auto.list ∙ c.requires.fact.1),
        c.by_literals-made.ensures.supports (has_room
            c24.before.before),
        omega (arith, c.by_literals-made.auto.list, c.requires.fact.1, c.requires.fact.2),
        calm (before c36.before.before.before.before.before.before.before.before.before.before) c.requires.fact.0.good c.args.members.now
            c.args.literals c.requires.fact.3 c.by_literals-made.result.full
            (table₁ c24.before.before) (list₁ c24.before.before) c.by_literals-made.ensures.fact_3,
      );
      in_bounds = c.requires.in_bounds;
    }

pub shape_of-vars : goal.shape_of-vars
shape_of-vars c =
    c.trace.auto.vars ∙ c.by_literals-made.auto.vars

pub shape_of-lows : goal.shape_of-lows
shape_of-lows c =
    c.trace.auto.lows ∙ c.by_literals-made.auto.lows

pub shape_of-highs : goal.shape_of-highs
shape_of-highs c =
    c.trace.auto.highs ∙ c.by_literals-made.auto.highs

pub shape_of-heads : goal.shape_of-heads
shape_of-heads c =
    c.trace.auto.heads ∙ c.by_literals-made.auto.heads

pub shape_of-links : goal.shape_of-links
shape_of-links c =
    c.trace.auto.links ∙ c.by_literals-made.auto.links

pub shape_of-memo : goal.shape_of-memo
shape_of-memo c =
    c.trace.auto.memo ∙ c.by_literals-made.auto.memo

pub shape_of-list : goal.shape_of-list
shape_of-list c =
    c.trace.auto.list ∙ c.by_literals-made.auto.list

pub shape_of-words : goal.shape_of-words
shape_of-words c =
    c.trace.auto.words ∙ c.by_literals-made.auto.words

pub shape_of-fixed : goal.shape_of-fixed
shape_of-fixed c =
    c.trace.auto.fixed

pub returns : goal.returns
returns c =
    let c12 = c.before.before.before.before.before.before.before.before.before.before.before.before in
    let c24 = c12.before.before.before.before.before.before.before.before.before.before.before.before in
    let c36 = c24.before.before.before.before.before.before.before.before.before.before.before.before in
    let c48 = c36.before.before.before.before.before.before.before.before.before.before.before.before in
    let c60 = c48.before.before.before.before.before.before.before.before.before.before.before.before in
    let T = table_of c.trace.new.vars c.trace.new.lows c.trace.new.highs c.trace.new.heads c.trace.new.links c.trace.result.count in (
      traced-more (before c60.before.before.before.before.before) c.requires.fact.0.good c.args.members.now c.args.literals
          c.requires.fact.3 c.by_literals-made.result.full
          (table₁ c36.before.before.before.before.before.before.before.before.before)
          (list₁ c36.before.before.before.before.before.before.before.before.before) c.by_literals-made.ensures.fact_3 c.trace.result T
          c.trace.new.fixed c.trace.ensures,
      traced-fixed (before c60.before.before.before.before.before) c.requires.fact.0.good c.args.members.now c.args.literals
          c.requires.fact.3 c.by_literals-made.result.full
          (table₁ c36.before.before.before.before.before.before.before.before.before)
          (list₁ c36.before.before.before.before.before.before.before.before.before) c.by_literals-made.ensures.fact_3 c.trace.result T
          c.trace.new.fixed c.trace.ensures,
    )
