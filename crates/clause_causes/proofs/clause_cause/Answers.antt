-- `clause_cause`: the clause is made, its last try traced, and its nodes are dropped. The answers are laws of Told. Assumes nothing.
use mathlib.Core.Path.{◌≡◌, sym, ap, ◌∙◌, subst}
use mathlib.Core.List.{List}
use Prim.Native.Nat.{ℕ}
use native.Mathlib.Omega.{arith}
use Rattle.table.specs.Indexed.{Table, table_of, Good}
use Rattle.table.proofs.Outcomes.{Grown}
use Rattle.conflict.specs.Marks.{unmarked}
use Rattle.clause.specs.Words.{clause_of_words}
use Rattle.state.specs.States.{Lent, lent_of, table_in, state_of, Held}
use Rattle.tries.proofs.Adding.{outcome_at, grown, tries-ready}
use Rattle.causes.specs.Causes.{clause_cause}
use Rattle.causes.specs.Answers.{told}
use Rattle.clause_causes.specs.Clauses.{ClauseRefused}
use Rattle.clause_causes.proofs.Told.{code_apart, code-fails, code-told, code-undone}
use Rattle.clause_causes.proofs.clause_cause.Reads as reads
use Rattle.clause_causes.proofs.clause_cause.Lts as lts
use Rattle.clause_causes.proofs.clause_cause.Tie as tie
use Rattle.clause_causes.proofs.clause_cause.Goals as goal

module _ (s : lts.Start tie.the-claims reads.Pre reads.Post tie.handed_clauses) where
  abbrev lent : Lent
  lent = lent_of s.args.vars.now s.args.lows.now s.args.highs.now s.args.heads.now s.args.links.now
      s.args.members.now s.args.scratch.now s.args.struck.now

  abbrev held : Held 64 lent s.args.st
  held = s.requires.0

  abbrev refused : ClauseRefused lent s.args.st s.args.clause
  refused = s.requires.6

-- the clause is made
module _ (a : lts.After-make tie.the-claims reads.Pre reads.Post tie.handed_clauses) where
  abbrev table₁ : Table
  table₁ = table_of a.make-made.new.vars a.make-made.new.lows a.make-made.new.highs a.make-made.new.heads
      a.make-made.new.links a.make-made.result.count

  larger :
      let a12 = a.before.before.before.before.before.before.before.before.before.before.before.before in
      Grown (table_in (lent
      a12.before.before.before.before.before.before)
      a.args.st.count) (clause_of_words a.args.clause.literals)
      (outcome_at table₁ a.make-made.result)
  larger =
      let a12 = a.before.before.before.before.before.before.before.before.before.before.before.before in
      grown (table_in (lent
      a12.before.before.before.before.before.before)
      a.args.st.count) (held
      a12.before.before.before.before.before.before).entries.good a.args.clause.literals table₁
      a.make-made.result a.make-made.ensures

-- its last try is traced
module _ (b : lts.After-tried_cause tie.the-claims reads.Pre reads.Post tie.handed_clauses) where
  abbrev table₂ : Table
  table₂ = table_of b.tried_cause-failed.new.vars b.tried_cause-failed.new.lows b.tried_cause-failed.new.highs
      b.tried_cause-failed.new.heads b.tried_cause-failed.new.links
      b.make-made.result.count

  abbrev words : List ℕ
  words = b.tried_cause-failed.new.fixed

  back :
      let b12 = b.before.before.before.before.before.before.before.before.before.before.before.before in
      table₂ ≡ table₁ b12.before.before.before.before.before.before.before.before.before
  back = b.tried_cause-failed.ensures.fact_2.0

pub make-made-requires : goal.make-made-requires
make-made-requires c =
    let c12 = c.before.before.before.before.before.before.before.before.before.before.before.before in
    (held
    c12.before.before.before.before.before.before).entries.good

pub tried_cause-failed-requires : goal.tried_cause-failed-requires
tried_cause-failed-requires c =
    let c12 = c.before.before.before.before.before.before.before.before.before.before.before.before in
    let c24 = c12.before.before.before.before.before.before.before.before.before.before.before.before in
    let c36 = c24.before.before.before.before.before.before.before.before.before.before.before.before in
    let H = held c36.before.before.before in record {
      fact = (
        tries-ready (lent c36.before.before.before) c.args.st H c.args.clause.literals
            (code_apart (lent c36.before.before.before) c.args.st c.args.clause (refused c36.before.before.before)
            (table₁ c12.before.before.before.before.before.before.before.before.before) c.make-made.result c.make-made.ensures)
            (table₁ c12.before.before.before.before.before.before.before.before.before)
            c.make-made.result c.make-made.ensures
            c.args.memo.now c.requires.2,
        c.requires.1 ∙ ap unmarked (sym c.make-made.auto.vars),
        omega (arith, H.many, H.lines),
        H.room,
        H.entries.room,
        H.marked,
        c.requires.3,
        code-fails (lent c36.before.before.before) c.args.st c.args.clause (refused c36.before.before.before)
            (table₁ c12.before.before.before.before.before.before.before.before.before) c.make-made.result c.make-made.ensures,
      );
      in_bounds = (c.requires.4, c.requires.5);
    }

pub drop_to-requires : goal.drop_to-requires
drop_to-requires c =
    let c12 = c.before.before.before.before.before.before.before.before.before.before.before.before in
    let c24 = c12.before.before.before.before.before.before.before.before.before.before.before.before in
    let c36 = c24.before.before.before.before.before.before.before.before.before.before.before.before in
    let c48 = c36.before.before.before.before.before.before.before.before.before.before.before.before in
    let c60 = c48.before.before.before.before.before.before.before.before.before.before.before.before in (
      subst Good (sym (back c24)) (larger c36.before.before.before.before.before.before.before.before.before).good,
      (held c60.before.before.before).entries.good.least,
      (larger c36.before.before.before.before.before.before.before.before.before).more,
    )

pub shape_of-vars : goal.shape_of-vars
shape_of-vars c =
    c.drop_to.auto.vars ∙ c.tried_cause-failed.auto.vars ∙ c.make-made.auto.vars

pub shape_of-lows : goal.shape_of-lows
shape_of-lows c =
    c.drop_to.auto.lows ∙ c.tried_cause-failed.auto.lows ∙ c.make-made.auto.lows

pub shape_of-highs : goal.shape_of-highs
shape_of-highs c =
    c.drop_to.auto.highs ∙ c.tried_cause-failed.auto.highs
    ∙ c.make-made.auto.highs

pub shape_of-heads : goal.shape_of-heads
shape_of-heads c =
    c.drop_to.auto.heads ∙ c.tried_cause-failed.auto.heads
    ∙ c.make-made.auto.heads

pub shape_of-links : goal.shape_of-links
shape_of-links c =
    c.drop_to.auto.links ∙ c.tried_cause-failed.auto.links
    ∙ c.make-made.auto.links

pub shape_of-memo : goal.shape_of-memo
shape_of-memo c = c.tried_cause-failed.auto.memo

pub shape_of-marks : goal.shape_of-marks
shape_of-marks c = c.tried_cause-failed.auto.marks

pub shape_of-scratch : goal.shape_of-scratch
shape_of-scratch c = c.tried_cause-failed.auto.scratch

pub shape_of-fixed : goal.shape_of-fixed
shape_of-fixed c = c.tried_cause-failed.auto.fixed

pub returns : goal.returns
returns c =
    let c12 = c.before.before.before.before.before.before.before.before.before.before.before.before in
    let c24 = c12.before.before.before.before.before.before.before.before.before.before.before.before in
    let c36 = c24.before.before.before.before.before.before.before.before.before.before.before.before in
    let c48 = c36.before.before.before.before.before.before.before.before.before.before.before.before in
    let c60 = c48.before.before.before.before.before.before.before.before.before.before.before.before in
    let c72 = c60.before.before.before.before.before.before.before.before.before.before.before.before in
    record {
      st_value = (λ R. ap (λ (m : ℕ). told m (clause_cause R.profile R.n
          (state_of (lent c72.before.before) c.args.st) R.literals))
          (sym c.tried_cause-failed.auto.fixed)
          ∙ code-told (lent c72.before.before) c.args.st c.args.clause R
          (table₁ c48.before.before.before.before.before.before.before.before) c.make-made.result c.make-made.ensures
          c.tried_cause-failed.result
          (words c24.before.before.before.before.before.before.before.before.before.before.before) c.tried_cause-failed.ensures.fact_2.1);
      count_unchanged = code-undone
          (lent c72.before.before) c.args.st c.args.clause (refused c72.before.before)
          (table₁ c48.before.before.before.before.before.before.before.before) c.make-made.result c.make-made.ensures
          (table₂ c24.before.before.before.before.before.before.before.before.before.before.before)
          (table_of c.drop_to.new.vars c.drop_to.new.lows c.drop_to.new.highs c.drop_to.new.heads c.drop_to.new.links c.args.st.count)
          (back c24.before.before.before.before.before.before.before.before.before.before.before) c.drop_to.ensures;
      marks_after = c.tried_cause-failed.ensures.marks_after ∙ ap unmarked c.make-made.auto.vars;
    }
