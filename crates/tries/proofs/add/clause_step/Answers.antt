-- `clause_step`: the ways out are laws of Adding. Assumes nothing.
use mathlib.Core.Path.{◌≡◌, sym, ap, ◌∙◌, subst}
use mathlib.Core.Bool.{false}
use mathlib.Core.List.{List}
use Prim.Native.Nat.{ℕ, ◌≤◌, ◌<◌}
use native.Mathlib.Omega.{arith}
use lib.ListN.{length}
use Rattle.words.specs.Sets.{shares}
use Rattle.table.specs.Indexed.{Table, table_of, Good}
use Rattle.table.proofs.Outcomes.{Grown}
use Rattle.conflict.specs.Marks.{unmarked}
use Rattle.clause.specs.Words.{clause_of_words}
use Rattle.state.specs.States.{Lent, lent_of, table_in, Held}
use Rattle.paths.specs.Rounds.{most_rounds}
use Rattle.tries.specs.Tries.{live_in, BothTried}
use Rattle.tries.proofs.Trying.{both_most}
use Rattle.tries.proofs.Adding.{outcome_at, grown, tries-ready, Added, with-nodes, keep-fits, clause-22, code-17, code-stepped}
use Rattle.tries.proofs.add.clause_step.Reads as reads
use Rattle.tries.proofs.add.clause_step.Lts as lts
use Rattle.tries.proofs.add.clause_step.Tie as tie
use Rattle.tries.proofs.add.clause_step.Goals as goal

module _ (s : lts.Start tie.the-claims reads.Pre reads.Post tie.handed_clauses) where
  abbrev lent : Lent
  lent = lent_of s.args.vars.now s.args.lows.now s.args.highs.now s.args.heads.now s.args.links.now
      s.args.members.now s.args.scratch.now s.args.struck.now

  abbrev held : Held 64 lent s.args.st
  held = s.requires.0

-- the clause is made
module _ (a : lts.After-make tie.the-claims reads.Pre reads.Post tie.handed_clauses) where
  abbrev table₁ : Table
  table₁ = table_of a.make-made.new.vars a.make-made.new.lows a.make-made.new.highs a.make-made.new.heads
      a.make-made.new.links a.make-made.result.count

  few : a.args.st.lines < 1024
  few = a.if-st-ge1024.false

  apart : shares 64 a.args.clause.literals.positive a.args.clause.literals.negative ≡ false
  apart = sym a.shared.ensures ∙ a.if-shared.false

  larger :
      let a12 = a.before.before.before.before.before.before.before.before.before.before.before.before in
      Grown (table_in (lent
      a12.before.before.before.before.before.before.before.before.before) a.args.st.count) (clause_of_words a.args.clause.literals)
      (outcome_at table₁ a.make-made.result)
  larger =
      let a12 = a.before.before.before.before.before.before.before.before.before.before.before.before in
      grown (table_in (lent
      a12.before.before.before.before.before.before.before.before.before) a.args.st.count)
      (held a12.before.before.before.before.before.before.before.before.before).entries.good a.args.clause.literals table₁
      a.make-made.result a.make-made.ensures

-- it is tried
module _ (b : lts.After-both_tries tie.the-claims reads.Pre reads.Post tie.handed_clauses) where
  abbrev table₂ : Table
  table₂ = table_of b.both_tries-j.new.vars b.both_tries-j.new.lows b.both_tries-j.new.highs b.both_tries-j.new.heads
      b.both_tries-j.new.links b.make-made.result.count

  abbrev scratch₂ : List ℕ
  scratch₂ = b.both_tries-j.new.scratch

  back :
      let b12 = b.before.before.before.before.before.before.before.before.before.before.before.before in
      table₂ ≡ table₁ b12.before.before.before.before.before.before.before.before.before.before
  back = b.both_tries-j.ensures.fact.0

  tried :
      let b12 = b.before.before.before.before.before.before.before.before.before.before.before.before in
      BothTried (table₁
      b12.before.before.before.before.before.before.before.before.before.before) (live_in b.args.members.now b.args.struck.now b.args.st)
      b.args.clause b.make-made.result b.both_tries-j.result
  tried = b.both_tries-j.ensures.fact.1

  few-rounds : b.both_tries-j.result.rounds ≤ most_rounds
  few-rounds = both_most _ _ _ _ _ tried

  added :
      let b12 = b.before.before.before.before.before.before.before.before.before.before.before.before in
      let b24 = b12.before.before.before.before.before.before.before.before.before.before.before.before in
      let b36 = b24.before.before.before.before.before.before.before.before.before.before.before.before in
      Added (lent b36.before.before.before.before.before.before.before) b.args.st
      (table₁ b12.before.before.before.before.before.before.before.before.before.before) b.make-made.result b.both_tries-j.result
      b.args.clause
  added =
      let b12 = b.before.before.before.before.before.before.before.before.before.before.before.before in
      record {
        apart = apart
            b12.before.before.before.before.before.before.before.before.before.before;
        made = b.make-made.ensures;
        tried = tried;
      }

  scratch-room : 4096 ≤ length scratch₂
  scratch-room =
      let b12 = b.before.before.before.before.before.before.before.before.before.before.before.before in
      let b24 = b12.before.before.before.before.before.before.before.before.before.before.before.before in
      let b36 = b24.before.before.before.before.before.before.before.before.before.before.before.before in
      omega (
        arith,
        b.both_tries-j.auto.scratch,
        (held b36.before.before.before.before.before.before.before).entries.room,
      )

pub returns-then-st-ge1024 : goal.returns-then-st-ge1024
returns-then-st-ge1024 c =
    let c12 = c.before.before.before.before.before.before.before.before.before.before.before.before in
    record {
      stepped = (λ profile n ls H w is. clause-22 profile n
          (lent c12.before.before) c.args.st H ls w
          c.if-st-ge1024.true);
      marks_after = c.requires.1;
    }

pub returns-then-shared : goal.returns-then-shared
returns-then-shared c =
    let c12 = c.before.before.before.before.before.before.before.before.before.before.before.before in
    record {
      stepped = (λ profile n ls H w is. code-17 profile n
          (lent c12.before.before.before.before) c.args.st
          H ls w c.args.clause is c.if-st-ge1024.false
          (sym c.shared.ensures ∙ c.if-shared.true));
      marks_after = c.requires.1;
    }

pub make-made-requires : goal.make-made-requires
make-made-requires c =
    let c12 = c.before.before.before.before.before.before.before.before.before.before.before.before in
    (held
    c12.before.before.before.before.before.before.before.before.before).entries.good

pub both_tries-j-requires : goal.both_tries-j-requires
both_tries-j-requires c =
    let c12 = c.before.before.before.before.before.before.before.before.before.before.before.before in
    let c24 = c12.before.before.before.before.before.before.before.before.before.before.before.before in
    let c36 = c24.before.before.before.before.before.before.before.before.before.before.before.before in (
      tries-ready (lent c36.before.before.before.before.before.before.before) c.args.st
          (held c36.before.before.before.before.before.before.before) c.args.clause.literals
          (apart c12.before.before.before.before.before.before.before.before.before.before)
          (table₁ c12.before.before.before.before.before.before.before.before.before.before) c.make-made.result c.make-made.ensures
          c.args.memo.now c.requires.2,
      c.requires.1 ∙ ap unmarked (sym c.make-made.auto.vars),
      omega (
        arith,
        (held c36.before.before.before.before.before.before.before).many,
        (held c36.before.before.before.before.before.before.before).lines,
      ),
      (held c36.before.before.before.before.before.before.before).room,
      (held c36.before.before.before.before.before.before.before).entries.room,
      (held c36.before.before.before.before.before.before.before).marked,
      c.requires.3,
    )

pub drop_to-requires : goal.drop_to-requires
drop_to-requires c =
    let c12 = c.before.before.before.before.before.before.before.before.before.before.before.before in
    let c24 = c12.before.before.before.before.before.before.before.before.before.before.before.before in
    let c36 = c24.before.before.before.before.before.before.before.before.before.before.before.before in
    let c48 = c36.before.before.before.before.before.before.before.before.before.before.before.before in
    let c60 = c48.before.before.before.before.before.before.before.before.before.before.before.before in
    let k = keep-fits c.both_tries-j.result _ _ _ c.kept_count-keep.ensures
    (held c60.before.before.before.before.before.before).entries.good.least
    (larger c36.before.before.before.before.before.before.before.before.before).more in (
      subst Good (sym (back c12.before.before.before.before.before.before.before.before.before.before.before))
          (larger c36.before.before.before.before.before.before.before.before.before).good,
      k.0,
      k.1,
    )

pub ended-requires : goal.ended-requires
ended-requires c =
    let c12 = c.before.before.before.before.before.before.before.before.before.before.before.before in
    let c24 = c12.before.before.before.before.before.before.before.before.before.before.before.before in
    let c36 = c24.before.before.before.before.before.before.before.before.before.before.before.before in
    let c48 = c36.before.before.before.before.before.before.before.before.before.before.before.before in
    let c60 = c48.before.before.before.before.before.before.before.before.before.before.before.before in
    let c72 = c60.before.before.before.before.before.before.before.before.before.before.before.before in
    let H = held c72.before.before.before.before.before.before in (
      omega (
        arith,
        H.many,
        few
            c48.before.before.before.before.before.before.before.before.before,
      ),
      H.room,
      H.lines,
      omega (
        arith,
        H.rounds,
        H.lines,
        few-rounds
            c24.before.before.before.before.before.before.before.before.before.before.before,
      ),
    )

pub shape_of-vars : goal.shape_of-vars
shape_of-vars c = c.drop_to.auto.vars ∙ c.both_tries-j.auto.vars
    ∙ c.make-made.auto.vars

pub shape_of-lows : goal.shape_of-lows
shape_of-lows c = c.drop_to.auto.lows ∙ c.both_tries-j.auto.lows
    ∙ c.make-made.auto.lows

pub shape_of-highs : goal.shape_of-highs
shape_of-highs c = c.drop_to.auto.highs ∙ c.both_tries-j.auto.highs
    ∙ c.make-made.auto.highs

pub shape_of-heads : goal.shape_of-heads
shape_of-heads c = c.drop_to.auto.heads ∙ c.both_tries-j.auto.heads
    ∙ c.make-made.auto.heads

pub shape_of-links : goal.shape_of-links
shape_of-links c = c.drop_to.auto.links ∙ c.both_tries-j.auto.links
    ∙ c.make-made.auto.links

pub shape_of-memo : goal.shape_of-memo
shape_of-memo c = c.both_tries-j.auto.memo

pub shape_of-marks : goal.shape_of-marks
shape_of-marks c = c.both_tries-j.auto.marks

pub shape_of-members : goal.shape_of-members
shape_of-members c = c.ended.auto.members

pub shape_of-scratch : goal.shape_of-scratch
shape_of-scratch c = c.both_tries-j.auto.scratch

pub returns : goal.returns
returns c =
    let c12 = c.before.before.before.before.before.before.before.before.before.before.before.before in
    let c24 = c12.before.before.before.before.before.before.before.before.before.before.before.before in
    let c36 = c24.before.before.before.before.before.before.before.before.before.before.before.before in
    let c48 = c36.before.before.before.before.before.before.before.before.before.before.before.before in
    let c60 = c48.before.before.before.before.before.before.before.before.before.before.before.before in
    let c72 = c60.before.before.before.before.before.before.before.before.before.before.before.before in
    record {
      stepped = (λ profile n ls H w is. code-stepped profile n
          (lent c72.before.before.before.before.before.before.before.before.before) c.args.st H ls w c.args.clause is (few c60) (table₁ c60)
          c.make-made.result
          c.both_tries-j.result (added
          c36.before.before)
          c.kept_count-keep.result c.kept_count-keep.ensures
          (table₂ c36.before.before)
          (table_of c.drop_to.new.vars c.drop_to.new.lows c.drop_to.new.highs c.drop_to.new.heads c.drop_to.new.links
          c.kept_count-keep.result)
          (back c36.before.before) c.drop_to.ensures (scratch₂ c36.before.before) (scratch-room c36.before.before) _
          (with-nodes c.args.st c.make-made.result.count _ c.greater-peak.ensures) c.ended.ensures.value
          c.ended.ensures.members_after);
      marks_after = c.both_tries-j.ensures.marks_after ∙ ap unmarked c.make-made.auto.vars;
    }
