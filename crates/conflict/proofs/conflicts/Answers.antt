-- Node 0 is looked for first, then an asked node whose negation is a node; only where there is one the members are marked, negations looked
-- for, and the marks taken away. Assumes nothing.
use mathlib.Core.Path.{◌≡◌, sym, ap, ◌∙◌}
use mathlib.Core.Bool.{false}
use native.Mathlib.Omega.{arith}
use lib.ListN.{length}
use Rattle.table.specs.Indexed.{Table, table_of, nodes_of}
use Rattle.table.proofs.Written.{good-ordered}
use Rattle.conflict.specs.Marks.{is_listed, set_all, unmarked}
use Rattle.conflict.specs.Members.{NegationsAsked, Marked}
use Rattle.conflict.proofs.Numbers.{zero-conflicts, others-conflict}
use Rattle.conflict.proofs.Marks.{none_left, marked-length}
use Rattle.conflict.proofs.Asked.{asked-listed, asked-inside, zero-unlisted, asked-first, asked-passed, none-negated}
use Rattle.conflict.proofs.Marked.{in-nodes, in_size, in-unmarked, in-marked}
use Rattle.conflict.proofs.conflicts.Goals as goal

pub returns-then-has_zero : goal.returns-then-has_zero
returns-then-has_zero c =
    let table : Table =
    let a = c.args in table_of a.vars.now a.lows.now a.highs.now a.heads.now a.links.now a.count in
    let a = c.args in
    let r = c.requires.fact.0 in record {
      result_value = sym (zero-conflicts (nodes_of table) (good-ordered table r.good) a.list.now
          (in-nodes table r.good a.list.now r.inside)
          (asked-listed (nodes_of table) a.list.now a.asked.now a.all c.requires.fact_2 0
          (sym c.has_zero.ensures ∙ c.if-has_zero.true)));
      marks_after = c.requires.fact.1;
    }

pub next_negation-next-requires : goal.next_negation-next-requires
next_negation-next-requires c =
    let table : Table =
    let a = c.args in table_of a.vars.now a.lows.now a.highs.now a.heads.now a.links.now a.count in
    let a = c.args in (
      c.requires.fact.0.good,
      asked-inside (nodes_of table) a.list.now a.asked.now a.all c.requires.fact_2 a.count
          c.requires.fact.0.inside,
      omega arith,
    )

pub returns-then-asked-next : goal.returns-then-asked-next
returns-then-asked-next c =
    let table : Table =
    let a = c.args in table_of a.vars.now a.lows.now a.highs.now a.heads.now a.links.now a.count in
    let no_zero : is_listed c.args.list.now 0 ≡ false =
    zero-unlisted (nodes_of table) c.args.list.now c.args.asked.now c.args.all c.requires.fact_2
    (sym c.has_zero.ensures ∙ c.if-has_zero.false) in
    let asked-to : let a = c.args in NegationsAsked (nodes_of table) a.list.now a.asked.now a.all c.next_negation-next.result.place =
    let a = c.args in
    asked-passed table a.list.now a.asked.now a.all c.requires.fact.0.inside no_zero 0 _
    (asked-first (nodes_of table) a.list.now a.asked.now a.all) c.next_negation-next.ensures.0 in
    let a = c.args in
    let r = c.requires.fact.0 in
    let ordered = good-ordered table r.good in
    let inside = in-nodes table r.good a.list.now r.inside in record {
      result_value = sym (others-conflict (nodes_of table) ordered a.list.now inside no_zero
          ∙ none-negated (nodes_of table) a.list.now ordered inside a.asked.now a.all c.requires.fact_2
          (λ k q. asked-to.none k (omega (arith, c.if-asked-next.true))));
      marks_after = c.requires.fact.1;
    }

pub set_all-requires : goal.set_all-requires
set_all-requires c =
    let table : Table =
    let a = c.args in table_of a.vars.now a.lows.now a.highs.now a.heads.now a.links.now a.count in
    in-unmarked table c.requires.fact.0.good c.args.list.now c.requires.fact.0.inside c.args.marks.now c.requires.fact.1

pub some_negated-r-requires : goal.some_negated-r-requires
some_negated-r-requires c =
    let table : Table =
    let a = c.args in table_of a.vars.now a.lows.now a.highs.now a.heads.now a.links.now a.count in
    let marks-are : c.set_all.new.marks ≡ set_all 1 (unmarked (length c.args.vars.now)) c.args.list.now =
    c.set_all.ensures ∙ ap (λ m. set_all 1 m c.args.list.now) c.requires.fact.1 in
    let a = c.args in
    let r = c.requires.fact.0 in (
      record {
        good = r.good;
        inside = asked-inside (nodes_of table) a.list.now a.asked.now a.all c.requires.fact_2 a.count
            r.inside;
        room = r.room;
      },
      c.next_negation-next.ensures.0.most,
      ap length marks-are ∙ marked-length (length a.vars.now) a.list.now,
    )

pub set_all-requires-2 : goal.set_all-requires-2
set_all-requires-2 c =
    let table : Table =
    let a = c.args in table_of a.vars.now a.lows.now a.highs.now a.heads.now a.links.now a.count in
    let marks-are : c.set_all.new.marks ≡ set_all 1 (unmarked (length c.args.vars.now)) c.args.list.now =
    c.set_all.ensures ∙ ap (λ m. set_all 1 m c.args.list.now) c.requires.fact.1 in
    in-marked table c.requires.fact.0.good c.args.list.now c.requires.fact.0.inside c.set_all.new.marks
    marks-are

pub returns : goal.returns
returns c =
    let table : Table =
    let a = c.args in table_of a.vars.now a.lows.now a.highs.now a.heads.now a.links.now a.count in
    let no_zero : is_listed c.args.list.now 0 ≡ false =
    zero-unlisted (nodes_of table) c.args.list.now c.args.asked.now c.args.all c.requires.fact_2
    (sym c.has_zero.ensures ∙ c.if-has_zero.false) in
    let asked-to : let a = c.args in NegationsAsked (nodes_of table) a.list.now a.asked.now a.all c.next_negation-next.result.place =
    let a = c.args in
    asked-passed table a.list.now a.asked.now a.all c.requires.fact.0.inside no_zero 0 _
    (asked-first (nodes_of table) a.list.now a.asked.now a.all) c.next_negation-next.ensures.0 in
    let marks-are : c.set_all.new.marks ≡ set_all 1 (unmarked (length c.args.vars.now)) c.args.list.now =
    c.set_all.ensures ∙ ap (λ m. set_all 1 m c.args.list.now) c.requires.fact.1 in
    let members-marked : Marked table c.args.list.now c.args.asked.now c.set_all.new.marks c.args.all =
    record { inside = c.requires.fact.0.inside; marked = marks-are; none = no_zero; enough = c.requires.fact_2 } in
    let a = c.args in
    let r = c.requires.fact.0 in
    record {
      result_value = c.some_negated-r.ensures a.list.now members-marked asked-to
          ∙ sym (others-conflict (nodes_of table) (good-ordered table r.good) a.list.now
          (in-nodes table r.good a.list.now r.inside) no_zero);
      marks_after = c.set_all-2.ensures ∙ ap (λ m. set_all 0 m a.list.now) marks-are
          ∙ none_left (length a.vars.now) a.list.now (in_size table r.good a.list.now r.inside);
    }
