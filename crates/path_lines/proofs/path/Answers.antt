-- `path` finds the members' variables, then judges the turns. Assumes nothing.
use mathlib.Core.Path.{◌∙◌}
use Rattle.table.specs.Indexed.{Table, table_of, nodes_of}
use Rattle.walks.proofs.Here.{good-readable}
use Rattle.judge.proofs.Ready.{memo-again}
use Rattle.path_lines.proofs.path.Goals as goal

pub supports_of-requires : goal.supports_of-requires
supports_of-requires c =
    let before : Table =
    table_of c.args.vars.now c.args.lows.now c.args.highs.now c.args.heads.now c.args.links.now
    c.args.count in
    let R = c.requires.fact.0.ready in
    (good-readable before R.good, R.inside, R.room, c.requires.memberwords_len.0)

pub path_turns-requires : goal.path_turns-requires
unfolding nodes_of
path_turns-requires c =
    let before : Table =
    table_of c.args.vars.now c.args.lows.now c.args.highs.now c.args.heads.now c.args.links.now
    c.args.count in
    record {
      fact = (
        memo-again before c.args.members.now c.args.memo.now c.supports_of.new.memo c.args.root.0 c.supports_of.auto.memo
            c.requires.fact.0,
        c.requires.fact.1,
        c.requires.fact.2,
        c.requires.fact.3,
        c.requires.fact.4,
      );
      fact_2 = (c.supports_of.auto.words ∙ c.requires.memberwords_len.0, c.supports_of.ensures.fact, c.requires.memberwords_len.1);
    }
