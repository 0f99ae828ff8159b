-- All variables of a thin diagram will do; else `forced_of` starts from a cleared memo, which is right of any nodes. Assumes nothing.
use Rattle.walks.specs.Readable.{nodes_in}
use Rattle.walks.proofs.Here.{length-in}
use Rattle.supports.specs.Supports.{Forced}
use Rattle.supports.proofs.Words.{memo-cleared}
use Rattle.supports.proofs.ForcedWords.{support-forced}
use Rattle.supports.proofs.forced.forced_of.Goals as goal

pub returns-then-is_thin : goal.returns-then-is_thin
returns-then-is_thin c = support-forced _ _ c.requires.3

pub word_from-requires-clause-word_memo : goal.word_from-requires-clause-word_memo
word_from-requires-clause-word_memo c =
    memo-cleared Forced (nodes_in c.args.vars.now c.args.lows.now c.args.highs.now c.args.count) c.clear_cells.new.memo c.args.count
    (length-in c.args.vars.now c.args.lows.now c.args.highs.now c.args.count c.requires.0) c.clear_cells.ensures
