-- `sides_under` gives the two nodes. Assumes nothing.
use mathlib.Core.Path.{sym, ◌∙◌}
use Rattle.walks.specs.Constant.{sides_under}
use Rattle.walks.proofs.Here.{Here, here}
use Rattle.walks.proofs.sides_under.Goals as goal

-- src/lib.rt:70:8
pub in_word-requires : goal.in_word-requires
in_word-requires c =
    let h : Here c.args.vars.now c.args.lows.now c.args.highs.now c.args.count c.args.f.0 =
    here _ _ _ _ c.requires.0 _ c.requires.1 c.requires.2 in (h.least, h.most)

-- src/lib.rt:71:9
pub returns-then-in_word : goal.returns-then-in_word
unfolding sides_under
returns-then-in_word c = rw (sym c.in_word.ensures ∙ c.if-in_word.true)

-- src/lib.rt:73:8
pub in_word-requires-2 : goal.in_word-requires-2
in_word-requires-2 c =
    let h : Here c.args.vars.now c.args.lows.now c.args.highs.now c.args.count c.args.f.0 =
    here _ _ _ _ c.requires.0 _ c.requires.1 c.requires.2 in (h.least, h.most)

-- src/lib.rt:74:9
pub returns-then-in_word-2 : goal.returns-then-in_word-2
unfolding sides_under
returns-then-in_word-2 c =
    rw (sym c.in_word.ensures ∙ c.if-in_word.false, sym c.in_word-2.ensures ∙ c.if-in_word-2.true)

-- src/lib.rt:54:1
pub returns : goal.returns
unfolding sides_under
returns c =
    rw (sym c.in_word.ensures ∙ c.if-in_word.false, sym c.in_word-2.ensures ∙ c.if-in_word-2.false)
