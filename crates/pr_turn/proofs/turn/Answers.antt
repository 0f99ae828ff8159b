-- `turn` is `turn_known` where nothing was said of the members by not-g. Assumes nothing.
use Rattle.quiet.proofs.Known.{nothing_known}
use Rattle.pr_turn.proofs.turn.Goals as goal

pub turn_known-requires : goal.turn_known-requires
turn_known-requires c =
    record { fact = c.requires.fact; fact_2 = (c.requires.fact_2.0, c.requires.fact_2.1, nothing_known _ _) }

pub shape_of-vars : goal.shape_of-vars
shape_of-vars c = c.turn_known.auto.vars

pub shape_of-lows : goal.shape_of-lows
shape_of-lows c = c.turn_known.auto.lows

pub shape_of-highs : goal.shape_of-highs
shape_of-highs c = c.turn_known.auto.highs

pub shape_of-heads : goal.shape_of-heads
shape_of-heads c = c.turn_known.auto.heads

pub shape_of-links : goal.shape_of-links
shape_of-links c = c.turn_known.auto.links

pub shape_of-memo : goal.shape_of-memo
shape_of-memo c = c.turn_known.auto.memo

pub shape_of-marks : goal.shape_of-marks
shape_of-marks c = c.turn_known.auto.marks

pub shape_of-second : goal.shape_of-second
shape_of-second c = c.turn_known.auto.second

pub shape_of-secondwords : goal.shape_of-secondwords
shape_of-secondwords c = c.turn_known.auto.secondwords

pub returns : goal.returns
returns c = let all = c.turn_known.ensures in record { fact_3 = all.fact_3; marks_after = all.marks_after }
