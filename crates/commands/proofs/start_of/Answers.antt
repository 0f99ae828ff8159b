-- `start_of`: the first byte of records, the first token of a text. Assumes nothing.
use Rattle.commands.proofs.start_of.Goals as goal

pub returns-in-Text : goal.returns-in-Text
returns-in-Text c = record { value = rw c.in-Text.is c.skip_between.ensures.value; upper_bound = c.skip_between.ensures.lower_bound.1 }
