-- `command_at`: the reader of the form. Assumes nothing.
use Rattle.commands.proofs.command_at.Goals as goal

pub returns-in-Records : goal.returns-in-Records
returns-in-Records c = rw c.in-Records.is c.record_read.ensures

pub returns-in-Text : goal.returns-in-Text
returns-in-Text c = rw c.in-Text.is c.text_at.ensures

pub returns-in-Binary : goal.returns-in-Binary
returns-in-Binary c = rw c.in-Binary.is c.binary_at.ensures
