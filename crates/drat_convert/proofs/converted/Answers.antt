-- What is written is the definition's: the file's refusal, else the conversion.
use Rattle.drat_convert.proofs.Writing.{unread, too_long, in-binary, in-text}
use Rattle.drat_convert.proofs.converted.Goals as goal

pub returns-then-not-read-clause-out_after : goal.returns-then-not-read-clause-out_after
returns-then-not-read-clause-out_after c = unread _ _ _ c.if-not-read.true

pub returns-then-file-gt-LONGEST-clause-out_after :
    goal.returns-then-file-gt-LONGEST-clause-out_after
returns-then-file-gt-LONGEST-clause-out_after c = too_long _ _ _ c.if-not-read.false c.if-file-gt-LONGEST.true

pub returns-in-ToBinary-clause-out_after : goal.returns-in-ToBinary-clause-out_after
returns-in-ToBinary-clause-out_after c =
    (in-binary _ _ _ _ _ c.if-not-read.false c.if-file-gt-LONGEST.false c.in-ToBinary.is _ c.requires c.to_binary.ensures).0

pub returns-in-ToBinary-clause-length_bound : goal.returns-in-ToBinary-clause-length_bound
returns-in-ToBinary-clause-length_bound c =
    (in-binary _ _ _ _ _ c.if-not-read.false c.if-file-gt-LONGEST.false c.in-ToBinary.is _ c.requires c.to_binary.ensures).1

pub returns-in-ToText-clause-out_after : goal.returns-in-ToText-clause-out_after
returns-in-ToText-clause-out_after c =
    (in-text _ _ _ _ _ c.if-not-read.false c.if-file-gt-LONGEST.false c.in-ToText.is _ c.requires c.to_text.ensures).0

pub returns-in-ToText-clause-length_bound : goal.returns-in-ToText-clause-length_bound
returns-in-ToText-clause-length_bound c =
    (in-text _ _ _ _ _ c.if-not-read.false c.if-file-gt-LONGEST.false c.in-ToText.is _ c.requires c.to_text.ensures).1
