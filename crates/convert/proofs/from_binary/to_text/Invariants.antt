-- `to_text` puts clause after clause. The loop: what is to be converted is what is left to be converted, with the output so far. The
-- measure is what is left of the proof, since a clause has bytes. Assumes nothing.
use Prim.Native.Nat.{◌-◌}
use lib.ListN.{length}
use Rattle.commands.specs.declared.Form.TheVariants.{Binary}
use Rattle.convert.specs.Convert.{lines_of, text_line, converted_by}
use Rattle.convert.specs.Inner.{poured}
use Rattle.convert.proofs.Lines.{Remains}
use Rattle.convert.proofs.from_binary.to_text.Given as goal

abbrev pub invariant-loop-at : goal.invariant-loop-at
invariant-loop-at l =
    Remains text_line Binary l.binary (converted_by text_line (length l.initial.out) (lines_of Binary l.binary)) (length l.initial.out)
    (poured l.out l.many) l.at

abbrev pub decreases-loop-at : goal.decreases-loop-at
decreases-loop-at l = length l.binary - l.at
