-- `to_binary` puts clause after clause. The loop: what is to be converted is what is left to be converted, with the output so far. The
-- measure is what is left of the proof, since a clause has bytes. Assumes nothing.
use Prim.Native.Nat.{◌-◌}
use lib.ListN.{length}
use Rattle.commands.specs.declared.Form.TheVariants.{Text}
use Rattle.convert.specs.Convert.{lines_of, binary_line, converted_by}
use Rattle.convert.specs.Inner.{poured}
use Rattle.convert.proofs.Lines.{Remains}
use Rattle.convert.proofs.from_text.to_binary.Given as goal

abbrev pub invariant-loop-at : goal.invariant-loop-at
invariant-loop-at l =
    Remains binary_line Text l.text (converted_by binary_line (length l.initial.out) (lines_of Text l.text)) (length l.initial.out)
    (poured l.out l.many) l.at

abbrev pub decreases-loop-at : goal.decreases-loop-at
decreases-loop-at l = length l.text - l.at
