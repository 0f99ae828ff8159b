-- The words that name a form and a profile on a command line. No call open to others cites this file: the word is the program's own.
use Rattle.std.specs.Prelude.{Bool, true, false, cond, List, ℕ, Option, Some, None, length, get_or, eqb}
use Rattle.commands.specs.declared.Form.TheVariants.{Records, Text, Binary}
use Rattle.commands.specs.Commands.{in_form}
use Rattle.commands.specs.declared.Mode.{Mode}

-- `r` records, `t` a DRAT text, `b` binary DRAT (02, 9/14: "its caller naming the form"); 114, 116 and 98 in ASCII.
abbrev pub form_named : ℕ → Bool → Option Mode
form_named byte profile =
    cond (eqb byte 114) (Some (in_form Records profile))
    (cond (eqb byte 116) (Some (in_form Text profile)) (cond (eqb byte 98) (Some (in_form Binary profile)) None))

-- A letter for the form, and behind it a `c` (99) for the consequence profile (02, 11/14); no other word.
unfoldable pub mode_named : List ℕ → Option Mode
mode_named word =
    cond (eqb (length word) 1) (form_named (get_or word 0 0) false)
    (cond (eqb (length word) 2) (cond (eqb (get_or word 1 0) 99) (form_named (get_or word 0 0) true) None) None)
