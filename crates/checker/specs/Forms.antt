-- The form of a proof by the number that names it: a call that other languages link takes no enum.
use Rattle.std.specs.Prelude.{cond, ℕ, eqb}
use Rattle.commands.specs.declared.Form.{Form}
use Rattle.commands.specs.declared.Form.TheVariants.{Records, Text, Binary}

-- "the check reads it too, its caller naming the form" (02, 9/14): 0 names the records of 01, 1 the DRAT text of 02, 4/14, every other
-- number binary DRAT, so that no number is refused.
abbrev pub form_of : ℕ → Form
form_of form = cond (eqb form 0) Records (cond (eqb form 1) Text Binary)
