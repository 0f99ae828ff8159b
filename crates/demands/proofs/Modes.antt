-- A mode is its form, within the consequence profile or without it. Assumes nothing.
use mathlib.Core.Path.{◌≡◌, ap}
use Rattle.commands.specs.declared.Form.{Form}
use Rattle.commands.specs.declared.Mode.{Mode}
use Rattle.commands.specs.Commands.{in_form}

pub mode-is : {mode : Mode} {form : Form} → mode.form ≡ form → mode ≡ in_form form mode.consequence
mode-is {mode} e = ap (λ (f : Form). in_form f mode.consequence) e
