-- `admits` asks the test of each class. Assumes nothing.
use mathlib.Core.Path.{ap}
use mathlib.Core.Bool.{not}
use Rattle.dimacs.proofs.text.admits.Goals as goal

pub returns-in-Space : goal.returns-in-Space
returns-in-Space c = rw c.in-Space.is c.is_space.ensures

pub returns-in-Blank : goal.returns-in-Blank
returns-in-Blank c = rw c.in-Blank.is c.is_blank.ensures

pub returns-in-Parting : goal.returns-in-Parting
returns-in-Parting c = rw c.in-Parting.is c.is_parting.ensures

pub returns-in-Token : goal.returns-in-Token
returns-in-Token c = rw c.in-Token.is (ap not c.is_parting-in-Token.ensures)

pub returns-in-Line : goal.returns-in-Line
returns-in-Line c = rw c.in-Line.is
