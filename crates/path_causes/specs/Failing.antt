-- The path at which a path line fails, and what is told of it. No call open to others cites this file.
use Rattle.std.specs.Prelude.{◌≡◌, List, ℕ, length}
use Rattle.std.proofs.Math.Option.{none}
use Rattle.meaning.specs.Diagram.{Diagram}
use Rattle.meaning.specs.Operations.{Literal}
use Rattle.words.specs.declared.Literals.{Literals}
use Rattle.table.specs.Indexed.{Table}
use Rattle.path_lines.specs.Turns.{by_words, turn_by}
use Rattle.causes.specs.Causes.{fixed, fixes, path_cause}
use Rattle.causes.specs.Answers.{fixed_as}
use Rattle.tell.specs.Failed.{Unshown}

-- Over the members ms the first path of g to 0 whose propagation does not conflict has these two words. Its turn finds room.
pub record FirstFailing (t : Table) (ms : List Diagram) (g : Diagram) (u : Literals) : Type 0 where
  pub fails : Unshown t (turn_by u ms)
  pub cause : path_cause 64 ms g ≡ fixed (fixes 64 (by_words u ms)) none

-- The rounds of that path's propagation, and their words.
pub record PathTold (ms : List Diagram) (g : Diagram) (rounds : ℕ) (words : List ℕ) : Type 0 where
  pub literals : List (List Literal)
  pub cause : path_cause 64 ms g ≡ fixed literals none
  pub rounds-are : rounds ≡ length literals
  pub words_are : words ≡ fixed_as (length words) literals
