-- Rows about DRAT proofs: the commands of a proof with their first bytes, and the number and the place of its fault. (02, 4/14 and 9/14) No
-- call open to others cites this file.
use Rattle.std.specs.Prelude.{◌≡◌, List, [] as []ᴸ, ◌∷◌ as ◌∷ᴸ◌, ℕ, zero, suc, ◌+◌, length}
use Prim.Native.String.{String}
use Rattle.meaning.specs.Operations.{Literal}
use Rattle.commands.specs.declared.Form.{Form}
use Rattle.commands.specs.declared.Form.TheVariants.{Text, Binary}
use Rattle.commands.specs.Commands.{Command, recorded, added, struck_out, wrong, finished, start, text_read, binary_read, command_at}
use Rattle.dimacs.specs.Texts.{bytes}

-- A clause added or struck by the command at a place; the number and the place of the fault; the end.
pub data Told : Type 0 where
  adds : ℕ → List Literal → Told → Told
  strikes : ℕ → List Literal → Told → Told
  faulty : (number place : ℕ) → Told
  ends : (place : ℕ) → Told

abbrev pub telling : ℕ → Command → Told → Told
telling at (added ls) rest = adds at ls rest
telling at (struck_out ls) rest = strikes at ls rest
telling at (wrong number offset) rest = faulty number (at + offset)
telling at finished rest = ends at
telling at (recorded r more) rest = faulty 0 at

-- The commands from a place on, at most k of them.
unfoldable pub told_from : ℕ → Form → List ℕ → ℕ → ℕ → Told
unfolding text_read binary_read
told_from zero form s n at = faulty 0 at
told_from (suc k) form s n at = let r = command_at form s n at in telling at r.command (told_from k form s n r.next)

-- The proof in a form, for a formula of n variables, tells that.
pub record Row : Type 0 where
  pub form : Form
  pub variables : ℕ
  pub proof : List ℕ
  pub tells : Told

abbrev pub row : ℕ → String → Told → Row
row n text tells = record { form = Text; variables = n; proof = bytes text; tells = tells }

abbrev pub coded : ℕ → List ℕ → Told → Row
coded n proof tells = record { form = Binary; variables = n; proof = proof; tells = tells }

abbrev pub Gives : Row → Type 0
Gives r = let s = r.proof in told_from (suc (length s)) r.form s r.variables (start r.form s) ≡ r.tells

abbrev pub GivesAll : List Row → Type 0
GivesAll []ᴸ = Unit {0}
GivesAll (r ∷ᴸ rs) = Gives r × GivesAll rs
