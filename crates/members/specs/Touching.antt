-- The variables by which an operation changes a member, and one member replaced. No call open to others cites this file.
use Rattle.std.specs.Prelude.{◌≡◌, true, false, cond, List, ℕ, ◌≤◌, get_or, set, eqb}
use Rattle.std.specs.Int.Bits.{bit_or}
use Rattle.meaning.specs.Diagram.{Diagram}
use Rattle.meaning.specs.Words.{in_word}
use Rattle.table.specs.Indexed.{Table}
use Rattle.operate.specs.declared.Operation.{Operation}
use Rattle.operate.specs.declared.Operation.TheVariants.{Conjunction, Negation, Cofactor, Literals}
use Rattle.operate.specs.Inner.{applied}
use Rattle.supports.specs.Supports.{Forced}
use Rattle.members.specs.declared.Replaced.{Replaced}

-- The word has every variable that a cofactor sets: those that the diagram g forces, or the literals'. Other operations change more than
-- diagrams with such a variable.
abbrev pub Touches : Operation → Diagram → ℕ → Type 0
Touches Conjunction g word = ⊥
Touches Negation g word = ⊥
Touches Cofactor g word = Forced word g
Touches (Literals p n) g word = word ≡ bit_or p n

-- A member's word once its node f is replaced by k, which may have gained variables: it stays where the node does.
unfoldable pub reworded : ℕ → ℕ → ℕ → ℕ → ℕ
reworded f k word gained = cond (eqb f k) word (bit_or word gained)

-- The two words have no variable in common.
abbrev pub Apart : ℕ → ℕ → Type 0
Apart word touching = (v : ℕ) → in_word word v ≡ true → in_word touching v ≡ false

-- Of a list in the table t the member at i was replaced by the operation's result on it and g; list and words are written there where the
-- node changed, and `written` tells whether it did.
pub record OneMade (op : Operation) (t : Table) (list words : List ℕ) (g gained i : ℕ) (r : Replaced) (t' : Table)
    (list' words' : List ℕ) : Type 0 where
  pub outcome : record { table = t'; full = r.full; node = r.node.0 } ≡ applied t op (get_or list i 0) g
  pub list-is : r.full ≡ false → list' ≡ set list i r.node.0
  pub words-is : r.full ≡ false → words' ≡ set words i (reworded (get_or list i 0) r.node.0 (get_or words i 0) gained)
  pub told : r.full ≡ false → r.written ≡ cond (eqb (get_or list i 0) r.node.0) 0 1
  pub most : r.written ≤ 1
