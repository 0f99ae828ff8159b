-- DRAT as text: which texts say a proof, and which one. (02, 4/14: "literals parted as in the formula and closed by 0 [..]; a leading `d`,
-- parted likewise, strikes out; lines beginning with `c` are skipped") No call open to others cites this file: the theorem on the reader
-- does.
use Rattle.std.specs.Prelude.{◌≡◌, List, [], ◌∷◌, ℕ}
use Rattle.commands.specs.declared.Form.TheVariants.{Text}
use Rattle.commands.specs.Commands.{Command, recorded, added, struck_out, wrong, finished, start, command_at}
use Rattle.grammar.specs.Parts.{Comment, comment, comments, Piece, gap, Parting, parting}
use Rattle.grammar.specs.Formula.{Item, clause, literals, Ending, ending, Within}

-- ---- one line

-- A clause that is added, or one that is struck out, with what parts its `d` from it.
pub data Entry : Type 0 where
  adds : List Item → Entry
  strikes : Parting → List Item → Entry

-- 100 is `d`.
abbrev pub entry : Entry → List ℕ → List ℕ
entry (adds is) r = clause is r
entry (strikes p is) r = 100 ∷ parting p (clause is r)

abbrev pub said : Entry → Command
said (adds is) = added (literals is)
said (strikes p is) = struck_out (literals is)

abbrev pub EntryWithin : ℕ → Entry → Type 0
EntryWithin n (adds is) = Within n (literals is)
EntryWithin n (strikes p is) = Within n (literals is)

-- ---- the text

-- What follows a clause: the end, or what parts it from the next.
pub data Rest : Type 0 where
  end : Ending → Rest
  entry_then : Parting → Entry → Rest → Rest

abbrev pub rest : Rest → List ℕ
rest (end e) = ending e
rest (entry_then p x b) = parting p (entry x (rest b))

abbrev pub rest_said : Rest → List Command
rest_said (end e) = []
rest_said (entry_then p x b) = said x ∷ rest_said b

abbrev pub RestWithin : ℕ → Rest → Type 0
RestWithin n (end e) = Unit {0}
RestWithin n (entry_then p x b) = EntryWithin n x × RestWithin n b

-- A text starts with a line: with comment lines, or with none. Then the first clause, if there is one.
pub data Proof : Type 0 where
  opens : List Comment → List Piece → Entry → Rest → Proof
  empty : List Comment → Ending → Proof
  comment_alone : List Comment → Comment → Proof

abbrev pub proof : Proof → List ℕ
proof (opens ks g x b) = comments ks (gap g (entry x (rest b)))
proof (empty ks e) = comments ks (ending e)
proof (comment_alone ks c) = comments ks (comment c [])

abbrev pub proof_said : Proof → List Command
proof_said (opens ks g x b) = said x ∷ rest_said b
proof_said (empty ks e) = []
proof_said (comment_alone ks c) = []

abbrev pub ProofWithin : ℕ → Proof → Type 0
ProofWithin n (opens ks g x b) = EntryWithin n x × RestWithin n b
ProofWithin n (empty ks e) = Unit {0}
ProofWithin n (comment_alone ks c) = Unit {0}

-- The text s says the commands cs, in a formula of n variables: no literal lies beyond the header.
pub record Drat (s : List ℕ) (n : ℕ) (cs : List Command) : Type 0 where
  pub tree : Proof
  pub is : s ≡ proof tree
  pub are : proof_said tree ≡ cs
  pub within : ProofWithin n tree

-- ---- the reader

-- Clauses that are added or struck out, and no other command.
abbrev pub IsClause : Command → Type 0
IsClause (added ls) = Unit {0}
IsClause (struck_out ls) = Unit {0}
IsClause (recorded r more) = ⊥
IsClause (wrong number offset) = ⊥
IsClause finished = ⊥

-- From a place on the reader gives just the commands cs, each a clause, and then the end, with nothing refused.
abbrev pub ReadsFrom : List ℕ → ℕ → ℕ → List Command → Type 0
ReadsFrom s n at [] = (command_at Text s n at).command ≡ finished
ReadsFrom s n at (c ∷ cs) =
    IsClause c × ((command_at Text s n at).command ≡ c) × ReadsFrom s n (command_at Text s n at).next cs

-- The text s is read as the commands cs, and accepted by the reader.
abbrev pub ReadsDrat : List ℕ → ℕ → List Command → Type 0
ReadsDrat s n cs = ReadsFrom s n (start Text s) cs
