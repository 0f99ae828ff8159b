-- What the readers answer in the code's own types: a clause as the set of its literals and its pivot. No call open to others cites this
-- file.
use Rattle.std.specs.Prelude.{Bool, true, false, cond, List, [], ◌∷◌, ℕ, ◌+◌, ◌/◌, ◌%◌, eqb, ltb, leb, Option, None, Some, Result, Ok, Err}
use Rattle.meaning.specs.Operations as meaning
use Rattle.words.specs.Sets.{literals_of}
use Rattle.dimacs.specs.declared.Literal as code_literal
use Rattle.dimacs.specs.declared.Refusal.{Refusal}
use Rattle.dimacs.specs.Numbers.{Token, Closing, Literal, Wrong}
use Rattle.dimacs.specs.Inner.{refusal_at, literal_at, token_read}
use Rattle.commands.specs.declared.DratClause.{DratClause}
use Rattle.commands.specs.declared.binary.GroupsRead.{GroupsRead}
use Rattle.commands.specs.declared.Command as code
use Rattle.commands.specs.declared.Command.TheVariants as code-variants
use Rattle.commands.specs.declared.Read as code_read
use Rattle.commands.specs.Commands.{Command, recorded, added, struck_out, wrong, finished, Read, Groups, cut, groups, groups_token}

-- "the first being the pivot" (02, 4/14); the empty clause has none.
abbrev pub pivot_of : List meaning.Literal → Option code_literal.Literal
pivot_of [] = None
pivot_of (l ∷ ls) = Some (literal_at l.variable l.positive)

-- The pivot by the clause's first token.
abbrev pub pivot_at : Token → Option code_literal.Literal
pivot_at Closing = None
pivot_at (Literal v b) = Some (literal_at v b)
pivot_at (Wrong k) = None

abbrev pub clause_words : List meaning.Literal → DratClause
clause_words ls = record { literals = literals_of ls; pivot = pivot_of ls }

-- The command of a clause, in the definition's terms and in the code's.
abbrev pub command_for : Bool → List meaning.Literal → Command
command_for true ls = struck_out ls
command_for false ls = added ls

abbrev pub clause_command : Bool → DratClause → code.Command
clause_command true c = code-variants.Struck c
clause_command false c = code-variants.Added c

-- A command, or its fault of form with the place counted from the command's first byte.
abbrev pub command_of : Command → Result code.Command Refusal
command_of (recorded r more) = Ok (code-variants.Recorded r more)
command_of (added ls) = Ok (code-variants.Added (clause_words ls))
command_of (struck_out ls) = Ok (code-variants.Struck (clause_words ls))
command_of (wrong number offset) = Err (refusal_at number offset)
command_of finished = Ok code-variants.Finished

-- What is read at `at`: the command and the place of the next, or its fault with the place counted from the file's first byte.
abbrev pub read_with : ℕ → ℕ → Result code.Command Refusal → Result code_read.Read Refusal
read_with at next (Ok c) = Ok (record { command = c; next = next })
read_with at next (Err r) = Err (refusal_at r.number (at + r.place))

abbrev pub read_of : ℕ → Read → Result code_read.Read Refusal
read_of at r = read_with at r.next (command_of r.command)

-- ---- groups

-- A group that another follows: its top bit is set.
abbrev pub is_open_group : ℕ → Bool
is_open_group b = leb 128 b

-- The literal of a number, or 4.
abbrev pub literal_coded : ℕ → ℕ → Token
literal_coded n number = cond (ltb n (number / 2)) (Wrong 4) (Literal (number / 2) (eqb (number % 2) 0))

-- What groups at a place say and the place behind them; 6 where they are cut.
pub record Said : Type 0 where
  pub token : Token
  pub end : ℕ

abbrev pub groups_said : ℕ → ℕ → Groups → Said
groups_said n at cut = record { token = Wrong 6; end = at }
groups_said n at (groups number many last) = record { token = groups_token n number many last; end = at + many }

-- The same in the code's own types.
abbrev pub coded : Said → GroupsRead
coded w = record { token = token_read w.token; end = w.end }

abbrev pub groups_read : ℕ → ℕ → Groups → GroupsRead
groups_read n at g = coded (groups_said n at g)

-- "31 and 4 at the literal, the others at the opening byte"
abbrev pub fault_place : ℕ → ℕ → ℕ → ℕ
fault_place number first at = cond (eqb number 6) first at
