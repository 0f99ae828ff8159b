-- What the check leaves, and the state made again from it. No call open to others cites this file.
use Rattle.std.specs.Prelude.{◌≡◌, ◌++◌, ℕ, ◌+◌, ◌-◌, ◌≤◌, length}
use Rattle.table.specs.Columns.{columns_made, stored_as}
use Rattle.dimacs.specs.Header.{Header, Proper, Improper}
use Rattle.verdict.specs.Steps as check
use Rattle.verdict.specs.Check.{Verdict, zeros}
use Rattle.state.specs.States.{Lent, state_of, Held}
use Rattle.tell.specs.Begun.{line_state}
use Rattle.line_again.specs.declared.Again.{Again}
use Rattle.line_again.specs.Before.{SameBut}

-- The lists as the check leaves them, v being what it says, with its count and its accepted lines. (`outcome`, verdict/specs/Check)
pub record LeftBy (v : Verdict) (count lines : ℕ) (l : Lent) : Type 0 where
  pub columns : columns_made l.vars l.lows l.highs l.heads l.links ≡ stored_as (length l.vars) v.nodes
  pub members : l.members ≡ v.members ++ zeros (length l.members - length v.members)
  pub struck : l.struck ≡ v.struck ++ zeros (length l.members - length v.struck)
  pub scratch : l.scratch ≡ zeros (length l.scratch)
  pub count-is : count ≡ length v.nodes
  pub lines-is : lines ≡ v.lines
  pub two : 2 ≤ length l.vars
  pub most : length l.vars ≤ 65536
  pub wide : 2048 ≤ length l.members
  pub long : 4096 ≤ length l.scratch

-- ---- the line done again

-- The formula's variables, and the state as the refused line began: its members are the header's clauses and the lines so far.
abbrev pub begun_by : Header → ℕ → ℕ → Again
begun_by (Proper n many at) count lines = record { variables = n; state = line_state count (many + lines) lines }
begun_by (Improper number place) count lines = record { variables = 0; state = line_state count 0 lines }

-- The state st before the refused command of a formula of n variables, held in the lists l', which the check left as l.
pub record MadeAgain (n : ℕ) (st : check.State) (l l' : Lent) (r : Again) : Type 0 where
  pub variables : r.variables ≡ n
  pub same : SameBut st (state_of l' r.state)
  pub held : Held n l' r.state
  pub members : l'.members ≡ l.members
  pub struck : l'.struck ≡ l.struck
