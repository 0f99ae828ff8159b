-- What the inner functions say of the formula's clauses made in the table. No call open to others cites this file.
use Rattle.std.specs.Prelude.{◌≡◌, List, ℕ, ◌≤◌, ◌<◌, length, get_or, take}
use Rattle.table.specs.Nodes.{at}
use Rattle.table.specs.Indexed.{Table, table_of, size, nodes_of, indexed, Good}
use Rattle.commands.specs.declared.Mode.{Mode}
use Rattle.verdict.specs.Steps.{emptied, begun}
use Rattle.verdict.specs.Check.{zeros, Verdict, proof_from, refused_formula}
use Rattle.formula.specs.declared.Start.{Start}
use Rattle.formula.specs.declared.Start.TheVariants.{Begun, Refused}

-- The emptied table with its index, and the emptied member list.
pub record Opened (T : Table) (members : List ℕ) : Type 0 where
  pub least : 2 ≤ size T
  pub most : size T ≤ 65536
  pub written : T ≡ indexed (size T) emptied
  pub room : 2048 ≤ length members
  pub none : members ≡ zeros (length members)

-- What is left to be said once the formula is read.
abbrev pub said_from : Mode → ℕ → List ℕ → List ℕ → List ℕ → List ℕ → List ℕ → List ℕ → List ℕ → Start → Verdict
said_from mode n proof vars lows highs heads links members (Begun count made) =
    proof_from mode n (length vars) proof (begun (nodes_of (table_of vars lows highs heads links count)) (take made members))
said_from mode n proof vars lows highs heads links members (Refused number place peak) = refused_formula number place peak

-- The clauses made: a good table with no variable beyond n, the members' nodes in it, and zeros behind the members.
pub record Built (n : ℕ) (T : Table) (members : List ℕ) (made : ℕ) : Type 0 where
  pub good : Good T
  pub uses : (k : ℕ) → 2 ≤ k → k < length (nodes_of T) → (at (nodes_of T) k).var ≤ n
  pub inside : (i : ℕ) → i < made → get_or members i 0 < T.count
  pub few : made ≤ 1024
  pub rest : (i : ℕ) → made ≤ i → ◌≡◌ {A = ℕ} (get_or members i 0) 0

-- What the check of the proof begins with.
abbrev pub Begins : ℕ → List ℕ → List ℕ → List ℕ → List ℕ → List ℕ → List ℕ → Start → Type 0
Begins n vars lows highs heads links members (Begun count made) = Built n (table_of vars lows highs heads links count) members made
Begins n vars lows highs heads links members (Refused number place peak) = Unit {0}
