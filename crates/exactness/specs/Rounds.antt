-- The rounds of the check's propagations, and how many members each of them writes: "in a round not refused this is the number of live
-- members that differ from their cofactor by the round's U". (01, The rules; 02, 6/14) No call open to others cites this file.
use Rattle.std.specs.Prelude.{◌≡◌, Bool, true, false, List, [], ℕ, zero, suc, ◌<◌, length, get_or}
use Rattle.std.proofs.Math.Option.{some}
use Rattle.meaning.specs.Diagram.{Diagram, leaf, same}
use Rattle.meaning.specs.Operations.{negation, cofactor_literals}
use Rattle.meaning.specs.Rules.{conflicts, first_with_unit, by_units, by_diagram}
use Rattle.paths.specs.Paths.{paths, by_path}
use Rattle.members.specs.Made.{differing}
use Rattle.demands.specs.Words.{Among}

-- Round k, from 0, of the propagation of the members ms: the members before it, and the one whose U it takes. "(a) a member is 0 or the
-- negation of another: conflict; (b) else the first member by place with a nonempty U: cofactor all members by its U, count one round, go
-- to (a)"
pub data RoundOf (n : ℕ) : ℕ → List Diagram → List Diagram → Diagram → Type 0 where
  first : {ms : List Diagram} {u : Diagram} → conflicts n ms ≡ false → first_with_unit n ms ≡ some u → RoundOf n zero ms ms u
  later : {k : ℕ} {ms now : List Diagram} {u taken : Diagram} → conflicts n ms ≡ false → first_with_unit n ms ≡ some u
      → RoundOf n k (by_units n u ms) now taken → RoundOf n (suc k) ms now taken

-- The members that a propagation of a line with the root g starts from: the live members ms by not-g; in PR, for a member f that the
-- witness does not make 1, these by not-h, h being f under the witness; on a path line, the live members by the literals of a path.
pub data Starts (n : ℕ) (ms : List Diagram) (g : Diagram) : List Diagram → Type 0 where
  of-rup : Starts n ms g (by_diagram n (negation n g) ms)
  of-pr : (P N : ℕ → Bool) (f : Diagram) → Among ms f → same (cofactor_literals n P N f) (leaf true) ≡ false
      → Starts n ms g (by_diagram n (negation n (cofactor_literals n P N f)) (by_diagram n (negation n g) ms))
  of-path : (j : ℕ) → j < length (paths g) → Starts n ms g (by_path n (get_or (paths g) j []) ms)

-- The round that takes u writes so many of the members: those that differ from their cofactor by U(u).
abbrev pub writes : ℕ → List Diagram → Diagram → ℕ
writes n ms u = differing ms (by_units n u ms)
