-- How the code finds the paths: the first, and the one after another, as two words of variables. No call open to others cites this file.
use Rattle.std.specs.Prelude.{◌≡◌, Bool, true, false, cond, List, ℕ, ◌≤◌, ◌<◌}
use Rattle.meaning.specs.Diagram.{Diagram, leaf, node}
use Rattle.meaning.specs.Words.{in_word}
use Rattle.words.specs.declared.Literals.{Literals}
use Rattle.words.specs.Sets.{no_literals, with_literal}
use Rattle.table.specs.Nodes.{Node, diagram_at}
use Rattle.paths.specs.declared.Branch.{Branch}
use Rattle.paths.specs.declared.Fork.{Fork}
use Rattle.paths.specs.declared.NextPath.{NextPath}

-- The node of number k, as the diagram says it, and what good order says of it.
pub record BranchAt (t : List Node) (k : ℕ) (r : Branch) : Type 0 where
  pub is : diagram_at t k ≡ node r.variable (diagram_at t r.low.0) (diagram_at t r.high.0)
  pub least : 1 ≤ r.variable
  pub most : r.variable ≤ 64
  pub low-less : r.low.0 < k
  pub high-less : r.high.0 < k

-- The diagram is 1, which has no path to 0.
abbrev pub is_one : Diagram → Bool
is_one (leaf b) = b
is_one (node v l h) = false

-- The literals of the first path, and those at hand: the low side is passed over only where it is 1.
unfoldable pub first_from : Diagram → Literals → Literals
first_from (leaf b) u = u
first_from (node v l h) u = cond (is_one l) (first_from h (with_literal u v true)) (first_from l (with_literal u v false))

abbrev pub found : Bool → Literals → NextPath
found b u = record { found = b; literals = u }

-- The path after the one that goes high at the variables of the word, or another: where that path goes low and the high side is not 1, the
-- first path of the high side comes after all that comes after it on the low side.
unfoldable pub after_from : Diagram → ℕ → Literals → NextPath → NextPath
unfolding first_from
after_from (leaf b) word u other = other
after_from (node v l h) word u other =
    let high = after_from h word (with_literal u v true) other in
    let turned = cond (is_one h) other (found true (first_from h (with_literal u v true))) in
    let low = after_from l word (with_literal u v false) turned in
    cond (in_word word v) high low

-- A fork of the way down is the first path of its node.
abbrev pub fork_in : List Node → Fork → NextPath
fork_in t r = found r.found (first_from (diagram_at t r.node.0) r.literals)

abbrev pub no_path : NextPath
no_path = found false no_literals
