-- The two tries of a clause over the table, as the code makes them. No call open to others cites this file.
use Rattle.std.specs.Prelude.{◌≡◌, Bool, true, false, not, ◌||◌, cond, List, ℕ, ◌≤◌, max, take}
use Rattle.meaning.specs.Rules.{Line, rup, pr}
use Rattle.meaning.specs.Words.{in_word}
use Rattle.words.specs.declared.Literals.{Literals}
use Rattle.table.specs.Nodes.{diagram_at}
use Rattle.table.specs.Indexed.{Table, nodes_of}
use Rattle.table.specs.Lists.{diagrams_of}
use Rattle.table.specs.declared.Placed.{Placed}
use Rattle.std.specs.Prelude.{Option, None, Some}
use Rattle.dimacs.specs.declared.Literal as code_literal
use Rattle.commands.specs.declared.DratClause.{DratClause}
use Rattle.judge.specs.declared.Judged.{Judged}
use Rattle.verdict.specs.Steps.{unstruck}
use Rattle.state.specs.declared.State.{State}
use Rattle.steps.specs.Tried.{Tried}
use Rattle.tries.specs.Words.{witness_words}

-- The members that are not struck, of the lists lent.
abbrev pub live_in : List ℕ → List ℕ → State → List ℕ
live_in members struck st = unstruck (take st.members struck) (take st.members members)

-- The state with the nodes of the clause: so many, and the greatest count so far.
abbrev pub with_nodes : State → ℕ → State
with_nodes st count = record {
  count = count;
  kept = st.kept;
  members = st.members;
  entries = st.entries;
  witness = st.witness;
  lines = st.lines;
  rounds = st.rounds;
  peak = max st.peak count;
  refuted = st.refuted;
}

-- A pivot is a literal of one of the 64 variables.
abbrev pub PivotFits : Option code_literal.Literal → Type 0
PivotFits None = Unit {0}
PivotFits (Some l) = (1 ≤ l.variable) × (l.variable ≤ 64)

-- ---- what trying says, node g being the clause's

abbrev pub rup_in : Table → List ℕ → ℕ → Line
rup_in t live g = rup 64 (diagrams_of (nodes_of t) live) (diagram_at (nodes_of t) g)

abbrev pub pr_in : Table → List ℕ → ℕ → Literals → Line
pr_in t live g w = pr 64 (in_word w.positive) (in_word w.negative) (diagrams_of (nodes_of t) live) (diagram_at (nodes_of t) g)

-- Nothing was made: for want of room, or of a pivot.
abbrev pub untried : Bool → Judged
untried full = record { full = full; shown = false; rounds = 0; count = 0; peak = 0 }

-- "The empty clause has no pivot" (02, 4/14), and no second try.
abbrev pub SecondTried : Table → List ℕ → ℕ → Literals → Option code_literal.Literal → Judged → Type 0
SecondTried t live g u None r = r ≡ untried false
SecondTried t live g u (Some l) r = Tried t (pr_in t live g (witness_words u l.variable l.positive)) r

-- A try after which there is no other: "failing with 19" alone leads to the second.
abbrev pub decided : Judged → Bool
decided j = j.full || j.shown

-- The second try's answer, with the greatest count of both.
abbrev pub after_first : Judged → Judged → Judged
after_first j r = record { full = r.full; shown = r.shown; rounds = r.rounds; count = r.count; peak = max j.peak r.peak }

-- The clause found no room; or its first try decides; or its second does.
pub data BothTried (t : Table) (live : List ℕ) (c : DratClause) (made : Placed) : Judged → Type 0 where
  no_room : made.full ≡ true → BothTried t live c made (untried true)
  once : (r : Judged) → made.full ≡ false → Tried t (rup_in t live made.node.0) r → decided r ≡ true → BothTried t live c made r
  twice : (j r : Judged) → made.full ≡ false → Tried t (rup_in t live made.node.0) j → decided j ≡ false
      → SecondTried t live made.node.0 c.literals c.pivot r → BothTried t live c made (after_first j r)

-- How many nodes stay: a refused clause's own are dropped.
abbrev pub kept_by : Judged → ℕ → ℕ → ℕ
kept_by j before after = cond j.full before (cond (not j.shown) before after)
