-- "8 and 23 are given only where a node not in the table is to be placed and the count equals the size." (01, What the call says
-- and leaves) No call open to others cites this file.
use Rattle.std.specs.Prelude.{◌≡◌, ◌≢◌, true, false, List, ◌∷◌, ℕ, ◌<◌, length}
use Rattle.meaning.specs.Diagram.{Diagram, node, branch}
use Rattle.meaning.specs.Operations as meaning
use Rattle.meaning.specs.Rules.{Line}
use Rattle.table.specs.Nodes.{Node, diagram_at, full, placed, place}
use Rattle.table.specs.Making.{all, placed_all, line_reach}
use Rattle.dimacs.specs.Clauses.{Reading, clause}
use Rattle.records.specs.declared.Record.{Record}
use Rattle.records.specs.declared.Record.TheVariants.{NodeEntry, Witness, ProofLine, Strike, SetEntry, End}
use Rattle.records.specs.declared.Record.TheVariants.{CutShort, UnknownKind, NoRecord}
use Rattle.commands.specs.declared.Mode.{Mode}
use Rattle.commands.specs.Commands.{Command, recorded, added, struck_out, wrong, finished}
use Rattle.verdict.specs.Steps.{State, with_entry, entry_node, diagram_in, live_members, set_diagram}
use Rattle.verdict.specs.Clausal.{second_line}
use Rattle.verdict.specs.Taken.{Function, Meant, line_of}
use Rattle.verdict.specs.ClauseTaken.{first_line}
use Rattle.verdict.specs.Run.{command_in, Making, Reached}

-- A diagram beneath another, or the other itself.
pub data Part (E : Diagram) : Diagram → Type 0 where
  whole : Part E E
  in-low : {v : ℕ} {l h : Diagram} → Part E l → Part E (node v l h)
  in-high : {v : ℕ} {l h : Diagram} → Part E h → Part E (node v l h)

-- Making D in the nodes t of a table of s places came to nodes that take all s places, and a node of D is not among them.
pub record Wants (s : ℕ) (t : List Node) (D : Diagram) : Type 0 where
  pub nodes : List Node
  pub came : place s t D ≡ full nodes
  pub taken : length nodes ≡ s
  pub part : Diagram
  pub of-it : Part part D
  pub missing : (k : ℕ) → k < length nodes → diagram_at nodes k ≢ part

-- The same of one of the diagrams that are made one after the other.
pub data ListWants (s : ℕ) : List Node → List Diagram → Type 0 where
  now : {t : List Node} {f : Diagram} {fs : List Diagram} → Wants s t f → ListWants s t (f ∷ fs)
  later : {t t₁ : List Node} {k : ℕ} {f : Diagram} {fs : List Diagram}
      → place s t f ≡ placed t₁ k → ListWants s t₁ fs → ListWants s t (f ∷ fs)

-- The same of a turn.
pub data TurnWants (s : ℕ) (t : List Node) : List (List Diagram) → Type 0 where
  this : {made : List Diagram} {rest : List (List Diagram)} → ListWants s t made → TurnWants s t (made ∷ rest)
  next : {made : List Diagram} {rest : List (List Diagram)} → TurnWants s t rest → TurnWants s t (made ∷ rest)

-- The same of what a line makes: not-g and the live members by not-g, or a turn over them.
pub data LineWants (s : ℕ) (t : List Node) (line : Line) : Type 0 where
  in-base : ListWants s t line.kept → LineWants s t line
  in-turn : {t₁ : List Node} → placed_all s t line.kept ≡ all t₁ → TurnWants s t₁ line.turns → LineWants s t line

-- What a record wants: the node of a node record, the diagram of a set's entry, what a line makes.
abbrev pub RecordWants : ℕ → ℕ → State → Record → Type 0
RecordWants n s st (NodeEntry b) =
    Wants s st.nodes (branch b.variable (diagram_in st (entry_node st b.low.0)) (diagram_in st (entry_node st b.high.0)))
RecordWants n s st (ProofLine rule root) = LineWants s st.nodes (line_of n st rule (entry_node st root.0))
RecordWants n s st (Witness v b) = ⊥
RecordWants n s st (Strike k) = ⊥
RecordWants n s st (SetEntry kind b) = Wants s st.nodes (set_diagram n kind b)
RecordWants n s st End = ⊥
RecordWants n s st CutShort = ⊥
RecordWants n s st UnknownKind = ⊥
RecordWants n s st NoRecord = ⊥

-- What an added clause wants: a node of its own diagram; of what its first line makes, over the nodes with it; or, the first try having
-- failed, of what its second line makes over them. (02, 4/14)
pub data ClauseWants (n s : ℕ) (st : State) (ls : List meaning.Literal) : Type 0 where
  in-clause : Wants s st.nodes (meaning.clause n ls) → ClauseWants n s st ls
  in-first : {t : List Node} {k : ℕ} → place s st.nodes (meaning.clause n ls) ≡ placed t k
      → LineWants s t (first_line n (with_entry st t k) ls) → ClauseWants n s st ls
  in-second : {t : List Node} {k : ℕ} {p : meaning.Literal} {rest : List meaning.Literal} → ls ≡ p ∷ rest
      → place s st.nodes (meaning.clause n ls) ≡ placed t k
      → (line_reach s t (first_line n (with_entry st t k) ls)).fits ≡ true → (first_line n (with_entry st t k) ls).shown ≡ false
      → LineWants s t (second_line n (live_members (with_entry st t k)) p rest) → ClauseWants n s st ls

-- The same of every command.
abbrev pub CommandWants : ℕ → ℕ → State → Command → Type 0
CommandWants n s st (recorded r more) = RecordWants n s st r
CommandWants n s st (added ls) = ClauseWants n s st ls
CommandWants n s st (struck_out ls) = ⊥
CommandWants n s st (wrong number offset) = ⊥
CommandWants n s st finished = ⊥

-- Where 8 is given: a clause, its first token at the place.
pub record AtClause (s : ℕ) (text : List ℕ) (at : ℕ) : Type 0 where
  pub n : ℕ
  pub many : ℕ
  pub nodes : List Node
  pub members : List ℕ
  pub functions : List Function
  pub literals : List meaning.Literal
  pub rest : Reading
  pub making : Making s text n many nodes members functions (clause literals at rest)
  pub wants : Wants s nodes (meaning.clause n literals)

-- Where 23 is given: a command, its first byte at the place.
pub record AtCommand (mode : Mode) (s : ℕ) (text proof : List ℕ) (at : ℕ) : Type 0 where
  pub n : ℕ
  pub state : State
  pub meant : Meant
  pub reached : Reached mode s text proof n state at meant
  pub wants : CommandWants n s state (command_in mode proof n at)
