-- The operations without a memo. No call open to others cites this file.
use Rattle.std.specs.Prelude.{◌≡◌, cond, List, ℕ, zero, suc, ◌≤◌, ◌<◌, length, get_or, eqb}
use Rattle.std.specs.Int.Bits.{bit_and}
use Rattle.meaning.specs.Diagram.{Diagram, branch}
use Rattle.meaning.specs.Reduced.{Reduced}
use Rattle.table.specs.declared.Found.{Found}
use Rattle.table.specs.declared.Found.TheVariants.{At, Nothing}
use Rattle.table.specs.Nodes.{diagram_at, place}
use Rattle.table.specs.Indexed.{Table, table_of, size, nodes_of, Outcome, written}
use Rattle.words.specs.declared.Literals as words
use Rattle.operate.specs.declared.Operation.{Operation}
use Rattle.operate.specs.declared.Operation.TheVariants.{Conjunction, Negation, Cofactor, Literals}
use Rattle.operate.specs.declared.step.Kind.{Kind}
use Rattle.operate.specs.declared.step.Kind.TheVariants.{ByLiterals}
use Rattle.operate.specs.declared.step.Sides.{Sides}
use Rattle.operate.specs.Operate.{result}
use Rattle.operate.specs.Inner.{operation_of, terminal_of, beyond, found, top, Shared, Operands, SideOperands}
use Rattle.thin.specs.declared.StepDown.{StepDown}
use Rattle.thin.specs.declared.StepDown.TheVariants.{Told, One, Over, Wide}
use Rattle.thin.specs.declared.Came.{Came}
use Rattle.thin.specs.declared.Came.TheVariants.{Down, TooWide}

-- ---- what is told without a step

-- Where the node numbers tell nothing, f has a variable.
abbrev pub Leveled : Operation → List ℕ → ℕ → ℕ → Type 0
Leveled op vars f g = terminal_of op f g ≡ Nothing → (f < length vars) × (1 ≤ get_or vars f 0) × (get_or vars f 0 ≤ 64)

-- What the node numbers tell, or f where it comes after all that is set in it.
abbrev pub or_beyond : List ℕ → Kind → words.Literals → ℕ → Found → Found
or_beyond vars kind by f (At k) = At k
or_beyond vars kind by f Nothing = cond (beyond kind by (get_or vars f 0)) (found f) Nothing

-- The result where it is told without a step.
abbrev pub settled_of : List ℕ → Kind → words.Literals → ℕ → ℕ → Found
settled_of vars kind by f g = or_beyond vars kind by f (terminal_of (operation_of kind by) f g)

-- ---- a cofactor by literals

abbrev pub by_literals : words.Literals → Operation
by_literals by = Literals by.positive by.negative

-- The result where it is told without a step.
abbrev pub settled_by : List ℕ → words.Literals → ℕ → Found
settled_by vars by f = settled_of vars ByLiterals by f 1

-- The literals of the word's variables.
abbrev pub cut_by : words.Literals → ℕ → words.Literals
cut_by by word = record { positive = bit_and by.positive word; negative = bit_and by.negative word }

-- The operation with these alone.
abbrev pub cut_to : Operation → ℕ → Operation
cut_to Conjunction word = Conjunction
cut_to Negation word = Negation
cut_to Cofactor word = Cofactor
cut_to (Literals p n) word = Literals (bit_and p word) (bit_and n word)

-- ---- a step down

-- The operation on f and g can be done in the table, and the word has what f has of the variables that g forces.
pub record Given (op : Operation) (shared : ℕ) (t : Table) (f g : ℕ) : Type 0 where
  pub operands : Operands op t f g
  pub share : Shared op shared t f g

-- The columns are those of such a table.
pub record SomeGiven (op : Operation) (shared : ℕ) (vars lows highs : List ℕ) (f g : ℕ) : Type 0 where
  pub heads : List ℕ
  pub links : List ℕ
  pub count : ℕ
  pub given : Given op shared (table_of vars lows highs heads links count) f g

-- The same of two sides, whose variables come after their x.
pub record SidesGiven (op : Operation) (shared : ℕ) (t : Table) (s : Sides) : Type 0 where
  pub operands : SideOperands op t s
  pub low-share : Shared op shared t s.f0.0 s.g0.0
  pub high-share : Shared op shared t s.f1.0 s.g1.0

-- The column of variables is that of such a table.
pub record SomeSides (op : Operation) (shared : ℕ) (vars : List ℕ) (s : Sides) : Type 0 where
  pub lows : List ℕ
  pub highs : List ℕ
  pub heads : List ℕ
  pub links : List ℕ
  pub count : ℕ
  pub given : SidesGiven op shared (table_of vars lows highs heads links count) s

-- What the operation makes of two nodes.
abbrev pub result_at : Operation → Table → ℕ → ℕ → Diagram
result_at op t f g = result op (diagram_at (nodes_of t) f) (diagram_at (nodes_of t) g)

-- The literals of the word's variables make of the nodes what all do.
abbrev pub Cut : Operation → ℕ → Table → ℕ → ℕ → Type 0
Cut op word t f g = result_at (cut_to op word) t f g ≡ result_at op t f g

-- What it makes of two sides.
abbrev pub joined_at : Operation → Table → Sides → Diagram
joined_at op t s = branch s.x (result_at op t s.f0.0 s.g0.0) (result_at op t s.f1.0 s.g1.0)

-- The variable x over two diagrams: one told, which is the low side where `side` is 1, and the rest.
abbrev pub over : ℕ → ℕ → Diagram → Diagram → Diagram
over x side told rest = cond (eqb side 1) (branch x told rest) (branch x rest told)

-- What a step says of a diagram D, whose variables are x and later ones: D is told; it is that of another pair of nodes, which comes after
-- x; it is a variable over a node told and over that of another pair, which comes after the variable; or, too wide, nothing.
abbrev pub StepSays : Operation → ℕ → Table → ℕ → Diagram → StepDown → Type 0
StepSays op shared t x D (Told k) = (k.0 < t.count) × (diagram_at (nodes_of t) k.0 ≡ D)
StepSays op shared t x D (One a b) = Given op shared t a.0 b.0 × (x < top t.vars a.0 b.0) × (result_at op t a.0 b.0 ≡ D)
StepSays op shared t x D (Over v k side a b) =
    Given op shared t a.0 b.0
    × (x ≤ v)
    × (v ≤ 64)
    × (v < top t.vars a.0 b.0)
    × (k.0 < t.count)
    × (over v side (diagram_at (nodes_of t) k.0) (result_at op t a.0 b.0) ≡ D)
StepSays op shared t x D Wide = Unit {0}

-- ---- the way down and the way up

-- Step d, as it is written, over a diagram.
abbrev pub layer : Table → List ℕ → List ℕ → List ℕ → ℕ → Diagram → Diagram
layer t xs told sides d D = over (get_or xs d 0) (get_or sides d 0) (diagram_at (nodes_of t) (get_or told d 0)) D

-- The diagram D under the first d steps that are written, the last of them next to it.
abbrev pub wrapped : Table → List ℕ → List ℕ → List ℕ → ℕ → Diagram → Diagram
wrapped t xs told sides zero D = D
wrapped t xs told sides (suc d) D = wrapped t xs told sides d (layer t xs told sides d D)

-- Each node told is in the table, and each diagram on the way up is reduced.
abbrev pub Fitting : Table → List ℕ → List ℕ → List ℕ → ℕ → Diagram → Type 0
Fitting t xs told sides zero D = Reduced 1 65 D
Fitting t xs told sides (suc d) D =
    Reduced 1 65 D × (get_or told d 0 < t.count) × Fitting t xs told sides d (layer t xs told sides d D)

-- The way down from f and g came to a node: under the steps written it is the operation's result.
pub record CameTo (op : Operation) (t : Table) (f g : ℕ) (xs told sides : List ℕ) (node depth : ℕ) : Type 0 where
  pub most : depth ≤ 64
  pub inside : node < t.count
  pub fitting : Fitting t xs told sides depth (diagram_at (nodes_of t) node)
  pub is : wrapped t xs told sides depth (diagram_at (nodes_of t) node) ≡ result_at op t f g

-- What the way down says; of one too wide nothing.
abbrev pub CameBy : Operation → ℕ → Table → ℕ → ℕ → List ℕ → List ℕ → List ℕ → Came → Type 0
CameBy op shared t f g xs told sides (Down node depth) = Given op shared t f g → CameTo op t f g xs told sides node.0 depth
CameBy op shared t f g xs told sides TooWide = Unit {0}

-- The outcome of placing a node's diagram under the steps written.
abbrev pub built_up : Table → List ℕ → List ℕ → List ℕ → ℕ → ℕ → Outcome
built_up t xs told sides depth node =
    written (size t) (place (size t) (nodes_of t) (wrapped t xs told sides depth (diagram_at (nodes_of t) node)))
