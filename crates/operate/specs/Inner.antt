-- What the inner functions answer, step by step, and what their memo holds. No call open to others cites this file.
use Rattle.std.specs.Prelude.{◌≡◌, Bool, true, false, cond, ◌||◌, List, ℕ, ◌≤◌, ◌<◌, get_or, eqb, ltb}
use Rattle.std.specs.Int.Bits.{bit_or}
use Rattle.meaning.specs.Diagram.{Diagram, branch}
use Rattle.meaning.specs.Uses.{Uses, Forces}
use Rattle.table.specs.declared.Found.{Found}
use Rattle.table.specs.declared.Found.TheVariants.{At, Nothing}
use Rattle.table.specs.Nodes.{diagram_at, place}
use Rattle.table.specs.Indexed.{Table, table_of, size, nodes_of, Good, Outcome, written}
use Rattle.operate.specs.declared.Operation.{Operation}
use Rattle.operate.specs.declared.Operation.TheVariants.{Conjunction, Negation, Cofactor, Literals}
use Rattle.operate.specs.declared.step.Kind.{Kind}
use Rattle.operate.specs.declared.step.Kind.TheVariants.{And, Not, ByDiagram, ByLiterals}
use Rattle.operate.specs.declared.step.Sides.{Sides}
use Rattle.operate.specs.declared.step.Descent.{Descent}
use Rattle.operate.specs.declared.step.Descent.TheVariants.{One, Both}
use Rattle.operate.specs.declared.step.Next.{Next}
use Rattle.operate.specs.declared.step.Next.TheVariants as next
use Rattle.operate.specs.declared.step.Ahead.{Ahead}
use Rattle.operate.specs.declared.step.Ahead.TheVariants as ahead
use Rattle.meaning.specs.Words.{in_word}
use Rattle.words.specs.declared.Literals as words
use Rattle.words.specs.Sets.{no_literals, ends_before}
use Rattle.memo.specs.Memo.{Shaped, Holds}
use Rattle.operate.specs.Operate.{result}

-- The outcome of an operation on nodes f and g of a table.
abbrev pub applied : Table → Operation → ℕ → ℕ → Outcome
applied t op f g = written (size t) (place (size t) (nodes_of t) (result op (diagram_at (nodes_of t) f) (diagram_at (nodes_of t) g)))

-- The outcome of joining two sides: the diagram of x over the results of the low and of the high side.
abbrev pub joined_of : Table → Operation → Sides → Outcome
joined_of t op s =
    written (size t) (place (size t) (nodes_of t) (branch s.x
    (result op (diagram_at (nodes_of t) s.f0.0) (diagram_at (nodes_of t) s.g0.0))
    (result op (diagram_at (nodes_of t) s.f1.0) (diagram_at (nodes_of t) s.g1.0))))

-- A second operand that the operation can have: a cofactor is by no 0, and an operation of one diagram has node 1.
abbrev pub Allowed : Operation → ℕ → Type 0
Allowed Conjunction g = Unit {0}
Allowed Negation g = g ≡ 1
Allowed Cofactor g = g ≡ 0 → ⊥
Allowed (Literals p n) g = g ≡ 1

-- ---- an operation and its literals apart

abbrev pub kind_of : Operation → Kind
kind_of Conjunction = And
kind_of Negation = Not
kind_of Cofactor = ByDiagram
kind_of (Literals p n) = ByLiterals

-- The literals; for a cofactor by a diagram, as positive, what f may have of the variables that g forces.
abbrev pub by_of : Operation → ℕ → words.Literals
by_of Conjunction shared = no_literals
by_of Negation shared = no_literals
by_of Cofactor shared = record { positive = shared; negative = 0 }
by_of (Literals p n) shared = record { positive = p; negative = n }

abbrev pub operation_of : Kind → words.Literals → Operation
operation_of And by = Conjunction
operation_of Not by = Negation
operation_of ByDiagram by = Cofactor
operation_of ByLiterals by = Literals by.positive by.negative

-- ---- the code's steps

abbrev pub found : ℕ → Found
found k = At (record { 0 = k })

-- The result where it can be told from the node numbers alone.
unfoldable pub terminal_of : Operation → ℕ → ℕ → Found
terminal_of Conjunction f g =
    cond (eqb f 0 || eqb g 0) (found 0) (cond (eqb f 1) (found g) (cond (eqb g 1 || eqb f g) (found f) Nothing))
terminal_of Negation f g = cond (eqb f 0) (found 1) (cond (eqb f 1) (found 0) Nothing)
terminal_of Cofactor f g = cond (ltb f 2 || eqb g 1) (found f) (cond (eqb f g) (found 1) Nothing)
terminal_of (Literals p n) f g = cond (ltb f 2) (found f) Nothing

-- A node's variable; 65, below all variables, for a constant.
abbrev pub level : List ℕ → ℕ → ℕ
level vars f = cond (ltb f 2) 65 (get_or vars f 0)

-- The lesser of two nodes' variables.
abbrev pub top : List ℕ → ℕ → ℕ → ℕ
top vars f g = cond (ltb (level vars g) (level vars f)) (level vars g) (level vars f)

-- A node's child in a column where x is its variable, else the node itself.
abbrev pub child_or : List ℕ → List ℕ → ℕ → ℕ → ℕ
child_or vars column f x = cond (eqb (get_or vars f 0) x) (get_or column f 0) f

unfoldable pub sides_of : List ℕ → List ℕ → List ℕ → ℕ → ℕ → Sides
sides_of vars lows highs f g =
    let x = top vars f g in
    record {
      x = x;
      f0 = record { 0 = child_or vars lows f x };
      g0 = record { 0 = child_or vars lows g x };
      f1 = record { 0 = child_or vars highs f x };
      g1 = record { 0 = child_or vars highs g x };
    }

-- Which of the sides make the result: where a side of g is 0 the cofactor is that of the other; a literal takes its own side.
unfoldable pub descent_of : Operation → Sides → Descent
descent_of Conjunction s = Both s
descent_of Negation s = Both s
descent_of Cofactor s = cond (eqb s.g0.0 0) (One s.f1 s.g1) (cond (eqb s.g1.0 0) (One s.f0 s.g0) (Both s))
descent_of (Literals p n) s = cond (in_word p s.x) (One s.f1 s.g1) (cond (in_word n s.x) (One s.f0 s.g0) (Both s))

-- Whether no variable that a cofactor is by is v or after it.
abbrev pub beyond : Kind → words.Literals → ℕ → Bool
beyond And by v = false
beyond Not by v = false
beyond ByDiagram by v = ends_before (bit_or by.positive by.negative) v
beyond ByLiterals by v = ends_before (bit_or by.positive by.negative) v

-- ---- what a diagram has of the variables that another forces

-- The variables of f and those that g forces are in two sets, and the word has what is in both.
pub record Sharing (shared : ℕ) (f g : Diagram) : Type 0 where
  pub first : ℕ → Bool
  pub second : ℕ → Bool
  pub first-uses : Uses first f
  pub second-forces : Forces second g
  pub common : (v : ℕ) → first v ≡ true → second v ≡ true → in_word shared v ≡ true

-- What a cofactor by a diagram is told of its operands; the other operations are told nothing.
abbrev pub Shared : Operation → ℕ → Table → ℕ → ℕ → Type 0
Shared Conjunction shared t f g = Unit {0}
Shared Negation shared t f g = Unit {0}
Shared Cofactor shared t f g = Sharing shared (diagram_at (nodes_of t) f) (diagram_at (nodes_of t) g)
Shared (Literals p n) shared t f g = Unit {0}

-- ---- what an operation asks of its operands

-- Two nodes of a table in good order that the operation can have.
pub record Operands (op : Operation) (t : Table) (f g : ℕ) : Type 0 where
  pub good : Good t
  pub f-inside : f < t.count
  pub g_inside : g < t.count
  pub allowed : Allowed op g

-- Two sides, each with operands, whose variables come after x.
pub record SideOperands (op : Operation) (t : Table) (s : Sides) : Type 0 where
  pub low : Operands op t s.f0.0 s.g0.0
  pub high : Operands op t s.f1.0 s.g1.0
  pub least : 1 ≤ s.x
  pub most : s.x ≤ 64
  pub low-after : s.x < top t.vars s.f0.0 s.g0.0
  pub high_after : s.x < top t.vars s.f1.0 s.g1.0

-- ---- the memo

-- An entry is right: node r is the operation's result on f and g.
pub record Right (op : Operation) (t : Table) (f g r : ℕ) : Type 0 where
  pub f-inside : f < t.count
  pub g_inside : g < t.count
  pub inside : r < t.count
  pub is : diagram_at (nodes_of t) r ≡ result op (diagram_at (nodes_of t) f) (diagram_at (nodes_of t) g)

-- Each entry is right.
pub record MemoRight (op : Operation) (memo : List ℕ) (t : Table) : Type 0 where
  pub shaped : Shaped memo
  pub entries : (f g r : ℕ) → Holds memo f g r → Right op t f g r

-- What the recursion asks: operands, and a memo that is right.
pub record Ready (op : Operation) (memo : List ℕ) (t : Table) (f g : ℕ) : Type 0 where
  pub operands : Operands op t f g
  pub right : MemoRight op memo t

-- What joining two sides asks.
pub record SidesReady (op : Operation) (memo : List ℕ) (t : Table) (s : Sides) : Type 0 where
  pub operands : SideOperands op t s
  pub right : MemoRight op memo t

-- ---- steps of one side

-- The operation on f and g can be done in the table, and the word has what f has of the variables that g forces.
pub record Given (op : Operation) (shared : ℕ) (t : Table) (f g : ℕ) : Type 0 where
  pub operands : Operands op t f g
  pub share : Shared op shared t f g

-- The columns are those of such a table.
pub record SomeGiven (op : Operation) (shared : ℕ) (vars lows highs : List ℕ) (f g : ℕ) : Type 0 where
  pub heads : List ℕ
  pub links : List ℕ
  pub count : ℕ
  pub given : Given op shared (table_of vars lows highs heads links count) f g

-- What the operation makes of two nodes.
abbrev pub result_at : Operation → Table → ℕ → ℕ → Diagram
result_at op t f g = result op (diagram_at (nodes_of t) f) (diagram_at (nodes_of t) g)

-- The two sides can be done in the table, their variables are after x, which is `first` or later, and they make the diagram D.
pub record Split (op : Operation) (shared : ℕ) (t : Table) (first : ℕ) (D : Diagram) (s : Sides) : Type 0 where
  pub operands : SideOperands op t s
  pub low-share : Shared op shared t s.f0.0 s.g0.0
  pub high-share : Shared op shared t s.f1.0 s.g1.0
  pub after : first ≤ s.x
  pub over : D ≡ branch s.x (result_at op t s.f0.0 s.g0.0) (result_at op t s.f1.0 s.g1.0)

-- What a step says of f and g: the result is node k; it is that of another pair, whose variables come later; or two sides make it.
abbrev pub NextSays : Operation → ℕ → Table → ℕ → ℕ → Next → Type 0
NextSays op shared t f g (next.Told k) = Right op t f g k.0
NextSays op shared t f g (next.One a b) =
    Given op shared t a.0 b.0
    × (top t.vars f g < top t.vars a.0 b.0)
    × (result_at op t f g ≡ result_at op t a.0 b.0)
NextSays op shared t f g (next.Both s) = Split op shared t (top t.vars f g) (result_at op t f g) s

-- What all steps of one side say of f and g.
abbrev pub AheadSays : Operation → ℕ → Table → ℕ → ℕ → Ahead → Type 0
AheadSays op shared t f g (ahead.Told k) = Right op t f g k.0
AheadSays op shared t f g (ahead.Both s) = Split op shared t (top t.vars f g) (result_at op t f g) s
