-- The true cause of 14, 18 and 19, in the state before the command that is refused. (02, 8/14)
use Rattle.std.specs.Prelude.{Bool, true, false, not, ◌&&◌, cond, List, [], ◌∷◌, ℕ, zero, suc, length, get_or, eqb}
use Rattle.std.proofs.Math.Option.{Option, none, some}
use Rattle.meaning.specs.Diagram.{Assignment, Diagram, value}
use Rattle.meaning.specs.Operations as meaning
use Rattle.meaning.specs.Operations.{Literal, assignments, negation, cofactor_literals}
use Rattle.meaning.specs.Rules.{conflicts, first_with_unit, by_units, unit_prop, by_diagram, pr_turns}
use Rattle.meaning.specs.Words.{in_word}
use Rattle.table.specs.Nodes.{at, above}
use Rattle.records.specs.declared.NodeBody.{NodeBody}
use Rattle.records.specs.declared.Rule.{Rule}
use Rattle.records.specs.declared.Rule.TheVariants.{Rup, Pr, Path}
use Rattle.records.specs.declared.Record.{Record}
use Rattle.records.specs.declared.Record.TheVariants.{NodeEntry, Witness, ProofLine, Strike, SetEntry, End}
use Rattle.records.specs.declared.Record.TheVariants.{CutShort, UnknownKind, NoRecord}
use Rattle.clausal.specs.Literals.{has, without}
use Rattle.clausal.specs.Tries.{makes_true, makes_false, witness}
use Rattle.paths.specs.Paths.{paths, by_path}
use Rattle.commands.specs.Commands.{Command, recorded, added, struck_out, wrong, finished}
use Rattle.verdict.specs.Steps.{State, entry_node, diagram_in, unstruck, live_members, is_live}
use Rattle.meaning.specs.Rules.{units_to}

-- The number alone tells the cause; two variables; an assignment; the literals fixed, a list a round, and the number of the member that was
-- not shown.
pub data Cause : Type 0 where
  plain : Cause
  variables : (variable child : ℕ) → Cause
  assignment : Assignment → Cause
  fixed : (rounds : List (List Literal)) (member : Option ℕ) → Cause

-- ---- 14

-- The node of the child that the record's variable is not before: "the low child's if both offend".
unfoldable pub offender : State → NodeBody → ℕ
unfolding above entry_node
offender st b =
    let l = entry_node st b.low.0 in
    let h = entry_node st b.high.0 in
    cond (above st.nodes b.variable l) h l

-- "the two variables": the record's and the child's.
unfoldable pub variables_of : State → NodeBody → Cause
unfolding offender
variables_of st b = variables b.variable (at st.nodes (offender st b)).var

-- ---- 18

-- Whether the assignment, its first place being variable i, makes the variables P true and N false.
unfoldable pub agrees : (ℕ → Bool) → (ℕ → Bool) → ℕ → Assignment → Bool
agrees P N i [] = true
agrees P N i (b ∷ a) = cond (P i) b (cond (N i) (not b) true) && agrees P N (suc i) a

-- The first of the listed assignments with the property.
unfoldable pub first_with : (Assignment → Bool) → List Assignment → Assignment
first_with p [] = []
first_with p (a ∷ rest) = let later = first_with p rest in cond (p a) a later

-- "the assignment, smallest when read with variable 1 as the top digit, that agrees with the witness and makes the line false". In the list
-- of all assignments the smaller come first.
unfoldable pub smallest : ℕ → (ℕ → Bool) → (ℕ → Bool) → Diagram → Assignment
unfolding agrees first_with assignments
smallest n P N g = first_with (λ a. agrees P N 1 a && not (value g a)) (assignments n)

-- ---- 19

abbrev pub taking_fixes : Option Diagram → (Diagram → List (List Literal)) → List (List Literal)
taking_fixes none next = []
taking_fixes (some u) next = next u

-- The literals that a propagation with at most so many rounds to come fixes: U of the member that each round takes, "by round, then by
-- variable".
unfoldable pub fixes_within : ℕ → ℕ → List Diagram → List (List Literal)
unfolding conflicts first_with_unit by_units units_to
fixes_within zero n ms = []
fixes_within (suc most) n ms =
    let next = taking_fixes (first_with_unit n ms) (λ u. units_to n n u ∷ fixes_within most n (by_units n u ms)) in
    cond (conflicts n ms) [] next

-- The literals that UnitProp fixes.
unfoldable pub fixes : ℕ → List Diagram → List (List Literal)
unfolding fixes_within
fixes n ms = fixes_within n n ms

-- "the literals fixed in the last propagation" of a RUP line, which has one.
unfoldable pub rup_cause : ℕ → List Diagram → Diagram → Cause
unfolding negation fixes
rup_cause n ms g = fixed (fixes n (by_diagram n (negation n g) ms)) none

-- The members that a member's turn of a PR line propagates: those by not-g, which are given, by not-h.
abbrev pub turn_members : ℕ → (ℕ → Bool) → (ℕ → Bool) → List Diagram → Diagram → List Diagram
turn_members n P N ms f = by_diagram n (negation n (cofactor_literals n P N f)) ms

-- Of the k members from number i on "the lowest live member that was not shown", and the literals fixed in its turn, which is the last.
unfoldable pub unshown : ℕ → ℕ → (ℕ → Bool) → (ℕ → Bool) → List Diagram → State → ℕ → Cause
unfolding is_live pr_turns fixes
unshown zero n P N ms st i = plain
unshown (suc k) n P N ms st i =
    let f = diagram_in st (get_or st.members i 0) in
    let here = fixed (fixes n (turn_members n P N ms f)) (some i) in
    let later = unshown k n P N ms st (suc i) in
    cond (is_live st i && not (pr_turns n P N ms (f ∷ [])).shown) here later

-- Of a PR line g with the witness that makes the variables P true and N false.
unfoldable pub pr_cause : ℕ → (ℕ → Bool) → (ℕ → Bool) → State → Diagram → Cause
unfolding negation unstruck unshown
pr_cause n P N st g = unshown (length st.members) n P N (by_diagram n (negation n g) (live_members st)) st 0

-- Of the paths listed the first whose propagation does not conflict, which is the last: the literals fixed in it. (02, 12/14)
unfoldable pub path_fails : ℕ → List Diagram → List (List Literal) → Cause
unfolding unit_prop fixes has cofactor_literals
path_fails n ms [] = plain
path_fails n ms (c ∷ cs) =
    let here = fixed (fixes n (by_path n c ms)) none in
    let later = path_fails n ms cs in cond (unit_prop n (by_path n c ms)).conflict later here

-- Of a path line g.
unfoldable pub path_cause : ℕ → List Diagram → Diagram → Cause
unfolding path_fails paths
path_cause n ms g = path_fails n ms (paths g)

-- ---- every command

-- The cause where the number is the one wanted; else the number alone tells it.
abbrev pub only : ℕ → ℕ → Cause → Cause
only wanted number c = cond (eqb number wanted) c plain

unfoldable pub line_cause : ℕ → ℕ → State → Rule → Diagram → Cause
unfolding rup_cause pr_cause path_cause unstruck smallest in_word
line_cause n number st Rup g = let unit = rup_cause n (live_members st) g in only 19 number unit
line_cause n number st Pr g =
    let P = in_word st.positive in
    let N = in_word st.negative in
    let shut = assignment (smallest n P N g) in
    let failed = pr_cause n P N st g in
    cond (eqb number 18) shut (only 19 number failed)
line_cause n number st Path g = let path = path_cause n (live_members st) g in only 19 number path

unfoldable pub record_cause : ℕ → ℕ → State → Record → Cause
unfolding variables_of entry_node line_cause
record_cause n number st (NodeEntry b) = let both = variables_of st b in only 14 number both
record_cause n number st (Witness v b) = plain
record_cause n number st (ProofLine rule root) = line_cause n number st rule (diagram_in st (entry_node st root.0))
record_cause n number st (Strike k) = plain
record_cause n number st (SetEntry kind b) = plain
record_cause n number st End = plain
record_cause n number st CutShort = plain
record_cause n number st UnknownKind = plain
record_cause n number st NoRecord = plain

-- An added clause is refused with 19 by its last try: the second, or the first, which the empty clause and a clause in the consequence
-- profile have alone.
unfoldable pub clause_cause : Bool → ℕ → State → List Literal → Cause
unfolding rup_cause pr_cause unstruck has without
clause_cause true n st ls = rup_cause n (live_members st) (meaning.clause n ls)
clause_cause false n st [] = rup_cause n (live_members st) (meaning.clause n [])
clause_cause false n st (p ∷ ls) =
    let ω = witness p (p ∷ ls) in pr_cause n (makes_true ω) (makes_false ω) st (meaning.clause n (p ∷ ls))

-- The true cause of a number that a command was refused with, in a formula of n variables and the state before the command.
unfoldable pub cause : Bool → ℕ → ℕ → State → Command → Cause
unfolding record_cause clause_cause
cause profile n number st (recorded r more) = record_cause n number st r
cause profile n number st (added ls) = let tried = clause_cause profile n st ls in only 19 number tried
cause profile n number st (struck_out ls) = plain
cause profile n number st (wrong k offset) = plain
cause profile n number st finished = plain
