-- The numbers with which a record is refused before anything is made, 0 where it is not. No call open to others cites this file.
use Rattle.std.specs.Prelude.{◌≡◌, not, cond, ℕ, ◌≤◌, eqb, leb, ltb}
use Rattle.meaning.specs.Diagram.{Diagram}
use Rattle.meaning.specs.Rules.{witnessed}
use Rattle.meaning.specs.Words.{in_word}
use Rattle.paths.specs.Paths.{path_count}
use Rattle.records.specs.declared.Rule.{Rule}
use Rattle.records.specs.declared.Rule.TheVariants.{Rup, Pr, Path}
use Rattle.steps.specs.declared.line.LineTest.{LineTest}
use Rattle.steps.specs.declared.line.LineTest.TheVariants as line
use Rattle.verdict.specs.Steps.{State, is_entry, entry_node, waiting, diagram_in}

-- "RUP: 10, 13, 16, 22, 17, [..]. PR: 10, 13, 22, 17, 18, [..]." A path line "refuses as a RUP line does, and with 34, just after 17" (02,
-- 12/14).
unfoldable pub line_refusal : ℕ → State → Rule → ℕ → ℕ
line_refusal n st Rup root =
    cond (not (is_entry st root)) 13 (cond (waiting st) 16 (cond (leb 1024 st.lines) 22 (cond (eqb (entry_node st root) 1) 17 0)))
line_refusal n st Pr root =
    let g = diagram_in st (entry_node st root) in
    let shut : ℕ = cond (not (witnessed n (in_word st.positive) (in_word st.negative) g)) 18 0 in
    cond (not (is_entry st root)) 13 (cond (leb 1024 st.lines) 22 (cond (eqb (entry_node st root) 1) 17 shut))
line_refusal n st Path root =
    let many : ℕ = cond (ltb 4096 (path_count (diagram_in st (entry_node st root)))) 34 0 in
    cond (not (is_entry st root)) 13 (cond (waiting st) 16 (cond (leb 1024 st.lines) 22 (cond (eqb (entry_node st root) 1) 17 many)))

-- A path line that is to be judged has at most 4,096 paths.
abbrev pub FewPaths : Rule → Diagram → Type 0
FewPaths Rup g = Unit {0}
FewPaths Pr g = Unit {0}
FewPaths Path g = path_count g ≤ 4096

-- What the tests of a line say: the number that refuses it, or its root's node.
abbrev pub LineTested : ℕ → State → Rule → ℕ → LineTest → Type 0
LineTested n st rule root (line.Refused number) = (number ≡ line_refusal n st rule root) × (number ≡ 0 → ⊥)
LineTested n st rule root (line.Fits g) = (line_refusal n st rule root ≡ 0) × (g.0 ≡ entry_node st root)
