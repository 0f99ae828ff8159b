-- The numbers that a command can be refused with before it makes a node, as a table: in the order of 01 and 02, each with the test that
-- gives it. (01, What the call says and leaves: "Order: [..]"; 02, 3/14, 4/14, 5/14, 9/14, 11/14, 12/14) No call open to others cites this
-- file.
use Rattle.std.specs.Prelude.{◌≡◌, Bool, true, false, not, ◌&&◌, ◌||◌, List, [], ◌∷◌, ℕ, ◌/◌, length, eqb, ltb, leb}
use Rattle.std.proofs.Math.Option.{Option, none, some}
use Rattle.meaning.specs.Diagram.{leaf, same}
use Rattle.meaning.specs.Operations as meaning
use Rattle.meaning.specs.Rules.{witnessed}
use Rattle.meaning.specs.Words.{in_word}
use Rattle.paths.specs.Paths.{path_count}
use Rattle.table.specs.Nodes.{above}
use Rattle.records.specs.declared.Rule.{Rule}
use Rattle.records.specs.declared.Rule.TheVariants.{Rup, Pr, Path}
use Rattle.records.specs.declared.Record.{Record}
use Rattle.records.specs.declared.Record.TheVariants.{NodeEntry, Witness, ProofLine, Strike, SetEntry, End}
use Rattle.records.specs.declared.Record.TheVariants.{CutShort, UnknownKind, NoRecord}
use Rattle.commands.specs.Commands.{Command, recorded, added, struck_out, wrong, finished, Groups, cut, groups}
use Rattle.verdict.specs.Steps.{State, is_entry, entry_node, is_variable, waiting, is_live, beyond, no_parity, diagram_in}
use Rattle.verdict.specs.Clausal.{first_same}
use Rattle.verdict.specs.Check.{shut_out}

-- A test, the number that it gives where it holds, and the place, counted from the command's first byte.
pub record Test : Type 0 where
  pub holds : Bool
  pub number : ℕ
  pub offset : ℕ

abbrev pub test : Bool → ℕ → Test
test holds number = record { holds = holds; number = number; offset = 0 }

-- The number and the place of the first test that holds.
pub data First : List Test → ℕ → ℕ → Type 0 where
  here : {t : Test} {ts : List Test} → t.holds ≡ true → First (t ∷ ts) t.number t.offset
  there : {t : Test} {ts : List Test} {k o : ℕ} → t.holds ≡ false → First ts k o → First (t ∷ ts) k o

-- "RUP: 10, 13, 16, 22, 17, then 19 or 23 [..]. PR: 10, 13, 22, 17, 18, then the same." A path line is refused "as a RUP line [..], and
-- with 34, just after 17" (02, 12/14).
abbrev pub line_refusals : ℕ → State → Rule → ℕ → List Test
line_refusals n st Rup root =
    test (not (is_entry st root)) 13 ∷ test (waiting st) 16 ∷ test (leb 1024 st.lines) 22 ∷ test (eqb (entry_node st root) 1) 17 ∷ []
line_refusals n st Pr root =
    test (not (is_entry st root)) 13 ∷ test (leb 1024 st.lines) 22 ∷ test (eqb (entry_node st root) 1) 17
    ∷ test (not (witnessed n (in_word st.positive) (in_word st.negative) (diagram_in st (entry_node st root)))) 18 ∷ []
line_refusals n st Path root =
    test (not (is_entry st root)) 13 ∷ test (waiting st) 16 ∷ test (leb 1024 st.lines) 22 ∷ test (eqb (entry_node st root) 1) 17
    ∷ test (ltb 4096 (path_count (diagram_in st (entry_node st root)))) 34 ∷ []

-- "each record's kind (9) before all else", then 10. "Node: 10, 21, 12, 13, 14, 23. Witness: 10, 12, 15. [..] End: 16, 11, 20", 11 at "the
-- byte after the end record". "after 10 and then 16 for a waiting witness", 28 (02, 3/14). "after 10 and 21, a set bit beyond the header
-- with 12, a parity byte above 1 with 29" (02, 5/14).
abbrev pub record_refusals : ℕ → State → Bool → Record → List Test
record_refusals n st more (NodeEntry b) =
    test (leb 4096 (length st.entries)) 21
    ∷ test (not (is_variable n b.variable)) 12
    ∷ test (not (is_entry st b.low.0 && is_entry st b.high.0)) 13
    ∷ test (not (above st.nodes b.variable (entry_node st b.low.0)
    && above st.nodes b.variable (entry_node st b.high.0))) 14
    ∷ []
record_refusals n st more (Witness v b) = test (not (is_variable n v)) 12 ∷ test (in_word st.positive v || in_word st.negative v) 15 ∷ []
record_refusals n st more (ProofLine rule root) = line_refusals n st rule root.0
record_refusals n st more (Strike k) = test (waiting st) 16 ∷ test (not (is_live st k.0)) 28 ∷ []
record_refusals n st more (SetEntry kind b) =
    test (leb 4096 (length st.entries)) 21 ∷ test (beyond n b.set) 12 ∷ test (no_parity kind b.byte) 29 ∷ []
record_refusals n st more End =
    test (waiting st) 16 ∷ record { holds = more; number = 11; offset = 1 } ∷ test st.refuted 0 ∷ test true 20 ∷ []
record_refusals n st more CutShort = test true 10 ∷ []
record_refusals n st more UnknownKind = test true 9 ∷ []
record_refusals n st more NoRecord = test true 10 ∷ []

abbrev pub is_none : Option ℕ → Bool
is_none none = true
is_none (some k) = false

-- "A line is refused with 3, 4 (the token), 6, 22, 17, then 23 or 19, an absent clause to strike with 28 [..]; a text that never reaches
-- the empty clause with 20, at its length as is 0." (02, 4/14) In the consequence profile a PR record is refused "with 33 before all but
-- 10" (02, 11/14): what is cut short is no PR record.
abbrev pub refusals : Bool → ℕ → State → Command → List Test
refusals profile n st (recorded r more) = test (shut_out profile r) 33 ∷ record_refusals n st more r
refusals profile n st (added ls) = test (leb 1024 st.lines) 22 ∷ test (same (meaning.clause n ls) (leaf true)) 17 ∷ []
refusals profile n st (struck_out ls) = test (is_none (first_same (length st.members) st 0 (meaning.clause n ls))) 28 ∷ []
refusals profile n st (wrong number offset) = record { holds = true; number = number; offset = offset } ∷ []
refusals profile n st finished = test st.refuted 0 ∷ test true 20 ∷ []

-- What the reader of a binary proof refuses in an open clause, where the bytes begin with these groups: "per literal a cut clause with 6,
-- then surplus groups or a literal 1 with 31, then one beyond 64 (in the check, the header) with 4" (02, 9/14). A byte 0 closes the clause.
abbrev pub group_refusals : ℕ → Groups → List Test
group_refusals n cut = test true 6 ∷ []
group_refusals n (groups number many last) =
    test (not (eqb number 0 && eqb many 1) && (eqb last 0 || eqb number 1)) 31 ∷ test (ltb n (number / 2)) 4 ∷ []
