-- What the check of a formula and a proof says and leaves, in each form of a proof. Clauses become members; then command after command
-- is judged: a record, or a clause of a DRAT proof. (01; 02, 4/14 and 9/14)
use Rattle.std.specs.Prelude.{Bool, true, false, ◌&&◌, cond, List, [], ◌∷◌, ◌++◌, ℕ, zero, suc, ◌+◌, ◌-◌, length, take, replicate, eqb, leb}
use Rattle.meaning.specs.Operations as meaning
use Rattle.table.specs.Nodes.{Node, Placing, full, placed, place}
use Rattle.table.specs.Columns.{size_fits, Columns, stored_as}
use Rattle.dimacs.specs.Header.{Header, Proper, Improper, header}
use Rattle.dimacs.specs.Clauses.{Reading, clause, complete, refusal, clauses_from}
use Rattle.records.specs.declared.Rule.{Rule}
use Rattle.records.specs.declared.Rule.TheVariants.{Rup, Pr, Path}
use Rattle.records.specs.declared.Record.{Record}
use Rattle.records.specs.declared.Record.TheVariants.{NodeEntry, Witness, ProofLine, Strike, SetEntry, End}
use Rattle.records.specs.declared.Record.TheVariants.{CutShort, UnknownKind, NoRecord}
use Rattle.commands.specs.declared.Mode.{Mode}
use Rattle.commands.specs.Commands.{Command, recorded, added, struck_out, wrong, finished, start, command_at}
use Rattle.verdict.specs.Steps.{State, emptied, begun, Step, next, stop, spent, record_step}
use Rattle.verdict.specs.Clausal.{add_step, strike_clause}

-- ---- a command

-- "a text that never reaches the empty clause with 20, at its length as is 0" (02, 4/14): the empty clause is an accepted 0 line.
abbrev pub finish : State → Step
finish st = cond st.refuted (stop 0 0) (stop 20 0)

abbrev pub is_pr : Rule → Bool
is_pr Rup = false
is_pr Pr = true
is_pr Path = false

-- Whether the record is a whole PR line.
abbrev pub is_pr_line : Record → Bool
is_pr_line (ProofLine rule root) = is_pr rule
is_pr_line (NodeEntry b) = false
is_pr_line (Witness v b) = false
is_pr_line (Strike k) = false
is_pr_line (SetEntry kind b) = false
is_pr_line End = false
is_pr_line CutShort = false
is_pr_line UnknownKind = false
is_pr_line NoRecord = false

-- "In this profile only RUP lines and strikings pass [..]. It refuses a PR record with 33 before all but 10." "The consequence profile
-- admits" path lines. (02, 11/14 and 12/14)
abbrev pub shut_out : Bool → Record → Bool
shut_out profile r = profile && is_pr_line r

-- A command in a formula of n variables with a table of s places. What is wrong in form is refused where it stands.
unfoldable pub step : Bool → ℕ → ℕ → State → Command → Step
unfolding record_step add_step strike_clause
step profile n s st (recorded r more) =
    let judged = record_step n s st more r in cond (shut_out profile r) (stop 33 0) judged
step profile n s st (added ls) = add_step profile n s st ls
step profile n s st (struck_out ls) = strike_clause n st ls
step profile n s st (wrong number offset) = stop number offset
step profile n s st finished = finish st

-- ---- the proof

-- What the check says, and the nodes, members and marks that it leaves. `in_proof` tells which of the two texts the place is in: 3, 4 and
-- 6 can stand in both. "the check shall report the greatest count reached, dropped nodes included" (02, 2/14)
pub record Verdict : Type 0 where
  pub number : ℕ
  pub in_proof : Bool
  pub place : ℕ
  pub lines : ℕ
  pub rounds : ℕ
  pub peak : ℕ
  pub nodes : List Node
  pub members : List ℕ
  pub struck : List ℕ

-- "A refused proof leaves the clauses and accepted lines with their nodes (those of all their entries) [..]. Number 0 leaves the same;
-- nodes of entries after the last accepted line are dropped in both." A mark "stays, after a refused proof too". (02, 3/14)
abbrev pub left : ℕ → ℕ → ℕ → State → Verdict
left number place peak st = record {
  number = number;
  in_proof = true;
  place = place;
  lines = st.lines;
  rounds = st.rounds;
  peak = peak;
  nodes = take st.kept st.nodes;
  members = st.members;
  struck = st.struck;
}

abbrev pub after_step : Step → State → ℕ → (State → Verdict) → Verdict
after_step (stop number offset) st at rest = left number (at + offset) st.peak st
after_step (spent number peak) st at rest = left number at peak st
after_step (next st') st at rest = rest st'

-- The commands from a place on. A command that is followed by another has at least one byte, so that one step more than there are
-- bytes is enough.
unfoldable pub commands : ℕ → Mode → ℕ → ℕ → List ℕ → State → ℕ → Verdict
unfolding step
commands zero mode n s proof st at = left 10 at st.peak st
commands (suc steps) mode n s proof st at =
    let r = command_at mode.form proof n at in
    after_step (step mode.consequence n s st r.command) st at (λ st'. commands steps mode n s proof st' r.next)

-- From the first command on.
abbrev pub proof_from : Mode → ℕ → ℕ → List ℕ → State → Verdict
proof_from mode n s proof st = commands (suc (length proof)) mode n s proof st (start mode.form proof)

-- ---- the formula

-- "A refused formula leaves table and lists all zero, count 2."
abbrev pub refused_formula : ℕ → ℕ → ℕ → Verdict
refused_formula number place peak = record {
  number = number;
  in_proof = false;
  place = place;
  lines = 0;
  rounds = 0;
  peak = peak;
  nodes = emptied;
  members = [];
  struck = [];
}

abbrev pub after_clause : Placing → (List Node → ℕ → Verdict) → ℕ → Verdict
after_clause (full t) rest first = refused_formula 8 first (length t)
after_clause (placed t k) rest first = rest t k

-- "Clauses become members 0, 1, 2 and so on. Tokens are judged in file order, and a clause is made as it closes." Then the proof.
unfoldable pub clauses : Mode → ℕ → ℕ → List ℕ → List Node → List ℕ → Reading → Verdict
unfolding commands
clauses mode n s proof t ms (clause ls first rest) =
    after_clause (place s t (meaning.clause n ls)) (λ t₁ k. clauses mode n s proof t₁ (ms ++ k ∷ []) rest) first
clauses mode n s proof t ms complete = proof_from mode n s proof (begun t ms)
clauses mode n s proof t ms (refusal number place) = refused_formula number place (length t)

abbrev pub check_after_header : Mode → ℕ → List ℕ → List ℕ → Header → Verdict
check_after_header mode s formula proof (Proper n many at) = clauses mode n s proof emptied [] (clauses_from formula n many at)
check_after_header mode s formula proof (Improper number place) = refused_formula number place (length emptied)

-- The check of a formula and a proof with a table of s places.
unfoldable pub verdict : Mode → ℕ → List ℕ → List ℕ → Verdict
unfolding clauses header
verdict mode s formula proof = check_after_header mode s formula proof (header formula)

-- ---- the call

-- What the call says, and what every lent place holds after it.
pub record CheckOutcome : Type 0 where
  pub number : ℕ
  pub in_proof : Bool
  pub place : ℕ
  pub lines : ℕ
  pub rounds : ℕ
  pub count : ℕ
  pub peak : ℕ
  pub columns : Columns
  pub members : List ℕ
  pub struck : List ℕ
  pub scratch : List ℕ

-- "the member list has 2,048 or more, the scratch list 4,096 or more; columns of unequal length are of wrong size" (01, What is
-- checked). "Each member gains a mark in the list": nodes and marks are its two columns. (02, 3/14)
unfoldable pub lent_fits : Columns → List ℕ → List ℕ → List ℕ → Bool
lent_fits c members struck scratch =
    size_fits c.vars c.lows c.highs c.heads c.links
    && (leb 2048 (length members) && (eqb (length struck) (length members) && leb 4096 (length scratch)))

abbrev pub zeros : ℕ → List ℕ
zeros k = replicate k 0

-- "zeros above. [..] Scratch ends as zeros."
unfoldable pub outcome : ℕ → ℕ → ℕ → Verdict → CheckOutcome
outcome s m c v = record {
  number = v.number;
  in_proof = v.in_proof;
  place = v.place;
  lines = v.lines;
  rounds = v.rounds;
  count = length v.nodes;
  peak = v.peak;
  columns = stored_as s v.nodes;
  members = v.members ++ zeros (m - length v.members);
  struck = v.struck ++ zeros (m - length v.struck);
  scratch = zeros c;
}

-- "Number 7 changes nothing": "place 0, no lines, no rounds and the count as lent". "with 7, 24 and 25 it is 0": the peak. (02, 2/14)
unfoldable pub check : Mode → Columns → ℕ → List ℕ → List ℕ → List ℕ → List ℕ → List ℕ → CheckOutcome
unfolding lent_fits outcome verdict
check mode c count members struck scratch formula proof =
    let s = length c.vars in
    let done = outcome s (length members) (length scratch) (verdict mode s formula proof) in
    let seven : CheckOutcome = record {
      number = 7;
      in_proof = false;
      place = 0;
      lines = 0;
      rounds = 0;
      count = count;
      peak = 0;
      columns = c;
      members = members;
      struck = struck;
      scratch = scratch;
    } in
    cond (lent_fits c members struck scratch) done seven
