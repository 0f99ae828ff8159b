-- What stands after 1,024 lines: line 1,025 is 22, before 17 and 18, after 13 and 16. The idea: each of the lines is 0 over members that
-- are all 0, by induction
-- on those taken so far. Assumes nothing.
use mathlib.Core.Path.{◌≡◌, refl, sym, ap, ◌∙◌, subst}
use mathlib.Core.Bool.{Bool, true, false, cond}
use mathlib.Core.List.{List, [], ◌∷◌, ◌++◌, map}
use Prim.Native.Nat.{ℕ, zero, suc, ◌+◌, ◌-◌, ◌*◌, ◌≤◌, ◌<◌}
use native.Mathlib.Decide.{ℕ_discrete}
use native.Mathlib.Omega.{arith}
use lib.ListN.{length, drop}
use lib.Dec.{eqb, leb}
use borrow.Author.Tests.{lt-ltb, le-ltb, le-leb}
use Rattle.meaning.specs.Diagram.{Diagram, leaf, same, same?, value_from, diagram_from}
use Rattle.meaning.specs.Operations as meaning
use Rattle.meaning.specs.Operations.{negation}
use Rattle.meaning.specs.Rules.{Line, any, conflicts, propagate, unit_prop, by_diagram, rup}
use Rattle.meaning.specs.Words.{in_word}
use Rattle.table.specs.Nodes.{Node, diagram_at, place}
use Rattle.table.specs.Making.{all, placed_all, turns_reach, line_reach}
use Rattle.dimacs.specs.Header.{header}
use Rattle.dimacs.specs.Clauses.{complete, clauses_from}
use Rattle.dimacs.specs.Texts.{bytes}
use Rattle.records.specs.declared.Rule.TheVariants.{Rup, Pr, Path}
use Rattle.records.specs.declared.Record.{Record}
use Rattle.records.specs.declared.Record.TheVariants.{Witness, ProofLine, CutShort}
use Rattle.records.specs.Records.{low_byte_first, record_in, record_at, length_of}
use Rattle.commands.specs.Commands.{in_records}
use Rattle.verdict.specs.Steps.{State, emptied, begun, stop, is_entry, entry_node, waiting, with_witness, accepted, unstruck}
use Rattle.verdict.specs.Steps.{line_step, record_step}
use Rattle.verdict.specs.Check.{step}
use Rattle.verdict.specs.Taken.{Meant, line_of, peak_with, WitnessTaken, LineTaken, Taken}
use Rattle.verdict.specs.Run.{command_in, after_command, Making, opened, made, Reached, begins, goes}
use Rattle.verdict.specs.Cases.{Gives, GivesAll, printed, rup_line, pr_line, path_record}
use Rattle.verdict.proofs.Exactly.{reached-stops}
use Rattle.demands.specs.LongRows.{rup_lines, lines_row, lines_order}

-- ---- the records

line_at : (k : ℕ) (rest : List ℕ) → record_in (rup_lines (suc k) rest) ≡ ProofLine Rup (record { 0 = 0 })
unfolding record_in low_byte_first
line_at k rest =
    ap (λ (c : Bool). cond c CutShort (ProofLine Rup (record { 0 = 0 }))) (le-ltb (length (0 ∷ 0 ∷ rup_lines k rest)) 2 (omega arith))

lines-drop : (j k : ℕ) (rest : List ℕ) → drop (3 * j) (rup_lines (j + k) rest) ≡ rup_lines k rest
lines-drop zero k rest = let z : 0 + k ≡ k = omega arith in ap (λ (x : ℕ). rup_lines x rest) z
lines-drop (suc j) k rest =
    let three : 3 * suc j ≡ suc (suc (suc (3 * j))) = omega arith in
    let s : suc j + k ≡ suc (j + k) = omega arith in
    rw (three, s) (lines-drop j k rest)

line-there : (j k : ℕ) (rest : List ℕ) → record_at (rup_lines (j + k) rest) (3 * j) ≡ record_in (rup_lines k rest)
unfolding record_at
line-there j k rest = ap record_in (lines-drop j k rest)

-- a witness behind them, and what is behind it
witness-at : (rest : List ℕ) → record_in (0x46 ∷ 1 ∷ rest) ≡ Witness 1 false
unfolding record_in low_byte_first
witness-at rest = ap (λ (c : Bool). cond c CutShort (Witness 1 false)) (le-ltb (length (1 ∷ rest)) 1 (omega arith))

behind-two : (k : ℕ) (rest : List ℕ) → drop (3 * k + 2) (rup_lines k (0x46 ∷ 1 ∷ rest)) ≡ rest
behind-two zero rest = refl
behind-two (suc k) rest = let three : 3 * suc k + 2 ≡ suc (suc (suc (3 * k + 2))) = omega arith in rw three (behind-two k rest)

-- ---- the lines

abbrev text-22 : List ℕ
text-22 = bytes "p cnf 1 1\n0\n"

begun-22 : Making 4096 text-22 1 1 emptied (0 ∷ []) (meaning.clause_value [] ∷ []) complete
unfolding header clauses_from place meaning.clause diagram_from value_from same? ℕ_discrete
begun-22 = made (opened {at = 9} refl) refl

-- all of them 0
abbrev AllZero : List ℕ → Type 0
AllZero [] = Unit {0}
AllZero (k ∷ ks) = (k ≡ 0) × AllZero ks

abbrev AllFalse : List Diagram → Type 0
AllFalse [] = Unit {0}
AllFalse (f ∷ fs) = (f ≡ leaf false) × AllFalse fs

zero_more : (ks : List ℕ) → AllZero ks → AllZero (ks ++ 0 ∷ [])
zero_more [] z = (refl, tt)
zero_more (k ∷ ks) z = (z.0, zero_more ks z.1)

zeros-false : (ks : List ℕ) → AllZero ks → AllFalse (map (diagram_at emptied) ks)
unfolding diagram_at
zeros-false [] z = tt
zeros-false (k ∷ ks) z = (rw z.0, zeros-false ks z.1)

live-false : (marks ks : List ℕ) → AllZero ks → AllFalse (map (diagram_at emptied) (unstruck marks ks))
unfolding unstruck diagram_at
live-false marks [] z = tt
live-false [] (k ∷ ks) z = zeros-false (k ∷ ks) z
live-false (m ∷ marks) (k ∷ ks) z = go (eqb m 0) (live-false marks ks z.1)
  where
    go : (b : Bool) → AllFalse (map (diagram_at emptied) (unstruck marks ks)) →
        AllFalse (map (diagram_at emptied) (cond b (k ∷ unstruck marks ks) (unstruck marks ks)))
    go true rec = (rw z.0, rec)
    go false rec = rec

-- the members by not-0 need no place
constants-fit : (ms : List Diagram) → AllFalse ms → placed_all 4096 emptied (by_diagram 1 (leaf true) ms) ≡ all emptied
unfolding placed_all place meaning.cofactor meaning.nearest diagram_from value_from same? ℕ_discrete
constants-fit [] z = refl
constants-fit (f ∷ ms) z = rw z.0 (constants-fit ms z.1)

-- a RUP line with root 0 where the first member is 0, and so are the others
module _ (ms : List Diagram) (z : AllFalse ms) where
  abbrev line : Line
  line = rup 1 (leaf false ∷ ms) (leaf false)

  zero-shown : line.shown ≡ true
  unfolding rup unit_prop propagate conflicts any same meaning.cofactor meaning.negation meaning.nearest value_from diagram_from same?
      ℕ_discrete
  zero-shown = refl

  zero-rounds : line.rounds ≡ 0
  unfolding rup unit_prop propagate conflicts any same meaning.cofactor meaning.negation meaning.nearest value_from diagram_from same?
      ℕ_discrete
  zero-rounds = refl

  zero-fits : (line_reach 4096 emptied line).fits ≡ true
  unfolding rup unit_prop propagate conflicts any same line_reach turns_reach placed_all place meaning.negation meaning.cofactor
      meaning.nearest
      value_from diagram_from same? ℕ_discrete
  zero-fits = rw (constants-fit ms z)

  zero-peak : (line_reach 4096 emptied line).peak ≡ 2
  unfolding rup unit_prop propagate conflicts any same line_reach turns_reach placed_all place meaning.negation meaning.cofactor
      meaning.nearest
      value_from diagram_from same? ℕ_discrete
  zero-peak = rw (constants-fit ms z)

-- ---- after so many of them

record Accepted (j : ℕ) (st : State) : Type 0 where
  nodes : st.nodes ≡ emptied
  rest : List ℕ
  zeros : AllZero rest
  members : st.members ≡ 0 ∷ rest
  marks : List ℕ
  struck : st.struck ≡ 0 ∷ marks
  entries : st.entries ≡ []
  positive : st.positive ≡ 0
  negative : st.negative ≡ 0
  lines : st.lines ≡ j
  rounds : st.rounds ≡ 0
  peak : st.peak ≡ 2

none-waits : {j : ℕ} {st : State} → Accepted j st → waiting st ≡ false
unfolding waiting
none-waits A = rw (A.positive, A.negative)

-- the state after one more
abbrev after_line : State → State
after_line st = accepted st 0 (line_of 1 st Rup 0) (peak_with 4096 st (line_of 1 st Rup 0))

-- such a state has the line of above
same_line : (st : State) (rest marks : List ℕ) → st.nodes ≡ emptied → st.members ≡ 0 ∷ rest → st.struck ≡ 0 ∷ marks
    → line_of 1 st Rup 0 ≡ rup 1 (leaf false ∷ map (diagram_at emptied) (unstruck marks rest)) (leaf false)
unfolding diagram_at unstruck
same_line st rest marks nodes members struck = rw (nodes, members, struck)

accepted-next : (j : ℕ) → j < 1024 → (st : State) → Accepted j st
    → LineTaken 1 4096 st Rup 0 (after_line st) × Accepted (suc j) (after_line st)
unfolding is_entry entry_node waiting
accepted-next j few st A =
    let live : List Diagram = map (diagram_at emptied) (unstruck A.marks A.rest) in
    let z : AllFalse live = live-false A.marks A.rest A.zeros in
    let is : line_of 1 st Rup 0 ≡ line live z = same_line st A.rest A.marks A.nodes A.members A.struck in (
      record {
        entry = lt-ltb 0 (suc (suc (length st.entries))) (omega arith);
        few = omega (arith, A.lines);
        not-one = λ e. omega arith;
        witness = none-waits A;
        fits = ap (λ (x : Line). (line_reach 4096 st.nodes x).fits) is
            ∙ ap (λ (t : List Node). (line_reach 4096 t (line live z)).fits) A.nodes ∙ zero-fits live z;
        shown = ap (λ (x : Line). x.shown) is ∙ zero-shown live z;
        is = refl;
      },
      record {
        nodes = A.nodes;
        rest = A.rest ++ 0 ∷ [];
        zeros = zero_more A.rest A.zeros;
        members = ap (λ (x : List ℕ). x ++ 0 ∷ []) A.members;
        marks = A.marks ++ 0 ∷ [];
        struck = ap (λ (x : List ℕ). x ++ 0 ∷ []) A.struck;
        entries = refl;
        positive = refl;
        negative = refl;
        lines = ap suc A.lines;
        rounds = omega (arith, A.rounds, ap (λ (x : Line). x.rounds) is ∙ zero-rounds live z);
        peak = omega (
          arith,
          A.peak,
          ap (λ (x : Line). (line_reach 4096 st.nodes x).peak) is
              ∙ ap (λ (t : List Node). (line_reach 4096 t (line live z)).peak) A.nodes ∙ zero-peak live z,
        );
      },
    )

record Before (proof : List ℕ) (j : ℕ) : Type 0 where
  state : State
  meant : Meant
  reached : Reached in_records 4096 text-22 proof 1 state (3 * j) meant
  accepted : Accepted j state

before : (k : ℕ) (rest : List ℕ) → k ≤ 1024 → (j : ℕ) → j ≤ k → Before (rup_lines k rest) j
before k rest most zero p = record {
  state = begun emptied (0 ∷ []);
  meant = _;
  reached = begins begun-22;
  accepted = record {
    nodes = refl;
    rest = [];
    zeros = tt;
    members = refl;
    marks = [];
    struck = refl;
    entries = refl;
    positive = refl;
    negative = refl;
    lines = refl;
    rounds = refl;
    peak = refl;
  };
}
before k rest most (suc j) p =
    let B : Before (rup_lines k rest) j = before k rest most j (omega arith) in
    let split : k ≡ j + suc (k - suc j) = omega arith in
    let here : record_at (rup_lines k rest) (3 * j) ≡ ProofLine Rup (record { 0 = 0 }) =
    ap (λ (x : ℕ). record_at (rup_lines x rest) (3 * j)) split ∙ line-there j (suc (k - suc j)) rest ∙ line_at (k - suc j) rest in
    let st : State = after_line B.state in
    let (T, A) = accepted-next j (omega arith) B.state B.accepted in
    let three : 3 * j + 3 ≡ 3 * suc j = omega arith in
    let R = goes B.reached (refl, subst (λ (r : Record). Taken 1 4096 B.state r st) (sym here) T) in
    let m : Meant = after_command B.meant (command_in in_records (rup_lines k rest) 1 (3 * j)) in
    record {
      state = st;
      meant = m;
      reached = subst (λ (x : ℕ). Reached in_records 4096 text-22 (rup_lines k rest) 1 st x m)
          (ap (λ (r : Record). 3 * j + length_of r) here ∙ three) R;
      accepted = A;
    }

-- ---- what comes then

-- Lines are full, no witness waits, and there are entries 0 and 1 alone.
record Full (st : State) : Type 0 where
  lines : leb 1024 st.lines ≡ true
  none-waits : waiting st ≡ false
  entries : st.entries ≡ []

-- the record behind 1,024 lines is refused as its step is in such a state
behind-lines : (rest : List ℕ) (r : Record) (number : ℕ) → record_in rest ≡ r
    → ((st : State) (more : Bool) → Full st → record_step 1 4096 st more r ≡ stop number 0) → Gives (lines_row rest number 3072)
unfolding step
behind-lines rest r number is refused =
    let B : Before (rup_lines 1024 rest) 1024 = before 1024 rest (omega arith) 1024 (omega arith) in
    let A : Accepted 1024 B.state = B.accepted in
    let here : record_at (rup_lines 1024 rest) 3072 ≡ r = line-there 1024 0 rest ∙ is in
    let F : Full B.state = record {
      lines = le-leb 1024 B.state.lines (omega (arith, A.lines));
      none-waits = none-waits A;
      entries = A.entries;
    } in
    ap printed (reached-stops in_records 4096 text-22 (rup_lines 1024 rest) B.reached number 0 (rw here (refused B.state _ F)))
    ∙ rw (A.lines, A.rounds, A.peak)

-- and so is the one behind a witness that waits, of variable 1 made false
behind-witness : (rest : List ℕ) (r : Record) (number : ℕ) → record_in rest ≡ r
    → ((st : State) (more : Bool) → waiting st ≡ true → st.entries ≡ [] → record_step 1 4096 st more r ≡ stop number 0)
    → Gives (lines_row (0x46 ∷ 1 ∷ rest) number 3074)
unfolding step record_at record_in waiting in_word
behind-witness rest r number is refused =
    let proof : List ℕ = rup_lines 1024 (0x46 ∷ 1 ∷ rest) in
    let B : Before proof 1024 = before 1024 (0x46 ∷ 1 ∷ rest) (omega arith) 1024 (omega arith) in
    let A : Accepted 1024 B.state = B.accepted in
    let first : record_at proof 3072 ≡ Witness 1 false = line-there 1024 0 (0x46 ∷ 1 ∷ rest) ∙ witness-at rest in
    let st : State = with_witness B.state B.state.positive (B.state.negative + 1) in
    let T : WitnessTaken 1 B.state 1 false st = record {
      least = omega arith;
      most = omega arith;
      new-positive = ap (λ (w : ℕ). in_word w 1) A.positive;
      new-negative = ap (λ (w : ℕ). in_word w 1) A.negative;
      is = refl;
    } in
    let m : Meant = after_command B.meant (command_in in_records proof 1 3072) in
    let R : Reached in_records 4096 text-22 proof 1 st 3074 m =
    subst (λ (x : ℕ). Reached in_records 4096 text-22 proof 1 st x m) (ap (λ (r : Record). 3072 + length_of r) first)
    (goes B.reached (refl, subst (λ (r : Record). Taken 1 4096 B.state r st) (sym first) T)) in
    let second : record_at proof 3074 ≡ r = ap record_in (behind-two 1024 rest) ∙ is in
    let waits : waiting st ≡ true = rw (A.positive, A.negative) in
    ap printed (reached-stops in_records 4096 text-22 proof R number 0 (rw second (refused st _ waits A.entries)))
    ∙ rw (A.lines, A.rounds, A.peak)

-- "22: over 1,024 lines: line 1,025"
pub twenty-two : Gives (lines_row (rup_line 0 []) 22 3072)
unfolding record_in record_step line_step low_byte_first is_entry
twenty-two = behind-lines (rup_line 0 []) (ProofLine Rup (record { 0 = 0 })) 22 refl (λ st more F. rw (F.entries, F.none-waits, F.lines))

pub lines-order : GivesAll lines_order
unfolding record_in record_step line_step low_byte_first is_entry entry_node
lines-order = (
  behind-lines (rup_line 9 []) (ProofLine Rup (record { 0 = 9 })) 13 refl (λ st more F. rw F.entries),
  (
    behind-witness (rup_line 0 []) (ProofLine Rup (record { 0 = 0 })) 16 refl (λ st more w e. rw (e, w)),
    (
      behind-lines (rup_line 1 []) (ProofLine Rup (record { 0 = 1 })) 22 refl (λ st more F. rw (F.entries, F.none-waits, F.lines)),
      (
        behind-lines (pr_line 9 []) (ProofLine Pr (record { 0 = 9 })) 13 refl (λ st more F. rw F.entries),
        (
          behind-lines (pr_line 1 []) (ProofLine Pr (record { 0 = 1 })) 22 refl (λ st more F. rw (F.entries, F.lines)),
          (
            behind-lines (pr_line 0 []) (ProofLine Pr (record { 0 = 0 })) 22 refl (λ st more F. rw (F.entries, F.lines)),
            (
              behind-lines (path_record 9 []) (ProofLine Path (record { 0 = 9 })) 13 refl (λ st more F. rw F.entries),
              (
                behind-witness (path_record 0 []) (ProofLine Path (record { 0 = 0 })) 16 refl (λ st more w e. rw (e, w)),
                (
                  behind-lines (path_record 1 []) (ProofLine Path (record { 0 = 1 })) 22 refl
                      (λ st more F. rw (F.entries, F.none-waits, F.lines)),
                  tt,
                ),
              ),
            ),
          ),
        ),
      ),
    ),
  ),
)
