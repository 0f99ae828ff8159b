-- The check over words: the state between records, the result of each record, and the whole run. Theorem `words-agree` shows that it is
-- `small`. No call open to others cites this file.
use Rattle.std.specs.Prelude.{Bool, true, false, not, ◌&&◌, ◌||◌, cond, List, [], ◌∷◌, ◌++◌, ℕ, zero, suc, ◌+◌, length, get_or, set}
use Rattle.std.specs.Prelude.{replicate, eqb, ltb, leb}
use Rattle.meaning.specs.Rules.{Line, rup, pr}
use Rattle.meaning.specs.Words.{in_word}
use Rattle.paths.specs.Paths.{path_line}
use Rattle.words.specs.declared.Literals.{Literals}
use Rattle.words.specs.Sets.{literals_of}
use Rattle.dimacs.specs.Header.{Header, Proper, Improper, header}
use Rattle.dimacs.specs.Clauses.{Reading, clause, complete, refusal, clauses_from}
use Rattle.records.specs.declared.NodeBody.{NodeBody}
use Rattle.records.specs.declared.Rule.{Rule}
use Rattle.records.specs.declared.Rule.TheVariants.{Rup, Pr, Path}
use Rattle.records.specs.declared.SetKind.{SetKind}
use Rattle.records.specs.declared.SetKind.TheVariants.{Parity, AtLeast}
use Rattle.records.specs.declared.SetBody.{SetBody}
use Rattle.records.specs.declared.Record.{Record}
use Rattle.records.specs.declared.Record.TheVariants.{NodeEntry, Witness, ProofLine, Strike, SetEntry, End}
use Rattle.records.specs.declared.Record.TheVariants.{CutShort, UnknownKind, NoRecord}
use Rattle.records.specs.Records.{record_at, length_of, number_of}
use Rattle.verdict.specs.Steps.{is_variable, assigned, unstruck, beyond, no_parity}
use Rattle.truth.specs.Tables.{diagram_of, ones, by_literals}
use Rattle.truth_rules.specs.Lists.{diagrams_of}
use Rattle.truth_entries.specs.Made.{over, free_to, clause_word, parity_word, least_word}
use Rattle.small_verdict.specs.Agrees.{Said}
use Rattle.small_verdict.specs.Small.{six_only}

-- ---- the state

-- Members and entries as words; the rest as in the check's state.
pub record WordState : Type 0 where
  pub members : List ℕ
  pub struck : List ℕ
  pub entries : List ℕ
  pub positive : ℕ
  pub negative : ℕ
  pub lines : ℕ
  pub rounds : ℕ
  pub refuted : Bool

pub data WordStep : Type 0 where
  onward : WordState → WordStep
  halt : (number offset : ℕ) → WordStep

abbrev pub words_begun : List ℕ → WordState
words_begun members = record {
  members = members;
  struck = replicate (length members) 0;
  entries = [];
  positive = 0;
  negative = 0;
  lines = 0;
  rounds = 0;
  refuted = false;
}

abbrev pub with_word : WordState → ℕ → WordState
with_word st w = record {
  members = st.members;
  struck = st.struck;
  entries = st.entries ++ w ∷ [];
  positive = st.positive;
  negative = st.negative;
  lines = st.lines;
  rounds = st.rounds;
  refuted = st.refuted;
}

abbrev pub with_literals : WordState → ℕ → ℕ → WordState
with_literals st positive negative = record {
  members = st.members;
  struck = st.struck;
  entries = st.entries;
  positive = positive;
  negative = negative;
  lines = st.lines;
  rounds = st.rounds;
  refuted = st.refuted;
}

abbrev pub with_struck : WordState → List ℕ → WordState
with_struck st struck = record {
  members = st.members;
  struck = struck;
  entries = st.entries;
  positive = st.positive;
  negative = st.negative;
  lines = st.lines;
  rounds = st.rounds;
  refuted = st.refuted;
}

abbrev pub accepted_word : WordState → ℕ → ℕ → WordState
accepted_word st g rounds = record {
  members = st.members ++ g ∷ [];
  struck = st.struck ++ 0 ∷ [];
  entries = [];
  positive = 0;
  negative = 0;
  lines = suc st.lines;
  rounds = st.rounds + rounds;
  refuted = st.refuted || eqb g 0;
}

-- ---- records

abbrev pub numbered_words : WordState → List ℕ
numbered_words st = 0 ∷ ones ∷ st.entries

abbrev pub is_word_entry : WordState → ℕ → Bool
is_word_entry st e = ltb e (length (numbered_words st))

abbrev pub entry_word : WordState → ℕ → ℕ
entry_word st e = get_or (numbered_words st) e 0

unfoldable pub word_node : ℕ → WordState → NodeBody → WordStep
unfolding is_variable free_to over
word_node n st b =
    let l = entry_word st b.low.0 in
    let h = entry_word st b.high.0 in
    cond (leb 4096 (length st.entries)) (halt 21 0)
    (cond (not (is_variable n b.variable)) (halt 12 0)
    (cond (not (is_word_entry st b.low.0 && is_word_entry st b.high.0)) (halt 13 0)
    (cond (not (free_to b.variable l && free_to b.variable h)) (halt 14 0) (onward (with_word st (over b.variable l h))))))

unfoldable pub word_witness : ℕ → WordState → ℕ → Bool → WordStep
unfolding is_variable
word_witness n st v b =
    cond (not (is_variable n v)) (halt 12 0)
    (cond (in_word st.positive v || in_word st.negative v) (halt 15 0)
    (onward (with_literals st (assigned b st.positive v) (assigned (not b) st.negative v))))

abbrev pub word_waits : WordState → Bool
word_waits st = not (eqb st.positive 0 && eqb st.negative 0)

abbrev pub live_words : WordState → List ℕ
live_words st = unstruck st.struck st.members

abbrev pub word_judged : WordState → ℕ → Line → WordStep
word_judged st g line = cond (not line.shown) (halt 19 0) (onward (accepted_word st g line.rounds))

-- The line of the root's word g over live members, by its rule.
abbrev pub line_by : Rule → ℕ → ℕ → List ℕ → ℕ → Line
line_by Rup positive negative live g = rup 6 (diagrams_of live) (diagram_of g)
line_by Pr positive negative live g = pr 6 (in_word positive) (in_word negative) (diagrams_of live) (diagram_of g)
line_by Path positive negative live g = path_line 6 (diagrams_of live) (diagram_of g)

abbrev pub line_of : WordState → Rule → ℕ → Line
line_of st rule g = line_by rule st.positive st.negative (live_words st) g

-- RUP and path lines. 34 is never given: a diagram of six variables has at most 64 paths (theorem `few-paths`).
unfoldable pub quiet_line : WordState → ℕ → Line → WordStep
quiet_line st root line =
    let g = entry_word st root in
    let last = word_judged st g line in
    cond (not (is_word_entry st root)) (halt 13 0)
    (cond (word_waits st) (halt 16 0) (cond (leb 1024 st.lines) (halt 22 0) (cond (eqb g ones) (halt 17 0) last)))

unfoldable pub word_line : WordState → Rule → ℕ → WordStep
unfolding quiet_line unstruck path_line
word_line st Rup root = quiet_line st root (line_of st Rup (entry_word st root))
word_line st Pr root =
    let g = entry_word st root in
    let last = word_judged st g (line_of st Pr g) in
    let shut = cond (not (eqb (by_literals 6 (in_word st.positive) (in_word st.negative) g) ones)) (halt 18 0) last in
    cond (not (is_word_entry st root)) (halt 13 0) (cond (leb 1024 st.lines) (halt 22 0) (cond (eqb g ones) (halt 17 0) shut))
word_line st Path root = quiet_line st root (line_of st Path (entry_word st root))

abbrev pub is_live_word : WordState → ℕ → Bool
is_live_word st k = ltb k (length st.members) && eqb (get_or st.struck k 0) 0

unfoldable pub word_strike : WordState → ℕ → WordStep
word_strike st k = cond (word_waits st) (halt 16 0)
    (cond (not (is_live_word st k)) (halt 28 0) (onward (with_struck st (set st.struck k 1))))

abbrev pub set_word : SetKind → SetBody → ℕ
set_word Parity b = parity_word (in_word b.set) (eqb b.byte 1)
set_word AtLeast b = least_word (in_word b.set) b.byte

unfoldable pub word_set : ℕ → WordState → SetKind → SetBody → WordStep
unfolding beyond
word_set n st kind b =
    cond (leb 4096 (length st.entries)) (halt 21 0)
    (cond (beyond n b.set) (halt 12 0) (cond (no_parity kind b.byte) (halt 29 0) (onward (with_word st (set_word kind b)))))

unfoldable pub word_end : WordState → Bool → WordStep
word_end st more = cond (word_waits st) (halt 16 0) (cond more (halt 11 1) (cond st.refuted (halt 0 0) (halt 20 0)))

unfoldable pub word_step : ℕ → WordState → Bool → Record → WordStep
unfolding word_node word_witness word_line word_strike word_set word_end
word_step n st more (NodeEntry b) = word_node n st b
word_step n st more (Witness v b) = word_witness n st v b
word_step n st more (ProofLine rule root) = word_line st rule root.0
word_step n st more (Strike k) = word_strike st k.0
word_step n st more (SetEntry kind b) = word_set n st kind b
word_step n st more End = word_end st more
word_step n st more CutShort = halt (number_of CutShort) 0
word_step n st more UnknownKind = halt (number_of UnknownKind) 0
word_step n st more NoRecord = halt (number_of NoRecord) 0

-- ---- the run

abbrev pub say_at : ℕ → ℕ → WordState → Said
say_at number place st = record { number = number; in_proof = true; place = place; lines = st.lines; rounds = st.rounds }

abbrev pub after_word : WordStep → WordState → ℕ → (WordState → Said) → Said
after_word (halt number offset) st at rest = say_at number (at + offset) st
after_word (onward st') st at rest = rest st'

unfoldable pub word_records : ℕ → ℕ → List ℕ → WordState → ℕ → Said
unfolding word_step
word_records zero n proof st at = say_at 10 at st
word_records (suc steps) n proof st at =
    let r = record_at proof at in
    let next = at + length_of r in
    after_word (word_step n st (ltb next (length proof)) r) st at (λ st'. word_records steps n proof st' next)

abbrev pub formula_refused : ℕ → ℕ → Said
formula_refused number place = record { number = number; in_proof = false; place = place; lines = 0; rounds = 0 }

abbrev pub word_of_clause : Literals → ℕ
word_of_clause u = clause_word (in_word u.positive) (in_word u.negative)

unfoldable pub word_clauses : ℕ → List ℕ → List ℕ → Reading → Said
unfolding word_records
word_clauses n proof ms (clause ls first rest) = word_clauses n proof (ms ++ word_of_clause (literals_of ls) ∷ []) rest
word_clauses n proof ms complete = word_records (suc (length proof)) n proof (words_begun ms) 0
word_clauses n proof ms (refusal number place) = formula_refused number place

abbrev pub words_after_header : List ℕ → List ℕ → Header → Said
words_after_header formula proof (Proper n many at) = word_clauses n proof [] (clauses_from formula n many at)
words_after_header formula proof (Improper number place) = formula_refused number place

unfoldable pub word_verdict : List ℕ → List ℕ → Said
unfolding word_clauses header
word_verdict formula proof = words_after_header formula proof (six_only formula (header formula))
