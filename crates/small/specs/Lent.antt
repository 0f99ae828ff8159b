-- The lists that the code works in, as the state that they hold. No call open to others cites this file.
use Rattle.std.specs.Prelude.{◌≡◌, ◌≢◌, not, ◌&&◌, ◌||◌, cond, Result, Ok, Err, List, ℕ, suc, ◌+◌, ◌*◌, ◌≤◌, ◌<◌, length, take, eqb, leb}
use Rattle.words.specs.declared.Literals.{Literals}
use Rattle.meaning.specs.Rules.{Line}
use Rattle.meaning.specs.Words.{in_word}
use Rattle.records.specs.declared.Rule.{Rule}
use Rattle.records.specs.declared.Rule.TheVariants.{Rup, Pr, Path}
use Rattle.truth.specs.Tables.{ones, by_literals}
use Rattle.small.specs.declared.State.{State}
use Rattle.small.specs.declared.Stop.{Stop}
use Rattle.dimacs.specs.declared.Refusal.{Refusal}
use Rattle.small.specs.declared.SmallChecked.{SmallChecked}
use Rattle.small_verdict.specs.Agrees.{Said}
use Rattle.small.specs.WordSteps.{WordState, WordStep, onward, halt, with_word, words_begun, line_of, word_judged, word_line}
use Rattle.small.specs.WordSteps.{word_records, formula_refused}

pub record WordsLent : Type 0 where
  pub members : List ℕ
  pub struck : List ℕ
  pub scratch : List ℕ

abbrev pub words_lent : List ℕ → List ℕ → List ℕ → WordsLent
words_lent ms ss cs = record { members = ms; struck = ss; scratch = cs }

-- The scratch list's first places hold the line's entries from entry 2 on.
abbrev pub state_of : WordsLent → State → WordState
state_of l st = record {
  members = take st.members l.members;
  struck = take st.members l.struck;
  entries = take st.entries l.scratch;
  positive = st.witness.positive;
  negative = st.witness.negative;
  lines = st.lines;
  rounds = st.rounds;
  refuted = st.refuted;
}

abbrev pub step_of : WordsLent → Result State Stop → WordStep
step_of l (Ok st) = onward (state_of l st)
step_of l (Err stop) = halt stop.number stop.offset

-- What a record that makes an entry comes to.
abbrev pub made_step : WordState → Result ℕ ℕ → WordStep
made_step ws (Err number) = halt number 0
made_step ws (Ok w) = onward (with_word ws w)

-- Sizes that every state keeps: 12,288 is six rounds for each of 2,048 members.
pub record Held (n : ℕ) (l : WordsLent) (st : State) : Type 0 where
  pub narrow : n ≤ 6
  pub room : 2048 ≤ length l.members
  pub marked : length l.struck ≡ length l.members
  pub places : 4096 ≤ length l.scratch
  pub many : st.members ≤ 1024 + st.lines
  pub lines : st.lines ≤ 1024
  pub few : st.entries ≤ 4096
  pub rounds : st.rounds ≤ st.lines * 12288

-- The next state is held; a record ends the proof at its first byte or at its second.
abbrev pub HeldAfter : ℕ → WordsLent → Result State Stop → Type 0
HeldAfter n l (Ok st) = Held n l st
HeldAfter n l (Err stop) = stop.offset ≤ 1

-- A step comes to what the definition says, and leaves the lists l.
pub record Stepped (n : ℕ) (l : WordsLent) (said : WordStep) (r : Result State Stop) : Type 0 where
  pub says : step_of l r ≡ said
  pub leaves : HeldAfter n l r

abbrev pub said_of : SmallChecked → Said
said_of r = record { number = r.number; in_proof = r.in_proof; place = r.place; lines = r.lines; rounds = r.rounds }

-- What is left to be said once the formula is read.
abbrev pub said_from : ℕ → List ℕ → List ℕ → Result ℕ Refusal → Said
said_from n proof members (Ok made) = word_records (suc (length proof)) n proof (words_begun (take made members)) 0
said_from n proof members (Err r) = formula_refused r.number r.place

abbrev pub Begins : Result ℕ Refusal → Type 0
Begins (Ok made) = made ≤ 1024
Begins (Err r) = Unit {0}

-- A word that is made has a place among the entries.
abbrev pub EntryFits : ℕ → Result ℕ ℕ → Type 0
EntryFits entries (Err number) = Unit {0}
EntryFits entries (Ok w) = entries < 4096

-- ---- next states

abbrev pub state_with_entry : State → State
state_with_entry st = record {
  members = st.members;
  entries = st.entries + 1;
  witness = st.witness;
  lines = st.lines;
  rounds = st.rounds;
  refuted = st.refuted;
}

abbrev pub state_with_witness : State → Literals → State
state_with_witness st witness = record {
  members = st.members;
  entries = st.entries;
  witness = witness;
  lines = st.lines;
  rounds = st.rounds;
  refuted = st.refuted;
}

abbrev pub state_with_line : State → ℕ → ℕ → State
state_with_line st rounds g = record {
  members = st.members + 1;
  entries = 0;
  witness = record { positive = 0; negative = 0 };
  lines = st.lines + 1;
  rounds = st.rounds + rounds;
  refuted = st.refuted || eqb g 0;
}

-- ---- lines

-- The tests of a root g that is there, in the order of its rule: 16, 22 and 17 of RUP and path lines, 22, 17 and 18 of PR lines; or g.
abbrev pub quiet_test : ℕ → ℕ → ℕ → ℕ → Result ℕ ℕ
quiet_test positive negative lines g =
    cond (not (eqb positive 0 && eqb negative 0)) (Err 16)
    (cond (leb 1024 lines) (Err 22) (cond (eqb g ones) (Err 17) (Ok g)))

abbrev pub witness_test : ℕ → ℕ → ℕ → ℕ → Result ℕ ℕ
witness_test positive negative lines g =
    cond (leb 1024 lines) (Err 22)
    (cond (eqb g ones) (Err 17)
    (cond (not (eqb (by_literals 6 (in_word positive) (in_word negative) g) ones)) (Err 18) (Ok g)))

abbrev pub root_test : Rule → ℕ → ℕ → ℕ → ℕ → Result ℕ ℕ
root_test Rup = quiet_test
root_test Pr = witness_test
root_test Path = quiet_test

-- The tests refuse, or the line of the root's word is judged.
abbrev pub Tested : WordState → WordStep → (ℕ → Line) → Result ℕ ℕ → Type 0
Tested ws step by (Err number) = step ≡ halt number 0
Tested ws step by (Ok g) = (step ≡ word_judged ws g (by g)) × (g ≢ ones) × (ws.lines < 1024)

abbrev pub LineTested : WordState → Rule → ℕ → Result ℕ ℕ → Type 0
LineTested ws rule root m = Tested ws (word_line ws rule root) (line_of ws rule) m
