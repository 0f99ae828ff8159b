-- The state between records as the code holds it, and what a step asks and leaves. No call open to others cites this file.
use Rattle.std.specs.Prelude.{◌≡◌, List, ℕ, ◌+◌, ◌*◌, ◌≤◌, ◌<◌, length, get_or, take}
use Rattle.table.specs.Nodes.{at}
use Rattle.table.specs.Indexed.{Table, table_of, nodes_of, Good}
use Rattle.verdict.specs.Steps as check
use Rattle.table.specs.Lists.{Inside}
use Rattle.paths.specs.Rounds.{most_rounds}
use Rattle.state.specs.declared.State.{State}
use Rattle.state.specs.declared.Step.{Step}
use Rattle.state.specs.declared.Step.TheVariants.{Next, Stop, Spent}

-- ---- the definition's state

-- The lists that hold a state: columns, index, members, scratch list and the members' marks.
pub record Lent : Type 0 where
  pub vars : List ℕ
  pub lows : List ℕ
  pub highs : List ℕ
  pub heads : List ℕ
  pub links : List ℕ
  pub members : List ℕ
  pub scratch : List ℕ
  pub struck : List ℕ

abbrev pub lent_of : List ℕ → List ℕ → List ℕ → List ℕ → List ℕ → List ℕ → List ℕ → List ℕ → Lent
lent_of vs ls hs ds ks ms cs ss =
    record { vars = vs; lows = ls; highs = hs; heads = ds; links = ks; members = ms; scratch = cs; struck = ss }

-- The table lent, with a count.
abbrev pub table_in : Lent → ℕ → Table
table_in l count = table_of l.vars l.lows l.highs l.heads l.links count

-- The scratch list's first places hold the line's entries from entry 2 on.
abbrev pub state_of : Lent → State → check.State
state_of l st = record {
  nodes = nodes_of (table_in l st.count);
  kept = st.kept;
  members = take st.members l.members;
  struck = take st.members l.struck;
  entries = take st.entries l.scratch;
  positive = st.witness.positive;
  negative = st.witness.negative;
  lines = st.lines;
  rounds = st.rounds;
  peak = st.peak;
  refuted = st.refuted;
}

abbrev pub step_of : Lent → Step → check.Step
step_of l (Next st) = check.next (state_of l st)
step_of l (Stop number offset) = check.stop number offset
step_of l (Spent number peak) = check.spent number peak

-- ---- the next state

-- The state with one entry more, the table's count, and the greatest so far.
abbrev pub state_with_entry : State → ℕ → ℕ → State
state_with_entry st count peak = record {
  count = count;
  kept = st.kept;
  members = st.members;
  entries = st.entries + 1;
  witness = st.witness;
  lines = st.lines;
  rounds = st.rounds;
  peak = peak;
  refuted = st.refuted;
}

-- ---- what steps ask and leave

-- A table with no variable beyond n, and the line's entries in it.
pub record EntriesHeld (n : ℕ) (t : Table) (scratch : List ℕ) (entries : ℕ) : Type 0 where
  pub good : Good t
  pub uses : (k : ℕ) → 2 ≤ k → k < length (nodes_of t) → (at (nodes_of t) k).var ≤ n
  pub inside : Inside t.count (take entries scratch)
  pub few : entries ≤ 4096
  pub room : 4096 ≤ length scratch
  pub narrow : n ≤ 64

-- Every state between records, n being the header's variables.
pub record Held (n : ℕ) (l : Lent) (st : State) : Type 0 where
  pub entries : EntriesHeld n (table_in l st.count) l.scratch st.entries
  pub least : 2 ≤ st.kept
  pub kept : st.kept ≤ st.count
  pub inside : Inside st.kept (take st.members l.members)
  pub rest : (i : ℕ) → st.members ≤ i → get_or l.members i 0 ≡ 0
  pub many : st.members ≤ 1024 + st.lines
  pub lines : st.lines ≤ 1024
  pub room : 2048 ≤ length l.members
  pub marked : length l.struck ≡ length l.members
  pub unmarked : (i : ℕ) → st.members ≤ i → get_or l.struck i 0 ≡ 0
  pub rounds : st.rounds ≤ st.lines * most_rounds

-- A refused record leaves table, members and marks as they were.
pub record Unmoved (l l' : Lent) (st : State) : Type 0 where
  pub table : table_in l' st.count ≡ table_in l st.count
  pub members : l'.members ≡ l.members
  pub struck : l'.struck ≡ l.struck

-- The next state is held; a refused record moves nothing.
abbrev pub HeldAfter : ℕ → Lent → Lent → State → Step → Type 0
HeldAfter n l l' st (Next st') = Held n l' st'
HeldAfter n l l' st (Stop number offset) = Unmoved l l' st
HeldAfter n l l' st (Spent number peak) = Unmoved l l' st

-- A step comes to what the definition says, and leaves l' of l.
pub record Stepped (n : ℕ) (l l' : Lent) (st : State) (said : check.Step) (r : Step) : Type 0 where
  pub says : step_of l' r ≡ said
  pub leaves : HeldAfter n l l' st r
