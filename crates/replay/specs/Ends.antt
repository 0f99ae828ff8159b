-- What the inner functions say of the commands read. No call open to others cites this file.
use Rattle.std.specs.Prelude.{◌≡◌, ℕ, ◌≤◌, length, get_or}
use Rattle.table.specs.Indexed.{Good}
use Rattle.state.specs.declared.State.{State}
use Rattle.state.specs.States.{Lent, table_in}

-- What the last command leaves: a good table with the nodes that stay, and zeros behind the members and their marks.
pub record Ends (l : Lent) (st : State) : Type 0 where
  pub good : Good (table_in l st.count)
  pub least : 2 ≤ st.kept
  pub kept : st.kept ≤ st.count
  pub room : st.members ≤ length l.members
  pub rest : (i : ℕ) → st.members ≤ i → ◌≡◌ {A = ℕ} (get_or l.members i 0) 0
  pub marked : length l.struck ≡ length l.members
  pub unmarked : (i : ℕ) → st.members ≤ i → ◌≡◌ {A = ℕ} (get_or l.struck i 0) 0
