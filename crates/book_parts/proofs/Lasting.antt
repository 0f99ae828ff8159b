-- The book's own table as it is made again gives the state before the call's first record: its members' numbers are the definition's, and
-- the state is held. Assumes nothing.
use mathlib.Core.Path.{◌≡◌, refl, sym, ap, ap₂, ◌∙◌}
use mathlib.Core.List.{List, [], ◌∷◌}
use Prim.Native.Nat.{ℕ, suc, ◌+◌, ◌≤◌, ◌<◌}
use native.Mathlib.Omega.{arith}
use lib.ListN.{length, get_or, take}
use lib.Seq.{length-take-le, get_or-take}
use Rattle.meaning.specs.Diagram.{Diagram}
use Rattle.table.specs.Nodes.{Node, diagram_at, place}
use Rattle.table.specs.Indexed.{nodes_of, Good}
use Rattle.table.proofs.Order.{Ordered}
use Rattle.table.proofs.Written.{good-ordered}
use Rattle.table.proofs.Numbers.{uses-64}
use Rattle.table.proofs.Placing.{place-there}
use Rattle.state.specs.declared.State.{State}
use Rattle.state.specs.States.{Lent, table_in, Held}
use Rattle.shares.specs.Shares.{diagram_in}
use Rattle.shares.specs.Books.{found, members_in}
use Rattle.alone.specs.Copies.{FoundAll}

-- the numbers found are those that placing again gives
found_from : (s : ℕ) (T t : List Node) → Ordered t → (ks after : List ℕ) → length ks ≤ length after
    → ((i : ℕ) → i < length ks → get_or after i 0 < length t) →
    ((i : ℕ) → i < length ks → diagram_at t (get_or after i 0) ≡ diagram_in T (get_or ks i 0))
    → take (length ks) after ≡ members_in s T t ks
found_from s T t O [] after room inside is = refl
found_from s T t O (k ∷ ks) [] room inside is = absurd (omega arith)
found_from s T t O (k ∷ ks) (x ∷ after) room inside is =
    ap₂ ◌∷◌ (sym (ap (λ (D : Diagram). found (place s t D)) (sym (is 0 (omega arith)))
    ∙ ap found (place-there s t O x (inside 0 (omega arith)))))
    (found_from s T t O ks after (omega arith) (λ i p. inside (suc i) (omega arith)) (λ i p. is (suc i) (omega arith)))

pub found-members : (s : ℕ) (T t : List Node) → Ordered t → (ks before after : List ℕ) → length ks ≤ length after →
    FoundAll T t ks (length ks) before after
    → take (length ks) after ≡ members_in s T t ks
found-members s T t O ks before after room F = found_from s T t O ks after room F.inside F.is

-- What the state before the first record asks of the lists.
pub record FirstState (l : Lent) (st : State) : Type 0 where
  pub good : Good (table_in l st.count)
  pub kept : st.kept ≡ st.count
  pub entries : st.entries ≡ 0
  pub scratch : 4096 ≤ length l.scratch
  pub inside : (i : ℕ) → i < st.members → get_or l.members i 0 < st.count
  pub rest : (i : ℕ) → st.members ≤ i → ◌≡◌ {A = ℕ} (get_or l.members i 0) 0
  pub many : st.members ≤ 1024 + st.lines
  pub lines : st.lines ≤ 1024
  pub room : 2048 ≤ length l.members
  pub marked : length l.struck ≡ length l.members
  pub unmarked : (i : ℕ) → st.members ≤ i → ◌≡◌ {A = ℕ} (get_or l.struck i 0) 0
  pub rounds : st.rounds ≡ 0

pub first-held : (l : Lent) (st : State) → FirstState l st → Held 64 l st
first-held l st F = record {
  entries = record {
    good = F.good;
    uses = uses-64 (nodes_of (table_in l st.count)) (good-ordered (table_in l st.count) F.good);
    inside = λ i p. absurd (omega (arith, none i p));
    few = omega (arith, F.entries);
    room = F.scratch;
    narrow = omega arith;
  };
  least = omega (arith, F.kept, F.good.least);
  kept = omega (arith, F.kept);
  inside = λ i p. rw (get_or-take st.members l.members i 0 (short i p)) (omega (arith, F.inside i (short i p), F.kept));
  rest = F.rest;
  many = F.many;
  lines = F.lines;
  room = F.room;
  marked = F.marked;
  unmarked = F.unmarked;
  rounds = omega (arith, F.rounds);
}
  where
    none : (i : ℕ) → i < length (take st.entries l.scratch) → i < 0
    none i p = let e : length (take st.entries l.scratch) ≡ 0 = ap (λ (k : ℕ). length (take k l.scratch)) F.entries in
        omega arith

    short : (i : ℕ) → i < length (take st.members l.members) → i < st.members
    short i p = omega (arith, length-take-le st.members l.members (omega (arith, F.many, F.lines, F.room)))
