-- An entry whose diagram is placed: its node is the next of the scratch list, and all that is held stays held. Assumes nothing.
use mathlib.Core.Path.{◌≡◌, sym, ap, ap₂, ◌∙◌, subst}
use mathlib.Core.Bool.{false}
use mathlib.Core.List.{List, [], ◌∷◌, ◌++◌}
use Prim.Native.Nat.{ℕ, suc, ◌+◌, ◌≤◌, ◌<◌, max}
use native.Mathlib.Omega.{arith}
use native.Mathlib.Decide.{dec_lt}
use lib.ListN.{length, get_or, take, set, length-set}
use lib.Seq.{take-suc-set, length-take-le, get_or-set_same, get_or-set_other, get_or-take}
use Rattle.meaning.specs.Diagram.{Diagram}
use Rattle.meaning.proofs.Booleans.{t≢f}
use Rattle.table.specs.Nodes.{Node, Placing, full, placed}
use Rattle.table.specs.Indexed.{Table, size, nodes_of, Outcome, written}
use Rattle.table.specs.Lists.{Inside}
use Rattle.table.proofs.Numbers.{UsesTo}
use Rattle.table.proofs.Written.{nodes-indexed, length-nodes}
use Rattle.table.proofs.Outcomes.{Grown}
use Rattle.verdict.specs.Steps as check
use Rattle.verdict.specs.Steps.{next, entered}
use Rattle.verdict.proofs.Uses.{UsesAfter}
use Rattle.state.specs.declared.State.{State}
use Rattle.state.specs.declared.Step.TheVariants.{Next}
use Rattle.state.specs.States.{Lent, lent_of, table_in, state_of, state_with_entry, Held, Stepped}

-- Other lists lent with a table.
abbrev pub lent_with : Table → List ℕ → List ℕ → List ℕ → Lent
lent_with t ms cs ss = lent_of t.vars t.lows t.highs t.heads t.links ms cs ss

-- One number more in a list whose first m places are in use.
pub inside-more : (list : List ℕ) (m k bound bound' : ℕ) → m < length list → Inside bound (take m list) → bound ≤ bound' → k < bound' →
    Inside bound' (take (m + 1) (set list m k))
inside-more list m k bound bound' p old le new i q =
    let len : length (take (m + 1) (set list m k)) ≡ m + 1 = length-take-le (m + 1) (set list m k) (omega (arith, length-set list m k)) in
    let below : i < m + 1 = omega arith in
    rw (get_or-take (m + 1) (set list m k) i 0 below) (elim (dec_lt i m) [
      | yes lt ↦ rw (get_or-set_other list m i k 0 (λ e. absurd (omega arith)), sym (get_or-take m list i 0 lt))
          (let o : get_or (take m list) i 0 < bound = old i (omega (arith, length-take-le m list (omega arith))) in omega arith)
      | no ge ↦ let e : i ≡ m = omega arith in rw (e, get_or-set_same list m k 0 p) new
    ])

pub one_more : (list : List ℕ) (m k : ℕ) → m < length list → take (m + 1) (set list m k) ≡ take m list ++ k ∷ []
one_more list m k p = let e : m + 1 ≡ suc m = omega arith in ap (λ (j : ℕ). take j (set list m k)) e ∙ take-suc-set list m k p

pub few-there : (L : Lent) (st : State) → st.entries ≤ length L.scratch → length (state_of L st).entries < 4096 → st.entries < 4096
few-there L st room p = omega (arith, length-take-le st.entries L.scratch room)

-- ---- the definition's entry

abbrev entry_made : check.State → Outcome → check.State
entry_made st o = record {
  nodes = nodes_of o.table;
  kept = st.kept;
  members = st.members;
  struck = st.struck;
  entries = st.entries ++ o.node ∷ [];
  positive = st.positive;
  negative = st.negative;
  lines = st.lines;
  rounds = st.rounds;
  peak = max st.peak (length (nodes_of o.table));
  refuted = st.refuted;
}

placed-goes : (st : check.State) (n s : ℕ) (p : Placing) → UsesAfter n p → (written s p).full ≡ false
    → (entered st p ≡ next (entry_made st (written s p))) × UsesTo n (nodes_of (written s p).table)
unfolding written entered
placed-goes st n s (full t) u f = t≢f f
placed-goes st n s (placed t k) u f = (
  ap (λ (x : List Node). next (record {
    nodes = x;
    kept = st.kept;
    members = st.members;
    struck = st.struck;
    entries = st.entries ++ k ∷ [];
    positive = st.positive;
    negative = st.negative;
    lines = st.lines;
    rounds = st.rounds;
    peak = max st.peak (length x);
    refuted = st.refuted;
  })) (sym (nodes-indexed s t)),
  subst (UsesTo n) (sym (nodes-indexed s t)) u,
)

-- ---- the entry made

module _ (n : ℕ) (L : Lent) (st : State) (H : Held n L st) where
  abbrev T : Table
  T = table_in L st.count

  abbrev S : check.State
  S = state_of L st

  module _ (said : check.Step) (D : Diagram) (p : Placing) (o : Outcome) (made : o ≡ written (size T) p) (grown : Grown T D o)
      (uses : UsesAfter n p)
      (few : length S.entries < 4096) (said-is : said ≡ entered S p) (f : o.full ≡ false) where
    goes : (entered S p ≡ next (entry_made S o)) × UsesTo n (nodes_of o.table)
    goes =
        subst (λ (x : Outcome). (entered S p ≡ next (entry_made S x)) × UsesTo n (nodes_of x.table)) (sym made)
        (placed-goes S n (size T) p uses (sym (ap (λ (x : Outcome). x.full) made) ∙ f))

    few-here : st.entries < 4096
    few-here = few-there L st (omega (arith, H.entries.few, H.entries.room)) few

    room : st.entries < length L.scratch
    room = omega (arith, few-here, H.entries.room)

    abbrev L' : Lent
    L' = lent_with o.table L.members (set L.scratch st.entries o.node) L.struck

    held : Held n L' (state_with_entry st o.table.count (max st.peak o.table.count))
    held = record {
      entries = record {
        good = grown.good;
        uses = goes.1;
        inside = inside-more L.scratch st.entries o.node st.count o.table.count room H.entries.inside grown.more
            grown.inside;
        few = omega (arith, few-here);
        room = omega (arith, length-set L.scratch st.entries o.node, H.entries.room);
        narrow = H.entries.narrow;
      };
      least = H.least;
      kept = omega (arith, H.kept, grown.more);
      inside = H.inside;
      rest = H.rest;
      many = H.many;
      lines = H.lines;
      room = H.room;
      marked = H.marked;
      unmarked = H.unmarked;
      rounds = H.rounds;
    }

    says : next (state_of L' (state_with_entry st o.table.count (max st.peak o.table.count))) ≡ said
    says =
        ap₂ (λ (es : List ℕ) (count : ℕ). next (record {
          nodes = nodes_of o.table;
          kept = st.kept;
          members = take st.members L.members;
          struck = take st.members L.struck;
          entries = es;
          positive = st.witness.positive;
          negative = st.witness.negative;
          lines = st.lines;
          rounds = st.rounds;
          peak = max st.peak count;
          refuted = st.refuted;
        })) (one_more L.scratch st.entries o.node room) (sym (length-nodes o.table grown.good))
        ∙ sym (said-is ∙ goes.0)

    pub entry-made : (st' : State) → st' ≡ state_with_entry st o.table.count (max st.peak o.table.count) →
        Stepped n L L' st said (Next st')
    entry-made st' e = subst (λ (x : State). Stepped n L L' st said (Next x)) (sym e) (record { says = says; leaves = held })
