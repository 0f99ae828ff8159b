-- Lines: their tests in order, the line at the header's variables, and what is said and held once it is judged and the table is dropped
-- back. Assumes nothing.
use mathlib.Core.Path.{◌≡◌, refl, sym, ap, ap₂, ◌∙◌, subst}
use mathlib.Core.Bool.{Bool, true, false, not, ◌||◌, cond}
use mathlib.Core.List.{List, [], ◌∷◌, ◌++◌}
use Prim.Native.Nat.{ℕ, suc, ◌+◌, ◌-◌, ◌≤◌, ◌<◌, max}
use native.Mathlib.Omega.{arith}
use lib.ListN.{length, get_or, take, set, length-set}
use lib.Dec.{eqb, leb}
use lib.Seq.{get_or-set_other, set-get_or}
use Rattle.meaning.specs.Rules.{Line, witnessed}
use Rattle.meaning.specs.Words.{in_word}
use Rattle.paths.specs.Paths.{path_count}
use Rattle.table.specs.Nodes.{Node, diagram_at}
use Rattle.table.specs.Indexed.{Table, size, nodes_of, Good}
use Rattle.walks.specs.Readable.{Roomy, nodes_in}
use Rattle.walks.specs.Constant.{one_at}
use Rattle.table.specs.Making.{reach, line_reach}
use Rattle.table.proofs.Written.{length-nodes}
use Rattle.table.proofs.Outcomes.{dropped_to, undone}
use Rattle.records.specs.declared.Rule.{Rule}
use Rattle.records.specs.declared.Rule.TheVariants.{Rup, Pr, Path}
use Rattle.verdict.specs.Steps as check
use Rattle.verdict.specs.Steps.{next, spent, is_entry, entry_node, unstruck, waiting, judged, diagram_in, line_step}
use Rattle.table.specs.Lists.{Inside}
use Rattle.table.proofs.Extended.{extended-longer}
use Rattle.judge.specs.declared.Judged.{Judged}
use Rattle.judge.specs.Lines.{Negatable, LineSays}
use Rattle.judge.proofs.Widths.{witnessed-walk, witnessed-at, rup-at, pr-at}
use Rattle.state.specs.declared.State.{State}
use Rattle.state.specs.declared.Step.{Step}
use Rattle.state.specs.declared.Step.TheVariants.{Next, Stop, Spent}
use Rattle.paths.specs.Rounds.{most_rounds}
use Rattle.steps.specs.Tried.{Tried, accepted_by, said_by, step_by, members_by}
use Rattle.steps.specs.NextStates.{with_line}
use Rattle.state.specs.States.{Lent, table_in, state_of, Held, Stepped}
use Rattle.verdict.specs.Taken.{line_of}
use Rattle.steps.specs.Tests.{line_refusal, FewPaths}
use Rattle.entries.proofs.Stops.{unless, unless-refused, unless-none, stopped}
use Rattle.steps.proofs.Stops.{line-is, LineFits, line-fits, line-paths}
use Rattle.entries.proofs.Entries.{node-is-at, entry_in}
use Rattle.steps.proofs.Strikings.{unstruck-inside}
use Rattle.steps.proofs.PathWidths.{path-at}
use borrow.Author.Tests.{lt-ltb, le-ltb}
use Rattle.entries.proofs.Entering.{lent_with, inside-more, one_more}

-- ---- a PR line's witness

-- what the code's test of the root's node says
pub shut-is : (l : Lent) (st : State) (e child : ℕ) → child ≡ get_or (0 ∷ 1 ∷ take st.entries l.scratch) e 0
    → (r b : Bool) → r ≡ one_at (nodes_in l.vars l.lows l.highs st.count) st.witness.positive st.witness.negative child →
    r ≡ b
    → witnessed 64 (in_word st.witness.positive) (in_word st.witness.negative) (diagram_in (state_of l st) (entry_node (state_of l st) e))
    ≡ b
unfolding nodes_of
shut-is l st e child is r b ensures told =
    ap (λ (k : ℕ). witnessed 64 (in_word st.witness.positive) (in_word st.witness.negative) (diagram_in (state_of l st) k))
    (node-is-at l st e ∙ sym is)
    ∙ sym (witnessed-walk (nodes_in l.vars l.lows l.highs st.count) st.witness.positive st.witness.negative child)
    ∙ sym ensures ∙ told

-- ---- a path line's paths

-- what the code's count of the root's paths says
pub paths-told : (l : Lent) (st : State) (e child : ℕ) → child ≡ get_or (0 ∷ 1 ∷ take st.entries l.scratch) e 0
    → (left : ℕ) → left ≡ 4097 - path_count (diagram_at (nodes_in l.vars l.lows l.highs st.count) child)
    → left ≡ 4097 - path_count (diagram_in (state_of l st) (entry_node (state_of l st) e))
unfolding nodes_of
paths-told l st e child is left told = told ∙ ap (λ (k : ℕ). 4097 - path_count (diagram_in (state_of l st) k))
    (sym (node-is-at l st e ∙ sym is))

-- ---- the tests of a line

module _ (n : ℕ) (st : check.State) (root : ℕ) where
  pub line-13 : (rule : Rule) → is_entry st root ≡ false → 13 ≡ line_refusal n st rule root
  unfolding line_refusal
  line-13 Rup e = rw e
  line-13 Pr e = rw e
  line-13 Path e = rw e

  module _ (entry : is_entry st root ≡ true) where
    pub rup-16 : waiting st ≡ true → 16 ≡ line_refusal n st Rup root
    unfolding line_refusal
    rup-16 w = rw (entry, w)

    module _ (none : waiting st ≡ false) where
      pub rup-22 : leb 1024 st.lines ≡ true → 22 ≡ line_refusal n st Rup root
      unfolding line_refusal
      rup-22 e = rw (entry, none, e)

      pub rup-17 : leb 1024 st.lines ≡ false → eqb (entry_node st root) 1 ≡ true → 17 ≡ line_refusal n st Rup root
      unfolding line_refusal
      rup-17 few e = rw (entry, none, few, e)

      pub rup-0 : leb 1024 st.lines ≡ false → eqb (entry_node st root) 1 ≡ false → 0 ≡ line_refusal n st Rup root
      unfolding line_refusal
      rup-0 few e = rw (entry, none, few, e)

    -- the tests of a path line
    module _ (none : waiting st ≡ false) where
      pub path-22 : leb 1024 st.lines ≡ true → 22 ≡ line_refusal n st Path root
      unfolding line_refusal
      path-22 e = rw (entry, none, e)

      module _ (few : leb 1024 st.lines ≡ false) where
        pub path-17 : eqb (entry_node st root) 1 ≡ true → 17 ≡ line_refusal n st Path root
        unfolding line_refusal
        path-17 e = rw (entry, none, few, e)

        module _ (one : eqb (entry_node st root) 1 ≡ false) where
          pub path-34 : 4096 < path_count (diagram_in st (entry_node st root)) → 34 ≡ line_refusal n st Path root
          unfolding line_refusal
          path-34 e = rw (entry, none, few, one, lt-ltb 4096 (path_count (diagram_in st (entry_node st root))) e)

          pub path-0 : path_count (diagram_in st (entry_node st root)) ≤ 4096 → 0 ≡ line_refusal n st Path root
          unfolding line_refusal
          path-0 e = rw (entry, none, few, one, le-ltb 4096 (path_count (diagram_in st (entry_node st root))) e)

    pub path-16 : waiting st ≡ true → 16 ≡ line_refusal n st Path root
    unfolding line_refusal
    path-16 w = rw (entry, w)

    pub pr-22 : leb 1024 st.lines ≡ true → 22 ≡ line_refusal n st Pr root
    unfolding line_refusal
    pr-22 e = rw (entry, e)

    module _ (few : leb 1024 st.lines ≡ false) where
      pub pr-17 : eqb (entry_node st root) 1 ≡ true → 17 ≡ line_refusal n st Pr root
      unfolding line_refusal
      pr-17 e = rw (entry, few, e)

      module _ (one : eqb (entry_node st root) 1 ≡ false) where
        abbrev shut : Bool
        shut = witnessed n (in_word st.positive) (in_word st.negative) (diagram_in st (entry_node st root))

        pub pr-18 : shut ≡ false → 18 ≡ line_refusal n st Pr root
        unfolding line_refusal
        pr-18 e = rw (entry, few, one, e)

        pub pr-0 : shut ≡ true → 0 ≡ line_refusal n st Pr root
        unfolding line_refusal
        pr-0 e = rw (entry, few, one, e)

-- ---- what judging says

-- Judging says what the line comes to.
pub judged-said : (T : Table) (st : check.State) → st.nodes ≡ nodes_of T → (g : ℕ) (line : Line) (j : Judged) → Tried T line j →
    judged (size T) st g line ≡ said_by st g j
unfolding judged
judged-said T st same g line j W =
    let at : line_reach (size T) st.nodes line ≡ reach (not j.full) j.peak = ap (λ (t : List Node). line_reach (size T) t line) same
    ∙ W.reaches in
    go j.full refl at
  where
    go : (b : Bool) → j.full ≡ b → line_reach (size T) st.nodes line ≡ reach (not b) j.peak
        → judged (size T) st g line ≡ cond b (spent 23 (max st.peak j.peak))
        (cond (not j.shown) (spent 19 (max st.peak j.peak)) (next (accepted_by st g j.rounds (max st.peak j.peak))))
    go true f e = rw e
    go false f e = rw (e, W.shown f, W.rounds f)

-- A line judged with fewer rounds at most.
pub says-most : (t : Table) (line : Line) (a b : ℕ) (r : Judged) (t' : Table) → a ≤ b → LineSays t line a r t' → LineSays t line b r t'
says-most t line a b r t' le J = record {
  extended = J.extended;
  reaches = J.reaches;
  shown = J.shown;
  rounds = J.rounds;
  most =
      omega (arith, J.most);
}

-- What judging says, once its nodes are dropped.
pub tried : (t : Table) → Good t → (line : Line) (r : Judged) (t₁ t₂ : Table) → LineSays t line most_rounds r t₁ → t₂
    ≡ dropped_to t.count t₁ →
    (t₂ ≡ t) × Tried t line r
tried t G line r t₁ t₂ J e = (
  e ∙ undone t G t₁ (extended-longer t t₁ G J.extended),
  record { reaches = J.reaches; shown = J.shown; rounds = J.rounds; most = J.most },
)

-- ---- the header's variables

-- What is held for n variables is held for 64.
pub held-64 : (n : ℕ) (L : Lent) (st : State) → Held n L st → Held 64 L st
held-64 n L st H = record {
  entries = record {
    good = H.entries.good;
    uses = λ k p q. let u : _ ≤ n = H.entries.uses k p q in omega (arith, H.entries.narrow);
    inside = H.entries.inside;
    few = H.entries.few;
    room = H.entries.room;
    narrow = omega arith;
  };
  least = H.least;
  kept = H.kept;
  inside = H.inside;
  rest = H.rest;
  many = H.many;
  lines = H.lines;
  room = H.room;
  marked = H.marked;
  unmarked = H.unmarked;
  rounds = H.rounds;
}

module _ (n : ℕ) (L : Lent) (st : State) (H : Held n L st) (rule : Rule) (root : ℕ) where
  abbrev T : Table
  T = table_in L st.count

  abbrev S : check.State
  S = state_of L st

  abbrev g : ℕ
  g = entry_node S root

  abbrev said : check.Step
  said = line_step n (size T) S rule root

  -- the members below the count
  pub members-inside : Inside st.count (take st.members L.members)
  members-inside i p = let k : get_or (take st.members L.members) i 0 < st.kept = H.inside i p in omega (arith, H.kept)

  -- those that are not struck
  abbrev live : List ℕ
  live = unstruck (take st.members L.struck) (take st.members L.members)

  live_inside : Inside st.count live
  live_inside = unstruck-inside st.count (take st.members L.struck) (take st.members L.members) members-inside

  pub root_in : is_entry S root ≡ true → g < st.count
  root_in = entry_in n L st H root

  witness-width : g < st.count → witnessed 64 (in_word st.witness.positive) (in_word st.witness.negative) (diagram_in S g)
      ≡ witnessed n (in_word st.witness.positive) (in_word st.witness.negative) (diagram_in S g)
  witness-width p =
      witnessed-at n H.entries.narrow T H.entries.good H.entries.uses (take st.members L.members) members-inside g p
      (in_word st.witness.positive) (in_word st.witness.negative)

  pr-refusal : is_entry S root ≡ true → line_refusal 64 S Pr root ≡ line_refusal n S Pr root
  unfolding line_refusal
  pr-refusal e =
      ap (λ (w : Bool). cond {A = ℕ} (not (is_entry S root)) 13 (cond (leb 1024 st.lines) 22 (cond (eqb g 1) 17 (cond (not w) 18 0))))
      (witness-width (root_in e))

  rup-refusal : line_refusal 64 S Rup root ≡ line_refusal n S Rup root
  unfolding line_refusal
  rup-refusal = refl

  path-refusal : line_refusal 64 S Path root ≡ line_refusal n S Path root
  unfolding line_refusal
  path-refusal = refl

  refusal-width : line_refusal 64 S rule root ≡ line_refusal n S rule root
  refusal-width = go rule (is_entry S root) refl
    where
      go : (r : Rule) (b : Bool) → is_entry S root ≡ b → line_refusal 64 S r root ≡ line_refusal n S r root
      go Rup b e = rup-refusal
      go Pr true e = pr-refusal e
      go Pr false e = sym (line-13 64 S root Pr e) ∙ line-13 n S root Pr e
      go Path b e = path-refusal

  line-width : (k : ℕ) → k < st.count → (k ≡ 1 → ⊥) → line_of 64 S rule k ≡ line_of n S rule k
  line-width k p ne = go rule
    where
      go : (r : Rule) → line_of 64 S r k ≡ line_of n S r k
      go Rup = rup-at n H.entries.narrow T H.entries.good H.entries.uses live live_inside k p ne
      go Pr =
          pr-at n H.entries.narrow T H.entries.good H.entries.uses live live_inside k p ne (in_word st.witness.positive)
          (in_word st.witness.negative)
      go Path = path-at n H.entries.narrow T H.entries.good H.entries.uses live live_inside k

  pub line_refused : (number : ℕ) → number ≡ line_refusal 64 S rule root → (number ≡ 0 → ⊥) → Stepped n L L st said (Stop number 0)
  line_refused number e ne =
      stopped n L st said number 0 (line-is n (size T) S rule root ∙ ap (λ (k : ℕ). unless k (judged (size T) S g (line_of n S rule g)))
      (sym (e ∙ refusal-width)) ∙ unless-refused number _ ne)

  -- ---- the line is judged, k being its root's node

  module _ (none : line_refusal 64 S rule root ≡ 0) (k : ℕ) (is : k ≡ g) where
    fits : LineFits S root
    fits = line-fits 64 S rule root none

    pub k-in : k < st.count
    k-in = subst (λ (x : ℕ). x < st.count) (sym is) (root_in fits.entry)

    pub not-one : k ≡ 1 → ⊥
    not-one e = fits.not-one (sym is ∙ e)

    said-is : said ≡ judged (size T) S k (line_of 64 S rule k)
    said-is =
        line-is n (size T) S rule root ∙ unless-none (line_refusal n S rule root) _ (sym refusal-width ∙ none)
        ∙ ap (λ (x : ℕ). judged (size T) S x (line_of n S rule x)) (sym is) ∙ ap (judged (size T) S k) (sym (line-width k k-in not-one))

    pub line-ready : (memo : List ℕ) → Roomy T.vars memo → Negatable T (take st.members L.members) memo k
    line-ready memo room = record {
      ready = record { good = H.entries.good; inside = members-inside; room = room };
      inside =
          k-in;
      not-one = not-one;
    }

    pub few-paths : FewPaths rule (diagram_at (nodes_of T) k)
    few-paths = subst (λ (x : ℕ). FewPaths rule (diagram_at (nodes_of T) x)) (sym is) (line-paths 64 S rule root none)

    pub few-members : st.members < 2048
    few-members = omega (arith, H.many, fits.few)

    pub line-said : (j : Judged) → Tried T (line_of 64 S rule k) j → said ≡ said_by S k j
    line-said j W = said-is ∙ judged-said T S refl k (line_of 64 S rule k) j W

-- ---- a judged line is refused, or its root is the next member

module _ (n : ℕ) (L : Lent) (st : State) (H : Held n L st) (few : st.lines < 1024) (k : ℕ) (k-in : k < st.count) (rounds : ℕ)
    (most : rounds ≤ most_rounds) (peak : ℕ)
    (cs : List ℕ) (room : 4096 ≤ length cs) where
  abbrev st' : State
  st' = with_line st rounds peak k

  abbrev L' : Lent
  L' = lent_with (table_in L st.count) (set L.members st.members k) cs L.struck

  abbrev state_with : ℕ → List ℕ → List ℕ → ℕ → check.State
  state_with kept ms ss lines = record {
    nodes = nodes_of (table_in L st.count);
    kept = kept;
    members = ms;
    struck = ss;
    entries = [];
    positive = 0;
    negative = 0;
    lines = lines;
    rounds = st.rounds + rounds;
    peak = peak;
    refuted = st.refuted || eqb k 0;
  }

  member-room : st.members < length L.members
  member-room = omega (arith, H.many, few, H.room)

  -- the new member's mark is there already
  mark-more : take (st.members + 1) L.struck ≡ take st.members L.struck ++ 0 ∷ []
  mark-more =
      ap (λ (ss : List ℕ). take (st.members + 1) ss)
      (sym (set-get_or L.struck st.members 0) ∙ ap (set L.struck st.members) (H.unmarked st.members (omega arith)))
      ∙ one_more L.struck st.members 0 (omega (arith, member-room, H.marked))

  pub accepted-says : state_of L' st' ≡ accepted_by (state_of L st) k rounds peak
  accepted-says =
      let one : st.lines + 1 ≡ suc st.lines = omega arith in
      ap₂ (λ (kept : ℕ) (ms : List ℕ). state_with kept ms (take (st.members + 1) L.struck) (st.lines + 1))
      (sym (length-nodes (table_in L st.count) H.entries.good)) (one_more L.members st.members k member-room)
      ∙ ap₂ (λ (ss : List ℕ) (lines : ℕ). state_with (length (nodes_of (table_in L st.count))) (take st.members L.members ++ k ∷ [])
      ss lines) mark-more one

  pub accepted-held : Held n L' st'
  accepted-held = record {
    entries = record {
      good = H.entries.good;
      uses = H.entries.uses;
      inside = λ i p. absurd (omega arith);
      few = omega arith;
      room = room;
      narrow = H.entries.narrow;
    };
    least = H.entries.good.least;
    kept = omega arith;
    inside = inside-more L.members st.members k st.kept st.count member-room H.inside H.kept k-in;
    rest = λ i p. get_or-set_other L.members st.members i k 0 (λ e. absurd (omega arith)) ∙ H.rest i (omega arith);
    many = omega (arith, H.many);
    lines = omega (arith, few);
    room = omega (arith, length-set L.members st.members k, H.room);
    marked = H.marked ∙ sym (length-set L.members st.members k);
    unmarked = λ i p. H.unmarked i (omega arith);
    rounds = omega (arith, H.rounds, most);
  }

module _ (n : ℕ) (L : Lent) (st : State) (H : Held n L st) (few : st.lines < 1024) (k : ℕ) (k-in : k < st.count) (j : Judged)
    (most : j.rounds ≤ most_rounds)
    (T₂ : Table) (back : T₂ ≡ table_in L st.count) (cs : List ℕ) (room : 4096 ≤ length cs) where
  -- THEOREM: where judging leaves the table as it was, what the line comes to is the definition's.
  pub line-ended : Stepped n L (lent_with T₂ (members_by L.members st j k) cs L.struck) st (said_by (state_of L st) k j) (step_by st j k)
  line-ended = subst (λ (t : Table). Stepped n L (lent_with t (members_by L.members st j k) cs L.struck) st (said_by (state_of L st) k j)
      (step_by st j k)) (sym back) (go j.full j.shown)
    where
      peak : ℕ
      peak = max st.peak j.peak

      go : (full shown : Bool)
          → Stepped n L
          (lent_with (table_in L st.count) (cond full L.members (cond (not shown) L.members (set L.members st.members k))) cs
          L.struck) st
          (cond full (spent 23 peak) (cond (not shown) (spent 19 peak) (next (accepted_by (state_of L st) k j.rounds peak))))
          (cond full (Spent 23 peak) (cond (not shown) (Spent 19 peak) (Next (with_line st j.rounds peak k))))
      go true shown = record { says = refl; leaves = record { table = refl; members = refl; struck = refl } }
      go false false = record { says = refl; leaves = record { table = refl; members = refl; struck = refl } }
      go false true = record {
        says = ap next (accepted-says n L st H few k k-in j.rounds most peak cs room);
        leaves = accepted-held n L st H few k k-in j.rounds most peak cs room;
      }

-- ---- the ways out of a judged line

module _ (members : List ℕ) (st : State) (j : Judged) (g peak : ℕ) (greatest : peak ≡ max st.peak j.peak) where
  pub ended-23 : j.full ≡ true → (Spent 23 peak ≡ step_by st j g) × (members ≡ members_by members st j g)
  ended-23 f = (rw (greatest, f), rw f)

  pub ended-19 : j.full ≡ false → j.shown ≡ false → (Spent 19 peak ≡ step_by st j g) × (members ≡ members_by members st j g)
  ended-19 f e = (rw (greatest, f, e), rw (f, e))

  pub ended-next : j.full ≡ false → j.shown ≡ true → (st' : State) → st' ≡ with_line st j.rounds peak g
      → (Next st' ≡ step_by st j g) × (set members st.members g ≡ members_by members st j g)
  ended-next f e st' is = (ap Next is ∙ rw (greatest, f, e), rw (f, e))

module _ (n : ℕ) (L : Lent) (st : State) (H : Held n L st) (rule : Rule) (root : ℕ) (none : line_refusal 64 (state_of L st) rule root ≡ 0)
    (k : ℕ) (is : k ≡ entry_node (state_of L st) root) where
  -- a line that was tried
  pub line-stepped : (j : Judged) → Tried (table_in L st.count) (line_of 64 (state_of L st) rule k) j → (T₂ : Table) → T₂
      ≡ table_in L st.count → (cs : List ℕ) → 4096 ≤ length cs
      → {r : Step} {ms : List ℕ} → r ≡ step_by st j k → ms ≡ members_by L.members st j k
      → Stepped n L (lent_with T₂ ms cs L.struck) st (line_step n (size (table_in L st.count)) (state_of L st) rule root) r
  line-stepped j W T₂ back cs room {r} {ms} e f =
      let few : st.lines < 1024 = (line-fits 64 (state_of L st) rule root none).few in
      rw (e, f, line-said n L st H rule root none k is j W)
      (line-ended n L st H few k (k-in n L st H rule root none k is) j W.most T₂ back cs room)
