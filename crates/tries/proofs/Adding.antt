-- The step of an added clause: its tests, what its tries come to, and what is held once the nodes that are not kept are dropped. Assumes
-- nothing.
use Rattle.profile.specs.Admitted.{tried_as}
use mathlib.Core.Path.{◌≡◌, refl, sym, ap, ap₂, ◌∙◌, subst}
use mathlib.Core.Bool.{Bool, true, false, not, cond}
use mathlib.Core.List.{List, [], ◌∷◌}
use Prim.Native.Nat.{ℕ, suc, ◌≤◌, ◌<◌, max}
use native.Mathlib.Omega.{arith}
use lib.ListN.{length, take, set}
use borrow.Author.Tests.{le-leb, lt-leb}
use Rattle.meaning.specs.Diagram.{leaf, same}
use Rattle.meaning.specs.Reduced.{Reduced}
use Rattle.meaning.specs.Operations.{Literal, clause}
use Rattle.meaning.proofs.Booleans.{t≢f}
use Rattle.meaning.proofs.Units.{same-eq, eq-same}
use Rattle.meaning.proofs.Pointwise.{clause-reduced}
use Rattle.words.specs.declared.Literals.{Literals}
use Rattle.words.specs.Sets.{shares, literals_of}
use Rattle.table.specs.Nodes.{Node, diagram_at, Placing, full, placed, place}
use Rattle.table.specs.Indexed.{Table, size, nodes_of, Good, Outcome, written}
use Rattle.table.specs.declared.Placed.{Placed}
use Rattle.table.proofs.Numbers.{UsesTo, diagram_at-one}
use Rattle.table.proofs.Written.{nodes-indexed, count-indexed}
use Rattle.table.proofs.Outcomes.{place_in, dropped_to, Grown, longer, longer-same, undone}
use Rattle.walks.specs.Readable.{Roomy}
use Rattle.clause.specs.Words.{clause_of_words}
use Rattle.clause.proofs.Diagrams.{both-signs, not-one}
use Rattle.clause.proofs.Literals.{clause-of-words}
use Rattle.clause.proofs.Values.{made}
use Rattle.commands.specs.declared.DratClause.{DratClause}
use Rattle.commands.specs.Inner.{clause_words}
use Rattle.judge.specs.declared.Judged.{Judged}
use Rattle.judge.specs.Lines.{Negatable}
use Rattle.verdict.specs.Steps as check
use Rattle.verdict.specs.Steps.{with_entry, next, stop, spent}
use Rattle.verdict.specs.Clausal.{tries, judged_or, second_try, after_first, once_made, add_step}
use Rattle.verdict.proofs.Uses.{place-uses, uses-written}
use Rattle.state.specs.declared.State.{State}
use Rattle.state.specs.declared.Step.{Step}
use Rattle.state.specs.declared.Step.TheVariants.{Next, Stop, Spent}
use Rattle.state.specs.States.{Lent, table_in, state_of, Held, Stepped}
use Rattle.steps.specs.NextStates.{with_line}
use Rattle.steps.specs.Tried.{accepted_by, said_by, step_by, members_by}
use Rattle.entries.proofs.Stops.{stopped}
use Rattle.entries.proofs.Entering.{lent_with}
use Rattle.steps.proofs.Lines.{accepted-says, accepted-held}
use Rattle.meaning.specs.Literals.{OfVariables}
use Rattle.paths.specs.Rounds.{most_rounds}
use Rattle.tries.specs.Tries.{live_in, with_nodes, BothTried, no_room, once, twice, kept_by}
use Rattle.tries.proofs.Trying.{tries-said, both_most}

-- ---- placings

full-zero : (s : ℕ) (p : Placing) → (written s p).full ≡ true → (written s p).node ≡ 0
unfolding written
full-zero s (full t) e = refl
full-zero s (placed t k) e = t≢f (sym e)

-- ---- the clause made

abbrev pub outcome_at : Table → Placed → Outcome
outcome_at T₁ p = record { table = T₁; full = p.full; node = p.node.0 }

module _ (T : Table) (G : Good T) (u : Literals) (T₁ : Table) (p : Placed) (e : outcome_at T₁ p ≡ place_in T (clause_of_words u)) where
  pub grown : Grown T (clause_of_words u) (outcome_at T₁ p)
  grown = made T G u (outcome_at T₁ p) e

  node-not-one : shares 64 u.positive u.negative ≡ false → p.node.0 ≡ 1 → ⊥
  node-not-one apart q = go p.full refl
    where
      go : (b : Bool) → p.full ≡ b → ⊥
      go true f =
          let z : p.node.0 ≡ 0 = ap (λ (o : Outcome). o.node) e ∙ full-zero (size T) (place (size T) (nodes_of T) (clause_of_words u))
          (sym (ap (λ (o : Outcome). o.full) e) ∙ f) in
          omega arith
      go false f = not-one u apart (sym (grown.is f) ∙ ap (diagram_at (nodes_of T₁)) q ∙ diagram_at-one (nodes_of T₁))

-- what the tries ask
pub tries-ready : (L : Lent) (st : State) → Held 64 L st → (u : Literals) → shares 64 u.positive u.negative ≡ false →
    (T₁ : Table) (p : Placed)
    → outcome_at T₁ p ≡ place_in (table_in L st.count) (clause_of_words u) → (memo : List ℕ) → Roomy L.vars memo
    → Negatable T₁ (take st.members L.members) memo p.node.0
tries-ready L st H u apart T₁ p e memo room =
    let W : Grown (table_in L st.count) (clause_of_words u) (outcome_at T₁ p) = grown (table_in L st.count) H.entries.good u T₁ p e in
    record {
      ready = record {
        good = W.good;
        inside = λ i q. let b : _ < st.kept = H.inside i q in omega (arith, H.kept, W.more);
        room = omega (arith, room, W.same_size);
      };
      inside = W.inside;
      not-one = node-not-one (table_in L st.count) H.entries.good u T₁ p e apart;
    }

-- ---- the tests

-- what the tries say does not look at the entries
abbrev with_entries : check.State → List ℕ → check.State
with_entries st entries = record {
  nodes = st.nodes;
  kept = st.kept;
  members = st.members;
  struck = st.struck;
  entries = entries;
  positive = st.positive;
  negative = st.negative;
  lines = st.lines;
  rounds = st.rounds;
  peak = st.peak;
  refuted = st.refuted;
}

tries-entries : (profile : Bool) (n s : ℕ) (st : check.State) (es : List ℕ) (k : ℕ) (ls : List Literal) →
    tries profile n s (with_entries st es) k ls ≡ tries profile n s st k ls
unfolding tries judged_or after_first second_try check.judged
tries-entries true n s st es k ls = refl
tries-entries false n s st es k [] = refl
tries-entries false n s st es k (p ∷ ls) = refl

module _ (profile : Bool) (n : ℕ) (L : Lent) (st : State) (H : Held n L st) (ls : List Literal) (within : OfVariables n ls) where
  abbrev T₀ : Table
  T₀ = table_in L st.count

  abbrev S : check.State
  S = state_of L st

  abbrev u : Literals
  u = literals_of ls

  abbrev said : check.Step
  said = add_step profile n (size T₀) S ls

  words-is : clause_of_words u ≡ clause n ls
  words-is = clause-of-words n H.entries.narrow ls within

  is-22 : 1024 ≤ st.lines → said ≡ stop 22 0
  unfolding add_step
  is-22 many = rw (le-leb 1024 st.lines many)

  is-17 : st.lines < 1024 → shares 64 u.positive u.negative ≡ true → said ≡ stop 17 0
  unfolding add_step
  is-17 few e = rw (lt-leb 1024 st.lines few, eq-same (clause n ls) (leaf true) (sym words-is ∙ both-signs u e))

  pub clause-22 : 1024 ≤ st.lines → Stepped n L L st said (Stop 22 0)
  clause-22 many = stopped n L st said 22 0 (is-22 many)

  pub clause-17 : st.lines < 1024 → shares 64 u.positive u.negative ≡ true → Stepped n L L st said (Stop 17 0)
  clause-17 few e = stopped n L st said 17 0 (is-17 few e)

  -- ---- the clause is made

  module _ (few : st.lines < 1024) (apart : shares 64 u.positive u.negative ≡ false) (T₁ : Table) (p : Placed)
      (e : outcome_at T₁ p ≡ place_in T₀ (clause_of_words u)) where
    abbrev o : Outcome
    o = outcome_at T₁ p

    abbrev k : ℕ
    k = p.node.0

    W : Grown T₀ (clause_of_words u) o
    W = grown T₀ H.entries.good u T₁ p e

    different : same (clause n ls) (leaf true) ≡ false
    different = go (same (clause n ls) (leaf true)) refl
      where
        go : (b : Bool) → same (clause n ls) (leaf true) ≡ b → b ≡ false
        go true q = absurd (not-one u apart (words-is ∙ same-eq (clause n ls) (leaf true) q))
        go false q = refl

    said-is : said ≡ once_made S (place (size T₀) (nodes_of T₀) (clause n ls)) (λ st₁ k. tries profile n (size T₀) st₁ k ls)
    unfolding add_step
    said-is = rw (lt-leb 1024 st.lines few, different)

    uses : UsesTo n (nodes_of T₁)
    uses =
        subst (λ (x : Outcome). UsesTo n (nodes_of x.table)) (sym e)
        (uses-written n (size T₀) (place (size T₀) (nodes_of T₀) (clause_of_words u))
        (place-uses n (size T₀) (nodes_of T₀) (clause_of_words u) H.entries.uses
        (subst (Reduced 1 (suc n)) (sym words-is) (clause-reduced n ls))))

    -- the state with the clause's nodes is held
    abbrev L₁ : Lent
    L₁ = lent_with T₁ L.members L.scratch L.struck

    abbrev st₁ : State
    st₁ = with_nodes st T₁.count

    abbrev S₁ : check.State
    S₁ = state_of L₁ st₁

    held : Held n L₁ st₁
    held = record {
      entries = record {
        good = W.good;
        uses = uses;
        inside = λ i q. let b : _ < st.count = H.entries.inside i q in omega (arith, W.more);
        few = H.entries.few;
        room = H.entries.room;
        narrow = H.entries.narrow;
      };
      least = H.least;
      kept = omega (arith, H.kept, W.more);
      inside = H.inside;
      rest = H.rest;
      many = H.many;
      lines = H.lines;
      room = H.room;
      marked = H.marked;
      unmarked = H.unmarked;
      rounds = H.rounds;
    }

    abbrev state_with : List Node → ℕ → check.State
    state_with t peak = record {
      nodes = t;
      kept = st.kept;
      members = take st.members L.members;
      struck = take st.members L.struck;
      entries = take st.entries L.scratch;
      positive = st.witness.positive;
      negative = st.witness.negative;
      lines = st.lines;
      rounds = st.rounds;
      peak = peak;
      refuted = st.refuted;
    }

    module _ (j : Judged) (B : BothTried T₁ (live_in L.members L.struck st) (tried_as profile (clause_words ls)) p j) where
      -- what is said where the clause finds its places
      placed-said : (t : List Node) (m : ℕ) → o ≡ written (size T₀) (placed t m) → tries profile n (size T₀) (with_entry S t m) m ls
          ≡ said_by S₁ k j
      unfolding written
      placed-said t m q =
          let table : nodes_of T₁ ≡ t = ap (λ (x : Outcome). nodes_of x.table) q ∙ nodes-indexed (size T₀) t in
          let count : T₁.count ≡ length t = ap (λ (x : Outcome). x.table.count) q ∙ count-indexed (size T₀) t in
          let number : k ≡ m = ap (λ (x : Outcome). x.node) q in
          let room : p.full ≡ false = ap (λ (x : Outcome). x.full) q in
          sym (tries-entries profile n (size T₀) (with_entry S t m) (take st.entries L.scratch) m ls)
          ∙ ap (λ (x : ℕ). tries profile n (size T₀) (state_with t (max st.peak (length t))) x ls) (sym number)
          ∙ ap₂ (λ (x : List Node) (c : ℕ). tries profile n (size T₀) (state_with x (max st.peak c)) k ls) (sym table) (sym count)
          ∙ ap (λ (s : ℕ). tries profile n s S₁ k ls) (sym W.same_size)
          ∙ tries-said n L₁ st₁ held k W.inside (node-not-one T₀ H.entries.good u T₁ p e apart) profile ls within
          (W.is room ∙ words-is) p refl room j B

      -- and where it finds none
      full-said : (t : List Node) → o ≡ written (size T₀) (full t) → spent 23 (max st.peak (length t)) ≡ said_by S₁ k j
      unfolding written
      full-said t q = go B
        where
          no_other : p.full ≡ false → ⊥
          no_other f = t≢f (sym (ap (λ (x : Outcome). x.full) q) ∙ f)

          go : {i : Judged} → BothTried T₁ (live_in L.members L.struck st) (tried_as profile (clause_words ls)) p i →
              spent 23 (max st.peak (length t)) ≡ said_by S₁ k i
          go (no_room f) = ap (spent 23) (greatest st.peak (length t) T₁.count
              (ap (λ (x : Outcome). x.table.count) q ∙ count-indexed (size T₀) t))
            where
              greatest : (a b c : ℕ) → c ≡ b → max a b ≡ max (max a c) 0
              greatest a b c q = omega arith
          go (once r f W d) = absurd (no_other f)
          go (twice i r f W d Q) = absurd (no_other f)

      clause-said : said ≡ said_by S₁ k j
      clause-said = said-is ∙ go (place (size T₀) (nodes_of T₀) (clause n ls)) (e ∙ ap (place_in T₀) words-is)
        where
          go : (q : Placing) → o ≡ written (size T₀) q → once_made S q (λ st₁ k. tries profile n (size T₀) st₁ k ls) ≡ said_by S₁ k j
          go (full t) r = full-said t r
          go (placed t m) r = placed-said t m r

      -- ---- what is left

      module _ (T₂ : Table) (dropped : T₂ ≡ dropped_to (kept_by j st.count T₁.count) T₁) (cs : List ℕ) (room : 4096 ≤ length cs)
          (most : j.rounds ≤ most_rounds) where
        abbrev peak : ℕ
        peak = max (max st.peak T₁.count) j.peak

        gone : dropped_to st.count T₁ ≡ T₀
        gone = undone T₀ H.entries.good T₁ (longer T₀ (clause_of_words u) o W)

        kept : dropped_to T₁.count T₁ ≡ T₁
        kept = undone T₁ W.good T₁ (longer-same T₁ W.good)

        ended : (full shown : Bool) → T₂ ≡ dropped_to (cond full st.count (cond (not shown) st.count T₁.count)) T₁
            → Stepped n L
            (lent_with T₂ (cond full L.members (cond (not shown) L.members (set L.members st.members k))) cs L.struck) st
            (cond full (spent 23 peak) (cond (not shown) (spent 19 peak) (next (accepted_by S₁ k j.rounds peak))))
            (cond full (Spent 23 peak) (cond (not shown) (Spent 19 peak) (Next (with_line st₁ j.rounds peak k))))
        ended true shown d = record {
          says = refl;
          leaves = record {
            table = ap (λ (t : Table). table_in (lent_with t L.members cs L.struck) st.count) (d ∙ gone);
            members = refl;
            struck =
                refl;
          };
        }
        ended false false d = record {
          says = refl;
          leaves = record {
            table = ap (λ (t : Table). table_in (lent_with t L.members cs L.struck) st.count) (d ∙ gone);
            members = refl;
            struck =
                refl;
          };
        }
        ended false true d =
            subst (λ (t : Table). Stepped n L (lent_with t (set L.members st.members k) cs L.struck) st
            (next (accepted_by S₁ k j.rounds peak)) (Next (with_line st₁ j.rounds peak k))) (sym (d ∙ kept))
            (record {
              says = ap next (accepted-says n L₁ st₁ held few k W.inside j.rounds most peak cs room);
              leaves = accepted-held n L₁ st₁ held few k W.inside j.rounds most peak cs room;
            })

        -- THEOREM: a clause that was tried comes to what the definition says.
        pub clause-stepped : (st₂ : State) → st₂ ≡ st₁ → {r : Step} {ms : List ℕ} → r ≡ step_by st₂ j k → ms ≡ members_by L.members st₂ j k
            → Stepped n L (lent_with T₂ ms cs L.struck) st said r
        clause-stepped st₂ s {r} {ms} x y =
            let x₁ : r ≡ step_by st₁ j k = x ∙ ap (λ (z : State). step_by z j k) s in
            let y₁ : ms ≡ members_by L.members st₁ j k = y ∙ ap (λ (z : State). members_by L.members z j k) s in
            rw (x₁, y₁, clause-said) (ended j.full j.shown dropped)

-- ---- the code's answers

-- What the code knows of a clause once it was tried.
pub record Added (L : Lent) (st : State) (T₁ : Table) (p : Placed) (j : Judged) (c : DratClause) : Type 0 where
  pub apart : shares 64 c.literals.positive c.literals.negative ≡ false
  pub made : outcome_at T₁ p ≡ place_in (table_in L st.count) (clause_of_words c.literals)
  pub tried : BothTried T₁ (live_in L.members L.struck st) c p j

pub with-nodes : (st : State) (count peak : ℕ) → peak ≡ max st.peak count
    → record {
      count = count;
      kept = st.kept;
      members = st.members;
      entries = st.entries;
      witness = st.witness;
      lines = st.lines;
      rounds = st.rounds;
      peak = peak;
      refuted = st.refuted;
    } ≡ with_nodes st count
with-nodes st count peak e = ap (λ (x : ℕ). record {
  count = count;
  kept = st.kept;
  members = st.members;
  entries = st.entries;
  witness = st.witness;
  lines = st.lines;
  rounds = st.rounds;
  peak = x;
  refuted = st.refuted;
}) e

pub keep-fits : (j : Judged) (a b keep : ℕ) → keep ≡ kept_by j a b → 2 ≤ a → a ≤ b → (2 ≤ keep) × (keep ≤ b)
keep-fits j a b keep e two le = rw e (go j.full j.shown)
  where
    go : (full shown : Bool) → (2 ≤ cond full a (cond (not shown) a b)) × (cond full a (cond (not shown) a b) ≤ b)
    go true shown = (two, le)
    go false false = (two, le)
    go false true = (omega arith, omega arith)

module _ (profile : Bool) (n : ℕ) (L : Lent) (st : State) (H : Held n L st) (ls : List Literal) (within : OfVariables n ls) (c : DratClause)
    (is : tried_as profile (clause_words ls) ≡ c) where
  pub code-17 : st.lines < 1024 → shares 64 c.literals.positive c.literals.negative ≡ true →
      Stepped n L L st (add_step profile n (size (table_in L st.count)) (state_of L st) ls) (Stop 17 0)
  code-17 few e = clause-17 profile n L st H ls within few
      (subst (λ (x : DratClause). shares 64 x.literals.positive x.literals.negative ≡ true) (sym is) e)

  pub code-stepped : st.lines < 1024 → (T₁ : Table) (p : Placed) (j : Judged) → Added L st T₁ p j c
      → (keep : ℕ) → keep ≡ kept_by j st.count T₁.count → (T₂ T₃ : Table) → T₂ ≡ T₁ → T₃ ≡ dropped_to keep T₂ → (cs : List ℕ) →
      4096 ≤ length cs
      → (st₂ : State) → st₂ ≡ with_nodes st T₁.count → {r : Step} {ms : List ℕ} → r ≡ step_by st₂ j p.node.0 → ms
      ≡ members_by L.members st₂ j p.node.0
      → Stepped n L (lent_with T₃ ms cs L.struck) st (add_step profile n (size (table_in L st.count)) (state_of L st) ls) r
  code-stepped few T₁ p j A keep k T₂ T₃ back d cs room st₂ s x y =
      let A₁ : Added L st T₁ p j (tried_as profile (clause_words ls)) = subst (Added L st T₁ p j) (sym is) A in
      clause-stepped profile n L st H ls within few A₁.apart T₁ p A₁.made j A₁.tried T₃ (d ∙ ap₂ dropped_to k back) cs room
      (both_most T₁ (live_in L.members L.struck st) c p j A.tried) st₂ s x y
