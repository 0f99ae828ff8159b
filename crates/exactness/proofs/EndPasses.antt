-- The peak that the call reports is the greatest count that its run passed through, the command that ended it included. The idea: the run's
-- own, and what that
-- command made before it was refused. Assumes nothing.
use mathlib.Core.Path.{◌≡◌, refl, sym, ap, ◌∙◌, subst}
use mathlib.Core.Logic.{◌⊎◌, inl, inr}
use mathlib.Core.Bool.{Bool, true, false, not, cond}
use mathlib.Core.List.{List, [], ◌∷◌}
use mathlib.Core.Option.{Option, none, some}
use Prim.Native.Nat.{ℕ, ◌+◌, ◌<◌, max}
use native.Mathlib.Omega.{arith}
use lib.ListN.{length, get_or-eq_default}
use borrow.Author.Tests.{ltb-false}
use Rattle.meaning.specs.Diagram.{Diagram, branch}
use Rattle.meaning.specs.Operations as meaning
use Rattle.meaning.specs.Rules.{Line}
use Rattle.meaning.proofs.Booleans.{t≢f}
use Rattle.table.specs.Nodes.{Node, Placing, full, placed, put, place}
use Rattle.table.specs.Making.{Room, short, reached, placed_all, line_reach}
use Rattle.table.proofs.Placing.{put-place}
use Rattle.table.proofs.PlacedAll.{nodes_after}
use Rattle.records.specs.declared.Rule.TheVariants.{Rup, Pr, Path}
use Rattle.records.specs.declared.Record.{Record}
use Rattle.records.specs.declared.Record.TheVariants.{NodeEntry, Witness, ProofLine, Strike, SetEntry, End, CutShort, UnknownKind}
use Rattle.records.specs.declared.Record.TheVariants.{NoRecord}
use Rattle.commands.specs.Commands.{Command, recorded, added, struck_out, wrong, finished}
use Rattle.verdict.specs.Steps.{State, Step, next, stop, spent, with_entry, entered, is_entry, entry_node, numbered, judged, accepted}
use Rattle.verdict.specs.Steps.{live_members, diagram_in, set_diagram}
use Rattle.verdict.specs.Clausal.{with_peak, judged_or, second_line, second_try, after_first, tries, once_made, first_same}
use Rattle.verdict.specs.Check.{step, Verdict, CheckOutcome, outcome, left}
use Rattle.verdict.specs.Taken.{Meant, line_of}
use Rattle.verdict.specs.ClauseTaken.{first_line}
use Rattle.verdict.specs.Run.{command_in, Ended, stopped, tried}
use Rattle.verdict.proofs.Standing.{Standing, entry-valued}
use Rattle.verdict.proofs.Ends.{reached-standing}
use Rattle.demands.specs.Leaving.{Handed, checked, Fits, places, at_place, EndsWith, AtEnd}
use Rattle.demands.proofs.Ending.{check-exactly}
use Rattle.exactness.specs.Passing.{Passes, LinePasses, Greatest}
use Rattle.exactness.specs.Refusals.{Test, refusals}
use Rattle.exactness.specs.RunPasses.{RunPasses}
use Rattle.exactness.specs.EndPasses.{AddedPasses, in-clause, in-first, in-second, EndPasses}
use Rattle.exactness.proofs.Passing.{placed-peak, line-peak}
use Rattle.exactness.proofs.RunPasses.{greater, all-peak, run-peak}
use Rattle.exactness.proofs.Nodes.{one_placed}
use Rattle.exactness.proofs.Refusals.{chain, record-proceeds, struck-proceeds, proceeds, command-is}

-- ---- steps

abbrev pub peak_in : Step → ℕ
peak_in (next st) = 0
peak_in (stop number offset) = 0
peak_in (spent number peak) = peak

abbrev IsSpent : Step → Type 0
IsSpent (next st) = ⊥
IsSpent (stop number offset) = ⊥
IsSpent (spent number peak) = Unit {0}

pub next-not : {A : Type 0} {st : State} {k p : ℕ} → next st ≡ spent k p → A
next-not e = absurd (subst IsSpent (sym e) tt)

-- what is refused once nodes were made passed every test
pub chain-spent : (ts : List Test) (last : Step) (k p : ℕ) → chain ts last ≡ spent k p → last ≡ spent k p
chain-spent [] last k p e = e
chain-spent (t ∷ ts) last k p e = go t.holds e (chain-spent ts last k p)
  where
    go : (b : Bool) → cond b (stop t.number t.offset) (chain ts last) ≡ spent k p → (chain ts last ≡ spent k p → last ≡ spent k p) →
        last ≡ spent k p
    go true q rec = absurd (subst IsSpent (sym q) tt)
    go false q rec = rec q

mapped : (P Q : ℕ → Type 0) (a : ℕ) → ((k : ℕ) → P k → Q k) → ((k : ℕ) → Q k → P k) → Greatest P a → Greatest Q a
mapped P Q a to from G = record { is = to a G.is; most = λ j q. G.most j (from j q) }

-- a diagram that finds no room
none-placed : (s : ℕ) (t : List Node) (D : Diagram) (t₁ : List Node) → place s t D ≡ full t₁ → placed_all s t (D ∷ []) ≡ short t₁
unfolding placed_all
none-placed s t D t₁ e = rw e

short-peak : (s : ℕ) (t : List Node) (D : Diagram) (t₁ : List Node) → place s t D ≡ full t₁ → Greatest (Passes s t (D ∷ [])) (length t₁)
short-peak s t D t₁ e = subst (Greatest (Passes s t (D ∷ []))) (ap (λ (r : Room). (reached r).peak) (none-placed s t D t₁ e))
    (placed-peak s t (D ∷ []))

judged-spent : (s : ℕ) (st : State) (g : ℕ) (line : Line) (k p : ℕ) → judged s st g line ≡ spent k p → p
    ≡ max st.peak (line_reach s st.nodes line).peak
unfolding judged
judged-spent s st g line k p e = go (not (line_reach s st.nodes line).fits) (not line.shown) e
  where
    go : (b c : Bool) → cond b (spent 23 (max st.peak (line_reach s st.nodes line).peak))
        (cond c (spent 19 (max st.peak (line_reach s st.nodes line).peak))
        (next (accepted st g line (max st.peak (line_reach s st.nodes line).peak)))) ≡ spent k p
        → p ≡ max st.peak (line_reach s st.nodes line).peak
    go true c q = sym (ap peak_in q)
    go false true q = sym (ap peak_in q)
    go false false q = next-not q

-- ---- the command that ends the run

module _ (profile : Bool) {s n : ℕ} {m : Meant} {st : State} (S : Standing s n m st) (P : ℕ → Type 0) (G : Greatest P st.peak) where
  entry_in : (e : ℕ) → entry_node st e < length st.nodes
  unfolding is_entry entry_node
  entry_in e = go (is_entry st e) refl
    where
      go : (b : Bool) → is_entry st e ≡ b → entry_node st e < length st.nodes
      go true is = (entry-valued S e is).0
      go false is = let z : entry_node st e ≡ 0 = get_or-eq_default (numbered st) 0 {n = e} (ltb-false e (length (numbered st)) is) in
          omega (arith, S.ordered.two)

  entered-ends : (D : Diagram) (q : Placing) → place s st.nodes D ≡ q → (number peak : ℕ) → entered st q ≡ spent number peak →
      Greatest (λ k. P k ⊎ Passes s st.nodes (D ∷ []) k) peak
  unfolding entered
  entered-ends D (full t) e number peak q =
      subst (Greatest (λ k. P k ⊎ Passes s st.nodes (D ∷ []) k)) (ap peak_in q)
      (greater P (Passes s st.nodes (D ∷ [])) st.peak (length t) G (short-peak s st.nodes D t e))
  entered-ends D (placed t k) e number peak q = next-not q

  line-ends : (g : ℕ) (line : Line) (number peak : ℕ) → judged s st g line ≡ spent number peak →
      Greatest (λ k. P k ⊎ LinePasses s st.nodes line k) peak
  line-ends g line number peak q =
      subst (Greatest (λ k. P k ⊎ LinePasses s st.nodes line k)) (sym (judged-spent s st g line number peak q))
      (greater P (LinePasses s st.nodes line) st.peak (line_reach s st.nodes line).peak G (line-peak s st.nodes line))

  record-ends : (more : Bool) (r : Record) (number peak : ℕ) → record-proceeds n s st more r ≡ spent number peak →
      Greatest (λ k. P k ⊎ EndPasses profile n s st (recorded r more) k) peak
  record-ends more (NodeEntry b) number peak q =
      let low = entry_node st b.low.0 in
      let high = entry_node st b.high.0 in
      entered-ends (branch b.variable (diagram_in st low) (diagram_in st high)) (put s st.nodes b.variable low high)
      (sym (put-place s st.nodes S.ordered b.variable low high (entry_in b.low.0) (entry_in b.high.0))) number peak q
  record-ends more (SetEntry kind b) number peak q = entered-ends (set_diagram n kind b) (place s st.nodes (set_diagram n kind b)) refl
      number peak q
  record-ends more (ProofLine Rup root) number peak q = line-ends (entry_node st root.0) (line_of n st Rup (entry_node st root.0)) number
      peak q
  record-ends more (ProofLine Pr root) number peak q = line-ends (entry_node st root.0) (line_of n st Pr (entry_node st root.0)) number
      peak q
  record-ends more (ProofLine Path root) number peak q = line-ends (entry_node st root.0) (line_of n st Path (entry_node st root.0))
      number peak q
  record-ends more (Witness v b) number peak q = next-not q
  record-ends more (Strike k) number peak q = next-not q
  record-ends more End number peak q = next-not q
  record-ends more CutShort number peak q = next-not q
  record-ends more UnknownKind number peak q = next-not q
  record-ends more NoRecord number peak q = next-not q

-- ---- an added clause

-- a second try that ends the run: there is none, or it is judged
second-by : {Q : ℕ → Type 0} (profile : Bool) (n s : ℕ) (st : State) (j : ℕ) (cs : List meaning.Literal) (before number peak : ℕ)
    → after_first profile n s st j cs before ≡ spent number peak → (profile ≡ true → Greatest Q before) → (cs ≡ [] → Greatest Q before)
    → ((p : meaning.Literal) (rest : List meaning.Literal) → profile ≡ false → cs ≡ p ∷ rest
    → Greatest Q (max before (line_reach s st.nodes (second_line n (live_members st) p rest)).peak)) → Greatest Q peak
unfolding after_first second_try
second-by {Q} true n s st j cs before number peak q shut lacks has = subst (Greatest Q) (ap peak_in q) (shut refl)
second-by {Q} false n s st j [] before number peak q shut lacks has = subst (Greatest Q) (ap peak_in q) (lacks refl)
second-by {Q} false n s st j (p ∷ rest) before number peak q shut lacks has =
    subst (Greatest Q) (sym (judged-spent s (with_peak st before) j (second_line n (live_members st) p rest) number peak q))
    (has p rest refl refl)

abbrev is_full : Placing → Bool
is_full (full t) = true
is_full (placed t k) = false

full-not : {A : Type 0} {t t₁ : List Node} {k : ℕ} (q : Placing) → q ≡ full t → q ≡ placed t₁ k → A
full-not q e f = t≢f (sym (ap is_full e) ∙ ap is_full f)

abbrev number_of : Placing → ℕ
number_of (full t) = 0
number_of (placed t k) = k

abbrev IsEmpty : {A : Type 0} → List A → Type 0
IsEmpty [] = Unit {0}
IsEmpty (x ∷ xs) = ⊥

module _ (profile : Bool) {s n : ℕ} {m : Meant} {st : State} (S : Standing s n m st) (P : ℕ → Type 0) (G : Greatest P st.peak)
    (ls : List meaning.Literal) where
  abbrev D : Diagram
  D = meaning.clause n ls

  abbrev C : ℕ → Type 0
  C = Passes s st.nodes (D ∷ [])

  clause-ends : (t : List Node) → place s st.nodes D ≡ full t → Greatest (λ k. P k ⊎ AddedPasses profile n s st ls k)
      (max st.peak (length t))
  clause-ends t e = mapped (λ k. P k ⊎ C k) (λ k. P k ⊎ AddedPasses profile n s st ls k) (max st.peak (length t)) to from
      (greater P C st.peak (length t) G (short-peak s st.nodes D t e))
    where
      to : (k : ℕ) → P k ⊎ C k → P k ⊎ AddedPasses profile n s st ls k
      to k (inl p) = inl p
      to k (inr c) = inr (in-clause c)

      from : (k : ℕ) → P k ⊎ AddedPasses profile n s st ls k → P k ⊎ C k
      from k (inl p) = inl p
      from k (inr (in-clause c)) = inr c
      from k (inr (in-first f c)) = full-not (place s st.nodes D) e f
      from k (inr (in-second w l f a b c)) = full-not (place s st.nodes D) e f

  module _ (t : List Node) (j : ℕ) (e : place s st.nodes D ≡ placed t j) where
    abbrev st₁ : State
    st₁ = with_entry st t j

    abbrev first : Line
    first = first_line n st₁ ls

    abbrev F : ℕ → Type 0
    F = LinePasses s t first

    abbrev p₁ : ℕ
    p₁ = max (max st.peak (length t)) (line_reach s t first).peak

    to-here : {t₂ : List Node} {i : ℕ} → place s st.nodes D ≡ placed t₂ i → (t₂ ≡ t) × (i ≡ j)
    to-here f = (ap nodes_after (sym f ∙ e), ap number_of (sym f ∙ e))

    first-here : {t₂ : List Node} {i k : ℕ} → place s st.nodes D ≡ placed t₂ i → LinePasses s t₂ (first_line n (with_entry st t₂ i) ls) k →
        F k
    first-here {t₂} {i} {k} f c =
        let (a, b) = to-here f in
        subst (λ (y : ℕ). LinePasses s t (first_line n (with_entry st t y) ls) k) b
        (subst (λ (x : List Node). LinePasses s x (first_line n (with_entry st x i) ls) k) a c)

    both : Greatest (λ k. (P k ⊎ C k) ⊎ F k) p₁
    both = greater (λ k. P k ⊎ C k) F (max st.peak (length t)) (line_reach s t first).peak
        (greater P C st.peak (length t) G (all-peak s st.nodes (D ∷ []) t (one_placed s st.nodes D t j e))) (line-peak s t first)

    -- no second try, since the first has no room, or the clause is empty
    first_ends : ((t₂ : List Node) (i : ℕ) (p : meaning.Literal) (rest : List meaning.Literal) → profile ≡ false → ls ≡ p ∷ rest →
        place s st.nodes D ≡ placed t₂ i
        → (line_reach s t₂ (first_line n (with_entry st t₂ i) ls)).fits ≡ true → ⊥) →
        Greatest (λ k. P k ⊎ AddedPasses profile n s st ls k) p₁
    first_ends no_second = mapped (λ k. (P k ⊎ C k) ⊎ F k) (λ k. P k ⊎ AddedPasses profile n s st ls k) p₁ to from both
      where
        to : (k : ℕ) → (P k ⊎ C k) ⊎ F k → P k ⊎ AddedPasses profile n s st ls k
        to k (inl (inl p)) = inl p
        to k (inl (inr c)) = inr (in-clause c)
        to k (inr f) = inr (in-first e f)

        from : (k : ℕ) → P k ⊎ AddedPasses profile n s st ls k → (P k ⊎ C k) ⊎ F k
        from k (inl p) = inl (inl p)
        from k (inr (in-clause c)) = inl (inr c)
        from k (inr (in-first f c)) = inr (first-here f c)
        from k (inr (in-second {t = t₂} {j = i} {p = p} {rest = rest} w l f a b c)) = absurd (no_second t₂ i p rest w l f a)

    -- the first try failed, and the second ends the run
    module _ (p : meaning.Literal) (rest : List meaning.Literal) (wide : profile ≡ false) (is : ls ≡ p ∷ rest)
        (fits : (line_reach s t first).fits ≡ true) (failed : first.shown ≡ false) where
      abbrev second : Line
      second = second_line n (live_members st₁) p rest

      second-ends : Greatest (λ k. P k ⊎ AddedPasses profile n s st ls k) (max p₁ (line_reach s t second).peak)
      second-ends = mapped (λ k. ((P k ⊎ C k) ⊎ F k) ⊎ LinePasses s t second k) (λ k. P k ⊎ AddedPasses profile n s st ls k)
          (max p₁ (line_reach s t second).peak) to from
          (greater (λ k. (P k ⊎ C k) ⊎ F k) (LinePasses s t second) p₁ (line_reach s t second).peak both (line-peak s t second))
        where
          to : (k : ℕ) → ((P k ⊎ C k) ⊎ F k) ⊎ LinePasses s t second k → P k ⊎ AddedPasses profile n s st ls k
          to k (inl (inl (inl x))) = inl x
          to k (inl (inl (inr c))) = inr (in-clause c)
          to k (inl (inr f)) = inr (in-first e f)
          to k (inr g) = inr (in-second wide is e fits failed g)

          from : (k : ℕ) → P k ⊎ AddedPasses profile n s st ls k → ((P k ⊎ C k) ⊎ F k) ⊎ LinePasses s t second k
          from k (inl x) = inl (inl (inl x))
          from k (inr (in-clause c)) = inl (inl (inr c))
          from k (inr (in-first f c)) = inl (inr (first-here f c))
          from k (inr (in-second {t = t₂} {j = i} {p = q} {rest = r} w l f a b c)) =
              let (x, y) = to-here f in
              let same : q ∷ r ≡ p ∷ rest = sym l ∙ is in
              inr (subst (λ (z : List meaning.Literal). SecondPasses z k) same
              (subst (λ (z : ℕ). LinePasses s t (second_line n (live_members (with_entry st t z)) q r) k) y
              (subst (λ (z : List Node). LinePasses s z (second_line n (live_members (with_entry st z i)) q r) k) x c)))
            where
              SecondPasses : List meaning.Literal → ℕ → Type 0
              SecondPasses [] k = ⊥
              SecondPasses (q ∷ r) k = LinePasses s t (second_line n (live_members st₁) q r) k

    -- the tries
    tries-ends : (number peak : ℕ) → tries profile n s st₁ j ls ≡ spent number peak →
        Greatest (λ k. P k ⊎ AddedPasses profile n s st ls k) peak
    unfolding tries judged_or
    tries-ends number peak q = go (line_reach s t first).fits refl first.shown refl q
      where
        no_room : (line_reach s t first).fits ≡ false → (t₂ : List Node) (i : ℕ) (p : meaning.Literal) (rest : List meaning.Literal) →
            profile
            ≡ false → ls ≡ p ∷ rest
            → place s st.nodes D ≡ placed t₂ i → (line_reach s t₂ (first_line n (with_entry st t₂ i) ls)).fits ≡ true → ⊥
        no_room is t₂ i p rest w l f a =
            let (x, y) = to-here f in
            t≢f (sym (subst (λ (z : ℕ). (line_reach s t (first_line n (with_entry st t z) ls)).fits ≡ true) y
            (subst (λ (z : List Node). (line_reach s z (first_line n (with_entry st z i) ls)).fits ≡ true) x a)) ∙ is)

        second : (cs : List meaning.Literal) → ls ≡ cs → (line_reach s t first).fits ≡ true → first.shown ≡ false →
            after_first profile n s st₁ j cs p₁ ≡ spent number peak
            → Greatest (λ k. P k ⊎ AddedPasses profile n s st ls k) peak
        second cs is fits failed q = second-by profile n s st₁ j cs p₁ number peak q
            (λ shut. first_ends (λ t₂ i p rest w l f a. t≢f (sym shut ∙ w)))
            (λ nothing. first_ends (λ t₂ i p rest w l f a. subst IsEmpty (sym nothing ∙ sym is ∙ l) tt))
            (λ p rest wide made. second-ends p rest wide (is ∙ made) fits failed)

        go : (b : Bool) → (line_reach s t first).fits ≡ b → (c : Bool) → first.shown ≡ c
            → cond (not b) (spent 23 p₁) (cond (not c) (after_first profile n s st₁ j ls p₁) (next (accepted st₁ j first p₁)))
            ≡ spent number peak → Greatest (λ k. P k ⊎ AddedPasses profile n s st ls k) peak
        go false is c _ q = subst (Greatest (λ k. P k ⊎ AddedPasses profile n s st ls k)) (ap peak_in q) (first_ends (no_room is))
        go true fits false failed q = second ls refl fits failed q
        go true fits true shown q = next-not q

  added-ends : (q : Placing) → place s st.nodes D ≡ q → (number peak : ℕ) → once_made st q (λ st₂ k. tries profile n s st₂ k ls)
      ≡ spent number peak → Greatest (λ k. P k ⊎ AddedPasses profile n s st ls k) peak
  added-ends (full t) e number peak q = subst (Greatest (λ k. P k ⊎ AddedPasses profile n s st ls k)) (ap peak_in q) (clause-ends t e)
  added-ends (placed t j) e number peak q = tries-ends t j e number peak q

struck-not : {A : Type 0} (profile : Bool) (n s : ℕ) (st : State) (x : Option ℕ) (number peak : ℕ) → struck-proceeds profile n s st x
    ≡ spent number peak → A
struck-not profile n s st none number peak q = next-not q
struck-not profile n s st (some i) number peak q = next-not q

-- a command that is refused once it made nodes
command-ends : (profile : Bool) {s n : ℕ} {m : Meant} {st : State} → Standing s n m st → (P : ℕ → Type 0) → Greatest P st.peak
    → (c : Command) (number peak : ℕ) → step profile n s st c ≡ spent number peak → Greatest (λ k. P k ⊎ EndPasses profile n s st c k) peak
command-ends profile {s} {n} {m} {st} S P G c number peak e =
    go c (chain-spent (refusals profile n st c) (proceeds profile n s st c) number peak (sym (command-is profile n s st c) ∙ e))
  where
    go : (c : Command) → proceeds profile n s st c ≡ spent number peak → Greatest (λ k. P k ⊎ EndPasses profile n s st c k) peak
    go (recorded r more) q = record-ends profile S P G more r number peak q
    go (added ls) q = added-ends profile S P G ls (place s st.nodes (meaning.clause n ls)) refl number peak q
    go (struck_out ls) q = struck-not profile n s st (first_same (length st.members) st 0 (meaning.clause n ls)) number peak q
    go (wrong k o) q = next-not q
    go finished q = next-not q

-- ---- of the call

-- "the check shall report the greatest count reached, dropped nodes included. On a refusal that count covers all that was placed before":
-- the peak is a count that
-- the run passes through, the command at which it ends included where it made nodes, and none is greater.
module _ (i : Handed) (fits : Fits i) (E : AtEnd i (checked i)) where
  abbrev at-end : Command
  at-end = command_in i.mode i.proof E.n E.at

  abbrev Last : Step → ℕ → Type 0
  Last (next st) k = ⊥
  Last (stop number offset) k = ⊥
  Last (spent number peak) k = EndPasses i.mode.consequence E.n (places i) E.state at-end k

  pub check-peak : Greatest (λ k. RunPasses E.reached k ⊎ Last (step i.mode.consequence E.n (places i) E.state at-end) k)
      (checked i).peak
  unfolding outcome
  check-peak = go (step i.mode.consequence E.n (places i) E.state at-end) refl E.says
    where
      is : (v : Verdict) → Ended i.mode (places i) i.text i.proof v → checked i
          ≡ outcome (places i) (length i.members) (length i.scratch) v
      is v D = (check-exactly i (outcome (places i) (length i.members) (length i.scratch) v)).1 (at_place fits D)

      alone : Greatest (λ k. RunPasses E.reached k ⊎ ⊥) E.state.peak
      alone = mapped (λ k. RunPasses E.reached k) (λ k. RunPasses E.reached k ⊎ ⊥) E.state.peak (λ k r. inl r) (λ k x. from k x)
          (run-peak E.reached)
        where
          from : (k : ℕ) → RunPasses E.reached k ⊎ ⊥ → RunPasses E.reached k
          from k (inl r) = r
          from k (inr x) = absurd x

      go : (x : Step) → step i.mode.consequence E.n (places i) E.state at-end ≡ x → EndsWith x (checked i).number E.offset
          → Greatest (λ k. RunPasses E.reached k ⊎ Last x k) (checked i).peak
      go (next st) e says = absurd says
      go (stop k o) e says =
          subst (Greatest (λ k. RunPasses E.reached k ⊎ ⊥))
          (sym (ap (λ (o : CheckOutcome). o.peak) (is (left k (E.at + o) E.state.peak E.state) (stopped E.reached e))))
          alone
      go (spent k peak) e says =
          subst (Greatest (λ k. RunPasses E.reached k ⊎ EndPasses i.mode.consequence E.n (places i) E.state at-end k))
          (sym (ap (λ (o : CheckOutcome). o.peak) (is (left k E.at peak E.state) (tried E.reached e))))
          (command-ends i.mode.consequence (reached-standing i.mode (places i) i.text i.proof E.reached).1
          (λ k. RunPasses E.reached k) (run-peak E.reached) at-end k peak e)
