-- A clause that a text adds is taken exactly where it passes what `ClauseTaken` names; it keeps what holds in every state, and an
-- assignment for the live members gives one for them and the clause. The idea: `rup-sound` for the first try, `pr-sound` for the second,
-- whose witness makes the clause 1 by its pivot. Assumes nothing.
use mathlib.Core.Path.{◌≡◌, refl, sym, ap, ap₂, ◌∙◌, subst}
use mathlib.Core.Logic.{inl, inr, ◌↔◌}
use mathlib.Core.Bool.{Bool, true, false, not, cond}
use mathlib.Core.List.{List, [], ◌∷◌, ◌++◌, map}
use Prim.Native.Nat.{ℕ, suc, ◌+◌, ◌≤◌, ◌<◌, max}
use native.Mathlib.Omega.{arith}
use lib.ListN.{length, length-append}
use lib.Dec.{leb}
use borrow.Author.Tests.{leb-false, lt-leb}
use Rattle.meaning.specs.Diagram.{Assignment, Diagram, leaf, same, value}
use Rattle.meaning.specs.Operations as meaning
use Rattle.meaning.specs.Rules.{Line}
use Rattle.meaning.proofs.Values.{reduced-to}
use Rattle.meaning.proofs.Pointwise.{clause-reduced, clause-value}
use Rattle.meaning.proofs.Soundness.{Satisfies, rup-sound, pr-sound}
use Rattle.meaning.specs.Literals.{OfVariables}
use Rattle.table.specs.Nodes.{Node, diagram_at, Placing, full, placed, place}
use Rattle.table.specs.Making.{line_reach}
use Rattle.table.proofs.Growth.{Extends, extends-length, diagram_at-grown}
use Rattle.table.proofs.Placing.{After, Made, place_after}
use Rattle.clausal.specs.Tries.{makes_true, makes_false, witness}
use Rattle.clausal.specs.Drat.{Plain, AllPlain, Accepted}
use Rattle.clausal.specs.Literals.{Clause}
use Rattle.clausal.proofs.Literals.{has_here, AllOfVariables}
use Rattle.clausal.proofs.Rest.{not-one-plain}
use Rattle.clausal.proofs.SecondTry.{pivot-witnessed}
use Rattle.verdict.specs.Steps.{State, next, accepted, judged, unstruck, live_members}
use Rattle.verdict.specs.Taken.{Function, Meant, Valued, peak_with}
use Rattle.verdict.specs.Steps.{with_entry}
use Rattle.verdict.specs.Clausal.{with_peak, judged_or, second_line, second_try, after_first, tries, once_made, add_step}
use Rattle.verdict.specs.ClauseTaken.{Judged, first_line, SecondTaken, TriesTaken, ClauseTaken, GoesOn, HasRoom}
use Rattle.verdict.proofs.Steps.{spent-not-next, passed, met-late}
use Rattle.verdict.proofs.Live.{valued-unstruck}
use Rattle.verdict.proofs.Uses.{UsesAfter, place-uses}
use Rattle.verdict.proofs.Standing.{Standing, valued-append, valued-grown}
use Rattle.verdict.proofs.Clauses.{clause-valued}
use Rattle.verdict.proofs.Accepting.{clause-accepted}

-- ---- exactly what is taken

next-is : {x y : State} → next x ≡ next y → x ≡ y
next-is e = cc

judged-taken : (s : ℕ) (st : State) (g : ℕ) (line : Line) (st' : State) → judged s st g line ≡ next st' → Judged s st g line st'
unfolding judged
judged-taken s st g line st' e =
    let (fits, e₁) = met-late (line_reach s st.nodes line).fits 23 (peak_with s st line) _ e in
    let (shown, e₂) = met-late line.shown 19 (peak_with s st line) _ e₁ in
    record { fits = fits; shown = shown; is = next-is e₂ }

taken-judged : (s : ℕ) (st : State) (g : ℕ) (line : Line) (st' : State) → Judged s st g line st' → judged s st g line ≡ next st'
unfolding judged
taken-judged s st g line st' J = rw (J.fits, J.shown) (ap next J.is)

module _ (profile : Bool) (n s : ℕ) (st : State) (k : ℕ) (st' : State) where
  abbrev first : List meaning.Literal → Line
  first ls = first_line n st ls

  second-taken : (q : Bool) (ls : List meaning.Literal) → (line_reach s st.nodes (first ls)).fits ≡ true → (first ls).shown ≡ false
      → after_first q n s st k ls (peak_with s st (first ls)) ≡ next st' → SecondTaken q n s st k ls st'
  unfolding after_first second_try
  second-taken true ls fits failed e = spent-not-next 19 (peak_with s st (first ls)) st' e
  second-taken false [] fits failed e = spent-not-next 19 (peak_with s st (first [])) st' e
  second-taken false (p ∷ ls) fits failed e = record
      { room = fits; failed = failed; passes = judged-taken s _ k (second_line n (live_members st) p ls) st' e }

  tries-taken : (ls : List meaning.Literal) → tries profile n s st k ls ≡ next st' → TriesTaken profile n s st k ls st'
  unfolding tries judged_or
  tries-taken ls e =
      let (fits, e₁) = met-late (line_reach s st.nodes (first ls)).fits 23 (peak_with s st (first ls)) _ e in
      go fits (first ls).shown refl e₁
    where
      go : (line_reach s st.nodes (first ls)).fits ≡ true → (b : Bool) → (first ls).shown ≡ b
          → cond (not b) (after_first profile n s st k ls (peak_with s st (first ls)))
          (next (accepted st k (first ls) (peak_with s st (first ls)))) ≡ next st'
          → TriesTaken profile n s st k ls st'
      go fits true shown e = inl (record { fits = fits; shown = shown; is = next-is e })
      go fits false failed e = inr (second-taken profile ls fits failed e)

  taken-tries : (q : Bool) (ls : List meaning.Literal) → TriesTaken q n s st k ls st' → tries q n s st k ls ≡ next st'
  unfolding tries judged_or after_first second_try
  taken-tries q ls (inl J) = rw (J.fits, J.shown) (ap next J.is)
  taken-tries true ls (inr T) = absurd T
  taken-tries false [] (inr T) = absurd T
  taken-tries false (p ∷ ls) (inr T) = rw (T.room, T.failed) (taken-judged s _ k (second_line n (live_members st) p ls) st' T.passes)

  -- whichever passes, the clause is accepted
  pub tries-accepted : (q : Bool) (ls : List meaning.Literal) → TriesTaken q n s st k ls st' → (line : Line) × (peak : ℕ)
      × (accepted st k line peak ≡ st')
  tries-accepted q ls (inl J) = (first ls, peak_with s st (first ls), J.is)
  tries-accepted true ls (inr T) = absurd T
  tries-accepted false [] (inr T) = absurd T
  tries-accepted false (p ∷ ls) (inr T) =
      let line : Line = second_line n (live_members st) p ls in
      (line, peak_with s (with_peak st (peak_with s st (first (p ∷ ls)))) line, T.passes.is)

module _ (profile : Bool) (n s : ℕ) (st : State) (ls : List meaning.Literal) (st' : State) where
  abbrev g : Diagram
  g = meaning.clause n ls

  clause-taken : add_step profile n s st ls ≡ next st' → ClauseTaken profile n s st ls st'
  unfolding add_step
  clause-taken e =
      let (few, e₁) = passed (leb 1024 st.lines) 22 _ e in
      let (not-one, e₂) = passed (same g (leaf true)) 17 _ e₁ in
      go (leb-false 1024 st.lines few) not-one (place s st.nodes g) refl e₂
    where
      go : st.lines < 1024 → same g (leaf true) ≡ false → (q : Placing) → place s st.nodes g ≡ q
          → once_made st q (λ st₁ k. tries profile n s st₁ k ls) ≡ next st' → ClauseTaken profile n s st ls st'
      go few not-one (full t) r e = spent-not-next 23 (max st.peak (length t)) st' e
      go few not-one (placed t k) r e =
          record {
            few = few;
            not-one = not-one;
            nodes = t;
            node = k;
            room = r;
            tried =
                tries-taken profile n s (with_entry st t k) k st' ls e;
          }

  taken-clause : ClauseTaken profile n s st ls st' → add_step profile n s st ls ≡ next st'
  unfolding add_step
  taken-clause T =
      rw (lt-leb 1024 st.lines T.few, T.not-one, T.room)
      (taken-tries profile n s (with_entry st T.nodes T.node) T.node st' profile ls T.tried)

  -- THEOREM: an added clause is taken exactly where none of 22, 17, 23 and 19 holds.
  pub clause-exactly : (add_step profile n s st ls ≡ next st') ↔ ClauseTaken profile n s st ls st'
  clause-exactly = (clause-taken, taken-clause)

-- ---- what it keeps

module _ {s n : ℕ} {m : Meant} {st : State} (S : Standing s n m st) (narrow : n ≤ 64) (ls : List meaning.Literal) (t : List Node) (k : ℕ)
    (room : place s st.nodes (meaning.clause n ls) ≡ placed t k) where
  abbrev after : State
  after = with_entry st t k

  made : Made s st.nodes (meaning.clause n ls) t k
  made =
      subst (After s st.nodes (meaning.clause n ls)) room
      (place_after s st.nodes S.ordered (meaning.clause n ls)
      (reduced-to 1 (suc n) 65 (meaning.clause n ls) (omega (arith, narrow)) (clause-reduced n ls)))

  -- the live members keep their diagrams while the clause's is made
  pub live_same : live_members (with_entry st t k) ≡ live_members st
  live_same =
      go (unstruck st.struck st.members) (unstruck st.struck m.members)
      (valued-unstruck st.nodes st.kept st.struck st.members m.members S.members)
    where
      go : (ks : List ℕ) (fs : List Function) → Valued st.nodes st.kept ks fs → map (diagram_at t) ks ≡ map (diagram_at st.nodes) ks
      go [] fs W = refl
      go (j ∷ ks) [] W = absurd W
      go (j ∷ ks) (f ∷ fs) W = ap₂ ◌∷◌ (diagram_at-grown st.nodes t S.ordered made.kept.extends j (omega (arith, W.0, S.kept)))
          (go ks fs W.2)

  pub clause-grown : Extends st.nodes t
  clause-grown = made.kept.extends

  -- the clause's node has the clause's values
  pub clause-node : OfVariables n ls → (a : Assignment) → value (diagram_at t k) a ≡ meaning.clause_value ls a
  clause-node w a = ap (λ (D : Diagram). value D a) made.is ∙ clause-valued n ls w a

  module _ (w : OfVariables n ls) (few : st.lines < 1024) where
    -- the clause is one more member, with the clause's values
    taken-standing : (line : Line) (peak : ℕ) (st' : State) → accepted after k line peak ≡ st'
        → Standing s n (record { members = m.members ++ meaning.clause_value ls ∷ []; entries = [] }) st'
    taken-standing line peak st' is =
        let longer : length st.nodes ≤ length t = extends-length st.nodes t made.kept.extends in
        subst (Standing s n (record { members = m.members ++ meaning.clause_value ls ∷ []; entries = [] })) is (record {
          ordered = made.kept.ordered;
          uses = subst (UsesAfter n) room (place-uses n s st.nodes (meaning.clause n ls) S.uses (clause-reduced n ls));
          room = λ two. made.kept.room (S.room two);
          least = made.kept.ordered.two;
          kept = omega arith;
          members = valued-append t (length t) st.members m.members k (meaning.clause_value ls)
              (valued-grown st.nodes t st.kept (length t) S.ordered made.kept.extends S.kept (omega (arith, S.kept))
              st.members m.members S.members)
              made.inside (clause-node w);
          marks = omega (arith, length-append st.struck (0 ∷ []), length-append st.members (k ∷ []), S.marks);
          entries = tt;
          few = omega arith;
          lines = omega (arith, few);
          many = omega (arith, length-append st.members (k ∷ []), S.many);
        })

module _ {profile : Bool} {s n : ℕ} {m : Meant} {st : State} (S : Standing s n m st) (narrow : n ≤ 64) (ls : List meaning.Literal)
    (w : OfVariables n ls) (st' : State)
    (T : ClauseTaken profile n s st ls st') where
  -- the line that passed, and its peak
  pub clause-line : (line : Line) × (peak : ℕ) × (accepted (with_entry st T.nodes T.node) T.node line peak ≡ st')
  clause-line = tries-accepted profile n s (with_entry st T.nodes T.node) T.node st' profile ls T.tried

  -- THEOREM: the state after an added clause stands, the clause being its last member.
  pub clause-standing : Standing s n (record { members = m.members ++ meaning.clause_value ls ∷ []; entries = [] }) st'
  clause-standing = let (line, peak, is) = clause-line in taken-standing S narrow ls T.nodes T.node T.room w T.few line peak st'
      is

  pub clause-extends : Extends st.nodes st'.nodes
  clause-extends =
      let (line, peak, is) = clause-line in
      subst (λ (x : State). Extends st.nodes x.nodes) is (clause-grown S narrow ls T.nodes T.node T.room)

  -- THEOREM: where an assignment satisfies the live members one satisfies them and the clause.
  pub clause-keeps : (a : Assignment) → length a ≡ n → Satisfies a (live_members st)
      → (b : Assignment) × (length b ≡ n) × Satisfies b (live_members st) × (meaning.clause_value ls b ≡ true)
  clause-keeps a len sat = go profile ls w T.not-one (live_same S narrow ls T.nodes T.node T.room) T.tried
    where
      go : (q : Bool) (ls : List meaning.Literal) → OfVariables n ls → same (meaning.clause n ls) (leaf true) ≡ false →
          live_members (with_entry st T.nodes T.node) ≡ live_members st
          → TriesTaken q n s (with_entry st T.nodes T.node) T.node ls st'
          → (b : Assignment) × (length b ≡ n) × Satisfies b (live_members st) × (meaning.clause_value ls b ≡ true)
      go q ls w not-one live (inl J) = (
        a,
        len,
        sat,
        sym (clause-value n a len ls) ∙ rup-sound n (live_members (with_entry st T.nodes T.node)) (meaning.clause n ls)
            J.shown a len (subst (Satisfies a) (sym live) sat),
      )
      go true ls w not-one live (inr U) = absurd U
      go false [] w not-one live (inr U) = absurd U
      go false (p ∷ ls) w not-one live (inr U) =
          let (b, lb, kept, one) = pr-sound n (makes_true (witness p (p ∷ ls))) (makes_false (witness p (p ∷ ls)))
          (live_members (with_entry st T.nodes T.node)) (meaning.clause n (p ∷ ls))
          (pivot-witnessed n (p ∷ ls) w (not-one-plain n (p ∷ ls) not-one) p (has_here p ls)) U.passes.shown a len
          (subst (Satisfies a) (sym live) sat) in
          (b, lb, subst (Satisfies b) live kept, sym (clause-value n b lb (p ∷ ls)) ∙ one)

-- THEOREM: "for clauses and members without both signs of a variable the two tries accept exactly what RUP and RAT over clauses accept, the
-- table having room", in a state that the check reaches. F are the clauses of its live members.
pub added-exactly : {s n : ℕ} {m : Meant} {st : State} → Standing s n m st → n ≤ 64 → (F : List Clause) → live_members st
    ≡ map (meaning.clause n) F → AllOfVariables n F → AllPlain F
    → (c : Clause) → OfVariables n c → Plain c → (t : List Node) (k : ℕ) → HasRoom n s st c t k →
    GoesOn (add_step false n s st c) ↔ Accepted F c
added-exactly {s} {n} {m} {st} S narrow F live within plains c w plain t k R =
    clause-accepted n s st t k F (live_same S narrow c t k R.made ∙ live) within plains c w plain R
