-- What 02's 3/14 and 4/14 say of strikings: 28 is given exactly for a member that is not there or is struck already, and for a clause that
-- is no live member; lines look at the live members alone. The idea: only strikings give 28, and a mark is 0 or 1. Assumes nothing.
use Rattle.meaning.proofs.Booleans.{and-false}
use mathlib.Core.Path.{◌≡◌, refl, sym, ap, ◌∙◌, subst}
use mathlib.Core.Logic.{◌⊎◌, inl, inr, ◌↔◌}
use mathlib.Core.Bool.{Bool, true, false, ◌&&◌, cond}
use mathlib.Core.List.{List}
use mathlib.Core.Option.{Option, none, some}
use Prim.Native.Nat.{ℕ, ◌+◌, ◌<◌}
use native.Mathlib.Omega.{arith}
use lib.ListN.{length, get_or, length-map}
use lib.Dec.{eqb, ltb}
use borrow.Author.Tests.{ltb-false, le-ltb, eqb-false}
use Rattle.meaning.specs.Diagram.{Diagram}
use Rattle.meaning.specs.Operations as meaning
use Rattle.records.specs.declared.Record.{Record}
use Rattle.commands.specs.declared.Form.{Form}
use Rattle.commands.specs.declared.Form.TheVariants.{Records, Text, Binary}
use Rattle.commands.specs.declared.Mode.{Mode}
use Rattle.commands.specs.Commands.{Command, recorded, added, struck_out, wrong, finished, in_form}
use Rattle.verdict.specs.Steps.{State, Step, next, stop, spent, diagram_in, unstruck, live_members, is_live, strike_step, record_step}
use Rattle.verdict.specs.Clausal.{first_same, strike_found, strike_clause}
use Rattle.verdict.specs.Check.{step, Verdict, verdict, CheckOutcome, outcome}
use Rattle.verdict.specs.Taken.{Meant}
use Rattle.verdict.specs.ClauseTaken.{IsThere}
use Rattle.verdict.specs.Run.{command_in, Reached}
use Rattle.verdict.specs.Marks.{strikings_before, is_in}
use Rattle.verdict.proofs.Steps.{stop-not-next}
use Rattle.verdict.proofs.Striking.{first-none, absent-refused}
use Rattle.verdict.proofs.Commands.{Fit, DratFit, Known, fit-known}
use Rattle.verdict.proofs.ClauseSays.{AddedSays, FinishSays, added-says, finish-says}
use Rattle.verdict.proofs.Ends.{reached-fit}
use Rattle.verdict.proofs.Numbers.{NumberedIn, spent-number, reached-numbered}
use Rattle.verdict.proofs.Exactly.{reached-stops}
use Rattle.verdict.proofs.Live.{unstruck-has, unstruck-only}
use Rattle.verdict.proofs.Offsets.{Offset, at-record, at-striking, behind-end, Placed, shut-placed}
use Rattle.verdict.proofs.Marks.{marks-are}
use Rattle.demands.specs.Words.{Among, AmongLive}
use Rattle.demands.specs.Leaving.{Handed, checked, Fits, places, EndsWith, OffsetOf, AtEnd, NotLive, not_there, struck-already}
use Rattle.demands.specs.Leaving.{Absent, AtStriking}
use Rattle.demands.proofs.Modes.{mode-is}
use Rattle.demands.proofs.Ending.{checked-fits}
use Rattle.demands.proofs.TextMembers.{map_at}
use Rattle.demands.proofs.Places.{check-place}
use Rattle.demands.proofs.InProof.{in-proof-said}

-- ---- live members

-- "Making, propagation and PR pass over struck members": a diagram is among those that a line looks at exactly where a member that is not
-- struck has it.
pub live-exactly : (st : State) (D : Diagram) → Among (live_members st) D ↔ AmongLive st D
live-exactly st D = (to, from)
  where
    live : List ℕ
    live = unstruck st.struck st.members

    to : Among (live_members st) D → AmongLive st D
    to (i, p, is) =
        let inside : i < length live = omega (arith, length-map live (diagram_in st)) in
        let (k, q, mark, same) = unstruck-only st.struck st.members 0 i inside in
        (k, q, mark, ap (diagram_in st) (sym same) ∙ sym (map_at (diagram_in st) live i inside) ∙ is)

    from : AmongLive st D → Among (live_members st) D
    from (k, p, mark, is) =
        let (i, q, same) = unstruck-has st.struck st.members 0 k p mark in
        (i, omega (arith, length-map live (diagram_in st)), map_at (diagram_in st) live i q ∙ ap (diagram_in st) same ∙ is)

-- ---- 28

module _ (profile : Bool) (s : ℕ) (text proof : List ℕ) {n : ℕ} {st : State} {at : ℕ} {m : Meant}
    (R : Reached (in_form Records profile) s text proof n st at m) (k : ℕ) where
  -- a mark that is not 0 is 1
  mark-one : eqb (get_or st.struck k 0) 0 ≡ false → get_or st.struck k 0 ≡ 1
  mark-one other = go (is_in k (strikings_before proof at)) (marks-are profile s text proof R k)
    where
      go : (c : Bool) → get_or st.struck k 0 ≡ cond c 1 0 → get_or st.struck k 0 ≡ 1
      go true e = e
      go false e = absurd (eqb-false (get_or st.struck k 0) 0 other e)

  dead : is_live st k ≡ false → NotLive st k
  unfolding is_live
  dead e = go (ltb k (length st.members)) refl (eqb (get_or st.struck k 0) 0) refl e
    where
      go : (c : Bool) → ltb k (length st.members) ≡ c → (d : Bool) → eqb (get_or st.struck k 0) 0 ≡ d → (c && d) ≡ false → NotLive st k
      go false p d q e = not_there (ltb-false k (length st.members) p)
      go true p false q e = struck-already (mark-one q)
      go true p true q e = let z : true ≡ false = e in let y : ◌≡◌ {A = ℕ} 0 1 = cc in absurd (omega arith)

not_live : (st : State) (k : ℕ) → NotLive st k → is_live st k ≡ false
unfolding is_live
not_live st k (not_there p) = rw (le-ltb k (length st.members) p)
not_live st k (struck-already e) = rw e (go (ltb k (length st.members)))
  where
    go : (c : Bool) → (c && false) ≡ false
    go true = refl
    go false = refl

-- a `d` clause that is refused is no live member's diagram
clause-absent : (n : ℕ) (st : State) (ls : List meaning.Literal) (number offset : ℕ) → strike_clause n st ls ≡ stop number offset
    → (k : ℕ) → k < length st.members → IsThere st (meaning.clause n ls) k → ⊥
unfolding strike_clause
clause-absent n st ls number offset e = go (first_same (length st.members) st 0 (meaning.clause n ls)) refl e
  where
    go : (o : Option ℕ) → first_same (length st.members) st 0 (meaning.clause n ls) ≡ o → strike_found st o ≡ stop number offset
        → (k : ℕ) → k < length st.members → IsThere st (meaning.clause n ls) k → ⊥
    go none q e k p there = first-none st (meaning.clause n ls) (length st.members) 0 q k (omega arith) (omega arith) there
    go (some j) q e k p there = stop-not-next number offset _ (sym e)

module _ (mode : Mode) (s : ℕ) (text proof : List ℕ) {n : ℕ} {st : State} {at : ℕ} {m : Meant} (R : Reached mode s text proof n st at m)
  where
    record-absent : mode.form ≡ Records → (r : Record) (more : Bool) (k offset : ℕ) → k ≡ 28 → Offset st r k offset →
        Absent n st (recorded r more)
    record-absent form r more k offset e (at-record _ _ other) = absurd (eqb-false k 28 other e)
    record-absent form r more k offset e (behind-end _ eleven _) = absurd (omega arith)
    record-absent form r more k offset e (at-striking {member} _ _ is quiet lost) = (
      member,
      is,
      quiet,
      dead mode.consequence s text proof (subst (λ (x : Mode). Reached x s text proof n st at m) (mode-is form) R)
          member.0 lost,
    )

    early-other : (k : ℕ) → ((k ≡ 17) ⊎ (k ≡ 22)) → k ≡ 28 → ⊥
    early-other k (inl q) e = absurd (omega arith)
    early-other k (inr q) e = absurd (omega arith)

    end-other : (k : ℕ) → ((k ≡ 0) ⊎ (k ≡ 20)) → k ≡ 28 → ⊥
    end-other k (inl q) e = absurd (omega arith)
    end-other k (inr q) e = absurd (omega arith)

    drat-absent : (form : Form) (c : Command) → Known n c → DratFit form n c → (k offset : ℕ) → step mode.consequence n s st c
        ≡ stop k offset → k ≡ 28 → Absent n st c
    unfolding step
    drat-absent form (recorded r more) known fit k offset q e = absurd fit
    drat-absent form (added ls) known fit k offset q e = absurd
        (early-other k (subst AddedSays q (added-says mode.consequence n s st ls)).0 e)
    drat-absent form (struck_out ls) known fit k offset q e = clause-absent n st ls k offset q
    drat-absent form (wrong number o) known fit k offset q e = let same : number ≡ k = cc in
        absurd (omega (arith, known.1 (λ z. omega arith)))
    drat-absent form finished known fit k offset q e = absurd (end-other k (subst FinishSays q (finish-says st)).0 e)

    -- 28 is given before a node is made
    command-absent : (form : Form) → mode.form ≡ form → (c : Command) → Fit form n c → (k offset : ℕ) → step mode.consequence n s st c
        ≡ stop k offset → k ≡ 28 → Absent n st c
    unfolding step
    command-absent Records form (recorded r more) fit k offset q e = record-absent form r more k offset e
        (subst (Placed st r) q (shut-placed mode.consequence n s st more r))
    command-absent Records form (added ls) fit k offset q e = absurd fit
    command-absent Records form (struck_out ls) fit k offset q e = absurd fit
    command-absent Records form (wrong number o) fit k offset q e = absurd fit
    command-absent Records form finished fit k offset q e = absurd fit
    command-absent Text form c fit k offset q e = drat-absent Text c (fit-known Text n c fit) fit k offset q e
    command-absent Binary form c fit k offset q e = drat-absent Binary c (fit-known Binary n c fit) fit k offset q e

-- what is absent is refused
absent-stops : (profile : Bool) (n s : ℕ) (st : State) (c : Command) → Absent n st c → step profile n s st c ≡ stop 28 0
unfolding step record_step strike_step
absent-stops profile n s st (recorded r more) (k, is, quiet, lost) = rw (is, and-false profile, quiet, not_live st k.0 lost)
absent-stops profile n s st (added ls) A = absurd A
absent-stops profile n s st (struck_out ls) A = absent-refused n st ls A
absent-stops profile n s st (wrong number offset) A = absurd A
absent-stops profile n s st finished A = absurd A

absent-offset : (n : ℕ) (st : State) (c : Command) → Absent n st c → (offset : ℕ) → OffsetOf c 28 offset → offset ≡ 0
absent-offset n st (recorded r more) A offset O = O
absent-offset n st (added ls) A offset O = O
absent-offset n st (struck_out ls) A offset O = O
absent-offset n st (wrong number o) A offset O = absurd A
absent-offset n st finished A offset O = O

-- "It refuses with 28 a member that does not exist or is struck already, after 10 and then 16 for a waiting witness", at the record; "an
-- absent clause to strike with 28", at its `d`.
pub twenty-eight-exactly : (i : Handed) → Fits i → (at : ℕ) → (((checked i).number ≡ 28) × ((checked i).place ≡ at)) ↔ AtStriking i.mode
    (places i) i.text i.proof at
unfolding outcome
twenty-eight-exactly i fits at = (to, from)
  where
    s : ℕ
    s = places i

    v : Verdict
    v = verdict i.mode s i.text i.proof

    to : ((checked i).number ≡ 28) × ((checked i).place ≡ at) → AtStriking i.mode s i.text i.proof at
    to (number, place) =
        subst (AtStriking i.mode s i.text i.proof) here
        (record { n = E.n; state = E.state; meant = E.meant; reached = E.reached; absent = lost })
      where
        E : AtEnd i (checked i)
        E = check-place i (in-proof-said i (inr (omega arith)))

        c : Command
        c = command_in i.mode i.proof E.n E.at

        given : (x : Step) → step i.mode.consequence E.n s E.state c ≡ x → NumberedIn i.mode.form x →
            EndsWith x 28 E.offset → Absent E.n E.state c
        given (next st) q N e = absurd e
        given (stop k o) q N e =
            command-absent i.mode s i.text i.proof E.reached i.mode.form refl c
            (reached-fit i.mode s i.text i.proof E.reached) k o q e.0
        given (spent k peak) q N e = absurd (omega (arith, e.0, (spent-number i.mode.form k peak N).1))

        lost : Absent E.n E.state (command_in i.mode i.proof E.n E.at)
        lost =
            given (step i.mode.consequence E.n s E.state c) refl (reached-numbered i.mode s i.text i.proof E.reached)
            (subst (λ (k : ℕ). EndsWith (step i.mode.consequence E.n s E.state c) k E.offset) number E.says)

        here : E.at ≡ at
        here =
            let zero-there : E.offset ≡ 0 = absent-offset E.n E.state c lost E.offset
            (subst (λ (k : ℕ). OffsetOf c k E.offset) number E.stands) in
            omega (arith, E.place, place)

    from : AtStriking i.mode s i.text i.proof at → ((checked i).number ≡ 28) × ((checked i).place ≡ at)
    from A =
        let is : v ≡ _ = reached-stops i.mode s i.text i.proof A.reached 28 0
        (absent-stops i.mode.consequence A.n s A.state (command_in i.mode i.proof A.n at) A.absent) in
        let z : at + 0 ≡ at = omega arith in (
          ap (λ (o : CheckOutcome). o.number) (checked-fits i fits) ∙ ap (λ (x : Verdict). x.number) is,
          ap (λ (o : CheckOutcome). o.place) (checked-fits i fits) ∙ ap (λ (x : Verdict). x.place) is ∙ z,
        )
