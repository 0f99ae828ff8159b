-- Which of the two texts a place is in: the proof's exactly where the formula was read and its clauses made; in records the number tells
-- it. The idea: from a reached state on every end is the proof's. Assumes nothing.
use mathlib.Core.Path.{◌≡◌, refl, sym, ap, ◌∙◌, subst}
use mathlib.Core.Logic.{◌≢◌, ◌⊎◌, inl, inr, ◌↔◌}
use mathlib.Core.Bool.{true}
use mathlib.Core.List.{List}
use Prim.Native.Nat.{ℕ, zero, suc, ◌≤◌}
use native.Mathlib.Omega.{arith}
use native.Mathlib.Decide.{ℕ_discrete}
use Rattle.meaning.proofs.Booleans.{t≢f}
use Rattle.commands.specs.declared.Form.{Form}
use Rattle.commands.specs.declared.Form.TheVariants.{Records, Text, Binary}
use Rattle.commands.specs.declared.Mode.{Mode}
use Rattle.commands.specs.Commands.{Command, recorded, added, struck_out, wrong, finished, is_drat}
use Rattle.verdict.specs.Steps.{State, Step, next, stop, spent}
use Rattle.verdict.specs.Check.{step, Verdict, after_step, commands, CheckOutcome, outcome}
use Rattle.verdict.specs.Run.{command_in, next_in, ProofNumber}
use Rattle.verdict.proofs.Commands.{DratFit}
use Rattle.verdict.proofs.Ends.{reached-fit}
use Rattle.verdict.proofs.Exactly.{Ahead, reached-ahead}
use Rattle.verdict.proofs.ClauseSays.{AddedSays, StruckSays, FinishSays, added-says, struck-says, finish-says}
use Rattle.demands.specs.Leaving.{Handed, checked, Fits, places, Leaves, unchanged, emptied, kept, EndsWith, AtEnd, FormulaMade}
use Rattle.demands.specs.Leaving.{AtFault}
use Rattle.demands.proofs.Ending.{checked-fits}
use Rattle.demands.proofs.Lists.{check-leaves}
use Rattle.demands.proofs.Places.{check-place}
use Rattle.demands.proofs.TextMembers.{fit-drat}

-- ---- by the run

commands-in-proof : (steps : ℕ) (mode : Mode) (n s : ℕ) (proof : List ℕ) (st : State) (at : ℕ) →
    (commands steps mode n s proof st at).in_proof ≡ true
unfolding commands
commands-in-proof zero mode n s proof st at = refl
commands-in-proof (suc steps) mode n s proof st at = go (step mode.consequence n s st (command_in mode proof n at))
    (λ st'. commands-in-proof steps mode n s proof st' (next_in mode proof n at))
  where
    go : (x : Step) → ((st' : State) → (commands steps mode n s proof st' (next_in mode proof n at)).in_proof ≡ true)
        → (after_step x st at (λ st'. commands steps mode n s proof st' (next_in mode proof n at))).in_proof ≡ true
    go (stop number offset) rec = refl
    go (spent number peak) rec = refl
    go (next st') rec = rec st'

-- The place is in the proof exactly where the formula is read and its clauses made.
pub in-proof-exactly : (i : Handed) → Fits i → ((checked i).in_proof ≡ true) ↔ FormulaMade i
unfolding outcome
in-proof-exactly i fits = (to, from)
  where
    to : (checked i).in_proof ≡ true → FormulaMade i
    to late = let E : AtEnd i (checked i) = check-place i late in record
        { n = E.n; state = E.state; at = E.at; meant = E.meant; reached = E.reached }

    from : FormulaMade i → (checked i).in_proof ≡ true
    from J =
        let A : Ahead i.mode (places i) i.text i.proof J.n J.state J.at =
        reached-ahead i.mode (places i) i.text i.proof J.reached in
        ap (λ (o : CheckOutcome). o.in_proof) (checked-fits i fits) ∙ ap (λ (v : Verdict). v.in_proof) A.is
        ∙ commands-in-proof A.steps i.mode J.n (places i) i.proof J.state J.at

-- ---- by the number

-- 0, and every number from 9 on, is the proof's.
pub in-proof-said : (i : Handed) → ((checked i).number ≡ 0) ⊎ (9 ≤ (checked i).number) → (checked i).in_proof ≡ true
in-proof-said i said = go (checked i) (check-leaves i) said
  where
    go : (o : CheckOutcome) → Leaves i o → (o.number ≡ 0) ⊎ (9 ≤ o.number) → o.in_proof ≡ true
    go o (unchanged _ is) (inl z) = let q : o.number ≡ 7 = ap (λ (x : CheckOutcome). x.number) is in absurd (omega arith)
    go o (unchanged _ is) (inr p) = let q : o.number ≡ 7 = ap (λ (x : CheckOutcome). x.number) is in absurd (omega arith)
    go o (emptied _ E) (inl z) = absurd (omega (arith, E.number.0))
    go o (emptied _ E) (inr p) = absurd (omega (arith, E.number.1))
    go o (kept _ K) _ = K.in-proof

-- In records the number tells it.
pub in-records-exactly : (i : Handed) → i.mode.form ≡ Records → ((checked i).in_proof ≡ true) ↔
    (((checked i).number ≡ 0) ⊎ (9 ≤ (checked i).number))
in-records-exactly i form = ((λ late. go (check-leaves i) late), in-proof-said i)
  where
    go : Leaves i (checked i) → (checked i).in_proof ≡ true → ((checked i).number ≡ 0) ⊎ (9 ≤ (checked i).number)
    go (unchanged _ is) late = t≢f (sym late ∙ ap (λ (o : CheckOutcome). o.in_proof) is)
    go (emptied _ E) late = t≢f (sym late ∙ E.in-formula)
    go (kept _ K) late =
        let N : ProofNumber Records (checked i).number = subst (λ (f : Form). ProofNumber f (checked i).number) form K.number in
        elim (ℕ_discrete (checked i).number 0) [ yes z ↦ inl z | no other ↦ inr (N.1 other) ]

-- The numbers of a text, which are so 0, 3, 4, 6, 17, 19, 20, 22, 23 and 28: no clause gets 15 or 18.
pub text-number : (i : Handed) → i.mode.form ≡ Text → (checked i).in_proof ≡ true → ProofNumber Text (checked i).number
text-number i form late = go (check-leaves i)
  where
    go : Leaves i (checked i) → ProofNumber Text (checked i).number
    go (unchanged _ is) = t≢f (sym late ∙ ap (λ (o : CheckOutcome). o.in_proof) is)
    go (emptied _ E) = t≢f (sym late ∙ E.in-formula)
    go (kept _ K) = subst (λ (f : Form). ProofNumber f (checked i).number) form K.number

-- Those of a binary proof, which are so 0, 4, 6, 9, 17, 19, 20, 22, 23, 28 and 31.
pub binary-number : (i : Handed) → i.mode.form ≡ Binary → (checked i).in_proof ≡ true → ProofNumber Binary (checked i).number
binary-number i form late = go (check-leaves i)
  where
    go : Leaves i (checked i) → ProofNumber Binary (checked i).number
    go (unchanged _ is) = t≢f (sym late ∙ ap (λ (o : CheckOutcome). o.in_proof) is)
    go (emptied _ E) = t≢f (sym late ∙ E.in-formula)
    go (kept _ K) = subst (λ (f : Form). ProofNumber f (checked i).number) form K.number

-- ---- a fault of form

-- 3, 4, 6, 9 and 31 of a DRAT proof are those of its reader, at their places.
pub fault-only : (i : Handed) → is_drat i.mode.form ≡ true → (checked i).in_proof ≡ true → (checked i).number ≢ 0 →
    ((checked i).number ≢ 31 → (checked i).number ≤ 9)
    → AtFault i (checked i)
unfolding step
fault-only i drat late some low =
    let E : AtEnd i (checked i) = check-place i late in
    let fit : DratFit i.mode.form E.n (command_in i.mode i.proof E.n E.at) =
    fit-drat i.mode.form drat E.n (command_in i.mode i.proof E.n E.at)
    (reached-fit i.mode (places i) i.text i.proof E.reached) in
    record { end = E; here = go E (command_in i.mode i.proof E.n E.at) fit E.says }
  where
    early : (x : Step) (number offset : ℕ) → number ≢ 0 → (number ≢ 31 → number ≤ 9) → AddedSays x → EndsWith x number offset → ⊥
    early (next st) number offset some low A e = e
    early (stop k o) number offset some low (inl q, _) e = absurd (omega (arith, e.0, low (λ z. omega (arith, e.0))))
    early (stop k o) number offset some low (inr q, _) e = absurd (omega (arith, e.0, low (λ z. omega (arith, e.0))))
    early (spent k peak) number offset some low (inl q) e = absurd (omega (arith, e.0, low (λ z. omega (arith, e.0))))
    early (spent k peak) number offset some low (inr q) e = absurd (omega (arith, e.0, low (λ z. omega (arith, e.0))))

    striking : (x : Step) (number offset : ℕ) → number ≢ 0 → (number ≢ 31 → number ≤ 9) → StruckSays x → EndsWith x number offset → ⊥
    striking (next st) number offset some low A e = e
    striking (stop k o) number offset some low A e = absurd (omega (arith, e.0, A.0, low (λ z. omega (arith, e.0, A.0))))
    striking (spent k peak) number offset some low A e = A

    ending : (x : Step) (number offset : ℕ) → number ≢ 0 → (number ≢ 31 → number ≤ 9) → FinishSays x → EndsWith x number offset → ⊥
    ending (next st) number offset some low A e = e
    ending (stop k o) number offset some low (inl q, _) e = some (sym e.0 ∙ q)
    ending (stop k o) number offset some low (inr q, _) e = absurd (omega (arith, e.0, low (λ z. omega (arith, e.0))))
    ending (spent k peak) number offset some low A e = A

    go : (E : AtEnd i (checked i)) (c : Command) → DratFit i.mode.form E.n c →
        EndsWith (step i.mode.consequence E.n (places i) E.state c) (checked i).number E.offset
        → c ≡ wrong (checked i).number E.offset
    go E (recorded r more) fit e = absurd fit
    go E (added ls) fit e = absurd (early (step i.mode.consequence E.n (places i) E.state (added ls)) (checked i).number
        E.offset some low (added-says i.mode.consequence E.n (places i) E.state ls) e)
    go E (struck_out ls) fit e = absurd (striking (step i.mode.consequence E.n (places i) E.state (struck_out ls))
        (checked i).number E.offset some low (struck-says E.n E.state ls) e)
    go E (wrong k o) fit e = rw (e.0, e.1) refl
    go E finished fit e = absurd (ending (step i.mode.consequence E.n (places i) E.state finished) (checked i).number E.offset
        some low (finish-says E.state) e)
