-- The call ends in exactly one way, says what that way says, and gives 0 exactly where the run is a refutation. The idea: the sizes are
-- tested first, and the rest is the verdict (verdict/proofs/Exactly). Assumes nothing.
use mathlib.Core.Path.{◌≡◌, refl, sym, ap, ◌∙◌, subst}
use mathlib.Core.Logic.{◌≢◌, ◌↔◌}
use mathlib.Core.Bool.{Bool, true, false, cond}
use Prim.Native.Nat.{ℕ}
use native.Mathlib.Omega.{arith}
use lib.ListN.{length}
use Rattle.meaning.proofs.Booleans.{t≢f}
use Rattle.commands.specs.Commands.{Command, recorded, added, struck_out, wrong, finished, is_drat}
use Rattle.commands.proofs.Onward.{CommandIn, drat-in}
use Rattle.verdict.specs.Check.{Verdict, verdict, CheckOutcome, lent_fits, outcome, check}
use Rattle.verdict.specs.Run.{command_in, next_in, Closes, Refutation}
use Rattle.verdict.proofs.Ends.{reached-in, ended}
use Rattle.verdict.proofs.Exactly.{ended_is, zero-exactly, refutation-said}
use Rattle.demands.specs.Leaving.{Handed, checked, Fits, places, seven, Ends, wrong_size, at_place}

module _ (i : Handed) where
  abbrev pub done : Verdict → CheckOutcome
  done = outcome (places i) (length i.members) (length i.scratch)

  abbrev fits : Bool
  fits = lent_fits i.columns i.members i.struck i.scratch

  -- where the sizes fit the call is the verdict's, else 7
  pub checked-fits : Fits i → checked i ≡ done (verdict i.mode (places i) i.text i.proof)
  unfolding check
  checked-fits e = rw e

  pub checked-seven : (Fits i → ⊥) → checked i ≡ seven i
  unfolding check
  checked-seven other = go fits refl
    where
      go : (c : Bool) → fits ≡ c → cond c (done (verdict i.mode (places i) i.text i.proof)) (seven i) ≡ seven i
      go true e = absurd (other e)
      go false e = refl

  pub fits? : (P : Type 0) → (Fits i → P) → ((Fits i → ⊥) → P) → P
  fits? P fit misfit = go fits refl
    where
      go : (c : Bool) → fits ≡ c → P
      go true e = fit e
      go false e = misfit (λ f. t≢f (sym f ∙ e))

  -- For every input the call ends at the first place that is refused, or at the end record, and number, place and all else are that end's.
  pub check-ends : Ends i (checked i)
  check-ends =
      fits? (Ends i (checked i)) (λ e. subst (Ends i) (sym (checked-fits e)) (at_place e (ended i.mode (places i) i.text i.proof)))
      (λ other. subst (Ends i) (sym (checked-seven other)) (wrong_size other))

  pub check-exactly : (o : CheckOutcome) → (checked i ≡ o) ↔ Ends i o
  check-exactly o = ((λ e. subst (Ends i) e check-ends), back o)
    where
      back : (o : CheckOutcome) → Ends i o → checked i ≡ o
      back _ (wrong_size other) = checked-seven other
      back _ (at_place {v} e E) = checked-fits e ∙ ap done (ended_is i.mode (places i) i.text i.proof v E)

  -- "0: refuted": given exactly where the sizes fit, the formula is read and made, each record in turn passes what its kind asks, an
  -- accepted line is 0, and the end record ends the proof.
  pub check-zero-exactly : ((checked i).number ≡ 0) ↔ (Fits i × Refutation i.mode (places i) i.text i.proof)
  unfolding outcome
  check-zero-exactly = (to, from)
    where
      R : Type 0
      R = Fits i × Refutation i.mode (places i) i.text i.proof

      to : (checked i).number ≡ 0 → R
      to z =
          fits? R (λ e. (
            e,
            (zero-exactly i.mode (places i) i.text i.proof).0
                (sym (ap (λ (o : CheckOutcome). o.number) (checked-fits e)) ∙ z),
          ))
          (λ other. let n : ◌≡◌ {A = ℕ} 7 0 = sym (ap (λ (o : CheckOutcome). o.number) (checked-seven other)) ∙ z in absurd (omega arith))

      from : R → (checked i).number ≡ 0
      from (e, F) = ap (λ (o : CheckOutcome). o.number) (checked-fits e) ∙ (zero-exactly i.mode (places i) i.text i.proof).1 F

  -- "place of the end record"
  pub check-zero-place : (e : Fits i) (F : Refutation i.mode (places i) i.text i.proof) → (checked i).place ≡ F.place
  unfolding outcome
  check-zero-place e F = ap (λ (o : CheckOutcome). o.place) (checked-fits e)
      ∙ ap (λ (v : Verdict). v.place) (refutation-said i.mode (places i) i.text i.proof F)

  -- "at its length as is 0": a DRAT proof's refutation ends at its length.
  pub drat-zero-place : is_drat i.mode.form ≡ true → (F : Refutation i.mode (places i) i.text i.proof) → F.place
      ≡ length i.proof
  drat-zero-place drat F =
      go (command_in i.mode i.proof F.variables F.place) (next_in i.mode i.proof F.variables F.place)
      (drat-in i.mode.form drat i.proof F.variables F.place
      (reached-in i.mode (places i) i.text i.proof F.reached))
      F.end
    where
      go : (c : Command) (next : ℕ) → CommandIn i.mode.form i.proof F.variables F.place c next → Closes F.state c → F.place
          ≡ length i.proof
      go (recorded r more) next I C = absurd I
      go (added ls) next I C = absurd C
      go (struck_out ls) next I C = absurd C
      go (wrong number offset) next I C = absurd C
      go finished next I C = I.1
