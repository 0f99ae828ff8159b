-- The step of a command is that of its kind: one law a kind, for the command as the code has it. The idea: the code's command tells the
-- definition's. Assumes nothing.
use Rattle.profile.specs.Admitted.{tried_as, admitted}
use mathlib.Core.Path.{◌≡◌, sym, ap, subst, refl, ◌∙◌}
use mathlib.Core.Bool.{Bool, true, false, cond}
use mathlib.Core.List.{List, [], ◌∷◌}
use Prim.Native.Nat.{ℕ, ◌≤◌}
use native.Mathlib.Omega.{arith}
use Rattle.meaning.specs.Operations as meaning
use Rattle.records.specs.declared.Record.{Record}
use Rattle.commands.specs.declared.DratClause.{DratClause}
use Rattle.commands.specs.declared.Command as code
use Rattle.commands.specs.declared.Command.TheVariants.{Recorded, Added, Struck, Finished}
use Rattle.std.specs.Prelude.{Result, Ok, Err}
use Rattle.dimacs.specs.declared.Refusal.{Refusal}
use Rattle.dimacs.specs.Inner.{refusal_at}
use Rattle.commands.specs.Commands.{Command, recorded, added, struck_out, wrong, finished}
use Rattle.commands.specs.Inner.{clause_words, command_of}
use Rattle.verdict.specs.Steps as check
use Rattle.verdict.specs.Clausal.{add_step, strike_clause}
use Rattle.verdict.specs.Check.{finish, step, shut_out}
use Rattle.state.specs.declared.State.{State}
use Rattle.state.specs.declared.Step.{Step}
use Rattle.state.specs.declared.Step.TheVariants.{Stop}
use Rattle.state.specs.States.{Lent, state_of, Stepped}
use Rattle.entries.proofs.Stops.{stopped}
use Rattle.tries.specs.Tries.{PivotFits}
use Rattle.meaning.specs.Literals.{OfVariables}
use Rattle.tries.specs.Commands.{CommandFits, PivotOfFits}

-- ---- the code's command tells the definition's

module _ (n s : ℕ) (l l' : Lent) (st : State) (r : Step) where
  -- Of every command that the code's one stands for the step says this.
  abbrev pub Says : Result code.Command Refusal → Type 0
  Says command = (profile : Bool) (c : Command) → admitted profile (command_of c) ≡ command → CommandFits n c →
      Stepped n l l' st (step profile n s (state_of l st) c) r

  -- A record is let in as it is.
  recorded-in : {A : Type 0} (profile : Bool) (rec : Record) (more : Bool) (command : code.Command) → admitted profile (Ok (Recorded rec more))
      ≡ Ok command
      → (shut_out profile rec ≡ false → Recorded rec more ≡ command → A) → A
  recorded-in {A} profile rec more command e let-in = go (shut_out profile rec) refl e
    where
      go : (b : Bool) → shut_out profile rec ≡ b → cond b (Err (refusal_at 33 0)) (Ok (Recorded rec more)) ≡ Ok command → A
      go true q e = cc
      go false q e = let-in q (let same : Recorded rec more ≡ command = cc in same)

  pub says-recorded : (rec : Record) (more : Bool) → Stepped n l l' st (check.record_step n s (state_of l st) more rec) r →
      Says (Ok (Recorded rec more))
  unfolding step
  says-recorded rec more W profile (recorded rec' more') e fits =
      recorded-in profile rec' more' (Recorded rec more) e
      (λ q d. let same : rec' ≡ rec = cc in let also : more' ≡ more = cc in rw (q, same, also) W)
  says-recorded rec more W profile (added ls) e fits = cc
  says-recorded rec more W profile (struck_out ls) e fits = cc
  says-recorded rec more W profile (wrong number offset) e fits = cc
  says-recorded rec more W profile finished e fits = cc

  pub says-added : (clause : DratClause)
      → ((profile : Bool) (ls : List meaning.Literal) → OfVariables n ls → tried_as profile (clause_words ls) ≡ clause →
      Stepped n l l' st (add_step profile n s (state_of l st) ls) r)
      → Says (Ok (Added clause))
  unfolding step
  says-added clause W profile (recorded rec more) e fits = recorded-in profile rec more (Added clause) e (λ q d. cc)
  says-added clause W profile (added ls) e fits = let same : tried_as profile (clause_words ls) ≡ clause = cc in W profile ls fits same
  says-added clause W profile (struck_out ls) e fits = cc
  says-added clause W profile (wrong number offset) e fits = cc
  says-added clause W profile finished e fits = cc

  pub says-struck : (clause : DratClause) → ((ls : List meaning.Literal) → OfVariables n ls → clause_words ls ≡ clause →
      Stepped n l l' st (strike_clause n (state_of l st) ls) r)
      → Says (Ok (Struck clause))
  unfolding step
  says-struck clause W profile (recorded rec more) e fits = recorded-in profile rec more (Struck clause) e (λ q d. cc)
  says-struck clause W profile (added ls) e fits = cc
  says-struck clause W profile (struck_out ls) e fits = let same : clause_words ls ≡ clause = cc in W ls fits same
  says-struck clause W profile (wrong number offset) e fits = cc
  says-struck clause W profile finished e fits = cc

  pub says-finished : Stepped n l l' st (finish (state_of l st)) r → Says (Ok Finished)
  unfolding step
  says-finished W profile (recorded rec more) e fits = recorded-in profile rec more Finished e (λ q d. cc)
  says-finished W profile (added ls) e fits = cc
  says-finished W profile (struck_out ls) e fits = cc
  says-finished W profile (wrong number offset) e fits = cc
  says-finished W profile finished e fits = W

-- What is not let in is refused so.
pub says-refused : (n s : ℕ) (l : Lent) (st : State) (f : Refusal) (profile : Bool) (c : Command) → admitted profile (command_of c) ≡ Err f
    → Stepped n l l st (step profile n s (state_of l st) c) (Stop f.number f.place)
unfolding step
says-refused n s l st f profile (recorded rec more) e = go (shut_out profile rec) refl e
  where
    go : (b : Bool) → shut_out profile rec ≡ b → cond b (Err (refusal_at 33 0)) (Ok (Recorded rec more)) ≡ Err f
        → Stepped n l l st (step profile n s (state_of l st) (recorded rec more)) (Stop f.number f.place)
    go true q e = let same : refusal_at 33 0 ≡ f = cc in stopped n l st _ f.number f.place (rw (q, sym same))
    go false q e = cc
says-refused n s l st f profile (added ls) e = cc
says-refused n s l st f profile (struck_out ls) e = cc
says-refused n s l st f profile (wrong k o) e =
    let same : refusal_at k o ≡ f = cc in stopped n l st _ f.number f.place (rw (sym same))
says-refused n s l st f profile finished e = cc

-- A fault of form and a record that is shut out.
pub says-wrong : (n s : ℕ) (l : Lent) (st : State) (f : Refusal) → Says n s l l st (Stop f.number f.place) (Err f)
says-wrong n s l st f profile c e fits = says-refused n s l st f profile c e

-- The same, the command being one of that kind.
pub says-as : (n s : ℕ) (l l' : Lent) (st : State) (r : Step) (command command' : Result code.Command Refusal) → command ≡ command' →
    Says n s l l' st r command' → Says n s l l' st r command
says-as n s l l' st r command command' e W = subst (Says n s l l' st r) (sym e) W

pub ok-of : (command : Result code.Command Refusal) (read kind : code.Command) → command ≡ Ok read → read ≡ kind → command ≡ Ok kind
ok-of command read kind e f = e ∙ ap Ok f

-- ---- what is asked of a command that is read

pub added-fits : (profile : Bool) (n : ℕ) → n ≤ 64 → (ls : List meaning.Literal) → OfVariables n ls
    → PivotFits (tried_as profile (clause_words ls)).pivot
added-fits true n narrow ls fits = tt
added-fits false n narrow [] fits = tt
added-fits false n narrow (l ∷ ls) fits = (fits.0, omega (arith, fits.1, narrow))

pub pivot-fits : (profile : Bool) (n : ℕ) → n ≤ 64 → (c : Command) → CommandFits n c → PivotOfFits (admitted profile (command_of c))
pivot-fits profile n narrow (recorded r more) fits = go (shut_out profile r)
  where
    go : (b : Bool) → PivotOfFits (cond b (Err (refusal_at 33 0)) (Ok (Recorded r more)))
    go true = tt
    go false = tt
pivot-fits profile n narrow (added ls) fits = added-fits profile n narrow ls fits
pivot-fits profile n narrow (struck_out ls) fits = tt
pivot-fits profile n narrow (wrong number offset) fits = tt
pivot-fits profile n narrow finished fits = tt

pub pivot-of : (command : Result code.Command Refusal) (c : DratClause) → command ≡ Ok (Added c) → PivotOfFits command → PivotFits c.pivot
pivot-of command c e fits = subst PivotOfFits e fits
