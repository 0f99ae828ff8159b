-- The witness of every state reached makes variables of the header alone true: each witness record names one, and behind every line it
-- starts anew. So `refused-18` (Refused) can be given what it asks. Assumes nothing.
use mathlib.Core.Path.{◌≡◌, refl, sym, ap, ap₂, ◌∙◌, subst}
use mathlib.Core.Logic.{inl, inr}
use mathlib.Core.Bool.{Bool, true, false, ◌||◌}
use mathlib.Core.List.{List, [], ◌∷◌}
use Prim.Native.Nat.{ℕ, ◌+◌, ◌-◌, ◌^◌, ◌≤◌, ◌<◌}
use native.Mathlib.Omega.{arith}
use borrow.Author.Tests.{ne_eqb}
use Rattle.meaning.specs.Operations as meaning
use Rattle.meaning.specs.Words.{in_word}
use Rattle.meaning.proofs.Words.{in-none}
use Rattle.words.proofs.LiteralSets.{in-with}
use Rattle.records.specs.declared.Record.{Record}
use Rattle.records.specs.declared.Record.TheVariants.{NodeEntry, Witness, ProofLine, Strike, SetEntry, End, CutShort, UnknownKind}
use Rattle.records.specs.declared.Record.TheVariants.{NoRecord}
use Rattle.commands.specs.declared.Mode.{Mode}
use Rattle.commands.specs.Commands.{Command, recorded, added, struck_out, wrong, finished}
use Rattle.verdict.specs.Steps.{State, with_entry, assigned}
use Rattle.verdict.specs.Taken.{Meant, Taken, WitnessTaken}
use Rattle.verdict.specs.ClauseTaken.{ClauseTaken, TriesTaken}
use Rattle.verdict.specs.Run.{command_in, CommandTaken, Reached, begins, goes}
use Rattle.steps.proofs.Bits.{with-clear}

abbrev pub Within : ℕ → State → Type 0
Within n st = (v : ℕ) → n < v → in_word st.positive v ≡ false

same-within : (n : ℕ) (st x st' : State) → x ≡ st' → x.positive ≡ st.positive → Within n st → Within n st'
same-within n st x st' e p W = subst (Within n) e (λ v h. ap (λ (w : ℕ). in_word w v) p ∙ W v h)

fresh-within : (n : ℕ) (x st' : State) → x ≡ st' → x.positive ≡ 0 → Within n st'
fresh-within n x st' e p = subst (Within n) e (λ v h. ap (λ (w : ℕ). in_word w v) p ∙ in-none v)

-- a variable of the header more
set-within : (n w v : ℕ) → 1 ≤ v → v ≤ n → in_word w v ≡ false → ((u : ℕ) → n < u → in_word w u ≡ false) → (u : ℕ) → n < u
    → in_word (w + 2 ^ (v - 1)) u ≡ false
set-within n w v lo most clear W u h =
    ap (λ (x : ℕ). in_word x u) (sym (with-clear w v lo clear)) ∙ in-with w v u lo (omega (arith, h))
    ∙ ap₂ ◌||◌ (W u h) (ne_eqb v u (λ e. absurd (omega (arith, e, h, most))))

module _ (n s : ℕ) (st st' : State) (W : Within n st) where
  set-true : (v : ℕ) (b : Bool) → WitnessTaken n st v b st' → Within n st'
  set-true v b T = subst (Within n) T.is (go b)
    where
      go : (b : Bool) (u : ℕ) → n < u → in_word (assigned b st.positive v) u ≡ false
      go true u h = set-within n st.positive v T.least T.most T.new-positive W u h
      go false u h = W u h

  record-within : (r : Record) → Taken n s st r st' → Within n st'
  record-within (NodeEntry b) T = same-within n st _ st' T.is refl W
  record-within (Witness v b) T = set-true v b T
  record-within (ProofLine rule root) T = fresh-within n _ st' T.is refl
  record-within (Strike k) T = same-within n st _ st' T.is refl W
  record-within (SetEntry kind b) T = same-within n st _ st' T.is refl W
  record-within End T = absurd T
  record-within CutShort T = absurd T
  record-within UnknownKind T = absurd T
  record-within NoRecord T = absurd T

  tries-within : (profile : Bool) (ls : List meaning.Literal) → ClauseTaken profile n s st ls st' → Within n st'
  tries-within profile ls T = go profile ls T.tried
    where
      go : (b : Bool) (ks : List meaning.Literal) → TriesTaken b n s (with_entry st T.nodes T.node) T.node ks st' → Within n st'
      go b ks (inl J) = fresh-within n _ st' J.is refl
      go true ks (inr J) = absurd J
      go false [] (inr J) = absurd J
      go false (p ∷ ks) (inr J) = fresh-within n _ st' J.passes.is refl

  command-within : (profile : Bool) (x : Command) → CommandTaken profile n s st x st' → Within n st'
  command-within profile (recorded r more) T = record-within r T.1
  command-within profile (added ls) T = tries-within profile ls T
  command-within profile (struck_out ls) T = same-within n st _ st' T.is refl W
  command-within profile (wrong k o) T = absurd T
  command-within profile finished T = absurd T

module _ (mode : Mode) (s : ℕ) (text proof : List ℕ) where
  -- THEOREM: a reached state's witness makes no variable beyond the header true.
  pub reached-witness : {n : ℕ} {st : State} {at : ℕ} {m : Meant} → Reached mode s text proof n st at m → Within n st
  reached-witness (begins M) = λ v h. in-none v
  reached-witness {n} (goes {st} {st'} {at} R T) =
      command-within n s st st' (reached-witness R) mode.consequence (command_in mode proof n at) T
