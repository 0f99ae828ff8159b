-- Between the clauses of a DRAT proof no entry is made and no witness waits: all nodes stay. The idea: a clause that is taken starts both
-- anew, and a striking leaves them. Assumes nothing.
use mathlib.Core.Path.{◌≡◌, refl, sym, subst}
use mathlib.Core.Logic.{inl, inr}
use mathlib.Core.Bool.{Bool, true, false}
use mathlib.Core.List.{List, [], ◌∷◌}
use Prim.Native.Nat.{ℕ}
use lib.ListN.{length}
use Rattle.meaning.specs.Operations as meaning
use Rattle.meaning.proofs.Booleans.{t≢f}
use Rattle.commands.specs.declared.Form.{Form}
use Rattle.commands.specs.declared.Form.TheVariants.{Records, Text, Binary}
use Rattle.commands.specs.declared.Mode.{Mode}
use Rattle.commands.specs.Commands.{Command, recorded, added, struck_out, wrong, finished, is_drat}
use Rattle.verdict.specs.Steps.{State, with_entry}
use Rattle.verdict.specs.Taken.{Meant}
use Rattle.verdict.specs.ClauseTaken.{ClauseTaken, TriesTaken}
use Rattle.verdict.specs.Run.{command_in, CommandTaken, Reached, begins, goes}
use Rattle.verdict.proofs.Commands.{Fit, DratFit}
use Rattle.verdict.proofs.Ends.{reached-fit}

pub record Fresh (st : State) : Type 0 where
  pub kept : st.kept ≡ length st.nodes
  pub entries : st.entries ≡ []
  pub positive : st.positive ≡ 0
  pub negative : st.negative ≡ 0

drat-fit : (form : Form) (n : ℕ) (c : Command) → is_drat form ≡ true → Fit form n c → DratFit form n c
drat-fit Records n c d fit = t≢f (sym d)
drat-fit Text n c d fit = fit
drat-fit Binary n c d fit = fit

module _ (n s : ℕ) (st st' : State) where
  tries-fresh : (profile : Bool) (ls : List meaning.Literal) (T : ClauseTaken profile n s st ls st') → Fresh st'
  tries-fresh profile ls T = go profile ls T.tried
    where
      anew : (x : State) → x ≡ st' → x.kept ≡ length x.nodes → x.entries ≡ [] → x.positive ≡ 0 → x.negative ≡ 0 → Fresh st'
      anew x e a b d f = subst Fresh e (record { kept = a; entries = b; positive = d; negative = f })

      go : (b : Bool) (ks : List meaning.Literal) → TriesTaken b n s (with_entry st T.nodes T.node) T.node ks st' → Fresh st'
      go b ks (inl J) = anew _ J.is refl refl refl refl
      go true ks (inr J) = absurd J
      go false [] (inr J) = absurd J
      go false (p ∷ ks) (inr J) = anew _ J.passes.is refl refl refl refl

  command-fresh : (profile : Bool) (form : Form) (c : Command) → DratFit form n c → CommandTaken profile n s st c st' → Fresh st → Fresh st'
  command-fresh profile form (recorded r more) fit T F = absurd fit
  command-fresh profile form (added ls) fit T F = tries-fresh profile ls T
  command-fresh profile form (struck_out ls) fit T F = subst Fresh T.is
      (record { kept = F.kept; entries = F.entries; positive = F.positive; negative = F.negative })
  command-fresh profile form (wrong k o) fit T F = absurd T
  command-fresh profile form finished fit T F = absurd T

module _ (mode : Mode) (s : ℕ) (text proof : List ℕ) (drat : is_drat mode.form ≡ true) where
  -- THEOREM: a state reached in a DRAT proof has no entries and no witness.
  pub reached-fresh : {n : ℕ} {st : State} {at : ℕ} {m : Meant} → Reached mode s text proof n st at m → Fresh st
  reached-fresh (begins M) = record { kept = refl; entries = refl; positive = refl; negative = refl }
  reached-fresh {n} (goes {st} {st'} {at} R T) =
      command-fresh n s st st' mode.consequence mode.form (command_in mode proof n at)
      (drat-fit mode.form n (command_in mode proof n at) drat (reached-fit mode s text proof R)) T (reached-fresh R)
