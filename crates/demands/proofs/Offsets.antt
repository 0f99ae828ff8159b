-- Where a command that ends the run gives its number: at its first byte, but for 11 and for a token of a text that is refused. The idea:
-- each number stands in the definition with its place. Assumes nothing.
use mathlib.Core.Path.{◌≡◌, sym, ◌∙◌, subst}
use mathlib.Core.Bool.{cond, Bool}
use Prim.Native.Nat.{ℕ}
use lib.Dec.{eqb}
use Rattle.records.specs.declared.Record.{Record}
use Rattle.commands.specs.declared.Form.{Form}
use Rattle.commands.specs.Commands.{Command, recorded, added, struck_out, wrong, finished}
use Rattle.verdict.specs.Steps.{State, stop}
use Rattle.verdict.specs.Check.{step}
use Rattle.verdict.proofs.Commands.{Fit, Known, fit-known}
use Rattle.verdict.proofs.ClauseSays.{AddedSays, StruckSays, FinishSays, added-says, struck-says, finish-says}
use Rattle.verdict.proofs.Offsets.{Offset, at-record, at-striking, behind-end, Placed, shut-placed}
use Rattle.demands.specs.Leaving.{OffsetOf}

record-offset : (st : State) (r : Record) (number offset : ℕ) → Offset st r number offset → offset ≡ cond (eqb number 11) 1 0
record-offset st r number offset (at-record here other _) = rw (here, other)
record-offset st r number offset (at-striking here number_is _ _ _) = rw (here, number_is)
record-offset st r number offset (behind-end behind number_is _) = rw (behind, number_is)

known-offset : (profile : Bool) (n s : ℕ) (st : State) (c : Command) → Known n c → (number offset : ℕ) → step profile n s st c
    ≡ stop number offset → OffsetOf c number offset
unfolding step
known-offset profile n s st (recorded r more) known number offset e = record-offset st r number offset
    (subst (Placed st r) e (shut-placed profile n s st more r))
known-offset profile n s st (added ls) known number offset e = (subst AddedSays e (added-says profile n s st ls)).1
known-offset profile n s st (struck_out ls) known number offset e = (subst StruckSays e (struck-says n st ls)).1
known-offset profile n s st (wrong k o) known number offset e =
    let same : number ≡ k = cc in let there : offset ≡ o = cc in (same, there, λ six. there ∙ known.2 (sym same ∙ six))
known-offset profile n s st finished known number offset e = (subst FinishSays e (finish-says st)).1

pub command-offset : (profile : Bool) (form : Form) (n s : ℕ) (st : State) (c : Command) → Fit form n c → (number offset : ℕ) →
    step profile n s st c ≡ stop number offset → OffsetOf c number offset
command-offset profile form n s st c fit number offset e = known-offset profile n s st c (fit-known form n c fit) number offset e
