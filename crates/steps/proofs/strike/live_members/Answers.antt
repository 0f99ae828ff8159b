-- `live_members` gathers the members whose mark is 0, place after place. Assumes nothing.
use mathlib.Core.Path.{sym, subst}
use Rattle.steps.proofs.strike.live_members.Goals.{then-struck-i-eq0, else-struck-i-eq0}
use mathlib.Core.List.{List}
use Prim.Native.Nat.{ℕ, ◌+◌}
use Rattle.steps.proofs.Strikings.{Gathered, gathered_none, gathered-live, gathered-struck, gathered-all}
use Rattle.steps.proofs.strike.live_members.Goals as goal

pub loop-i-init : goal.loop-i-init
loop-i-init c = gathered_none _ _ _ _

pub loop-i-preserved : goal.loop-i-preserved
loop-i-preserved c =
    elim c.if-struck-i-eq0.branch [
      | then-struck-i-eq0 w ↦
          subst (λ (live : List ℕ). Gathered c.args.struck.now c.args.members.now c.args.m c.args.live.now live
          (c.loop-i.i + 1) c.if-struck-i-eq0.count) (sym w.live-is)
          (subst (Gathered c.args.struck.now c.args.members.now c.args.m c.args.live.now _ (c.loop-i.i + 1)) (sym w.count-is)
          (gathered-live _ _ _ _ _ _ _ c.loop-i.invariant c.loop-i-test.true c.requires.1 c.requires.0 c.requires.2 w.if-struck-i-eq0.true))
      | else-struck-i-eq0 w ↦
          subst (λ (live : List ℕ). Gathered c.args.struck.now c.args.members.now c.args.m c.args.live.now live
          (c.loop-i.i + 1) c.if-struck-i-eq0.count) (sym w.live-is)
          (subst (Gathered c.args.struck.now c.args.members.now c.args.m c.args.live.now _ (c.loop-i.i + 1)) (sym w.count-is)
          (gathered-struck _ _ _ _ _ _ _ c.loop-i.invariant c.loop-i-test.true c.requires.1 c.requires.0 c.requires.2
          w.if-struck-i-eq0.false))
    ]

pub returns : goal.returns
returns c = gathered-all _ _ _ _ _ _ _ c.loop-i.invariant c.loop-i-test.false
