-- The walk over the two lists: the places found so far are those at which they differ. Assumes nothing.
use mathlib.Core.Path.{sym, subst}
use mathlib.Core.List.{List}
use Prim.Native.Nat.{ℕ, ◌+◌, ◌-◌}
use native.Mathlib.Omega.{arith}
use Rattle.quiet.proofs.Known.{Differing, differing-none, differing-passed, differing-added, differing-all}
use Rattle.quiet.proofs.changed_places.Goals as goal
use Rattle.quiet.proofs.changed_places.Goals.{then-list-i, else-list-i}

pub loop-i-init : goal.loop-i-init
loop-i-init c = differing-none _ _ _

pub loop-i-preserved : goal.loop-i-preserved
loop-i-preserved c =
    let a = c.args in
    let p = c.loop-i-test.true in
    elim c.if-list-i.branch [
      | then-list-i w ↦
          subst (λ (places : List ℕ). Differing a.known.now a.list.now a.places.now places (c.loop-i.i + 1) c.if-list-i.count)
          (sym w.places-is)
          (subst (Differing a.known.now a.list.now a.places.now _ (c.loop-i.i + 1)) (sym w.count-is)
          (differing-added a.known.now a.list.now a.places.now c.loop-i.places c.loop-i.i c.loop-i.count c.loop-i.invariant p c.requires.1))
      | else-list-i w ↦
          subst (λ (places : List ℕ). Differing a.known.now a.list.now a.places.now places (c.loop-i.i + 1) c.if-list-i.count)
          (sym w.places-is)
          (subst (Differing a.known.now a.list.now a.places.now _ (c.loop-i.i + 1)) (sym w.count-is)
          (differing-passed a.known.now a.list.now a.places.now c.loop-i.places c.loop-i.i c.loop-i.count c.loop-i.invariant p
          w.if-list-i.false))
    ]

pub returns : goal.returns
returns c =
    differing-all c.args.known.now c.args.list.now c.args.places.now c.loop-i.places c.loop-i.i c.loop-i.count c.loop-i.invariant
    (omega (arith, c.loop-i-test.false))
