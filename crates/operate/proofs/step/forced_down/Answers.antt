-- Where the steps have come the result stays the one asked, in every table with these columns, and each step comes to later variables
-- (Forced). Assumes nothing.
use mathlib.Core.Path.{◌≡◌, subst}
use Prim.Native.Nat.{ℕ, ◌-◌}
use native.Mathlib.Omega.{arith}
use Rattle.table.specs.Indexed.{Table, table_of}
use Rattle.operate.specs.declared.Operation.{Operation}
use Rattle.operate.specs.declared.step.Next.{Next}
use Rattle.operate.specs.declared.step.Next.TheVariants.{Told, One, Both}
use Rattle.operate.specs.Inner.{operation_of, Given, NextSays}
use Rattle.operate.proofs.Forced.{Forced, forced-none, forced-told, forced-one, forced-both, top_within}
use Rattle.operate.proofs.step.forced_down.Goals as goal

-- what the code's step says
says : (op : Operation) (shared : ℕ) (T : Table) (first second f g : ℕ) (x r : Next) → x ≡ r →
    (Given op shared T f g → NextSays op shared T f g x)
    → Forced op shared T first second f g → NextSays op shared T f g r
says op shared T first second f g x r e told W = subst (NextSays op shared T f g) e (told W.given)

pub loop-k-init : goal.loop-k-init
loop-k-init c = λ heads links count H. forced-none _ _ _ _ _ H

pub next_of-requires : goal.next_of-requires
next_of-requires c =
    let r = c.requires in
    record { heads = r.heads; links = r.links; count = r.count; given = (c.loop-k.invariant r.heads r.links r.count r.given).given }

pub returns-in-Told : goal.returns-in-Told
returns-in-Told c =
    let a = c.args in
    let l = c.loop-k in
    λ heads links count H.
    let W = l.invariant heads links count H in
    let T : Table = table_of a.vars.now a.lows.now a.highs.now heads links count in
    forced-told (operation_of a.kind a.by) a.by.positive T a.first.0 a.second.0 l.f.0 l.g.0 H W c.in-Told.k
    (says _ _ T _ _ _ _ _ (Told c.in-Told.k) c.in-Told.is (c.next_of.ensures heads links count) W)

pub loop-k-smaller : goal.loop-k-smaller
loop-k-smaller c =
    let a = c.args in
    let l = c.loop-k in
    let r = c.requires in
    let W = l.invariant r.heads r.links r.count r.given in
    let T : Table = table_of a.vars.now a.lows.now a.highs.now r.heads r.links r.count in
    let h = says (operation_of a.kind a.by) a.by.positive T a.first.0 a.second.0 l.f.0 l.g.0 _ (One c.in-One.a c.in-One.b) c.in-One.is
    (c.next_of.ensures r.heads r.links r.count) W in
    omega (arith, h.1, top_within a.kind a.by T c.in-One.a.0 c.in-One.b.0 h.0)

pub loop-k-preserved : goal.loop-k-preserved
loop-k-preserved c =
    let a = c.args in
    let l = c.loop-k in
    λ heads links count H.
    let W = l.invariant heads links count H in
    let T : Table = table_of a.vars.now a.lows.now a.highs.now heads links count in
    forced-one (operation_of a.kind a.by) a.by.positive T a.first.0 a.second.0 l.f.0 l.g.0 H W c.in-One.a c.in-One.b
    (says _ _ T _ _ _ _ _ (One c.in-One.a c.in-One.b) c.in-One.is (c.next_of.ensures heads links count) W)

pub returns-in-Both : goal.returns-in-Both
returns-in-Both c =
    let a = c.args in
    let l = c.loop-k in
    λ heads links count H.
    let W = l.invariant heads links count H in
    let T : Table = table_of a.vars.now a.lows.now a.highs.now heads links count in
    forced-both (operation_of a.kind a.by) a.by.positive T a.first.0 a.second.0 l.f.0 l.g.0 H W c.in-Both.s
    (says _ _ T _ _ _ _ _ (Both c.in-Both.s) c.in-Both.is (c.next_of.ensures heads links count) W)
