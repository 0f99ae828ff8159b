-- `next_of` says what a step's laws do (Forced), in every table with these columns. Assumes nothing.
use mathlib.Core.Path.{◌≡◌, ap, sym, ◌∙◌}
use Prim.Native.Nat.{ℕ}
use Rattle.table.specs.Indexed.{Table, table_of}
use Rattle.operate.specs.declared.Operation.{Operation}
use Rattle.operate.specs.declared.step.Kind.{Kind}
use Rattle.operate.specs.declared.step.Sides.{Sides}
use Rattle.operate.specs.declared.step.Descent.{Descent}
use Rattle.table.specs.declared.Found.{Found}
use Rattle.words.specs.declared.Literals.{Literals}
use Rattle.operate.specs.Inner.{operation_of, terminal_of, sides_of, descent_of}
use Rattle.operate.proofs.Terminals.{told_of}
use Rattle.operate.proofs.Steps.{sides-ask}
use Rattle.operate.proofs.Results.{columns-hold}
use Rattle.operate.proofs.Forced.{next-told, next-two, next-leveled, next-beyond, next_one, next_both}
use Rattle.operate.proofs.step.next_of.Goals as goal

-- what the numbers tell
told : (kind : Kind) (by : Literals) (f g : ℕ) (o : Operation) (r : Found) → r ≡ terminal_of o f g → o ≡ operation_of kind by →
    terminal_of (operation_of kind by) f g ≡ r
told kind by f g o r e is = told_of (operation_of kind by) o f g r e is

-- the step that the code takes
stepped : (kind : Kind) (by : Literals) (T : Table) (f g : ℕ) (o : Operation) (s : Sides) (r : Descent) → r ≡ descent_of o s → o
    ≡ operation_of kind by
    → s ≡ sides_of T.vars T.lows T.highs f g → descent_of (operation_of kind by) (sides_of T.vars T.lows T.highs f g) ≡ r
stepped kind by T f g o s r e is sides =
    sym (e ∙ ap (λ (o : Operation). descent_of o s) is ∙ ap (descent_of (operation_of kind by)) sides)

pub is_beyond-requires : goal.is_beyond-requires
is_beyond-requires c =
    let a = c.args in
    let T : Table = table_of a.vars.now a.lows.now a.highs.now c.requires.heads c.requires.links c.requires.count in
    next-leveled a.kind a.by T a.f.0 a.g.0 c.requires.given
    (told a.kind a.by a.f.0 a.g.0 _ _ c.terminal.ensures c.operation_of.ensures ∙ c.in-Nothing.is)

pub returns-then-is_beyond : goal.returns-then-is_beyond
returns-then-is_beyond c =
    let a = c.args in
    λ heads links count H.
    next-beyond a.kind a.by (table_of a.vars.now a.lows.now a.highs.now heads links count) a.f.0 a.g.0 H
    (told a.kind a.by a.f.0 a.g.0 _ _ c.terminal.ensures c.operation_of.ensures ∙ c.in-Nothing.is)
    (sym c.is_beyond.ensures ∙ c.if-is_beyond.true)

pub sides_of-s-requires : goal.sides_of-s-requires
sides_of-s-requires c =
    let a = c.args in
    columns-hold (operation_of a.kind a.by)
    (table_of a.vars.now a.lows.now a.highs.now c.requires.heads c.requires.links c.requires.count) a.f.0 a.g.0 c.requires.given.operands

pub descent_of-requires : goal.descent_of-requires
descent_of-requires c =
    let a = c.args in
    let T : Table = table_of a.vars.now a.lows.now a.highs.now c.requires.heads c.requires.links c.requires.count in
    let y = c.sides_of-s in
    sides-ask (operation_of a.kind a.by) T a.f.0 a.g.0 c.requires.given.operands
    (next-two a.kind a.by T a.f.0 a.g.0 c.requires.given
    (told a.kind a.by a.f.0 a.g.0 _ _ c.terminal.ensures c.operation_of.ensures ∙ c.in-Nothing.is)) y.result y.ensures

pub returns-in-At : goal.returns-in-At
returns-in-At c =
    let a = c.args in
    λ heads links count H.
    next-told a.kind a.by (table_of a.vars.now a.lows.now a.highs.now heads links count) a.f.0 a.g.0 H c.in-At.k
    (told a.kind a.by a.f.0 a.g.0 _ _ c.terminal.ensures c.operation_of.ensures ∙ c.in-At.is)

pub returns-in-One : goal.returns-in-One
returns-in-One c =
    let a = c.args in
    λ heads links count H.
    let T : Table = table_of a.vars.now a.lows.now a.highs.now heads links count in
    next_one a.kind a.by T a.f.0 a.g.0 H
    (told a.kind a.by a.f.0 a.g.0 _ _ c.terminal.ensures c.operation_of.ensures ∙ c.in-Nothing.is) c.in-One.a c.in-One.b
    (stepped a.kind a.by T a.f.0 a.g.0 _ _ _ c.descent_of.ensures c.operation_of-in-Nothing.ensures c.sides_of-s.ensures ∙ c.in-One.is)

pub returns-in-Both : goal.returns-in-Both
returns-in-Both c =
    let a = c.args in
    λ heads links count H.
    let T : Table = table_of a.vars.now a.lows.now a.highs.now heads links count in
    next_both a.kind a.by T a.f.0 a.g.0 H
    (told a.kind a.by a.f.0 a.g.0 _ _ c.terminal.ensures c.operation_of.ensures ∙ c.in-Nothing.is) c.in-Both.s
    (stepped a.kind a.by T a.f.0 a.g.0 _ _ _ c.descent_of.ensures c.operation_of-in-Nothing.ensures c.sides_of-s.ensures ∙ c.in-Both.is)
