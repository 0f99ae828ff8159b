-- Each step is that of the recursion, in every table with these columns. Assumes nothing.
use mathlib.Core.Path.{◌≡◌, ap, sym, ◌∙◌}
use mathlib.Core.List.{List}
use Prim.Native.Nat.{ℕ}
use Rattle.table.specs.Indexed.{Table, table_of}
use Rattle.operate.specs.declared.Operation.{Operation}
use Rattle.operate.specs.Inner.{operation_of, sides_of, descent_of}
use Rattle.operate.proofs.Steps.{sides-ask}
use Rattle.operate.proofs.Results.{columns-hold}
use Rattle.thin.proofs.Stepping.{given-leveled, settled-two, step-told, pair_left, sides-left, sides-say}
use Rattle.words.specs.declared.Literals as words
use Rattle.operate.specs.declared.step.Kind.{Kind}
use Rattle.operate.specs.declared.step.Sides.{Sides}
use Rattle.operate.specs.declared.step.Descent.{Descent}
use Rattle.thin.proofs.step_down.Goals as goal

-- the step that the code takes
stepped : (kind : Kind) (by : words.Literals) (vars lows highs : List ℕ) (f g : ℕ) (o : Operation) (s : Sides) (r : Descent) → r
    ≡ descent_of o s
    → o ≡ operation_of kind by → s ≡ sides_of vars lows highs f g → descent_of (operation_of kind by) (sides_of vars lows highs f g) ≡ r
stepped kind by vars lows highs f g o s r e is sides =
    sym (e ∙ ap (λ (o : Operation). descent_of o s) is ∙ ap (descent_of (operation_of kind by)) sides)

pub settled-requires : goal.settled-requires
settled-requires c =
    let a = c.args in
    let r = c.requires in
    let op : Operation = operation_of a.kind a.by in
    let T : Table = table_of a.vars.now a.lows.now a.highs.now r.heads r.links r.count in
    given-leveled op a.by.positive T a.f.0 a.g.0 r.given

pub sides_of-s-requires : goal.sides_of-s-requires
sides_of-s-requires c =
    let a = c.args in
    let r = c.requires in
    let op : Operation = operation_of a.kind a.by in
    let T : Table = table_of a.vars.now a.lows.now a.highs.now r.heads r.links r.count in
    columns-hold op T a.f.0 a.g.0 r.given.operands

pub descent_of-requires : goal.descent_of-requires
descent_of-requires c =
    let a = c.args in
    let r = c.requires in
    let op : Operation = operation_of a.kind a.by in
    let T : Table = table_of a.vars.now a.lows.now a.highs.now r.heads r.links r.count in
    let y = c.sides_of-s in
    sides-ask op T a.f.0 a.g.0 r.given.operands
    (settled-two a.kind a.by T a.f.0 a.g.0 r.given (sym c.settled.ensures ∙ c.in-Nothing.is)) y.result y.ensures

pub one_side-requires : goal.one_side-requires
one_side-requires c =
    let a = c.args in
    let r = c.requires in
    let op : Operation = operation_of a.kind a.by in
    let T : Table = table_of a.vars.now a.lows.now a.highs.now r.heads r.links r.count in
    record {
      lows = T.lows;
      highs = T.highs;
      heads = T.heads;
      links = T.links;
      count = T.count;
      given =
          sides-left a.kind a.by T a.f.0 a.g.0 r.given (sym c.settled.ensures ∙ c.in-Nothing.is) c.in-Both.s
          (stepped a.kind a.by a.vars.now a.lows.now a.highs.now a.f.0 a.g.0 _ _ _ c.descent_of.ensures c.operation_of.ensures
          c.sides_of-s.ensures ∙ c.in-Both.is);
    }

pub returns-in-At : goal.returns-in-At
returns-in-At c =
    let a = c.args in
    λ heads links count H.
    step-told a.kind a.by (table_of a.vars.now a.lows.now a.highs.now heads links count) a.f.0 a.g.0 H c.in-At.k
    (sym c.settled.ensures ∙ c.in-At.is)

pub returns-in-One : goal.returns-in-One
returns-in-One c =
    let a = c.args in
    λ heads links count H.
    pair_left a.kind a.by (table_of a.vars.now a.lows.now a.highs.now heads links count) a.f.0 a.g.0 H
    (sym c.settled.ensures ∙ c.in-Nothing.is) c.in-One.a c.in-One.b
    (stepped a.kind a.by a.vars.now a.lows.now a.highs.now a.f.0 a.g.0 _ _ _ c.descent_of.ensures c.operation_of.ensures
    c.sides_of-s.ensures ∙ c.in-One.is)

pub returns-in-Both : goal.returns-in-Both
returns-in-Both c =
    let a = c.args in
    let n = sym c.settled.ensures ∙ c.in-Nothing.is in
    let e = stepped a.kind a.by a.vars.now a.lows.now a.highs.now a.f.0 a.g.0 _ _ _ c.descent_of.ensures c.operation_of.ensures
    c.sides_of-s.ensures ∙ c.in-Both.is in
    λ heads links count H.
    let t : Table = table_of a.vars.now a.lows.now a.highs.now heads links count in
    sides-say a.kind a.by t a.f.0 a.g.0 H n c.in-Both.s e c.one_side.result
    (c.one_side.ensures a.lows.now a.highs.now heads links count (sides-left a.kind a.by t a.f.0 a.g.0 H n c.in-Both.s e))
