-- `way_down` is the way of its kind; a cofactor by literals has node 1 for its second. Assumes nothing.
use mathlib.Core.Path.{◌≡◌, sym, subst}
use Prim.Native.Nat.{ℕ}
use Rattle.table.specs.Indexed.{table_of}
use Rattle.operate.specs.Inner.{operation_of}
use Rattle.operate.specs.declared.step.Kind.{Kind}
use Rattle.thin.specs.Thin.{by_literals, SomeGiven, CameBy}
use mathlib.Core.List.{List}
use Rattle.words.specs.declared.Literals as words
use Rattle.operate.specs.declared.step.Kind.TheVariants.{ByLiterals}
use Rattle.thin.proofs.way_down.Goals as goal

-- the operation is by literals, and its second node 1
given : (kind : Kind) (by : words.Literals) (vars lows highs : List ℕ) (first second : ℕ) → kind ≡ ByLiterals
    → SomeGiven (operation_of kind by) by.positive vars lows highs first second
    → SomeGiven (by_literals by) by.positive vars lows highs first second
given kind by vars lows highs first second e h =
    subst (λ (kind : Kind). SomeGiven (operation_of kind by) by.positive vars lows highs first second) e h

pub go_down_by-requires : goal.go_down_by-requires
go_down_by-requires c =
    let a = c.args in
    let G = given a.kind a.by a.vars.now a.lows.now a.highs.now a.first.0 a.second.0 c.in-ByLiterals.is c.requires.0 in (
      subst (SomeGiven (by_literals a.by) a.by.positive a.vars.now a.lows.now a.highs.now a.first.0) G.given.operands.allowed G,
      c.requires.1,
      c.requires.2,
      c.requires.3,
    )

pub returns-in-ByLiterals : goal.returns-in-ByLiterals
returns-in-ByLiterals c =
    let a = c.args in
    let y = c.go_down_by in
    let G = given a.kind a.by a.vars.now a.lows.now a.highs.now a.first.0 a.second.0 c.in-ByLiterals.is c.requires.0 in
    λ heads links count.
    let t = table_of a.vars.now a.lows.now a.highs.now heads links count in
    subst (λ (kind : Kind). CameBy (operation_of kind a.by) a.by.positive t a.first.0 a.second.0 y.new.xs y.new.told y.new.sides y.result)
    (sym c.in-ByLiterals.is)
    (subst (λ (g : ℕ). CameBy (by_literals a.by) a.by.positive t a.first.0 g y.new.xs y.new.told y.new.sides y.result)
    (sym G.given.operands.allowed) (y.ensures heads links count))
