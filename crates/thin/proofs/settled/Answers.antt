-- The code asks the numbers first and then what is shared, as the definition does. Assumes nothing.
use mathlib.Core.Path.{◌≡◌, sym, ◌∙◌}
use Rattle.operate.specs.Inner.{operation_of, terminal_of}
use Rattle.operate.proofs.Terminals.{told_of}
use Rattle.thin.proofs.Stepping.{numbers-tell, is-beyond, not_beyond}
use Prim.Native.Nat.{ℕ}
use Rattle.words.specs.declared.Literals as words
use Rattle.table.specs.declared.Found.{Found}
use Rattle.operate.specs.declared.Operation.{Operation}
use Rattle.operate.specs.declared.step.Kind.{Kind}
use Rattle.thin.proofs.settled.Goals as goal

-- what the numbers tell
told : (kind : Kind) (by : words.Literals) (f g : ℕ) (o : Operation) (r : Found) → r ≡ terminal_of o f g → o ≡ operation_of kind by
    → terminal_of (operation_of kind by) f g ≡ r
told kind by f g o r e is = told_of (operation_of kind by) o f g r e is

pub is_beyond-requires : goal.is_beyond-requires
is_beyond-requires c =
    c.requires (told c.args.kind c.args.by c.args.f.0 c.args.g.0 _ _ c.terminal.ensures c.operation_of.ensures ∙ c.in-Nothing.is)

pub returns-then-is_beyond : goal.returns-then-is_beyond
returns-then-is_beyond c =
    is-beyond c.args.vars.now c.args.kind c.args.by c.args.f.0 c.args.g.0
    (told c.args.kind c.args.by c.args.f.0 c.args.g.0 _ _ c.terminal.ensures c.operation_of.ensures ∙ c.in-Nothing.is)
    (sym c.is_beyond.ensures ∙ c.if-is_beyond.true)

pub returns-in-At : goal.returns-in-At
returns-in-At c =
    numbers-tell c.args.vars.now c.args.kind c.args.by c.args.f.0 c.args.g.0 c.in-At.k
    (told c.args.kind c.args.by c.args.f.0 c.args.g.0 _ _ c.terminal.ensures c.operation_of.ensures ∙ c.in-At.is)

pub returns-else-is_beyond : goal.returns-else-is_beyond
returns-else-is_beyond c =
    not_beyond c.args.vars.now c.args.kind c.args.by c.args.f.0 c.args.g.0
    (told c.args.kind c.args.by c.args.f.0 c.args.g.0 _ _ c.terminal.ensures c.operation_of.ensures ∙ c.in-Nothing.is)
    (sym c.is_beyond.ensures ∙ c.if-is_beyond.false)
