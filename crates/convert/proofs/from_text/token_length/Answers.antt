-- `token_length`: one or two digits, and a minus. Assumes nothing.
use borrow.Author.Tests.{lt-ltb, le-ltb}
use Rattle.convert.proofs.from_text.token_length.Goals as goal
use Rattle.convert.proofs.from_text.token_length.Goals.{then-literal-lt10, else-literal-lt10}

pub returns-then-literal : goal.returns-then-literal
returns-then-literal c =
    elim c.if-literal-lt10.branch [
      | then-literal-lt10 w ↦ rw (w.digits-is, c.if-literal.true, lt-ltb c.args.literal.variable 10 w.if-literal-lt10.true)
      | else-literal-lt10 w ↦ rw (w.digits-is, c.if-literal.true, le-ltb c.args.literal.variable 10 w.if-literal-lt10.false)
    ]

pub returns-else-literal : goal.returns-else-literal
returns-else-literal c =
    elim c.if-literal-lt10.branch [
      | then-literal-lt10 w ↦ rw (w.digits-is, c.if-literal.false, lt-ltb c.args.literal.variable 10 w.if-literal-lt10.true)
      | else-literal-lt10 w ↦ rw (w.digits-is, c.if-literal.false, le-ltb c.args.literal.variable 10 w.if-literal-lt10.false)
    ]
