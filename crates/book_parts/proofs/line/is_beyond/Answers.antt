-- `is_beyond`: case by case of the record. Assumes nothing.
use mathlib.Core.Path.{◌∙◌}
use native.Mathlib.Omega.{arith}
use borrow.Author.Tests.{lt-ltb, le-ltb}
use Rattle.book_parts.proofs.line.is_beyond.Goals as goal

pub returns-then-count-ge4096 : goal.returns-then-count-ge4096
returns-then-count-ge4096 c =
    rw (c.in-SetEntry.is, le-ltb c.args.count 4096 c.if-count-ge4096.true)

pub returns-then-count-lt4096 : goal.returns-then-count-lt4096
returns-then-count-lt4096 c =
    rw (c.in-NodeEntry.is, lt-ltb c.args.count 4096 c.if-count-lt4096.true)

pub returns-else-count-lt4096 : goal.returns-else-count-lt4096
returns-else-count-lt4096 c =
    rw (c.in-NodeEntry.is, le-ltb c.args.count 4096 (omega (arith, c.if-count-lt4096.false)))

pub returns-in-Witness : goal.returns-in-Witness
returns-in-Witness c =
    rw c.in-Witness.is

pub returns-else-count-ge4096 : goal.returns-else-count-ge4096
returns-else-count-ge4096 c =
    c.is_beyond.ensures ∙ rw (
      c.in-SetEntry.is,
      lt-ltb c.args.count 4096
          (omega (arith, c.if-count-ge4096.false)),
    )
