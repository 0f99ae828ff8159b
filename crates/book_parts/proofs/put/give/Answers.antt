-- `give`: the parts one after the other (Giving). Assumes nothing.
use Prim.Native.Nat.{◌-◌}
use mathlib.Core.Path.{ap, ◌∙◌}
use native.Mathlib.Omega.{arith}
use lib.ListN.{take}
use Rattle.shares.specs.Books.{padded}
use Rattle.book_parts.proofs.Giving.{gives}
use Rattle.book_parts.proofs.put.give.Goals as goal

pub share-made-requires : goal.share-made-requires
share-made-requires c =
    c.requires.fact

pub renumber-requires : goal.renumber-requires
renumber-requires c =
    let R = c.requires.give_ready in record {
      m_in_bounds = (R.members, R.found);
      by_index = λ i p. omega (
        arith,
        R.inside i p,
        c.share-made.auto.own,
        c.requires.fact.room,
      );
    }

pub zero_numbers_from-requires : goal.zero_numbers_from-requires
zero_numbers_from-requires c =
    omega (arith, c.requires.give_ready.members, c.renumber.auto.members)

pub overflow_sub-owncount : goal.overflow_sub-owncount
overflow_sub-owncount c =
    c.requires.fact.readable.least

pub zero_numbers_from-requires-2 : goal.zero_numbers_from-requires-2
zero_numbers_from-requires-2 c =
    omega
    (arith, c.requires.fact.room, c.requires.fact.readable.least, c.share-made.auto.own)

pub copy_marks-requires : goal.copy_marks-requires
copy_marks-requires c =
    let R = c.requires.give_ready in (R.struck, R.marks)

pub zero_marks_from-requires : goal.zero_marks_from-requires
zero_marks_from-requires c =
    omega (arith, c.requires.give_ready.struck, c.copy_marks.auto.struck)

pub shape_of-vars : goal.shape_of-vars
shape_of-vars c =
    c.share-made.auto.vars

pub shape_of-lows : goal.shape_of-lows
shape_of-lows c =
    c.share-made.auto.lows

pub shape_of-highs : goal.shape_of-highs
shape_of-highs c =
    c.share-made.auto.highs

pub shape_of-heads : goal.shape_of-heads
shape_of-heads c =
    c.share-made.auto.heads

pub shape_of-links : goal.shape_of-links
shape_of-links c =
    c.share-made.auto.links

pub shape_of-own : goal.shape_of-own
shape_of-own c =
    c.zero_numbers_from-2.auto.list ∙ c.share-made.auto.own

pub shape_of-members : goal.shape_of-members
shape_of-members c =
    c.zero_numbers_from.auto.list ∙ c.renumber.auto.members

pub shape_of-struck : goal.shape_of-struck
shape_of-struck c =
    c.zero_marks_from.auto.list ∙ c.copy_marks.auto.struck

pub returns : goal.returns
returns c =
    let S = c.requires.fact in
    let R = c.requires.give_ready in
    gives _ _ _ _ _ _ _ _ _ _ S.readable.least c.share-made.new.own c.share-made.ensures R.found R.inside c.renumber.new.members
    c.renumber.ensures _
    (c.zero_numbers_from.ensures ∙ ap (padded (take c.args.m c.renumber.new.members)) c.renumber.auto.members) _
    (c.zero_numbers_from-2.ensures ∙ ap
    (padded (take (c.args.owncount - 2) c.share-made.new.own)) c.share-made.auto.own) c.copy_marks.new.struck
    c.copy_marks.ensures _
    (c.zero_marks_from.ensures ∙ ap (padded (take c.args.m c.copy_marks.new.struck)) c.copy_marks.auto.struck)
