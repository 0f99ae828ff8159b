-- `rebuild`: the own nodes, then the members, placed one after the other (Making). Assumes nothing.
use mathlib.Core.Path.{◌∙◌}
use Rattle.book_parts.proofs.Making.{ready-again, first_short, then-members}
use Rattle.book_parts.proofs.own.rebuild.Goals as goal

pub adopt-a-requires : goal.adopt-a-requires
adopt-a-requires c =
    c.requires.0

pub shape_of-ownvars-then-a : goal.shape_of-ownvars-then-a
shape_of-ownvars-then-a c =
    c.adopt-a.auto.ownvars

pub shape_of-ownlows-then-a : goal.shape_of-ownlows-then-a
shape_of-ownlows-then-a c =
    c.adopt-a.auto.ownlows

pub shape_of-ownhighs-then-a : goal.shape_of-ownhighs-then-a
shape_of-ownhighs-then-a c =
    c.adopt-a.auto.ownhighs

pub shape_of-ownheads-then-a : goal.shape_of-ownheads-then-a
shape_of-ownheads-then-a c =
    c.adopt-a.auto.ownheads

pub shape_of-ownlinks-then-a : goal.shape_of-ownlinks-then-a
shape_of-ownlinks-then-a c =
    c.adopt-a.auto.ownlinks

pub shape_of-known-then-a : goal.shape_of-known-then-a
shape_of-known-then-a c =
    c.adopt-a.auto.known

pub returns-then-a : goal.returns-then-a
returns-then-a c =
    first_short _ _ _ _ _ _ _ c.adopt-a.ensures c.if-a.true _

pub adopt_members-requires : goal.adopt_members-requires
adopt_members-requires c =
    (ready-again _ _ _ _ _ _ c.requires.0 _ _ _ _ c.adopt-a.ensures c.adopt-a.auto.known, c.requires.1)

pub shape_of-ownvars : goal.shape_of-ownvars
shape_of-ownvars c =
    c.adopt_members.auto.ownvars ∙ c.adopt-a.auto.ownvars

pub shape_of-ownlows : goal.shape_of-ownlows
shape_of-ownlows c =
    c.adopt_members.auto.ownlows ∙ c.adopt-a.auto.ownlows

pub shape_of-ownhighs : goal.shape_of-ownhighs
shape_of-ownhighs c =
    c.adopt_members.auto.ownhighs ∙ c.adopt-a.auto.ownhighs

pub shape_of-ownheads : goal.shape_of-ownheads
shape_of-ownheads c =
    c.adopt_members.auto.ownheads ∙ c.adopt-a.auto.ownheads

pub shape_of-ownlinks : goal.shape_of-ownlinks
shape_of-ownlinks c =
    c.adopt_members.auto.ownlinks ∙ c.adopt-a.auto.ownlinks

pub shape_of-known : goal.shape_of-known
shape_of-known c =
    c.adopt_members.auto.known
    ∙ c.adopt-a.auto.known

pub shape_of-found : goal.shape_of-found
shape_of-found c =
    c.adopt_members.auto.found

pub returns : goal.returns
returns c = (
  then-members _ _ _ _ _ _ _ c.adopt-a.ensures c.if-a.false _ _ _ c.adopt_members.ensures.0,
  c.adopt_members.ensures.1,
)
