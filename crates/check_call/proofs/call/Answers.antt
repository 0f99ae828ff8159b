-- `call` says 7, or what the check over the arrays says that the table asks for. Assumes nothing.
use mathlib.Core.Path.{sym, ◌∙◌}
use borrow.Author.Tests.{not-true}
use Rattle.session.proofs.Finish.{lent-sized}
use Rattle.check_call.proofs.Sizes.{called-7, called-done}
use Rattle.check_call.proofs.call.Goals as goal

pub returns-then-not-lent_fits : goal.returns-then-not-lent_fits
returns-then-not-lent_fits c =
    called-7 _ _ _ _ _ _ _ _ (sym c.lent_fits.ensures ∙ not-true _ c.if-not-lent_fits.true-raw)

pub check_64-requires : goal.check_64-requires
check_64-requires c =
    (sym c.lent_fits.ensures ∙ c.if-not-lent_fits.false, c.if-vars-le64.true)

pub shape_of-vars-then-vars-le64 : goal.shape_of-vars-then-vars-le64
shape_of-vars-then-vars-le64 c =
    c.check_64.auto.vars

pub shape_of-lows-then-vars-le64 : goal.shape_of-lows-then-vars-le64
shape_of-lows-then-vars-le64 c =
    c.check_64.auto.lows

pub shape_of-highs-then-vars-le64 : goal.shape_of-highs-then-vars-le64
shape_of-highs-then-vars-le64 c =
    c.check_64.auto.highs

pub shape_of-heads-then-vars-le64 : goal.shape_of-heads-then-vars-le64
shape_of-heads-then-vars-le64 c =
    c.check_64.auto.heads

pub shape_of-links-then-vars-le64 : goal.shape_of-links-then-vars-le64
shape_of-links-then-vars-le64 c =
    c.check_64.auto.links

pub shape_of-members-then-vars-le64 : goal.shape_of-members-then-vars-le64
shape_of-members-then-vars-le64 c =
    c.check_64.auto.members

pub shape_of-scratch-then-vars-le64 : goal.shape_of-scratch-then-vars-le64
shape_of-scratch-then-vars-le64 c =
    c.check_64.auto.scratch

pub shape_of-struck-then-vars-le64 : goal.shape_of-struck-then-vars-le64
shape_of-struck-then-vars-le64 c =
    c.check_64.auto.struck

pub returns-then-vars-le64 : goal.returns-then-vars-le64
returns-then-vars-le64 c =
    called-done _ _ _ _ _ _ _ _ (sym c.lent_fits.ensures ∙ c.if-not-lent_fits.false) _
    c.check_64.ensures

pub check_4096-requires : goal.check_4096-requires
check_4096-requires c =
    (sym c.lent_fits.ensures ∙ c.if-not-lent_fits.false, c.if-vars-le4096.true)

pub shape_of-vars-then-proof-le2048 : goal.shape_of-vars-then-proof-le2048
shape_of-vars-then-proof-le2048 c =
    c.check_4096.auto.vars

pub shape_of-lows-then-proof-le2048 : goal.shape_of-lows-then-proof-le2048
shape_of-lows-then-proof-le2048 c =
    c.check_4096.auto.lows

pub shape_of-highs-then-proof-le2048 : goal.shape_of-highs-then-proof-le2048
shape_of-highs-then-proof-le2048 c =
    c.check_4096.auto.highs

pub shape_of-heads-then-proof-le2048 : goal.shape_of-heads-then-proof-le2048
shape_of-heads-then-proof-le2048 c =
    c.check_4096.auto.heads

pub shape_of-links-then-proof-le2048 : goal.shape_of-links-then-proof-le2048
shape_of-links-then-proof-le2048 c =
    c.check_4096.auto.links

pub shape_of-members-then-proof-le2048 : goal.shape_of-members-then-proof-le2048
shape_of-members-then-proof-le2048 c =
    c.check_4096.auto.members

pub shape_of-scratch-then-proof-le2048 : goal.shape_of-scratch-then-proof-le2048
shape_of-scratch-then-proof-le2048 c =
    c.check_4096.auto.scratch

pub shape_of-struck-then-proof-le2048 : goal.shape_of-struck-then-proof-le2048
shape_of-struck-then-proof-le2048 c =
    c.check_4096.auto.struck

pub returns-then-proof-le2048 : goal.returns-then-proof-le2048
returns-then-proof-le2048 c =
    called-done _ _ _ _ _ _ _ _ (sym c.lent_fits.ensures ∙ c.if-not-lent_fits.false) _
    c.check_4096.ensures

pub check_65536-requires : goal.check_65536-requires
check_65536-requires c = (
  sym c.lent_fits.ensures ∙ c.if-not-lent_fits.false,
  (lent-sized _ _ _ _ (sym c.lent_fits.ensures ∙ c.if-not-lent_fits.false)).columns.most,
)

pub shape_of-vars : goal.shape_of-vars
shape_of-vars c =
    c.check_65536.auto.vars

pub shape_of-lows : goal.shape_of-lows
shape_of-lows c =
    c.check_65536.auto.lows

pub shape_of-highs : goal.shape_of-highs
shape_of-highs c =
    c.check_65536.auto.highs

pub shape_of-heads : goal.shape_of-heads
shape_of-heads c =
    c.check_65536.auto.heads

pub shape_of-links : goal.shape_of-links
shape_of-links c =
    c.check_65536.auto.links

pub shape_of-members : goal.shape_of-members
shape_of-members c =
    c.check_65536.auto.members

pub shape_of-scratch : goal.shape_of-scratch
shape_of-scratch c =
    c.check_65536.auto.scratch

pub shape_of-struck : goal.shape_of-struck
shape_of-struck c =
    c.check_65536.auto.struck

pub returns : goal.returns
returns c =
    called-done _ _ _ _ _ _ _ _ (sym c.lent_fits.ensures ∙ c.if-not-lent_fits.false) _
    c.check_65536.ensures
