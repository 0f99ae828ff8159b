-- `call` says 7, or works with the memo that the table asks for. Assumes nothing.
use mathlib.Core.Path.{sym, ◌∙◌}
use Rattle.single.proofs.Calls.{called-7}
use Rattle.single.proofs.call.call.Goals as goal

pub returns-then-not-size_fits : goal.returns-then-not-size_fits
returns-then-not-size_fits c =
    called-7 _ _ _ _ _ (sym c.size_fits.ensures ∙ c.if-not-size_fits.true)

pub judged_64-requires : goal.judged_64-requires
judged_64-requires c = (
  sym c.size_fits.ensures ∙ c.if-not-size_fits.false,
  c.requires,
)

pub returns-then-is_enough : goal.returns-then-is_enough
returns-then-is_enough c =
    c.judged_64.ensures

pub judged_4096-requires : goal.judged_4096-requires
judged_4096-requires c = (
  sym c.size_fits.ensures ∙ c.if-not-size_fits.false,
  c.requires,
)

pub returns-then-is_enough-2 : goal.returns-then-is_enough-2
returns-then-is_enough-2 c =
    c.judged_4096.ensures

pub judged_65536-requires : goal.judged_65536-requires
judged_65536-requires c = (
  sym c.size_fits.ensures ∙ c.if-not-size_fits.false,
  c.requires,
)

pub returns : goal.returns
returns c =
    c.judged_65536.ensures
