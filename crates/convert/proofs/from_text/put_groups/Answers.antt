-- `put_groups`: one group, or two of which the second is 1. Assumes nothing.
use mathlib.Core.Path.{ap, subst, sym, ◌∙◌}
use Prim.Native.Nat.{ℕ, ◌<◌}
use Rattle.convert.specs.Convert.{groups_of}
use Rattle.convert.specs.Inner.{Poured, poured, put_byte, put_all}
use Rattle.convert.proofs.Pouring.{groups-short, groups-long, code-small}
use Rattle.convert.proofs.from_text.put_groups.Goals as goal

pub returns-then-number-lt128 : goal.returns-then-number-lt128
returns-then-number-lt128 c = c.put.ensures ∙ groups-short _ _ c.if-number-lt128.true
    ∙ ap (λ (u : ℕ). put_all (poured c.args.out.now c.args.many) (groups_of u))
    c.code_of-number.ensures

pub returns : goal.returns
returns c =
    let a = c.args in
    c.put-2.ensures ∙ ap (λ (w : Poured). put_byte w 1) c.put-next.ensures
    ∙ groups-long _ _ c.if-number-lt128.false
    (subst (λ (u : ℕ). u < 256) (sym c.code_of-number.ensures)
    (code-small a.literal.variable a.literal.positive c.requires))
    ∙ ap (λ (u : ℕ). put_all (poured a.out.now a.many) (groups_of u)) c.code_of-number.ensures
