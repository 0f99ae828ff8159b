-- `to_binary` puts clause after clause. The loop: what is to be converted is what is left to be converted, with the output so far. The
-- measure is what is left of the proof, since a clause has bytes. Assumes nothing.
use mathlib.Core.Path.{sym, ap, ◌∙◌, subst}
use Prim.Native.Nat.{ℕ}
use native.Mathlib.Omega.{arith}
use lib.ListN.{length}
use Rattle.dimacs.specs.Text.{between}
use Rattle.commands.specs.declared.Form.TheVariants.{Text}
use Rattle.convert.specs.Convert.{lines_of, binary_line, converted_by, to_binary}
use Rattle.convert.specs.Inner.{text_next}
use Rattle.convert.proofs.Lines.{text-lines-at, text-past, Remains, remains-start, remains-end, remains-refused}
use Rattle.convert.proofs.Lines.{remains-closed, cleared-long, cleared-own}
use Rattle.convert.proofs.from_text.to_binary.Goals as goal

pub loop-at-init : goal.loop-at-init
loop-at-init c = remains-start binary_line Text _ _ _ _
    (cleared-own c.clear_bytes.new.bytes (length c.args.out.now)
    c.clear_bytes.ensures) c.skip_between-at.ensures.value c.skip_between-at.ensures.lower_bound.1

pub skip_between-at-requires-in-Ok : goal.skip_between-at-requires-in-Ok
skip_between-at-requires-in-Ok c =
    let s = c.args.text.now in
    let at = c.loop-at.at in
    let B = remains-closed binary_line Text s _ _ _ at c.loop-at.invariant (between s) (text_next s at).strikes c.clause_line.new.out
    (text_next s at).body (text-lines-at s at c.loop-at-test.true) _ c.in-Ok.ensures in
    B.behind

pub loop-at-smaller : goal.loop-at-smaller
loop-at-smaller c =
    let s = c.args.text.now in
    let at = c.loop-at.at in
    let B = remains-closed binary_line Text s _ _ _ at c.loop-at.invariant (between s) (text_next s at).strikes c.clause_line.new.out
    (text_next s at).body (text-lines-at s at c.loop-at-test.true) _ c.in-Ok.ensures in
    omega (arith, B.moves, B.remains.within, c.skip_between-at-in-Ok.ensures.value)

pub loop-at-preserved : goal.loop-at-preserved
loop-at-preserved c =
    let s = c.args.text.now in
    let at = c.loop-at.at in
    let B = remains-closed binary_line Text s _ _ _ at c.loop-at.invariant (between s) (text_next s at).strikes c.clause_line.new.out
    (text_next s at).body (text-lines-at s at c.loop-at-test.true) _ c.in-Ok.ensures in
    subst (Remains binary_line Text _ _ _ _) (sym c.skip_between-at-in-Ok.ensures.value) B.remains

pub returns-in-Err : goal.returns-in-Err
unfolding to_binary
returns-in-Err c =
    let s = c.args.text.now in
    let at = c.loop-at.at in
    c.refuse.ensures
    ∙ sym (remains-refused binary_line Text s _ _ _ at c.loop-at.invariant (between s) (text_next s at).strikes
    c.clause_line.new.out (text_next s at).body (text-lines-at s at c.loop-at-test.true) _ c.in-Err.ensures)
    ∙ ap (λ (n : ℕ). converted_by binary_line n (lines_of Text s))
    (cleared-long c.clear_bytes.new.bytes (length c.args.out.now)
    c.clear_bytes.ensures)

pub returns : goal.returns
unfolding to_binary
returns c =
    c.finish.ensures
    ∙ sym (remains-end binary_line Text _ _ _ _ _ c.loop-at.invariant
    (λ k. text-past c.args.text.now c.loop-at.at k
    c.loop-at-test.false))
    ∙ ap (λ (n : ℕ). converted_by binary_line n (lines_of Text c.args.text.now))
    (cleared-long c.clear_bytes.new.bytes (length c.args.out.now)
    c.clear_bytes.ensures)
