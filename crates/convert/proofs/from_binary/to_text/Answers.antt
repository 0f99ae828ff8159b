-- `to_text` puts clause after clause. The loop: what is to be converted is what is left to be converted, with the output so far. The
-- measure is what is left of the proof, since a clause has bytes. Assumes nothing.
use mathlib.Core.Path.{refl, sym, ap, ◌∙◌}
use Prim.Native.Nat.{ℕ}
use native.Mathlib.Omega.{arith}
use lib.ListN.{length}
use Rattle.commands.specs.declared.Form.TheVariants.{Binary}
use Rattle.convert.specs.Convert.{lines_of, text_line, converted_by, to_text}
use Rattle.convert.specs.Inner.{binary_next}
use Rattle.convert.proofs.Lines.{binary-lines-at, binary-past, remains-start, remains-end, remains-refused}
use Rattle.convert.proofs.Lines.{remains-closed, cleared-long, cleared-own}
use Rattle.convert.proofs.from_binary.to_text.Goals as goal

pub loop-at-init : goal.loop-at-init
loop-at-init c = remains-start text_line Binary _ _ _ _
    (cleared-own c.clear_bytes.new.bytes (length c.args.out.now)
    c.clear_bytes.ensures) refl (omega arith)

pub loop-at-smaller : goal.loop-at-smaller
loop-at-smaller c =
    let s = c.args.binary.now in
    let at = c.loop-at.at in
    let B = remains-closed text_line Binary s _ _ _ at c.loop-at.invariant (λ k. k) (binary_next s at).strikes c.clause_line.new.out
    (binary_next s at).body (binary-lines-at s at c.loop-at-test.true) _ c.in-Ok.ensures in
    omega (arith, B.moves, B.remains.within)

pub loop-at-preserved : goal.loop-at-preserved
loop-at-preserved c =
    let s = c.args.binary.now in
    let at = c.loop-at.at in
    let B = remains-closed text_line Binary s _ _ _ at c.loop-at.invariant (λ k. k) (binary_next s at).strikes c.clause_line.new.out
    (binary_next s at).body (binary-lines-at s at c.loop-at-test.true) _ c.in-Ok.ensures in
    B.remains

pub returns-in-Err : goal.returns-in-Err
unfolding to_text
returns-in-Err c =
    let s = c.args.binary.now in
    let at = c.loop-at.at in
    c.refuse.ensures
    ∙ sym (remains-refused text_line Binary s _ _ _ at c.loop-at.invariant (λ k. k) (binary_next s at).strikes
    c.clause_line.new.out (binary_next s at).body (binary-lines-at s at c.loop-at-test.true) _ c.in-Err.ensures)
    ∙ ap (λ (n : ℕ). converted_by text_line n (lines_of Binary s))
    (cleared-long c.clear_bytes.new.bytes (length c.args.out.now)
    c.clear_bytes.ensures)

pub returns : goal.returns
unfolding to_text
returns c =
    c.finish.ensures
    ∙ sym (remains-end text_line Binary _ _ _ _ _ c.loop-at.invariant
    (λ k. binary-past c.args.binary.now c.loop-at.at k
    c.loop-at-test.false))
    ∙ ap (λ (n : ℕ). converted_by text_line n (lines_of Binary c.args.binary.now))
    (cleared-long c.clear_bytes.new.bytes (length c.args.out.now)
    c.clear_bytes.ensures)
