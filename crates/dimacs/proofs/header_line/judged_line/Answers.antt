-- `judged_line` finds the first line that is neither blank nor a comment. The loop: the line to be found is the one to be found
-- from `at` on. The measure is what is left of the text. Assumes nothing.
use mathlib.Core.Path.{◌≡◌, sym, ◌∙◌}
use mathlib.Core.Bool.{true}
use mathlib.Core.List.{List}
use Prim.Native.Nat.{ℕ, ◌<◌, ◌-◌, ◌+◌}
use Rattle.dimacs.specs.Text.{line_end}
use native.Mathlib.Omega.{arith}
use lib.ListN.{length}
use Rattle.dimacs.specs.Header.{judged_from, is_passed}
use Rattle.dimacs.proofs.Lines.{judged-fuel, judged-end, judged-stop, judged-go}
use Rattle.dimacs.proofs.header_line.judged_line.Goals as goal

-- A line that is passed: the next one is looked for behind it.
passed : (s : List ℕ) (at end : ℕ) → judged_from s (length s) 0 ≡ judged_from s (length s - at) at → at < length s → is_passed s at ≡ true
    → end ≡ line_end s at → judged_from s (length s) 0 ≡ judged_from s (length s - (end + 1)) (end + 1)
passed s at end i h p e = i ∙ judged-go s at h p ∙ rw (sym e)

pub loop-at-init : goal.loop-at-init
loop-at-init c = (omega arith, judged-fuel _ (length c.args.s.now) _ 0 (omega arith) (omega arith))

pub returns-then-not-is_passed : goal.returns-then-not-is_passed
returns-then-not-is_passed c = record {
  value = sym (c.loop-at.invariant.1 ∙ judged-stop _ _ c.loop-at-test.true
      (sym c.is_passed.ensures ∙ c.if-not-is_passed.true));
  upper_bound = c.loop-at.invariant.0;
}

pub returns-then-end-s : goal.returns-then-end-s
returns-then-end-s c = record {
  value = c.if-end-s.true ∙ sym
      (passed _ _ _ c.loop-at.invariant.1 c.loop-at-test.true (sym c.is_passed.ensures ∙ c.if-not-is_passed.false)
      c.past_class-end.ensures.value ∙ judged-end _ _ _ (omega arith));
  upper_bound = omega arith;
}

pub loop-at-preserved : goal.loop-at-preserved
loop-at-preserved c = (
  omega arith,
  passed _ _ _ c.loop-at.invariant.1 c.loop-at-test.true
      (sym c.is_passed.ensures ∙ c.if-not-is_passed.false) c.past_class-end.ensures.value,
)

pub returns : goal.returns
returns c = record {
  value = omega (arith, c.loop-at-test.false) ∙ sym (c.loop-at.invariant.1 ∙ judged-end _ _ _ c.loop-at-test.false);
  upper_bound = omega arith;
}
