-- `is_cnf`: a word of three bytes, `c`, `n` and `f`. Assumes nothing.
use mathlib.Core.Path.{sym, ◌∙◌}
use mathlib.Core.Bool.{and-true}
use mathlib.Core.List.{List, [], ◌∷◌}
use Prim.Native.Nat.{ℕ}
use native.Mathlib.Omega.{arith}
use borrow.Author.Tests.{eq-eqb, ne_eqb}
use Rattle.dimacs.proofs.Lines.{word-not, word-is}
use Rattle.dimacs.proofs.header_line.is_cnf.Goals as goal

abbrev letters : List ℕ
letters = 99 ∷ 110 ∷ 102 ∷ []

pub returns-then-end-at-ne3 : goal.returns-then-end-at-ne3
returns-then-end-at-ne3 c = sym (word-not _ _ _ (99 ∷ 110 ∷ 102 ∷ []) c.past_class-end.ensures.value c.if-end-at-ne3.true)

pub returns-then-s-at-ne99 : goal.returns-then-s-at-ne99
returns-then-s-at-ne99 c = sym (word-is _ _ _ letters c.past_class-end.ensures.value (omega arith) c.if-end-at-ne3.false
    ∙ rw (ne_eqb _ _ c.if-s-at-ne99.true))

pub returns-then-s-second-ne110 : goal.returns-then-s-second-ne110
returns-then-s-second-ne110 c = sym (word-is _ _ _ letters c.past_class-end.ensures.value (omega arith) c.if-end-at-ne3.false
    ∙ rw (eq-eqb _ _ c.if-s-at-ne99.false, ne_eqb _ _ c.if-s-second-ne110.true))

pub returns : goal.returns
returns c = sym
    (word-is _ _ _ letters c.past_class-end.ensures.value (omega arith) c.if-end-at-ne3.false
    ∙ rw (eq-eqb _ _ c.if-s-at-ne99.false, eq-eqb _ _ c.if-s-second-ne110.false) (and-true _))
