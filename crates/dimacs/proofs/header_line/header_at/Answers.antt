-- `header_at` judges the line in the order of `judged_words`: what is known after `p` and `cnf`, after the two numbers, and after the
-- line's end leaves one judgement at each return. Assumes nothing.
use mathlib.Core.Path.{◌≡◌, sym, ◌∙◌}
use native.Mathlib.Omega.{arith}
use Rattle.std.proofs.lemmas.Result.{err_from_is_err_and}
use mathlib.Core.Bool.{true, cond}
use mathlib.Core.List.{List, [], ◌∷◌}
use Prim.Native.Nat.{ℕ}
use borrow.Author.Tests.{lt-ltb, le-ltb}
use Rattle.std.specs.Prelude.{None, Some}
use Rattle.dimacs.specs.Text.{line_end}
use Rattle.dimacs.specs.Inner.{natural_of, refusal_at}
use Rattle.dimacs.specs.Header.{Proper, Improper, word, is_word, ends_line, header_at}
use Rattle.dimacs.proofs.Headers.{within, numbered, judged_words, header-judged}
use Rattle.dimacs.proofs.header_line.header_at.Goals as goal
use Rattle.dimacs.proofs.header_line.header_at.Goals.{then-v-gt64-via-then-v-gt64, then-v-gt64-via-else-v-gt64+then-c-gt1024}

-- `p` and `cnf` stand there: the numbers decide.
spelled : (s : List ℕ) (at cnf variables clauses : ℕ) → header_at s at ≡ judged_words s at cnf variables clauses → is_word s at (112 ∷ [])
    ≡ true
    → is_word s cnf (99 ∷ 110 ∷ 102 ∷ []) ≡ true
    → header_at s at
    ≡ numbered (natural_of (word s variables)) (natural_of (word s clauses)) (ends_line s clauses) at (line_end s clauses)
spelled s at cnf variables clauses e p c = e ∙ rw (p, c)

-- Both numbers are there: the line's end and the limits decide.
counted : (s : List ℕ) (at variables clauses v c : ℕ)
    → header_at s at ≡ numbered (natural_of (word s variables)) (natural_of (word s clauses)) (ends_line s clauses) at (line_end s clauses)
    → natural_of (word s variables) ≡ Some v → natural_of (word s clauses) ≡ Some c
    → header_at s at ≡ cond (ends_line s clauses) (within v c at (line_end s clauses)) (Improper 1 at)
counted s at variables clauses v c e first second = e ∙ rw (first, second)

pub returns-then-not-is_letter : goal.returns-then-not-is_letter
returns-then-not-is_letter c =
    let e : header_at c.args.s.now c.args.at ≡ Improper 1 c.args.at = header-judged _ _ _ _ _ c.next_word-cnf.ensures.value
    c.next_word-variables.ensures.value c.next_word-clauses.ensures.value ∙ rw (sym c.is_letter.ensures ∙ c.if-not-is_letter.true) in
    rw e

pub returns-then-not-is_cnf : goal.returns-then-not-is_cnf
returns-then-not-is_cnf c =
    let e : header_at c.args.s.now c.args.at ≡ Improper 1 c.args.at = header-judged _ _ _ _ _ c.next_word-cnf.ensures.value
    c.next_word-variables.ensures.value c.next_word-clauses.ensures.value ∙ rw
    (sym c.is_letter.ensures ∙ c.if-not-is_letter.false, sym c.is_cnf.ensures ∙ c.if-not-is_cnf.true) in
    rw e

pub returns-in_err-v : goal.returns-in_err-v
returns-in_err-v c =
    let p = err_from_is_err_and c.from_residual.result c.from_residual.ensures.1 in
    let none : c.word_number.result ≡ None = grind arith in
    let same : c.in_err-v.field-0.0 ≡ refusal_at 1 c.args.at = grind arith in
    let e : header_at c.args.s.now c.args.at ≡ Improper 1 c.args.at =
    spelled _ _ _ _ _ (header-judged _ _ _ _ _ c.next_word-cnf.ensures.value c.next_word-variables.ensures.value
    c.next_word-clauses.ensures.value) (sym c.is_letter.ensures ∙ c.if-not-is_letter.false) (sym c.is_cnf.ensures ∙ c.if-not-is_cnf.false)
    ∙ rw (sym c.word_number.ensures ∙ none) in
    rw (p.1, p.2, same, e)

pub returns-in_err-c : goal.returns-in_err-c
returns-in_err-c c =
    let p = err_from_is_err_and c.from_residual-in_err-c.result c.from_residual-in_err-c.ensures.1 in
    let some : c.word_number.result ≡ Some c.in_ok-v.v = grind arith in
    let none : c.word_number-2.result ≡ None = grind arith in
    let same : c.in_err-c.field-0.0 ≡ refusal_at 1 c.args.at = grind arith in
    let e : header_at c.args.s.now c.args.at ≡ Improper 1 c.args.at =
    spelled _ _ _ _ _ (header-judged _ _ _ _ _ c.next_word-cnf.ensures.value c.next_word-variables.ensures.value
    c.next_word-clauses.ensures.value) (sym c.is_letter.ensures ∙ c.if-not-is_letter.false) (sym c.is_cnf.ensures ∙ c.if-not-is_cnf.false)
    ∙ rw (sym c.word_number.ensures ∙ some, sym c.word_number-2.ensures ∙ none) in
    rw (p.1, p.2, same, e)

pub returns-then-not-ends_line : goal.returns-then-not-ends_line
returns-then-not-ends_line c =
    let some : c.word_number.result ≡ Some c.in_ok-v.v = grind arith in
    let other : c.word_number-2.result ≡ Some c.in_ok-c.c = grind arith in
    let e : header_at c.args.s.now c.args.at ≡ Improper 1 c.args.at = counted _ _ _ _ _ _
    (spelled _ _ _ _ _ (header-judged _ _ _ _ _ c.next_word-cnf.ensures.value c.next_word-variables.ensures.value
    c.next_word-clauses.ensures.value) (sym c.is_letter.ensures ∙ c.if-not-is_letter.false) (sym c.is_cnf.ensures ∙ c.if-not-is_cnf.false))
    (sym c.word_number.ensures ∙ some) (sym c.word_number-2.ensures ∙ other)
    ∙ rw (sym c.ends_line.ensures ∙ c.if-not-ends_line.true) in
    rw e

pub returns-then-v-gt64 : goal.returns-then-v-gt64
returns-then-v-gt64 c =
    let some : c.word_number.result ≡ Some c.in_ok-v.v = grind arith in
    let other : c.word_number-2.result ≡ Some c.in_ok-c.c = grind arith in
    let beyond : within c.in_ok-v.v c.in_ok-c.c c.args.at (line_end c.args.s.now c.next_word-clauses.result) ≡ Improper 2 c.args.at =
    elim c.then-v-gt64.branch [
      | then-v-gt64-via-then-v-gt64 w ↦ rw (lt-ltb 64 c.in_ok-v.v w.if-v-gt64.true)
      | then-v-gt64-via-else-v-gt64+then-c-gt1024 w ↦
          rw (le-ltb 64 c.in_ok-v.v w.if-v-gt64.false, lt-ltb 1024 c.in_ok-c.c w.if-c-gt1024.true)
    ] in
    let e : header_at c.args.s.now c.args.at ≡ Improper 2 c.args.at = counted _ _ _ _ _ _
    (spelled _ _ _ _ _ (header-judged _ _ _ _ _ c.next_word-cnf.ensures.value c.next_word-variables.ensures.value
    c.next_word-clauses.ensures.value) (sym c.is_letter.ensures ∙ c.if-not-is_letter.false) (sym c.is_cnf.ensures ∙ c.if-not-is_cnf.false))
    (sym c.word_number.ensures ∙ some) (sym c.word_number-2.ensures ∙ other)
    ∙ rw (sym c.ends_line.ensures ∙ c.if-not-ends_line.false) beyond in
    rw e

pub returns : goal.returns
returns c =
    let some : c.word_number.result ≡ Some c.in_ok-v.v = grind arith in
    let other : c.word_number-2.result ≡ Some c.in_ok-c.c = grind arith in
    let e : header_at c.args.s.now c.args.at ≡ Proper c.in_ok-v.v c.in_ok-c.c c.past_class.result = counted _ _ _ _ _ _
    (spelled _ _ _ _ _ (header-judged _ _ _ _ _ c.next_word-cnf.ensures.value c.next_word-variables.ensures.value
    c.next_word-clauses.ensures.value) (sym c.is_letter.ensures ∙ c.if-not-is_letter.false)
    (sym c.is_cnf.ensures ∙ c.if-not-is_cnf.false)) (sym c.word_number.ensures ∙ some)
    (sym c.word_number-2.ensures ∙ other)
    ∙ rw (
      sym c.ends_line.ensures ∙ c.if-not-ends_line.false,
      le-ltb 64 c.in_ok-v.v c.if-v-gt64.false,
      le-ltb 1024 c.in_ok-c.c c.if-c-gt1024.false,
      sym c.past_class.ensures.value,
    ) in
    rw e
