-- `read_token`: no bytes, a minus, or none, each by the law of that case. Assumes nothing.
use mathlib.Core.Bool.{true, false}
use mathlib.Core.Path.{sym, ap, ◌∙◌}
use native.Mathlib.Omega.{arith}
use Rattle.dimacs.specs.Inner.{signed_token, token_read}
use Rattle.dimacs.proofs.Tokens.{token-empty, token-signed, token-unsigned}
use Rattle.dimacs.proofs.numbers.read_token.Goals as goal

pub returns-then-from-to : goal.returns-then-from-to
returns-then-from-to c = let a = c.args in
    ap token_read (sym (token-empty a.variables a.s.now _ _ (omega arith) (omega arith) c.if-from-to.true))

pub returns-then-s-from-eq45 : goal.returns-then-s-from-eq45
returns-then-s-from-eq45 c = let a = c.args in
    c.signed_token.ensures ∙ ap token_read (ap (signed_token a.variables false) c.read_natural.ensures
    ∙ sym (token-signed a.variables a.s.now a.from a.to (omega arith) (omega arith) (omega arith)
    c.if-s-from-eq45.true))

pub returns : goal.returns
returns c = let a = c.args in
    c.signed_token-2.ensures ∙ ap token_read (ap (signed_token a.variables true) c.read_natural-2.ensures
    ∙ sym (token-unsigned a.variables a.s.now a.from a.to (omega arith) (omega arith) (omega arith)
    c.if-s-from-eq45.false))
