-- `clause_literals` puts literal after literal, up to the zero byte. The loop: what is to be written is what is left to be written. The
-- measure is what is left of the proof, since groups have bytes. Assumes nothing.
use mathlib.Core.Path.{◌≡◌, refl, sym, ap, ◌∙◌}
use mathlib.Core.List.{List, [], ◌∷◌, ◌++◌, append_assoc}
use native.Mathlib.Omega.{arith}
use Rattle.meaning.specs.Operations.{Literal}
use Rattle.dimacs.specs.Clauses.{refused}
use Rattle.commands.proofs.OpenGroups.{literal-in}
use Rattle.convert.specs.Convert.{token_text, text_literals}
use Rattle.convert.specs.Inner.{literal_made, spaced, Poured, poured, put_byte}
use Rattle.convert.proofs.Pouring.{put_two, leads-literal, leads-closed, leads-refused, long_as}
use Rattle.convert.proofs.Clauses.{binary_rest, binary-open, binary-closing, binary-wrong, binary-literal}
use Rattle.convert.proofs.from_binary.clause_literals.Invariants.{bytes}
use Rattle.convert.proofs.from_binary.clause_literals.Goals as goal

-- a literal and a space before the rest
splits : (l : Literal) (ls : List Literal) → text_literals (l ∷ ls) ≡ spaced l ++ text_literals ls
splits l ls = sym (append_assoc (token_text l) (32 ∷ []) (text_literals ls))

pub loop-at-init : goal.loop-at-init
loop-at-init c = (omega arith, refl, λ o r W. W)

pub returns-in-Ok-None : goal.returns-in-Ok-None
returns-in-Ok-None c =
    leads-closed text_literals (poured c.args.out.now c.args.many) (binary_rest c.args.binary.now c.args.first c.args.from) _ _
    c.loop-at.invariant.2 _ _ _ _
    (binary-closing _ _ _ c.loop-at-test.true _ c.groups_at-groups.ensures _
    c.in-Ok-None.is (rw c.in-Ok-None.is at c.in-Ok-None.field-0-is))
    (c.put.ensures ∙ ap (λ (w : Poured). put_byte w 10) c.put-zero.ensures ∙ put_two _ 48 10)

pub returns-in-Err : goal.returns-in-Err
returns-in-Err c =
    leads-refused text_literals (poured c.args.out.now c.args.many) (binary_rest c.args.binary.now c.args.first c.args.from) _ _
    c.loop-at.invariant.2 _ _ c.loop-at.out
    (binary-wrong _ _ _ c.loop-at-test.true _ c.groups_at-groups.ensures _
    c.in-Err.is
    ∙ ap (refused c.in-Err.number) (sym c.fault_place.ensures)) refl

pub put_literal-bytes-requires : goal.put_literal-bytes-requires
put_literal-bytes-requires c =
    let l = literal-in c.args.binary.now 64 c.loop-at.at _ c.groups_at-groups.ensures _ _ c.in-Ok-Some.is
    (rw c.in-Ok-Some.is at c.in-Ok-Some.field-0-is) in
    l.most

pub loop-at-smaller : goal.loop-at-smaller
loop-at-smaller c =
    let l = literal-in c.args.binary.now 64 c.loop-at.at _ c.groups_at-groups.ensures _ _ c.in-Ok-Some.is
    (rw c.in-Ok-Some.is at c.in-Ok-Some.field-0-is) in
    omega (arith, l.moves)

pub loop-at-preserved : goal.loop-at-preserved
loop-at-preserved c =
    let l = literal-in c.args.binary.now 64 c.loop-at.at _ c.groups_at-groups.ensures _ _ c.in-Ok-Some.is
    (rw c.in-Ok-Some.is at c.in-Ok-Some.field-0-is) in
    let m = literal_made c.in-Ok-Some.l.variable c.in-Ok-Some.l.positive in (
      l.within,
      long_as _ _ _ c.put_literal-bytes.ensures ∙ c.loop-at.invariant.1,
      leads-literal text_literals (poured c.args.out.now c.args.many) (binary_rest c.args.binary.now c.args.first c.args.from) _ _
          c.loop-at.invariant.2 m (bytes m) (binary_rest c.args.binary.now c.args.first c.groups_at-groups.result.end) (splits m)
          (binary-literal _ _ _ c.loop-at-test.true _ c.groups_at-groups.ensures _ _
          c.in-Ok-Some.is (rw c.in-Ok-Some.is at c.in-Ok-Some.field-0-is)) _
          c.put_literal-bytes.ensures,
    )

pub returns : goal.returns
returns c =
    leads-refused text_literals (poured c.args.out.now c.args.many) (binary_rest c.args.binary.now c.args.first c.args.from) _ _
    c.loop-at.invariant.2 _ _
    c.loop-at.out (binary-open _ _ _ c.loop-at-test.false) refl
