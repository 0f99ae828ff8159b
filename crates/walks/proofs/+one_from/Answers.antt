-- `one_from` says whether the cofactor is 1, and its memo stays right. Assumes nothing.
use mathlib.Core.Path.{◌≡◌, sym, ap, ap₂, ◌∙◌, subst}
use mathlib.Core.Bool.{Bool, true, false, ◌&&◌}
use mathlib.Core.List.{List}
use Prim.Native.Nat.{ℕ, ◌≤◌, ◌<◌}
use native.Mathlib.Omega.{arith}
use Rattle.meaning.proofs.Booleans.{and-false}
use Rattle.walks.specs.declared.SidesUnder.{SidesUnder}
use Rattle.walks.specs.Readable.{Readable, nodes_in}
use Rattle.walks.specs.Constant.{one_at, sides_under}
use Rattle.walks.proofs.Here.{length-in}
use Rattle.walks.proofs.Constant.{constant-zero, constant-one, constant-known, constant-stored, side-less, constant-node}
use Rattle.walks.proofs.+one_from.Goals as goal

-- what good order says of the two nodes, and what the cofactor is by them
module _ (vs ls hs : List ℕ) (count p n k : ℕ) (R : Readable vs ls hs count) (two : 2 ≤ k) (inside : k < count) (S : SidesUnder)
    (e : S ≡ sides_under vs ls hs k p n) where
  both-less : (S.low.0 < k) × (S.high.0 < k)
  both-less = subst (λ (x : SidesUnder). (x.low.0 < k) × (x.high.0 < k)) (sym e) (side-less vs ls hs count p n R k two inside)

  from-both : one_at (nodes_in vs ls hs count) p n k
      ≡ (one_at (nodes_in vs ls hs count) p n S.low.0 && one_at (nodes_in vs ls hs count) p n S.high.0)
  from-both = subst (λ (x : SidesUnder). one_at (nodes_in vs ls hs count) p n k
      ≡ (one_at (nodes_in vs ls hs count) p n x.low.0 && one_at (nodes_in vs ls hs count) p n x.high.0)) (sym e)
      (constant-node vs ls hs count p n R k two inside)

  low-false : false ≡ one_at (nodes_in vs ls hs count) p n S.low.0 → false ≡ one_at (nodes_in vs ls hs count) p n k
  low-false q = sym (from-both ∙ ap (λ (x : Bool). x && one_at (nodes_in vs ls hs count) p n S.high.0) (sym q))

  high-false : false ≡ one_at (nodes_in vs ls hs count) p n S.high.0 → false ≡ one_at (nodes_in vs ls hs count) p n k
  high-false q = sym (from-both ∙ ap (◌&&◌ (one_at (nodes_in vs ls hs count) p n S.low.0)) (sym q)
      ∙ and-false (one_at (nodes_in vs ls hs count) p n S.low.0))

  both-true : true ≡ one_at (nodes_in vs ls hs count) p n S.low.0 → true ≡ one_at (nodes_in vs ls hs count) p n S.high.0
      → one_at (nodes_in vs ls hs count) p n k ≡ true
  both-true q r = from-both ∙ ap₂ ◌&&◌ (sym q) (sym r)

-- src/lib.rt:115:9
pub returns-then-f-eq0-clause-result_value : goal.returns-then-f-eq0-clause-result_value
returns-then-f-eq0-clause-result_value t c = rw c.if-f-eq0.true (sym (constant-zero _ _ _))

-- src/lib.rt:118:9
pub returns-then-f-eq1-clause-result_value : goal.returns-then-f-eq1-clause-result_value
returns-then-f-eq1-clause-result_value t c = rw c.if-f-eq1.true (sym (constant-one _ _ _))

-- src/lib.rt:122:9
pub returns-then-memo-i-clause-result_value : goal.returns-then-memo-i-clause-result_value
returns-then-memo-i-clause-result_value t c =
    sym (constant-known (nodes_in c.args.vars.now c.args.lows.now c.args.highs.now c.args.count) c.args.literals.positive
    c.args.literals.negative c.args.memo.now c.args.f.0
    (omega (arith, c.requires.readable, length-in c.args.vars.now c.args.lows.now c.args.highs.now c.args.count c.requires.readable.0))
    c.requires.one_memo c.if-memo-i.true (omega (arith, c.if-f-eq0.false, c.if-f-eq1.false)))

-- src/lib.rt:125:9
pub one_from-low-requires : goal.one_from-low-requires
one_from-low-requires t c =
    let b : (c.sides_under-sides.result.low.0 < c.args.f.0) × (c.sides_under-sides.result.high.0 < c.args.f.0) =
    both-less c.args.vars.now c.args.lows.now c.args.highs.now c.args.count c.args.literals.positive c.args.literals.negative
    c.args.f.0 c.requires.readable.0 (omega (arith, c.if-f-eq0.false, c.if-f-eq1.false)) c.requires.readable.1
    c.sides_under-sides.result c.sides_under-sides.ensures in (
      omega (arith, c.decreases),
      ((c.requires.readable.0, omega (arith, c.requires.readable.1), c.requires.readable.2), c.requires.one_memo),
    )

-- src/lib.rt:127:9
pub returns-then-not-low-clause-result_value : goal.returns-then-not-low-clause-result_value
returns-then-not-low-clause-result_value t c =
    low-false c.args.vars.now c.args.lows.now c.args.highs.now c.args.count c.args.literals.positive c.args.literals.negative
    c.args.f.0 c.requires.readable.0 (omega (arith, c.if-f-eq0.false, c.if-f-eq1.false)) c.requires.readable.1
    c.sides_under-sides.result c.sides_under-sides.ensures (sym c.if-not-low.true ∙ c.one_from-low.ensures.result_value)

-- src/lib.rt:129:9
pub one_from-high-requires : goal.one_from-high-requires
one_from-high-requires t c =
    let b : (c.sides_under-sides.result.low.0 < c.args.f.0) × (c.sides_under-sides.result.high.0 < c.args.f.0) =
    both-less c.args.vars.now c.args.lows.now c.args.highs.now c.args.count c.args.literals.positive c.args.literals.negative
    c.args.f.0 c.requires.readable.0 (omega (arith, c.if-f-eq0.false, c.if-f-eq1.false)) c.requires.readable.1
    c.sides_under-sides.result c.sides_under-sides.ensures in (
      omega (arith, c.decreases),
      (
        (c.requires.readable.0, omega (arith, c.requires.readable.1), omega (arith, c.requires.readable.2, c.one_from-low.auto.memo)),
        c.one_from-low.ensures.fact,
      ),
    )

-- src/lib.rt:131:9
pub returns-then-not-high-clause-result_value : goal.returns-then-not-high-clause-result_value
returns-then-not-high-clause-result_value t c =
    high-false c.args.vars.now c.args.lows.now c.args.highs.now c.args.count c.args.literals.positive c.args.literals.negative
    c.args.f.0 c.requires.readable.0 (omega (arith, c.if-f-eq0.false, c.if-f-eq1.false)) c.requires.readable.1
    c.sides_under-sides.result c.sides_under-sides.ensures (sym c.if-not-high.true ∙ c.one_from-high.ensures.result_value)

-- src/lib.rt:98:1
pub returns-clause-result_value : goal.returns-clause-result_value
returns-clause-result_value t c =
    sym (both-true c.args.vars.now c.args.lows.now c.args.highs.now c.args.count c.args.literals.positive c.args.literals.negative
    c.args.f.0 c.requires.readable.0 (omega (arith, c.if-f-eq0.false, c.if-f-eq1.false)) c.requires.readable.1
    c.sides_under-sides.result c.sides_under-sides.ensures (sym c.if-not-low.false ∙ c.one_from-low.ensures.result_value)
    (sym c.if-not-high.false ∙ c.one_from-high.ensures.result_value))

-- src/lib.rt:98:1
pub returns-clause-fact : goal.returns-clause-fact
returns-clause-fact t c =
    constant-stored (nodes_in c.args.vars.now c.args.lows.now c.args.highs.now c.args.count) c.args.literals.positive
    c.args.literals.negative _ c.args.f.0
    (omega (arith, c.requires.readable, c.requires.readable.0.within, c.one_from-low.auto.memo, c.one_from-high.auto.memo))
    c.one_from-high.ensures.fact
    (both-true c.args.vars.now c.args.lows.now c.args.highs.now c.args.count c.args.literals.positive c.args.literals.negative
    c.args.f.0 c.requires.readable.0 (omega (arith, c.if-f-eq0.false, c.if-f-eq1.false)) c.requires.readable.1
    c.sides_under-sides.result c.sides_under-sides.ensures (sym c.if-not-low.false ∙ c.one_from-low.ensures.result_value)
    (sym c.if-not-high.false ∙ c.one_from-high.ensures.result_value))
