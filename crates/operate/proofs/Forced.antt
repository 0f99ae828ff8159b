-- The steps of one side: each has the result of the one before, and they lead to a node that is told or to two sides. The idea: a step's
-- laws (Terminals, Sharing, Steps), put together. Assumes nothing.
use mathlib.Core.Path.{◌≡◌, refl, sym, ◌∙◌}
use mathlib.Core.Bool.{true}
use Prim.Native.Nat.{ℕ, ◌≤◌, ◌<◌}
use native.Mathlib.Omega.{arith}
use native.Mathlib.Decide.{dec_lt}
use lib.ListN.{length, get_or}
use Rattle.words.specs.declared.Literals as words
use Rattle.table.specs.declared.NodeNo.{NodeNo}
use Rattle.table.specs.declared.Found.TheVariants.{At, Nothing}
use Rattle.table.specs.Indexed.{Table}
use Rattle.operate.specs.declared.Operation.{Operation}
use Rattle.operate.specs.declared.step.Kind.{Kind}
use Rattle.operate.specs.declared.step.Sides.{Sides}
use Rattle.operate.specs.declared.step.Descent.TheVariants as descent
use Rattle.operate.specs.Inner.{operation_of, terminal_of, beyond, descent_of, top, Right, Given, result_at, Split, NextSays}
use Rattle.operate.specs.declared.step.Next.TheVariants as next
use Rattle.operate.proofs.Terminals.{terminal-right, terminal-two}
use Rattle.operate.proofs.Sharing.{variable-fits, beyond-right, shared-side}
use Rattle.operate.proofs.Steps.{sides, OneLeft, BothLeft, step-one, step_both}
use Rattle.operate.proofs.Levels.{top-first, level-constant, level-most}
use Rattle.operate.proofs.Results.{columns-hold}

module _ (kind : Kind) (by : words.Literals) (t : Table) (f g : ℕ) (H : Given (operation_of kind by) by.positive t f g) where
  abbrev op : Operation
  op = operation_of kind by

  pub next-told : (k : NodeNo) → terminal_of op f g ≡ At k → Right op t f g k.0
  next-told k = terminal-right t H.operands.good f g H.operands.f-inside H.operands.g_inside op H.operands.allowed k.0

  pub top_within : top t.vars f g ≤ 65
  top_within = go (dec_lt f 2)
    where
      go : Dec (f < 2) → top t.vars f g ≤ 65
      go (yes p) = omega (arith, top-first t.vars f g, level-constant t H.operands.good f p)
      go (no n) = omega (arith, top-first t.vars f g, level-most t H.operands.good f H.operands.f-inside (omega (arith, n)))

  module _ (nothing : terminal_of op f g ≡ Nothing) where
    pub next-two : 2 ≤ f
    next-two = terminal-two t H.operands.good f g H.operands.f-inside H.operands.g_inside op H.operands.allowed nothing

    pub next-leveled : (f < length t.vars) × (1 ≤ get_or t.vars f 0) × (get_or t.vars f 0 ≤ 64)
    next-leveled =
        let v = variable-fits t H.operands.good f g H.operands.f-inside H.operands.g_inside next-two in
        ((columns-hold op t f g H.operands).0, v.0, v.1)

    pub next-beyond : beyond kind by (get_or t.vars f 0) ≡ true → Right op t f g f
    next-beyond =
        beyond-right t H.operands.good f g H.operands.f-inside H.operands.g_inside next-two kind by H.operands.allowed
        H.share

    pub next_one : (a b : NodeNo) → descent_of op (sides t f g) ≡ descent.One a b → NextSays op by.positive t f g (next.One a b)
    next_one a b e =
        let L : OneLeft op t f g a.0 b.0 = step-one op t f g H.operands next-two a b e in (
          record { operands = L.operands; share = shared-side op by.positive t f g a.0 b.0 L.side-of H.share },
          L.after,
          L.same,
        )

    pub next_both : (s : Sides) → descent_of op (sides t f g) ≡ descent.Both s →
        Split op by.positive t (top t.vars f g) (result_at op t f g) s
    next_both s e =
        let L : BothLeft op t f g s = step_both op t f g H.operands next-two s e in
        record {
          operands = L.operands;
          low-share = shared-side op by.positive t f g s.f0.0 s.g0.0 L.low_of H.share;
          high-share = shared-side op by.positive t f g s.f1.0 s.g1.0 L.high-of H.share;
          after = omega (arith, L.variable);
          over = L.over;
        }

-- ---- the way

-- From `first` and `second` the steps have come to f and g.
pub record Forced (op : Operation) (shared : ℕ) (t : Table) (first second f g : ℕ) : Type 0 where
  pub given : Given op shared t f g
  pub after : top t.vars first second ≤ top t.vars f g
  pub same : result_at op t first second ≡ result_at op t f g

pub forced-none : (op : Operation) (shared : ℕ) (t : Table) (f g : ℕ) → Given op shared t f g → Forced op shared t f g f g
forced-none op shared t f g H = record { given = H; after = omega arith; same = refl }

module _ (op : Operation) (shared : ℕ) (t : Table) (first second f g : ℕ) (H : Given op shared t first second)
    (W : Forced op shared t first second f g) where
  pub forced-told : (k : NodeNo) → NextSays op shared t f g (next.Told k) → Right op t first second k.0
  forced-told k r = record {
    f-inside = H.operands.f-inside;
    g_inside = H.operands.g_inside;
    inside = r.inside;
    is = r.is ∙ sym W.same;
  }

  pub forced-one : (a b : NodeNo) → NextSays op shared t f g (next.One a b) → Forced op shared t first second a.0 b.0
  forced-one a b h = record { given = h.0; after = omega (arith, W.after, h.1); same = W.same ∙ h.2 }

  pub forced-both : (s : Sides) → NextSays op shared t f g (next.Both s) →
      Split op shared t (top t.vars first second) (result_at op t first second) s
  forced-both s h = record {
    operands = h.operands;
    low-share = h.low-share;
    high-share = h.high-share;
    after = omega (arith, W.after, h.after);
    over = W.same ∙ h.over;
  }
