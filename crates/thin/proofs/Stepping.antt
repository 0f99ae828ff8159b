-- One step down: what is told without a step is the operation's result, and a step leaves the result as it is. The idea: what the node
-- numbers tell and what comes after all that is shared are both right, and a pair or two sides that are left have the laws of the
-- recursion. Assumes nothing.
use mathlib.Core.Path.{◌≡◌, refl, ap, sym, ◌∙◌, subst}
use mathlib.Core.Bool.{Bool, true, false}
use mathlib.Core.List.{List}
use Prim.Native.Nat.{ℕ, ◌≤◌}
use native.Mathlib.Omega.{arith}
use lib.ListN.{get_or}
use Rattle.meaning.specs.Diagram.{Diagram, branch}
use Rattle.table.specs.declared.NodeNo.{NodeNo}
use Rattle.table.specs.declared.Found.{Found}
use Rattle.table.specs.declared.Found.TheVariants.{At, Nothing}
use Rattle.table.specs.Indexed.{Table}
use Rattle.words.specs.declared.Literals as words
use Rattle.operate.specs.declared.Operation.{Operation}
use Rattle.operate.specs.declared.step.Kind.{Kind}
use Rattle.operate.specs.declared.step.Sides.{Sides}
use Rattle.operate.specs.declared.step.Descent.TheVariants as descent
use Rattle.operate.specs.Inner.{operation_of, terminal_of, beyond, found, descent_of, top, Right}
use Rattle.operate.proofs.Terminals.{terminal-right, terminal-two}
use Rattle.operate.proofs.Sharing.{variable-fits, beyond-right, shared-side}
use Rattle.operate.proofs.Steps.{sides, OneLeft, BothLeft, step-one, step_both}
use Rattle.operate.proofs.Results.{columns-hold}
use Rattle.thin.specs.declared.StepDown.{StepDown}
use Rattle.thin.specs.declared.StepDown.TheVariants.{Told, One, Over}
use Rattle.thin.specs.Thin.{Leveled, or_beyond, settled_of, Given, SidesGiven, result_at, joined_at, StepSays}

number : Found → ℕ
number (At k) = k.0
number Nothing = 0

-- ---- what is told without a step

module _ (vars : List ℕ) (kind : Kind) (by : words.Literals) (f g : ℕ) where
  pub numbers-tell : (k : NodeNo) → terminal_of (operation_of kind by) f g ≡ At k → At k ≡ settled_of vars kind by f g
  numbers-tell k e = sym (ap (or_beyond vars kind by f) e)

  module _ (nothing : terminal_of (operation_of kind by) f g ≡ Nothing) where
    pub is-beyond : beyond kind by (get_or vars f 0) ≡ true → found f ≡ settled_of vars kind by f g
    is-beyond e = sym (ap (or_beyond vars kind by f) nothing ∙ rw e)

    pub not_beyond : beyond kind by (get_or vars f 0) ≡ false → Nothing ≡ settled_of vars kind by f g
    not_beyond e = sym (ap (or_beyond vars kind by f) nothing ∙ rw e)

module _ (op : Operation) (shared : ℕ) (t : Table) (f g : ℕ) (H : Given op shared t f g) where
  given-two : terminal_of op f g ≡ Nothing → 2 ≤ f
  given-two = terminal-two t H.operands.good f g H.operands.f-inside H.operands.g_inside op H.operands.allowed

  pub given-leveled : Leveled op t.vars f g
  given-leveled e =
      let v = variable-fits t H.operands.good f g H.operands.f-inside H.operands.g_inside (given-two e) in
      ((columns-hold op t f g H.operands).0, v.0, v.1)

module _ (kind : Kind) (by : words.Literals) (t : Table) (f g : ℕ) (H : Given (operation_of kind by) by.positive t f g) where
  abbrev op : Operation
  op = operation_of kind by

  settled-right : (k : NodeNo) → settled_of t.vars kind by f g ≡ At k → Right op t f g k.0
  unfolding number
  settled-right k e = go (terminal_of op f g) refl
    where
      beyond-all : terminal_of op f g ≡ Nothing → (b : Bool) → beyond kind by (get_or t.vars f 0) ≡ b → Right op t f g k.0
      beyond-all p true q =
          let w : found f ≡ At k = is-beyond t.vars kind by f g p q ∙ e in
          subst (Right op t f g) (ap number w)
          (beyond-right t H.operands.good f g H.operands.f-inside H.operands.g_inside (given-two op by.positive t f g H p)
          kind by
          H.operands.allowed H.share q)
      beyond-all p false q =
          let w : Nothing ≡ At k = not_beyond t.vars kind by f g p q ∙ e in let z : ◌≡◌ {A = ℕ} 0 1 = cc in absurd (omega arith)

      go : (r : Found) → terminal_of op f g ≡ r → Right op t f g k.0
      go (At j) p =
          terminal-right t H.operands.good f g H.operands.f-inside H.operands.g_inside op H.operands.allowed k.0
          (p ∙ numbers-tell t.vars kind by f g j p ∙ e)
      go Nothing p = beyond-all p (beyond kind by (get_or t.vars f 0)) refl

  pub settled-two : settled_of t.vars kind by f g ≡ Nothing → 2 ≤ f
  settled-two e = go (terminal_of op f g) refl
    where
      go : (r : Found) → terminal_of op f g ≡ r → 2 ≤ f
      go (At j) p =
          let w : At j ≡ Nothing = numbers-tell t.vars kind by f g j p ∙ e in let z : ◌≡◌ {A = ℕ} 0 1 = cc in absurd (omega arith)
      go Nothing p = given-two op by.positive t f g H p

-- ---- two sides

module _ (op : Operation) (shared : ℕ) (t : Table) (s : Sides) (H : SidesGiven op shared t s) where
  pub low-given : Given op shared t s.f0.0 s.g0.0
  low-given = record { operands = H.operands.low; share = H.low-share }

  pub high-given : Given op shared t s.f1.0 s.g1.0
  high-given = record { operands = H.operands.high; share = H.high-share }

module _ (kind : Kind) (by : words.Literals) (t : Table) (s : Sides) (H : SidesGiven (operation_of kind by) by.positive t s) where
  abbrev op₂ : Operation
  op₂ = operation_of kind by

  abbrev low : Diagram
  low = result_at op₂ t s.f0.0 s.g0.0

  abbrev high : Diagram
  high = result_at op₂ t s.f1.0 s.g1.0

  pub low_told : (k : NodeNo) → settled_of t.vars kind by s.f0.0 s.g0.0 ≡ At k
      → StepSays op₂ by.positive t s.x (joined_at op₂ t s) (Over s.x k 1 s.f1 s.g1)
  low_told k e =
      let r = settled-right kind by t s.f0.0 s.g0.0 (low-given op₂ by.positive t s H) k e in (
        high-given op₂ by.positive t s H,
        omega arith,
        H.operands.most,
        H.operands.high_after,
        r.inside,
        ap (λ (d : Diagram). branch s.x d high) r.is,
      )

  pub high-told : (k : NodeNo) → settled_of t.vars kind by s.f1.0 s.g1.0 ≡ At k
      → StepSays op₂ by.positive t s.x (joined_at op₂ t s) (Over s.x k 0 s.f0 s.g0)
  high-told k e =
      let r = settled-right kind by t s.f1.0 s.g1.0 (high-given op₂ by.positive t s H) k e in (
        low-given op₂ by.positive t s H,
        omega arith,
        H.operands.most,
        H.operands.low-after,
        r.inside,
        ap (branch s.x low) r.is,
      )

-- ---- a step from two nodes

module _ (kind : Kind) (by : words.Literals) (t : Table) (f g : ℕ) (H : Given (operation_of kind by) by.positive t f g) where
  abbrev op₃ : Operation
  op₃ = operation_of kind by

  -- what a step from f and g says
  abbrev Says : StepDown → Type 0
  Says = StepSays op₃ by.positive t (top t.vars f g) (result_at op₃ t f g)

  pub step-told : (k : NodeNo) → settled_of t.vars kind by f g ≡ At k → Says (Told k)
  step-told k e = let r = settled-right kind by t f g H k e in (r.inside, r.is)

  module _ (nothing : settled_of t.vars kind by f g ≡ Nothing) where
    pub pair_left : (a b : NodeNo) → descent_of op₃ (sides t f g) ≡ descent.One a b → Says (One a b)
    pair_left a b e =
        let L : OneLeft op₃ t f g a.0 b.0 = step-one op₃ t f g H.operands (settled-two kind by t f g H nothing) a b e in (
          record { operands = L.operands; share = shared-side op₃ by.positive t f g a.0 b.0 L.side-of H.share },
          L.after,
          sym L.same,
        )

    module _ (s : Sides) (e : descent_of op₃ (sides t f g) ≡ descent.Both s) where
      both_left : BothLeft op₃ t f g s
      both_left = step_both op₃ t f g H.operands (settled-two kind by t f g H nothing) s e

      pub sides-left : SidesGiven op₃ by.positive t s
      sides-left = record {
        operands = both_left.operands;
        low-share = shared-side op₃ by.positive t f g s.f0.0 s.g0.0 both_left.low_of H.share;
        high-share = shared-side op₃ by.positive t f g s.f1.0 s.g1.0 both_left.high-of H.share;
      }

      -- the step of two sides is that of the nodes
      pub sides-say : (r : StepDown) → StepSays op₃ by.positive t s.x (joined_at op₃ t s) r → Says r
      sides-say r h =
          subst (λ (x : ℕ). StepSays op₃ by.positive t x (result_at op₃ t f g) r) both_left.variable
          (subst (λ (d : Diagram). StepSays op₃ by.positive t s.x d r) (sym both_left.over) h)
