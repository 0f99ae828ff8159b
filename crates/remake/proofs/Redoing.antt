-- A record that was taken is taken again, so that its step goes on. Assumes nothing.
use mathlib.Core.Path.{◌≡◌, sym, ◌∙◌, subst}
use mathlib.Core.Bool.{true, false}
use Prim.Native.Nat.{ℕ}
use native.Mathlib.Omega.{arith}
use Rattle.meaning.proofs.Booleans.{t≢f}
use Rattle.records.specs.declared.Record.{Record}
use Rattle.records.specs.declared.Record.TheVariants.{NodeEntry, Witness, ProofLine, Strike, SetEntry, End, CutShort, UnknownKind}
use Rattle.records.specs.declared.Record.TheVariants.{NoRecord}
use Rattle.verdict.specs.Steps as check
use Rattle.verdict.proofs.Steps.{taken-record}
use Rattle.state.specs.declared.State.{State}
use Rattle.state.specs.declared.Step.{Step}
use Rattle.state.specs.declared.Step.TheVariants.{Next, Stop, Spent}
use Rattle.state.specs.States.{Lent, state_of, Held, Stepped}
use Rattle.why.specs.Again.{Redo}
use Rattle.remake.specs.Remade.{is_strike, Remade}

redo-next : (n s : ℕ) (st : check.State) (r : Record) (x : check.State) → is_strike r ≡ false → Redo n s st r x →
    check.record_step n s st false r ≡ check.next x
redo-next n s st (NodeEntry b) x e T = taken-record n s st false (NodeEntry b) x T
redo-next n s st (Witness v b) x e T = taken-record n s st false (Witness v b) x T
redo-next n s st (SetEntry kind b) x e T = taken-record n s st false (SetEntry kind b) x T
redo-next n s st (Strike k) x e T = t≢f e
redo-next n s st (ProofLine rule root) x e T = absurd T
redo-next n s st End x e T = absurd T
redo-next n s st CutShort x e T = absurd T
redo-next n s st UnknownKind x e T = absurd T
redo-next n s st NoRecord x e T = absurd T

module _ (n s : ℕ) (l : Lent) (st : State) (H : Held n l st) (r : Record) where
  pub remade-strike : is_strike r ≡ true → Remade n s l l st r st
  remade-strike e x R = go r e R
    where
      go : (r : Record) → is_strike r ≡ true → Redo n s (state_of l st) r x → (state_of l st ≡ x) × Held n l st
      go (Strike k) e R = (R, H)
      go (NodeEntry b) e R = t≢f (sym e)
      go (Witness v b) e R = t≢f (sym e)
      go (SetEntry kind b) e R = t≢f (sym e)
      go (ProofLine rule root) e R = t≢f (sym e)
      go End e R = t≢f (sym e)
      go CutShort e R = t≢f (sym e)
      go UnknownKind e R = t≢f (sym e)
      go NoRecord e R = t≢f (sym e)

  module _ (other : is_strike r ≡ false) (l' : Lent) (q : Step) (S : Stepped n l l' st (check.record_step n s (state_of l st) false r) q)
    where
      pub remade-next : (y : State) → q ≡ Next y → Remade n s l l' st r y
      remade-next y e x R =
          let S' : Stepped n l l' st (check.record_step n s (state_of l st) false r) (Next y) =
          subst (Stepped n l l' st (check.record_step n s (state_of l st) false r)) e S in
          let is : check.next (state_of l' y) ≡ check.next x = S'.says ∙ redo-next n s (state_of l st) r x other R in
          (next-is is, S'.leaves)
        where
          next-is : {a b : check.State} → check.next a ≡ check.next b → a ≡ b
          next-is p = cc

      pub remade-stop : (number offset : ℕ) → q ≡ Stop number offset → (y : State) (l'' : Lent) → Remade n s l l'' st r y
      remade-stop number offset e y l'' x R =
          let S' : Stepped n l l' st (check.record_step n s (state_of l st) false r) (Stop number offset) =
          subst (Stepped n l l' st (check.record_step n s (state_of l st) false r)) e S in
          let is : check.stop number offset ≡ check.next x = S'.says ∙ redo-next n s (state_of l st) r x other R in
          let z : ◌≡◌ {A = ℕ} 0 1 = cc in absurd (omega arith)

      pub remade-spent : (number peak : ℕ) → q ≡ Spent number peak → (y : State) (l'' : Lent) → Remade n s l l'' st r y
      remade-spent number peak e y l'' x R =
          let S' : Stepped n l l' st (check.record_step n s (state_of l st) false r) (Spent number peak) =
          subst (Stepped n l l' st (check.record_step n s (state_of l st) false r)) e S in
          let is : check.spent number peak ≡ check.next x = S'.says ∙ redo-next n s (state_of l st) r x other R in
          let z : ◌≡◌ {A = ℕ} 0 1 = cc in absurd (omega arith)
