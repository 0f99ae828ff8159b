-- A RUP line that finds room and is not shown: its trace is not `full`, and dropping its nodes gives the table back. Assumes nothing.
use mathlib.Core.Path.{◌≡◌, refl, sym, ap, ◌∙◌}
use mathlib.Core.Bool.{Bool, true, false}
use mathlib.Core.List.{List}
use Prim.Native.Nat.{ℕ}
use Rattle.meaning.specs.Diagram.{Diagram}
use Rattle.meaning.specs.Rules.{unit_prop, rup}
use Rattle.meaning.proofs.Booleans.{t≢f}
use Rattle.table.specs.Indexed.{Table, size, nodes_of, Good}
use Rattle.table.specs.Making.{reached, line_reach, Reach}
use Rattle.table.specs.Lists.{room}
use Rattle.table.proofs.Outcomes.{dropped_to, undone}
use Rattle.table.proofs.Extended.{extended-longer}
use Rattle.judge.proofs.Fits.{rup-reach}
use Rattle.traces.specs.declared.Traced.{Traced}
use Rattle.why.specs.Lines.{LineTraced}
use Rattle.tell.specs.Failed.{Unshown, Fixed, by_not}

module _ (T : Table) (ms : List Diagram) (g : Diagram) where
  pub rup-calm : Unshown T (rup 64 ms g) → (unit_prop 64 (by_not g ms)).conflict ≡ false
  unfolding rup
  rup-calm U = U.unshown

  module _ (G : Good T) (r : Traced) (T₁ : Table) (words : List ℕ) (L : LineTraced T ms g r T₁ words) where
    not_full : (line_reach (size T) (nodes_of T) (rup 64 ms g)).fits ≡ true → r.full ≡ false
    not_full fits = go r.full refl
      where
        go : (b : Bool) → r.full ≡ b → r.full ≡ false
        go false e = e
        go true e =
            let is : line_reach (size T) (nodes_of T) (rup 64 ms g) ≡ reached (room true (nodes_of T₁)) =
            rup-reach (size T) (nodes_of T) 64 ms g ∙ ap reached (L.places ∙ ap (λ (b : Bool). room b (nodes_of T₁)) e) in
            t≢f (sym fits ∙ ap (λ (x : Reach). x.fits) is)

    pub rup-fixed : Unshown T (rup 64 ms g) → Fixed (by_not g ms) r.rounds words
    rup-fixed U = record { rounds-are = L.rounds (not_full U.fits); words_are = L.fixed (not_full U.fits) }

    pub rup-undone : (T₂ : Table) → T₂ ≡ dropped_to T.count T₁ → T₂ ≡ T
    rup-undone T₂ e = e ∙ undone T G T₁ (extended-longer T T₁ G L.extended)
