-- What a round of the check writes, at the header's n: the contract of `propagate::round` says it at 64 variables, and the two are the same
-- in every round of
-- every propagation of a line that the check judges. The idea: the members of a round have variables 1 to n alone. Assumes nothing.
use mathlib.Core.Path.{◌≡◌, refl, ap, ◌∙◌, subst}
use mathlib.Core.Logic.{◌↔◌}
use mathlib.Core.Bool.{Bool, true, false, cond}
use mathlib.Core.List.{List}
use mathlib.Core.Option.{Option, none, some}
use Prim.Native.Nat.{ℕ, zero, suc, ◌+◌, ◌≤◌, ◌<◌}
use native.Mathlib.Omega.{arith}
use Rattle.meaning.specs.Diagram.{Diagram, leaf, same}
use Rattle.meaning.specs.Operations.{negation, cofactor_literals}
use Rattle.meaning.specs.Rules.{any, conflicts, first_with_unit, by_units, by_diagram, Propagation, round, still, taking, propagate}
use Rattle.meaning.specs.Rules.{unit_prop}
use Rattle.meaning.proofs.Booleans.{or-neither}
use Rattle.meaning.proofs.Pointwise.{literals-reduced}
use Rattle.meaning.proofs.Ends.{AllReduced, map-reduced, by_diagram-reduced, by_units-reduced, first_taken, in_use, fewer, more-rounds}
use Rattle.commands.specs.declared.Mode.{Mode}
use Rattle.verdict.specs.Steps.{State, live_members}
use Rattle.verdict.specs.Taken.{Meant}
use Rattle.verdict.specs.Run.{Reached}
use Rattle.verdict.proofs.Ends.{reached-standing}
use Rattle.members.specs.Made.{differing}
use Rattle.exactness.specs.Rounds.{RoundOf, first, later, Starts, of-rup, of-pr, of-path, writes}
use Rattle.meaning.proofs.Widths.{first_with_unit-width, by_units-width}

-- ---- the rounds are those of UnitProp

module _ (n : ℕ) where
  abbrev Round : ℕ → List Diagram → Type 0
  Round k ms = (now : List Diagram) × (u : Diagram) × RoundOf n k ms now u

  to-round : (f k : ℕ) (ms : List Diagram) → k < (propagate f n ms).rounds → Round k ms
  unfolding propagate round
  to-round zero k ms p = absurd (omega arith)
  to-round (suc f) k ms p = go k (conflicts n ms) refl (first_with_unit n ms) refl p (λ j u q. to-round f j (by_units n u ms) q)
    where
      go : (k : ℕ) (b : Bool) → conflicts n ms ≡ b → (x : Option Diagram) → first_with_unit n ms ≡ x
          → k < (cond b (still true) (taking x (λ u. round (by_units n u ms) (propagate f n (by_units n u ms))))).rounds
          → ((j : ℕ) (u : Diagram) → j < (propagate f n (by_units n u ms)).rounds → Round j (by_units n u ms)) → Round k ms
      go k true c x e p ih = absurd (omega arith)
      go k false c none e p ih = absurd (omega arith)
      go zero false c (some u) e p ih = (ms, u, first c e)
      go (suc j) false c (some u) e p ih = let (now, taken, R) = ih j u (omega arith) in (now, taken, later c e R)

  from-round : (f k : ℕ) (ms now : List Diagram) (u : Diagram) → AllReduced n ms → in_use n ms ≤ f → RoundOf n k ms now u
      → k < (propagate f n ms).rounds
  unfolding propagate round
  from-round zero _ ms now taken o most (first c e) = absurd (omega (arith, fewer n ms taken c o e, most))
  from-round zero _ ms now taken o most (later {u = u} c e R) = absurd (omega (arith, fewer n ms u c o e, most))
  from-round (suc f) _ ms now taken o most (first c e) = rw (c, e) (omega arith)
  from-round (suc f) _ ms now taken o most (later {k = k} {u = u} c e R) =
      let rest : k < (propagate f n (by_units n u ms)).rounds =
      from-round f k (by_units n u ms) now taken (by_units-reduced n u ms) (omega (arith, fewer n ms u c o e, most)) R in
      rw (c, e) (omega (arith, rest))

  -- Of members with variables 1 to n there is a round k exactly where UnitProp counts more than k.
  pub rounds-counted : (k : ℕ) (ms : List Diagram) → AllReduced n ms → (k < (unit_prop n ms).rounds) ↔ Round k ms
  unfolding unit_prop
  rounds-counted k ms o = (
    to-round n k ms,
    (λ x. let (now, u, R) = x in
        subst (λ (p : Propagation). k < p.rounds) (more-rounds n (in_use n ms) ms o)
        (from-round (n + in_use n ms) k ms now u o (omega arith) R)),
  )

  round-reduced : (k : ℕ) (ms now : List Diagram) (u : Diagram) → AllReduced n ms → RoundOf n k ms now u
      → AllReduced n now × (conflicts n now ≡ false) × (first_with_unit n now ≡ some u)
  round-reduced _ ms _ u o (first c e) = (o, c, e)
  round-reduced _ ms now taken o (later {k = k} {u = u} c e R) = round-reduced k (by_units n u ms) now taken (by_units-reduced n u ms) R

-- ---- at 64 variables and at n

no_zero : (n : ℕ) (ms : List Diagram) → conflicts n ms ≡ false → any (same (leaf false)) ms ≡ false
unfolding conflicts
no_zero n ms c = (or-neither (any (same (leaf false)) ms) (any (λ f. any (λ g. same f (negation n g)) ms) ms) c).0

starts-reduced : (n : ℕ) (ms : List Diagram) (g : Diagram) (start : List Diagram) → Starts n ms g start → AllReduced n start
starts-reduced n ms g _ of-rup = by_diagram-reduced n (negation n g) ms
starts-reduced n ms g _ (of-pr P N f a b) =
    by_diagram-reduced n (negation n (cofactor_literals n P N f)) (by_diagram n (negation n g) ms)
starts-reduced n ms g _ (of-path j p) = map-reduced n _ ms (λ f. literals-reduced n _ _ f)

-- "tell how many it wrote. Prove that in a round not refused this is the number of live members that differ from their cofactor by the
-- round's U" (02, 6/14): in
-- every state that the check reaches, whatever the root g of the line at hand, in every round of every propagation of the line. What
-- `propagate::round` promises
-- is about the member that it takes, and the cofactors by its units, at 64 variables: both are those at the header's n.
pub round-writes : {mode : Mode} {s : ℕ} {text proof : List ℕ} {n : ℕ} {st : State} {at : ℕ} {m : Meant} →
    Reached mode s text proof n st at m
    → (g : Diagram) {start : List Diagram} → Starts n (live_members st) g start
    → {k : ℕ} {now : List Diagram} {taken : Diagram} → RoundOf n k start now taken
    → (first_with_unit 64 now ≡ some taken) × (writes 64 now taken ≡ writes n now taken)
round-writes {mode} {s} {text} {proof} {n} {st} R g {start} S {k} {now} {taken} T =
    let narrow : n ≤ 64 = (reached-standing mode s text proof R).0 in
    let (o, c, is) = round-reduced n k start now taken (starts-reduced n (live_members st) g start S) T in (
      first_with_unit-width n 64 narrow now o (no_zero n now c) ∙ is,
      ap (differing now) (by_units-width n 64 narrow taken now (first_taken n now taken is o).1 o),
    )
