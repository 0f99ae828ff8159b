-- The peak of a check whose formula is refused: the greatest count while the clauses were made. The idea: the clauses before the refusal
-- are placed one after
-- the other, and the one that finds no room is the last. Assumes nothing.
use mathlib.Core.Path.{◌≡◌, sym, ap, ◌∙◌, subst}
use mathlib.Core.Bool.{false}
use mathlib.Core.List.{List, [], ◌∷◌, ◌++◌, map, append-nil}
use Prim.Native.Nat.{ℕ}
use lib.ListN.{length}
use Rattle.meaning.specs.Diagram.{Diagram}
use Rattle.meaning.specs.Operations as meaning
use Rattle.meaning.proofs.Booleans.{t≢f}
use Rattle.table.specs.Nodes.{Node, full, place}
use Rattle.table.specs.Making.{Room, short, all, reached, placed_all}
use Rattle.table.proofs.PlacedAll.{placed-then}
use Rattle.dimacs.specs.Header.{header}
use Rattle.dimacs.specs.Clauses.{Reading, formula}
use Rattle.verdict.specs.Steps.{emptied}
use Rattle.verdict.specs.Check.{Verdict, CheckOutcome, outcome}
use Rattle.verdict.specs.Taken.{Function}
use Rattle.verdict.specs.Run.{variables_of, Making, opened, made, Ended, no_header, not-read, no_room, stopped, tried}
use Rattle.verdict.specs.Satisfies.{clauses_of}
use Rattle.demands.specs.Leaving.{Handed, checked, Fits, places, clauses_read, Ends, wrong_size, at_place}
use Rattle.demands.proofs.Ending.{check-ends}
use Rattle.exactness.specs.Passing.{Passes, Greatest}
use Rattle.exactness.proofs.Passing.{placed-peak}
use Rattle.exactness.proofs.Nodes.{map-append, making-placed}

module _ (s : ℕ) (text : List ℕ) where
  abbrev read : ℕ → List Diagram
  read n = map (meaning.clause n) (clauses_of (formula text))

  making-variables : {n many : ℕ} {t : List Node} {ms : List ℕ} {fs : List Function} {r : Reading} → Making s text n many t ms fs r
      → variables_of (header text) ≡ n
  making-variables (opened e) = ap variables_of e
  making-variables (made M e) = making-variables M

  -- where a token is refused, all clauses before it are placed
  not-read-peak : (n : ℕ) {t : List Node} (ds : List (List meaning.Literal)) → placed_all s emptied (map (meaning.clause n) ds) ≡ all t → ds
      ++ [] ≡ clauses_of (formula text)
      → (reached (placed_all s emptied (read n))).peak ≡ length t
  not-read-peak n ds p q =
      ap (λ (x : List (List meaning.Literal)). (reached (placed_all s emptied (map (meaning.clause n) x))).peak) (sym q ∙ append-nil ds)
      ∙ ap (λ (r : Room). (reached r).peak) p

  -- where one finds no room, it is the last that is tried
  no-room-peak : (n : ℕ) {t t₁ : List Node} (ds cs : List (List meaning.Literal)) (ls : List meaning.Literal)
      → placed_all s emptied (map (meaning.clause n) ds) ≡ all t → ds ++ (ls ∷ cs) ≡ clauses_of (formula text)
      → place s t (meaning.clause n ls) ≡ full t₁ → (reached (placed_all s emptied (read n))).peak ≡ length t₁
  unfolding placed_all
  no-room-peak n {t} {t₁} ds cs ls p q e =
      let stuck : placed_all s t (map (meaning.clause n) (ls ∷ cs)) ≡ short t₁ = rw e in
      ap (λ (x : List (List meaning.Literal)). (reached (placed_all s emptied (map (meaning.clause n) x))).peak) (sym q)
      ∙ ap (λ (x : List Diagram). (reached (placed_all s emptied x)).peak) (map-append (meaning.clause n) ds (ls ∷ cs))
      ∙ ap (λ (r : Room). (reached r).peak)
      (placed-then s emptied (map (meaning.clause n) ds) (map (meaning.clause n) (ls ∷ cs)) t p ∙ stuck)

-- "the check shall report the greatest count reached, dropped nodes included. On a refusal that count covers all that was placed before"
-- (02, 2/14), where the
-- formula is refused: the clauses are placed one after the other, those before the refused token, or up to the one that finds no room.
module _ (i : Handed) (fits : Fits i) where
  abbrev all_read : List Diagram
  all_read = map (meaning.clause (variables_of (header i.text))) (clauses_read i)

  ended-peak : (v : Verdict) → Ended i.mode (places i) i.text i.proof v → v.in_proof ≡ false
      → (reached (placed_all (places i) emptied all_read)).peak ≡ v.peak
  unfolding placed_all clauses_of formula
  ended-peak _ (no_header h) early = rw h
  ended-peak _ (not-read {n = n} M) early =
      let (ds, p, q) = making-placed (places i) i.text M in
      ap (λ (x : ℕ). (reached (placed_all (places i) emptied (read (places i) i.text x))).peak) (making-variables (places i) i.text M)
      ∙ not-read-peak (places i) i.text n ds p q
  ended-peak _ (no_room {n = n} {ls = ls} {rest = rest} M e) early =
      let (ds, p, q) = making-placed (places i) i.text M in
      ap (λ (x : ℕ). (reached (placed_all (places i) emptied (read (places i) i.text x))).peak) (making-variables (places i) i.text M)
      ∙ no-room-peak (places i) i.text n ds (clauses_of rest) ls p q e
  ended-peak _ (stopped R e) early = t≢f early
  ended-peak _ (tried R e) early = t≢f early

  pub formula-peak : (checked i).in_proof ≡ false → Greatest (Passes (places i) emptied all_read) (checked i).peak
  unfolding outcome
  formula-peak early = subst (Greatest (Passes (places i) emptied all_read)) (go (checked i) (check-ends i) early)
      (placed-peak (places i) emptied all_read)
    where
      go : (o : CheckOutcome) → Ends i o → o.in_proof ≡ false → (reached (placed_all (places i) emptied all_read)).peak ≡ o.peak
      go _ (wrong_size other) early = absurd (other fits)
      go _ (at_place {v} _ E) early = ended-peak v E early
