-- What the check says of a text, in the grammar's words: 0 only where the text is DIMACS and no assignment satisfies the clauses that it
-- says; a text that is no DIMACS gets a number of the formula; a DIMACS text none but 8. The idea: a reading that ends with nothing refused
-- gives its clauses (`formula-exactly`). Assumes nothing.
use mathlib.Core.Path.{◌≡◌, refl, sym, ◌∙◌}
use mathlib.Core.Bool.{true, false}
use mathlib.Core.List.{List, [], ◌∷◌}
use Prim.Native.Nat.{ℕ}
use Rattle.meaning.specs.Diagram.{Assignment}
use Rattle.meaning.specs.Operations as meaning
use Rattle.meaning.proofs.Booleans.{t≢f}
use Rattle.dimacs.specs.Clauses.{Reading, clause, complete, refusal, formula}
use Rattle.dimacs.proofs.Formula.{formula-improper}
use Rattle.commands.specs.declared.Mode.{Mode}
use Rattle.table.specs.Columns.{Columns}
use Rattle.verdict.specs.Steps.{State, stop, spent}
use Rattle.verdict.specs.Check.{step, Verdict, verdict, check}
use Rattle.verdict.specs.Taken.{Meant}
use Rattle.verdict.specs.Run.{command_in, Reached, Ended, no_header, not-read, no_room, stopped, tried}
use Rattle.verdict.specs.Satisfies.{clauses_of, read_to_end, satisfies}
use Rattle.verdict.proofs.Clauses.{underway}
use Rattle.verdict.proofs.Ends.{ended}
use Rattle.verdict.proofs.Numbers.{FormulaNumber, Closed, formula-refused, proof-ended, proof-tried, ended-closed}
use Rattle.verdict.proofs.Refuted.{reached-end, check-refuted}
use Rattle.grammar.specs.Formula.{Dimacs}
use Rattle.grammar.specs.Reads.{Gives}
use Rattle.grammar.proofs.Exact.{formula-exactly}

-- A reading to the end gives the clauses read, and only such a one gives any.
end-gives : (r : Reading) → read_to_end r ≡ true → Gives (clauses_of r) r
unfolding clauses_of read_to_end
end-gives (clause ls first r) e = (refl, end-gives r e)
end-gives complete e = tt
end-gives (refusal number place) e = t≢f (sym e)

gives-end : (cs : List (List meaning.Literal)) (r : Reading) → Gives cs r → read_to_end r ≡ true
unfolding read_to_end
gives-end [] complete g = refl
gives-end [] (clause ls first r) g = absurd g
gives-end [] (refusal number place) g = absurd g
gives-end (c ∷ cs) complete g = absurd g
gives-end (c ∷ cs) (clause ls first r) g = gives-end cs r g.1
gives-end (c ∷ cs) (refusal number place) g = absurd g

-- The text is DIMACS for some formula.
abbrev pub IsDimacs : List ℕ → Type 0
IsDimacs text = (cs : List (List meaning.Literal)) × (n : ℕ) × Dimacs text n cs

-- It is exactly where the reader comes to the end with nothing refused.
reads-to-end : (text : List ℕ) → (read_to_end (formula text) ≡ true → IsDimacs text) × (IsDimacs text → read_to_end (formula text) ≡ true)
reads-to-end text = (
  (λ e. let D = (formula-exactly text (clauses_of (formula text))).0 (end-gives (formula text) e) in (clauses_of (formula text), D.0, D.1)),
  (λ d. gives-end d.0 (formula text) ((formula-exactly text d.0).1 d.1 d.2)),
)

-- The call says 0 only of a DIMACS text whose formula no assignment satisfies, whatever the proof's bytes and whatever the lent places
-- held.
pub refuted-dimacs : (mode : Mode) (c : Columns) (count : ℕ) (members struck scratch text proof : List ℕ)
    → (check mode c count members struck scratch text proof).number ≡ 0
    → (cs : List (List meaning.Literal)) × (n : ℕ) × Dimacs text n cs × ((a : Assignment) → satisfies a cs ≡ false)
refuted-dimacs mode c count members struck scratch text proof e =
    let R = check-refuted mode c count members struck scratch text proof e in
    let D = (formula-exactly text (clauses_of (formula text))).0 (end-gives (formula text) R.0) in
    (clauses_of (formula text), D.0, D.1, R.1)

-- ---- what is no DIMACS, and what is, at the check

refusal-ends : (number place : ℕ) (r : Reading) → r ≡ refusal number place → read_to_end r ≡ false
unfolding read_to_end
refusal-ends number place r e = rw e

module _ (mode : Mode) (s : ℕ) (text proof : List ℕ) where
  -- A text that is no DIMACS is refused with a number of the formula: 1 to 6, or 8 where the table is full at a clause before the fault.
  pub not-dimacs-refused : (IsDimacs text → ⊥) → FormulaNumber (verdict mode s text proof).number
  not-dimacs-refused no_text = go (verdict mode s text proof)
      (ended-closed mode s text proof (verdict mode s text proof) (ended mode s text proof))
    where
      go : (v : Verdict) → Closed mode s text proof v → FormulaNumber v.number
      go _ (formula-refused named) = named
      go _ (proof-ended p R e) = absurd (no_text ((reads-to-end text).0 (reached-end mode s text proof R)))
      go _ (proof-tried p R e) = absurd (no_text ((reads-to-end text).0 (reached-end mode s text proof R)))

  -- Of a DIMACS text the table is full at a clause, or the check comes to the proof's commands.
  pub data Judged (v : Verdict) : Type 0 where
    full-at-clause : v.number ≡ 8 → Judged v
    at-command : {n at : ℕ} {st : State} {m : Meant} → Reached mode s text proof n st at m → (offset : ℕ)
        → step mode.consequence n s st (command_in mode proof n at) ≡ stop v.number offset → Judged v
    at-command-tried : {n at : ℕ} {st : State} {m : Meant} → Reached mode s text proof n st at m → (peak : ℕ)
        → step mode.consequence n s st (command_in mode proof n at) ≡ spent v.number peak → Judged v

  pub dimacs-judged : IsDimacs text → Judged (verdict mode s text proof)
  dimacs-judged d = go (verdict mode s text proof) (ended mode s text proof)
    where
      whole : read_to_end (formula text) ≡ true
      whole = (reads-to-end text).1 d

      go : (v : Verdict) → Ended mode s text proof v → Judged v
      go _ (no_header {number} {place} e) = t≢f
          (sym whole ∙ refusal-ends number place (formula text) (formula-improper text number place e))
      go _ (not-read {n} {many} {number} {place} M) = t≢f
          (sym whole ∙ sym (underway s text n many M).end ∙ refusal-ends number place (refusal number place) refl)
      go _ (no_room M e) = full-at-clause refl
      go _ (stopped {n} {number} {offset} R e) = at-command R offset e
      go _ (tried {n} {number} {peak} R e) = at-command-tried R peak e
