-- The reading is DIMACS: a text is read as n variables and the clauses cs, and accepted, exactly when it is a text of the grammar that says
-- them; so the grammar is unambiguous. The idea: header and clauses each way, put together. Assumes nothing.
use mathlib.Core.Path.{◌≡◌, refl, ap, ap₂, sym, subst, ◌∙◌}
use mathlib.Core.Bool.{Bool, true, false, cond}
use mathlib.Core.List.{List, [], ◌∷◌}
use Prim.Native.Nat.{ℕ, zero, suc, ◌-◌, ◌≤◌, ◌<◌}
use native.Mathlib.Omega.{arith}
use lib.ListN.{length, drop}
use lib.Dec.{ltb}
use borrow.Author.Tests.{lt-ltb, ltb-true, ltb-false}
use Rattle.meaning.specs.Operations as meaning
use Rattle.dimacs.specs.Numbers.{Token, Closing, Literal, Wrong}
use Rattle.dimacs.specs.Text.{is_token, token_end, line_end, between}
use Rattle.dimacs.specs.Header.{Header, Proper, Improper, judged_from, next_word, header_at, header}
use Rattle.dimacs.specs.Clauses.{Next, closed, ended, refused, after_token, clause_from, next_clause, Reading, clause, complete, refusal}
use Rattle.dimacs.specs.Clauses.{reading_then, clauses_from, formula}
use Rattle.dimacs.proofs.Cases.{by}
use Rattle.dimacs.proofs.OpenClause.{token_at, next_at, clause-suc, clause-end}
use Rattle.dimacs.proofs.Formula.{clauses-closed, clauses-refused, formula-proper, formula-improper}
use Rattle.grammar.specs.Parts.{number_value}
use Rattle.grammar.specs.Formula.{passed, header_line, LineEnds, body, clauses, AllWithin, Dimacs}
use Rattle.grammar.specs.Reads.{Gives, Reads}
use Rattle.grammar.proofs.Places.{Stops, inside}
use Rattle.grammar.proofs.ClausesRead.{body-read}
use Rattle.grammar.proofs.ClausesOf.{body_of}
use Rattle.grammar.proofs.HeaderRead.{lines-passed, header-at, header-rest}
use Rattle.grammar.proofs.HeaderOf.{lines_of, header-at-of}

-- ---- printed and read

module _ (s : List ℕ) (n : ℕ) (cs : List (List meaning.Literal)) (D : Dimacs s n cs) where
  abbrev place : ℕ
  place = judged_from s (length s) 0

  abbrev rest : List ℕ
  rest = body D.behind

  at-header : drop place s ≡ header_line D.line rest
  at-header = lines-passed s D.before _ (length s) 0 (omega arith) D.is

  abbrev line_ends_at : ℕ
  line_ends_at = line_end s (next_word s (next_word s (next_word s place)))

  proper : header s ≡ Proper n (length cs) line_ends_at
  unfolding header
  proper =
      let v : number_value D.line.variables ≤ 64 = omega (arith, D.variables, D.small) in
      let c : number_value D.line.clauses ≤ 1024 = omega (arith, D.count, D.few) in
      rw (lt-ltb place (length s) (inside s place _ _ at-header))
      (header-at s D.line rest D.line_ends place at-header v c ∙ ap₂ (λ (x y : ℕ). Proper x y line_ends_at) D.variables D.count)

  given : Gives cs (clauses_from s n (length cs) line_ends_at)
  given =
      subst (λ x. Gives x (clauses_from s n (length x) line_ends_at)) D.are
      (body-read s n D.behind line_ends_at (header-rest s D.line rest D.line_ends place at-header)
      (subst (AllWithin n) (sym D.are) D.within))

  -- Every text of the grammar is read as what it says, and nothing is refused.
  pub print-and-read : Reads s n cs
  print-and-read = record { wanted = length cs; at = line_ends_at; proper = proper; gives = given }

-- ---- read and of the grammar

module _ (s : List ℕ) (n : ℕ) where
  -- A clause that is begun does not end the reading.
  after-ended : (t : Token) (first at to : ℕ) (x : Next) → (x ≡ ended → ⊥) → after_token t first at to x ≡ ended → ⊥
  after-ended Closing first at to x h e = let z : ◌≡◌ {A = ℕ} 0 1 = cc in absurd (omega arith)
  after-ended (Wrong k) first at to x h e = let z : ◌≡◌ {A = ℕ} 0 1 = cc in absurd (omega arith)
  after-ended (Literal v b) first at to (closed ls f next) h e = let z : ◌≡◌ {A = ℕ} 0 1 = cc in absurd (omega arith)
  after-ended (Literal v b) first at to ended h e = h refl
  after-ended (Literal v b) first at to (refused k p) h e = let z : ◌≡◌ {A = ℕ} 0 1 = cc in absurd (omega arith)

  none-ended : (first at : ℕ) → clause_from s n zero first at ≡ ended → ⊥
  unfolding clause_from
  none-ended first at e = let z : ◌≡◌ {A = ℕ} 0 1 = cc in absurd (omega arith)

  clause-ended : (k first at : ℕ) → clause_from s n k first at ≡ ended → ⊥
  clause-ended zero first at e = none-ended first at e
  clause-ended (suc k) first at e =
      by (ltb at (length s))
      (λ t. after-ended (token_at s n at) first at (token_end s at) (clause_from s n k first (next_at s n at))
      (clause-ended k first (next_at s n at))
      (sym (clause-suc s n k first at (ltb-true at (length s) t)) ∙ e))
      (λ t. let q : refused 6 first ≡ ended = sym (clause-end s n (suc k) first at (ltb-false at (length s) t)) ∙ e in
      let z : ◌≡◌ {A = ℕ} 0 1 = cc in absurd (omega arith))

  next-ended : (left at : ℕ) → next_clause s n (suc left) at ≡ ended → ⊥
  unfolding next_clause
  next-ended left at e =
      let first = between s at in
      by (ltb first (length s))
      (λ t. clause-ended (length s - first) first first (sym (rw t) ∙ e))
      (λ t. let q : refused 5 (length s) ≡ ended = sym (rw t) ∙ e in let z : ◌≡◌ {A = ℕ} 0 1 = cc in absurd (omega arith))

  -- As many clauses are read as are wanted.
  none-wanted : (at : ℕ) (cs : List (List meaning.Literal)) → Gives cs (clauses_from s n zero at) → 0 ≡ length cs
  unfolding clauses_from
  none-wanted at cs g = go cs (ltb (between s at) (length s)) g
    where
      go : (cs : List (List meaning.Literal)) (t : Bool) → Gives cs
          (reading_then (cond t (refused 5 (between s at)) ended) (λ next. complete)) → 0 ≡ length cs
      go [] t h = refl
      go (c ∷ cs) true h = absurd h
      go (c ∷ cs) false h = absurd h

  count-step : (left at : ℕ) (cs : List (List meaning.Literal)) →
      ((next : ℕ) (ds : List (List meaning.Literal)) → Gives ds (clauses_from s n left next) → left ≡ length ds)
      → (x : Next) → next_clause s n (suc left) at ≡ x → Gives cs (clauses_from s n (suc left) at) → suc left ≡ length cs
  count-step left at cs ih ended e g = absurd (next-ended left at e)
  count-step left at [] ih (refused k p) e g = absurd (subst (Gives []) (clauses-refused s n (suc left) at k p e) g)
  count-step left at (c ∷ cs) ih (refused k p) e g = absurd (subst (Gives (c ∷ cs)) (clauses-refused s n (suc left) at k p e) g)
  count-step left at [] ih (closed ls f next) e g = absurd (subst (Gives []) (clauses-closed s n (suc left) at ls f next e) g)
  count-step left at (c ∷ cs) ih (closed ls f next) e g =
      let one : suc left - 1 ≡ left = omega arith in
      let k : (ls ≡ c) × Gives cs (clauses_from s n left next) =
      subst (Gives (c ∷ cs)) (clauses-closed s n (suc left) at ls f next e ∙ ap (λ (i : ℕ). clause ls f (clauses_from s n i next)) one) g in
      ap suc (ih next cs k.1)

  count : (left at : ℕ) (cs : List (List meaning.Literal)) → Gives cs (clauses_from s n left at) → left ≡ length cs
  count zero at cs g = none-wanted at cs g
  count (suc left) at cs g = count-step left at cs (λ next ds h. count left next ds h) (next_clause s n (suc left) at) refl g

ends-token : (r : List ℕ) → LineEnds r → Stops is_token r
ends-token [] h = tt
ends-token (b ∷ r) h = ap is_token h

-- A proper header stands behind the lines that are passed over.
pub record Heads (s : List ℕ) (n m at : ℕ) : Type 0 where
  pub in_text : judged_from s (length s) 0 < length s
  pub judged : header_at s (judged_from s (length s) 0) ≡ Proper n m at

heads : (s : List ℕ) (n m at : ℕ) → header s ≡ Proper n m at → Heads s n m at
unfolding header
heads s n m at e =
    let p = judged_from s (length s) 0 in
    by (ltb p (length s))
    (λ t. record { in_text = ltb-true p (length s) t; judged = sym (rw t) ∙ e })
    (λ t. let q : Improper 1 (length s) ≡ Proper n m at = sym (rw t) ∙ e in let z : ◌≡◌ {A = ℕ} 0 1 = cc in absurd (omega arith))

module _ (s : List ℕ) (n : ℕ) (cs : List (List meaning.Literal)) where
  -- Whatever the reader accepts is a text of the grammar that says what was read.
  read-is-of-the-grammar : Reads s n cs → Dimacs s n cs
  read-is-of-the-grammar R =
      let many : R.wanted ≡ length cs = count s n R.wanted R.at cs R.gives in
      let H = heads s n R.wanted R.at R.proper in
      let p = judged_from s (length s) 0 in
      let in_text : p < length s = H.in_text in
      let L = lines_of s (length s) 0 H.in_text in
      let found = header-at-of s p (omega arith) n R.wanted R.at H.judged in
      let line = found.2 in
      let B = body_of s n cs R.at (ends-token (drop R.at s) line.ends)
      (subst (λ k. Gives cs (clauses_from s n k R.at)) many R.gives) in
      record {
        before = L.0;
        line = line.tree;
        behind = B.tree;
        is = L.1 ∙ ap (passed L.0) (line.is ∙ ap (header_line line.tree) B.is);
        line_ends = subst LineEnds B.is line.ends;
        variables = line.variables;
        count = line.clauses ∙ many;
        are = B.are;
        small = found.0;
        few = subst (λ k. k ≤ 1024) many found.1;
        within = B.within;
      }

  -- The reading is DIMACS.
  pub reads-exactly : (Reads s n cs → Dimacs s n cs) × (Dimacs s n cs → Reads s n cs)
  reads-exactly = (read-is-of-the-grammar, print-and-read s n cs)

-- ---- one text says one formula

gives_same : (cs ds : List (List meaning.Literal)) (r : Reading) → Gives cs r → Gives ds r → cs ≡ ds
gives_same [] [] r g h = refl
gives_same [] (d ∷ ds) complete g h = absurd h
gives_same [] (d ∷ ds) (clause ls f r) g h = absurd g
gives_same [] (d ∷ ds) (refusal k p) g h = absurd g
gives_same (c ∷ cs) [] complete g h = absurd g
gives_same (c ∷ cs) [] (clause ls f r) g h = absurd h
gives_same (c ∷ cs) [] (refusal k p) g h = absurd g
gives_same (c ∷ cs) (d ∷ ds) complete g h = absurd g
gives_same (c ∷ cs) (d ∷ ds) (clause ls f r) g h =
    ap₂ (λ (x : List meaning.Literal) (xs : List (List meaning.Literal)). x ∷ xs) (sym g.0 ∙ h.0) (gives_same cs ds r g.1 h.1)
gives_same (c ∷ cs) (d ∷ ds) (refusal k p) g h = absurd g

-- The whole reading gives the clauses that were read.
formula-gives : (s : List ℕ) (n : ℕ) (cs : List (List meaning.Literal)) → Dimacs s n cs → Gives cs (formula s)
formula-gives s n cs D =
    let R = print-and-read s n cs D in subst (Gives cs) (sym (formula-proper s n R.wanted R.at R.proper)) R.gives

-- What the whole reading gives, the text says.
improper-not : (cs : List (List meaning.Literal)) (k p : ℕ) → Gives cs (refusal k p) → ⊥
improper-not [] k p g = g
improper-not (c ∷ cs) k p g = g

from-header : (s : List ℕ) (cs : List (List meaning.Literal)) (h : Header) → header s ≡ h → Gives cs (formula s) → (n : ℕ) × Dimacs s n cs
from-header s cs (Proper n m at) e g =
    (n, read-is-of-the-grammar s n cs (record { wanted = m; at = at; proper = e; gives = subst (Gives cs) (formula-proper s n m at e) g }))
from-header s cs (Improper k p) e g = absurd (improper-not cs k p (subst (Gives cs) (formula-improper s k p e) g))

-- The whole reading gives the clauses cs, to its end, exactly when the text says them of some number of variables.
pub formula-exactly : (s : List ℕ) (cs : List (List meaning.Literal))
    → (Gives cs (formula s) → (n : ℕ) × Dimacs s n cs) × ((n : ℕ) → Dimacs s n cs → Gives cs (formula s))
formula-exactly s cs = (from-header s cs (header s) refl, λ n D. formula-gives s n cs D)

-- No text says two formulas.
pub unambiguous : (s : List ℕ) (n m : ℕ) (cs ds : List (List meaning.Literal)) → Dimacs s n cs → Dimacs s m ds → (n ≡ m) × (cs ≡ ds)
unambiguous s n m cs ds C D =
    let Q = print-and-read s n cs C in
    let R = print-and-read s m ds D in
    let e : Proper n Q.wanted Q.at ≡ Proper m R.wanted R.at = sym Q.proper ∙ R.proper in
    (cc, gives_same cs ds (formula s) (formula-gives s n cs C) (formula-gives s m ds D))
