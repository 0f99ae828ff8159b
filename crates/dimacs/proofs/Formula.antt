-- For callers: what a result of `next_clause` says of the definition's next clause, and the whole reading as its steps. Assumes nothing.
use mathlib.Core.Path.{◌≡◌, refl, ap, sym, ◌∙◌}
use mathlib.Core.Bool.{Bool, true, false, cond}
use mathlib.Core.List.{List}
use Prim.Native.Nat.{ℕ, zero, suc, ◌-◌, ◌≤◌}
use native.Mathlib.Omega.{arith}
use lib.ListN.{length}
use lib.Dec.{ltb}
use Rattle.meaning.specs.Operations as meaning
use Rattle.words.specs.Sets.{literals_of}
use Rattle.dimacs.specs.declared.ClosedClause.{ClosedClause}
use Rattle.dimacs.specs.declared.Refusal.{Refusal}
use Rattle.dimacs.specs.declared.Header as code_header
use Rattle.std.specs.Prelude.{None, Some, Ok, Err}
use Rattle.dimacs.specs.Text.{between}
use Rattle.dimacs.specs.Header.{Header, Proper, Improper, header}
use Rattle.dimacs.specs.Clauses.{Next, closed, ended, refused, clause, complete, refusal, next_clause, clauses_from, formula}
use Rattle.dimacs.specs.Inner.{clause_of, header_read}

-- ---- results

-- The next clause x closes, and w holds its literals and places.
pub record IsClosed (x : Next) (w : ClosedClause) : Type 0 where
  pub list : List meaning.Literal
  pub is : x ≡ closed list w.first w.next
  pub literals : w.literals ≡ literals_of list

pub closed_is : (x : Next) (w : ClosedClause) → clause_of x ≡ Ok (Some w) → IsClosed x w
unfolding clause_of
closed_is (closed ls first next) w e =
    let q : record { literals = literals_of ls; first = first; next = next } ≡ w = cc in
    record {
      list = ls;
      is = rw (sym q);
      literals = sym (ap (λ (z : ClosedClause). z.literals) q);
    }
closed_is ended w e = let z : ◌≡◌ {A = ℕ} 0 1 = cc in absurd (omega arith)
closed_is (refused number place) w e = let z : ◌≡◌ {A = ℕ} 0 1 = cc in absurd (omega arith)

pub ended_is : (x : Next) → clause_of x ≡ Ok None → x ≡ ended
unfolding clause_of
ended_is (closed ls first next) e = let z : ◌≡◌ {A = ℕ} 0 1 = cc in absurd (omega arith)
ended_is ended e = refl
ended_is (refused number place) e = let z : ◌≡◌ {A = ℕ} 0 1 = cc in absurd (omega arith)

pub refused-is : (x : Next) (e : Refusal) → clause_of x ≡ Err e → x ≡ refused e.number e.place
unfolding clause_of
refused-is (closed ls first next) r e = let z : ◌≡◌ {A = ℕ} 0 1 = cc in absurd (omega arith)
refused-is ended r e = let z : ◌≡◌ {A = ℕ} 0 1 = cc in absurd (omega arith)
refused-is (refused k p) r e = let q : record { number = k; place = p } ≡ r = cc in rw (sym q)

-- The header x is proper, or refused, as the code's answer says.
pub header-ok : (x : Header) (h : code_header.Header) → header_read x ≡ Ok h → x ≡ Proper h.variables h.clauses h.end
header-ok (Proper n many end) h e = let q : record { variables = n; clauses = many; end = end } ≡ h = cc in rw (sym q)
header-ok (Improper number place) h e = cc

pub header-err : (x : Header) (r : Refusal) → header_read x ≡ Err r → x ≡ Improper r.number r.place
header-err (Proper n many end) r e = cc
header-err (Improper number place) r e = let q : record { number = number; place = place } ≡ r = cc in rw (sym q)

-- ---- the reading

pub formula-proper : (s : List ℕ) (n clauses at : ℕ) → header s ≡ Proper n clauses at → formula s ≡ clauses_from s n clauses at
unfolding formula
formula-proper s n clauses at e = rw e

pub formula-improper : (s : List ℕ) (number place : ℕ) → header s ≡ Improper number place → formula s ≡ refusal number place
unfolding formula
formula-improper s number place e = rw e

no-clause : (t : Bool) (place : ℕ) (ls : List meaning.Literal) (first next : ℕ) {P : Type 0} → cond t (refused 5 place) ended
    ≡ closed ls first next → P
no-clause true place ls first next e = let z : ◌≡◌ {A = ℕ} 0 1 = cc in absurd (omega arith)
no-clause false place ls first next e = let z : ◌≡◌ {A = ℕ} 0 1 = cc in absurd (omega arith)

module _ (s : List ℕ) (n : ℕ) where
  -- A clause closes only where one is wanted, and the reading goes on behind it.
  pub closed-wanted : (left at : ℕ) (ls : List meaning.Literal) (first next : ℕ) → next_clause s n left at ≡ closed ls first next → 1 ≤ left
  unfolding next_clause
  closed-wanted zero at ls first next e = no-clause (ltb (between s at) (length s)) (between s at) ls first next e
  closed-wanted (suc left) at ls first next e = omega arith

  closed-suc : (left at : ℕ) (ls : List meaning.Literal) (first next : ℕ) → next_clause s n (suc left) at ≡ closed ls first next
      → clauses_from s n (suc left) at ≡ clause ls first (clauses_from s n left next)
  unfolding clauses_from
  closed-suc left at ls first next e = rw e

  pub clauses-closed : (left at : ℕ) (ls : List meaning.Literal) (first next : ℕ) → next_clause s n left at ≡ closed ls first next
      → clauses_from s n left at ≡ clause ls first (clauses_from s n (left - 1) next)
  clauses-closed left at ls first next e =
      let wanted : 1 ≤ left = closed-wanted left at ls first next e in
      let more : left ≡ suc (left - 1) = omega arith in
      ap (λ (k : ℕ). clauses_from s n k at) more
      ∙ closed-suc (left - 1) at ls first next (ap (λ (k : ℕ). next_clause s n k at) (sym more) ∙ e)

  pub clauses-ended : (left at : ℕ) → next_clause s n left at ≡ ended → clauses_from s n left at ≡ complete
  unfolding clauses_from
  clauses-ended zero at e = rw e
  clauses-ended (suc left) at e = rw e

  pub clauses-refused : (left at number place : ℕ) → next_clause s n left at ≡ refused number place → clauses_from s n left at
      ≡ refusal number place
  unfolding clauses_from
  clauses-refused zero at number place e = rw e
  clauses-refused (suc left) at number place e = rw e
