-- The number of an explanation is the check's, but for 30 where the check did not refuse. The idea: it is defined so. Assumes nothing.
use mathlib.Core.Path.{◌≡◌, refl}
use mathlib.Core.Bool.{Bool, true, false, ◌&&◌, cond}
use mathlib.Core.List.{List}
use Prim.Native.Nat.{ℕ}
use lib.ListN.{length}
use lib.Dec.{eqb, leb}
use Rattle.table.specs.Columns.{Columns}
use Rattle.commands.specs.declared.Mode.{Mode}
use Rattle.verdict.specs.Check.{verdict, lent_fits, CheckOutcome, outcome, check}
use Rattle.causes.specs.Explanation.{Explanation, explanation}
use Rattle.causes.specs.Answers.{WhyOutcome, why}

-- "refuses with 30 [..] a check that did not refuse"
abbrev pub or_thirty : ℕ → ℕ
or_thirty number = cond (eqb number 0) 30 number

number_of : (t : Bool) (x y : Explanation) → (cond t x y).number ≡ cond t x.number y.number
number_of true x y = refl
number_of false x y = refl

pub explanation-number : (mode : Mode) (s : ℕ) (text proof : List ℕ) → (explanation mode s text proof).number
    ≡ or_thirty (verdict mode s text proof).number
unfolding explanation
explanation-number mode s text proof = number_of (eqb (verdict mode s text proof).number 0) _ _

-- THEOREM: "its number is the check's", 30 where the check did not refuse, 7 where the list for the literals is too short.
pub why-number : (mode : Mode) (c : Columns) (count : ℕ) (members struck scratch words text proof : List ℕ)
    → (why mode c count members struck scratch words text proof).number
    ≡ cond (leb 128 (length words)) (or_thirty (check mode c count members struck scratch text proof).number) 7
unfolding why check outcome
why-number mode c count members struck scratch words text proof = go (leb 128 (length words)) (lent_fits c members struck scratch) _ _ _ _
    (explanation-number mode (length c.vars) text proof) refl refl
  where
    go : (u t : Bool) (x y : WhyOutcome) (a b : CheckOutcome) → x.number ≡ or_thirty a.number
        → y.number ≡ or_thirty b.number → y.number ≡ 7
        → (cond (u && t) x y).number ≡ cond u (or_thirty (cond t a b).number) 7
    go true true x y a b p q r = p
    go true false x y a b p q r = q
    go false t x y a b p q r = r
