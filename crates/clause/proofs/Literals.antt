-- The set of a clause's literals has the variables that occur with each sign, so that its diagram is the clause's, for every variable
-- count that the literals keep within. The idea: the law of the set, and that a clause looks at its own variables. Assumes nothing.
use mathlib.Core.Path.{◌≡◌, refl, sym, ap, ap₂, ◌∙◌}
use mathlib.Core.Bool.{Bool, true, false, ◌||◌, beq}
use mathlib.Core.List.{List, [], ◌∷◌}
use Prim.Native.Nat.{ℕ, ◌-◌, ◌≤◌}
use native.Mathlib.Omega.{arith}
use lib.ListN.{take}
use lib.Seq.{get_or-take}
use Rattle.meaning.specs.Diagram.{Assignment}
use Rattle.meaning.specs.Operations.{Literal, literal_value, clause_value, clause}
use Rattle.meaning.specs.Words.{in_word}
use Rattle.meaning.proofs.Values.{diagram-width}
use Rattle.meaning.proofs.Clauses.{occurs, clause-is}
use Rattle.meaning.specs.Literals.{OfVariables}
use Rattle.words.specs.declared.Literals.{Literals}
use Rattle.words.specs.Sets.{has, literals_of}
use Rattle.words.proofs.LiteralSets.{in-set}
use Rattle.clause.specs.Words.{clause_of_words}
use Rattle.clause.proofs.Diagrams.{words_are}

-- ---- the variable count

pub within_more : (n m : ℕ) → n ≤ m → (ls : List Literal) → OfVariables n ls → OfVariables m ls
within_more n m le [] i = tt
within_more n m le (l ∷ ls) i = (i.0, omega arith, within_more n m le ls i.2)

-- a clause looks at its own variables alone
value-within : (n : ℕ) (ls : List Literal) (a : Assignment) → OfVariables n ls → clause_value ls a ≡ clause_value ls (take n a)
unfolding clause_value literal_value
value-within n [] a i = refl
value-within n (l ∷ ls) a i =
    ap₂ ◌||◌ (ap (λ (x : Bool). beq x l.positive) (sym (get_or-take n a (l.variable - 1) false (omega arith))))
    (value-within n ls a i.2)

clause-width : (n m : ℕ) → n ≤ m → (ls : List Literal) → OfVariables n ls → clause m ls ≡ clause n ls
unfolding clause
clause-width n m le ls i = diagram-width n m (clause_value ls) (clause_value ls) le (λ a len. value-within n ls a i)

-- ---- the clause

-- of any set that has just the literals
words-clause : (n : ℕ) → n ≤ 64 → (ls : List Literal) → OfVariables n ls → (u : Literals) →
    ((v : ℕ) (s : Bool) → 1 ≤ v → v ≤ 64 → has u v s ≡ occurs ls v s)
    → clause_of_words u ≡ clause n ls
unfolding has
words-clause n le ls i u is =
    words_are u ∙ sym (clause-is 64 ls (in_word u.positive) (in_word u.negative) (within_more n 64 le ls i) (λ v. is v true)
    (λ v. is v false)) ∙ clause-width n 64 le ls i

-- of the set that the reader gives
pub clause-of-words : (n : ℕ) → n ≤ 64 → (ls : List Literal) → OfVariables n ls → clause_of_words (literals_of ls) ≡ clause n ls
clause-of-words n le ls i = words-clause n le ls i (literals_of ls) (λ v s x y. in-set n ls v s i x)
