-- A set of literals made from a list has just the list's, and one without a bit has none. By induction on the list. Assumes nothing.
use mathlib.Core.Path.{◌≡◌, ap, sym, ◌∙◌}
use mathlib.Core.Bool.{Bool, true, false, cond, ◌&&◌, ◌||◌, or_assoc, or-false, beq}
use mathlib.Core.List.{List, [], ◌∷◌}
use Prim.Native.Nat.{ℕ, ◌-◌, ◌^◌, ◌≤◌}
use lib.Dec.{eqb}
use lib.Bits.{bit_or}
use Rattle.meaning.specs.Operations.{Literal}
use Rattle.meaning.specs.Words.{in_word}
use Rattle.meaning.proofs.Booleans.{and-true, and-false, or-neither}
use Rattle.meaning.proofs.Clauses.{occurs}
use Rattle.meaning.specs.Literals.{OfVariables}
use Rattle.meaning.proofs.Words.{in-or, in-bit, in-none}
use Rattle.words.specs.declared.Literals.{Literals}
use Rattle.words.specs.Sets.{with_variable, has, no_literals, with_literal, with_all, literals_of}

pub in-with : (w x v : ℕ) → 1 ≤ x → 1 ≤ v → in_word (with_variable w x) v ≡ (in_word w v || eqb x v)
in-with w x v h k = in-or w (2 ^ (x - 1)) v ∙ ap (◌||◌ (in_word w v)) (in-bit x v h k)

has-with : (u : Literals) (x : ℕ) (t : Bool) (v : ℕ) (s : Bool) → 1 ≤ x → 1 ≤ v → has (with_literal u x t) v s
    ≡ (has u v s || (eqb x v && beq t s))
unfolding has
has-with u x true v true h k = in-with u.positive x v h k ∙ ap (◌||◌ (in_word u.positive v)) (sym (and-true (eqb x v)))
has-with u x false v false h k = in-with u.negative x v h k ∙ ap (◌||◌ (in_word u.negative v)) (sym (and-true (eqb x v)))
has-with u x true v false h k = sym (ap (◌||◌ (in_word u.negative v)) (and-false (eqb x v)) ∙ or-false (in_word u.negative v))
has-with u x false v true h k = sym (ap (◌||◌ (in_word u.positive v)) (and-false (eqb x v)) ∙ or-false (in_word u.positive v))

has_all : (n : ℕ) (u : Literals) (ls : List Literal) (v : ℕ) (s : Bool) → OfVariables n ls → 1 ≤ v → has (with_all u ls) v s
    ≡ (has u v s || occurs ls v s)
unfolding with_all occurs
has_all n u [] v s h k = sym (or-false (has u v s))
has_all n u (l ∷ ls) v s h k =
    has_all n (with_literal u l.variable l.positive) ls v s h.2 k
    ∙ ap (λ (t : Bool). t || occurs ls v s) (has-with u l.variable l.positive v s h.0 k)
    ∙ or_assoc (has u v s) (eqb l.variable v && beq l.positive s) (occurs ls v s)

-- a set of two words without a bit has no literal
pub has-none : (u : Literals) → bit_or u.positive u.negative ≡ 0 → (v : ℕ) (s : Bool) → has u v s ≡ false
unfolding has
has-none u e v s =
    let n : (in_word u.positive v || in_word u.negative v) ≡ false = sym (in-or u.positive u.negative v)
    ∙ ap (λ (x : ℕ). in_word x v) e ∙ in-none v in
    go s (or-neither (in_word u.positive v) (in_word u.negative v) n)
  where
    go : (s : Bool) → (in_word u.positive v ≡ false) × (in_word u.negative v ≡ false) → in_word (cond s u.positive u.negative) v
        ≡ false
    go true n = n.0
    go false n = n.1

-- the literals of a list
pub in-set : (n : ℕ) (ls : List Literal) (v : ℕ) (s : Bool) → OfVariables n ls → 1 ≤ v → has (literals_of ls) v s ≡ occurs ls v s
unfolding has
in-set n ls v s h k =
    has_all n no_literals ls v s h k ∙ ap (λ (t : Bool). t || occurs ls v s) (none s)
  where
    none : (s : Bool) → in_word (cond s 0 0) v ≡ false
    none true = in-none v
    none false = in-none v
