-- Sets of variables in a word and of literals in two, as the code makes them. No call open to others cites this file.
use Rattle.std.specs.Prelude.{Bool, true, false, cond, ◌&&◌, ◌||◌, List, [], ◌∷◌, ℕ, zero, suc, ◌-◌, ◌/◌, ◌^◌, eqb}
use Rattle.std.specs.Int.Bits.{bit_and, bit_or}
use Rattle.meaning.specs.Operations.{Literal}
use Rattle.meaning.specs.Words.{in_word}
use Rattle.words.specs.declared.Literals.{Literals}

-- ---- variables

-- The word of n variables.
abbrev pub all_word : ℕ → ℕ
all_word n = 2 ^ n - 1

-- Whether every variable of the word is below v.
unfoldable pub ends_before : ℕ → ℕ → Bool
ends_before w v = eqb (w / 2 ^ (v - 1)) 0

-- The word with the variable v.
abbrev pub with_variable : ℕ → ℕ → ℕ
with_variable w v = bit_or w (2 ^ (v - 1))

-- The word of the variables below v.
unfoldable pub below_word : ℕ → ℕ
below_word v = 2 ^ (v - 1) - 1

-- The word of n variables without those from `from` on below `to`.
unfoldable pub without : ℕ → ℕ → ℕ → ℕ → ℕ
unfolding below_word
without n word from to = bit_and word (bit_or (below_word from) (all_word n - below_word to))

-- Whether two words share one of k variables.
unfoldable pub shares : ℕ → ℕ → ℕ → Bool
unfolding in_word
shares zero a b = false
shares (suc k) a b = (in_word a (suc k) && in_word b (suc k)) || shares k a b

-- ---- literals

-- Whether the set has v's literal of the sign s.
unfoldable pub has : Literals → ℕ → Bool → Bool
has u v s = in_word (cond s u.positive u.negative) v

abbrev pub no_literals : Literals
no_literals = record { positive = 0; negative = 0 }

-- The set with v's literal of the sign s.
abbrev pub with_literal : Literals → ℕ → Bool → Literals
with_literal u v true = record { positive = with_variable u.positive v; negative = u.negative }
with_literal u v false = record { positive = u.positive; negative = with_variable u.negative v }

-- The set with the literals of a list.
unfoldable pub with_all : Literals → List Literal → Literals
with_all u [] = u
with_all u (l ∷ ls) = with_all (with_literal u l.variable l.positive) ls

abbrev pub literals_of : List Literal → Literals
literals_of ls = with_all no_literals ls
