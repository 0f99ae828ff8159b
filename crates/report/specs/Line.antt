-- The program's one line as bytes, and how such bytes are read back. (01, The program and its line)
use Rattle.std.specs.Prelude.{◌≡◌, cond, List, [], ◌∷◌, ◌++◌, ℕ, zero, suc, ◌+◌, ◌-◌, ◌*◌, ◌/◌, ◌%◌, length, take, drop, ltb}
use Rattle.report.specs.declared.Line.{Line}
use Rattle.dimacs.specs.Numbers.{is_digit}

-- The decimal digits of n in ASCII, the greatest first; `steps` bounds how many.
unfoldable pub decimal_by : ℕ → ℕ → List ℕ
decimal_by zero n = []
decimal_by (suc steps) n =
    let more = decimal_by steps (n / 10) ++ (48 + n % 10) ∷ [] in
    cond (ltb n 10) ((48 + n) ∷ []) more

-- n + 1 steps are always enough: each but the last divides by 10.
abbrev pub decimal : ℕ → List ℕ
decimal n = decimal_by (suc n) n

-- A number and the byte that parts it from what follows.
abbrev pub field_text : ℕ → ℕ → List ℕ
field_text n parting = decimal n ++ parting ∷ []

-- "prints one line: number, place, accepted lines, rounds", and the peak "as a fifth field" (02, 2/14): parted by a space each, LF
-- at the end.
unfoldable pub line_bytes : Line → List ℕ
line_bytes l =
    field_text l.number 32
    ++ (field_text l.place 32 ++ (field_text l.lines 32 ++ (field_text l.rounds 32 ++ field_text l.peak 10)))

-- The bytes put into a line at a place: what stood before and behind them stays, and `next` is the place after them.
pub record Put (before : List ℕ) (at : ℕ) (bytes after : List ℕ) (next : ℕ) : Type 0 where
  pub place : next ≡ at + length bytes
  pub held : take next after ≡ take at before ++ bytes
  pub rest : drop next after ≡ drop next before

-- ---- reading back

-- The numbers of a text of digits in which each number is closed by one other byte; n is what was read of the first of them.
unfoldable pub numbers_after : ℕ → List ℕ → List ℕ
numbers_after n [] = []
numbers_after n (b ∷ bs) = cond (is_digit b) (numbers_after (n * 10 + (b - 48)) bs) (n ∷ numbers_after 0 bs)

abbrev pub numbers_of : List ℕ → List ℕ
numbers_of bs = numbers_after 0 bs
