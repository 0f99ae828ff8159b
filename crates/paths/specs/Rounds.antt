-- How many rounds a line may take. No call open to others cites this file.
use Rattle.std.specs.Prelude.{ℕ}

-- 64 for each of the 4,096 paths of a path line; a RUP or PR line takes fewer, at most 64 for each of 2,048 members.
abbrev pub most_rounds : ℕ
most_rounds = 262144
