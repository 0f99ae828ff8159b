-- What is said of the assignments that an at-least diagram excludes. (02, 5/14) No call open to others cites this file.
use Rattle.std.specs.Prelude.{cond, ℕ, leb}
use Rattle.meaning.specs.Words.{in_word}
use Rattle.meaning.specs.Sets.{size_of, excluded_by}
use Rattle.sets.specs.declared.Count.{Count}

-- "for sets of up to 32 variables, how many assignments of its set it excludes (no count for larger ones [..])"
unfoldable pub count_of : ℕ → ℕ → Count
count_of set k = record {
  counted = leb (size_of 64 (in_word set)) 32;
  excluded = cond (leb (size_of 64 (in_word set)) 32) (excluded_by 64 (in_word set) k) 0;
}
