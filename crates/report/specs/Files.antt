-- What the program says of two files, and with which status it ends. (01, The program and its line)
use Rattle.std.specs.Prelude.{Bool, cond, not, List, Option, Some, ℕ, length, eqb, ltb}
use Rattle.commands.specs.declared.Mode.{Mode}
use Rattle.verdict.specs.Check.{Verdict, verdict}
use Rattle.report.specs.declared.Line.{Line}

-- "For 24 the place is 65,536, for 25 it is 0, and lines and rounds are 0." The peak "with 7, 24 and 25 [..] is 0". (02, 2/14)
abbrev pub file_refused : ℕ → ℕ → Line
file_refused number place = record { number = number; place = place; lines = 0; rounds = 0; peak = 0 }

-- The refusal of a file as one that may be left out.
abbrev pub some_refused : ℕ → ℕ → Option Line
some_refused number place = Some (file_refused number place)

abbrev pub of_verdict : Verdict → Line
of_verdict v = record { number = v.number; place = v.place; lines = v.lines; rounds = v.rounds; peak = v.peak }

-- A file: whether it could be read, and the bytes that came. 25 where it could not, 24 where they are over 65,536, each with its place;
-- else what follows.
abbrev pub of_file : {A : Type 0} → (ℕ → ℕ → A) → Bool → List ℕ → A → A
of_file refuse is_read text rest = cond (not is_read) (refuse 25 0) (cond (ltb 65536 (length text)) (refuse 24 65536) rest)

-- "Both files are read before the check, the formula first"
unfoldable pub of_files : {A : Type 0} → (ℕ → ℕ → A) → Bool → List ℕ → Bool → List ℕ → A → A
of_files refuse is_formula formula is_proof proof rest =
    let second = of_file refuse is_proof proof rest in of_file refuse is_formula formula second

-- The program's check has "a table of 4,096 places".
unfoldable pub said : Mode → Bool → List ℕ → Bool → List ℕ → Line
unfolding verdict of_files
said mode is_formula formula is_proof proof =
    let checked = of_verdict (verdict mode 4096 formula proof) in of_files file_refused is_formula formula is_proof proof checked

-- The status of a number: 0 for refuted alone, 2 where a file was not taken (24 and 25), 1 for every other refusal.
abbrev pub status_of : ℕ → ℕ
status_of number = cond (eqb number 0) 0 (cond (ltb number 24) 1 (cond (ltb number 26) 2 1))
