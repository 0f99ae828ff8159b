-- Texts chosen for the readings of DRAT text: tokens, `d`, comment lines, places. Number and place of each fault are what the checker
-- written apart says. The idea: each row is computed. Assumes nothing.
use mathlib.Core.Path.{refl}
use mathlib.Core.List.{List, [], ◌∷◌}
use Rattle.dimacs.specs.Texts.{plus, minus}
use Rattle.commands.specs.Cases.{adds, strikes, faulty, ends, Row, row, GivesAll, told_from}

-- Each: the header's variables, the text, what it tells.
abbrev rows : List Row
rows =
    row 2 "" (ends 0)
    ∷ row 2 "\n \n" (ends 3)
    ∷ row 2 "c only\n" (ends 7)
    ∷ row 2 "2 0\n0\n" (adds 0 (plus 2 ∷ []) (adds 4 [] (ends 6)))
    ∷ row 2 "0\n" (adds 0 [] (ends 2))
    ∷ row 2 "d 1 2 0\nd 1 2 0\n" (strikes 0 (plus 1 ∷ plus 2 ∷ []) (strikes 8 (plus 1 ∷ plus 2 ∷ []) (ends 16)))
    ∷ row 2 "1 -1 0\n" (adds 0 (plus 1 ∷ minus 1 ∷ []) (ends 7))
    ∷ row 2 "3 0\n" (faulty 4 0)
    ∷ row 2 "1 x 0\n" (faulty 3 2)
    ∷ row 2 "d 1" (faulty 6 0)
    ∷ row 2 "d" (faulty 6 0)
    ∷ row 2 "d1 0\n" (faulty 3 0)
    ∷ row 2 "1 d 0\n" (faulty 3 2)
    ∷ row 2 "d d 1 0\n" (faulty 3 2)
    ∷ row 2 "D 1 0\n" (faulty 3 0)
    ∷ row 2 "d\n1\n0\n" (strikes 0 (plus 1 ∷ []) (ends 6))
    ∷ row 2 "d\nc between\n1 0\n" (strikes 0 (plus 1 ∷ []) (ends 16))
    ∷ row 2 "1\nc between\n2 0 d 2 1 0\n" (adds 0 (plus 1 ∷ plus 2 ∷ []) (strikes 16 (plus 2 ∷ plus 1 ∷ []) (ends 24)))
    ∷ row 2 "1 c 0\n" (faulty 3 2)
    ∷ row 2 "1 2" (faulty 6 0)
    ∷ row 2 " c\n" (faulty 3 1)
    ∷ row 2 "1\rc 0\n" (faulty 3 2)
    ∷ row 2 "1 2 0 -1" (adds 0 (plus 1 ∷ plus 2 ∷ []) (faulty 6 6))
    ∷ row 2 "1 0\nd\n" (adds 0 (plus 1 ∷ []) (faulty 6 4))
    ∷ row 2 "-0 0\n" (faulty 3 0)
    ∷ row 2 "01 0\n" (faulty 3 0)
    ∷ row 64 "-64 64 0\n" (adds 0 (minus 64 ∷ plus 64 ∷ []) (ends 9))
    ∷ row 64 "65 0\n" (faulty 4 0)
    ∷ row 2 "2 1 2 0\n" (adds 0 (plus 2 ∷ plus 1 ∷ plus 2 ∷ []) (ends 8))
    ∷ []

pub rows-hold : GivesAll rows
unfolding told_from
rows-hold = (refl, (refl, (refl, (refl, (refl, (refl, (refl, (refl, (refl, (refl, (refl, (refl, (refl, (refl, (refl, (refl, (refl, (refl, (refl, (refl, (refl, (refl, (refl, (refl, (refl, (refl, (refl, (refl, (refl, tt)))))))))))))))))))))))))))))
