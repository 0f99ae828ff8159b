-- Random texts, with numbers and places that the checker written apart says. The idea: each row is computed. Assumes nothing.
use mathlib.Core.Path.{refl}
use mathlib.Core.List.{List, [], ◌∷◌}
use Rattle.dimacs.specs.Texts.{plus, minus}
use Rattle.commands.specs.Cases.{adds, strikes, faulty, ends, Row, row, GivesAll, told_from}

-- Each: the header's variables, the text, what it tells.
abbrev samples : List Row
samples =
    row 2 "\n" (ends 1)
    ∷ row 1 "1 d 0" (faulty 3 2)
    ∷ row 64 "\n14 0\r\n22 \t 0\n" (adds 1 (plus 14 ∷ []) (adds 7 (plus 22 ∷ []) (ends 14)))
    ∷ row 12 " 4 \nc d 0\r\n4\n0\n" (adds 1 (plus 4 ∷ plus 4 ∷ []) (ends 15))
    ∷ row 3 " 2  3 1\n\nc\n0\r\n c 0\n" (adds 1 (plus 2 ∷ plus 3 ∷ plus 1 ∷ []) (faulty 3 15))
    ∷ row 2 "d\n" (faulty 6 0)
    ∷ row 3 "-3\r\n2  1 \t 0 d  1\n2 \t -3 0\r\n+1\n"
    (adds 0 (minus 3 ∷ plus 2 ∷ plus 1 ∷ []) (strikes 13 (plus 1 ∷ plus 2 ∷ minus 3 ∷ []) (faulty 3 28)))
    ∷ row 64 "57\t0\r\n6\n-59  0\n" (adds 0 (plus 57 ∷ []) (adds 6 (plus 6 ∷ minus 59 ∷ []) (ends 15)))
    ∷ row 2 "1\nc" (faulty 6 0)
    ∷ row 2 " d 1" (faulty 6 1)
    ∷ row 1 "1\nc note 1 0\n0\nd\n\nc\n1\r\n0\n" (adds 0 (plus 1 ∷ []) (strikes 15 (plus 1 ∷ []) (ends 25)))
    ∷ row 1 "-1\nc note 1 0\n0\r\nd \t -1  0\n" (adds 0 (minus 1 ∷ []) (strikes 17 (minus 1 ∷ []) (ends 27)))
    ∷ row 1 "c start\n0\nd \t 0\r\n-1\n0\r\n" (adds 8 [] (strikes 10 [] (adds 17 (minus 1 ∷ []) (ends 23))))
    ∷ row 1 "\n0" (adds 1 [] (ends 2))
    ∷ row 1 "-1 0 0\r\nd\r\n0\n" (adds 0 (minus 1 ∷ []) (adds 5 [] (strikes 8 [] (ends 13))))
    ∷ row 64 "\n-4\t11 -5 \t 0\n0\r\n0\n" (adds 1 (minus 4 ∷ plus 11 ∷ minus 5 ∷ []) (adds 14 [] (adds 17 [] (ends 19))))
    ∷ row 2 "\n-2  0\n-2\r\n-1\n-2\n\nc\n0\nd \t -2\t0 "
    (adds 1 (minus 2 ∷ []) (adds 7 (minus 2 ∷ minus 1 ∷ minus 2 ∷ []) (strikes 22 (minus 2 ∷ []) (ends 31))))
    ∷ row 3 "\n" (ends 1)
    ∷ row 1 " 1\rc 0\n" (faulty 3 3)
    ∷ row 1 " 1 0\n" (adds 1 (plus 1 ∷ []) (ends 5))
    ∷ row 12 " 10 \t 12\t-8\nc note 1 0\n0\n-5 \t 0\n c" (adds 1 (plus 10 ∷ plus 12 ∷ minus 8 ∷ []) (adds 25 (minus 5 ∷ []) (faulty 3 33)))
    ∷ row 3 "\n-1 \t -3  -1\t0 d\n" (adds 1 (minus 1 ∷ minus 3 ∷ minus 1 ∷ []) (faulty 6 15))
    ∷ row 1 "-1\n0\n" (adds 0 (minus 1 ∷ []) (ends 5))
    ∷ row 12 "-4\nc note 1 0\n-6 \nc d 0\r\n0\n5 \nc " (adds 0 (minus 4 ∷ minus 6 ∷ []) (faulty 6 27))
    ∷ row 1 "c start\n-1\n\nc\n0\nd  -1\n0 " (adds 8 (minus 1 ∷ []) (strikes 16 (minus 1 ∷ []) (ends 24)))
    ∷ row 64 " 0 d" (adds 1 [] (faulty 6 3))
    ∷ row 1 "\n-1  0\r\n" (adds 1 (minus 1 ∷ []) (ends 8))
    ∷ row 64 "-28  0\nd \nc d 0\r\n-28\nc note 1 0\n0\r\n43\n-22\t50  0 c"
    (adds 0 (minus 28 ∷ []) (strikes 7 (minus 28 ∷ []) (adds 35 (plus 43 ∷ minus 22 ∷ plus 50 ∷ []) (faulty 3 48))))
    ∷ row 64 "-58\nc note 1 0\n0\r\n14 \t 0\r\n-5\n\nc\n-28 \t -33  0 "
    (adds 0 (minus 58 ∷ []) (adds 18 (plus 14 ∷ []) (adds 26 (minus 5 ∷ minus 28 ∷ minus 33 ∷ []) (ends 45))))
    ∷ row 1 " -1 -1\n\nc\n0 d\t-1\n-1  0\ndd\n" (adds 1 (minus 1 ∷ minus 1 ∷ []) (strikes 12 (minus 1 ∷ minus 1 ∷ []) (faulty 3 23)))
    ∷ row 1 "+1" (faulty 3 0)
    ∷ row 3 "\n1 \nc d 0\r\n3\n-2\r\n0\nd\nc note" (adds 1 (plus 1 ∷ plus 3 ∷ minus 2 ∷ []) (faulty 6 19))
    ∷ row 3 "0\r\nd\t" (adds 0 [] (faulty 6 3))
    ∷ row 1 "-1 \t 0 d" (adds 0 (minus 1 ∷ []) (faulty 6 7))
    ∷ row 2 "-1\n\nc\n2 \nc d 0\r\n0\r\nd 2\t-1\t0\r\ndd 0\n"
    (adds 0 (minus 1 ∷ plus 2 ∷ []) (strikes 19 (plus 2 ∷ minus 1 ∷ []) (faulty 3 29)))
    ∷ row 2 " -2 \nc d 0\r\n1\r\n0\nd \t -2 \nc d 0\r\n1\n\nc\n0\n"
    (adds 1 (minus 2 ∷ plus 1 ∷ []) (strikes 17 (minus 2 ∷ plus 1 ∷ []) (ends 39)))
    ∷ row 12 "10\nc note 1 0\n8\r\n6  10 \t 0\r\n1x" (adds 0 (plus 10 ∷ plus 8 ∷ plus 6 ∷ plus 10 ∷ []) (faulty 3 28))
    ∷ row 64 "-43 0\nd 1" (adds 0 (minus 43 ∷ []) (faulty 6 6))
    ∷ row 2 "-2 \t 0 -2\r\n1\n\nc\n-2\n\nc\n0\n c\n" (adds 0 (minus 2 ∷ []) (adds 7 (minus 2 ∷ plus 1 ∷ minus 2 ∷ []) (faulty 3 25)))
    ∷ row 64 "8\n\nc\n-38\n0\n" (adds 0 (plus 8 ∷ minus 38 ∷ []) (ends 11))
    ∷ row 12 "c 0" (ends 3)
    ∷ row 1 "c start\n-" (faulty 3 8)
    ∷ row 2 "x 0\n" (faulty 3 0)
    ∷ row 64 "c start\n c 0\n" (faulty 3 9)
    ∷ row 2 " " (ends 1)
    ∷ row 2 "-2  1 0 d\n-2 \t 1\t0\r\ndd\n" (adds 0 (minus 2 ∷ plus 1 ∷ []) (strikes 8 (minus 2 ∷ plus 1 ∷ []) (faulty 3 20)))
    ∷ row 12 " d 1" (faulty 6 1)
    ∷ row 64 " 21\r\n-39 \nc d 0\r\n0\n48 \t -22\r\n0 5 \nc d 0\r\n-1\t0 "
    (adds 1 (plus 21 ∷ minus 39 ∷ []) (adds 19 (plus 48 ∷ minus 22 ∷ []) (adds 31 (plus 5 ∷ minus 1 ∷ []) (ends 46))))
    ∷ row 12 "c start\n-12\nc " (faulty 6 8)
    ∷ row 3 "\n1\nc n" (faulty 6 1)
    ∷ row 2 "2\nc note 1 0\n-1  0\r\n0\n-1 2 \nc d 0\r\n0 "
    (adds 0 (plus 2 ∷ minus 1 ∷ []) (adds 20 [] (adds 22 (minus 1 ∷ plus 2 ∷ []) (ends 37))))
    ∷ row 2 " -2 -1\nc note 1 0\n0\r\n1\n\nc\n2\t0\n" (adds 1 (minus 2 ∷ minus 1 ∷ []) (adds 21 (plus 1 ∷ plus 2 ∷ []) (ends 30)))
    ∷ row 3 " " (ends 1)
    ∷ row 3 " 1\n0 dd 0\n" (adds 1 (plus 1 ∷ []) (faulty 3 5))
    ∷ row 3 "c sta" (ends 5)
    ∷ row 2 "d d 0\n" (faulty 3 2)
    ∷ row 12 " -11 -12 \t 0\n" (adds 1 (minus 11 ∷ minus 12 ∷ []) (ends 13))
    ∷ row 2 "-" (faulty 3 0)
    ∷ row 2 "c start\n1 \n" (faulty 6 8)
    ∷ row 64 "-0 0" (faulty 3 0)
    ∷ []

pub samples-hold : GivesAll samples
unfolding told_from
samples-hold = (refl, (refl, (refl, (refl, (refl, (refl, (refl, (refl, (refl, (refl, (refl, (refl, (refl, (refl, (refl, (refl, (refl, (refl, (refl, (refl, (refl, (refl, (refl, (refl, (refl, (refl, (refl, (refl, (refl, (refl, (refl, (refl, (refl, (refl, (refl, (refl, (refl, (refl, (refl, (refl, (refl, (refl, (refl, (refl, (refl, (refl, (refl, (refl, (refl, (refl, (refl, (refl, (refl, (refl, (refl, (refl, (refl, (refl, (refl, (refl, tt))))))))))))))))))))))))))))))))))))))))))))))))))))))))))))
