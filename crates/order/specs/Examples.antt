-- Examples for the order of members: the same members in two orders, and a PR line with a member more. No call open to others cites this
-- file. (02, 13/14)
use Rattle.std.specs.Prelude.{List, [] as []ᴸ, ◌∷◌ as ◌∷ᴸ◌, true, false, ℕ}
use Prim.Native.String.{String}
use Rattle.meaning.specs.Diagram.{Diagram, leaf, node}
use Rattle.verdict.specs.Cases.{Row, checked, prints, over, rup_line, pr_line, end}

-- ---- diagrams

abbrev pub x1 : Diagram
x1 = node 1 (leaf false) (leaf true)

abbrev pub not-x1 : Diagram
not-x1 = node 1 (leaf true) (leaf false)

-- x1 and x2 and x3; not x1 or not x2
abbrev pub all_three : Diagram
all_three = node 1 (leaf false) (node 2 (leaf false) (node 3 (leaf false) (leaf true)))

abbrev pub not_both : Diagram
not_both = node 1 (leaf true) (node 2 (leaf true) (leaf false))

-- Three members, and the same with the first two exchanged.
abbrev pub three : List Diagram
three = x1 ∷ᴸ all_three ∷ᴸ not_both ∷ᴸ []ᴸ

abbrev pub three_otherwise : List Diagram
three_otherwise = all_three ∷ᴸ x1 ∷ᴸ not_both ∷ᴸ []ᴸ

-- ---- checks

-- x2, x3, "x3 gives x4", "x3 gives not x4", "x2 gives x1": the first round takes x2, which helps nothing. And the same clauses with the
-- first two exchanged.
abbrev pub idle_first : String
idle_first = "p cnf 4 5\n2 0\n3 0\n-3 4 0\n-3 -4 0\n-2 1 0\n"

abbrev pub useful_first : String
useful_first = "p cnf 4 5\n3 0\n2 0\n-3 4 0\n-3 -4 0\n-2 1 0\n"

-- A PR line x1 with the witness that makes x1 true.
abbrev pub x1-by-pr : List ℕ
x1-by-pr = over 1 0 1 (0x54 ∷ᴸ 1 ∷ᴸ pr_line 2 end)

-- "Rounds still follow the lowest place and may differ": 2 and 1. "with enough room": the round that helps nothing makes a node, for which
-- a table of 10 places has no room. "for PR lines only the reordering is promised": the line is accepted where there is no member, and
-- refused with 19 where "not x1" is one.
abbrev pub order_table : List Row
order_table =
    checked 4096 idle_first (rup_line 0 end) (prints 0 3 1 2 11)
    ∷ᴸ checked 4096 useful_first (rup_line 0 end) (prints 0 3 1 1 10)
    ∷ᴸ checked 10 idle_first (rup_line 0 end) (prints 23 0 0 0 10)
    ∷ᴸ checked 10 useful_first (rup_line 0 end) (prints 0 3 1 1 10)
    ∷ᴸ checked 4096 "p cnf 1 0\n" x1-by-pr (prints 20 11 1 0 4)
    ∷ᴸ checked 4096 "p cnf 1 1\n-1 0\n" x1-by-pr (prints 19 8 0 0 4)
    ∷ᴸ []ᴸ
