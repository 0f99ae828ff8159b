-- `move_one` takes an entry from one cell and puts it into another, or nowhere (Cells). Assumes nothing.
use Rattle.std.proofs.Common.{ℕ, ◌+◌, ◌<◌, ◌≤◌, List, length, set, refl, inl, inr, arith, length-set}
use Rattle.memo.specs.Memo.{Moved}
use Rattle.memo.proofs.Cells.{moved_same, moved-set}
use Rattle.memo.proofs.move_one.Goals as goal

-- the cell is emptied
emptied : (was : List ℕ) (n from : ℕ) → 3 + n ≤ length was → from < n → Moved was n (set was (3 + from) 0)
emptied was n from room below =
    moved-set was was n (moved_same was n) from 0 (omega arith) (inl refl)

home-room : (was : List ℕ) (n from home : ℕ) → 3 + n ≤ length was → home < n → 3 + home < length (set was (3 + from) 0)
home-room was n from home room below =
    omega (arith, length-set was (3 + from) 0)

pub returns-then-e-eq0 : goal.returns-then-e-eq0
returns-then-e-eq0 c = moved_same _ _

pub returns-then-n-home : goal.returns-then-n-home
returns-then-n-home c = emptied c.args.memo.now c.args.n c.args.c (omega (arith, c.requires)) (omega (arith, c.requires))

pub bounds-memo-home : goal.bounds-memo-home
bounds-memo-home c =
    home-room c.args.memo.now c.args.n c.args.c c.home_of-home.result (omega (arith, c.requires)) c.if-n-home.false

pub returns : goal.returns
returns c =
    moved-set c.args.memo.now _ c.args.n (emptied c.args.memo.now c.args.n c.args.c (omega (arith, c.requires)) (omega (arith, c.requires)))
    _ _
    (home-room c.args.memo.now c.args.n c.args.c c.home_of-home.result (omega (arith, c.requires)) c.if-n-home.false)
    (inr (record { cell = c.args.c; inside = c.requires.2; has = refl }))
