-- The builders of odd and even parity diagrams: each outcome is the placing of its diagram. The idea: the remaining variables fall with
-- each call; a place of the code is one law of Level. Assumes nothing.
use mathlib.Core.Path.{refl}
use native.Mathlib.Omega.{arith}
use Rattle.sets.proofs.Level.{none_left, turned-is, low-done, high-ready, high-done, high-good, both-done}
use Rattle.sets.proofs.odd_even.+even_odd.Goals as goal

pub even-returns-then-w-eq65 : goal.even-returns-then-w-eq65
even-returns-then-w-eq65 t c = none_left _ _ _ _ _ c.requires _ c.next_in-w.ensures c.if-w-eq65.true

pub even-returns-then-other-ge2 : goal.even-returns-then-other-ge2
even-returns-then-other-ge2 t c =
    turned-is _ _ _ _ _ c.requires _ c.next_in-w.ensures c.if-w-eq65.false c.if-other-ge2.true _ _ refl refl _ c.turned.ensures

pub even-returns-then-low : goal.even-returns-then-low
even-returns-then-low t c =
    low-done _ _ _ _ _ c.requires _ c.next_in-w.ensures c.if-w-eq65.false _ c.even-low.ensures c.if-low.true

pub even-odd-high-requires : goal.even-odd-high-requires
even-odd-high-requires t c = (
  omega (arith, c.decreases, c.next_in-w.ensures.least, c.next_in-w.ensures.most, c.if-w-eq65.false),
  high-ready _ _ _ _ _ c.requires _ c.next_in-w.ensures c.if-w-eq65.false _ c.even-low.ensures c.if-low.false,
)

pub even-returns-then-high : goal.even-returns-then-high
even-returns-then-high t c =
    high-done _ _ _ _ _ c.requires _ c.next_in-w.ensures c.if-w-eq65.false _ c.even-low.ensures c.if-low.false _ c.odd-high.ensures
    c.if-high.true

pub even-put-requires : goal.even-put-requires
even-put-requires t c =
    high-good _ _ _ _ _ c.requires _ c.next_in-w.ensures c.if-w-eq65.false _ c.even-low.ensures c.if-low.false _ c.odd-high.ensures

pub even-returns : goal.even-returns
even-returns t c =
    both-done _ _ _ _ _ c.requires _ c.next_in-w.ensures c.if-w-eq65.false _ c.even-low.ensures c.if-low.false _ c.odd-high.ensures
    c.if-high.false _ c.put.ensures

pub odd-returns-then-w-eq65 : goal.odd-returns-then-w-eq65
odd-returns-then-w-eq65 t c = none_left _ _ _ _ _ c.requires _ c.next_in-w.ensures c.if-w-eq65.true

pub odd-returns-then-other-ge2 : goal.odd-returns-then-other-ge2
odd-returns-then-other-ge2 t c =
    turned-is _ _ _ _ _ c.requires _ c.next_in-w.ensures c.if-w-eq65.false c.if-other-ge2.true _ _ refl refl _ c.turned.ensures

pub odd-returns-then-low : goal.odd-returns-then-low
odd-returns-then-low t c =
    low-done _ _ _ _ _ c.requires _ c.next_in-w.ensures c.if-w-eq65.false _ c.odd-low.ensures c.if-low.true

pub odd-even-high-requires : goal.odd-even-high-requires
odd-even-high-requires t c = (
  omega (arith, c.decreases, c.next_in-w.ensures.least, c.next_in-w.ensures.most, c.if-w-eq65.false),
  high-ready _ _ _ _ _ c.requires _ c.next_in-w.ensures c.if-w-eq65.false _ c.odd-low.ensures c.if-low.false,
)

pub odd-returns-then-high : goal.odd-returns-then-high
odd-returns-then-high t c =
    high-done _ _ _ _ _ c.requires _ c.next_in-w.ensures c.if-w-eq65.false _ c.odd-low.ensures c.if-low.false _ c.even-high.ensures
    c.if-high.true

pub odd-put-requires : goal.odd-put-requires
odd-put-requires t c =
    high-good _ _ _ _ _ c.requires _ c.next_in-w.ensures c.if-w-eq65.false _ c.odd-low.ensures c.if-low.false _ c.even-high.ensures

pub odd-returns : goal.odd-returns
odd-returns t c =
    both-done _ _ _ _ _ c.requires _ c.next_in-w.ensures c.if-w-eq65.false _ c.odd-low.ensures c.if-low.false _ c.even-high.ensures
    c.if-high.false _ c.put.ensures
