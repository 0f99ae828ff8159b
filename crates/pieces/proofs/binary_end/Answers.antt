use mathlib.Core.Logic.{inl, inr}
use Rattle.pieces.proofs.Binary.{binary-byte, binary-four, binary-large, binary-other}
use Rattle.pieces.proofs.binary_end.Goals as goal
use Rattle.pieces.proofs.binary_end.Goals.{then-number-eq9+else-at-s, else-number-eq9}

pub returns-then-at-s : goal.returns-then-at-s
returns-then-at-s c = binary-byte _ _ _ c.if-number-eq9.true c.if-at-s.true

pub returns-then-number-eq4 : goal.returns-then-number-eq4
returns-then-number-eq4 c = binary-four _ _ _ _ c.if-number-eq4.true c.groups_end.ensures

pub returns-then-number-eq31 : goal.returns-then-number-eq31
returns-then-number-eq31 c = binary-large _ _ _ _ c.if-number-eq31.true c.groups_end-then-number-eq31.ensures

pub returns : goal.returns
returns c =
    binary-other
    _
    _
    _
    _
    (elim c.if-number-eq9.branch [ then-number-eq9+else-at-s w ↦ inr w.if-at-s.false | else-number-eq9 w ↦ inl w.if-number-eq9.false ])
    c.if-number-eq4.false
    c.if-number-eq31.false
    c.binary_clause_end.ensures
