-- `record_at` gives the record of its definition at every place. Each arm knows the kind byte, and the kind's own function has read
-- the bytes behind it; the last arm knows that the byte is none of the kinds. Assumes nothing.
use mathlib.Core.Path.{refl, sym, ◌∙◌}
use Rattle.records.specs.Records.{record_of}
use Rattle.records.proofs.Reading.{record-none, record-part, record-unknown}
use native.Mathlib.Omega.{arith}
use Rattle.records.proofs.record_at.Goals as goal

pub returns-then-proof-at : goal.returns-then-proof-at
returns-then-proof-at c = sym (record-none _ _ c.if-proof-at.true)

pub returns-in-78 : goal.returns-in-78
unfolding record_of
returns-in-78 c = c.node_in.ensures ∙ sym (record-part _ _ 0x4E c.if-proof-at.false c.in-78.is)

pub returns-in-84 : goal.returns-in-84
unfolding record_of
returns-in-84 c = c.witness_in.ensures ∙ sym (record-part _ _ 0x54 c.if-proof-at.false c.in-84.is)

pub returns-in-70 : goal.returns-in-70
unfolding record_of
returns-in-70 c = c.witness_in-in-70.ensures ∙ sym (record-part _ _ 0x46 c.if-proof-at.false c.in-70.is)

pub returns-in-82 : goal.returns-in-82
unfolding record_of
returns-in-82 c = c.line_in.ensures ∙ sym (record-part _ _ 0x52 c.if-proof-at.false c.in-82.is)

pub returns-in-80 : goal.returns-in-80
unfolding record_of
returns-in-80 c = c.line_in-in-80.ensures ∙ sym (record-part _ _ 0x50 c.if-proof-at.false c.in-80.is)

pub returns-in-81 : goal.returns-in-81
unfolding record_of
returns-in-81 c = c.line_in-in-81.ensures ∙ sym (record-part _ _ 0x51 c.if-proof-at.false c.in-81.is)

pub returns-in-68 : goal.returns-in-68
unfolding record_of
returns-in-68 c = c.strike_in.ensures ∙ sym (record-part _ _ 0x44 c.if-proof-at.false c.in-68.is)

pub returns-in-88 : goal.returns-in-88
unfolding record_of
returns-in-88 c = c.set_in.ensures ∙ sym (record-part _ _ 0x58 c.if-proof-at.false c.in-88.is)

pub returns-in-75 : goal.returns-in-75
unfolding record_of
returns-in-75 c = c.set_in-in-75.ensures ∙ sym (record-part _ _ 0x4B c.if-proof-at.false c.in-75.is)

pub returns-in-69 : goal.returns-in-69
unfolding record_of
returns-in-69 c = sym (record-part _ _ 0x45 c.if-proof-at.false c.in-69.is)

pub returns-in_default : goal.returns-in_default
returns-in_default c =
    sym (record-part _ _ _ c.if-proof-at.false refl
    ∙ record-unknown _ _ (λ e. omega arith) (λ e. omega arith) (λ e. omega arith) (λ e. omega arith) (λ e. omega arith) (λ e. omega arith)
    (λ e. omega arith) (λ e. omega arith) (λ e. omega arith) (λ e. omega arith))
