use Rattle.pieces.proofs.piece_end.Goals as goal

-- src/lib.rt:170:9
pub proof_end-requires : goal.proof_end-requires
proof_end-requires c = rw c.if-in_proof.true at c.requires

-- src/lib.rt:170:9
pub returns-then-in_proof : goal.returns-then-in_proof
returns-then-in_proof c = rw c.if-in_proof.true c.proof_end.ensures

-- src/lib.rt:172:5
pub formula_end-requires : goal.formula_end-requires
formula_end-requires c = rw c.if-in_proof.false at c.requires

-- src/lib.rt:165:1
pub returns : goal.returns
returns c = rw c.if-in_proof.false c.formula_end.ensures
