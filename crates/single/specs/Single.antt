-- What the six single calls say and leave. (01, What the call says and leaves: "Single calls: 7, 26, 13, then 27 [..] or 15 [..],
-- then 23"; "A refused single call changes nothing"; "with a refusal the node is 0 (evaluation: no)")
use Rattle.std.specs.Prelude.{Bool, not, ◌&&◌, cond, ℕ, suc, length, take, eqb, ltb, leb}
use Rattle.meaning.specs.Diagram.{value}
use Rattle.meaning.specs.Sets.{at_least, size_of, excluded_by}
use Rattle.meaning.specs.Words.{in_word, assignment_of}
use Rattle.table.specs.Nodes.{all_below, diagram_at, Placing, full, placed, place}
use Rattle.table.specs.Index.{good_order}
use Rattle.table.specs.Columns.{rows, size_fits, Columns, stored_as}
use Rattle.operate.specs.declared.Operation.{Operation}
use Rattle.operate.specs.declared.Operation.TheVariants.{Conjunction, Negation, Cofactor, Literals}
use Rattle.operate.specs.Operate.{result}
use Rattle.single.specs.declared.Evaluated.{Evaluated}
use Rattle.single.specs.declared.call.Single.{Single}
use Rattle.single.specs.declared.least.AtLeast.{AtLeast}

-- 7, 26 and 13 in their order for the nodes f and g of the lent table; 0 where none is given. "It refuses an index of the wrong size
-- with 7 and, in single calls, a wrong one with 26." (02, 7/14)
unfoldable pub refusal : Columns → ℕ → ℕ → ℕ → ℕ
refusal c count f g =
    cond (not (size_fits c.vars c.lows c.highs c.heads c.links)) 7
    (cond (not (good_order (rows c.vars c.lows c.highs) count c.heads c.links)) 26 (cond (ltb f count && ltb g count) 0 13))

-- "Evaluation, where it does not refuse, says yes exactly when the node's value under the word's assignment is 1." (01, Values)
unfoldable pub evaluation : Columns → ℕ → ℕ → ℕ → Evaluated
unfolding refusal
evaluation c count f word =
    let number = refusal c count f f in
    let t = take count (rows c.vars c.lows c.highs) in
    record { number = number; yes = eqb number 0 && value (diagram_at t f) (assignment_of 64 word); count = count }

-- ---- conjunction, negation, both cofactors

-- What a single call that makes nodes says, and what the lent lists hold after it.
pub record Made : Type 0 where
  pub number : ℕ
  pub node : ℕ
  pub count : ℕ
  pub columns : Columns

abbrev pub made_of : Columns → Single → Made
made_of c r = record { number = r.number; node = r.node.0; count = r.count; columns = c }

abbrev pub unchanged : Columns → ℕ → ℕ → Made
unchanged c count number = record { number = number; node = 0; count = count; columns = c }

-- "15 (cofactor by literals, a variable in both sets)"
unfoldable pub shares_variable : ℕ → ℕ → Bool
unfolding all_below
shares_variable positive negative = not (all_below 64 (λ i. not (in_word positive (suc i) && in_word negative (suc i))))

-- "then 27 (cofactor by a diagram) or 15"; 0 where neither is given. 27: "cofactor by 0"
unfoldable pub operand_refusal : Operation → ℕ → ℕ
unfolding shares_variable
operand_refusal Conjunction g = 0
operand_refusal Negation g = 0
operand_refusal Cofactor g = cond (eqb g 0) 27 0
operand_refusal (Literals p n) g = cond (shares_variable p n) 15 0

-- "then 23 where nodes are made"; else the nodes placed, zeros above, and their index.
unfoldable pub made_by : Columns → ℕ → Placing → Made
made_by c count (full t) = unchanged c count 23
made_by c count (placed t k) = record { number = 0; node = k; count = length t; columns = stored_as (length c.vars) t }

-- An operation on the nodes f and g; one of a single diagram has node 1 for g.
unfoldable pub operation : Operation → Columns → ℕ → ℕ → ℕ → Made
unfolding refusal operand_refusal made_by
operation op c count f g =
    let t = take count (rows c.vars c.lows c.highs) in
    let done = made_by c count (place (length c.vars) t (result op (diagram_at t f) (diagram_at t g))) in
    let number = refusal c count f g in
    let second = operand_refusal op g in
    cond (eqb number 0) (cond (eqb second 0) done (unchanged c count second)) (unchanged c count number)

-- ---- at least (02, 5/14)

-- "A single call that makes an at-least diagram also reports [..] how many assignments of its set it excludes"
pub record Counted : Type 0 where
  pub made : Made
  pub counted : Bool
  pub excluded : ℕ

abbrev pub counted_of : Columns → AtLeast → Counted
counted_of c r = record {
  made = record { number = r.number; node = r.node.0; count = r.count; columns = c };
  counted = r.counted;
  excluded = r.excluded;
}

-- "for sets of up to 32 variables, how many assignments of its set it excludes (no count for larger ones or with a refusal)": 0 then
unfoldable pub with_count : Made → ℕ → ℕ → Counted
with_count m set k =
    let counted = eqb m.number 0 && leb (size_of 64 (in_word set)) 32 in
    record { made = m; counted = counted; excluded = cond counted (excluded_by 64 (in_word set) k) 0 }

-- 7 and 26, then 23: the call names no node, and there is no header.
unfoldable pub at_least_call : Columns → ℕ → ℕ → ℕ → Counted
at_least_call c count set k =
    let t = take count (rows c.vars c.lows c.highs) in
    let done = made_by c count (place (length c.vars) t (at_least 64 (in_word set) k)) in
    let ordered = good_order (rows c.vars c.lows c.highs) count c.heads c.links in
    let said = cond ordered done (unchanged c count 26) in
    with_count (cond (size_fits c.vars c.lows c.highs c.heads c.links) said (unchanged c count 7)) set k
