-- A node table lent as one slice of node structs. (01: "The node table is a list of records: variable, low, high")
use Rattle.std.specs.Prelude.{List, map, ℕ}
use Rattle.columns.specs.declared.Node.{Node}

-- The three columns of a slice: a list of records is its columns (`own-nodes`, proofs/Whole).
unfoldable pub vars_of : List Node → List ℕ
vars_of t = map (λ x. x.var) t

unfoldable pub lows_of : List Node → List ℕ
lows_of t = map (λ x. x.low) t

unfoldable pub highs_of : List Node → List ℕ
highs_of t = map (λ x. x.high) t
