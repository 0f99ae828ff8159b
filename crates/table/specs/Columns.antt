-- A node table lent as three columns, with its index. (01: "the core first works on three columns"; 02, 7/14)
use Rattle.std.specs.Prelude.{ℕ, ◌-◌, ◌*◌, Bool, ◌&&◌, List, [], ◌∷◌, ◌++◌, map, length, replicate, ◌==◌, nat_le}
use Rattle.table.specs.Nodes.{Node, node_of, blank}
use Rattle.table.specs.Index.{heads_of, links_of}

-- The rows of three columns: variable, low, high.
unfoldable pub rows : List ℕ → List ℕ → List ℕ → List Node
rows [] ls hs = []
rows (v ∷ vs) [] hs = []
rows (v ∷ vs) (l ∷ ls) [] = []
rows (v ∷ vs) (l ∷ ls) (h ∷ hs) = node_of v l h ∷ rows vs ls hs

-- "The table has 2 to 65,536 places [..]; columns of unequal length are of wrong size." (01, What is checked) "twice as many heads as
-- table places, and a next link for each place" (02, 7/14)
unfoldable pub size_fits : List ℕ → List ℕ → List ℕ → List ℕ → List ℕ → Bool
size_fits vs ls hs ds ks =
    ((length ls == length vs && length hs == length vs) && (nat_le 2 (length vs) && nat_le (length vs) 65536))
    && (length ds == 2 * length vs && length ks == length vs)

-- A table of s places that holds the nodes t: "places from the count on are zero".
unfoldable pub padded : ℕ → List Node → List Node
padded s t = t ++ replicate (s - length t) blank

-- The three columns of rows.
pub record NodeColumns : Type 0 where
  pub vars : List ℕ
  pub lows : List ℕ
  pub highs : List ℕ

unfoldable pub columns_of : List Node → NodeColumns
columns_of t = record { vars = map (λ x. x.var) t; lows = map (λ x. x.low) t; highs = map (λ x. x.high) t }

-- What the five lists hold: the columns, the heads and the links.
pub record Columns : Type 0 where
  pub vars : List ℕ
  pub lows : List ℕ
  pub highs : List ℕ
  pub heads : List ℕ
  pub links : List ℕ

abbrev pub columns_made : List ℕ → List ℕ → List ℕ → List ℕ → List ℕ → Columns
columns_made vs ls hs ds ks = record { vars = vs; lows = ls; highs = hs; heads = ds; links = ks }

-- The nodes t stored in a table of s places, with their index. "each call leaves them so"
unfoldable pub stored_as : ℕ → List Node → Columns
unfolding columns_of padded heads_of links_of
stored_as s t = let c = columns_of (padded s t) in columns_made c.vars c.lows c.highs (heads_of s t) (links_of s t)
