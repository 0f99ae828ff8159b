-- The index lent with a table: the chain of a node, the heads and links, good order with them, and looking up by them. (02, 7/14)
use Rattle.std.specs.Prelude.{ℕ, zero, suc, ◌+◌, ◌*◌, ◌%◌, Bool, true, false, cond, ◌&&◌, List, [], ◌∷◌, length, take, ◌==◌, nat_le, nat_lt}
use Rattle.table.specs.Nodes.{Node, at, good_places}

-- The chain of a node among n: "The key is variable plus low times 12,582,917 plus high times 4,256,249, in 32 bits, running over the
-- top on purpose; its remainder by the number of heads picks the chain."
unfoldable pub bucket : ℕ → ℕ → ℕ → ℕ → ℕ
bucket n v l h = (v + l * 12582917 + h * 4256249) % 4294967296 % n

abbrev pub bucket_at : ℕ → List Node → ℕ → ℕ
bucket_at n t k = bucket n (at t k).var (at t k).low (at t k).high

-- ---- heads and links

-- Of the places below k, from 2 on, the highest whose node is of chain b; 0 where there is none.
unfoldable pub highest : ℕ → List Node → ℕ → ℕ → ℕ
highest n t b zero = 0
highest n t b (suc k) = let before = highest n t b k in cond (nat_le 2 k && bucket_at n t k == b) k before

-- f i, f (i + 1), .., n numbers.
unfoldable pub listed_from : ℕ → ℕ → (ℕ → ℕ) → List ℕ
listed_from i zero f = []
listed_from i (suc n) f = f i ∷ listed_from (suc i) n f

-- "twice as many heads as table places": where "each chain now runs through its nodes from the highest number down", it begins with
-- its highest node; 0 where it has none. The table has s places and holds the nodes t.
unfoldable pub heads_of : ℕ → List Node → List ℕ
unfolding highest listed_from
heads_of s t = listed_from 0 (2 * s) (λ b. highest (2 * s) t b (length t))

-- "and a next link for each place": to the next lower node of its chain, "down to a 0"; "all other heads and links are 0".
unfoldable pub links_of : ℕ → List Node → List ℕ
unfolding highest listed_from
links_of s t = listed_from 0 s (λ k. cond (nat_lt k (length t)) (highest (2 * s) t (bucket_at (2 * s) t k) k) 0)

-- ---- good order

unfoldable pub same_numbers : List ℕ → List ℕ → Bool
same_numbers [] [] = true
same_numbers [] (y ∷ ys) = false
same_numbers (x ∷ xs) [] = false
same_numbers (x ∷ xs) (y ∷ ys) = x == y && same_numbers xs ys

-- "In good order each chain now runs through its nodes from the highest number down to a 0; all other heads and links are 0": the
-- table's places are in good order, and its index is that of its nodes.
unfoldable pub good_order : List Node → ℕ → List ℕ → List ℕ → Bool
unfolding good_places same_numbers heads_of links_of
good_order rows count heads links =
    let t = take count rows in
    good_places rows count && (same_numbers heads (heads_of (length rows) t) && same_numbers links (links_of (length rows) t))
