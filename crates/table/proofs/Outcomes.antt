-- The laws of placing for the table as it is lent: what an outcome keeps and gives, a diagram that is there, the joining of two sides, and
-- dropping. The idea: an outcome is a placing written into columns, and columns read back as the nodes written. Assumes nothing.
use Rattle.std.proofs.Common.{◌≡◌, ℕ, suc, ◌<◌, ◌≤◌, Bool, true, false, List, length, take, sym, refl, ap, ◌∙◌, subst, ap₂, arith}
use Rattle.std.proofs.Common.{take-take}
use lib.Seq.{take-length}
use Rattle.meaning.specs.Diagram.{Diagram, branch}
use Rattle.meaning.specs.Reduced.{Reduced}
use Rattle.meaning.proofs.Canonical.{reduced-from, branch-reduced}
use Rattle.table.specs.Nodes.{Node, at, diagram_at, Placing, full, placed, put, and_then, place}
use Rattle.table.specs.Indexed.{Table, size, nodes_of, indexed, Good, Outcome, written}
use Rattle.table.proofs.Order.{Ordered}
use Rattle.meaning.proofs.Booleans.{t≢f}
use Rattle.table.proofs.Written.{nodes-indexed, size-indexed, count-indexed, good-indexed, length-nodes, good-ordered}
use Rattle.table.proofs.Numbers.{diagram_at-reduced-from}
use Rattle.table.proofs.Growth.{dropped-back, extends-length, diagram_at-grown, diagram_at-dropped}
use Rattle.table.proofs.Placing.{Kept, After, place_after, place-there, put-place}
use Rattle.table.proofs.Joining.{place-branch}

-- A diagram placed in a table that is lent.
abbrev pub place_in : Table → Diagram → Outcome
place_in T D = written (size T) (place (size T) (nodes_of T) D)

-- A node put there over two numbers.
abbrev pub put_in : Table → ℕ → ℕ → ℕ → Outcome
put_in T v l h = written (size T) (put (size T) (nodes_of T) v l h)

-- The table with only the nodes below m.
abbrev pub dropped_to : ℕ → Table → Table
dropped_to m T = indexed (size T) (take m (nodes_of T))

-- ---- a table that has grown

-- T' has the nodes of T, and maybe more.
pub record Longer (T T' : Table) : Type 0 where
  pub good : Good T'
  pub same_size : size T' ≡ size T
  pub more : T.count ≤ T'.count
  pub kept : (k : ℕ) → k < T.count → diagram_at (nodes_of T') k ≡ diagram_at (nodes_of T) k
  pub first : take T.count (nodes_of T') ≡ nodes_of T

-- What an inner function that makes the diagram D leaves and gives.
pub record Grown (T : Table) (D : Diagram) (o : Outcome) : Type 0 where
  pub good : Good o.table
  pub same_size : size o.table ≡ size T
  pub more : T.count ≤ o.table.count
  pub kept : (k : ℕ) → k < T.count → diagram_at (nodes_of o.table) k ≡ diagram_at (nodes_of T) k
  pub first : take T.count (nodes_of o.table) ≡ nodes_of T
  pub inside : o.node < o.table.count
  pub is : o.full ≡ false → diagram_at (nodes_of o.table) o.node ≡ D
  pub no_room : o.full ≡ true → o.table.count ≡ size T

pub longer : (T : Table) (D : Diagram) (o : Outcome) → Grown T D o → Longer T o.table
longer T D o W = record { good = W.good; same_size = W.same_size; more = W.more; kept = W.kept; first = W.first }

pub longer-same : (T : Table) → Good T → Longer T T
longer-same T G =
    record {
      good = G;
      same_size = refl;
      more = omega arith;
      kept = λ k p. refl;
      first = ap (λ (n : ℕ). take n (nodes_of T)) (sym (length-nodes T G)) ∙ take-length (nodes_of T);
    }

pub longer-trans : (T T' T'' : Table) → Longer T T' → Longer T' T'' → Longer T T''
longer-trans T T' T'' L M =
    record {
      good = M.good;
      same_size = M.same_size ∙ L.same_size;
      more = omega (arith, L.more, M.more);
      kept = λ k p. M.kept k (omega (arith, L.more)) ∙ L.kept k p;
      first = sym (take-take T.count T'.count (nodes_of T'') L.more) ∙ ap (take T.count) M.first ∙ L.first;
    }

-- ---- what placing leaves and gives

module _ (T : Table) (G : Good T) where
  nodes-fit : length (nodes_of T) ≤ size T
  nodes-fit = omega (arith, length-nodes T G, G.within)

  longer-kept : (t' : List Node) → Kept (size T) (nodes_of T) t' → Longer T (indexed (size T) t')
  longer-kept t' K =
      let len : length (nodes_of T) ≡ T.count = length-nodes T G in
      record {
        good = good-indexed (size T) t' K.ordered (K.room nodes-fit) G.most;
        same_size = size-indexed (size T) t' (K.room nodes-fit);
        more = omega (arith, count-indexed (size T) t', extends-length (nodes_of T) t' K.extends);
        kept = λ k p. ap (λ (u : List Node). diagram_at u k) (nodes-indexed (size T) t')
            ∙ diagram_at-grown (nodes_of T) t' (good-ordered T G) K.extends k (omega arith);
        first = ap₂ take (sym len) (nodes-indexed (size T) t') ∙ dropped-back (nodes_of T) t' K.extends;
      }

  grown-kept : (D : Diagram) (t' : List Node) → Kept (size T) (nodes_of T) t' → (b : Bool) (k : ℕ) → k < length t' →
      (b ≡ false → diagram_at t' k ≡ D) → (b ≡ true → length t' ≡ size T)
      → Grown T D (record { table = indexed (size T) t'; full = b; node = k })
  grown-kept D t' K b k p is no_room =
      let L : Longer T (indexed (size T) t') = longer-kept t' K in
      record {
        good = L.good;
        same_size = L.same_size;
        more = L.more;
        kept = L.kept;
        first = L.first;
        inside = omega (arith, count-indexed (size T) t');
        is = λ e. ap (λ (u : List Node). diagram_at u k) (nodes-indexed (size T) t') ∙ is e;
        no_room = λ e. count-indexed (size T) t' ∙ no_room e;
      }

  grown-written : (D : Diagram) (p : Placing) → After (size T) (nodes_of T) D p → Grown T D (written (size T) p)
  unfolding written
  grown-written D (full t') A = grown-kept D t' A.kept true 0 (omega (arith, A.kept.ordered.two)) (λ e. t≢f e)
      (λ _. A.no_room nodes-fit)
  grown-written D (placed t' k) A = grown-kept D t' A.kept false k A.inside (λ _. A.is) (λ e. t≢f (sym e))

  pub grown : (D : Diagram) → Reduced 1 65 D → (o : Outcome) → o ≡ place_in T D → Grown T D o
  grown D r o e = subst (Grown T D) (sym e) (grown-written D (place (size T) (nodes_of T) D)
      (place_after (size T) (nodes_of T) (good-ordered T G) D r))

  -- A diagram that is there: nothing is placed, and its number is given.
  pub there : (k : ℕ) → k < T.count → place_in T (diagram_at (nodes_of T) k) ≡ record { table = T; full = false; node = k }
  unfolding written
  there k p =
      ap (written (size T)) (place-there (size T) (nodes_of T) (good-ordered T G) k (omega (arith, length-nodes T G)))
      ∙ ap (λ (u : Table). record { table = u; full = false; node = k }) (sym G.written)

  -- A node over two numbers that are there.
  pub put-in : (v l h : ℕ) → l < T.count → h < T.count → put_in T v l h
      ≡ place_in T (branch v (diagram_at (nodes_of T) l) (diagram_at (nodes_of T) h))
  put-in v l h p q =
      let len : length (nodes_of T) ≡ T.count = length-nodes T G in
      ap (written (size T)) (put-place (size T) (nodes_of T) (good-ordered T G) v l h (omega arith) (omega arith))

  -- A node whose variable is above its children's, put over two numbers that are there.
  pub put-grown : (v l h : ℕ) → 1 ≤ v → v ≤ 64 → l < T.count → h < T.count → (2 ≤ l → v < (at (nodes_of T) l).var) →
      (2 ≤ h → v < (at (nodes_of T) h).var)
      → (o : Outcome) → o ≡ put_in T v l h → Grown T (branch v (diagram_at (nodes_of T) l) (diagram_at (nodes_of T) h)) o
  put-grown v l h least most p q above_low above-high o e =
      let len : length (nodes_of T) ≡ T.count = length-nodes T G in
      let O : Ordered (nodes_of T) = good-ordered T G in
      let D : Diagram = branch v (diagram_at (nodes_of T) l) (diagram_at (nodes_of T) h) in
      grown D (reduced-from 1 v 65 D least (branch-reduced v 65 (diagram_at (nodes_of T) l) (diagram_at (nodes_of T) h) (omega arith)
      (diagram_at-reduced-from (nodes_of T) O l (omega arith) (suc v) above_low)
      (diagram_at-reduced-from (nodes_of T) O h (omega arith) (suc v) above-high)))
      o (e ∙ put-in v l h p q)

-- ---- two sides joined: the low side's outcome, the high side's in the table that it left, the node's in the table that that left

then-full : (s : ℕ) (p : Placing) (next : List Node → ℕ → Placing) → (written s p).full ≡ true → written s (and_then p next) ≡ written s p
unfolding written and_then
then-full s (full t) next e = refl
then-full s (placed t k) next e = t≢f (sym e)

then-placed : (s : ℕ) (p : Placing) (next : List Node → ℕ → Placing) → (written s p).full ≡ false
    → written s (and_then p next) ≡ written s (next (nodes_of (written s p).table) (written s p).node)
unfolding written and_then
then-placed s (full t) next e = t≢f e
then-placed s (placed t k) next e = ap (λ (u : List Node). written s (next u k)) (sym (nodes-indexed s t))

module _ (T : Table) (G : Good T) (v : ℕ) (l h : Diagram) (rl : Reduced 1 65 l) (rh : Reduced 1 65 h) (o₁ : Outcome)
    (e₁ : o₁ ≡ place_in T l)
  where
    joined_is : place_in T (branch v l h) ≡ written (size T)
        (and_then (place (size T) (nodes_of T) l) (λ t₁ a. and_then (place (size T) t₁ h) (λ t₂ b. put (size T) t₂ v a b)))
    joined_is = ap (written (size T)) (place-branch (size T) (nodes_of T) (good-ordered T G) v l h rl)

    -- the low side found no room
    pub low-full : o₁.full ≡ true → o₁ ≡ place_in T (branch v l h)
    low-full f =
        e₁ ∙ sym (joined_is ∙ then-full (size T) (place (size T) (nodes_of T) l)
        (λ t₁ a. and_then (place (size T) t₁ h) (λ t₂ b. put (size T) t₂ v a b)) (sym (ap (λ (o : Outcome). o.full) e₁) ∙ f))

    module _ (f₁ : o₁.full ≡ false) where
      after-low : place_in T (branch v l h) ≡ written (size T)
          (and_then (place (size T) (nodes_of o₁.table) h) (λ t₂ b. put (size T) t₂ v o₁.node b))
      after-low =
          joined_is
          ∙ then-placed (size T) (place (size T) (nodes_of T) l) (λ t₁ a. and_then (place (size T) t₁ h) (λ t₂ b. put (size T) t₂ v a b))
          (sym (ap (λ (o : Outcome). o.full) e₁) ∙ f₁)
          ∙ ap (λ (o : Outcome). written (size T) (and_then (place (size T) (nodes_of o.table) h) (λ t₂ b. put (size T) t₂ v o.node b)))
          (sym e₁)

      size_low : size o₁.table ≡ size T
      size_low = (grown T G l rl o₁ e₁).same_size

      module _ (o₂ : Outcome) (e₂ : o₂ ≡ place_in o₁.table h) where
        e₂' : o₂ ≡ written (size T) (place (size T) (nodes_of o₁.table) h)
        e₂' = e₂ ∙ ap (λ (s : ℕ). written s (place s (nodes_of o₁.table) h)) size_low

        -- the high side found no room
        pub high-full : o₂.full ≡ true → o₂ ≡ place_in T (branch v l h)
        high-full f =
            e₂' ∙ sym (after-low ∙ then-full (size T) (place (size T) (nodes_of o₁.table) h) (λ t₂ b. put (size T) t₂ v o₁.node b)
            (sym (ap (λ (o : Outcome). o.full) e₂') ∙ f))

        -- both sides are made
        pub joined : o₂.full ≡ false → (o₃ : Outcome) → o₃ ≡ put_in o₂.table v o₁.node o₂.node → o₃ ≡ place_in T (branch v l h)
        joined f₂ o₃ e₃ =
            e₃
            ∙ ap (λ (s : ℕ). written s (put s (nodes_of o₂.table) v o₁.node o₂.node))
            ((grown o₁.table (grown T G l rl o₁ e₁).good h rh o₂ e₂).same_size ∙ size_low)
            ∙ sym (after-low
            ∙ then-placed (size T) (place (size T) (nodes_of o₁.table) h) (λ t₂ b. put (size T) t₂ v o₁.node b)
            (sym (ap (λ (o : Outcome). o.full) e₂') ∙ f₂)
            ∙ ap (λ (o : Outcome). written (size T) (put (size T) (nodes_of o.table) v o₁.node o.node)) (sym e₂'))

-- ---- dropping

module _ (T : Table) (G : Good T) (m : ℕ) (two : 2 ≤ m) (within : m ≤ T.count) where
  nodes-dropped : nodes_of (dropped_to m T) ≡ take m (nodes_of T)
  nodes-dropped = nodes-indexed (size T) (take m (nodes_of T))

  -- what is left keeps its diagram
  pub dropped : (k : ℕ) → k < m → diagram_at (nodes_of (dropped_to m T)) k ≡ diagram_at (nodes_of T) k
  dropped k p =
      ap (λ (u : List Node). diagram_at u k) nodes-dropped ∙ diagram_at-dropped (nodes_of T) (good-ordered T G) m two
      (omega (arith, length-nodes T G)) k p

-- Dropping down to the old count gives back the old table.
pub undone : (T : Table) → Good T → (T' : Table) → Longer T T' → dropped_to T.count T' ≡ T
undone T G T' L = ap₂ indexed L.same_size L.first ∙ sym G.written
