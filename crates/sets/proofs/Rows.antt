-- One diagonal after the other: what is in row j before diagonal d is there, so that each put places at least j of the last d + j
-- variables, and a diagonal done is at least k of the last d + k placed, `full` included. The idea: low is there, high was placed just
-- before. Assumes nothing.
use mathlib.Core.Path.{◌≡◌, refl, sym, ap, ap₂, ◌∙◌, subst}
use mathlib.Core.Bool.{Bool, true, false}
use mathlib.Core.List.{List, ◌∷◌}
use Prim.Native.Nat.{ℕ, zero, suc, ◌+◌, ◌-◌, ◌≤◌, ◌<◌}
use native.Mathlib.Omega.{arith}
use native.Mathlib.Decide.{ℕ_discrete}
use lib.ListN.{length, get_or, set, length-set, replicate, length-replicate}
use lib.Seq.{get_or-set_same, get_or-set_other}
use Rattle.meaning.specs.Diagram.{Diagram, branch}
use Rattle.meaning.specs.Reduced.{Reduced}
use Rattle.meaning.specs.Words.{in_word}
use Rattle.table.specs.Nodes.{diagram_at}
use Rattle.table.specs.Indexed.{Table, nodes_of, Good, Outcome}
use Rattle.table.proofs.Numbers.{diagram_at-zero, diagram_at-one}
use Rattle.table.proofs.Outcomes.{place_in, put_in, Grown, grown, there, put-in, low-full, high-full, joined}
use Rattle.meaning.specs.Sets.{at_least}
use Rattle.sets.specs.Variables.{lower, nth, Deep, Members}
use Rattle.sets.specs.Building.{last_of, Row, FirstRow}
use Rattle.sets.proofs.Lower.{nth-zero, nth-suc, nth-falls, last_none, last-reduced, last_step, last-beyond, last-whole}
use Rattle.table.proofs.Zeros.{zeros-at}

abbrev out_of : Table → ℕ → Outcome
out_of T n = record { table = T; full = false; node = n }

less-deep : (w n m : ℕ) → Deep w n → m ≤ n → Deep w m
less-deep w n m D le i p = D i (omega arith)

-- at least j of the last d + j variables, over what row j and row j - 1 have
over : (w d j : ℕ) → 1 ≤ j → Deep w (d + j) → last_of w (d + j) j ≡ branch (nth w (d + j)) (last_of w (d + j - 1) j)
    (last_of w (d + j - 1) (j - 1))
over w d j least D =
    let z : suc (d + j - 1) ≡ d + j = omega arith in
    subst (λ (n : ℕ). last_of w n j ≡ branch (nth w n) (last_of w (d + j - 1) j) (last_of w (d + j - 1) (j - 1))) z
    (last_step w (d + j - 1) j (λ i p. D i (omega arith)))

-- what diagonal d has done before row j
pub record Along (T₀ : Table) (w d k : ℕ) (row₀ : List ℕ) (T : Table) (row : List ℕ) (node j v : ℕ) : Type 0 where
  pub least : 1 ≤ j
  pub most : j ≤ k + 1
  pub at : v ≡ nth w (d + j - 1)
  pub same_length : length row ≡ length row₀
  pub made : out_of T node ≡ place_in T₀ (last_of w (d + j - 1) (j - 1))
  pub rest : (i : ℕ) → j ≤ i → get_or row i 0 ≡ get_or row₀ i 0
  pub inside : (i : ℕ) → i < j → get_or row i 0 < T.count
  pub is : (i : ℕ) → i < j → diagram_at (nodes_of T) (get_or row i 0) ≡ last_of w (d + i) i

module _ (T₀ : Table) (w d k : ℕ) (row₀ : List ℕ) (R : Row T₀ w d k row₀) (D : Deep w (d + k)) where
  reduced : (n j : ℕ) → n ≤ d + k → Reduced 1 65 (last_of w n j)
  reduced n j le = last-reduced w n j (less-deep w (d + k) n D le)

  pub few : k ≤ 64
  few = omega (arith, nth-falls w (d + k) D, D (d + k) (omega arith))

  row-there : (j : ℕ) → j ≤ k → out_of T₀ (get_or row₀ j 0) ≡ place_in T₀ (last_of w (d + j - 1) j)
  row-there j le = sym (there T₀ R.good (get_or row₀ j 0) (R.inside j le)) ∙ ap (place_in T₀) (R.is j le)

  pub along-start : (v : ℕ) → v ≡ nth w d → Along T₀ w d k row₀ T₀ row₀ (get_or row₀ 0 0) 1 v
  along-start v e =
      let z : d + 1 - 1 ≡ d = omega arith in
      record {
        least = omega arith;
        most = omega arith;
        at = e ∙ ap (nth w) (sym z);
        same_length = refl;
        made = row-there 0 (omega arith) ∙ ap (place_in T₀) (last_none w (d + 0 - 1) ∙ sym (last_none w (d + 1 - 1)));
        rest = λ i _. refl;
        inside = λ i p. R.inside i (omega (arith, R.some));
        is = λ i p. let q : i ≡ 0 = omega arith in
            subst (λ (i : ℕ). diagram_at (nodes_of T₀) (get_or row₀ i 0) ≡ last_of w (d + i) i) (sym q)
            (R.is 0 (omega arith) ∙ last_none w (d + 0 - 1) ∙ sym (last_none w (d + 0)));
      }

  -- a diagonal that found no room at row j would find none at the rows above
  full-up : (o : Outcome) → o.full ≡ true → (n j : ℕ) → j + n ≡ k → o ≡ place_in T₀ (last_of w (d + j) j) → o
      ≡ place_in T₀ (last_of w (d + k) k)
  full-up o f zero j e is = let z : j ≡ k = omega arith in subst (λ (i : ℕ). o ≡ place_in T₀ (last_of w (d + i) i)) z is
  full-up o f (suc n) j e is =
      let a : d + j ≡ d + suc j - 1 = omega arith in
      let b : j ≡ suc j - 1 = omega arith in
      full-up o f n (suc j) (omega arith)
      (high-full T₀ R.good (nth w (d + suc j)) (last_of w (d + suc j - 1) (suc j)) (last_of w (d + suc j - 1) (suc j - 1))
      (reduced (d + suc j - 1) (suc j) (omega arith)) (reduced (d + suc j - 1) (suc j - 1) (omega arith))
      (out_of T₀ (get_or row₀ (suc j) 0)) (row-there (suc j) (omega arith)) refl o (is ∙ ap₂ (λ (n i : ℕ). place_in T₀ (last_of w n i)) a b)
      f
      ∙ ap (place_in T₀) (sym (over w d (suc j) (omega arith) (less-deep w (d + k) (d + suc j) D (omega arith)))))

  module _ (T : Table) (row : List ℕ) (node j v : ℕ) (I : Along T₀ w d k row₀ T row node j v) where
    made-grown : Grown T₀ (last_of w (d + j - 1) (j - 1)) (out_of T node)
    made-grown = grown T₀ R.good (last_of w (d + j - 1) (j - 1)) (reduced (d + j - 1) (j - 1) (omega (arith, I.most, I.least)))
        (out_of T node) I.made

    pub along-good : Good T
    along-good = made-grown.good

    pub along-inside : node < T.count
    along-inside = made-grown.inside

    -- all rows are done
    pub along-end : k < j → out_of T node ≡ place_in T₀ (last_of w (d + k) k)
    along-end lt =
        let a : d + j - 1 ≡ d + k = omega (arith, I.most) in
        let b : j - 1 ≡ k = omega (arith, I.most) in
        I.made ∙ ap₂ (λ (n i : ℕ). place_in T₀ (last_of w n i)) a b

    pub next_row : k < j → Row T w (d + 1) k row
    next_row lt = record {
      good = along-good;
      some = R.some;
      room = omega (arith, I.same_length, R.room);
      inside = λ i p. I.inside i (omega arith);
      is = λ i p. let a : d + i ≡ d + 1 + i - 1 = omega arith in I.is i (omega arith) ∙ ap (λ (n : ℕ). last_of w n i) a;
    }

    module _ (le : j ≤ k) where
      pub variable-least : 1 ≤ v
      variable-least = subst (λ (x : ℕ). 1 ≤ x) (sym I.at) (D (d + j - 1) (omega arith))

      pub variable-most : v ≤ 65
      variable-most = let e : v ≡ nth w (d + j - 1) = I.at in omega
          (arith, nth-falls w (d + j - 1) (less-deep w (d + k) (d + j - 1) D (omega arith)))

      variable : (u : ℕ) → u ≡ lower w v → u ≡ nth w (d + j)
      variable u e =
          let z : suc (d + j - 1) ≡ d + j = omega (arith, I.least) in
          e ∙ ap (lower w) I.at ∙ sym (nth-suc w (d + j - 1)) ∙ ap (nth w) z

      low-inside : get_or row₀ j 0 < T.count
      low-inside = omega (arith, R.inside j le, made-grown.more)

      deep : Deep w (d + j)
      deep = less-deep w (d + k) (d + j) D (omega arith)

      module _ (u : ℕ) (e : u ≡ lower w v) (o : Outcome) (p : o ≡ put_in T u (get_or row j 0) node) where
        put_is : o ≡ put_in T (nth w (d + j)) (get_or row₀ j 0) node
        put_is = p ∙ ap₂ (λ (x y : ℕ). put_in T x y node) (variable u e) (I.rest j (omega arith))

        -- the put places at least j of the last d + j
        pub row-placed : o ≡ place_in T₀ (last_of w (d + j) j)
        row-placed =
            joined T₀ R.good (nth w (d + j)) (last_of w (d + j - 1) j) (last_of w (d + j - 1) (j - 1))
            (reduced (d + j - 1) j (omega arith)) (reduced (d + j - 1) (j - 1) (omega arith))
            (out_of T₀ (get_or row₀ j 0)) (row-there j le) refl (out_of T node) I.made refl o put_is
            ∙ ap (place_in T₀) (sym (over w d j I.least deep))

        pub row-full : o.full ≡ true → o ≡ place_in T₀ (last_of w (d + k) k)
        row-full f = full-up o f (k - j) j (omega arith) row-placed

        put-grown : Grown T (last_of w (d + j) j) o
        put-grown =
            grown T along-good (last_of w (d + j) j) (reduced (d + j) j (omega arith)) o
            (put_is ∙ put-in T along-good (nth w (d + j)) (get_or row₀ j 0) node low-inside along-inside
            ∙ ap₂ (λ (x y : Diagram). place_in T (branch (nth w (d + j)) x y))
            (made-grown.kept (get_or row₀ j 0) (R.inside j le) ∙ R.is j le) (made-grown.is refl)
            ∙ ap (place_in T) (sym (over w d j I.least deep)))

        module _ (f : o.full ≡ false) where
          done : out_of o.table o.node ≡ o
          done = ap (λ (b : Bool). record { table = o.table; full = b; node = o.node }) (sym f)

          set-inside : (i : ℕ) → i < j + 1 → get_or (set row j o.node) i 0 < o.table.count
          set-inside i lt = elim (ℕ_discrete i j) [
            | yes q ↦ subst (λ (i : ℕ). get_or (set row j o.node) i 0 < o.table.count) (sym q)
                (let z : get_or (set row j o.node) j 0 ≡ o.node = get_or-set_same row j o.node 0 (omega (arith, I.same_length, R.room))
                in omega (arith, put-grown.inside))
            | no q ↦ let z : get_or (set row j o.node) i 0 ≡ get_or row i 0 = get_or-set_other row j i o.node 0 q in
                omega (arith, I.inside i (omega (arith, q)), put-grown.more)
          ]

          set_is : (i : ℕ) → i < j + 1 → diagram_at (nodes_of o.table) (get_or (set row j o.node) i 0) ≡ last_of w (d + i) i
          set_is i lt = elim (ℕ_discrete i j) [
            | yes q ↦ subst (λ (i : ℕ). diagram_at (nodes_of o.table) (get_or (set row j o.node) i 0) ≡ last_of w (d + i) i) (sym q)
                (ap (diagram_at (nodes_of o.table)) (get_or-set_same row j o.node 0 (omega (arith, I.same_length, R.room)))
                ∙ put-grown.is f)
            | no q ↦
                ap (diagram_at (nodes_of o.table)) (get_or-set_other row j i o.node 0 q)
                ∙ put-grown.kept (get_or row i 0) (I.inside i (omega (arith, q))) ∙ I.is i (omega (arith, q))
          ]

          pub along-next : Along T₀ w d k row₀ o.table (set row j o.node) o.node (j + 1) u
          along-next =
              let a : d + j ≡ d + (j + 1) - 1 = omega arith in
              let b : j ≡ j + 1 - 1 = omega arith in
              record {
                least = omega arith;
                most = omega arith;
                at = variable u e ∙ ap (nth w) a;
                same_length = length-set row j o.node ∙ I.same_length;
                made = done ∙ row-placed ∙ ap₂ (λ (n i : ℕ). place_in T₀ (last_of w n i)) a b;
                rest = λ i p. get_or-set_other row j i o.node 0 (λ q. omega arith) ∙ I.rest i (omega arith);
                inside = set-inside;
                is = set_is;
              }

-- ---- all diagonals

-- low placed first, then the whole: the same as the whole
again : (T : Table) → Good T → (v : ℕ) (l h : Diagram) → Reduced 1 65 l → Reduced 1 65 h → (o₁ : Outcome) → o₁ ≡ place_in T l → o₁.full
    ≡ false
    → place_in o₁.table (branch v l h) ≡ place_in T (branch v l h)
again T G v l h rl rh o₁ e₁ f₁ =
    let W : Grown T l o₁ = grown T G l rl o₁ e₁ in
    let t : out_of o₁.table o₁.node ≡ place_in o₁.table l = sym (there o₁.table W.good o₁.node W.inside)
    ∙ ap (place_in o₁.table) (W.is f₁) in
    go W t (place_in o₁.table h).full refl
  where
    go : Grown T l o₁ → out_of o₁.table o₁.node ≡ place_in o₁.table l → (b : Bool) → (place_in o₁.table h).full ≡ b →
        place_in o₁.table (branch v l h) ≡ place_in T (branch v l h)
    go W t true f =
        sym (high-full o₁.table W.good v l h rl rh (out_of o₁.table o₁.node) t refl (place_in o₁.table h) refl f)
        ∙ high-full T G v l h rl rh o₁ e₁ f₁ (place_in o₁.table h) refl f
    go W t false f =
        sym (joined o₁.table W.good v l h rl rh (out_of o₁.table o₁.node) t refl (place_in o₁.table h) refl f
        (put_in (place_in o₁.table h).table v o₁.node (place_in o₁.table h).node) refl)
        ∙ joined T G v l h rl rh o₁ e₁ f₁ (place_in o₁.table h) refl f
        (put_in (place_in o₁.table h).table v o₁.node (place_in o₁.table h).node) refl

-- what has been done before diagonal d
pub record Before (T₀ : Table) (w k m : ℕ) (T : Table) (row : List ℕ) (node d v : ℕ) : Type 0 where
  pub rows : Row T w d k row
  pub within : d + k ≤ m + 1
  pub at : v ≡ nth w d
  pub made : out_of T node ≡ place_in T₀ (last_of w (d + k - 1) k)

module _ (T₀ : Table) (G : Good T₀) (w k m : ℕ) (M : Members w m) (some : 1 ≤ k) where
  deep-to : (n : ℕ) → n ≤ m → Deep w n
  deep-to n le = less-deep w m n M.there le

  -- the row at first: 1, then 0
  pub before-start : k ≤ m → (row : List ℕ) → k < length row → get_or row 0 0 ≡ 1 → ((j : ℕ) → 1 ≤ j → get_or row j 0 ≡ 0) →
      Before T₀ w k m T₀ row 0 0 65
  before-start le row room one zeros = record {
    rows = record {
      good = G;
      some = some;
      room = room;
      inside = λ j p. elim (ℕ_discrete j 0) [
        | yes q ↦ subst (λ (j : ℕ). get_or row j 0 < T₀.count) (sym q) (omega (arith, one, G.least))
        | no q ↦ omega (arith, zeros j (omega (arith, q)), G.least)
      ];
      is = λ j p. elim (ℕ_discrete j 0) [
        | yes q ↦ subst (λ (j : ℕ). diagram_at (nodes_of T₀) (get_or row j 0) ≡ last_of w (0 + j - 1) j) (sym q)
            (ap (diagram_at (nodes_of T₀)) one ∙ diagram_at-one (nodes_of T₀) ∙ sym (last_none w (0 + 0 - 1)))
        | no q ↦ ap (diagram_at (nodes_of T₀)) (zeros j (omega (arith, q))) ∙ diagram_at-zero (nodes_of T₀)
            ∙ sym (last-beyond w (0 + j - 1) j (deep-to (0 + j - 1) (omega arith)) (omega (arith, q)))
      ];
    };
    within = omega arith;
    at = sym (nth-zero w);
    made = sym (there T₀ G 0 (omega (arith, G.least))) ∙ ap (place_in T₀)
        (diagram_at-zero (nodes_of T₀) ∙ sym (last-beyond w (0 + k - 1) k (deep-to (0 + k - 1) (omega arith)) (omega arith)));
  }

  -- no room for at least k of the last n: none for at least k of more
  full-on : (o : Outcome) → o.full ≡ true → (e n : ℕ) → n + e ≡ m → o ≡ place_in T₀ (last_of w n k) → o ≡ place_in T₀ (last_of w m k)
  full-on o f zero n e is = let z : n ≡ m = omega arith in subst (λ (i : ℕ). o ≡ place_in T₀ (last_of w i k)) z is
  full-on o f (suc e) n q is =
      full-on o f e (suc n) (omega arith)
      (low-full T₀ G (nth w (suc n)) (last_of w n k) (last_of w n (k - 1)) (last-reduced w n k (deep-to n (omega arith)))
      (last-reduced w n (k - 1) (deep-to n (omega arith))) o is f
      ∙ ap (place_in T₀) (sym (last_step w n k (deep-to (suc n) (omega arith)))))

  module _ (T : Table) (row : List ℕ) (node d v : ℕ) (B : Before T₀ w k m T row node d v) where
    -- all diagonals are done
    pub before-end : m < d + k → out_of T node ≡ place_in T₀ (at_least 64 (in_word w) k)
    before-end lt =
        let z : d + k - 1 ≡ m = omega (arith, B.within) in
        B.made ∙ ap (λ (n : ℕ). place_in T₀ (last_of w n k)) z ∙ ap (place_in T₀) (last-whole w m k M)

    module _ (le : d + k ≤ m) where
      pub deep-here : Deep w (d + k)
      deep-here = deep-to (d + k) le

      pub before-least : 1 ≤ v
      before-least = let e : v ≡ nth w d = B.at in omega (arith, deep-here d (omega arith))

      pub before-most : v ≤ 65
      before-most = let e : v ≡ nth w d = B.at in omega (arith, nth-falls w d (deep-to d (omega arith)))

      module _ (o : Outcome) (p : o ≡ place_in T (last_of w (d + k) k)) where
        whole : o ≡ place_in T₀ (last_of w (d + k) k)
        whole =
            p ∙ ap (place_in T) (over w d k some deep-here)
            ∙ again T₀ G (nth w (d + k)) (last_of w (d + k - 1) k) (last_of w (d + k - 1) (k - 1))
            (last-reduced w (d + k - 1) k (deep-to (d + k - 1) (omega arith)))
            (last-reduced w (d + k - 1) (k - 1) (deep-to (d + k - 1) (omega arith))) (out_of T node) B.made refl
            ∙ ap (place_in T₀) (sym (over w d k some deep-here))

        pub diagonal-full : o.full ≡ true → o ≡ place_in T₀ (at_least 64 (in_word w) k)
        diagonal-full f = full-on o f (m - (d + k)) (d + k) (omega arith) whole ∙ ap (place_in T₀) (last-whole w m k M)

        pub before-next : o.full ≡ false → (row' : List ℕ) → Row o.table w (d + 1) k row' → (u : ℕ) → u ≡ lower w v →
            Before T₀ w k m o.table row' o.node (d + 1) u
        before-next f row' R u e =
            let a : d + k ≡ d + 1 + k - 1 = omega arith in
            let b : suc d ≡ d + 1 = omega arith in
            record {
              rows = R;
              within = omega arith;
              at = e ∙ ap (lower w) B.at ∙ sym (nth-suc w d) ∙ ap (nth w) b;
              made = ap (λ (b : Bool). record { table = o.table; full = b; node = o.node }) (sym f) ∙ whole
                  ∙ ap (λ (n : ℕ). place_in T₀ (last_of w n k)) a;
            }

-- ---- the edges

-- "k = 0 gives 1"
pub none-wanted : (T : Table) → Good T → (w m k : ℕ) → Members w m → k ≡ 0 → out_of T 1 ≡ place_in T (at_least 64 (in_word w) k)
none-wanted T G w m k M e =
    sym (there T G 1 (omega (arith, G.least)))
    ∙ ap (place_in T) (diagram_at-one (nodes_of T) ∙ sym (last_none w m) ∙ last-whole w m 0 M ∙ ap (at_least 64 (in_word w)) (sym e))

-- "k above the set's size gives 0"
pub too-many-wanted : (T : Table) → Good T → (w m k : ℕ) → Members w m → m < k → out_of T 0 ≡ place_in T (at_least 64 (in_word w) k)
too-many-wanted T G w m k M lt =
    sym (there T G 0 (omega (arith, G.least))) ∙ ap (place_in T)
    (diagram_at-zero (nodes_of T) ∙ sym (last-beyond w m k M.there lt) ∙ last-whole w m k M)

-- ---- the row at first

pub first-row : (n k : ℕ) → k ≤ n → FirstRow k (1 ∷ replicate n 0)
first-row n k le = record { room = omega (arith, length-replicate {A = ℕ} n 0); one = refl; zeros = zeros }
  where
    zeros : (j : ℕ) → 1 ≤ j → ◌≡◌ {A = ℕ} (get_or (1 ∷ replicate n 0) j 0) 0
    zeros zero p = absurd (omega arith)
    zeros (suc j) p = zeros-at n j
