-- Paths through a table in good order: down, each node's variable is greater than how many nodes were passed, so there are at most 64; up,
-- the negation of the last node gives that of the one before. The idea: of a node with a constant child the negation is told by that of the
-- other child. Assumes nothing.
use mathlib.Core.Path.{◌≡◌, refl, sym, ap, ◌∙◌, subst}
use mathlib.Core.List.{List}
use Prim.Native.Nat.{ℕ, zero, suc, ◌+◌, ◌-◌, ◌≤◌, ◌<◌}
use native.Mathlib.Omega.{arith}
use native.Mathlib.Numerals.{add-one}
use native.Mathlib.Decide.{dec_lt}
use lib.ListN.{length, get_or, set}
use lib.Seq.{get_or-set_same, get_or-set_other}
use borrow.Author.Tests.{lt-ltb, le-ltb}
use Rattle.table.specs.declared.NodeNo.{NodeNo}
use Rattle.table.specs.declared.Found.{Found}
use Rattle.table.specs.declared.Found.TheVariants.{At, Nothing}
use Rattle.table.specs.Nodes.{node_of, at, find}
use Rattle.table.specs.Indexed.{Table, nodes_of, Good, found_of}
use Rattle.table.proofs.Order.{Fits}
use Rattle.walks.specs.Readable.{Readable, nodes_in}
use Rattle.walks.proofs.Here.{length-in, ordered-in, node_in, here}
use Rattle.negate.specs.Negations.{Negates}
use Rattle.negate.specs.Thin.{further, OneConstant, PathTo, negated_sides}
use Rattle.negate.proofs.Branches.{negates-zero, negates-one, negates-low, negates-high, negates-lookup}

pub further-high : (low high : ℕ) → low < 2 → further low high ≡ high
further-high low high p = rw (lt-ltb low 2 p)

pub further-low : (low high : ℕ) → 2 ≤ low → further low high ≡ low
further-low low high p = rw (le-ltb low 2 p)

-- ---- down

module _ (lows highs : List ℕ) (count : ℕ) (path : List ℕ) (p k : ℕ) where
  -- a node is listed behind those before it, which stay
  path-kept : (f n j : ℕ) → n ≤ p → PathTo lows highs count path f n j → PathTo lows highs count (set path p k) f n j
  path-kept f zero j less P = P
  path-kept f (suc n) j less P =
      let e : get_or (set path p k) n 0 ≡ get_or path n 0 = get_or-set_other path p n k 0 (λ q. absurd (omega arith)) in
      rw e (P.0, P.1, P.2, P.3, path-kept f n (get_or path n 0) (omega arith) P.4)

  path-more : (f j : ℕ) → p < length path → 2 ≤ k → k < count → OneConstant (get_or lows k 0) (get_or highs k 0)
      → further (get_or lows k 0) (get_or highs k 0) ≡ j → PathTo lows highs count path f p k
      → PathTo lows highs count (set path p k) f (suc p) j
  path-more f j room two inside one e P =
      rw (get_or-set_same path p k 0 room) (two, inside, one, e, path-kept f p k (omega arith) P)

-- From f the path has come to k, with `depth` nodes listed.
pub record GoingDown (vars lows highs : List ℕ) (count : ℕ) (path : List ℕ) (f depth k : ℕ) : Type 0 where
  pub inside : k < count
  pub most : depth ≤ 64
  pub before : 2 ≤ k → depth < get_or vars k 0
  pub is : PathTo lows highs count path f depth k

module _ (vars lows highs : List ℕ) (count : ℕ) (R : Readable vars lows highs count) where
  pub going-first : (path : List ℕ) (f : ℕ) → f < count → GoingDown vars lows highs count path f 0 f
  going-first path f p = record {
    inside = p;
    most = omega arith;
    before = λ two. omega (arith, (here vars lows highs count R f two p).least);
    is = refl;
  }

  module _ (k : ℕ) (two : 2 ≤ k) (inside : k < count) where
    fits : Fits (nodes_in vars lows highs count) k (node_of (get_or vars k 0) (get_or lows k 0) (get_or highs k 0))
    fits =
        subst (Fits (nodes_in vars lows highs count) k) (node_in vars lows highs count R k inside)
        ((ordered-in vars lows highs count R).fits k two (omega (arith, length-in vars lows highs count R)))

    var-in : (j : ℕ) → j < count → (at (nodes_in vars lows highs count) j).var ≡ get_or vars j 0
    var-in j p = ap (λ n. n.var) (node_in vars lows highs count R j p)

    -- the path goes on to a lower number and a greater variable
    pub further-less : further (get_or lows k 0) (get_or highs k 0) < k
    further-less = go (dec_lt (get_or lows k 0) 2)
      where
        go : Dec (get_or lows k 0 < 2) → further (get_or lows k 0) (get_or highs k 0) < k
        go (yes p) = rw (lt-ltb (get_or lows k 0) 2 p) fits.high-less
        go (no n) = rw (le-ltb (get_or lows k 0) 2 (omega (arith, n))) fits.low-less

    pub further-after : 2 ≤ further (get_or lows k 0) (get_or highs k 0)
        → get_or vars k 0 < get_or vars (further (get_or lows k 0) (get_or highs k 0)) 0
    further-after = go (dec_lt (get_or lows k 0) 2)
      where
        go : Dec (get_or lows k 0 < 2) → 2 ≤ further (get_or lows k 0) (get_or highs k 0)
            → get_or vars k 0 < get_or vars (further (get_or lows k 0) (get_or highs k 0)) 0
        go (yes p) = rw (lt-ltb (get_or lows k 0) 2 p)
            (λ q. omega (arith, fits.above-high q, var-in (get_or highs k 0) (omega (arith, fits.high-less))))
        go (no n) = rw (le-ltb (get_or lows k 0) 2 (omega (arith, n)))
            (λ q. omega (arith, fits.above_low q, var-in (get_or lows k 0) (omega (arith, fits.low-less))))

  module _ (path : List ℕ) (f depth k : ℕ) (W : GoingDown vars lows highs count path f depth k) (two : 2 ≤ k) where
    pub step_room : depth < 64
    step_room = omega (arith, W.before two, (here vars lows highs count R k two W.inside).most)

    pub going_next : (j : ℕ) → depth < length path → OneConstant (get_or lows k 0) (get_or highs k 0)
        → j ≡ further (get_or lows k 0) (get_or highs k 0)
        → GoingDown vars lows highs count (set path depth k) f (depth + 1) j
    going_next j room one e =
        subst (λ (i : ℕ). GoingDown vars lows highs count (set path depth k) f (depth + 1) i) (sym e)
        (record {
          inside = omega (arith, further-less k two W.inside, W.inside);
          most = omega (arith, step_room);
          before = λ q. omega (arith, further-after k two W.inside q, W.before two);
          is =
              subst (λ (n : ℕ). PathTo lows highs count (set path depth k) f n (further (get_or lows k 0) (get_or highs k 0)))
              (sym (add-one depth))
              (path-more lows highs count path depth k f (further (get_or lows k 0) (get_or highs k 0)) room two W.inside one refl W.is);
        })

-- ---- up

abbrev number : ℕ → NodeNo
number k = record { 0 = k }

pub negates-constant : (T : Table) → Good T → (k : ℕ) → k < 2 → Negates T k (At (record { 0 = 1 - k }))
negates-constant T G zero p = negates-zero T G
negates-constant T G (suc zero) p = negates-one T G
negates-constant T G (suc (suc k)) p = absurd (omega arith)

-- At k, to which the path from f has come with `left` nodes still to do, r is the negation.
pub record Risen (T : Table) (path : List ℕ) (f left r : ℕ) : Type 0 where
  pub below : ℕ
  pub to : PathTo T.lows T.highs T.count path f left below
  pub is : Negates T below (At (record { 0 = r }))

module _ (T : Table) (G : Good T) (k : ℕ) (two : 2 ≤ k) (inside : k < T.count) where
  abbrev low : ℕ
  low = get_or T.lows k 0

  abbrev high : ℕ
  high = get_or T.highs k 0

  -- the negation of the child that the path goes on with is not there
  absent-over : (j : ℕ) → further low high ≡ j → Negates T j Nothing → Negates T k Nothing
  absent-over j e absent = go (dec_lt low 2)
    where
      go : Dec (low < 2) → Negates T k Nothing
      go (yes p) = negates-high T G k two inside (subst (λ (i : ℕ). Negates T i Nothing) (sym e ∙ further-high low high p) absent)
      go (no n) =
          negates-low T G k two inside
          (subst (λ (i : ℕ). Negates T i Nothing) (sym e ∙ further-low low high (omega (arith, n))) absent)

  -- it is r: the node over both negations is looked up
  negates-over : (j r : ℕ) → OneConstant low high → further low high ≡ j → Negates T j (At (record { 0 = r })) → (o : Found)
      → o ≡ found_of (find (nodes_of T)
      (node_of (get_or T.vars k 0) (negated_sides low high r).low.0 (negated_sides low high r).high.0))
      → Negates T k o
  negates-over j r one e N o = go (dec_lt low 2)
    where
      go : Dec (low < 2) → o ≡ found_of (find (nodes_of T)
          (node_of (get_or T.vars k 0) (negated_sides low high r).low.0 (negated_sides low high r).high.0))
          → Negates T k o
      go (yes p) = rw (lt-ltb low 2 p)
          (negates-lookup T G k two inside (number (1 - low)) (number r) o (negates-constant T G low p)
          (subst (λ (i : ℕ). Negates T i (At (record { 0 = r }))) (sym e ∙ further-high low high p) N))
      go (no n) =
          let from-two : 2 ≤ low = omega (arith, n) in
          rw (le-ltb low 2 from-two)
          (negates-lookup T G k two inside (number r) (number (1 - high)) o
          (subst (λ (i : ℕ). Negates T i (At (record { 0 = r }))) (sym e ∙ further-low low high from-two) N)
          (negates-constant T G high (one from-two)))

module _ (T : Table) (G : Good T) (path : List ℕ) (f : ℕ) where
  absent-up : (n k : ℕ) → PathTo T.lows T.highs T.count path f n k → Negates T k Nothing → Negates T f Nothing
  absent-up zero k P absent = subst (λ (i : ℕ). Negates T i Nothing) (sym P) absent
  absent-up (suc n) k P absent =
      absent-up n (get_or path n 0) P.4 (absent-over T G (get_or path n 0) P.0 P.1 k P.3 absent)

  -- all nodes are done
  pub risen-last : (r : ℕ) → Risen T path f 0 r → Negates T f (At (record { 0 = r }))
  risen-last r W = subst (λ (i : ℕ). Negates T i (At (record { 0 = r }))) (sym W.to) W.is

  module _ (n r : ℕ) (W : Risen T path f (suc n) r) where
    pub next-inside : get_or path n 0 < T.count
    next-inside = W.to.1

    pub next-constant : OneConstant (get_or T.lows (get_or path n 0) 0) (get_or T.highs (get_or path n 0) 0)
    next-constant = W.to.2

    abbrev pub Looked : Found → Type 0
    Looked o = o ≡ found_of (find (nodes_of T) (node_of (get_or T.vars (get_or path n 0) 0)
        (negated_sides (get_or T.lows (get_or path n 0) 0) (get_or T.highs (get_or path n 0) 0) r).low.0
        (negated_sides (get_or T.lows (get_or path n 0) 0) (get_or T.highs (get_or path n 0) 0) r).high.0))

    negates-next : (o : Found) → Looked o → Negates T (get_or path n 0) o
    negates-next = negates-over T G (get_or path n 0) W.to.0 next-inside W.below r next-constant W.to.3 W.is

    pub risen-absent : Looked Nothing → Negates T f Nothing
    risen-absent e = absent-up n (get_or path n 0) W.to.4 (negates-next Nothing e)

    pub risen-next : (m : NodeNo) → Looked (At m) → Risen T path f n m.0
    risen-next m e = record { below = get_or path n 0; to = W.to.4; is = negates-next (At m) e }
