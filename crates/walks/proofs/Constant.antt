-- Whether a node's cofactor by literals is 1, from its two sides; and the memo of the nodes known to be. The idea: the cofactor
-- is the branch over the cofactors of the two sides, which are one side where its variable has a literal. Assumes nothing.
use mathlib.Core.Path.{◌≡◌, refl, sym, ◌∙◌}
use mathlib.Core.Logic.{◌≢◌}
use mathlib.Core.Bool.{Bool, true, false, not, ◌&&◌, cond}
use mathlib.Core.List.{List}
use Prim.Native.Nat.{ℕ, ◌≤◌, ◌<◌}
use native.Mathlib.Omega.{arith}
use lib.ListN.{length, get_or, set}
use Rattle.meaning.specs.Diagram.{Diagram, leaf, node, same?, same, branch}
use Rattle.meaning.specs.Reduced.{Reduced}
use Rattle.meaning.specs.Operations.{cofactor_literals}
use Rattle.meaning.specs.Words.{in_word}
use Rattle.meaning.proofs.Booleans.{t≢f, not-true, and_same}
use Rattle.meaning.proofs.Units.{same-eq, eq-same}
use Rattle.meaning.proofs.PointwiseSteps.{literals-leaf, literals-high, literals-low, literals-branch}
use Rattle.table.specs.Nodes.{Node, diagram_at}
use Rattle.table.proofs.Numbers.{diagram_at-zero, diagram_at-one, diagram_at-node, diagram_at-reduced}
use Rattle.walks.specs.declared.SidesUnder.{SidesUnder}
use Rattle.walks.specs.Readable.{Readable, Cleared, nodes_in}
use Rattle.walks.specs.Constant.{one_at, sides_by, sides_under, OneMemo}
use Rattle.walks.proofs.Here.{Here, here, node_in, ordered-in, length-in}
use Rattle.walks.proofs.Memo.{stored}

differ_same : (f g : Diagram) → f ≢ g → same f g ≡ false
differ_same f g n = not-true (same f g) (λ e. n (same-eq f g e))

same-leaves : (x y : Bool) → same (leaf x) (leaf y) ≡ cond x y (not y)
same-leaves true true = eq-same (leaf true) (leaf true) refl
same-leaves true false = differ_same (leaf true) (leaf false) (λ e. let z : true ≡ false = cc in t≢f z)
same-leaves false true = differ_same (leaf false) (leaf true) (λ e. let z : true ≡ false = cc in t≢f z)
same-leaves false false = eq-same (leaf false) (leaf false) refl

-- a branch is a constant where both its sides are
branch-constant : (v : ℕ) (f g : Diagram) (b : Bool) → same (branch v f g) (leaf b) ≡ (same f (leaf b) && same g (leaf b))
unfolding branch
branch-constant v f g b = go (same? f g)
  where
    both : f ≢ g → (same f (leaf b) && same g (leaf b)) ≡ false
    both n = not-true (same f (leaf b) && same g (leaf b)) (λ e. split (same f (leaf b)) refl e)
      where
        split : (x : Bool) → same f (leaf b) ≡ x → (x && same g (leaf b)) ≡ true → ⊥
        split true p e = n (same-eq f (leaf b) p ∙ sym (same-eq g (leaf b) e))
        split false p e = t≢f (sym e)

    go : (d : Dec (f ≡ g)) → same (elim d [ yes _ ↦ f | no _ ↦ node v f g ]) (leaf b) ≡ (same f (leaf b) && same g (leaf b))
    go (yes p) = rw (← p) (sym (and_same (same f (leaf b))))
    go (no n) = differ_same (node v f g) (leaf b) (λ e. let z : true ≡ false = cc in t≢f z) ∙ sym (both n)

module _ (t : List Node) (p n : ℕ) where
  pub constant-zero : one_at t p n 0 ≡ false
  unfolding one_at
  constant-zero = rw (diagram_at-zero t, literals-leaf 64 (in_word p) (in_word n) false) (same-leaves false true)

  pub constant-one : one_at t p n 1 ≡ true
  unfolding one_at
  constant-one = rw (diagram_at-one t, literals-leaf 64 (in_word p) (in_word n) true) (same-leaves true true)

  pub constant-cleared : (memo : List ℕ) → Cleared (length t) memo → OneMemo memo t p n
  unfolding OneMemo
  constant-cleared memo C i inside two = absurd (omega (arith, C i inside))

  pub constant-known : (memo : List ℕ) (k : ℕ) → k < length t → OneMemo memo t p n → get_or memo k 0 ≡ k → 2 ≤ k → one_at t p n k ≡ true
  unfolding OneMemo
  constant-known memo k inside C e two = rw e at (C k inside (omega arith))

  pub constant-stored : (memo : List ℕ) (k : ℕ) → k < length memo → OneMemo memo t p n → one_at t p n k ≡ true →
      OneMemo (set memo k k) t p n
  unfolding OneMemo
  constant-stored memo k inside C e = stored (λ i x. i < length t → 2 ≤ x → one_at t p n x ≡ true) memo k k inside (λ _ _. e) (λ i _. C i)

module _ (vs ls hs : List ℕ) (count p n : ℕ) (R : Readable vs ls hs count) (k : ℕ) (two : 2 ≤ k) (inside : k < count) where
  abbrev t : List Node
  t = nodes_in vs ls hs count

  abbrev S : SidesUnder
  S = sides_under vs ls hs k p n

  H : Here vs ls hs count k
  H = here vs ls hs count R k two inside

  -- what holds of both sides holds of the two nodes that the cofactor is made from
  side-both : (P : ℕ → Type 0) → P (get_or ls k 0) → P (get_or hs k 0) → P S.low.0 × P S.high.0
  unfolding sides_under
  side-both P l h = go (in_word p (get_or vs k 0)) (in_word n (get_or vs k 0))
    where
      go : (x y : Bool) → P (sides_by x y (get_or ls k 0) (get_or hs k 0)).low.0 × P (sides_by x y (get_or ls k 0) (get_or hs k 0)).high.0
      go true y = (h, h)
      go false true = (l, l)
      go false false = (l, h)

  pub side-less : (S.low.0 < k) × (S.high.0 < k)
  side-less = side-both (λ j. j < k) H.low-less H.high-less

  is-node : diagram_at t k ≡ node (get_or vs k 0) (diagram_at t (get_or ls k 0)) (diagram_at t (get_or hs k 0))
  is-node = rw (node_in vs ls hs count R k inside) at
      (diagram_at-node t (ordered-in vs ls hs count R) k two (omega (arith, length-in vs ls hs count R)))

  pub constant-node : one_at t p n k ≡ (one_at t p n S.low.0 && one_at t p n S.high.0)
  unfolding one_at sides_under
  constant-node = rw is-node (go (in_word p (get_or vs k 0)) (in_word n (get_or vs k 0)) refl refl)
    where
      l : Diagram
      l = diagram_at t (get_or ls k 0)

      h : Diagram
      h = diagram_at t (get_or hs k 0)

      cofactor : Diagram → Diagram
      cofactor = cofactor_literals 64 (in_word p) (in_word n)

      reduced : Reduced 1 65 (node (get_or vs k 0) l h)
      reduced = rw is-node at (diagram_at-reduced t (ordered-in vs ls hs count R) k (omega (arith, length-in vs ls hs count R)))

      go : (x y : Bool) → in_word p (get_or vs k 0) ≡ x → in_word n (get_or vs k 0) ≡ y
          → (let s : SidesUnder = sides_by x y (get_or ls k 0) (get_or hs k 0) in
          same (cofactor (node (get_or vs k 0) l h)) (leaf true) ≡ (one_at t p n s.low.0 && one_at t p n s.high.0))
      go true y e f = rw (literals-high 64 (in_word p) (in_word n) (get_or vs k 0) l h H.least H.most e)
          (sym (and_same (same (cofactor h) (leaf true))))
      go false true e f = rw (literals-low 64 (in_word p) (in_word n) (get_or vs k 0) l h H.least H.most e f)
          (sym (and_same (same (cofactor l) (leaf true))))
      go false false e f = rw (literals-branch 64 (in_word p) (in_word n) (get_or vs k 0) l h reduced e f)
          (branch-constant (get_or vs k 0) (cofactor l) (cofactor h) true)
