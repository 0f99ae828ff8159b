-- One turn of making a clause: where the clause of the later variables is placed, putting a node over it places the clause with one
-- variable more; where it found no room, that clause finds none. The idea: node 1 and what is made are there already. Assumes nothing.
use mathlib.Core.Path.{◌≡◌, refl, sym, ap, ◌∙◌}
use mathlib.Core.Bool.{Bool, true, false, ◌&&◌, cond}
use Prim.Native.Nat.{ℕ, zero, suc, ◌+◌, ◌-◌, ◌≤◌, ◌<◌}
use native.Mathlib.Omega.{arith}
use Rattle.meaning.specs.Diagram.{Diagram, leaf, branch}
use Rattle.meaning.specs.Reduced.{Reduced}
use Rattle.meaning.specs.Words.{in_word}
use Rattle.meaning.proofs.Booleans.{t≢f}
use Rattle.meaning.proofs.Canonical.{reduced-from}
use Rattle.meaning.proofs.Clauses.{clause_from}
use Rattle.table.specs.Nodes.{diagram_at}
use Rattle.table.specs.Indexed.{Table, size, Good, Outcome}
use Rattle.table.proofs.Outcomes.{place_in, put_in, Grown, grown, there, low-full, high-full, joined}
use Rattle.words.specs.declared.Literals.{Literals}
use Rattle.words.specs.Sets.{shares}
use Rattle.clause.specs.Words.{clause_of_words}
use Rattle.clause.proofs.Diagrams.{clause_words, words-reduced, words_are, both-signs, one-sign}

-- The outcome that leaves a table as it is.
abbrev pub stay : Table → ℕ → Outcome
stay T k = record { table = T; full = false; node = k }

-- the constants are there
zero-there : (T : Table) → Good T → stay T 0 ≡ place_in T (leaf false)
unfolding diagram_at
zero-there T G = sym (there T G 0 (omega (arith, G.least)))

one-there : (T : Table) → Good T → stay T 1 ≡ place_in T (leaf true)
unfolding diagram_at
one-there T G = sym (there T G 1 (omega (arith, G.least)))

-- ---- a node over what is made, its sides 1 or that

module _ (T : Table) (G : Good T) (v : ℕ) (rest : Diagram) (r : Reduced 1 65 rest) (o : Outcome) (e : o ≡ place_in T rest) where
  side-reduced : (b : Bool) → Reduced 1 65 (cond b (leaf true) rest)
  side-reduced true = tt
  side-reduced false = r

  no-room-yet : (low high : Bool) → (low && high) ≡ false → o.full ≡ true → o
      ≡ place_in T (branch v (cond low (leaf true) rest) (cond high (leaf true) rest))
  no-room-yet true true d f = t≢f d
  no-room-yet true false d f = high-full T G v (leaf true) rest tt r (stay T 1) (one-there T G) refl o e f
  no-room-yet false high d f = low-full T G v rest (cond high (leaf true) rest) r (side-reduced high) o e f

  one_more : (low high : Bool) → (low && high) ≡ false → o.full ≡ false
      → (o' : Outcome) → o' ≡ put_in o.table v (cond low 1 o.node) (cond high 1 o.node)
      → o' ≡ place_in T (branch v (cond low (leaf true) rest) (cond high (leaf true) rest))
  one_more true true d f o' q = t≢f d
  one_more true false d f o' q = joined T G v (leaf true) rest tt r (stay T 1) (one-there T G) refl o e f o' q
  one_more false true d f o' q =
      joined T G v rest (leaf true) r tt o e f (stay o.table 1) (one-there o.table (grown T G rest r o e).good) refl o' q
  one_more false false d f o' q =
      let W : Grown T rest o = grown T G rest r o e in
      joined T G v rest rest r r o e f (stay o.table o.node)
      (sym (there o.table W.good o.node W.inside) ∙ ap (place_in o.table) (W.is f)) refl o' q

-- ---- the turns

-- What is left at the start of the turn of variable v: the clause of the variables above v is placed.
pub record Making (T : Table) (u : Literals) (v : ℕ) (o : Outcome) : Type 0 where
  pub most : v ≤ 64
  pub going : o.full ≡ false
  pub good : Good o.table
  pub same_size : size o.table ≡ size T
  pub is : o ≡ place_in T (clause_words u (64 - v) (suc v))

-- What the turn of variable v comes to.
pub record Turn (T : Table) (u : Literals) (v : ℕ) (o : Outcome) : Type 0 where
  pub next : o.full ≡ false → Making T u (v - 1) o
  pub last : o.full ≡ true → o ≡ place_in T (clause_of_words u)

module _ (T : Table) (G : Good T) (u : Literals) where
  abbrev p : ℕ
  p = u.positive

  abbrev n : ℕ
  n = u.negative

  -- variable 1 comes first, so that a clause of later variables is one over all
  from_one : (k i : ℕ) → suc i + k ≡ 65 → Reduced 1 65 (clause_words u k (suc i))
  from_one k i e = reduced-from 1 (suc i) 65 (clause_words u k (suc i)) (omega arith) (words-reduced u k (suc i) e)

  made-so-far : (v : ℕ) → v ≤ 64 → (o : Outcome) → o.full ≡ false → o ≡ place_in T (clause_words u (64 - v) (suc v)) → Making T u v o
  made-so-far v most o f e =
      let W : Grown T (clause_words u (64 - v) (suc v)) o = grown T G (clause_words u (64 - v) (suc v)) (from_one (64 - v) v (omega arith))
      o
      e in
      record { most = most; going = f; good = W.good; same_size = W.same_size; is = e }

  pub make-start : Making T u 64 (stay T 0)
  unfolding clause_from
  make-start = made-so-far 64 (omega arith) (stay T 0) refl (zero-there T G)

  pub make-end : (v : ℕ) → v ≤ 0 → (o : Outcome) → Making T u v o → o ≡ place_in T (clause_of_words u)
  make-end v le o M =
      let z : v ≡ 0 = omega arith in
      M.is ∙ ap (λ (x : ℕ). place_in T (clause_words u (64 - x) (suc x))) z ∙ ap (place_in T) (sym (words_are u))

  pub make-both : shares 64 p n ≡ true → stay T 1 ≡ place_in T (clause_of_words u)
  make-both e = one-there T G ∙ ap (place_in T) (sym (both-signs u e))

  module _ (apart : shares 64 p n ≡ false) where
    -- without room once, without room to the end
    full-on : (i k : ℕ) → suc i + k ≡ 65 → (o : Outcome) → o.full ≡ true → o ≡ place_in T (clause_words u k (suc i)) → o
        ≡ place_in T (clause_words u 64 1)
    unfolding clause_from
    full-on zero k q o f e = let z : k ≡ 64 = omega arith in e ∙ ap (λ (x : ℕ). place_in T (clause_words u x 1)) z
    full-on (suc i) k q o f e =
        full-on i (suc k) (omega arith) o f
        (no-room-yet T G (suc i) (clause_words u k (suc (suc i))) (from_one k (suc i) q) o e (in_word n (suc i)) (in_word p (suc i))
        (one-sign u apart (suc i) (omega arith) (omega arith)) f)

    module _ (v : ℕ) (some : 0 < v) (o : Outcome) (M : Making T u v o) (l h : ℕ) (low : l ≡ cond (in_word n v) 1 o.node)
        (high : h ≡ cond (in_word p v) 1 o.node)
        (o' : Outcome) (put : o' ≡ put_in o.table v l h) where
      pub next-is : o' ≡ place_in T (clause_words u (64 - (v - 1)) (suc (v - 1)))
      unfolding clause_from
      next-is =
          let z : 64 - (v - 1) ≡ suc (64 - v) = omega (arith, M.most) in
          let y : suc (v - 1) ≡ v = omega arith in
          rw (z, y)
          (one_more T G v (clause_words u (64 - v) (suc v)) (from_one (64 - v) v (omega (arith, M.most))) o M.is (in_word n v)
          (in_word p v) (one-sign u apart v (omega arith) M.most)
          M.going o' (rw (low, high) at put))

      -- with room the next turn starts, without it the clause finds none
      pub make-turn : Turn T u v o'
      make-turn =
          record {
            next = λ f. made-so-far (v - 1) (omega (arith, M.most)) o' f next-is;
            last = λ f. full-on (v - 1) (64 - (v - 1)) (omega (arith, M.most)) o' f next-is ∙ ap (place_in T) (sym (words_are u));
          }
