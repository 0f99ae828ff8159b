-- An accepted path line follows from the members. The idea: an assignment that satisfies the members and makes the line 0 goes along one of
-- the paths to 0, and the members cofactored by that path's literals keep their values there. Assumes nothing.
use mathlib.Core.Path.{◌≡◌, refl, sym, ap, ◌∙◌, subst}
use mathlib.Core.Logic.{◌⊎◌, inl, inr}
use mathlib.Core.Bool.{Bool, true, false, cond}
use mathlib.Core.List.{List, [], ◌∷◌, ◌++◌, map}
use Prim.Native.Nat.{ℕ, suc, ◌-◌}
use native.Mathlib.Omega.{arith}
use lib.ListN.{length, get_or}
use lib.Seq.{ext_get_or}
use Rattle.meaning.specs.Diagram.{Assignment, holds, Diagram, leaf, node, value_from, value}
use Rattle.meaning.specs.Operations.{Literal, forced, cofactor_literals}
use Rattle.meaning.specs.Rules.{unit_prop, after_turn}
use Rattle.meaning.proofs.Booleans.{t≢f, and_both}
use Rattle.meaning.proofs.Pointwise.{forced-length, forced-at, literals-value}
use Rattle.clausal.specs.Literals.{literal, has}
use Rattle.clausal.specs.Tries.{makes_true, makes_false}
use Rattle.clausal.proofs.Literals.{has-cases}
use Rattle.meaning.proofs.Soundness.{Satisfies, unit_prop-sound}
use Rattle.paths.specs.Paths.{paths, by_path, path_turns, path_line}

-- The literals' values under a are all true.
abbrev pub Along : Assignment → List Literal → Type 0
Along a [] = Unit {0}
Along a (l ∷ ls) = (holds a l.variable ≡ l.positive) × Along a ls

-- One of the paths goes along a.
abbrev pub Goes : Assignment → List (List Literal) → Type 0
Goes a [] = ⊥
Goes a (c ∷ cs) = Along a c ⊎ Goes a cs

goes_left : (a : Assignment) (cs ds : List (List Literal)) → Goes a cs → Goes a (cs ++ ds)
goes_left a [] ds g = absurd g
goes_left a (c ∷ cs) ds (inl x) = inl x
goes_left a (c ∷ cs) ds (inr g) = inr (goes_left a cs ds g)

goes-right : (a : Assignment) (cs ds : List (List Literal)) → Goes a ds → Goes a (cs ++ ds)
goes-right a [] ds g = g
goes-right a (c ∷ cs) ds g = inr (goes-right a cs ds g)

goes_through : (a : Assignment) (l : Literal) (cs : List (List Literal)) → holds a l.variable ≡ l.positive → Goes a cs →
    Goes a (map (◌∷◌ l) cs)
goes_through a l [] e g = absurd g
goes_through a l (c ∷ cs) e (inl x) = inl (e, x)
goes_through a l (c ∷ cs) e (inr g) = inr (goes_through a l cs e g)

-- where a diagram is 0, a path to 0 goes along
pub path-along : (g : Diagram) (a : Assignment) → value g a ≡ false → Goes a (paths g)
unfolding paths value_from
path-along (leaf true) a e = t≢f e
path-along (leaf false) a e = inl tt
path-along (node v l h) a e = go (holds a v) refl e (path-along l a) (path-along h a)
  where
    L : List (List Literal)
    L = map (◌∷◌ (literal v false)) (paths l)

    H : List (List Literal)
    H = map (◌∷◌ (literal v true)) (paths h)

    go : (b : Bool) → holds a v ≡ b → cond b (value h a) (value l a) ≡ false → (value l a ≡ false → Goes a (paths l)) →
        (value h a ≡ false → Goes a (paths h)) → Goes a (paths (node v l h))
    go false p e low high = goes_left a L H (goes_through a (literal v false) (paths l) p (low e))
    go true p e low high = goes-right a L H (goes_through a (literal v true) (paths h) p (high e))

-- an assignment along which the literals go is not changed by them
has-holds : (a : Assignment) (c : List Literal) (l : Literal) → Along a c → has c l ≡ true → holds a l.variable ≡ l.positive
unfolding has
has-holds a [] l g e = t≢f (sym e)
has-holds a (k ∷ ls) l g e =
    has-cases k ls l e (λ x. subst (λ (m : Literal). holds a m.variable ≡ m.positive) x g.0) (has-holds a ls l g.1)

along-stays : (a : Assignment) (c : List Literal) → Along a c → forced (makes_true c) (makes_false c) 1 a ≡ a
along-stays a c g = ext_get_or false (forced P N 1 a) a (forced-length P N 1 a) λ j lt.
    let z : suc j - 1 ≡ j = omega arith in
    (rw z at (forced-at P N 1 a (suc j) (omega arith) (omega (arith, forced-length P N 1 a))))
    ∙ go (P (suc j)) (N (suc j)) (get_or a j false) (λ e. rw z at (has-holds a c (literal (suc j) true) g e))
    (λ e. rw z at (has-holds a c (literal (suc j) false) g e))
  where
    P : ℕ → Bool
    P v = makes_true c v

    N : ℕ → Bool
    N v = makes_false c v

    go : (x y b : Bool) → (x ≡ true → b ≡ true) → (y ≡ true → b ≡ false) → cond x true (cond y false b) ≡ b
    go true y b p q = sym (p refl)
    go false true b p q = sym (q refl)
    go false false b p q = refl

-- members that an operation leaves as they are at an assignment
map-satisfies : (g : Diagram → Diagram) (ms : List Diagram) (a : Assignment) → ((f : Diagram) → value (g f) a ≡ value f a) →
    Satisfies a ms → Satisfies a (map g ms)
map-satisfies g [] a h s = tt
map-satisfies g (f ∷ fs) a h s = (h f ∙ s.0, map-satisfies g fs a h s.1)

-- no path of a shown line goes along an assignment that satisfies the members
turns-sound : (n : ℕ) (ms : List Diagram) (a : Assignment) → length a ≡ n → Satisfies a ms → (cs : List (List Literal)) →
    (path_turns n ms cs).shown ≡ true → Goes a cs → ⊥
unfolding path_turns after_turn
turns-sound n ms a len s [] e g = g
turns-sound n ms a len s (c ∷ cs) e g = go (and_both (unit_prop n (by_path n c ms)).conflict (path_turns n ms cs).shown e) g
    (turns-sound n ms a len s cs)
  where
    go : ((unit_prop n (by_path n c ms)).conflict ≡ true) × ((path_turns n ms cs).shown ≡ true) → Goes a (c ∷ cs) →
        ((path_turns n ms cs).shown ≡ true → Goes a cs → ⊥) → ⊥
    go b (inl along) ih = unit_prop-sound n (by_path n c ms) b.0 a len
        (map-satisfies (cofactor_literals n (makes_true c) (makes_false c)) ms a
        (λ f. literals-value n a len (makes_true c) (makes_false c) f ∙ ap (value f) (along-stays a c along)) s)
    go b (inr g) ih = ih b.1 g

-- THEOREM: an accepted path line follows from the members.
pub path-sound : (n : ℕ) (ms : List Diagram) (g : Diagram) → (path_line n ms g).shown ≡ true → (a : Assignment) → length a ≡ n →
    Satisfies a ms → value g a ≡ true
unfolding path_line
path-sound n ms g e a len s = go (value g a) refl
  where
    go : (b : Bool) → value g a ≡ b → value g a ≡ true
    go true p = p
    go false p = absurd (turns-sound n ms a len s (paths g) e (path-along g a p))
