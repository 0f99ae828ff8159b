-- RUP lines are shown or not whichever members each round takes and whatever the members' order, and are still shown where members are
-- added; PR lines and path lines are shown or not whatever the order. The idea: a line asks UnitProp of members that are each made from one
-- member. Assumes nothing.
use Rattle.paths.specs.Paths.{paths, by_path, path_turns, path_line}
use Rattle.clausal.specs.Tries.{makes_true, makes_false}
use Rattle.meaning.proofs.Pointwise.{literals-reduced}
use mathlib.Core.Path.{◌≡◌, refl, sym, ap, ◌∙◌}
use mathlib.Core.Logic.{◌⊎◌, inl, inr}
use mathlib.Core.Bool.{Bool, true, false, cond}
use mathlib.Core.List.{List, [], ◌∷◌}
use Prim.Native.Nat.{ℕ}
use Rattle.meaning.specs.Diagram.{Diagram, leaf, same}
use Rattle.meaning.specs.Operations.{negation, cofactor_literals, Literal}
use Rattle.meaning.specs.Rules.{unit_prop, by_diagram, rup, after_turn, pr_turns, pr}
use Rattle.meaning.proofs.Booleans.{t≢f, both_ways, and_both}
use Rattle.order.specs.Choices.{Among, Contained, Propagates}
use Rattle.order.proofs.Members.{within-map}
use Rattle.order.proofs.UnitProp.{own-way, any-choice, more-members}
use Rattle.meaning.proofs.Ends.{by_diagram-reduced, AllReduced, map-reduced}

-- ---- RUP

-- UnitProp's own choice is one of the ways.
pub rup-own-choice : (n : ℕ) (ms : List Diagram) (g : Diagram) → Propagates n (by_diagram n (negation n g) ms) (rup n ms g).rounds
    (rup n ms g).shown
unfolding rup
rup-own-choice n ms g = own-way n (by_diagram n (negation n g) ms) (by_diagram-reduced n (negation n g) ms)

pub rup-any-choice : (n : ℕ) (ms : List Diagram) (g : Diagram) (rounds : ℕ) (b : Bool) →
    Propagates n (by_diagram n (negation n g) ms) rounds b → b ≡ (rup n ms g).shown
unfolding rup
rup-any-choice n ms g rounds b R = any-choice n (by_diagram n (negation n g) ms) rounds b (by_diagram-reduced n (negation n g) ms) R

pub rup-more : (n : ℕ) (ms ms' : List Diagram) (g : Diagram) → Contained ms ms' → (rup n ms g).shown ≡ true → (rup n ms' g).shown ≡ true
unfolding rup
rup-more n ms ms' g w t =
    more-members n (by_diagram n (negation n g) ms) (by_diagram n (negation n g) ms') (by_diagram-reduced n (negation n g) ms)
    (by_diagram-reduced n (negation n g) ms') (within-map _ ms ms' w) t

pub rup-same : (n : ℕ) (ms ms' : List Diagram) (g : Diagram) → Contained ms ms' → Contained ms' ms → (rup n ms g).shown
    ≡ (rup n ms' g).shown
rup-same n ms ms' g w w' = both_ways _ _ (rup-more n ms ms' g w) (rup-more n ms' ms g w')

-- ---- PR

module _ (n : ℕ) (P N : ℕ → Bool) where
  abbrev second : List Diagram → Diagram → List Diagram
  second ms f = by_diagram n (negation n (cofactor_literals n P N f)) ms

  -- The member's turn passes, ms being all members by not-g.
  abbrev Passes : List Diagram → Diagram → Type 0
  Passes ms f = (same (cofactor_literals n P N f) (leaf true) ≡ true) ⊎ ((unit_prop n (second ms f)).conflict ≡ true)

  turns-pass : (ms fs : List Diagram) → (pr_turns n P N ms fs).shown ≡ true → (f : Diagram) → Among f fs → Passes ms f
  unfolding pr_turns after_turn
  turns-pass ms [] e f i = absurd i
  turns-pass ms (h ∷ fs) e f i = go (same (cofactor_literals n P N h) (leaf true)) refl e i (turns-pass ms fs)
    where
      go : (b : Bool) → same (cofactor_literals n P N h) (leaf true) ≡ b
          → (cond b (pr_turns n P N ms fs) (after_turn (unit_prop n (second ms h))
          (cofactor_literals n P N h ∷ negation n (cofactor_literals n P N h) ∷ second ms h) (pr_turns n P N ms fs))).shown ≡ true
          → (f ≡ h) ⊎ Among f fs → ((pr_turns n P N ms fs).shown ≡ true → (f : Diagram) → Among f fs → Passes ms f) → Passes ms f
      go true s e (inl q) ih = inl (ap (λ (x : Diagram). same (cofactor_literals n P N x) (leaf true)) q ∙ s)
      go true s e (inr i) ih = ih e f i
      go false s e (inl q) ih = inr (ap (λ (x : Diagram). (unit_prop n (second ms x)).conflict) q
          ∙ (and_both (unit_prop n (second ms h)).conflict (pr_turns n P N ms fs).shown e).0)
      go false s e (inr i) ih = ih (and_both (unit_prop n (second ms h)).conflict (pr_turns n P N ms fs).shown e).1 f i

  pass-turns : (ms fs : List Diagram) → ((f : Diagram) → Among f fs → Passes ms f) → (pr_turns n P N ms fs).shown ≡ true
  unfolding pr_turns after_turn
  pass-turns ms [] all = refl
  pass-turns ms (h ∷ fs) all = go (same (cofactor_literals n P N h) (leaf true)) refl (all h (inl refl))
      (pass-turns ms fs (λ f i. all f (inr i)))
    where
      go : (b : Bool) → same (cofactor_literals n P N h) (leaf true) ≡ b → Passes ms h → (pr_turns n P N ms fs).shown ≡ true
          → (cond b (pr_turns n P N ms fs) (after_turn (unit_prop n (second ms h))
          (cofactor_literals n P N h ∷ negation n (cofactor_literals n P N h) ∷ second ms h) (pr_turns n P N ms fs))).shown ≡ true
      go true s p ih = ih
      go false s (inl q) ih = t≢f (sym q ∙ s)
      go false s (inr q) ih = rw (q, ih)

  passes-within : (ms ms' : List Diagram) → Contained ms ms' → (f : Diagram) → Passes ms f → Passes ms' f
  passes-within ms ms' w f (inl q) = inl q
  passes-within ms ms' w f (inr q) = inr (more-members n (second ms f) (second ms' f) (by_diagram-reduced n _ ms)
      (by_diagram-reduced n _ ms')
      (within-map _ ms ms' w) q)

  -- Each member has its turn, so that both lists are needed: more members help a turn, but they have turns of their own.
  pr-kept : (ms ms' : List Diagram) (g : Diagram) → Contained ms ms' → Contained ms' ms → (pr n P N ms g).shown ≡ true →
      (pr n P N ms' g).shown ≡ true
  unfolding pr
  pr-kept ms ms' g w w' t =
      pass-turns (by_diagram n (negation n g) ms') ms' (λ f i.
      passes-within (by_diagram n (negation n g) ms) (by_diagram n (negation n g) ms') (within-map _ ms ms' w) f
      (turns-pass (by_diagram n (negation n g) ms) ms t f (w' f i)))

  pub pr-same : (ms ms' : List Diagram) (g : Diagram) → Contained ms ms' → Contained ms' ms → (pr n P N ms g).shown ≡ (pr n P N ms' g).shown
  pr-same ms ms' g w w' = both_ways _ _ (pr-kept ms ms' g w w') (pr-kept ms' ms g w' w)

-- ---- path lines

paths-more : (n : ℕ) (ms ms' : List Diagram) → Contained ms ms' → (cs : List (List Literal)) → (path_turns n ms cs).shown ≡ true →
    (path_turns n ms' cs).shown ≡ true
unfolding path_turns after_turn
paths-more n ms ms' w [] e = refl
paths-more n ms ms' w (c ∷ cs) e =
    let b : ((unit_prop n (by_path n c ms)).conflict ≡ true) × ((path_turns n ms cs).shown ≡ true) =
    and_both (unit_prop n (by_path n c ms)).conflict (path_turns n ms cs).shown e in
    rw (
      more-members n (by_path n c ms) (by_path n c ms') (by-reduced ms) (by-reduced ms')
          (within-map (cofactor_literals n (makes_true c) (makes_false c)) ms ms' w) b.0,
      paths-more n ms ms' w cs b.1,
    )
  where
    by-reduced : (xs : List Diagram) → AllReduced n (by_path n c xs)
    by-reduced xs = map-reduced n (cofactor_literals n (makes_true c) (makes_false c)) xs
        (λ f. literals-reduced n (makes_true c) (makes_false c) f)

pub path-more : (n : ℕ) (ms ms' : List Diagram) (g : Diagram) → Contained ms ms' → (path_line n ms g).shown ≡ true →
    (path_line n ms' g).shown
    ≡ true
unfolding path_line
path-more n ms ms' g w t = paths-more n ms ms' w (paths g) t

pub path-same : (n : ℕ) (ms ms' : List Diagram) (g : Diagram) → Contained ms ms' → Contained ms' ms → (path_line n ms g).shown
    ≡ (path_line n ms' g).shown
path-same n ms ms' g w w' = both_ways _ _ (path-more n ms ms' g w) (path-more n ms' ms g w')
