-- A conflict of clauses' diagrams, by rule (a), is one that clausal unit propagation comes to. The idea: two diagrams that are each other's
-- negations have one literal left each, opposite ones. Assumes nothing.
use mathlib.Core.Path.{◌≡◌, refl, sym, ap, ◌∙◌, subst}
use mathlib.Core.Logic.{◌≢◌}
use mathlib.Core.Bool.{Bool, true, false, not}
use mathlib.Core.List.{List, ◌∷◌, map}
use Prim.Native.Nat.{ℕ, ◌≤◌}
use native.Mathlib.Omega.{arith}
use lib.ListN.{length, replicate, length-replicate}
use Rattle.meaning.specs.Diagram.{Assignment, Diagram, leaf, same, value}
use Rattle.meaning.specs.Operations.{Literal}
use Rattle.meaning.specs.Operations as meaning
use Rattle.meaning.specs.Rules.{any, conflicts}
use Rattle.meaning.proofs.Booleans.{t≢f, not-not, or_cases}
use Rattle.meaning.proofs.Pointwise.{negation-value}
use Rattle.meaning.proofs.Units.{same-eq}
use Rattle.meaning.specs.Literals.{OfVariables}
use Rattle.clausal.specs.Drat.{In, Plain, all_false, Refutes, falsified, propagated, negation}
use Rattle.clausal.specs.Literals.{Clause, negated, alike, has}
use Rattle.clausal.proofs.Literals.{alike-eq, eq-alike, negated-twice, has_here, has_there, has_within, each-all_false}
use Rattle.clausal.proofs.Literals.{each-all_false_but, not-all_false, AllOfVariables, in_within}
use Rattle.clausal.proofs.Under.{under, making, making-length, making-true, making-other, under_some, under-false}
use Rattle.clausal.proofs.Rounds.{any-in}

-- ---- conflicts

module _ (n : ℕ) (α : List Literal) (plain : Plain α) (F : List Clause) (within : AllOfVariables n F) where
  -- two members that are each other's negations: one literal left each, opposite ones
  module _ (c d : Clause) (ic : In c F) (id : In d F)
      (opposite : (a : Assignment) → length a ≡ n → value (under n α c) a ≡ not (value (under n α d) a)) where
    wc : OfVariables n c
    wc = in_within n F c within ic

    wd : OfVariables n d
    wd = in_within n F d within id

    flipped : (a : Assignment) → length a ≡ n → value (under n α d) a ≡ not (value (under n α c) a)
    flipped a len = sym (not-not (value (under n α d) a)) ∙ ap not (sym (opposite a len))

    some-assignment : Assignment
    some-assignment = replicate n false

    some-long : length some-assignment ≡ n
    unfolding some-assignment
    some-long = length-replicate n false

    -- two literals that are not false, one of each, are opposite: else both diagrams are 1 somewhere
    facing : (l k : Literal) → has c l ≡ true → has α (negated l) ≡ false → has d k ≡ true → has α (negated k) ≡ false → l ≡ negated k
    facing l k hl fl hk fk = go (alike l (negated k)) refl
      where
        rl : (1 ≤ l.variable) × (l.variable ≤ n)
        rl = has_within n c l wc hl

        rk : (1 ≤ k.variable) × (k.variable ≤ n)
        rk = has_within n d k wd hk

        b₀ : Assignment
        b₀ = making k some-assignment

        b₀-long : length b₀ ≡ n
        b₀-long = making-length k some-assignment ∙ some-long

        b : Assignment
        b = making l b₀

        b-long : length b ≡ n
        b-long = making-length l b₀ ∙ b₀-long

        go : (x : Bool) → alike l (negated k) ≡ x → l ≡ negated k
        go true e = alike-eq l (negated k) e
        go false e =
            let ne : k ≢ negated l = λ q. t≢f (sym (eq-alike l (negated k) (sym (negated-twice l) ∙ ap negated (sym q))) ∙ e) in
            let tl : value (under n α c) b ≡ true = under_some n α plain c wc l hl fl b b-long
            (making-true l b₀ rl.0 (omega (arith, rl.1, b₀-long))) in
            let tk : value (under n α d) b ≡ true = under_some n α plain d wd k hk fk b b-long
            (making-other l k b₀ rl.0 rk.0 (omega (arith, rl.1, b₀-long)) ne
            (making-true k some-assignment rk.0 (omega (arith, rk.1, some-long)))) in
            t≢f (sym tl ∙ opposite b b-long ∙ ap not tk)

    opposed : Refutes F α
    opposed = go (all_false α c) refl (all_false α d) refl
      where
        step : (l k : Literal) → has c l ≡ true → has α (negated l) ≡ false → has d k ≡ true → has α (negated k) ≡ false → Refutes F α
        step l k hl fl hk fk = propagated c l ic hl (each-all_false_but α l c (λ j h ne. other j h ne (has α (negated j)) refl))
            (falsified d id (each-all_false (l ∷ α) d (λ j h. left j h (has α (negated j)) refl)))
          where
            other : (j : Literal) → has c j ≡ true → j ≢ l → (b : Bool) → has α (negated j) ≡ b → has α (negated j) ≡ true
            other j h ne true e = e
            other j h ne false e = absurd (ne (facing j k h e hk fk ∙ sym (facing l k hl fl hk fk)))

            left : (j : Literal) → has d j ≡ true → (b : Bool) → has α (negated j) ≡ b → has (l ∷ α) (negated j) ≡ true
            left j h true e = has_there l α (negated j) e
            left j h false e = subst (λ (m : Literal). has (l ∷ α) m ≡ true) (facing l j hl fl h e) (has_here l α)

        go : (x : Bool) → all_false α c ≡ x → (y : Bool) → all_false α d ≡ y → Refutes F α
        go true e y f = falsified c ic e
        go false e true f = falsified d id f
        go false e false f =
            let (l, hl, fl) = not-all_false α c e in
            let (k, hk, fk) = not-all_false α d f in
            step l k hl fl hk fk

  pub conflict-refutes : conflicts n (map (under n α) F) ≡ true → Refutes F α
  unfolding conflicts
  conflict-refutes e =
      or_cases (any (same (leaf false)) (map (under n α) F))
      (any (λ f. any (λ g. same f (meaning.negation n g)) (map (under n α) F)) (map (under n α) F)) e
      (λ x. let (c, i, z) = any-in (same (leaf false)) (under n α) F x in
      falsified c i (under-false n α plain c (in_within n F c within i) (sym (same-eq (leaf false) (under n α c) z))))
      (λ x. let (c, i, z) = any-in (λ f. any (λ g. same f (meaning.negation n g)) (map (under n α) F)) (under n α) F x in
      let (d, j, y) = any-in (λ g. same (under n α c) (meaning.negation n g)) (under n α) F z in
      opposed c d i j (λ a len. ap (λ (f : Diagram). value f a) (same-eq (under n α c) (meaning.negation n (under n α d)) y)
      ∙ negation-value n a len (under n α d)))
