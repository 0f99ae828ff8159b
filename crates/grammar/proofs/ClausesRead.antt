-- The clauses of a text of the grammar are read as those clauses, and nothing is refused. The idea: token by token, a gap behind each; the
-- bytes left are steps enough. Assumes nothing.
use mathlib.Core.Path.{◌≡◌, refl, ap, sym, subst, ◌∙◌}
use mathlib.Core.Bool.{Bool, true, false}
use mathlib.Core.List.{List, [], ◌∷◌, ◌++◌}
use Prim.Native.Nat.{ℕ, zero, suc, ◌+◌, ◌-◌, ◌≤◌, ◌<◌}
use native.Mathlib.Omega.{arith}
use lib.ListN.{length, drop}
use lib.Seq.{slice}
use borrow.Author.Tests.{lt-ltb, le-ltb, not-true}
use Rattle.meaning.specs.Operations as meaning
use Rattle.dimacs.specs.Text.{is_parting, is_token, token_end, between}
use Rattle.dimacs.specs.Numbers.{Token, Closing, Literal, token_of}
use Rattle.dimacs.specs.Clauses.{Next, closed, ended, literal_then, after_token, clause_from, next_clause, clause as and_next, clauses_from}
use Rattle.dimacs.proofs.Between.{between-least}
use Rattle.dimacs.proofs.OpenClause.{token_at, next_at, clause-suc, literal-moves}
use Rattle.dimacs.proofs.Formula.{clauses-closed, clauses-ended}
use Rattle.grammar.specs.Parts.{spaced, carriage, space, tab, Piece, blank, new_line, gap, Parting, parting, Decimal, decimal_then}
use Rattle.grammar.specs.Parts.{Signed, sign, signed, literal}
use Rattle.grammar.specs.Formula.{Item, clause, literals, Ending, plain, last_comment, ending, Body, end, clause_then, body, clauses}
use Rattle.grammar.specs.Formula.{Within, AllWithin}
use Rattle.grammar.specs.Reads.{Gives}
use Rattle.grammar.proofs.Places.{Stops, inside, past-part, past-rest}
use Rattle.grammar.proofs.Numbers.{token-byte}
use Rattle.grammar.proofs.Tokens.{signed-then, signed-token, signed-says, closing-says}
use Rattle.grammar.proofs.Gaps.{Fresh, gap-passed, ending-passed}

-- ---- where tokens start and end

piece-stops : (p : Piece) (g : List Piece) (r : List ℕ) → Stops is_token (gap (p ∷ g) r)
piece-stops (blank (spaced space)) g r = refl
piece-stops (blank (spaced tab)) g r = refl
piece-stops (blank carriage) g r = refl
piece-stops (new_line cs) g r = refl

pub parting-stops : (p : Parting) (r : List ℕ) → Stops is_token (parting p r)
parting-stops p r = piece-stops p.first p.more r

pub ending-stops : (e : Ending) → Stops is_token (ending e)
ending-stops (plain []) = tt
ending-stops (plain (p ∷ g)) = piece-stops p g []
ending-stops (last_comment [] cs c) = refl
ending-stops (last_comment (p ∷ g) cs c) = piece-stops p g _

body-stops : (b : Body) → Stops is_token (body b)
body-stops (end e) = ending-stops e
body-stops (clause_then p is b) = parting-stops p (clause is (body b))

sign-fresh : (b : Bool) (m : Decimal) (r : List ℕ) → Fresh (sign b (decimal_then m r))
sign-fresh true m r = (
  not-true (is_parting (48 + m.first)) (token-byte (48 + m.first) (omega arith)),
  λ e. absurd (omega (arith, m.most)),
)
sign-fresh false m r = (refl, λ e. absurd (omega arith))

pub clause-fresh : (is : List Item) (r : List ℕ) → Fresh (clause is r)
clause-fresh [] r = (refl, λ e. absurd (omega arith))
clause-fresh (i ∷ is) r = sign-fresh i.said.is_positive i.said.magnitude (parting i.behind (clause is r))

fresh-inside : (s : List ℕ) (at : ℕ) (is : List Item) (r l : List ℕ) → drop at s ≡ l → l ≡ clause is r → at < length s
fresh-inside s at [] r l e q = inside s at 48 r (e ∙ q)
fresh-inside s at (i ∷ is) r l e q = go i.said.is_positive (e ∙ q)
  where
    go : (b : Bool) → drop at s ≡ sign b (decimal_then i.said.magnitude (parting i.behind (clause is r))) → at < length s
    go true h = inside s at _ _ h
    go false h = inside s at _ _ h

-- ---- one clause

module _ (s : List ℕ) (n : ℕ) where
  pub clause-inside : (at : ℕ) (is : List Item) (r : List ℕ) → drop at s ≡ clause is r → at < length s
  clause-inside at is r e = fresh-inside s at is r (clause is r) e refl

  -- The clause ls from `at` on closes, and the bytes r are left.
  abbrev pub Closes : List meaning.Literal → ℕ → ℕ → ℕ → List ℕ → Type 0
  Closes ls k first at r = (next : ℕ) × (clause_from s n k first at ≡ closed ls first next) × (drop next s ≡ r)

  closing-read : (r : List ℕ) (k first at : ℕ) → drop at s ≡ 48 ∷ r → Stops is_token r → Closes [] (suc k) first at r
  closing-read r k first at e h =
      let here : slice at (token_end s at) s ≡ 48 ∷ [] = past-part s at is_token (48 ∷ []) r e (refl, tt) h in
      let said : token_at s n at ≡ Closing = ap (token_of n) here ∙ closing-says n in (
        token_end s at,
        clause-suc s n k first at (inside s at 48 r e)
            ∙ ap (λ (t : Token). after_token t first at (token_end s at) (clause_from s n k first (next_at s n at))) said,
        past-rest s at is_token (48 ∷ []) r e (refl, tt) h,
      )

  module _ (x : Signed) (p : Parting) (is : List Item) (r : List ℕ) (at : ℕ) (within : (literal x).variable ≤ n) where
    module _ (e : drop at s ≡ signed x (parting p (clause is r))) where
      split : drop at s ≡ signed x [] ++ parting p (clause is r)
      split = e ∙ signed-then x (parting p (clause is r))

      said : token_at s n at ≡ Literal (literal x).variable x.is_positive
      said =
          ap (token_of n) (past-part s at is_token (signed x []) (parting p (clause is r)) split (signed-token x)
          (parting-stops p (clause is r)))
          ∙ signed-says n x within

      literal-next : drop (next_at s n at) s ≡ clause is r
      literal-next =
          gap-passed s (p.first ∷ p.more) (clause is r) (token_end s at)
          (past-rest s at is_token (signed x []) (parting p (clause is r)) split (signed-token x) (parting-stops p (clause is r)))
          (clause-fresh is r)

      -- The rest of the clause is read behind its literal.
      literal-read : (k first : ℕ) → at < length s → ((at < next_at s n at) → Closes (literals is) k first (next_at s n at) r)
          → Closes (literal x ∷ literals is) (suc k) first at r
      literal-read k first lt ih =
          let moved : at < token_end s at = literal-moves s n at (token_end s at) (literal x).variable x.is_positive lt refl said in
          let later = ih (omega (arith, moved, between-least s (token_end s at))) in (
            later.0,
            clause-suc s n k first at lt
                ∙ ap (λ (t : Token). after_token t first at (token_end s at) (clause_from s n k first (next_at s n at))) said
                ∙ ap (λ (y : Next). literal_then (literal x) y) later.1,
            later.2,
          )

  pub clause-read : (is : List Item) (r : List ℕ) (k first at : ℕ) → length s ≤ at + k → drop at s ≡ clause is r → Within n (literals is)
      → Stops is_token r → Closes (literals is) k first at r
  clause-read is r zero first at h e w t = absurd (omega (arith, clause-inside at is r e))
  clause-read [] r (suc k) first at h e w t = closing-read r k first at e t
  clause-read (i ∷ is) r (suc k) first at h e w t =
      literal-read i.said i.behind is r at w.0 e k first (clause-inside at (i ∷ is) r e)
      (λ lt. clause-read is r k first (next_at s n at) (omega arith) (literal-next i.said i.behind is r at w.0 e) w.1 t)

  -- ---- all clauses

  next-closed : (left at : ℕ) (p : Parting) (is : List Item) (r : List ℕ) → drop at s ≡ parting p (clause is r) → Within n (literals is)
      → Stops is_token r → (next : ℕ) × (next_clause s n (suc left) at ≡ closed (literals is) (between s at) next) × (drop next s ≡ r)
  unfolding next_clause
  next-closed left at p is r e w t =
      let first = between s at in
      let here : drop first s ≡ clause is r = gap-passed s (p.first ∷ p.more) (clause is r) at e (clause-fresh is r) in
      let later = clause-read is r (length s - first) first first (omega arith) here w t in
      (later.0, rw (lt-ltb first (length s) (clause-inside first is r here)) later.1, later.2)

  next-ended : (at : ℕ) → length s ≤ between s at → next_clause s n zero at ≡ ended
  unfolding next_clause
  next-ended at h = rw (le-ltb (between s at) (length s) h)

  -- The clauses of a text of the grammar are read, in their order, and nothing is refused.
  pub body-read : (b : Body) (at : ℕ) → drop at s ≡ body b → AllWithin n (clauses b) →
      Gives (clauses b) (clauses_from s n (length (clauses b)) at)
  body-read (end e) at h w = subst (Gives []) (sym (clauses-ended s n 0 at (next-ended at (ending-passed s e at h)))) tt
  body-read (clause_then p is b) at h w =
      let m = length (clauses b) in
      let here = next-closed m at p is (body b) h w.0 (body-stops b) in
      let one : suc m - 1 ≡ m = omega arith in
      subst (Gives (literals is ∷ clauses b))
      (sym (clauses-closed s n (suc m) at (literals is) (between s at) here.0 here.1
      ∙ ap (λ (k : ℕ). and_next (literals is) (between s at) (clauses_from s n k here.0)) one))
      (refl, body-read b here.0 here.2 w.1)
