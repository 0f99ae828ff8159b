-- What the reader takes for clauses, to the end and with nothing refused, is printed by clauses of the grammar. The idea: each answer of
-- the reader is traced back to the bytes that it passed. Assumes nothing.
use mathlib.Core.Path.{◌≡◌, refl, ap, ap₂, sym, subst, ◌∙◌}
use mathlib.Core.Bool.{Bool, true, false, cond}
use mathlib.Core.List.{List, [], ◌∷◌, ◌++◌}
use Prim.Native.Nat.{ℕ, zero, suc, ◌+◌, ◌-◌, ◌≤◌, ◌<◌}
use native.Mathlib.Omega.{arith}
use lib.ListN.{length, drop, drop_of_length-le}
use lib.Seq.{slice}
use lib.Dec.{ltb}
use borrow.Author.Tests.{ltb-true, ltb-false}
use Rattle.meaning.specs.Operations as meaning
use Rattle.dimacs.specs.Numbers.{Token, Closing, Literal, Wrong}
use Rattle.dimacs.specs.Text.{is_token, token_end, between}
use Rattle.dimacs.specs.Clauses.{Next, closed, ended, refused, literal_then, after_token, clause_from, next_clause, clause as and_next}
use Rattle.dimacs.specs.Clauses.{complete}
use Rattle.dimacs.specs.Clauses.{reading_then, clauses_from}
use Rattle.dimacs.proofs.Cases.{by, clash}
use Rattle.dimacs.proofs.OpenClause.{token_at, next_at, clause-suc, clause-end}
use Rattle.dimacs.proofs.Formula.{clauses-closed, clauses-ended, clauses-refused}
use Rattle.grammar.specs.Parts.{Piece, gap, Parting, parting, Decimal, decimal_then, sign}
use Rattle.grammar.specs.Formula.{Item, clause, literals, plain, last_comment, Body, end, clause_then, body, clauses, Within, AllWithin}
use Rattle.grammar.specs.Reads.{Gives}
use Rattle.grammar.proofs.Places.{Stops, past_split, past-stops}
use Rattle.grammar.proofs.Numbers.{token-byte}
use Rattle.grammar.proofs.Tokens.{signed-then, closing-of, IsSigned, literal-of}
use Rattle.grammar.proofs.Gaps.{Between, parts, last, between-of}

-- ---- answers that clash

pub not-closed : (number place f next : ℕ) (ls : List meaning.Literal) {P : Type 0} → refused number place ≡ closed ls f next → P
not-closed number place f next ls e = let z : ◌≡◌ {A = ℕ} 0 1 = cc in absurd (omega arith)

ended-not : (f next : ℕ) (ls : List meaning.Literal) {P : Type 0} → ended ≡ closed ls f next → P
ended-not f next ls e = let z : ◌≡◌ {A = ℕ} 0 1 = cc in absurd (omega arith)

closed_same : (ls ms : List meaning.Literal) (f g m k : ℕ) → closed ls f m ≡ closed ms g k → (ls ≡ ms) × (m ≡ k)
closed_same ls ms f g m k e = (cc, cc)

-- What was read behind a literal of a clause that closes.
with-closed : (l : meaning.Literal) (x : Next) (ls : List meaning.Literal) (f next : ℕ) → literal_then l x ≡ closed ls f next
    → (ms : List meaning.Literal) × (x ≡ closed ms f next) × (l ∷ ms ≡ ls)
with-closed l (closed ms g k) ls f next e = (ms, cc, cc)
with-closed l ended ls f next e = ended-not f next ls e
with-closed l (refused number place) ls f next e = not-closed number place f next ls e

-- A clause starts with a token.
sign-starts : (b : Bool) (m : Decimal) (r : List ℕ) → Stops is_token (sign b (decimal_then m r)) → ⊥
sign-starts true m r h = clash (sym (token-byte (48 + m.first) (omega arith)) ∙ h)
sign-starts false m r h = clash h

pub clause-starts : (is : List Item) (r : List ℕ) → Stops is_token (clause is r) → ⊥
clause-starts [] r h = clash h
clause-starts (i ∷ is) r h = sign-starts i.said.is_positive i.said.magnitude (parting i.behind (clause is r)) h

-- ---- one clause

module _ (s : List ℕ) (n : ℕ) where
  -- The bytes from `at` to `next` are a clause of the grammar, and no token's byte follows.
  pub record ClauseOf (at next : ℕ) (ls : List meaning.Literal) : Type 0 where
    pub items : List Item
    pub is : drop at s ≡ clause items (drop next s)
    pub are : literals items ≡ ls
    pub within : Within n ls
    pub stops : Stops is_token (drop next s)

  -- A gap before a clause is not empty where a token has just ended.
  pub some-gap : (at : ℕ) (items : List Item) (r : List ℕ) → Stops is_token (drop at s) → drop (between s at) s ≡ clause items r
      → (g : List Piece) → drop at s ≡ gap g (drop (between s at) s) → (p : Parting) × (drop at s ≡ parting p (clause items r))
  some-gap at items r h e [] q = absurd (clause-starts items r (subst (Stops is_token) (q ∙ e) h))
  some-gap at items r h e (p ∷ g) q = (record { first = p; more = g }, q ∙ ap (gap (p ∷ g)) e)

  closing-found : (at : ℕ) → token_at s n at ≡ Closing → ClauseOf at (token_end s at) []
  closing-found at q = record {
    items = [];
    is = past_split s at is_token ∙ ap (λ (l : List ℕ). l ++ drop (token_end s at) s) (closing-of n (slice at (token_end s at) s) q);
    are = refl;
    within = tt;
    stops = past-stops s at is_token;
  }

  module _ (at next v : ℕ) (b : Bool) (ms : List meaning.Literal) (q : token_at s n at ≡ Literal v b)
      (C : ClauseOf (next_at s n at) next ms)
    where
      abbrev found : IsSigned n (slice at (token_end s at) s) v b
      found = literal-of n (slice at (token_end s at) s) v b q

      literal-found : (g : List Piece) → drop (token_end s at) s ≡ gap g (drop (between s (token_end s at)) s)
          → ClauseOf at next (record { variable = v; positive = b } ∷ ms)
      literal-found g e =
          let x = found.tree in
          let p = some-gap (token_end s at) C.items (drop next s) (past-stops s at is_token) C.is g e in
          let w : v ≤ n = subst (λ l. l.variable ≤ n) found.says found.within in
          record {
            items = record { said = x; behind = p.0 } ∷ C.items;
            is = past_split s at is_token ∙ ap₂ (λ (l r : List ℕ). l ++ r) (sym found.is) p.1
                ∙ sym (signed-then x (parting p.0 (clause C.items (drop next s))));
            are = ap₂ (λ (l : meaning.Literal) (ls : List meaning.Literal). l ∷ ls) found.says C.are;
            within = (w, C.within);
            stops = C.stops;
          }

  -- What the rest of a clause gives, once its first token is read.
  abbrev Rest : ℕ → ℕ → ℕ → ℕ → ℕ → Type 0
  Rest k first at f next = (ms : List meaning.Literal) → clause_from s n k first at ≡ closed ms f next → ClauseOf at next ms

  module _ (k first at f next : ℕ) (ls : List meaning.Literal) (ih : Rest k first (next_at s n at) f next) where
    literal-step : (v : ℕ) (b : Bool) → token_at s n at ≡ Literal v b
        → literal_then (record { variable = v; positive = b }) (clause_from s n k first (next_at s n at)) ≡ closed ls f next →
        ClauseOf at next ls
    literal-step v b q e =
        let rest = with-closed (record { variable = v; positive = b }) (clause_from s n k first (next_at s n at)) ls f next e in
        let go : Between s (token_end s at) → ClauseOf at next (record { variable = v; positive = b } ∷ rest.0) = λ w. elim w [
          | parts g h ↦ literal-found at next v b rest.0 q (ih rest.0 rest.1) g h
          | last g cs c h none ↦ not-closed 6 first f next rest.0 (sym (clause-end s n k first (next_at s n at) none) ∙ rest.1)
        ] in
        subst (ClauseOf at next) rest.2 (go (between-of s (token_end s at) (past-stops s at is_token)))

    token-step : (t : Token) → token_at s n at ≡ t → after_token t first at (token_end s at) (clause_from s n k first (next_at s n at))
        ≡ closed ls f next
        → ClauseOf at next ls
    token-step Closing q e =
        let same = closed_same [] ls first f (token_end s at) next e in
        subst (ClauseOf at next) same.0 (subst (λ m. ClauseOf at m []) same.1 (closing-found at q))
    token-step (Wrong number) q e = not-closed number at f next ls e
    token-step (Literal v b) q e = literal-step v b q e

  clause-none : (first at f next : ℕ) (ls : List meaning.Literal) {P : Type 0} → clause_from s n zero first at ≡ closed ls f next → P
  unfolding clause_from
  clause-none first at f next ls e = not-closed 6 first f next ls e

  pub clause-of : (k first at f next : ℕ) (ls : List meaning.Literal) → clause_from s n k first at ≡ closed ls f next → ClauseOf at next ls
  clause-of zero first at f next ls e = clause-none first at f next ls e
  clause-of (suc k) first at f next ls e =
      by (ltb at (length s))
      (λ t. token-step k first at f next ls (λ ms q. clause-of k first (next_at s n at) f next ms q) (token_at s n at) refl
      (sym (clause-suc s n k first at (ltb-true at (length s) t)) ∙ e))
      (λ t. not-closed 6 first f next ls (sym (clause-end s n (suc k) first at (ltb-false at (length s) t)) ∙ e))

  -- ---- all clauses

  pub record BodyOf (at : ℕ) (cs : List (List meaning.Literal)) : Type 0 where
    pub tree : Body
    pub is : drop at s ≡ body tree
    pub are : clauses tree ≡ cs
    pub within : AllWithin n cs

  none_left : (at : ℕ) → Gives [] (clauses_from s n zero at) → length s ≤ between s at
  unfolding clauses_from
  none_left at g = go (ltb (between s at) (length s)) refl g
    where
      go : (t : Bool) → ltb (between s at) (length s) ≡ t → Gives []
          (reading_then (cond t (refused 5 (between s at)) ended) (λ next. complete)) → length s ≤ between s at
      go true e h = absurd h
      go false e h = ltb-false (between s at) (length s) e

  end_of : (at : ℕ) → length s ≤ between s at → Between s at → BodyOf at []
  end_of at h (parts g e) = record { tree = end (plain g); is = e ∙ ap (gap g) (drop_of_length-le s h); are = refl; within = tt }
  end_of at h (last g cs c e none) = record { tree = end (last_comment g cs c); is = e; are = refl; within = tt }

  -- A clause that comes next is of the grammar, with what parts it from the token before.
  next_of : (left at f next : ℕ) (ls : List meaning.Literal) → next_clause s n (suc left) at ≡ closed ls f next
      → (between s at < length s) × ClauseOf (between s at) next ls
  unfolding next_clause
  next_of left at f next ls e =
      let first = between s at in
      by (ltb first (length s))
      (λ t. (ltb-true first (length s) t, clause-of (length s - first) first first f next ls (sym (rw t) ∙ e)))
      (λ t. not-closed 5 (length s) f next ls (sym (rw t) ∙ e))

  clause-before : (at next : ℕ) (ls : List meaning.Literal) (cs : List (List meaning.Literal)) → Stops is_token (drop at s) →
      between s at < length s
      → ClauseOf (between s at) next ls → BodyOf next cs → Between s at → BodyOf at (ls ∷ cs)
  clause-before at next ls cs h lt C B (last g ks c e none) = absurd (omega arith)
  clause-before at next ls cs h lt C B (parts g e) =
      let p = some-gap at C.items (drop next s) h C.is g e in
      record {
        tree = clause_then p.0 C.items B.tree;
        is = p.1 ∙ ap (λ (r : List ℕ). parting p.0 (clause C.items r)) B.is;
        are = ap₂ (λ (x : List meaning.Literal) (y : List (List meaning.Literal)). x ∷ y) C.are B.are;
        within = (C.within, B.within);
      }

  body-step : (at : ℕ) (c : List meaning.Literal) (cs : List (List meaning.Literal)) → Stops is_token (drop at s)
      → ((next : ℕ) → Stops is_token (drop next s) → Gives cs (clauses_from s n (length cs) next) → BodyOf next cs)
      → (x : Next) → next_clause s n (suc (length cs)) at ≡ x → Gives (c ∷ cs) (clauses_from s n (suc (length cs)) at) → BodyOf at (c ∷ cs)
  body-step at c cs h ih (closed ls f next) e g =
      let m = length cs in
      let one : suc m - 1 ≡ m = omega arith in
      let k : (ls ≡ c) × Gives cs (clauses_from s n m next) =
      subst (Gives (c ∷ cs)) (clauses-closed s n (suc m) at ls f next e ∙ ap (λ (i : ℕ). and_next ls f (clauses_from s n i next)) one) g in
      let found = next_of m at f next ls e in
      subst (λ l. BodyOf at (l ∷ cs)) k.0
      (clause-before at next ls cs h found.0 found.1 (ih next found.1.stops k.1) (between-of s at h))
  body-step at c cs h ih ended e g = absurd (subst (Gives (c ∷ cs)) (clauses-ended s n (suc (length cs)) at e) g)
  body-step at c cs h ih (refused number place) e g = absurd
      (subst (Gives (c ∷ cs)) (clauses-refused s n (suc (length cs)) at number place e) g)

  -- What is read to the end is the text of those clauses.
  pub body_of : (cs : List (List meaning.Literal)) (at : ℕ) → Stops is_token (drop at s) → Gives cs (clauses_from s n (length cs) at) →
      BodyOf at cs
  body_of [] at h g = end_of at (none_left at g) (between-of s at h)
  body_of (c ∷ cs) at h g = body-step at c cs h (λ next k j. body_of cs next k j) (next_clause s n (suc (length cs)) at) refl g
