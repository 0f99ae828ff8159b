-- An open clause read token by token, in either form: what is to be read is what is left to be read, behind each literal. The idea: a
-- literal's token is its own text, so that its end is known by the literal; groups have bytes. Assumes nothing.
use mathlib.Core.Path.{◌≡◌, refl, sym, ap, ◌∙◌, subst}
use mathlib.Core.Bool.{Bool, true, false, cond}
use mathlib.Core.List.{List, [], ◌∷◌}
use Prim.Native.Nat.{ℕ, suc, ◌+◌, ◌-◌, ◌/◌, ◌%◌, ◌≤◌, ◌<◌}
use native.Mathlib.Omega.{arith}
use lib.ListN.{length, drop, length-append}
use lib.Seq.{slice, length-slice}
use lib.Dec.{eqb, ltb}
use Rattle.dimacs.specs.Numbers.{Token, Closing, Literal, Wrong}
use Rattle.dimacs.specs.Text.{is_token, token_end, between}
use Rattle.dimacs.specs.Clauses.{Next, closed, refused, literal_then, after_token, clause_from}
use Rattle.dimacs.proofs.Runs.{past-most}
use Rattle.dimacs.proofs.Between.{between-least}
use Rattle.dimacs.proofs.OpenClause.{token_at, next_at, clause-end, clause-suc, clause-fuel}
use Rattle.commands.specs.declared.binary.GroupsRead.{GroupsRead}
use Rattle.commands.specs.Commands.{Groups, cut, groups, groups_in, groups_token, after_groups, binary_from}
use Rattle.std.specs.Prelude.{Option, None, Some, Ok, Err}
use Rattle.dimacs.specs.declared.Literal as code_literal
use Rattle.commands.specs.Inner.{Said, groups_said, groups_read, fault_place}
use Rattle.commands.proofs.Groups.{token-by}
use Rattle.commands.proofs.OpenGroups.{binary-end, binary-suc, binary-fuel, IsLiteral, literal-in-said, end-is, closing-is, wrong-is, literal-is}
use Rattle.convert.specs.Convert.{digits_of, token_text}
use Rattle.convert.specs.Inner.{literal_made}
use Rattle.convert.proofs.Plain.{Owned, OwnedBy, token-own}

-- ---- text

token-some : (v : ℕ) (b : Bool) → 1 ≤ length (token_text (literal_made v b))
token-some v b = omega (arith, length-append (cond b [] (45 ∷ [])) (digits_of v), go (ltb v 10))
  where
    go : (t : Bool) → 1 ≤ length (cond t ((48 + v) ∷ []) ((48 + v / 10) ∷ (48 + v % 10) ∷ []))
    go true = omega arith
    go false = omega arith

abbrev pub text_rest : List ℕ → ℕ → ℕ → Next
text_rest s first at = clause_from s 64 (length s - at) first at

module _ (s : List ℕ) (first at : ℕ) where
  pub text-open : length s ≤ at → text_rest s first at ≡ refused 6 first
  text-open h = clause-end s 64 (length s - at) first at h

  module _ (inside : at < length s) where
    long : length (slice at (token_end s at) s) ≡ token_end s at - at
    long = length-slice at (token_end s at) s (past-most is_token s at (omega arith))

    here : text_rest s first at ≡ after_token (token_at s 64 at) first at (token_end s at)
        (clause_from s 64 (length s - (at + 1)) first (next_at s 64 at))
    here =
        let steps : length s - at ≡ suc (length s - (at + 1)) = omega arith in
        ap (λ (k : ℕ). clause_from s 64 k first at) steps ∙ clause-suc s 64 (length s - (at + 1)) first at inside

    after : (t : Token) → token_at s 64 at ≡ t → text_rest s first at ≡ after_token t first at (token_end s at)
        (clause_from s 64 (length s - (at + 1)) first (next_at s 64 at))
    after t e = here ∙ ap (λ (x : Token). after_token x first at (token_end s at)
        (clause_from s 64 (length s - (at + 1)) first (next_at s 64 at))) e

    own : (t : Token) → token_at s 64 at ≡ t → OwnedBy (slice at (token_end s at) s) t
    own t e = subst (OwnedBy (slice at (token_end s at) s)) e (token-own (slice at (token_end s at) s))

    pub text-closing : token_at s 64 at ≡ Closing → text_rest s first at ≡ closed [] first (at + 1)
    text-closing e =
        let one : 1 ≡ token_end s at - at = sym (ap length (own Closing e)) ∙ long in
        let end : token_end s at ≡ at + 1 = omega (arith, one) in
        after Closing e ∙ ap (closed [] first) end

    pub text-wrong : (k : ℕ) → token_at s 64 at ≡ Wrong k → text_rest s first at ≡ refused k at
    text-wrong k e = after (Wrong k) e

    -- the end of a literal's token
    pub record TextLiteral (v : ℕ) (b : Bool) (end : ℕ) : Type 0 where
      pub moves : at < end
      pub within : end ≤ length s
      pub goes : text_rest s first at ≡ literal_then (literal_made v b) (text_rest s first (between s end))

    pub text-literal : (v : ℕ) (b : Bool) (end : ℕ) → token_at s 64 at ≡ Literal v b → end ≡ at + length (token_text (literal_made v b)) →
        TextLiteral v b end
    text-literal v b end e is =
        let O : Owned v b (slice at (token_end s at) s) = own (Literal v b) e in
        let size : length (token_text (literal_made v b)) ≡ token_end s at - at = sym (ap length O.is) ∙ long in
        let some : 1 ≤ length (token_text (literal_made v b)) = omega (arith, token-some v b) in
        let same : token_end s at ≡ end = omega (arith, size, is, some) in
        record {
          moves = omega (arith, is, some);
          within = omega (arith, same, past-most is_token s at (omega arith));
          goes = after (Literal v b) e
              ∙ ap (literal_then (literal_made v b)) (ap (λ (x : ℕ). clause_from s 64 (length s - (at + 1)) first (between s x)) same
              ∙ clause-fuel s 64 (length s - (at + 1)) (length s - between s end) first (between s end)
              (omega (arith, is, some, between-least s end)) (omega arith));
        }

-- ---- binary

abbrev pub binary_rest : List ℕ → ℕ → ℕ → Next
binary_rest s first at = binary_from s 64 (length s - at) first at

-- tokens apart
abbrev kind : Token → ℕ
kind Closing = 0
kind (Literal v b) = 1
kind (Wrong k) = 2

abbrev wrong_in : Token → ℕ
wrong_in Closing = 0
wrong_in (Literal v b) = 0
wrong_in (Wrong k) = k

other : {A : Type 0} (x y : Token) → (kind x ≡ kind y → ⊥) → x ≡ y → A
other x y ne e = absurd (ne (ap kind e))

module _ (s : List ℕ) (first at : ℕ) where
  pub binary-open : length s ≤ at → binary_rest s first at ≡ refused 6 first
  binary-open h = binary-end s 64 (length s - at) first at h

  module _ (inside : at < length s) (r : Said) (is : r ≡ groups_said 64 at (groups_in (drop at s))) where
    there : (g : Groups) → groups_in (drop at s) ≡ g → binary_rest s first at
        ≡ after_groups 64 first at g (λ next. binary_from s 64 (length s - (at + 1)) first next)
    there g e =
        let steps : length s - at ≡ suc (length s - (at + 1)) = omega arith in
        ap (λ (k : ℕ). binary_from s 64 k first at) steps ∙ binary-suc s 64 (length s - (at + 1)) first at
        ∙ ap (λ (x : Groups). after_groups 64 first at x (λ next. binary_from s 64 (length s - (at + 1)) first next)) e

    -- what groups that are not cut say
    groups-are : (number many last : ℕ) → groups_in (drop at s) ≡ groups number many last
        → (r.token ≡ groups_token 64 number many last) × (r.end ≡ at + many)
    groups-are number many last e =
        let q : r ≡ groups_said 64 at (groups number many last) = is ∙ ap (groups_said 64 at) e in
        (ap (λ (x : Said). x.token) q, ap (λ (x : Said). x.end) q)

    cut-is : groups_in (drop at s) ≡ cut → r.token ≡ Wrong 6
    cut-is e = ap (λ (x : Said). x.token) (is ∙ ap (groups_said 64 at) e)

    binary-closing-said : r.token ≡ Closing → binary_rest s first at ≡ closed [] first r.end
    binary-closing-said e = go (groups_in (drop at s)) refl
      where
        go : (g : Groups) → groups_in (drop at s) ≡ g → binary_rest s first at ≡ closed [] first r.end
        go cut q = other (Wrong 6) Closing (λ z. omega arith) (sym (cut-is q) ∙ e)
        go (groups number many last) q =
            let (token, end) = groups-are number many last q in
            there (groups number many last) q ∙ ap
            (λ (t : Token). after_token t first at (at + many) (binary_from s 64 (length s - (at + 1)) first (at + many))) (sym token ∙ e)
            ∙ ap (closed [] first) (sym end)

    binary-wrong-said : (k : ℕ) → r.token ≡ Wrong k → binary_rest s first at ≡ refused k (fault_place k first at)
    binary-wrong-said k e = go (groups_in (drop at s)) refl
      where
        go : (g : Groups) → groups_in (drop at s) ≡ g → binary_rest s first at ≡ refused k (fault_place k first at)
        go cut q =
            let six : 6 ≡ k = ap wrong_in (sym (cut-is q) ∙ e) in
            there cut q ∙ ap (λ (m : ℕ). refused m (fault_place m first at)) six
        go (groups number many last) q =
            let (token, end) = groups-are number many last q in
            there (groups number many last) q
            ∙ ap (λ (t : Token). after_token t first at (at + many) (binary_from s 64 (length s - (at + 1)) first (at + many)))
            (sym token ∙ e)
            ∙ ap (refused k) (token-by 64 number many last (λ x. x ≡ Wrong k → at ≡ fault_place k first at)
            (λ p q e. other Closing (Wrong k) (λ z. omega arith) e)
            (λ e. ap (λ (m : ℕ). fault_place m first at) (ap wrong_in e))
            (λ e. ap (λ (m : ℕ). fault_place m first at) (ap wrong_in e))
            (λ p q r e. other (Literal (number / 2) (eqb (number % 2) 0)) (Wrong k) (λ z. omega arith) e) (sym token ∙ e))

    binary-literal-said : (v : ℕ) (b : Bool) → r.token ≡ Literal v b → binary_rest s first at
        ≡ literal_then (literal_made v b) (binary_rest s first r.end)
    binary-literal-said v b e = go (groups_in (drop at s)) refl
      where
        L : IsLiteral s 64 at r.end v
        L = literal-in-said s 64 at r v b is e

        go : (g : Groups) → groups_in (drop at s) ≡ g → binary_rest s first at ≡ literal_then (literal_made v b) (binary_rest s first r.end)
        go cut q = other (Wrong 6) (Literal v b) (λ z. omega arith) (sym (cut-is q) ∙ e)
        go (groups number many last) q =
            let (token, end) = groups-are number many last q in
            there (groups number many last) q
            ∙ ap (λ (t : Token). after_token t first at (at + many) (binary_from s 64 (length s - (at + 1)) first (at + many)))
            (sym token ∙ e)
            ∙ ap (literal_then (literal_made v b)) (ap (λ (m : ℕ). binary_from s 64 (length s - (at + 1)) first m) (sym end)
            ∙ binary-fuel s 64 (length s - (at + 1)) (length s - r.end) first r.end (omega (arith, L.moves)) (omega arith))

  -- the same by what the code reads
  module _ (inside : at < length s) (r : GroupsRead) (is : r ≡ groups_read 64 at (groups_in (drop at s))) where
    abbrev w : Said
    w = groups_said 64 at (groups_in (drop at s))

    pub binary-closing : (o : Option code_literal.Literal) → r.token ≡ Ok o → o ≡ None → binary_rest s first at ≡ closed [] first r.end
    binary-closing o e f =
        binary-closing-said inside w refl (closing-is s 64 at r is o e f) ∙ ap (closed [] first) (sym (end-is s 64 at r is))

    pub binary-wrong : (k : ℕ) → r.token ≡ Err k → binary_rest s first at ≡ refused k (fault_place k first at)
    binary-wrong k e = binary-wrong-said inside w refl k (wrong-is s 64 at r is k e)

    pub binary-literal : (o : Option code_literal.Literal) (l : code_literal.Literal) → r.token ≡ Ok o → o ≡ Some l → binary_rest s first at
        ≡ literal_then (literal_made l.variable l.positive) (binary_rest s first r.end)
    binary-literal o l e f =
        binary-literal-said inside w refl l.variable l.positive (literal-is s 64 at r is o l e f)
        ∙ ap (λ (m : ℕ). literal_then (literal_made l.variable l.positive) (binary_rest s first m)) (sym (end-is s 64 at r is))
