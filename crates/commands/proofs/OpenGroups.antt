-- One step of an open clause of a binary proof, for which the bytes left are steps enough, and the set that the code gathers: what is to be
-- read is what is left to be read, with the literals so far. Assumes nothing.
use mathlib.Core.Path.{◌≡◌, refl, ap, sym, ◌∙◌, subst}
use mathlib.Core.Bool.{Bool}
use mathlib.Core.List.{List}
use Prim.Native.Nat.{ℕ, zero, suc, ◌+◌, ◌-◌, ◌/◌, ◌%◌, ◌≤◌, ◌<◌}
use native.Mathlib.Omega.{arith}
use lib.ListN.{length, drop, drop_of_length-le, length-drop}
use lib.Dec.{eqb}
use Rattle.words.specs.declared.Literals.{Literals}
use Rattle.words.specs.Sets.{with_literal, with_all}
use Rattle.dimacs.specs.Numbers.{Token, Closing, Literal, Wrong}
use Rattle.dimacs.specs.declared.ClosedClause.{ClosedClause}
use Rattle.dimacs.specs.declared.Literal as code_literal
use Rattle.dimacs.specs.declared.Refusal.{Refusal}
use Rattle.std.specs.Prelude.{Option, None, Some, Result, Ok, Err}
use Rattle.dimacs.specs.Clauses.{Next, refused, after_token}
use Rattle.dimacs.specs.Inner.{clause_after, closed_with, refusal_at}
use Rattle.dimacs.proofs.OpenClause.{literal-set}
use Rattle.dimacs.proofs.Tokens.{closing-said, literal-said, wrong-said}
use Rattle.commands.specs.declared.binary.GroupsRead.{GroupsRead}
use Rattle.commands.specs.Commands.{Groups, cut, groups, groups_in, groups_token, after_groups, binary_from}
use Rattle.commands.specs.Inner.{Said, groups_said, groups_read, fault_place, pivot_at}
use Rattle.commands.proofs.Groups.{Well, groups-well, token-by}
use Rattle.commands.proofs.Reading.{PivotIs, after-pivot}

-- ---- tokens apart

abbrev kind : Token → ℕ
kind Closing = 0
kind (Literal v b) = 1
kind (Wrong k) = 2

abbrev wrong_in : Token → ℕ
wrong_in Closing = 0
wrong_in (Literal v b) = 0
wrong_in (Wrong k) = k

abbrev variable_in : Token → ℕ
variable_in Closing = 0
variable_in (Literal v b) = v
variable_in (Wrong k) = 0

other : {A : Type 0} (x y : Token) → (kind x ≡ kind y → ⊥) → x ≡ y → A
other x y ne e = absurd (ne (ap kind e))

-- ---- steps

module _ (s : List ℕ) (n : ℕ) where
  pub binary-end : (k first at : ℕ) → length s ≤ at → binary_from s n k first at ≡ refused 6 first
  unfolding binary_from groups_in
  binary-end zero first at h = refl
  binary-end (suc k) first at h = rw (drop_of_length-le s h) refl

  pub binary-suc : (k first at : ℕ)
      → binary_from s n (suc k) first at ≡ after_groups n first at (groups_in (drop at s)) (λ next. binary_from s n k first next)
  unfolding binary_from
  binary-suc k first at = refl

  -- what is read behind groups matters only where they are a literal
  after_cong : (first at : ℕ) (g : Groups) (rest rest' : ℕ → Next)
      → ((number many last : ℕ) → g ≡ groups number many last → rest (at + many) ≡ rest' (at + many)) → after_groups n first at g rest
      ≡ after_groups n first at g rest'
  after_cong first at cut rest rest' h = refl
  after_cong first at (groups number many last) rest rest' h = ap (after_token (groups_token n number many last) first at (at + many))
      (h number many last refl)

  -- Steps for each byte left are enough.
  pub binary-fuel : (k m first at : ℕ) → length s ≤ at + k → length s ≤ at + m → binary_from s n k first at ≡ binary_from s n m first at
  binary-fuel zero m first at h g = binary-end zero first at (omega arith) ∙ sym (binary-end m first at (omega arith))
  binary-fuel (suc k) zero first at h g = binary-end (suc k) first at (omega arith) ∙ sym (binary-end zero first at (omega arith))
  binary-fuel (suc k) (suc m) first at h g =
      binary-suc k first at
      ∙ after_cong first at (groups_in (drop at s)) (λ next. binary_from s n k first next) (λ next. binary_from s n m first next)
      (λ number many last e. let W : Well (drop at s) number many last = groups-well (drop at s) number many last e in
      binary-fuel k m first (at + many) (omega (arith, W.some)) (omega (arith, W.some)))
      ∙ sym (binary-suc m first at)

-- A literal's variable is the header's, and what follows it lies behind it in the text.
pub record IsLiteral (s : List ℕ) (n at end : ℕ) (v : ℕ) : Type 0 where
  pub least : 1 ≤ v
  pub most : v ≤ n
  pub moves : at < end
  pub within : end ≤ length s

pub literal-in-said : (s : List ℕ) (n at : ℕ) (r : Said) (v : ℕ) (b : Bool) → r ≡ groups_said n at (groups_in (drop at s)) → r.token
    ≡ Literal v b → IsLiteral s n at r.end v
literal-in-said s n at r v b is e = go (groups_in (drop at s)) refl is
  where
    go : (g : Groups) → groups_in (drop at s) ≡ g → r ≡ groups_said n at g → IsLiteral s n at r.end v
    go cut q is = other (Wrong 6) (Literal v b) (λ z. omega arith) (sym (ap (λ (x : Said). x.token) is) ∙ e)
    go (groups number many last) q is =
        let t : groups_token n number many last ≡ Literal v b = sym (ap (λ (x : Said). x.token) is) ∙ e in
        let end : r.end ≡ at + many = ap (λ (x : Said). x.end) is in
        let W : Well (drop at s) number many last = groups-well (drop at s) number many last q in
        token-by n number many last (λ x. x ≡ Literal v b → IsLiteral s n at r.end v)
        (λ p q e. other Closing (Literal v b) (λ z. omega arith) e)
        (λ e. other (Wrong 31) (Literal v b) (λ z. omega arith) e)
        (λ e. other (Wrong 4) (Literal v b) (λ z. omega arith) e)
        (λ nz no_one most e. let is-v : number / 2 ≡ v = ap variable_in e in
        record {
          least = omega (arith, W.more nz, no_one);
          most = omega (arith, most);
          moves = omega (arith, W.some, end);
          within = omega (arith, W.within, end, length-drop at s);
        }) t

-- ---- the code's set

-- An open clause from `at` on, with the literals so far.
abbrev pub rest_in : List ℕ → ℕ → ℕ → Literals → ℕ → Result ClosedClause Refusal
rest_in s n first u at = clause_after u (binary_from s n (length s - at) first at)

module _ (s : List ℕ) (n first : ℕ) (u : Literals) (at : ℕ) where
  pub rest-open : length s ≤ at → rest_in s n first u at ≡ Err (refusal_at 6 first)
  unfolding clause_after
  rest-open h = ap (clause_after u) (binary-end s n (length s - at) first at h)

  abbrev rest : ℕ → Next
  rest next = binary_from s n (length s - (at + 1)) first next

  module _ (inside : at < length s) where
    here : (g : Groups) → groups_in (drop at s) ≡ g → rest_in s n first u at ≡ clause_after u (after_groups n first at g rest)
    here g e =
        let steps : length s - at ≡ suc (length s - (at + 1)) = omega arith in
        ap (λ (k : ℕ). clause_after u (binary_from s n k first at)) steps
        ∙ ap (clause_after u) (binary-suc s n (length s - (at + 1)) first at)
        ∙ ap (λ (x : Groups). clause_after u (after_groups n first at x rest)) e

    rest-closing-said : (r : Said) → r ≡ groups_said n at (groups_in (drop at s)) → r.token ≡ Closing
        → rest_in s n first u at ≡ Ok (closed_with u first r.end)
    unfolding clause_after with_all
    rest-closing-said r is e = go (groups_in (drop at s)) refl is
      where
        go : (g : Groups) → groups_in (drop at s) ≡ g → r ≡ groups_said n at g → rest_in s n first u at
            ≡ Ok (closed_with u first r.end)
        go cut q is = other (Wrong 6) Closing (λ z. omega arith) (sym (ap (λ (x : Said). x.token) is) ∙ e)
        go (groups number many last) q is =
            let t : groups_token n number many last ≡ Closing = sym (ap (λ (x : Said). x.token) is) ∙ e in
            let end : r.end ≡ at + many = ap (λ (x : Said). x.end) is in
            here (groups number many last) q ∙ ap (λ (x : Token). clause_after u (after_token x first at (at + many) (rest (at + many)))) t
            ∙ ap (λ (m : ℕ). Ok (closed_with u first m)) (sym end)

    rest-wrong-said : (r : Said) (k : ℕ) → r ≡ groups_said n at (groups_in (drop at s)) → r.token ≡ Wrong k → rest_in s n first u at
        ≡ Err (refusal_at k (fault_place k first at))
    unfolding clause_after
    rest-wrong-said r k is e = go (groups_in (drop at s)) refl is
      where
        go : (g : Groups) → groups_in (drop at s) ≡ g → r ≡ groups_said n at g → rest_in s n first u at ≡ Err (refusal_at k (fault_place k first at))
        go cut q is =
            let six : 6 ≡ k = ap wrong_in (sym (ap (λ (x : Said). x.token) is) ∙ e) in
            here cut q ∙ ap (λ (m : ℕ). Err (refusal_at m (fault_place m first at))) six
        go (groups number many last) q is =
            let t : groups_token n number many last ≡ Wrong k = sym (ap (λ (x : Said). x.token) is) ∙ e in
            here (groups number many last) q ∙ ap (λ (x : Token). clause_after u (after_token x first at (at + many) (rest (at + many)))) t
            ∙ ap (λ (m : ℕ). Err (refusal_at k m)) (token-by n number many last (λ x. x ≡ Wrong k → at ≡ fault_place k first at)
            (λ p q e. other Closing (Wrong k) (λ z. omega arith) e)
            (λ e. ap (λ (m : ℕ). fault_place m first at) (ap wrong_in e))
            (λ e. ap (λ (m : ℕ). fault_place m first at) (ap wrong_in e))
            (λ p q r e. other (Literal (number / 2) (eqb (number % 2) 0)) (Wrong k) (λ z. omega arith) e) t)

    rest-literal-said : (r : Said) (v : ℕ) (b : Bool) (next : ℕ) (u' : Literals) → r ≡ groups_said n at (groups_in (drop at s)) →
        r.token ≡ Literal v b → next ≡ r.end
        → u' ≡ with_literal u v b → rest_in s n first u at ≡ rest_in s n first u' next
    rest-literal-said r v b next u' is e here-next set = go (groups_in (drop at s)) refl is
      where
        L : IsLiteral s n at r.end v
        L = literal-in-said s n at r v b is e

        go : (g : Groups) → groups_in (drop at s) ≡ g → r ≡ groups_said n at g → rest_in s n first u at ≡ rest_in s n first u' next
        go cut q is = other (Wrong 6) (Literal v b) (λ z. omega arith) (sym (ap (λ (x : Said). x.token) is) ∙ e)
        go (groups number many last) q is =
            let t : groups_token n number many last ≡ Literal v b = sym (ap (λ (x : Said). x.token) is) ∙ e in
            let end : at + many ≡ next = sym (ap (λ (x : Said). x.end) is) ∙ sym here-next in
            here (groups number many last) q ∙ ap (λ (x : Token). clause_after u (after_token x first at (at + many) (rest (at + many)))) t
            ∙ literal-set u v b (rest (at + many))
            ∙ ap (λ (w : Literals). clause_after w (rest (at + many))) (sym set)
            ∙ ap (λ (m : ℕ). clause_after u' (rest m)) end
            ∙ ap (clause_after u') (binary-fuel s n (length s - (at + 1)) (length s - next) first next (omega (arith, L.moves, here-next))
            (omega arith))

-- ---- by what the code reads

module _ (s : List ℕ) (n at : ℕ) (r : GroupsRead) (is : r ≡ groups_read n at (groups_in (drop at s))) where
  abbrev pub said : Said
  said = groups_said n at (groups_in (drop at s))

  pub end-is : r.end ≡ said.end
  end-is = ap (λ (x : GroupsRead). x.end) is

  pub closing-is : (o : Option code_literal.Literal) → r.token ≡ Ok o → o ≡ None → said.token ≡ Closing
  closing-is o e f = closing-said said.token o (sym e ∙ ap (λ (x : GroupsRead). x.token) is) f

  pub wrong-is : (k : ℕ) → r.token ≡ Err k → said.token ≡ Wrong k
  wrong-is k e = wrong-said said.token k (sym e ∙ ap (λ (x : GroupsRead). x.token) is)

  pub literal-is : (o : Option code_literal.Literal) (l : code_literal.Literal) → r.token ≡ Ok o → o ≡ Some l
      → said.token ≡ Literal l.variable l.positive
  literal-is o l e f = literal-said said.token o l (sym e ∙ ap (λ (x : GroupsRead). x.token) is) f

  pub literal-in : (o : Option code_literal.Literal) (l : code_literal.Literal) → r.token ≡ Ok o → o ≡ Some l
      → IsLiteral s n at r.end l.variable
  literal-in o l e f =
      subst (λ (end : ℕ). IsLiteral s n at end l.variable) (sym end-is)
      (literal-in-said s n at said l.variable l.positive refl (literal-is o l e f))

  module _ (first : ℕ) (u : Literals) (inside : at < length s) where
    pub rest-closing : (o : Option code_literal.Literal) → r.token ≡ Ok o → o ≡ None → rest_in s n first u at ≡ Ok (closed_with u first r.end)
    rest-closing o e f =
        rest-closing-said s n first u at inside said refl (closing-is o e f) ∙ ap (λ (m : ℕ). Ok (closed_with u first m)) (sym end-is)

    pub rest-wrong : (k : ℕ) → r.token ≡ Err k → rest_in s n first u at ≡ Err (refusal_at k (fault_place k first at))
    rest-wrong k e = rest-wrong-said s n first u at inside said k refl (wrong-is k e)

    pub rest-literal : (o : Option code_literal.Literal) (l : code_literal.Literal) (u' : Literals) → r.token ≡ Ok o → o ≡ Some l
        → u' ≡ with_literal u l.variable l.positive → rest_in s n first u at ≡ rest_in s n first u' r.end
    rest-literal o l u' e f set =
        rest-literal-said s n first u at inside said l.variable l.positive r.end u' refl (literal-is o l e f) end-is set

-- ---- the pivot

pub groups-pivot : (s : List ℕ) (n k first at : ℕ)
    → PivotIs (pivot_at (groups_said n at (groups_in (drop at s))).token) (binary_from s n k first at)
unfolding binary_from
groups-pivot s n zero first at = tt
groups-pivot s n (suc k) first at = go (groups_in (drop at s))
  where
    go : (g : Groups) → PivotIs (pivot_at (groups_said n at g).token) (after_groups n first at g (λ next. binary_from s n k first next))
    go cut = tt
    go (groups number many last) =
        after-pivot (groups_token n number many last) first at (at + many) (binary_from s n k first (at + many))
