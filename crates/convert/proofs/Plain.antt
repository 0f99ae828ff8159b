-- A text that is read to its end is printed as its own tokens, parted by single spaces, one clause a line. The idea: a token that says a
-- literal of a variable up to 64 is the literal's own text, since a number has no leading 0. Assumes nothing.
use mathlib.Core.Path.{◌≡◌, refl, sym, ap, ap₂, ◌∙◌, subst}
use mathlib.Core.Logic.{◌≢◌}
use mathlib.Core.Bool.{Bool, true, false, not, ◌&&◌, ◌||◌, cond}
use mathlib.Core.List.{List, [], ◌∷◌, ◌++◌, append_assoc}
use Prim.Native.Nat.{ℕ, zero, suc, ◌+◌, ◌-◌, ◌*◌, ◌/◌, ◌%◌, ◌≤◌, ◌<◌}
use native.Mathlib.Omega.{arith}
use lib.ListN.{length, get_or, take, drop}
use lib.Seq.{slice, length-slice, drop-cons, take-add, drop_at, length-take-le}
use lib.Dec.{eqb, ltb, leb}
use borrow.Author.Tests.{lt-ltb, le-ltb, eqb-true, eqb-false, ltb-true, ltb-false, leb-true}
use Rattle.meaning.specs.Operations as meaning
use Rattle.meaning.proofs.Booleans.{t≢f, and_both}
use Rattle.dimacs.specs.Numbers.{Token, Closing, Literal, Wrong}
use Rattle.dimacs.specs.Text.{is_token, token_end, between}
use Rattle.dimacs.specs.Header.{is_word}
use Rattle.dimacs.specs.Clauses.{Next, closed, ended, refused, literal_then, after_token, clause_from}
use Rattle.dimacs.specs.Numbers.{is_digit, all_digits, is_zero, is_digits, is_number, has_minus, unsigned, value_after, value_of_digits, token_of}
use Rattle.dimacs.proofs.Cases.{by}
use Rattle.dimacs.proofs.Digits.{digit-least, digit-most}
use Rattle.dimacs.proofs.Runs.{past-most}
use Rattle.dimacs.proofs.Between.{between-least, between-most}
use Rattle.dimacs.proofs.OpenClause.{token_at, next_at, clause-end, clause-suc, literal-moves}
use Rattle.commands.specs.declared.Form.TheVariants.{Text}
use Rattle.commands.specs.Commands.{Command, added, struck_out, finished, Read, reading, clause_read, text_read}
use Rattle.commands.proofs.Reading.{Fault, ClauseIn, clause-in}
use Rattle.convert.specs.Convert.{Lines, line_then, lines_then, lines_from, lines_of, digits_of, token_text, text_literals, text_line}
use Rattle.convert.specs.Convert.{printed, plain_from, plain}
use Rattle.convert.proofs.Left.{AllSmall}

-- ---- digits

-- digits read behind a value make no less
value_grows : (n : ℕ) (bs : List ℕ) → n ≤ value_after n bs
unfolding value_after
value_grows n [] = omega arith
value_grows n (b ∷ bs) = omega (arith, value_grows (n * 10 + (b - 48)) bs)

-- digits of a number up to 64 are its own
digits-own : (bs : List ℕ) → is_digits bs ≡ true → value_of_digits bs ≤ 64 → bs ≡ digits_of (value_of_digits bs)
unfolding is_digits all_digits value_after
digits-own [] e most = t≢f (sym e)
digits-own (b ∷ []) e most =
    let (some, all) = and_both (not (eqb b 48)) (is_digit b && true) e in
    let (digit, _) = and_both (is_digit b) true all in
    let lo : 48 ≤ b = digit-least b digit in
    let hi : b ≤ 57 = digit-most b digit in
    let short : ltb (0 * 10 + (b - 48)) 10 ≡ true = lt-ltb (0 * 10 + (b - 48)) 10 (omega arith) in
    let same : 48 + (0 * 10 + (b - 48)) ≡ b = omega arith in
    rw (short, same) refl
digits-own (b ∷ c ∷ []) e most =
    let (some, all) = and_both (not (eqb b 48)) (is_digit b && (is_digit c && true)) e in
    let (digit, more) = and_both (is_digit b) (is_digit c && true) all in
    let (digit', _) = and_both (is_digit c) true more in
    let lo : 48 ≤ b = digit-least b digit in
    let hi : b ≤ 57 = digit-most b digit in
    let lo' : 48 ≤ c = digit-least c digit' in
    let hi' : c ≤ 57 = digit-most c digit' in
    let one : b ≢ 48 = eqb-false b 48 (not_is (eqb b 48) some) in
    let first : 49 ≤ b = omega (arith, one) in
    let v : ℕ = (0 * 10 + (b - 48)) * 10 + (c - 48) in
    let long : ltb v 10 ≡ false = le-ltb v 10 (omega arith) in
    let top : 48 + v / 10 ≡ b = omega arith in
    let low : 48 + v % 10 ≡ c = omega arith in
    rw (long, top, low) refl
  where
    not_is : (t : Bool) → not t ≡ true → t ≡ false
    not_is true e = t≢f (sym e)
    not_is false e = refl
digits-own (b ∷ c ∷ d ∷ bs) e most =
    let (some, all) = and_both (not (eqb b 48)) (is_digit b && (is_digit c && (is_digit d && all_digits bs))) e in
    let (digit, more) = and_both (is_digit b) (is_digit c && (is_digit d && all_digits bs)) all in
    let lo : 48 ≤ b = digit-least b digit in
    let one : b ≢ 48 = eqb-false b 48 (not_is (eqb b 48) some) in
    let first : 49 ≤ b = omega (arith, one) in
    let w : ℕ = ((0 * 10 + (b - 48)) * 10 + (c - 48)) * 10 + (d - 48) in
    let large : 100 ≤ w = omega arith in
    absurd (omega (arith, value_grows w bs))
  where
    not_is : (t : Bool) → not t ≡ true → t ≡ false
    not_is true e = t≢f (sym e)
    not_is false e = refl

-- ---- a token

-- a token that says a literal is the literal's text, and is not `0`
pub record Owned (v : ℕ) (b : Bool) (bs : List ℕ) : Type 0 where
  pub is : bs ≡ token_text (record { variable = v; positive = b })
  pub not-zero : is_zero bs ≡ false

abbrev pub OwnedBy : List ℕ → Token → Type 0
OwnedBy bs Closing = bs ≡ 48 ∷ []
OwnedBy bs (Literal v b) = Owned v b bs
OwnedBy bs (Wrong k) = Unit {0}

zero_is : (bs : List ℕ) → is_zero bs ≡ true → bs ≡ 48 ∷ []
unfolding is_zero
zero_is [] e = t≢f (sym e)
zero_is (b ∷ []) e = ap (λ (x : ℕ). x ∷ []) (eqb-true b 48 e)
zero_is (b ∷ c ∷ bs) e = t≢f (sym e)

signed-own : (bs : List ℕ) → is_digits (unsigned bs) ≡ true → value_of_digits (unsigned bs) ≤ 64
    → bs ≡ token_text (record { variable = value_of_digits (unsigned bs); positive = not (has_minus bs) })
signed-own [] e most = digits-own [] e most
signed-own (b ∷ bs) e most = go (eqb b 45) refl e most
  where
    go : (t : Bool) → eqb b 45 ≡ t → is_digits (cond t bs (b ∷ bs)) ≡ true → value_of_digits (cond t bs (b ∷ bs)) ≤ 64
        → b ∷ bs ≡ token_text (record { variable = value_of_digits (cond t bs (b ∷ bs)); positive = not t })
    go true q e most = ap₂ ◌∷◌ (eqb-true b 45 q) (digits-own bs e most)
    go false q e most = digits-own (b ∷ bs) e most

pub token-own : (bs : List ℕ) → OwnedBy bs (token_of 64 bs)
unfolding token_of is_number
token-own bs = go (is_zero bs) refl (is_digits (unsigned bs)) refl (leb (value_of_digits (unsigned bs)) 64) refl
  where
    go : (z : Bool) → is_zero bs ≡ z → (d : Bool) → is_digits (unsigned bs) ≡ d → (w : Bool) → leb (value_of_digits (unsigned bs)) 64 ≡ w
        → OwnedBy bs (cond z Closing (cond (z || d) (cond w (Literal (value_of_digits (unsigned bs)) (not (has_minus bs))) (Wrong 4))
        (Wrong 3)))
    go true z d q w r = zero_is bs z
    go false z true q true r = record { is = signed-own bs q (leb-true (value_of_digits (unsigned bs)) 64 r); not-zero = z }
    go false z true q false r = tt
    go false z false q w r = tt

-- ---- a clause

slice-one : (s : List ℕ) (at : ℕ) → at < length s → slice at (at + 1) s ≡ get_or s at 0 ∷ []
slice-one s at inside =
    ap (drop at) (take-add at 1 s) ∙ drop_at (take at s) (take 1 (drop at s)) at (length-take-le at s (omega arith))
    ∙ ap (take 1) (drop-cons s at 0 inside)

module _ (s : List ℕ) where
  abbrev token : ℕ → List ℕ
  token at = slice at (token_end s at) s

  plain_end : (m at : ℕ) → length s ≤ at → plain_from m s at ≡ []
  unfolding plain_from
  plain_end zero at h = refl
  plain_end (suc m) at h = rw (le-ltb at (length s) h) refl

  plain-suc : (m at : ℕ) → at < length s → plain_from (suc m) s at ≡ token at ++ cond (is_zero (token at)) 10 32 ∷
      plain_from m s (between s (token_end s at))
  unfolding plain_from
  plain-suc m at h = rw (lt-ltb at (length s) h) refl

  -- The tokens from a place on begin with those of the clause read there.
  abbrev Plainly : ℕ → ℕ → Next → Type 0
  Plainly at m (closed ls first end) = (m' : ℕ) × (length s ≤ between s end + m')
      × (plain_from m s at ≡ text_literals ls ++ plain_from m' s (between s end)) × (at < end)
  Plainly at m (refused number place) = Unit {0}
  Plainly at m ended = Unit {0}

  module _ (first : ℕ) where
    literal-plain : (v : ℕ) (b : Bool) (at m : ℕ) → at < length s → length s ≤ at + suc m → token_at s 64 at ≡ Literal v b →
        Owned v b (token at)
        → (x : Next) → Plainly (next_at s 64 at) m x → Plainly at (suc m) (literal_then (record { variable = v; positive = b }) x)
    literal-plain v b at m inside enough is O (refused number place) P = tt
    literal-plain v b at m inside enough is O ended P = tt
    literal-plain v b at m inside enough is O (closed ls f end) (m', left, same, past) =
        let moves : at < token_end s at = literal-moves s 64 at (token_end s at) v b inside refl is in
        let l : meaning.Literal = record { variable = v; positive = b } in (
          m',
          left,
          plain-suc m at inside ∙ ap₂ ◌++◌ O.is (ap₂ ◌∷◌ (ap (λ (z : Bool). cond z 10 32) O.not-zero) same)
              ∙ sym (append_assoc (token_text l) (32 ∷ text_literals ls) (plain_from m' s (between s end))),
          omega (arith, past, moves, between-least s (token_end s at)),
        )

    closing-plain : (at m : ℕ) → at < length s → length s ≤ at + suc m → token at ≡ 48 ∷ [] →
        Plainly at (suc m) (closed [] first (token_end s at))
    unfolding is_zero
    closing-plain at m inside enough is =
        let most : token_end s at ≤ length s = past-most is_token s at (omega arith) in
        let one : 1 ≡ token_end s at - at = sym (ap length is) ∙ length-slice at (token_end s at) s most in (
          m,
          omega (arith, between-least s (token_end s at), one),
          plain-suc m at inside ∙ ap (λ (bs : List ℕ). bs ++ cond (is_zero bs) 10 32 ∷ plain_from m s (between s (token_end s at))) is,
          omega (arith, one),
        )

    after-plain : (t : Token) (at m : ℕ) → at < length s → length s ≤ at + suc m → token_at s 64 at ≡ t → OwnedBy (token at) t
        → (x : Next) → (length s ≤ next_at s 64 at + m → Plainly (next_at s 64 at) m x) →
        Plainly at (suc m) (after_token t first at (token_end s at) x)
    after-plain Closing at m inside enough is O x P = closing-plain at m inside enough O
    after-plain (Wrong k) at m inside enough is O x P = tt
    after-plain (Literal v b) at m inside enough is O x P =
        literal-plain v b at m inside enough is O x
        (P (omega (arith, literal-moves s 64 at (token_end s at) v b inside refl is, between-least s (token_end s at))))

    zero-plain : (at m : ℕ) → Plainly at m (clause_from s 64 zero first at)
    unfolding clause_from
    zero-plain at m = tt

    pub clause-plain : (k at m : ℕ) → length s ≤ at + m → Plainly at m (clause_from s 64 k first at)
    clause-plain zero at m enough = zero-plain at m
    clause-plain (suc k) at zero enough = subst (Plainly at zero) (sym (clause-end s 64 (suc k) first at (omega arith))) tt
    clause-plain (suc k) at (suc m) enough =
        by (ltb at (length s))
        (λ t. let inside : at < length s = ltb-true at (length s) t in
        subst (Plainly at (suc m)) (sym (clause-suc s 64 k first at inside))
        (after-plain (token_at s 64 at) at m inside enough refl (token-own (token at)) (clause_from s 64 k first (next_at s 64 at))
        (λ later. clause-plain k (next_at s 64 at) m later)))
        (λ f. subst (Plainly at (suc m)) (sym (clause-end s 64 (suc k) first at (ltb-false at (length s) f))) tt)

  -- ---- all clauses

  abbrev PlainLines : ℕ → ℕ → Lines → Type 0
  PlainLines at m r = r.number ≡ 0 → (printed text_line r.lines ≡ plain_from m s at) × AllSmall r.lines

  line_plain : (b : Bool) (k at from m m₀ : ℕ) → at ≤ from → plain_from m₀ s at ≡ cond b (100 ∷ 32 ∷ []) [] ++ plain_from m s from
      → (body : Next) → Plainly from m body → ClauseIn Fault s 64 at from body
      → (c : List meaning.Literal → Command) → ((ls : List meaning.Literal) (p : ℕ) (r : Lines) → lines_then (c ls) p r ≡ line_then b ls r)
      → ((p m' : ℕ) → at < p → p ≤ length s → length s ≤ p + m' → PlainLines p m' (lines_from k Text s p))
      → PlainLines at m₀ (lines_then (clause_read (between s) at c body).command at
      (lines_from k Text s (clause_read (between s) at c body).next))
  line_plain b k at from m m₀ le opens (refused number place) P I c means ih = λ z. absurd (omega (arith, I.2.0))
  line_plain b k at from m m₀ le opens ended P I c means ih = absurd I
  line_plain b k at from m m₀ le opens (closed ls f end) (m', enough, same, past) I c means ih =
      let rest : Lines = lines_from k Text s (between s end) in
      subst (PlainLines at m₀) (sym (means ls at rest)) (λ z.
      let (more, smalls) = ih (between s end) m' (omega (arith, past, between-least s end, le)) (between-most s end I.1) enough z in (
        ap (λ (x : List ℕ). text_line b ls ++ x) more ∙ append_assoc (cond b (100 ∷ 32 ∷ []) []) (text_literals ls)
            (plain_from m' s (between s end))
            ∙ ap (λ (x : List ℕ). cond b (100 ∷ 32 ∷ []) [] ++ x) (sym same) ∙ sym opens,
        (I.2, smalls),
      ))

  -- a `d` by itself
  word-d : (at m : ℕ) → at < length s → is_word s at (100 ∷ []) ≡ true → plain_from (suc m) s at ≡ 100 ∷ 32 ∷
      plain_from m s (between s (at + 1))
  unfolding is_word is_zero
  word-d at m inside w =
      let (ends, byte) = and_both (eqb (token_end s at) (at + 1)) (eqb (get_or s at 0) 100 && true) w in
      let (is-d, _) = and_both (eqb (get_or s at 0) 100) true byte in
      let end : token_end s at ≡ at + 1 = eqb-true (token_end s at) (at + 1) ends in
      let letter : token at ≡ 100 ∷ [] = ap (λ (e : ℕ). slice at e s) end ∙ slice-one s at inside
      ∙ ap (λ (x : ℕ). x ∷ []) (eqb-true (get_or s at 0) 100 is-d) in
      plain-suc m at inside ∙ ap₂ (λ (bs : List ℕ) (e : ℕ). bs ++ cond (is_zero bs) 10 32 ∷ plain_from m s (between s e)) letter end

  lines-plain : (k at m : ℕ) → at ≤ length s → length s < at + k → length s ≤ at + m → PlainLines at m (lines_from k Text s at)
  unfolding lines_from text_read
  lines-plain zero at m within lt enough = absurd (omega arith)
  lines-plain (suc k) at m within lt enough =
      inside (ltb at (length s)) refl (is_word s at (100 ∷ [])) refl m enough (λ p m' q w e. lines-plain k p m' w (omega arith) e)
    where
      body : ℕ
      body = between s (at + 1)

      chosen : Bool → Bool → Read
      chosen t w =
          cond t (cond w (clause_read (between s) at struck_out (clause_from s 64 (length s - body) at body))
          (clause_read (between s) at added (clause_from s 64 (length s - at) at at))) (reading finished at)

      inside : (t : Bool) → ltb at (length s) ≡ t → (w : Bool) → is_word s at (100 ∷ []) ≡ w → (m : ℕ) → length s ≤ at + m
          → ((p m' : ℕ) → at < p → p ≤ length s → length s ≤ p + m' → PlainLines p m' (lines_from k Text s p))
          → PlainLines at m (lines_then (chosen t w).command at (lines_from k Text s (chosen t w).next))
      inside false p w q m enough ih = λ z. (sym (plain_end m at (ltb-false at (length s) p)), tt)
      inside true p w q zero enough ih = absurd (omega (arith, ltb-true at (length s) p))
      inside true p true q (suc m) enough ih =
          let lt : at < length s = ltb-true at (length s) p in
          let behind : at ≤ body = omega (arith, between-least s (at + 1)) in
          line_plain true k at body m (suc m) behind (word-d at m lt q) (clause_from s 64 (length s - body) at body)
          (clause-plain at (length s - body) body m (omega (arith, between-least s (at + 1))))
          (clause-in s 64 at (length s - body) body behind (omega (arith, lt))) struck_out (λ ls p r. refl) ih
      inside true p false q (suc m) enough ih =
          let lt : at < length s = ltb-true at (length s) p in
          line_plain false k at at (suc m) (suc m) (omega arith) refl (clause_from s 64 (length s - at) at at)
          (clause-plain at (length s - at) at (suc m) enough)
          (clause-in s 64 at (length s - at) at (omega arith) (omega (arith, lt))) added (λ ls p r. refl) ih

-- THEOREM: a text that is read to its end is printed as its own tokens, and its literals are of the variables 1 to 64.
pub text-own : (s : List ℕ) → (lines_of Text s).number ≡ 0 → (printed text_line (lines_of Text s).lines ≡ plain s)
    × AllSmall (lines_of Text s).lines
unfolding plain
text-own s z = lines-plain s (suc (length s)) (between s 0) (length s) (between-most s 0 (omega arith)) (omega arith) (omega arith) z
