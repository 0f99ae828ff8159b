-- What is printed as text is read back as it was. The idea: as for binary; between tokens there is one space or LF, and no line starts with
-- `c`.
-- Assumes nothing.
use mathlib.Core.Path.{◌≡◌, refl, sym, ap, ◌∙◌, subst}
use mathlib.Core.Logic.{◌≢◌}
use mathlib.Core.Bool.{Bool, true, false, not, cond}
use mathlib.Core.List.{List, [], ◌∷◌, ◌++◌, append_assoc}
use Prim.Native.Nat.{ℕ, zero, suc, ◌+◌, ◌-◌, ◌/◌, ◌%◌, ◌≤◌, ◌<◌}
use native.Mathlib.Omega.{arith}
use lib.ListN.{length, get_or, take, drop, length-append, get_or-eq_default}
use lib.Seq.{take-append_seam, take-add, drop_at, length-take-le, slice}
use lib.Dec.{eqb, ltb}
use borrow.Author.Tests.{eq-eqb, ne_eqb, lt-ltb, le-ltb, le-leb, ltb-true, ltb-false}
use Rattle.meaning.specs.Operations as meaning
use Rattle.meaning.proofs.Booleans.{and-false}
use Rattle.dimacs.specs.Text.{is_parting, is_token, run, past, token_end, line_end, is_comment, between_from, between}
use Rattle.dimacs.specs.Numbers.{Literal, is_digit, is_digits, is_zero, all_digits, is_number, value_after, value_of_digits, token_of}
use Rattle.dimacs.specs.Header.{is_word}
use Rattle.dimacs.specs.Clauses.{closed, clause_from}
use Rattle.commands.specs.declared.Form.TheVariants.{Text}
use Rattle.commands.specs.Commands.{reading, text_read}
use Rattle.commands.specs.Inner.{command_for}
use Rattle.convert.specs.Convert.{lines_from, lines_of, lines_then, digits_of, token_text, text_literals, text_line, printed}
use Rattle.convert.proofs.Left.{At, at-start, at_on, at_byte, Small, AllSmall, whole}

-- ---- runs

abbrev All : (ℕ → Bool) → List ℕ → Type 0
All p [] = Unit {0}
All p (b ∷ bs) = (p b ≡ true) × All p bs

-- What is left does not start with a byte that p admits.
abbrev Stops : (ℕ → Bool) → List ℕ → Type 0
Stops p [] = Unit {0}
Stops p (b ∷ bs) = p b ≡ false

run-to : (p : ℕ → Bool) (xs left : List ℕ) → All p xs → Stops p left → run p (xs ++ left) ≡ length xs
unfolding run
run-to p [] [] a e = refl
run-to p [] (b ∷ bs) a e = rw e refl
run-to p (x ∷ xs) left a e = rw (a.0, run-to p xs left a.1 e) refl

past_to : (p : ℕ → Bool) {s : List ℕ} {at : ℕ} (xs left : List ℕ) → At s at (xs ++ left) → All p xs → Stops p left → past p s at
    ≡ at + length xs
unfolding past
past_to p {s} {at} xs left A a e = ap (λ (bs : List ℕ). at + run p bs) A.is ∙ ap (◌+◌ at) (run-to p xs left a e)

-- ---- what parts tokens

-- A token starts here, and no comment; or nothing is left.
abbrev pub Fresh : List ℕ → Type 0
Fresh [] = Unit {0}
Fresh (b ∷ bs) = (is_parting b ≡ false) × (eqb b 99 ≡ false)

fresh-stops : (left : List ℕ) → Fresh left → Stops is_parting left
fresh-stops [] f = tt
fresh-stops (b ∷ bs) f = f.0

between-from : (k : ℕ) {s : List ℕ} {at : ℕ} (xs left : List ℕ) → At s at (xs ++ left) → All is_parting xs → Fresh left →
    between_from s k at
    ≡ at + length xs
unfolding between_from is_comment
between-from zero xs left A a f = past_to is_parting xs left A a (fresh-stops left f)
between-from (suc k) {s} {at} xs left A a f =
    rw (past_to is_parting xs left A a (fresh-stops left f)) (go left f (at_on xs left A))
  where
    go : (left : List ℕ) → Fresh left → At s (at + length xs) left
        → cond (is_comment s (at + length xs)) (between_from s k (line_end s (at + length xs))) (at + length xs) ≡ at + length xs
    go [] f A = let none : get_or s (at + length xs) 0 ≡ 0 = get_or-eq_default s 0 (omega (arith, A.size)) in rw none refl
    go (b ∷ bs) f A =
        let (lt, is) = at_byte bs A in
        rw (is, f.1) refl

between-to : {s : List ℕ} {at : ℕ} (xs left : List ℕ) → At s at (xs ++ left) → All is_parting xs → Fresh left → between s at
    ≡ at + length xs
between-to {s} xs left A a f = between-from (length s) xs left A a f

-- ---- digits

record Digits (v : ℕ) (bs : List ℕ) : Type 0 where
  pub digits : is_digits bs ≡ true
  pub value : value_of_digits bs ≡ v
  pub tokens : All is_token bs
  pub first : ℕ
  pub others : List ℕ
  pub is : bs ≡ first ∷ others
  pub least : 49 ≤ first
  pub most : first ≤ 57

digit-token : (b : ℕ) → 48 ≤ b → b ≤ 57 → is_token b ≡ true
digit-token b lo hi =
    rw (
      ne_eqb b 32 (λ z. absurd (omega arith)),
      ne_eqb b 9 (λ z. absurd (omega arith)),
      ne_eqb b 13 (λ z. absurd (omega arith)),
      ne_eqb b 10 (λ z. absurd (omega arith)),
    ) refl

digit_is : (b : ℕ) → 48 ≤ b → b ≤ 57 → is_digit b ≡ true
digit_is b lo hi = rw (le-leb 48 b lo, le-leb b 57 hi) refl

digits_said : (v : ℕ) → 1 ≤ v → v ≤ 64 → Digits v (digits_of v)
unfolding is_digits all_digits value_after
digits_said v lo hi = go (ltb v 10) refl
  where
    go : (b : Bool) → ltb v 10 ≡ b → Digits v (cond b ((48 + v) ∷ []) ((48 + v / 10) ∷ (48 + v % 10) ∷ []))
    go true e =
        let lt : v < 10 = ltb-true v 10 e in
        record {
          digits = rw (ne_eqb (48 + v) 48 (λ z. absurd (omega arith)), digit_is (48 + v) (omega arith) (omega arith)) refl;
          value = omega arith;
          tokens = (digit-token (48 + v) (omega arith) (omega arith), tt);
          first = 48 + v;
          others = [];
          is = refl;
          least = omega arith;
          most = omega arith;
        }
    go false e =
        let ge : 10 ≤ v = ltb-false v 10 e in
        record {
          digits = rw (
            ne_eqb (48 + v / 10) 48 (λ z. absurd (omega arith)),
            digit_is (48 + v / 10) (omega arith) (omega arith),
            digit_is (48 + v % 10) (omega arith) (omega arith),
          ) refl;
          value = omega arith;
          tokens = (digit-token (48 + v / 10) (omega arith) (omega arith), (digit-token (48 + v % 10) (omega arith) (omega arith), tt));
          first = 48 + v / 10;
          others = (48 + v % 10) ∷ [];
          is = refl;
          least = omega arith;
          most = omega arith;
        }

-- ---- a literal's token

-- The token of a literal: it says the literal, has no parting byte, and starts neither a comment nor a striking.
record Says (l : meaning.Literal) (bs : List ℕ) : Type 0 where
  pub says : token_of 64 bs ≡ Literal l.variable l.positive
  pub tokens : All is_token bs
  pub first : ℕ
  pub others : List ℕ
  pub is : bs ≡ first ∷ others
  pub fresh : (is_parting first ≡ false) × (eqb first 99 ≡ false)
  pub no-d : eqb first 100 ≡ false

not-parting : (b : ℕ) → b ≢ 32 → b ≢ 9 → b ≢ 13 → b ≢ 10 → is_parting b ≡ false
not-parting b p q r t = rw (ne_eqb b 32 p, ne_eqb b 9 q, ne_eqb b 13 r, ne_eqb b 10 t) refl

token-says : (v : ℕ) (b : Bool) → 1 ≤ v → v ≤ 64 → Says (record { variable = v; positive = b }) (cond b [] (45 ∷ []) ++ digits_of v)
unfolding token_of is_number is_zero
token-says v true lo hi =
    let D : Digits v (digits_of v) = digits_said v lo hi in
    record {
      says = subst (λ (bs : List ℕ). token_of 64 bs ≡ Literal v true) (sym D.is)
          (plain D.first D.others D.least D.most (subst (λ (bs : List ℕ). is_digits bs ≡ true) D.is D.digits)
          (sym (ap value_of_digits D.is) ∙ D.value));
      tokens = D.tokens;
      first = D.first;
      others = D.others;
      is = D.is;
      fresh = (
        not-parting D.first (λ z. absurd (omega (arith, D.least, D.most))) (λ z. absurd (omega (arith, D.least)))
            (λ z. absurd (omega (arith, D.least))) (λ z. absurd (omega (arith, D.least))),
        ne_eqb D.first 99 (λ z. absurd (omega (arith, D.most))),
      );
      no-d = ne_eqb D.first 100 (λ z. absurd (omega (arith, D.most)));
    }
  where
    zero-not : (b : ℕ) (bs : List ℕ) → 49 ≤ b → is_zero (b ∷ bs) ≡ false
    zero-not b [] h = ne_eqb b 48 (λ z. absurd (omega arith))
    zero-not b (c ∷ bs) h = refl

    plain : (b : ℕ) (bs : List ℕ) → 49 ≤ b → b ≤ 57 → is_digits (b ∷ bs) ≡ true → value_of_digits (b ∷ bs) ≡ v → token_of 64 (b ∷ bs)
        ≡ Literal v true
    plain b bs least most d e = rw (zero-not b bs least, ne_eqb b 45 (λ z. absurd (omega arith)), d, e, le-leb v 64 hi) refl
token-says v false lo hi =
    let D : Digits v (digits_of v) = digits_said v lo hi in
    record {
      says = subst (λ (bs : List ℕ). token_of 64 (45 ∷ bs) ≡ Literal v false) (sym D.is)
          (signed D.first D.others (subst (λ (bs : List ℕ). is_digits bs ≡ true) D.is D.digits)
          (sym (ap value_of_digits D.is) ∙ D.value));
      tokens = (refl, D.tokens);
      first = 45;
      others = digits_of v;
      is = refl;
      fresh = (refl, refl);
      no-d = refl;
    }
  where
    signed : (b : ℕ) (bs : List ℕ) → is_digits (b ∷ bs) ≡ true → value_of_digits (b ∷ bs) ≡ v → token_of 64 (45 ∷ b ∷ bs) ≡ Literal v false
    signed b bs d e = rw (d, e, le-leb v 64 hi) refl

-- ---- a token and what follows it

module _ {s : List ℕ} {at : ℕ} (bs : List ℕ) (x : ℕ) (left : List ℕ) (A : At s at (bs ++ x ∷ left)) (tokens : All is_token bs)
    (parts : is_parting x ≡ true) where
  token-ends : token_end s at ≡ at + length bs
  token-ends = past_to is_token bs (x ∷ left) A tokens (ap not parts)

  token-is : slice at (token_end s at) s ≡ bs
  token-is =
      let inside : at ≤ length s = omega (arith, A.size) in
      rw token-ends
      (ap (drop at) (take-add at (length bs) s) ∙ drop_at (take at s) (take (length bs) (drop at s)) at (length-take-le at s inside)
      ∙ ap (take (length bs)) A.is ∙ take-append_seam bs (x ∷ left))

  after-token : Fresh left → between s (token_end s at) ≡ at + length bs + 1
  after-token f = rw token-ends (between-to (x ∷ []) left (at_on bs (x ∷ left) A) (parts, tt) f)

-- ---- a clause's literals

literals-fresh : (ls : List meaning.Literal) → Small ls → (rest : List ℕ) → Fresh (text_literals ls ++ rest)
literals-fresh [] small rest = (refl, refl)
literals-fresh (l ∷ ls) small rest =
    let T : Says l (token_text l) = token-says l.variable l.positive small.0 small.1 in
    subst Fresh (sym (ap (λ (bs : List ℕ). (bs ++ 32 ∷ text_literals ls) ++ rest) T.is)) T.fresh

pub text-back : (ls : List meaning.Literal) → Small ls → {s : List ℕ} {at : ℕ} (rest : List ℕ) → At s at (text_literals ls ++ rest) →
    (k first : ℕ) → length ls < k
    → (end : ℕ) → suc end ≡ at + length (text_literals ls) → clause_from s 64 k first at ≡ closed ls first end
unfolding clause_from
text-back ls small rest A zero first lt end e = absurd (omega arith)
text-back [] small {s} {at} rest A (suc k) first lt end e =
    let (inside, is) = at_byte (10 ∷ rest) A in
    rw (lt-ltb at (length s) inside, token-is (48 ∷ []) 10 rest A (refl, tt) refl, token-ends (48 ∷ []) 10 rest A (refl, tt) refl)
    (ap (closed [] first) (omega arith))
text-back (l ∷ ls) small {s} {at} rest A (suc k) first lt end e =
    let T : Says l (token_text l) = token-says l.variable l.positive small.0 small.1 in
    let split : text_literals (l ∷ ls) ++ rest ≡ token_text l ++ 32 ∷ (text_literals ls ++ rest) =
    append_assoc (token_text l) (32 ∷ text_literals ls) rest in
    let B : At s at (token_text l ++ 32 ∷ (text_literals ls ++ rest)) = subst (At s at) split A in
    let inside : at < length s = omega (arith, B.size, length-append (token_text l) (32 ∷ (text_literals ls ++ rest))) in
    let C : At s (at + length (token_text l) + 1) (text_literals ls ++ rest) =
    at_on (32 ∷ []) (text_literals ls ++ rest) (at_on (token_text l) (32 ∷ (text_literals ls ++ rest)) B) in
    let long : length (text_literals (l ∷ ls)) ≡ length (token_text l) + suc (length (text_literals ls)) =
    length-append (token_text l) (32 ∷ text_literals ls) in
    rw (
      lt-ltb at (length s) inside,
      after-token (token_text l) 32 (text_literals ls ++ rest) B T.tokens refl (literals-fresh ls small.2 rest),
      token-is (token_text l) 32 (text_literals ls ++ rest) B T.tokens refl,
      T.says,
      text-back ls small.2 rest C k first (omega arith) end (omega arith),
    ) refl

-- ---- clauses

line-fresh : (b : Bool) (ls : List meaning.Literal) → Small ls → (rest : List ℕ) → Fresh (text_line b ls ++ rest)
line-fresh true ls small rest = (refl, refl)
line-fresh false ls small rest = literals-fresh ls small rest

printed-fresh : (xs : List (Bool × List meaning.Literal)) → AllSmall xs → Fresh (printed text_line xs)
printed-fresh [] small = tt
printed-fresh ((b, ls) ∷ xs) small = line-fresh b ls small.0 (printed text_line xs)

text-long : (ls : List meaning.Literal) → length ls + 2 ≤ length (text_literals ls)
text-long [] = omega arith
text-long (l ∷ ls) = omega (arith, text-long ls, length-append (token_text l) (32 ∷ text_literals ls))

-- an added clause's first byte opens no striking
no-strike : (ls : List meaning.Literal) → Small ls → {s : List ℕ} {at : ℕ} (rest : List ℕ) → At s at (text_literals ls ++ rest) →
    eqb (get_or s at 0) 100 ≡ false
no-strike [] small rest A = let (lt, is) = at_byte (10 ∷ rest) A in rw is refl
no-strike (l ∷ ls) small {s} {at} rest A =
    let T : Says l (token_text l) = token-says l.variable l.positive small.0 small.1 in
    let split : text_literals (l ∷ ls) ++ rest ≡ T.first ∷ (T.others ++ 32 ∷ (text_literals ls ++ rest)) =
    append_assoc (token_text l) (32 ∷ text_literals ls) rest ∙ ap (λ (bs : List ℕ). bs ++ 32 ∷ (text_literals ls ++ rest)) T.is in
    let (lt, is) = at_byte (T.others ++ 32 ∷ (text_literals ls ++ rest)) (subst (At s at) split A) in
    rw is T.no-d

-- what follows a clause: its LF
after_line : {s : List ℕ} {end : ℕ} (rest : List ℕ) → At s end (10 ∷ rest) → Fresh rest → between s end ≡ end + 1
after_line rest A f = between-to (10 ∷ []) rest A (refl, tt) f

-- the LF of a clause whose literals start at a place
closing_at : (ls : List meaning.Literal) → {s : List ℕ} {at : ℕ} (rest : List ℕ) → At s at (text_literals ls ++ rest) → (end : ℕ) → suc end
    ≡ at + length (text_literals ls) → At s end (10 ∷ rest)
closing_at [] {s} {at} rest A end e = let z : at + 1 ≡ end = omega arith in
    subst (λ (p : ℕ). At s p (10 ∷ rest)) z (at_on (48 ∷ []) (10 ∷ rest) A)
closing_at (l ∷ ls) {s} {at} rest A end e =
    let x : List ℕ = token_text l in
    let B : At s at (x ++ (32 ∷ (text_literals ls ++ rest))) = subst (At s at) (append_assoc x (32 ∷ text_literals ls) rest) A in
    let C : At s (at + length x + 1) (text_literals ls ++ rest) = at_on (32 ∷ []) (text_literals ls ++ rest)
    (at_on x (32 ∷ (text_literals ls ++ rest)) B) in
    closing_at ls rest C end (omega (arith, length-append x (32 ∷ text_literals ls)))

pub text-line : (b : Bool) (ls : List meaning.Literal) → Small ls → {s : List ℕ} {at : ℕ} (rest : List ℕ) → Fresh rest →
    At s at (text_line b ls ++ rest) → (end : ℕ)
    → suc end ≡ at + length (text_line b ls) → text_read s 64 at ≡ reading (command_for b ls) (end + 1)
unfolding text_read is_word
text-line false ls small {s} {at} rest f A end e =
    let inside : at < length s = omega (arith, A.size, length-append (text_literals ls) rest, text-long ls) in
    rw (
      lt-ltb at (length s) inside,
      no-strike ls small rest A,
      and-false (eqb (token_end s at) (at + 1)),
      text-back ls small rest A (length s - at) at (omega (arith, A.size, length-append (text_literals ls) rest, text-long ls)) end e,
      after_line rest (closing_at ls rest A end e) f,
    ) refl
text-line true ls small {s} {at} rest f A end e =
    let (inside, is) = at_byte (32 ∷ (text_literals ls ++ rest)) A in
    let B : At s (at + 1) (32 ∷ (text_literals ls ++ rest)) = at_on (100 ∷ []) (32 ∷ (text_literals ls ++ rest)) A in
    let C : At s (at + 1 + 1) (text_literals ls ++ rest) = at_on (32 ∷ []) (text_literals ls ++ rest) B in
    let over : between s (at + 1) ≡ at + 1 + 1 = between-to (32 ∷ []) (text_literals ls ++ rest) B (refl, tt) (literals-fresh ls small rest)
    in
    rw (
      lt-ltb at (length s) inside,
      token-ends (100 ∷ []) 32 (text_literals ls ++ rest) A (refl, tt) refl,
      eq-eqb (at + 1) (at + 1) refl,
      is,
      over,
      text-back ls small rest C (length s - (at + 1 + 1)) at (omega (arith, C.size, length-append (text_literals ls) rest, text-long ls))
          end (omega arith),
      after_line rest (closing_at ls rest C end (omega arith)) f,
    ) refl

text-lines : (xs : List (Bool × List meaning.Literal)) → AllSmall xs → {s : List ℕ} {at : ℕ} → At s at (printed text_line xs) → (k : ℕ) →
    length xs < k → lines_from k Text s at ≡ whole xs
unfolding lines_from text_read
text-lines xs small A zero lt = absurd (omega arith)
text-lines [] small {s} {at} A (suc k) lt = rw (le-ltb at (length s) (omega (arith, A.size))) refl
text-lines ((b, ls) ∷ xs) small {s} {at} A (suc k) lt =
    let long : 1 ≤ length (text_line b ls) = some b in
    let end : ℕ = at + length (text_line b ls) - 1 in
    let e : suc end ≡ at + length (text_line b ls) = omega arith in
    let next : at + length (text_line b ls) ≡ end + 1 = omega arith in
    rw (text-line b ls small.0 (printed text_line xs) (printed-fresh xs small.1) A end e)
    (go b end (text-lines xs small.1 (subst (λ (p : ℕ). At s p (printed text_line xs)) next
    (at_on (text_line b ls) (printed text_line xs) A)) k (omega arith)))
  where
    some : (b : Bool) → 1 ≤ length (text_line b ls)
    some true = omega arith
    some false = omega (arith, text-long ls)

    go : (b : Bool) (end : ℕ) → lines_from k Text s (end + 1) ≡ whole xs → lines_then (command_for b ls) at (lines_from k Text s (end + 1))
        ≡ whole ((b, ls) ∷ xs)
    go true end e = rw e refl
    go false end e = rw e refl

text-printed-long : (xs : List (Bool × List meaning.Literal)) → length xs ≤ length (printed text_line xs)
text-printed-long [] = omega arith
text-printed-long ((b, ls) ∷ xs) = omega (arith, text-printed-long xs, length-append (text_line b ls) (printed text_line xs), some b)
  where
    some : (b : Bool) → 1 ≤ length (text_line b ls)
    some true = omega arith
    some false = omega (arith, text-long ls)

-- THEOREM: what is printed as text is read back.
pub text-trip : (xs : List (Bool × List meaning.Literal)) → AllSmall xs → lines_of Text (printed text_line xs) ≡ whole xs
text-trip xs small =
    ap (λ (p : ℕ). lines_from (suc (length (printed text_line xs))) Text (printed text_line xs) p)
    (between-to [] (printed text_line xs) (at-start (printed text_line xs)) tt (printed-fresh xs small))
    ∙ text-lines xs small (at-start (printed text_line xs)) (suc (length (printed text_line xs))) (omega (arith, text-printed-long xs))
