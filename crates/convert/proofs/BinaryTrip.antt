-- What is printed in binary is read back as it was. The idea: reading looks at the bytes from its place on. Assumes nothing.
use mathlib.Core.Path.{◌≡◌, refl, ap, ◌∙◌, subst}
use mathlib.Core.Logic.{◌≢◌}
use mathlib.Core.Bool.{Bool, true, false, cond}
use mathlib.Core.List.{List, [], ◌∷◌, ◌++◌, append_assoc}
use Prim.Native.Nat.{ℕ, zero, suc, ◌+◌, ◌-◌, ◌*◌, ◌/◌, ◌%◌, ◌≤◌, ◌<◌}
use native.Mathlib.Omega.{arith}
use lib.ListN.{length, length-append}
use lib.Dec.{eqb, ltb}
use borrow.Author.Tests.{ne_eqb, lt-ltb, le-ltb, ltb-false}
use Rattle.meaning.specs.Operations as meaning
use Rattle.dimacs.specs.Numbers.{Token, Literal}
use Rattle.dimacs.specs.Clauses.{closed, literal_then, after_token}
use Rattle.commands.specs.declared.Form.TheVariants.{Binary}
use Rattle.commands.specs.Commands.{Read, reading, Groups, groups, groups_in, groups_token, after_groups, binary_from, binary_read, added}
use Rattle.commands.specs.Commands.{struck_out, wrong}
use Rattle.commands.specs.Inner.{command_for}
use Rattle.convert.specs.Convert.{lines_then, lines_from, lines_of, code_of, groups_of, binary_literals, binary_line, printed}
use Rattle.convert.proofs.Left.{At, at-start, at_on, at_byte, Small, AllSmall, whole}

-- ---- a literal

-- its groups, read back
pub groups-back : (l : meaning.Literal) → 1 ≤ l.variable → l.variable ≤ 64 → (rest : List ℕ)
    → (last : ℕ) × (groups_in (groups_of (code_of l) ++ rest) ≡ groups (code_of l) (length (groups_of (code_of l))) last) × (last ≢ 0)
unfolding groups_in
groups-back l lo hi rest = go l.positive refl
  where
    back : (u : ℕ) → 2 ≤ u → u ≤ 129 → (last : ℕ) × (groups_in (groups_of u ++ rest) ≡ groups u (length (groups_of u)) last) × (last ≢ 0)
    back u p q = small (ltb u 128) refl
      where
        small : (b : Bool) → ltb u 128 ≡ b → (last : ℕ) × (groups_in (groups_of u ++ rest) ≡ groups u (length (groups_of u)) last)
            × (last ≢ 0)
        small true e = (u, rw (e, e) refl, λ z. absurd (omega arith))
        small false e =
            let ge : 128 ≤ u = ltb-false u 128 e in
            let d : u / 128 ≡ 1 = omega arith in
            let top : ltb (128 + u % 128) 128 ≡ false = le-ltb (128 + u % 128) 128 (omega arith) in
            let one : ltb (u / 128) 128 ≡ true = lt-ltb (u / 128) 128 (omega arith) in
            let sum : (128 + u % 128 - 128) + 128 * (u / 128) ≡ u = omega arith in
            (u / 128, rw (e, top, one, sum) refl, λ z. absurd (omega arith))

    go : (b : Bool) → l.positive ≡ b → (last : ℕ)
        × (groups_in (groups_of (code_of l) ++ rest) ≡ groups (code_of l) (length (groups_of (code_of l))) last) × (last ≢ 0)
    go true e = rw e (back (2 * l.variable) (omega arith) (omega arith))
    go false e = rw e (back (2 * l.variable + 1) (omega arith) (omega arith))

-- its number, read back
code-range : (l : meaning.Literal) → 1 ≤ l.variable → l.variable ≤ 64 → (2 ≤ code_of l) × (code_of l / 2 ≤ 64)
code-range l lo hi = go l.positive
  where
    go : (b : Bool) → (2 ≤ cond b (2 * l.variable) (2 * l.variable + 1)) × (cond b (2 * l.variable) (2 * l.variable + 1) / 2 ≤ 64)
    go true = (omega arith, omega arith)
    go false = (omega arith, omega arith)

code-back : (v : ℕ) (b : Bool) → Literal (cond b (2 * v) (2 * v + 1) / 2) (eqb (cond b (2 * v) (2 * v + 1) % 2) 0) ≡ Literal v b
code-back v true =
    let half : 2 * v / 2 ≡ v = omega arith in
    let even : 2 * v % 2 ≡ 0 = omega arith in
    rw (half, even) refl
code-back v false =
    let half : (2 * v + 1) / 2 ≡ v = omega arith in
    let odd : (2 * v + 1) % 2 ≡ 1 = omega arith in
    rw (half, odd) refl

token_back : (l : meaning.Literal) → 1 ≤ l.variable → l.variable ≤ 64 → (many last : ℕ) → last ≢ 0
    → groups_token 64 (code_of l) many last ≡ Literal l.variable l.positive
token_back l lo hi many last nz =
    let (two, most) = code-range l lo hi in
    rw (
      ne_eqb (code_of l) 0 (λ z. absurd (omega arith)),
      ne_eqb last 0 nz,
      ne_eqb (code_of l) 1 (λ z. absurd (omega arith)),
      le-ltb 64 (code_of l / 2) most,
    ) (code-back l.variable l.positive)

-- ---- a clause

pub binary-back : (ls : List meaning.Literal) → Small ls → {s : List ℕ} {at : ℕ} (rest : List ℕ) → At s at (binary_literals ls ++ rest) →
    (k first : ℕ) → length ls < k
    → binary_from s 64 k first at ≡ closed ls first (at + length (binary_literals ls))
unfolding binary_from groups_in
binary-back [] small {s} {at} rest A zero first lt = absurd (omega arith)
binary-back [] small {s} {at} rest A (suc k) first lt = rw A.is refl
binary-back (l ∷ ls) small {s} {at} rest A zero first lt = absurd (omega arith)
binary-back (l ∷ ls) small {s} {at} rest A (suc k) first lt =
    let g : List ℕ = groups_of (code_of l) in
    let A' : At s at (g ++ (binary_literals ls ++ rest)) = subst (At s at) (append_assoc g (binary_literals ls) rest) A in
    let (last, is, nz) = groups-back l small.0 small.1 (binary_literals ls ++ rest) in
    ap (λ (x : Groups). after_groups 64 first at x (λ next. binary_from s 64 k first next)) (ap groups_in A'.is ∙ is)
    ∙ ap (λ (t : Token). after_token t first at (at + length g) (binary_from s 64 k first (at + length g)))
    (token_back l small.0 small.1 (length g) last nz)
    ∙ ap (literal_then l) (binary-back ls small.2 rest (at_on g (binary_literals ls ++ rest) A') k first (omega arith))
    ∙ ap (closed (l ∷ ls) first) (omega (arith, length-append g (binary_literals ls)))

binary-long : (ls : List meaning.Literal) → length ls < length (binary_literals ls)
binary-long [] = omega arith
binary-long (l ∷ ls) = omega (arith, binary-long ls, length-append (groups_of (code_of l)) (binary_literals ls), some (code_of l))
  where
    some : (u : ℕ) → 1 ≤ length (groups_of u)
    some u = go (ltb u 128)
      where
        go : (b : Bool) → 1 ≤ length (cond b (u ∷ []) ((128 + u % 128) ∷ u / 128 ∷ []))
        go true = omega arith
        go false = omega arith

pub binary-line : (b : Bool) (ls : List meaning.Literal) → Small ls → {s : List ℕ} {at : ℕ} (rest : List ℕ) →
    At s at (binary_line b ls ++ rest)
    → binary_read s 64 at ≡ reading (command_for b ls) (at + length (binary_line b ls))
unfolding binary_read
binary-line b ls small {s} {at} rest A =
    let (lt, is) = at_byte (binary_literals ls ++ rest) A in
    let A' : At s (at + 1) (binary_literals ls ++ rest) = at_on (cond b 0x64 0x61 ∷ []) (binary_literals ls ++ rest) A in
    let body : binary_from s 64 (length s - (at + 1)) at (at + 1) ≡ closed ls at (at + 1 + length (binary_literals ls)) =
    binary-back ls small rest A' (length s - (at + 1)) at (omega (arith, A'.size, binary-long ls, length-append (binary_literals ls) rest))
    in
    let ends : at + 1 + length (binary_literals ls) ≡ at + length (binary_line b ls) = omega arith in
    rw (lt-ltb at (length s) lt, is, body, ends) (go b)
  where
    go : (b : Bool) → ◌≡◌ {A = Read} (cond (eqb (cond b 0x64 0x61) 0x61) (reading (added ls) (at + length (binary_line b ls)))
        (cond (eqb (cond b 0x64 0x61) 0x64) (reading (struck_out ls) (at + length (binary_line b ls))) (reading (wrong 9 0) at)))
        (reading (command_for b ls) (at + length (binary_line b ls)))
    go true = refl
    go false = refl

-- ---- all clauses

binary-lines : (xs : List (Bool × List meaning.Literal)) → AllSmall xs → {s : List ℕ} {at : ℕ} → At s at (printed binary_line xs) →
    (k : ℕ) →
    length xs < k → lines_from k Binary s at ≡ whole xs
unfolding lines_from binary_read
binary-lines xs small A zero lt = absurd (omega arith)
binary-lines [] small {s} {at} A (suc k) lt = rw (le-ltb at (length s) (omega (arith, A.size))) refl
binary-lines ((b, ls) ∷ xs) small {s} {at} A (suc k) lt =
    rw (binary-line b ls small.0 (printed binary_line xs) A)
    (go b (binary-lines xs small.1 (at_on (binary_line b ls) (printed binary_line xs) A) k (omega arith)))
  where
    go : (b : Bool) → lines_from k Binary s (at + length (binary_line b ls)) ≡ whole xs
        → lines_then (command_for b ls) at (lines_from k Binary s (at + length (binary_line b ls))) ≡ whole ((b, ls) ∷ xs)
    go true e = rw e refl
    go false e = rw e refl

printed-long : (xs : List (Bool × List meaning.Literal)) → length xs ≤ length (printed binary_line xs)
printed-long [] = omega arith
printed-long ((b, ls) ∷ xs) = omega (arith, printed-long xs, length-append (binary_line b ls) (printed binary_line xs))

-- THEOREM: what is printed in binary is read back.
pub binary-trip : (xs : List (Bool × List meaning.Literal)) → AllSmall xs → lines_of Binary (printed binary_line xs) ≡ whole xs
binary-trip xs small = binary-lines xs small (at-start (printed binary_line xs)) (suc (length (printed binary_line xs)))
    (omega (arith, printed-long xs))
