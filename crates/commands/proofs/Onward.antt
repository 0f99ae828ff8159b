-- A command of a DRAT proof goes on: a clause ends behind its first byte and in the proof, its literals are the header's; a fault lies in
-- the proof and has a number of its form; the end is the proof's length. So a loop over commands comes to an end. The idea: what is known
-- of the clause read. Assumes nothing.
use mathlib.Core.Path.{◌≡◌, refl, sym, subst}
use mathlib.Core.Logic.{◌≢◌}
use mathlib.Core.Bool.{Bool, true, false, cond}
use mathlib.Core.List.{List, [], ◌∷◌}
use Prim.Native.Nat.{ℕ, zero, suc, ◌+◌, ◌-◌, ◌/◌, ◌%◌, ◌≤◌, ◌<◌}
use native.Mathlib.Omega.{arith}
use lib.ListN.{length, get_or, drop, length-drop}
use lib.Dec.{eqb, ltb}
use borrow.Author.Tests.{ltb-true, ltb-false}
use Rattle.meaning.specs.Operations as meaning
use Rattle.meaning.specs.Literals.{OfVariables}
use Rattle.dimacs.specs.Text.{between}
use Rattle.dimacs.specs.Header.{is_word}
use Rattle.dimacs.specs.Clauses.{Next, closed, ended, refused, after_token, clause_from}
use Rattle.dimacs.proofs.Between.{between-least, between-most}
use Rattle.commands.specs.declared.Form.{Form}
use Rattle.commands.specs.declared.Form.TheVariants.{Records, Text, Binary}
use Rattle.commands.specs.Commands.{Command, recorded, added, struck_out, wrong, finished, Read, reading, clause_read, text_read}
use Rattle.commands.specs.Commands.{Groups, cut, groups, groups_in, after_groups, binary_from, binary_read, is_drat, command_at}
use Rattle.commands.proofs.Groups.{Well, groups-well, token-by}
use Rattle.commands.proofs.Reading.{Fault, ClauseIn, clause-in, later, with_in}
use Rattle.commands.proofs.OpenGroups.{binary-suc}

-- The number of a fault of form of a binary proof: 4 or 31, or 6 or 9 at the opening byte.
abbrev pub BinaryFault : ℕ → ℕ → ℕ → Type 0
BinaryFault first number place =
    (4 ≤ number) × (number ≢ 5) × (6 < number → 9 ≤ number) × (9 < number → number ≡ 31) × (number ≡ 6 → place ≡ first)
    × (number ≡ 9 → place ≡ first)

-- The faults of each form, with their place counted from the command's first byte.
abbrev pub FaultOf : Form → ℕ → ℕ → Type 0
FaultOf Records number offset = ⊥
FaultOf Text number offset = Fault 0 number offset
FaultOf Binary number offset = BinaryFault 0 number offset

-- What is known of a command of a DRAT proof at a place, by its kind, and of the place of the next.
abbrev pub CommandIn : Form → List ℕ → ℕ → ℕ → Command → ℕ → Type 0
CommandIn form s n at (added ls) next = (at < next) × (next ≤ length s) × OfVariables n ls
CommandIn form s n at (struck_out ls) next = (at < next) × (next ≤ length s) × OfVariables n ls
CommandIn form s n at (wrong number offset) next = (next ≡ at) × (at + offset ≤ length s) × FaultOf form number offset
CommandIn form s n at finished next = (next ≡ at) × (at ≡ length s)
CommandIn form s n at (recorded r more) next = ⊥

abbrev pub ReadIn : Form → List ℕ → ℕ → ℕ → Read → Type 0
ReadIn form s n at r = CommandIn form s n at r.command r.next

-- A way from behind a clause to the next command that stays in the proof.
abbrev Onward : List ℕ → (ℕ → ℕ) → Type 0
Onward s onward = (k : ℕ) → k ≤ length s → (k ≤ onward k) × (onward k ≤ length s)

module _ (form : Form) (F : ℕ → ℕ → ℕ → Type 0) (s : List ℕ) (n at from : ℕ) (le : at ≤ from) (onward : ℕ → ℕ) (on : Onward s onward)
    (command : List meaning.Literal → Command)
    (is : (ls : List meaning.Literal) (next : ℕ) → at < next → next ≤ length s → OfVariables n ls → CommandIn form s n at (command ls) next)
    (faulty : (number place : ℕ) → at ≤ place → F at number place → FaultOf form number (place - at)) where
  clause-read-in : (x : Next) → ClauseIn F s n at from x → ReadIn form s n at (clause_read onward at command x)
  clause-read-in (closed ls f next) h =
      let o = on next h.1 in is ls (onward next) (omega (arith, h.0, o.0)) o.1 h.2
  clause-read-in (refused number place) h = (refl, omega (arith, h.0, h.1), faulty number place h.0 h.2)
  clause-read-in ended h = absurd h

read-cond : (form : Form) (s : List ℕ) (n at : ℕ) (t : Bool) (x y : Read) → (t ≡ true → ReadIn form s n at x) →
    (t ≡ false → ReadIn form s n at y) → ReadIn form s n at (cond t x y)
read-cond form s n at true x y h k = h refl
read-cond form s n at false x y h k = k refl

-- ---- text

text-faulty : (at number place : ℕ) → at ≤ place → Fault at number place → FaultOf Text number (place - at)
text-faulty at number place le f = (f.0, f.1, f.2, λ q. omega (arith, f.3 q))

pub text_in : (s : List ℕ) (n at : ℕ) → at ≤ length s → ReadIn Text s n at (text_read s n at)
unfolding text_read
text_in s n at h =
    let body : ℕ = between s (at + 1) in
    let striking : Read = clause_read (between s) at struck_out (clause_from s n (length s - body) at body) in
    let adding : Read = clause_read (between s) at added (clause_from s n (length s - at) at at) in
    let on : Onward s (between s) = λ k p. (between-least s k, between-most s k p) in
    let behind : at ≤ between s (at + 1) = omega (arith, between-least s (at + 1)) in
    read-cond Text s n at (ltb at (length s)) (cond (is_word s at (100 ∷ [])) striking adding) (reading finished at)
    (λ t. read-cond Text s n at (is_word s at (100 ∷ [])) striking adding
    (λ w. clause-read-in Text Fault s n at (between s (at + 1)) behind (between s) on struck_out (λ ls next p q r. (p, q, r))
    (text-faulty at)
    (clause_from s n (length s - between s (at + 1)) at (between s (at + 1)))
    (clause-in s n at (length s - between s (at + 1)) (between s (at + 1)) behind h))
    (λ w. clause-read-in Text Fault s n at at (omega arith) (between s) on added (λ ls next p q r. (p, q, r)) (text-faulty at)
    (clause_from s n (length s - at) at at) (clause-in s n at (length s - at) at (omega arith) h)))
    (λ f. (refl, omega (arith, h, ltb-false at (length s) f)))

-- ---- binary

module _ (s : List ℕ) (n first : ℕ) where
  six-first : BinaryFault first 6 first
  six-first = (omega arith, (λ q. omega arith), (λ q. absurd (omega arith)), (λ q. absurd (omega arith)), (λ _. refl), λ _. refl)

  groups-in : (g : Groups) (at : ℕ) (rest : ℕ → Next) → first ≤ at → first ≤ length s → at ≤ length s → groups_in (drop at s) ≡ g
      → ((next : ℕ) → at < next → next ≤ length s → ClauseIn BinaryFault s n first next (rest next)) →
      ClauseIn BinaryFault s n first at (after_groups n first at g rest)
  groups-in cut at rest lo h hi e ih = (omega arith, h, six-first)
  groups-in (groups number many last) at rest lo h hi e ih =
      let W : Well (drop at s) number many last = groups-well (drop at s) number many last e in
      let inside : at + many ≤ length s = omega (arith, W.within, length-drop at s) in
      token-by n number many last (λ t. ClauseIn BinaryFault s n first at (after_token t first at (at + many) (rest (at + many))))
      (λ _ _. (omega (arith, W.some), inside, tt))
      (lo, hi, (omega arith, (λ q. omega arith), (λ q. omega arith), (λ _. refl), (λ q. absurd (omega arith)), λ q. absurd (omega arith))) (
        lo,
        hi,
        (
          omega arith,
          (λ q. omega arith),
          (λ q. absurd (omega arith)),
          (λ q. absurd (omega arith)),
          (λ q. absurd (omega arith)),
          λ q. absurd (omega arith),
        ),
      )
      (λ nz no_one most. with_in BinaryFault s n first (number / 2) (eqb (number % 2) 0) at (rest (at + many))
      (omega (arith, W.more nz, no_one)) most
      (later BinaryFault s n first at (at + many) (rest (at + many)) (omega arith) (ih (at + many) (omega (arith, W.some)) inside)))

  open_in : (at : ℕ) → first ≤ length s → ClauseIn BinaryFault s n first at (binary_from s n zero first at)
  unfolding binary_from
  open_in at h = (omega arith, h, six-first)

  pub binary-clause-in : (k at : ℕ) → first ≤ at → first ≤ length s → at ≤ length s →
      ClauseIn BinaryFault s n first at (binary_from s n k first at)
  binary-clause-in zero at lo h hi = open_in at h
  binary-clause-in (suc k) at lo h hi =
      subst (ClauseIn BinaryFault s n first at) (sym (binary-suc s n k first at))
      (groups-in (groups_in (drop at s)) at (λ next. binary_from s n k first next) lo h hi refl
      (λ next p q. binary-clause-in k next (omega arith) h q))

binary-faulty : (at number place : ℕ) → at ≤ place → BinaryFault at number place → FaultOf Binary number (place - at)
binary-faulty at number place le f = (f.0, f.1, f.2, f.3, (λ q. omega (arith, f.4 q)), λ q. omega (arith, f.5 q))

pub binary-in : (s : List ℕ) (n at : ℕ) → at ≤ length s → ReadIn Binary s n at (binary_read s n at)
unfolding binary_read
binary-in s n at h =
    let kind : ℕ = get_or s at 0 in
    let body : Next = binary_from s n (length s - (at + 1)) at (at + 1) in
    let adding : Read = clause_read (λ next. next) at added body in
    let striking : Read = clause_read (λ next. next) at struck_out body in
    let on : Onward s (λ next. next) = λ k p. (omega arith, p) in
    let behind : at ≤ at + 1 = omega arith in
    read-cond Binary s n at (ltb at (length s)) (cond (eqb kind 0x61) adding (cond (eqb kind 0x64) striking (reading (wrong 9 0) at)))
    (reading finished at)
    (λ t. let inside : at < length s = ltb-true at (length s) t in
    let is : ClauseIn BinaryFault s n at (at + 1) body = binary-clause-in s n at (length s - (at + 1)) (at + 1) behind h
    (omega (arith, inside)) in
    read-cond Binary s n at (eqb kind 0x61) adding (cond (eqb kind 0x64) striking (reading (wrong 9 0) at))
    (λ w. clause-read-in Binary BinaryFault s n at (at + 1) behind (λ next. next) on added (λ ls next p q r. (p, q, r)) (binary-faulty at)
    body is)
    (λ w. read-cond Binary s n at (eqb kind 0x64) striking (reading (wrong 9 0) at)
    (λ w. clause-read-in Binary BinaryFault s n at (at + 1) behind (λ next. next) on struck_out (λ ls next p q r. (p, q, r))
    (binary-faulty at) body is)
    (λ w. (refl, omega arith, (omega arith, (λ q. omega arith), (λ q. omega arith), (λ q. absurd (omega arith)), (λ q. refl), λ _. refl)))))
    (λ f. (refl, omega (arith, h, ltb-false at (length s) f)))

-- ---- either

pub drat-in : (form : Form) → is_drat form ≡ true → (s : List ℕ) (n at : ℕ) → at ≤ length s → ReadIn form s n at (command_at form s n at)
drat-in Records drat s n at h = let z : ◌≡◌ {A = ℕ} 0 1 = cc in absurd (omega arith)
drat-in Text drat s n at h = text_in s n at h
drat-in Binary drat s n at h = binary-in s n at h
