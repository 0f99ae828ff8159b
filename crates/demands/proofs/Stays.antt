-- A proof as text and the same proof in binary get the same verdict, lines, rounds and all that is left, but for the place. The idea: a
-- command read for the header's variables is the one read for 64, or 4 where a literal is beyond the header; so both are judged as the same
-- list of clauses. Assumes nothing.
use mathlib.Core.Path.{◌≡◌, refl, sym, ap, ◌∙◌, subst}
use mathlib.Core.Logic.{◌⊎◌, inl, inr}
use mathlib.Core.Bool.{Bool, true, false, not, ◌&&◌, ◌||◌, cond}
use mathlib.Core.List.{List, [], ◌∷◌, ◌++◌}
use Prim.Native.Nat.{ℕ, zero, suc, ◌+◌, ◌-◌, ◌/◌, ◌%◌, ◌≤◌, ◌<◌}
use native.Mathlib.Omega.{arith}
use lib.ListN.{length, get_or, drop}
use lib.Seq.{slice}
use lib.Dec.{eqb, ltb, leb}
use borrow.Author.Tests.{le-leb, lt-leb, ltb-true, ltb-false, leb-true, leb-false}
use Rattle.meaning.specs.Operations as meaning
use Rattle.table.specs.Nodes.{Node, Placing, full, placed, place}
use Rattle.table.specs.Columns.{Columns}
use Rattle.dimacs.specs.Text.{token_end, between}
use Rattle.dimacs.specs.Numbers.{Token, Closing, Literal, Wrong, is_zero, is_number, has_minus, unsigned, value_of_digits, token_of}
use Rattle.dimacs.specs.Header.{Header, Proper, Improper, is_word, header}
use Rattle.dimacs.specs.Clauses.{Next, closed, ended, refused, literal_then, after_token, clause_from, Reading, clause, complete, refusal}
use Rattle.dimacs.specs.Clauses.{clauses_from}
use Rattle.dimacs.proofs.Cases.{by}
use Rattle.dimacs.proofs.Bounds.{HeaderIn, header-in}
use Rattle.dimacs.proofs.OpenClause.{token_at, next_at, clause-end, clause-suc}
use Rattle.commands.specs.declared.Form.{Form}
use Rattle.commands.specs.declared.Form.TheVariants.{Records, Text, Binary}
use Rattle.commands.specs.declared.Mode.{Mode}
use Rattle.commands.specs.Commands.{Command, recorded, added, struck_out, wrong, finished, Read, reading, clause_read, text_read, in_form}
use Rattle.commands.specs.Commands.{is_drat, start, command_at}
use Rattle.commands.specs.Commands.{Groups, cut, groups, groups_in, groups_token, after_groups, binary_from, binary_read}
use Rattle.commands.proofs.OpenGroups.{binary-suc}
use Rattle.commands.proofs.Onward.{CommandIn, drat-in}
use Rattle.convert.specs.Convert.{Lines, lines_then, lines_from, lines_of, to_binary, to_text, binary_line, text_line, converted_by}
use Rattle.convert.proofs.Left.{whole}
use Rattle.convert.proofs.Canonical.{Bytes, binary-own}
use Rattle.convert.proofs.BinaryTrip.{binary-trip}
use Rattle.convert.proofs.TextTrip.{text-trip}
use Rattle.convert.proofs.Plain.{text-own}
use Rattle.convert.proofs.ThereAndBack.{result_of, converted-is}
use Rattle.verdict.specs.Steps.{State, emptied, begun, Step, next as goes_on, stop, spent}
use Rattle.verdict.specs.Check.{finish, step, Verdict, CheckOutcome, lent_fits, outcome, check, left, after_step, commands, proof_from}
use Rattle.verdict.specs.Check.{after_clause, clauses, check_after_header, verdict}
use Rattle.verdict.proofs.Commands.{Known, fit-known, command-fit, start-within}
use Rattle.demands.specs.Stays.{placeless, placeless_outcome}

-- ---- a literal read for fewer variables

-- Whether all literals are of the variables up to n.
within_all : ℕ → List meaning.Literal → Bool
within_all n [] = true
within_all n (l ∷ ls) = leb l.variable n && within_all n ls

-- What a token that was read for 64 variables says for n.
narrowed : ℕ → Token → Token
narrowed n Closing = Closing
narrowed n (Wrong k) = Wrong k
narrowed n (Literal v b) = cond (leb v n) (Literal v b) (Wrong 4)

token-narrowed : (n : ℕ) → n ≤ 64 → (bs : List ℕ) → token_of n bs ≡ narrowed n (token_of 64 bs)
unfolding token_of narrowed
token-narrowed n narrow bs = go (is_zero bs) (is_number bs) (leb v 64) refl (leb v n) refl
  where
    v : ℕ
    v = value_of_digits (unsigned bs)

    go : (z d w : Bool) → leb v 64 ≡ w → (u : Bool) → leb v n ≡ u
        → cond z Closing (cond d (cond u (Literal v (not (has_minus bs))) (Wrong 4)) (Wrong 3))
        ≡ narrowed n (cond z Closing (cond d (cond w (Literal v (not (has_minus bs))) (Wrong 4)) (Wrong 3)))
    go true d w p u q = refl
    go false false w p u q = refl
    go false true true p u q = ap (λ (x : Bool). cond x (Literal v (not (has_minus bs))) (Wrong 4)) (sym q)
    go false true false p true q = absurd (omega (arith, leb-false v 64 p, leb-true v n q))
    go false true false p false q = refl

groups-narrowed : (n : ℕ) → n ≤ 64 → (u many last : ℕ) → groups_token n u many last ≡ narrowed n (groups_token 64 u many last)
unfolding narrowed
groups-narrowed n narrow u many last = go (eqb u 0 && eqb many 1) (eqb last 0 || eqb u 1) (ltb 64 (u / 2)) refl (ltb n (u / 2)) refl
  where
    go : (x y w : Bool) → ltb 64 (u / 2) ≡ w → (z : Bool) → ltb n (u / 2) ≡ z
        → cond x Closing (cond y (Wrong 31) (cond z (Wrong 4) (Literal (u / 2) (eqb (u % 2) 0))))
        ≡ narrowed n (cond x Closing (cond y (Wrong 31) (cond w (Wrong 4) (Literal (u / 2) (eqb (u % 2) 0)))))
    go true y w p z q = refl
    go false true w p z q = refl
    go false false true p true q = refl
    go false false true p false q = absurd (omega (arith, ltb-true 64 (u / 2) p, ltb-false n (u / 2) q))
    go false false false p true q = sym (ap (λ (x : Bool). cond x (Literal (u / 2) (eqb (u % 2) 0)) (Wrong 4))
        (lt-leb (u / 2) n (ltb-true n (u / 2) q)))
    go false false false p false q = sym (ap (λ (x : Bool). cond x (Literal (u / 2) (eqb (u % 2) 0)) (Wrong 4))
        (le-leb (u / 2) n (ltb-false n (u / 2) q)))

-- ---- a clause

-- A clause that closes for 64 variables closes for n, or it is 4.
abbrev Narrows : ℕ → Next → Next → Type 0
Narrows n (closed ls first next) y = ((within_all n ls ≡ true) × (y ≡ closed ls first next)) ⊎
    ((within_all n ls ≡ false) × ((p : ℕ) × (y ≡ refused 4 p)))
Narrows n (refused number place) y = Unit {0}
Narrows n ended y = Unit {0}

literal-narrows : (n v : ℕ) (b : Bool) (first at end : ℕ) (x y : Next) → Narrows n x y
    → Narrows n (literal_then (record { variable = v; positive = b }) x)
    (after_token (cond (leb v n) (Literal v b) (Wrong 4)) first at end y)
unfolding within_all
literal-narrows n v b first at end (refused number place) y N = tt
literal-narrows n v b first at end ended y N = tt
literal-narrows n v b first at end (closed ls f next) y N = go (leb v n) refl N
  where
    l : meaning.Literal
    l = record { variable = v; positive = b }

    go : (t : Bool) → leb v n ≡ t → Narrows n (closed ls f next) y → Narrows n (closed (l ∷ ls) f next)
        (after_token (cond (leb v n) (Literal v b) (Wrong 4)) first at end y)
    go true e (inl (within, is)) = inl (rw e within, rw e (ap (literal_then l) is))
    go true e (inr (beyond, (p, is))) = inr (rw e beyond, (p, rw e (ap (literal_then l) is)))
    go false e N = inr (rw e refl, (at, rw e refl))

after-narrows : (n : ℕ) (t : Token) (first at end : ℕ) (x y : Next) → Narrows n x y →
    Narrows n (after_token t first at end x) (after_token (narrowed n t) first at end y)
unfolding narrowed within_all
after-narrows n Closing first at end x y N = inl (refl, refl)
after-narrows n (Wrong k) first at end x y N = tt
after-narrows n (Literal v b) first at end x y N = literal-narrows n v b first at end x y N

module _ (n : ℕ) (narrow : n ≤ 64) (s : List ℕ) (first : ℕ) where
  text-zero : (at : ℕ) → Narrows n (clause_from s 64 zero first at) (clause_from s n zero first at)
  unfolding clause_from
  text-zero at = tt

  text-narrows : (k at : ℕ) → Narrows n (clause_from s 64 k first at) (clause_from s n k first at)
  text-narrows zero at = text-zero at
  text-narrows (suc k) at =
      by (ltb at (length s))
      (λ t. let inside : at < length s = ltb-true at (length s) t in
      subst (λ (x : Next). Narrows n x (clause_from s n (suc k) first at)) (sym (clause-suc s 64 k first at inside))
      (subst (Narrows n (after_token (token_at s 64 at) first at (token_end s at) (clause_from s 64 k first (next_at s 64 at))))
      (sym (clause-suc s n k first at inside
      ∙ ap (λ (x : Token). after_token x first at (token_end s at) (clause_from s n k first (next_at s n at)))
      (token-narrowed n narrow (slice at (token_end s at) s))))
      (after-narrows n (token_at s 64 at) first at (token_end s at) (clause_from s 64 k first (next_at s 64 at))
      (clause_from s n k first (next_at s n at)) (text-narrows k (next_at s n at)))))
      (λ f. subst (λ (x : Next). Narrows n x (clause_from s n (suc k) first at))
      (sym (clause-end s 64 (suc k) first at (ltb-false at (length s) f))) tt)

  groups-narrows : (g : Groups) (at : ℕ) (rest rest' : ℕ → Next) → ((m : ℕ) → Narrows n (rest m) (rest' m)) →
      Narrows n (after_groups 64 first at g rest) (after_groups n first at g rest')
  groups-narrows cut at rest rest' N = tt
  groups-narrows (groups u many last) at rest rest' N =
      subst (λ (t : Token). Narrows n (after_token (groups_token 64 u many last) first at (at + many) (rest (at + many)))
      (after_token t first at (at + many) (rest' (at + many))))
      (sym (groups-narrowed n narrow u many last))
      (after-narrows n (groups_token 64 u many last) first at (at + many) (rest (at + many)) (rest' (at + many)) (N (at + many)))

  binary-zero : (at : ℕ) → Narrows n (binary_from s 64 zero first at) (binary_from s n zero first at)
  unfolding binary_from
  binary-zero at = tt

  binary-narrows : (k at : ℕ) → Narrows n (binary_from s 64 k first at) (binary_from s n k first at)
  binary-narrows zero at = binary-zero at
  binary-narrows (suc k) at =
      subst (λ (x : Next). Narrows n x (binary_from s n (suc k) first at)) (sym (binary-suc s 64 k first at))
      (subst (Narrows n (after_groups 64 first at (groups_in (drop at s)) (λ next. binary_from s 64 k first next)))
      (sym (binary-suc s n k first at))
      (groups-narrows (groups_in (drop at s)) at (λ next. binary_from s 64 k first next) (λ next. binary_from s n k first next)
      (λ m. binary-narrows k m)))

-- ---- a command

-- A command that is read for 64 variables, as it is read for n.
abbrev Same : ℕ → ℕ → List meaning.Literal → Read → Read → Type 0
Same n at ls r r' = ((within_all n ls ≡ true) × (r' ≡ r)) ⊎ ((within_all n ls ≡ false) × ((o : ℕ) × (r' ≡ reading (wrong 4 o) at)))

abbrev CommandNarrows : ℕ → ℕ → Command → ℕ → Read → Type 0
CommandNarrows n at (added ls) next r' = Same n at ls (reading (added ls) next) r'
CommandNarrows n at (struck_out ls) next r' = Same n at ls (reading (struck_out ls) next) r'
CommandNarrows n at finished next r' = r' ≡ reading finished next
CommandNarrows n at (wrong number offset) next r' = Unit {0}
CommandNarrows n at (recorded r more) next r' = Unit {0}

abbrev ReadNarrows : ℕ → ℕ → Read → Read → Type 0
ReadNarrows n at r r' = CommandNarrows n at r.command r.next r'

module _ (n at : ℕ) (onward : ℕ → ℕ) where
  adds-narrow : (x y : Next) → Narrows n x y → ReadNarrows n at (clause_read onward at added x) (clause_read onward at added y)
  adds-narrow (closed ls first next) y (inl (within, is)) = inl (within, ap (clause_read onward at added) is)
  adds-narrow (closed ls first next) y (inr (beyond, (p, is))) = inr (beyond, (p - at, ap (clause_read onward at added) is))
  adds-narrow (refused number place) y N = tt
  adds-narrow ended y N = tt

  strikes-narrow : (x y : Next) → Narrows n x y → ReadNarrows n at (clause_read onward at struck_out x) (clause_read onward at struck_out y)
  strikes-narrow (closed ls first next) y (inl (within, is)) = inl (within, ap (clause_read onward at struck_out) is)
  strikes-narrow (closed ls first next) y (inr (beyond, (p, is))) = inr (beyond, (p - at, ap (clause_read onward at struck_out) is))
  strikes-narrow (refused number place) y N = tt
  strikes-narrow ended y N = tt

either : (n at : ℕ) (t : Bool) (x y x' y' : Read) → ReadNarrows n at x x' → ReadNarrows n at y y' →
    ReadNarrows n at (cond t x y) (cond t x' y')
either n at true x y x' y' p q = p
either n at false x y x' y' p q = q

command-narrows : (form : Form) → is_drat form ≡ true → (n : ℕ) → n ≤ 64 → (s : List ℕ) (at : ℕ) →
    ReadNarrows n at (command_at form s 64 at) (command_at form s n at)
unfolding text_read binary_read
command-narrows Records drat n narrow s at = let z : ◌≡◌ {A = ℕ} 0 1 = cc in absurd (omega arith)
command-narrows Text drat n narrow s at =
    let body : ℕ = between s (at + 1) in
    let striking : ℕ → Read = λ m. clause_read (between s) at struck_out (clause_from s m (length s - body) at body) in
    let adding : ℕ → Read = λ m. clause_read (between s) at added (clause_from s m (length s - at) at at) in
    either n at (ltb at (length s)) (cond (is_word s at (100 ∷ [])) (striking 64) (adding 64)) (reading finished at)
    (cond (is_word s at (100 ∷ [])) (striking n) (adding n)) (reading finished at)
    (either n at (is_word s at (100 ∷ [])) (striking 64) (adding 64) (striking n) (adding n)
    (strikes-narrow n at (between s) (clause_from s 64 (length s - body) at body) (clause_from s n (length s - body) at body)
    (text-narrows n narrow s at (length s - body) body))
    (adds-narrow n at (between s) (clause_from s 64 (length s - at) at at) (clause_from s n (length s - at) at at)
    (text-narrows n narrow s at (length s - at) at))) refl
command-narrows Binary drat n narrow s at =
    let body : ℕ → Next = λ m. binary_from s m (length s - (at + 1)) at (at + 1) in
    let N : Narrows n (body 64) (body n) = binary-narrows n narrow s at (length s - (at + 1)) (at + 1) in
    let adding : ℕ → Read = λ m. clause_read (λ next. next) at added (body m) in
    let striking : ℕ → Read = λ m. clause_read (λ next. next) at struck_out (body m) in
    let other : ℕ → Read = λ m. cond (eqb (get_or s at 0) 0x64) (striking m) (reading (wrong 9 0) at) in
    either n at (ltb at (length s)) (cond (eqb (get_or s at 0) 0x61) (adding 64) (other 64)) (reading finished at)
    (cond (eqb (get_or s at 0) 0x61) (adding n) (other n)) (reading finished at)
    (either n at (eqb (get_or s at 0) 0x61) (adding 64) (other 64) (adding n) (other n)
    (adds-narrow n at (λ next. next) (body 64) (body n) N)
    (either n at (eqb (get_or s at 0) 0x64) (striking 64) (reading (wrong 9 0) at) (striking n) (reading (wrong 9 0) at)
    (strikes-narrow n at (λ next. next) (body 64) (body n) N) tt)) refl

-- ---- the clauses judged as a list

-- What a step comes to, without a place.
by_step : Step → State → (State → Verdict) → Verdict
by_step (stop number offset) st rest = left number 0 st.peak st
by_step (spent number peak) st rest = left number 0 peak st
by_step (goes_on st') st rest = rest st'

-- The command of a clause.
abbrev command_of : Bool → List meaning.Literal → Command
command_of true ls = struck_out ls
command_of false ls = added ls

judged_lines : Bool → ℕ → ℕ → State → List (Bool × List meaning.Literal) → Verdict
judged_lines profile n s st [] = by_step (finish st) st (λ st'. left 10 0 st'.peak st')
judged_lines profile n s st (x ∷ xs) =
    cond (within_all n x.1) (by_step (step profile n s st (command_of x.0 x.1)) st (λ st'. judged_lines profile n s st' xs))
    (left 4 0 st.peak st)

after-step : (x : Step) (st : State) (at : ℕ) (rest rest' : State → Verdict) → ((st' : State) → placeless (rest st') ≡ rest' st') →
    placeless (after_step x st at rest) ≡ by_step x st rest'
unfolding by_step
after-step (stop number offset) st at rest rest' h = refl
after-step (spent number peak) st at rest rest' h = refl
after-step (goes_on st') st at rest rest' h = h st'

module _ (mode : Mode) (drat : is_drat mode.form ≡ true) (n s : ℕ) (narrow : n ≤ 64) (proof : List ℕ) where
  -- one command of the definition
  unfold-commands : (j : ℕ) (st : State) (at : ℕ) (r : Read) → command_at mode.form proof n at ≡ r
      → commands (suc j) mode n s proof st at ≡ after_step (step mode.consequence n s st r.command) st at
      (λ st'. commands j mode n s proof st' r.next)
  unfolding commands
  unfold-commands j st at r e = ap (λ (x : Read). after_step (step mode.consequence n s st x.command) st at
      (λ st'. commands j mode n s proof st' x.next)) e

  four : (st : State) (at o j : ℕ) → placeless (after_step (step mode.consequence n s st (wrong 4 o)) st at
      (λ st'. commands j mode n s proof st' at)) ≡ left 4 0 st.peak st
  unfolding step
  four st at o j = refl

  ends : (st : State) (at next j : ℕ) → placeless
      (after_step (step mode.consequence n s st finished) st at (λ st'. commands j mode n s proof st' next))
      ≡ judged_lines mode.consequence n s st []
  unfolding step judged_lines by_step
  ends st at next j = go st.refuted
    where
      go : (b : Bool) → placeless (after_step (cond b (stop 0 0) (stop 20 0)) st at (λ st'. commands j mode n s proof st' next))
          ≡ by_step (cond b (stop 0 0) (stop 20 0)) st (λ st'. left 10 0 st'.peak st')
      go true = refl
      go false = refl

  -- a clause and the rest
  line_stays : (b : Bool) (ls : List meaning.Literal) (st : State) (at next j : ℕ) (xs : List (Bool × List meaning.Literal)) →
      Same n at ls (reading (command_of b ls) next) (command_at mode.form proof n at)
      → ((st' : State) → placeless (commands j mode n s proof st' next) ≡ judged_lines mode.consequence n s st' xs) →
      placeless (commands (suc j) mode n s proof st at) ≡ judged_lines mode.consequence n s st ((b, ls) ∷ xs)
  unfolding judged_lines
  line_stays b ls st at next j xs (inl (within, is)) ih =
      ap placeless (unfold-commands j st at (reading (command_of b ls) next) is)
      ∙ after-step (step mode.consequence n s st (command_of b ls)) st at (λ st'. commands j mode n s proof st' next)
      (λ st'. judged_lines mode.consequence n s st' xs) ih
      ∙ sym (ap (λ (t : Bool). cond t (by_step (step mode.consequence n s st (command_of b ls)) st
      (λ st'. judged_lines mode.consequence n s st' xs)) (left 4 0 st.peak st)) within)
  line_stays b ls st at next j xs (inr (beyond, (o, is))) ih =
      ap placeless (unfold-commands j st at (reading (wrong 4 o) at) is) ∙ four st at o j
      ∙ sym (ap (λ (t : Bool). cond t (by_step (step mode.consequence n s st (command_of b ls)) st
      (λ st'. judged_lines mode.consequence n s st' xs)) (left 4 0 st.peak st)) beyond)

  abbrev Stays : ℕ → ℕ → State → ℕ → Lines → Type 0
  Stays k j st at r = r.number ≡ 0 → placeless (commands j mode n s proof st at) ≡ judged_lines mode.consequence n s st r.lines

  command-stays : (k j : ℕ) (st : State) (at : ℕ) (c : Command) (next : ℕ) → CommandIn mode.form proof 64 at c next → Known 64 c →
      CommandNarrows n at c next (command_at mode.form proof n at)
      → ((st' : State) → at < next → next ≤ length proof → Stays k j st' next (lines_from k mode.form proof next))
      → Stays (suc k) (suc j) st at (lines_then c at (lines_from k mode.form proof next))
  command-stays k j st at (recorded r more) next I K N ih z = absurd I
  command-stays k j st at (wrong number offset) next I K N ih z = absurd (omega (arith, K.0))
  command-stays k j st at finished next I K N ih z = ap placeless (unfold-commands j st at (reading finished next) N) ∙ ends st at next j
  command-stays k j st at (added ls) next I K N ih z = line_stays false ls st at next j (lines_from k mode.form proof next).lines N
      (λ st'. ih st' I.0 I.1 z)
  command-stays k j st at (struck_out ls) next I K N ih z = line_stays true ls st at next j (lines_from k mode.form proof next).lines N
      (λ st'. ih st' I.0 I.1 z)

  unfold-lines : (k at : ℕ) → lines_from (suc k) mode.form proof at ≡ lines_then (command_at mode.form proof 64 at).command at
      (lines_from k mode.form proof (command_at mode.form proof 64 at).next)
  unfolding lines_from
  unfold-lines k at = refl

  run-stays : (k j : ℕ) (st : State) (at : ℕ) → at ≤ length proof → length proof < at + k → length proof < at + j →
      Stays k j st at (lines_from k mode.form proof at)
  run-stays zero j st at within p q = absurd (omega arith)
  run-stays (suc k) zero st at within p q = absurd (omega arith)
  run-stays (suc k) (suc j) st at within p q =
      subst (Stays (suc k) (suc j) st at) (sym (unfold-lines k at))
      (command-stays k j st at (command_at mode.form proof 64 at).command (command_at mode.form proof 64 at).next
      (drat-in mode.form drat proof 64 at within)
      (fit-known mode.form 64 (command_at mode.form proof 64 at).command (command-fit mode.form proof 64 at within))
      (command-narrows mode.form drat n narrow proof at)
      (λ st' on inside. run-stays k j st' (command_at mode.form proof 64 at).next inside (omega (arith, on)) (omega (arith, on))))

  proof-stays : (st : State) → (lines_of mode.form proof).number ≡ 0 → placeless (proof_from mode n s proof st)
      ≡ judged_lines mode.consequence n s st (lines_of mode.form proof).lines
  proof-stays st = run-stays (suc (length proof)) (suc (length proof)) st (start mode.form proof) (start-within mode.form proof)
      (omega arith) (omega arith)

-- ---- the whole check

module _ (profile : Bool) (s : ℕ) (text binary : List ℕ) (t : (lines_of Text text).number ≡ 0) (b : (lines_of Binary binary).number ≡ 0)
    (same : (lines_of Text text).lines ≡ (lines_of Binary binary).lines) where
  both : (n : ℕ) → n ≤ 64 → (st : State) → placeless (proof_from (in_form Text profile) n s text st)
      ≡ placeless (proof_from (in_form Binary profile) n s binary st)
  both n narrow st = proof-stays (in_form Text profile) refl n s narrow text st t ∙ ap (judged_lines profile n s st) same
      ∙ sym (proof-stays (in_form Binary profile) refl n s narrow binary st b)

  clauses-stay : (n : ℕ) → n ≤ 64 → (nodes : List Node) (ms : List ℕ) (r : Reading) →
      placeless (clauses (in_form Text profile) n s text nodes ms r) ≡ placeless (clauses (in_form Binary profile) n s binary nodes ms r)
  unfolding clauses
  clauses-stay n narrow nodes ms complete = both n narrow (begun nodes ms)
  clauses-stay n narrow nodes ms (refusal number place) = refl
  clauses-stay n narrow nodes ms (clause ls first rest) = go (place s nodes (meaning.clause n ls))
      (λ t k. clauses-stay n narrow t (ms ++ k ∷ []) rest)
    where
      go : (p : Placing) → ((nodes : List Node) (k : ℕ) → placeless (clauses (in_form Text profile) n s text nodes (ms ++ k ∷ []) rest)
          ≡ placeless (clauses (in_form Binary profile) n s binary nodes (ms ++ k ∷ []) rest))
          → placeless (after_clause p (λ t₁ k. clauses (in_form Text profile) n s text t₁ (ms ++ k ∷ []) rest) first)
          ≡ placeless (after_clause p (λ t₁ k. clauses (in_form Binary profile) n s binary t₁ (ms ++ k ∷ []) rest) first)
      go (full t) ih = refl
      go (placed t k) ih = ih t k

  header-stays : (formula : List ℕ) (h : Header) → HeaderIn formula h →
      placeless (check_after_header (in_form Text profile) s formula text h)
      ≡ placeless (check_after_header (in_form Binary profile) s formula binary h)
  header-stays formula (Improper number place) I = refl
  header-stays formula (Proper n many at) I = clauses-stay n I.0 emptied [] (clauses_from formula n many at)

  -- THEOREM: a text and a binary proof of the same clauses get the same verdict, but for the place.
  pub verdict-stays : (formula : List ℕ) → placeless (verdict (in_form Text profile) s formula text)
      ≡ placeless (verdict (in_form Binary profile) s formula binary)
  unfolding verdict
  verdict-stays formula = header-stays formula (header formula) (header-in formula)

-- THEOREM: a text that is converted gets the verdict of what it is converted to.
pub to-binary-stays : (profile : Bool) (room s : ℕ) (formula text : List ℕ) → (to_binary room text).number ≡ 0
    → placeless (verdict (in_form Text profile) s formula text) ≡ placeless
    (verdict (in_form Binary profile) s formula (result_of (to_binary room text)))
unfolding to_binary
to-binary-stays profile room s formula text z =
    let (read, is) = converted-is binary_line room (lines_of Text text) z in
    let (own, small) = text-own text read in
    let back : lines_of Binary (result_of (converted_by binary_line room (lines_of Text text))) ≡ whole (lines_of Text text).lines =
    ap (lines_of Binary) is ∙ binary-trip (lines_of Text text).lines small in
    verdict-stays profile s text (result_of (converted_by binary_line room (lines_of Text text))) read (ap (λ (r : Lines). r.number) back)
    (sym (ap (λ (r : Lines). r.lines) back)) formula

-- THEOREM: so does a binary proof.
pub to-text-stays : (profile : Bool) (room s : ℕ) (formula binary : List ℕ) → Bytes binary → (to_text room binary).number ≡ 0
    → placeless (verdict (in_form Binary profile) s formula binary) ≡ placeless
    (verdict (in_form Text profile) s formula (result_of (to_text room binary)))
unfolding to_text
to-text-stays profile room s formula binary B z =
    let (read, is) = converted-is text_line room (lines_of Binary binary) z in
    let (own, small) = binary-own binary B read in
    let back : lines_of Text (result_of (converted_by text_line room (lines_of Binary binary))) ≡ whole (lines_of Binary binary).lines =
    ap (lines_of Text) is ∙ text-trip (lines_of Binary binary).lines small in
    sym (verdict-stays profile s (result_of (converted_by text_line room (lines_of Binary binary))) binary
    (ap (λ (r : Lines). r.number) back)
    read (ap (λ (r : Lines). r.lines) back) formula)

-- ---- the call

-- What the call says and leaves, without the place, rests on the verdict without the place.
outcome-stays : (s m c : ℕ) (v v' : Verdict) → placeless v ≡ placeless v' → placeless_outcome (outcome s m c v)
    ≡ placeless_outcome (outcome s m c v')
unfolding outcome
outcome-stays s m c v v' e = ap (λ (x : Verdict). placeless_outcome (outcome s m c x)) e

module _ (profile : Bool) (c : Columns) (count : ℕ) (members struck scratch formula : List ℕ) where
  call_stays : (mode mode' : Mode) (proof proof' : List ℕ) →
      ((s : ℕ) → placeless (verdict mode s formula proof) ≡ placeless (verdict mode' s formula proof'))
      → placeless_outcome (check mode c count members struck scratch formula proof)
      ≡ placeless_outcome (check mode' c count members struck scratch formula proof')
  unfolding check
  call_stays mode mode' proof proof' e = go (lent_fits c members struck scratch)
      (outcome (length c.vars) (length members) (length scratch) (verdict mode (length c.vars) formula proof))
      (outcome (length c.vars) (length members) (length scratch) (verdict mode' (length c.vars) formula proof'))
      (outcome-stays (length c.vars) (length members) (length scratch) (verdict mode (length c.vars) formula proof)
      (verdict mode' (length c.vars) formula proof') (e (length c.vars)))
    where
      seven : CheckOutcome
      seven = record {
        number = 7;
        in_proof = false;
        place = 0;
        lines = 0;
        rounds = 0;
        count = count;
        peak = 0;
        columns = c;
        members =
            members;
        struck = struck;
        scratch = scratch;
      }

      go : (b : Bool) (x y : CheckOutcome) → placeless_outcome x ≡ placeless_outcome y → placeless_outcome (cond b x seven)
          ≡ placeless_outcome (cond b y seven)
      go true x y e = e
      go false x y e = refl

  pub check-to-binary : (room : ℕ) (text : List ℕ) → (to_binary room text).number ≡ 0
      → placeless_outcome (check (in_form Text profile) c count members struck scratch formula text)
      ≡ placeless_outcome (check (in_form Binary profile) c count members struck scratch formula (result_of (to_binary room text)))
  check-to-binary room text z = call_stays (in_form Text profile) (in_form Binary profile) text (result_of (to_binary room text))
      (λ s. to-binary-stays profile room s formula text z)

  pub check-to-text : (room : ℕ) (binary : List ℕ) → Bytes binary → (to_text room binary).number ≡ 0
      → placeless_outcome (check (in_form Binary profile) c count members struck scratch formula binary)
      ≡ placeless_outcome (check (in_form Text profile) c count members struck scratch formula (result_of (to_text room binary)))
  check-to-text room binary B z = call_stays (in_form Binary profile) (in_form Text profile) binary (result_of (to_text room binary))
      (λ s. to-text-stays profile room s formula binary B z)
