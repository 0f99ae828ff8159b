-- The piece that is shown is a part of its text. The idea: the check's place lies in the text, and so does the end of the line, token,
-- record or clause there. Assumes nothing.
use mathlib.Core.Path.{◌≡◌, refl, sym, ap, subst}
use mathlib.Core.Bool.{Bool, true, false, ◌&&◌, ◌||◌, cond}
use mathlib.Core.List.{List, [], ◌∷◌}
use Prim.Native.Nat.{ℕ, ◌+◌, ◌-◌, ◌≤◌, ◌<◌}
use native.Mathlib.Omega.{arith}
use lib.ListN.{length, drop, length-drop}
use lib.Dec.{eqb, ltb, leb}
use borrow.Author.Tests.{ltb-true, ltb-false, eqb-true}
use Rattle.meaning.specs.Operations.{Literal}
use Rattle.meaning.proofs.Booleans.{and_both}
use Rattle.dimacs.specs.Text.{is_token, is_line, token_end, line_end, past, between}
use Rattle.dimacs.specs.Header.{is_word}
use Rattle.dimacs.specs.Clauses.{Next, closed, ended, refused, clause_from}
use Rattle.dimacs.proofs.Runs.{past-least, past-most}
use Rattle.dimacs.proofs.Between.{between-least, between-most}
use Rattle.records.specs.declared.Record.{Record}
use Rattle.records.specs.declared.Record.TheVariants.{End}
use Rattle.records.specs.Records.{record_at, length_of, number_of}
use Rattle.records.proofs.Reading.{record-none}
use Rattle.records.proofs.Laws.{record-within}
use Rattle.commands.specs.declared.Form.{Form}
use Rattle.commands.specs.declared.Form.TheVariants.{Records, Text, Binary}
use Rattle.commands.specs.declared.Mode.{Mode}
use Rattle.commands.specs.Commands.{Command, recorded, added, struck_out, wrong, finished, command_at, is_drat}
use Rattle.commands.specs.Commands.{Groups, cut, groups, groups_in, binary_read}
use Rattle.commands.proofs.Groups.{Well, groups-well}
use Rattle.commands.proofs.Reading.{Fault, ClauseIn, clause-in}
use Rattle.commands.proofs.Onward.{CommandIn, drat-in}
use Rattle.verdict.specs.Steps.{State, Step, next, stop, waiting, record_step, end_step}
use Rattle.verdict.specs.Check.{shut_out, step, Verdict, verdict}
use Rattle.verdict.proofs.Steps as steps
use Rattle.verdict.proofs.Offsets.{Offset, at-record, at-striking, behind-end, Placed, shut-placed}
use Rattle.verdict.proofs.ClauseSays.{AddedSays, added-says, StruckSays, struck-says, FinishSays, finish-says}
use Rattle.verdict.proofs.Ends.{reached-in}
use Rattle.verdict.proofs.Numbers.{NumberedIn, reached-numbered, spent-number}
use Rattle.causes.specs.Parts.{nothing, formula_end, record_end, closed_end, clause_end, groups_end, read_end, binary_end, proof_end}
use Rattle.causes.specs.Parts.{part_of}
use Rattle.causes.specs.Causes.{plain}
use Rattle.causes.specs.Explanation.{Ending, explained, explanation, cause_in, ending}
use Rattle.causes.specs.Shows.{EndsAt, formula-refused, proof-stopped, proof-spent, Inside}
use Rattle.causes.proofs.Ending.{ending-is}

-- An end of a piece that starts at a place of s.
abbrev Ends : List ℕ → ℕ → ℕ → Type 0
Ends s at end = (at ≤ end) × (end ≤ length s)

either : (s : List ℕ) (at : ℕ) (t : Bool) (x y : ℕ) → (t ≡ true → Ends s at x) → (t ≡ false → Ends s at y) → Ends s at (cond t x y)
either s at true x y h k = h refl
either s at false x y h k = k refl

token-ends : (s : List ℕ) (at : ℕ) → at ≤ length s → Ends s at (token_end s at)
token-ends s at h = (past-least is_token s at, past-most is_token s at h)

line-ends : (s : List ℕ) (at : ℕ) → at ≤ length s → Ends s at (line_end s at)
line-ends s at h = (past-least is_line s at, past-most is_line s at h)

formula-ends : (number : ℕ) (s : List ℕ) (at : ℕ) → at ≤ length s → Ends s at (formula_end number s at)
formula-ends number s at h = either s at (leb number 2) (line_end s at) (token_end s at) (λ _. line-ends s at h) (λ _. token-ends s at h)

-- ---- records

begun : (s : List ℕ) (at : ℕ) → number_of (record_at s at) ≡ 9 → at < length s
begun s at e = go (ltb at (length s)) refl
  where
    go : (t : Bool) → ltb at (length s) ≡ t → at < length s
    go true h = ltb-true at (length s) h
    go false h = let q : number_of (record_at s at) ≡ 10 = ap number_of (record-none s at (ltb-false at (length s) h)) in
        absurd (omega (arith, q, e))

record-ends : (s : List ℕ) (at : ℕ) → at ≤ length s → Ends s at (record_end s at (record_at s at))
record-ends s at h =
    either s at (eqb (number_of (record_at s at)) 0) (at + length_of (record_at s at)) _
    (λ t. let within : at + length_of (record_at s at) ≤ length s = record-within s at refl (eqb-true (number_of (record_at s at)) 0 t) in
    (omega arith, within))
    (λ _. either s at (eqb (number_of (record_at s at)) 9) (at + 1) (length s)
    (λ t. let lt : at < length s = begun s at (eqb-true (number_of (record_at s at)) 9 t) in (omega arith, omega (arith, lt)))
    (λ _. (h, omega arith)))

-- ---- a text

closed-ends : (F : ℕ → ℕ → ℕ → Type 0) (s : List ℕ) (n first at from : ℕ) → at ≤ from → from ≤ length s → (x : Next) →
    ClauseIn F s n first from x → Ends s at (closed_end s x)
closed-ends F s n first at from le most (closed ls f behind) i = (omega (arith, le, i.0), i.1)
closed-ends F s n first at from le most ended i = absurd i
closed-ends F s n first at from le most (refused number place) i = (omega (arith, le, most), omega arith)

clause-ends : (s : List ℕ) (at : ℕ) → at ≤ length s → Ends s at (clause_end s at)
unfolding clause_end
clause-ends s at h =
    let body : ℕ = between s (at + 1) in
    let behind : at ≤ body = omega (arith, between-least s (at + 1)) in
    either s at (ltb at (length s)) _ (length s)
    (λ t. let lt : at < length s = ltb-true at (length s) t in
    either s at (is_word s at (100 ∷ [])) (closed_end s (clause_from s 64 (length s - body) at body))
    (closed_end s (clause_from s 64 (length s - at) at at))
    (λ _. closed-ends Fault s 64 at at body behind (between-most s (at + 1) (omega (arith, lt)))
    (clause_from s 64 (length s - body) at body)
    (clause-in s 64 at (length s - body) body behind h))
    (λ _. closed-ends Fault s 64 at at at (omega arith) h (clause_from s 64 (length s - at) at at)
    (clause-in s 64 at (length s - at) at (omega arith) h)))
    (λ _. (h, omega arith))

-- ---- the place

-- The end record is refused with 11 only where a byte follows it.
end-followed : (st : State) (more : Bool) (offset : ℕ) → end_step st more ≡ stop 11 offset → more ≡ true
unfolding end_step
end-followed st more offset e = go more (steps.past (waiting st) 16 0 _ refl e).1
  where
    go : (more : Bool) → cond more (stop 11 1) (cond st.refuted (stop 0 0) (stop 20 0)) ≡ stop 11 offset → more ≡ true
    go true e = refl
    go false e = ends st.refuted e
      where
        ends : (c : Bool) → cond c (stop 0 0) (stop 20 0) ≡ stop 11 offset → false ≡ true
        ends true e = steps.stop-other 0 0 refl e
        ends false e = steps.stop-other 20 0 refl e

end-so : (profile : Bool) (n s : ℕ) (st : State) (more : Bool) (offset : ℕ)
    → cond (shut_out profile End) (stop 33 0) (record_step n s st more End) ≡ stop 11 offset → more ≡ true
unfolding record_step
end-so true n s st more offset e = end-followed st more offset e
end-so false n s st more offset e = end-followed st more offset e

step-record : (profile : Bool) (n s : ℕ) (st : State) (r : Record) (more : Bool) (x : Step) → step profile n s st (recorded r more) ≡ x
    → cond (shut_out profile r) (stop 33 0) (record_step n s st more r) ≡ x
unfolding step
step-record profile n s st r more x e = e

-- A clause of a text, and its end, are refused at their first byte; a fault where it stands.
added-at : (profile : Bool) (n s : ℕ) (st : State) (ls : List Literal) (number offset : ℕ) → step profile n s st (added ls)
    ≡ stop number offset → offset ≡ 0
unfolding step
added-at profile n s st ls number offset e = (subst AddedSays e (added-says profile n s st ls)).1

struck-at : (profile : Bool) (n s : ℕ) (st : State) (ls : List Literal) (number offset : ℕ) → step profile n s st (struck_out ls)
    ≡ stop number offset → offset ≡ 0
unfolding step
struck-at profile n s st ls number offset e = (subst StruckSays e (struck-says n st ls)).1

finished-at : (profile : Bool) (n s : ℕ) (st : State) (number offset : ℕ) → step profile n s st finished ≡ stop number offset → offset ≡ 0
unfolding step
finished-at profile n s st number offset e = (subst FinishSays e (finish-says st)).1

wrong-at : (profile : Bool) (n s : ℕ) (st : State) (k o number offset : ℕ) → step profile n s st (wrong k o) ≡ stop number offset → o
    ≡ offset
unfolding step
wrong-at profile n s st k o number offset e = cc

-- A record that is refused before it makes a node.
module _ (profile : Bool) (n s : ℕ) (st : State) (proof : List ℕ) (at : ℕ) (inside : at ≤ length proof) where
  abbrev here : Record
  here = record_at proof at

  abbrev more : Bool
  more = ltb (at + length_of here) (length proof)

  record-stops : (number offset : ℕ) → cond (shut_out profile here) (stop 33 0) (record_step n s st more here) ≡ stop number offset →
      Ends proof (at + offset) (proof_end Records number proof (at + offset))
  record-stops number offset e = go (subst (Placed st here) e (shut-placed profile n s st more here))
    where
      at-start : offset ≡ 0 → eqb number 11 ≡ false → Ends proof (at + offset) (proof_end Records number proof (at + offset))
      at-start o other =
          let here-at : at + offset ≡ at = omega (arith, o) in
          subst (λ (x : ℕ). Ends proof x (proof_end Records number proof x)) (sym here-at) (rw other (record-ends proof at inside))

      behind : offset ≡ 1 → number ≡ 11 → here ≡ End → Ends proof (at + offset) (proof_end Records number proof (at + offset))
      behind o k is =
          let q : ended_by End ≡ stop 11 offset =
          subst (λ (r : Record). ended_by r ≡ stop 11 offset) is (subst (λ (x : ℕ). ended_by here ≡ stop x offset) k e) in
          let lt : at + 1 < length proof = ltb-true (at + 1) (length proof) (end-so profile n s st (ltb (at + 1) (length proof)) offset q)
          in
          rw (o, k) (omega arith, omega (arith, lt))
        where
          ended_by : Record → Step
          ended_by r = cond (shut_out profile r) (stop 33 0) (record_step n s st (ltb (at + length_of r) (length proof)) r)

      go : Offset st here number offset → Ends proof (at + offset) (proof_end Records number proof (at + offset))
      go (at-record o other another) = at-start o other
      go (at-striking o k is w l) = at-start o (ap (λ (x : ℕ). eqb x 11) k)
      go (behind-end o k is) = behind o k is

-- The piece of a text ends in it, wherever it starts.
text-ends : (number : ℕ) (s : List ℕ) (at : ℕ) → at ≤ length s → Ends s at (proof_end Text number s at)
text-ends number s at h = either s at (leb number 4) (token_end s at) (clause_end s at) (λ _. token-ends s at h) (λ _. clause-ends s at h)

-- The piece of a binary proof ends in it, wherever it starts.
groups-ends : (s : List ℕ) (at : ℕ) → at ≤ length s → (g : Groups) → groups_in (drop at s) ≡ g → Ends s at (groups_end at g)
groups-ends s at h cut e = (omega arith, h)
groups-ends s at h (groups number many last) e =
    let W : Well (drop at s) number many last = groups-well (drop at s) number many last e in
    (omega arith, omega (arith, W.within, length-drop at s))

read-ends : (s : List ℕ) (at : ℕ) → at ≤ length s → (c : Command) (after : ℕ) → CommandIn Binary s 64 at c after →
    Ends s at (read_end s c after)
read-ends s at h (recorded r more) after i = absurd i
read-ends s at h (added ls) after i = (omega (arith, i.0), i.1)
read-ends s at h (struck_out ls) after i = (omega (arith, i.0), i.1)
read-ends s at h (wrong number offset) after i = (h, omega arith)
read-ends s at h finished after i = (h, omega arith)

binary-ends : (number : ℕ) (s : List ℕ) (at : ℕ) → at ≤ length s → Ends s at (proof_end Binary number s at)
unfolding binary_end
binary-ends number s at h =
    either s at (eqb number 9 && ltb at (length s)) (at + 1) _
    (λ t. let lt : at < length s = ltb-true at (length s) (and_both (eqb number 9) (ltb at (length s)) t).1 in
    (omega arith, omega (arith, lt)))
    (λ _. either s at (eqb number 4 || eqb number 31) (groups_end at (groups_in (drop at s))) _
    (λ _. groups-ends s at h (groups_in (drop at s)) refl)
    (λ _. read-ends s at h (binary_read s 64 at).command (binary_read s 64 at).next (drat-in Binary refl s 64 at h)))

-- A command of a DRAT proof is refused in the proof.
drat-stops : (profile : Bool) (form : Form) → is_drat form ≡ true → (n s : ℕ) (st : State) (proof : List ℕ) (at : ℕ) → at ≤ length proof →
    (number offset : ℕ) → step profile n s st (command_at form proof n at).command ≡ stop number offset
    → at + offset ≤ length proof
drat-stops profile form drat n s st proof at inside number offset e =
    go (command_at form proof n at).command (command_at form proof n at).next (drat-in form drat proof n at inside) e
  where
    go : (c : Command) (after : ℕ) → CommandIn form proof n at c after → step profile n s st c ≡ stop number offset →
        at + offset ≤ length proof
    go (recorded r more) after i e = absurd i
    go (added ls) after i e = omega (arith, inside, added-at profile n s st ls number offset e)
    go (struck_out ls) after i e = omega (arith, inside, struck-at profile n s st ls number offset e)
    go (wrong k o) after i e = let q : o ≡ offset = wrong-at profile n s st k o number offset e in omega (arith, i.1, q)
    go finished after i e = omega (arith, inside, finished-at profile n s st number offset e)

module _ (mode : Mode) (s : ℕ) (text proof : List ℕ) where
  stop-ends : (profile : Bool) (form : Form) (n : ℕ) (st : State) (at : ℕ) → at ≤ length proof → (number offset : ℕ) →
      step profile n s st (command_at form proof n at).command ≡ stop number offset
      → Ends proof (at + offset) (proof_end form number proof (at + offset))
  stop-ends profile Records n st at inside number offset e = record-stops profile n s st proof at inside number offset
      (step-record profile n s st _ _ _ e)
  stop-ends profile Text n st at inside number offset e = text-ends number proof (at + offset)
      (drat-stops profile Text refl n s st proof at inside number offset e)
  stop-ends profile Binary n st at inside number offset e =
      binary-ends number proof (at + offset) (drat-stops profile Binary refl n s st proof at inside number offset e)

  spent_ends : (form : Form) (at : ℕ) → at ≤ length proof → (number : ℕ) → 19 ≤ number → Ends proof at (proof_end form number proof at)
  spent_ends Records at inside number late =
      either proof at (eqb number 11) (at + 1) (record_end proof at (record_at proof at))
      (λ t. let q : number ≡ 11 = eqb-true number 11 t in absurd (omega (arith, late, q))) (λ _. record-ends proof at inside)
  spent_ends Text at inside number late = text-ends number proof at inside
  spent_ends Binary at inside number late = binary-ends number proof at inside

  part-inside : (v : Verdict) (x : Ending) → EndsAt mode s text proof v x → Inside text proof (part_of mode text proof v)
  unfolding part_of
  part-inside _ _ (formula-refused {number} {place} k i) = let (least, most) = formula-ends number text place i in
      record { order = least; end = most }
  part-inside _ _ (proof-stopped {n} {number} {offset} {at} {st} R e) =
      let (least, most) = stop-ends mode.consequence mode.form n st at (reached-in mode s text proof R) number offset e in
      record { order = least; end = most }
  part-inside _ _ (proof-spent {n} {number} {peak} {at} {st} R e) =
      let late = spent-number mode.form number peak (subst (NumberedIn mode.form) e (reached-numbered mode s text proof R)) in
      let (least, most) = spent_ends mode.form at (reached-in mode s text proof R) number late.0 in
      record { order = least; end = most }

  -- THEOREM: the piece that is shown is a part of the formula or of the proof.
  pub piece_inside : Inside text proof (explanation mode s text proof).part
  unfolding explanation
  piece_inside = go (eqb (verdict mode s text proof).number 0)
    where
      go : (t : Bool) → Inside text proof (cond t (explained 30 nothing plain)
          (explained (verdict mode s text proof).number (part_of mode text proof (verdict mode s text proof))
          (cause_in mode (verdict mode s text proof).number proof (ending mode s text proof)))).part
      go true = record { order = omega arith; end = omega arith }
      go false = part-inside (verdict mode s text proof) (ending mode s text proof) (ending-is mode s text proof)
