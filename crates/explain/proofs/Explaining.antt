-- What is said of a refused check: its piece, and the cause, where there is one beside the number. Assumes nothing.
use mathlib.Core.Path.{◌≡◌, refl, sym, ap, ap₂, ◌∙◌, subst}
use mathlib.Core.Logic.{◌≢◌}
use mathlib.Core.Bool.{Bool, false}
use mathlib.Core.List.{List}
use Prim.Native.Nat.{ℕ, ◌≤◌}
use native.Mathlib.Omega.{arith}
use lib.ListN.{length}
use borrow.Author.Tests.{eq-eqb, ne_eqb}
use Rattle.table.specs.Columns.{Columns}
use Rattle.commands.specs.declared.Mode.{Mode}
use Rattle.verdict.specs.Check.{Verdict, verdict, zeros}
use Rattle.session.specs.declared.Checked.{Checked}
use Rattle.causes.specs.Parts.{Part, nothing, part_of}
use Rattle.causes.specs.Causes.{Cause, plain}
use Rattle.causes.specs.Explanation.{Ending, unread, ended, Explanation, explained, cause_in, ending, explanation}
use Rattle.causes.specs.Shows.{text_of, Inside}
use Rattle.causes.specs.Answers.{Told, told, WhyOutcome}
use Rattle.causes.proofs.Causes.{cause-plain}
use Rattle.causes.proofs.Pieces.{piece_inside}
use Rattle.pieces.specs.Shown.{piece_end}
use Rattle.line_again.specs.Before.{has_cause}
use Rattle.command_causes.specs.declared.Cause as code
use Rattle.command_causes.specs.Causes.{told_by}
use Rattle.explain.specs.Inner.{explained_in, no_cause, why_of}
use Rattle.explain.specs.Why.{why_outcome}

-- nothing told beside the number
told_none : (words : List ℕ) → words ≡ zeros (length words) → told_by no_cause words ≡ told (length words) plain
unfolding told
told_none words zero = ap (told_by no_cause) zero

module _ (mode : Mode) (s : ℕ) (formula proof : List ℕ) where
  abbrev v : Verdict
  v = verdict mode s formula proof

  abbrev end : Ending
  end = ending mode s formula proof

  pub explanation-thirty : v.number ≡ 0 → explanation mode s formula proof ≡ explained 30 nothing plain
  unfolding explanation
  explanation-thirty e = rw (eq-eqb v.number 0 e)

  abbrev refused : Explanation
  refused = explained v.number (part_of mode formula proof v) (cause_in mode v.number proof end)

  module _ (some : v.number ≢ 0) where
    explanation-refused : explanation mode s formula proof ≡ refused
    unfolding explanation
    explanation-refused = rw (ne_eqb v.number 0 some)

    inside : Inside formula proof (part_of mode formula proof v)
    inside = subst (λ (e : Explanation). Inside formula proof e.part) explanation-refused (piece_inside mode s formula proof)

    -- The piece starts in its text.
    pub place_in : v.place ≤ length (text_of v.in_proof formula proof)
    unfolding part_of
    place_in = omega (arith, inside.order, inside.end)

    -- What the check said.
    module _ (r : Checked) (number_is : r.number ≡ v.number) (in-proof-is : r.in_proof ≡ v.in_proof) (place_is : r.place ≡ v.place)
      where
        pub piece-asks : r.place ≤ length (text_of r.in_proof formula proof)
        piece-asks =
            subst (λ (b : Bool). r.place ≤ length (text_of b formula proof)) (sym in-proof-is)
            (subst (λ (k : ℕ). k ≤ length (text_of v.in_proof formula proof)) (sym place_is) place_in)

        abbrev shown_to : ℕ → Part
        shown_to to = record { in_proof = r.in_proof; start = r.place; end = to }

        piece_is : (to : ℕ) → to ≡ piece_end mode.form formula proof r.number r.in_proof r.place
            → shown_to to ≡ part_of mode formula proof v
        unfolding part_of
        piece_is to e =
            ap shown_to e
            ∙ ap (λ (k : ℕ). piece k r.in_proof r.place) number_is
            ∙ ap₂ (λ (b : Bool) (k : ℕ). piece v.number b k) in-proof-is place_is
          where
            piece : ℕ → Bool → ℕ → Part
            piece number b at = record { in_proof = b; start = at; end = piece_end mode.form formula proof number b at }

        -- The lists l, with words for the literals.
        module _ (columns : Columns) (members struck scratch : List ℕ) (to : ℕ)
            (to_is : to ≡ piece_end mode.form formula proof r.number r.in_proof r.place) where
          pub explained-so : (c : code.Cause) (words : List ℕ) (m : ℕ) → told_by c words ≡ told m (cause_in mode r.number proof end)
              → why_outcome columns members struck scratch words (why_of r to c)
              ≡ (let e = explanation mode s formula proof in explained_in e (told m e.cause) r.count columns members struck scratch)
          explained-so c words m told_is =
              ap₂ (λ (k : ℕ) (p : Part). saying k p (told_by c words)) number_is (piece_is to to_is)
              ∙ ap (saying v.number (part_of mode formula proof v))
              (told_is ∙ ap (λ (k : ℕ). told m (cause_in mode k proof end)) number_is)
              ∙ ap (λ (e : Explanation). explained_in e (told m e.cause) r.count columns members struck scratch)
              (sym explanation-refused)
            where
              saying : ℕ → Part → Told → WhyOutcome
              saying number part t = record {
                number = number;
                part = part;
                told = t;
                count = r.count;
                columns = columns;
                members = members;
                struck = struck;
                scratch = scratch;
              }

          -- no cause beside the number
          pub explained-plain : has_cause r.number ≡ false → (words : List ℕ) → words ≡ zeros (length words)
              → why_outcome columns members struck scratch words (why_of r to no_cause)
              ≡ (let e = explanation mode s formula proof in
              explained_in e (told (length words) e.cause) r.count columns members struck scratch)
          explained-plain none words zero = explained-so no_cause words (length words)
              (told_none words zero ∙ ap (told (length words)) (sym (no-cause end)))
            where
              no-cause : (x : Ending) → cause_in mode r.number proof x ≡ plain
              no-cause unread = refl
              no-cause (ended n st at) = cause-plain mode.consequence n r.number st _ none
