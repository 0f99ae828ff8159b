-- A text of the grammar of DRAT is read as its commands, and nothing is refused. The idea: command by command, a gap behind each. Assumes
-- nothing.
use mathlib.Core.Path.{◌≡◌, refl, ap, sym, subst, ◌∙◌}
use mathlib.Core.Bool.{Bool, true, false, ◌&&◌}
use mathlib.Core.List.{List, [], ◌∷◌}
use Prim.Native.Nat.{ℕ, suc, ◌+◌, ◌-◌, ◌≤◌}
use native.Mathlib.Omega.{arith}
use lib.ListN.{length, get_or, drop}
use lib.Dec.{eqb}
use borrow.Author.Tests.{lt-ltb, le-ltb, eq-eqb, ne_eqb}
use Rattle.meaning.proofs.Booleans.{and-false}
use Rattle.dimacs.specs.Text.{is_token, token_end, between}
use Rattle.dimacs.specs.Header.{is_word}
use Rattle.dimacs.specs.Clauses.{Next}
use Rattle.commands.specs.declared.Form.TheVariants.{Text}
use Rattle.commands.specs.Commands.{Command, added, struck_out, finished, Read, reading, clause_read, text_read, command_at}
use Rattle.grammar.specs.Parts.{Parting, parting, Decimal, decimal_then, sign}
use Rattle.grammar.specs.Formula.{Item, clause}
use Rattle.grammar.specs.DratText.{Entry, adds, strikes, entry, said, EntryWithin, Rest, end, entry_then, rest, rest_said, RestWithin}
use Rattle.grammar.specs.DratText.{Proof, opens, empty, comment_alone, proof, proof_said, ProofWithin, IsClause, ReadsFrom, ReadsDrat}
use Rattle.grammar.proofs.Places.{Stops, outside, inside, byte, behind, past-length}
use Rattle.grammar.proofs.Gaps.{Fresh, gap-passed, ending-passed, start-gap, start-ends, comment-alone}
use Rattle.grammar.proofs.ClausesRead.{parting-stops, ending-stops, clause-fresh, clause-inside, clause-read}

-- ---- bytes

-- A clause does not start with `d`.
sign-first : (b : Bool) (m : Decimal) (r : List ℕ) (x : ℕ) (l : List ℕ) → sign b (decimal_then m r) ≡ x ∷ l → eqb x 100 ≡ false
sign-first true m r x l e = ne_eqb x 100 (λ q. let z : 48 + m.first ≡ x = cc in absurd (omega (arith, m.most)))
sign-first false m r x l e = ne_eqb x 100 (λ q. let z : ◌≡◌ {A = ℕ} 45 x = cc in absurd (omega arith))

clause-first : (is : List Item) (r : List ℕ) (x : ℕ) (l : List ℕ) → clause is r ≡ x ∷ l → eqb x 100 ≡ false
clause-first [] r x l e = ne_eqb x 100 (λ q. let z : ◌≡◌ {A = ℕ} 48 x = cc in absurd (omega arith))
clause-first (i ∷ is) r x l e = sign-first i.said.is_positive i.said.magnitude (parting i.behind (clause is r)) x l e

entry-fresh : (x : Entry) (r : List ℕ) → Fresh (entry x r)
entry-fresh (adds is) r = clause-fresh is r
entry-fresh (strikes p is) r = (refl, λ e. absurd (omega arith))

rest-stops : (b : Rest) → Stops is_token (rest b)
rest-stops (end e) = ending-stops e
rest-stops (entry_then p x b) = parting-stops p (entry x (rest b))

module _ (s : List ℕ) (n : ℕ) where
  -- ---- one command

  -- The command at a place is that one; it is followed by what comes behind the gap after the bytes r.
  record Said (at : ℕ) (c : Command) (r : List ℕ) : Type 0 where
    next : ℕ
    is : command_at Text s n at ≡ reading c (between s next)
    left : drop next s ≡ r

  not-d : (at : ℕ) (is : List Item) (r : List ℕ) → drop at s ≡ clause is r → is_word s at (100 ∷ []) ≡ false
  unfolding is_word
  not-d at is r e = go (drop at s) refl
    where
      go : (l : List ℕ) → drop at s ≡ l → (eqb (token_end s at) (at + 1) && (eqb (get_or s at 0) 100 && true)) ≡ false
      go [] q = absurd (omega (arith, clause-inside s n at is r e, outside s at q))
      go (x ∷ l) q =
          let other : eqb (get_or s at 0) 100 ≡ false = ap (λ (b : ℕ). eqb b 100) (byte s at x l q) ∙ clause-first is r x l (sym e ∙ q) in
          rw other (and-false (eqb (token_end s at) (at + 1)))

  is-d : (at : ℕ) (p : Parting) (r : List ℕ) → drop at s ≡ 100 ∷ parting p r → is_word s at (100 ∷ []) ≡ true
  unfolding is_word
  is-d at p r e =
      let ends : token_end s at ≡ at + 1 = past-length s at is_token (100 ∷ []) (parting p r) e (refl, tt) (parting-stops p r) in
      rw (eq-eqb (token_end s at) (at + 1) ends, eq-eqb (get_or s at 0) 100 (byte s at 100 (parting p r) e))

  entry_read : (x : Entry) (r : List ℕ) (at : ℕ) → drop at s ≡ entry x r → EntryWithin n x → Stops is_token r → Said at (said x) r
  unfolding text_read
  entry_read (adds is) r at e w t =
      let (next, closes, left) = clause-read s n is r (length s - at) at at (omega arith) e w t in
      record {
        next = next;
        is = rw (lt-ltb at (length s) (clause-inside s n at is r e), not-d at is r e)
            (ap (λ (y : Next). clause_read (between s) at added y) closes);
        left = left;
      }
  entry_read (strikes p is) r at e w t =
      let here : drop (at + 1) s ≡ parting p (clause is r) =
      ap (λ (k : ℕ). drop k s) (let one : at + 1 ≡ suc at = omega arith in one) ∙ behind s at 100 (parting p (clause is r)) e in
      let body : ℕ = between s (at + 1) in
      let there : drop body s ≡ clause is r = gap-passed s (p.first ∷ p.more) (clause is r) (at + 1) here (clause-fresh is r) in
      let (next, closes, left) = clause-read s n is r (length s - body) at body (omega arith) there w t in
      record {
        next = next;
        is = rw (lt-ltb at (length s) (inside s at 100 (parting p (clause is r)) e), is-d at p (clause is r) e)
            (ap (λ (y : Next). clause_read (between s) at struck_out y) closes);
        left = left;
      }

  -- ---- the text

  ends_there : (at : ℕ) → length s ≤ at → (command_at Text s n at).command ≡ finished
  unfolding text_read
  ends_there at h = rw (le-ltb at (length s) h)

  said-clause : (x : Entry) → IsClause (said x)
  said-clause (adds is) = tt
  said-clause (strikes p is) = tt

  rest_read : (b : Rest) (at : ℕ) → drop at s ≡ rest b → RestWithin n b → ReadsFrom s n (between s at) (rest_said b)
  rest_read (end e) at h w = ends_there (between s at) (ending-passed s e at h)
  rest_read (entry_then p x b) at h w =
      let here : drop (between s at) s ≡ entry x (rest b) = gap-passed s (p.first ∷ p.more) (entry x (rest b)) at h
      (entry-fresh x (rest b)) in
      let S : Said (between s at) (said x) (rest b) = entry_read x (rest b) (between s at) here w.0 (rest-stops b) in (
        said-clause x,
        ap (λ (y : Read). y.command) S.is,
        subst (λ (k : ℕ). ReadsFrom s n k (rest_said b)) (sym (ap (λ (y : Read). y.next) S.is)) (rest_read b S.next S.left w.1),
      )

  -- What is printed is read: the text says its commands.
  pub proof-read : (t : Proof) → s ≡ proof t → ProofWithin n t → ReadsDrat s n (proof_said t)
  proof-read (opens ks g x b) e w =
      let here : drop (between s 0) s ≡ entry x (rest b) = start-gap s ks g (entry x (rest b)) e (entry-fresh x (rest b)) in
      let S : Said (between s 0) (said x) (rest b) = entry_read x (rest b) (between s 0) here w.0 (rest-stops b) in (
        said-clause x,
        ap (λ (y : Read). y.command) S.is,
        subst (λ (k : ℕ). ReadsFrom s n k (rest_said b)) (sym (ap (λ (y : Read). y.next) S.is)) (rest_read b S.next S.left w.1),
      )
  proof-read (empty ks e) q w = ends_there (between s 0) (start-ends s ks e q)
  proof-read (comment_alone ks c) q w = ends_there (between s 0) (comment-alone s ks c q)
