-- One step of the walks to the end of a token and of a line, and the end of what is read of a clause. Assumes nothing.
use mathlib.Core.Path.{◌≡◌, refl, sym, ap, ◌∙◌}
use mathlib.Core.Bool.{true, false, not}
use mathlib.Core.List.{List, [], ◌∷◌}
use Prim.Native.Nat.{ℕ, ◌+◌, ◌-◌, ◌≤◌, ◌<◌}
use lib.ListN.{length, get_or}
use borrow.Author.Tests.{eq-eqb, ne_eqb, lt-ltb, le-ltb}
use Rattle.dimacs.specs.declared.ClosedClause.{ClosedClause}
use Rattle.std.specs.Prelude.{Ok, Err}
use Rattle.dimacs.specs.declared.Refusal.{Refusal}
use Rattle.dimacs.specs.Text.{is_parting, is_token, is_line, token_end, line_end, between}
use Rattle.dimacs.specs.Header.{is_word}
use Rattle.dimacs.specs.Clauses.{Next, closed, ended, refused, clause_from}
use Rattle.words.specs.Sets.{literals_of}
use Rattle.dimacs.specs.Inner.{clause_after, open_of, closed_with}
use Rattle.dimacs.proofs.Runs.{past_end, past_stop, past-go}
use Rattle.causes.specs.Parts.{closed_end, clause_end}

module _ (s : List ℕ) (at : ℕ) where
  pub token-over : length s ≤ at → at ≡ token_end s at
  token-over h = sym (past_end is_token s at h)

  pub token-stops : at < length s → true ≡ is_parting (get_or s at 0) → at ≡ token_end s at
  token-stops h e = sym (past_stop is_token s at h (ap not (sym e)))

  pub token-goes : at < length s → false ≡ is_parting (get_or s at 0) → token_end s at ≡ token_end s (at + 1)
  token-goes h e = past-go is_token s at h (ap not (sym e))

  pub line-over : length s ≤ at → at ≡ line_end s at
  line-over h = sym (past_end is_line s at h)

  pub line-stops : at < length s → get_or s at 0 ≡ 10 → at ≡ line_end s at
  line-stops h e = sym (past_stop is_line s at h (ap not (eq-eqb (get_or s at 0) 10 e)))

  pub line-goes : at < length s → (get_or s at 0 ≡ 10 → ⊥) → line_end s at ≡ line_end s (at + 1)
  line-goes h e = past-go is_line s at h (ap not (ne_eqb (get_or s at 0) 10 e))

module _ (s : List ℕ) where
  pub ends-closed : (x : Next) (w : ClosedClause) → Ok w ≡ open_of x → w.next ≡ closed_end s x
  unfolding clause_after
  ends-closed (closed ls first next) w e = let q : w ≡ closed_with (literals_of ls) first next = cc in rw q
  ends-closed ended w e = cc
  ends-closed (refused number place) w e = cc

  pub ends-refused : (x : Next) (r : Refusal) → Err r ≡ open_of x → length s ≡ closed_end s x
  unfolding clause_after
  ends-refused (closed ls first next) r e = cc
  ends-refused ended r e = refl
  ends-refused (refused number place) r e = refl

module _ (s : List ℕ) (at : ℕ) where
  pub clause-struck : (from r : ℕ) → at < length s → is_word s at (100 ∷ []) ≡ true → from ≡ between s (at + 1)
      → r ≡ closed_end s (clause_from s 64 (length s - from) at from) → r ≡ clause_end s at
  unfolding clause_end
  clause-struck from r lt word is e = e ∙ rw (lt-ltb at (length s) lt, word, is)

  pub clause-added : (r : ℕ) → at < length s → is_word s at (100 ∷ []) ≡ false → r ≡ closed_end s (clause_from s 64 (length s - at) at at) →
      r
      ≡ clause_end s at
  unfolding clause_end
  clause-added r lt word e = e ∙ rw (lt-ltb at (length s) lt, word)

  pub clause-none : length s ≤ at → length s ≡ clause_end s at
  unfolding clause_end
  clause-none h = rw (le-ltb at (length s) h)
