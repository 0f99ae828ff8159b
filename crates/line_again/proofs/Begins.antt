-- The state as a line began, by the header's two forms. Assumes nothing.
use mathlib.Core.Path.{◌≡◌, sym, ap, ◌∙◌, subst}
use mathlib.Core.List.{List}
use Prim.Native.Nat.{ℕ, ◌+◌, ◌≤◌}
use Rattle.std.specs.Prelude.{Result, Ok, Err}
use Rattle.dimacs.specs.declared.Header as code_header
use Rattle.dimacs.specs.declared.Refusal.{Refusal}
use Rattle.dimacs.specs.Header.{Header, header}
use Rattle.dimacs.specs.Inner.{header_read}
use Rattle.dimacs.proofs.Formula.{header-ok, header-err}
use Rattle.dimacs.proofs.Bounds.{HeaderIn, header-in}
use Rattle.state.specs.declared.State.{State}
use Rattle.tell.specs.Begun.{line_state}
use Rattle.line_again.specs.declared.Again.{Again}
use Rattle.line_again.specs.Made.{begun_by}

abbrev pub again_of : ℕ → State → Again
again_of n q = record { variables = n; state = q }

module _ (text : List ℕ) (count lines : ℕ) (r : Result code_header.Header Refusal) (is : r ≡ header_read (header text)) where
  -- a header has at most 1,024 clauses
  pub few-clauses : (h : code_header.Header) → r ≡ Ok h → h.clauses ≤ 1024
  few-clauses h e = (subst (HeaderIn text) (header-ok (header text) h (sym is ∙ e)) (header-in text)).1

  pub begun-proper : (h : code_header.Header) → r ≡ Ok h → (q : State) → q ≡ line_state count (h.clauses + lines) lines
      → again_of h.variables q ≡ begun_by (header text) count lines
  begun-proper h e q q-is =
      ap (again_of h.variables) q-is ∙ ap (λ (x : Header). begun_by x count lines) (sym (header-ok (header text) h (sym is ∙ e)))

  pub begun-improper : (f : Refusal) → r ≡ Err f → (q : State) → q ≡ line_state count 0 lines → again_of 0 q
      ≡ begun_by (header text) count lines
  begun-improper f e q q-is = ap (again_of 0) q-is ∙ ap (λ (x : Header). begun_by x count lines) (sym (header-err (header text) f (sym is ∙ e)))
