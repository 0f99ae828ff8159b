-- For callers: what a result of `command_at` says of the definition's command. Assumes nothing.
use mathlib.Core.Path.{◌≡◌, refl}
use Prim.Native.Nat.{ℕ, ◌+◌}
use Rattle.std.specs.Prelude.{Result, Ok, Err}
use Rattle.dimacs.specs.declared.Refusal.{Refusal}
use Rattle.dimacs.specs.Inner.{refusal_at}
use Rattle.commands.specs.declared.Command as code
use Rattle.commands.specs.declared.Read as code_read
use Rattle.commands.specs.Inner.{read_with}

module _ (at next : ℕ) where
  -- A command is read, and the place of the next.
  pub read-ok : (x : Result code.Command Refusal) (r : code_read.Read) → Ok r ≡ read_with at next x → (x ≡ Ok r.command) × (r.next ≡ next)
  read-ok (Ok c) r e = let q : r ≡ record { command = c; next = next } = cc in rw q (refl, refl)
  read-ok (Err f) r e = cc

  -- The command is refused, with its place counted from its first byte.
  pub read-err : (x : Result code.Command Refusal) (f : Refusal) → Err f ≡ read_with at next x
      → (r : Refusal) × (x ≡ Err r) × (f ≡ refusal_at r.number (at + r.place))
  read-err (Ok c) f e = cc
  read-err (Err r) f e = (r, refl, cc)
