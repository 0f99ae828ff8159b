-- The command let in at a place, and as the definition counts: from the command's first byte. Assumes nothing.
use mathlib.Core.Path.{◌≡◌, sym}
use mathlib.Core.Bool.{Bool, true, false, cond}
use Prim.Native.Nat.{ℕ, ◌+◌}
use native.Mathlib.Omega.{arith}
use Rattle.std.specs.Prelude.{Result, Ok, Err}
use Rattle.dimacs.specs.declared.Refusal.{Refusal}
use Rattle.dimacs.specs.Inner.{refusal_at}
use Rattle.commands.specs.declared.Command.{Command}
use Rattle.commands.specs.declared.Command.TheVariants.{Recorded, Added, Struck, Finished}
use Rattle.commands.specs.declared.Read as code_read
use Rattle.commands.specs.Inner.{read_with}
use Rattle.commands.proofs.Answered.{read-ok}
use Rattle.verdict.specs.Check.{shut_out}
use Rattle.profile.specs.Admitted.{let_in, admitted}

module _ (profile : Bool) (at next : ℕ) where
  here : read_with at next (Err (refusal_at 33 0)) ≡ Err (refusal_at 33 at)
  here = let none : at + 0 ≡ at = omega arith in rw none

  ok-so : (c d : Command) → Ok d ≡ let_in profile at c → Ok (record { command = d; next = next }) ≡ read_with at next (let_in profile 0 c)
  ok-so (Recorded r more) d e = go (shut_out profile r) e
    where
      go : (b : Bool) → Ok d ≡ cond b (Err (refusal_at 33 at)) (Ok (Recorded r more))
          → Ok (record { command = d; next = next }) ≡ read_with at next (cond b (Err (refusal_at 33 0)) (Ok (Recorded r more)))
      go true e = cc
      go false e = let q : d ≡ Recorded r more = cc in rw q
  ok-so (Added c) d e = cc
  ok-so (Struck c) d e = cc
  ok-so Finished d e = cc

  err-so : (c : Command) (f : Refusal) → Err f ≡ let_in profile at c → Err f ≡ read_with at next (let_in profile 0 c)
  err-so (Recorded r more) f e = go (shut_out profile r) e
    where
      go : (b : Bool) → Err f ≡ cond b (Err (refusal_at 33 at)) (Ok (Recorded r more))
          → Err f ≡ read_with at next (cond b (Err (refusal_at 33 0)) (Ok (Recorded r more)))
      go true e = let q : f ≡ refusal_at 33 at = cc in rw q (sym here)
      go false e = cc
  err-so (Added c) f e = cc
  err-so (Struck c) f e = cc
  err-so Finished f e = cc

  module _ (x : Result Command Refusal) where
    pub let-ok : (r : code_read.Read) (d : Command) → Ok r ≡ read_with at next x → Ok d ≡ let_in profile at r.command
        → Ok (record { command = d; next = r.next }) ≡ read_with at next (admitted profile x)
    let-ok r d e q = let w = read-ok at next x r e in rw (w.0, w.1) (ok-so r.command d q)

    pub let-err : (r : code_read.Read) (f : Refusal) → Ok r ≡ read_with at next x → Err f ≡ let_in profile at r.command
        → Err f ≡ read_with at next (admitted profile x)
    let-err r f e q = let w = read-ok at next x r e in rw w.0 (err-so r.command f q)

  pub read-refused : (x : Result Command Refusal) (f : Refusal) → Err f ≡ read_with at next x → Err f ≡ read_with at next (admitted profile x)
  read-refused (Ok c) f e = cc
  read-refused (Err r) f e = e
