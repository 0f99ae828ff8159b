-- One law for each way through the readers of a command: the record at a place, the end of a DRAT proof, a clause struck, a clause added.
-- The idea: the definition's tests have the code's answers. Assumes nothing.
use mathlib.Core.Path.{◌≡◌, sym}
use mathlib.Core.Logic.{◌≢◌}
use mathlib.Core.Bool.{true, false}
use mathlib.Core.List.{List, [], ◌∷◌}
use Prim.Native.Nat.{ℕ, ◌+◌, ◌-◌, ◌≤◌, ◌<◌}
use native.Mathlib.Omega.{arith}
use lib.ListN.{length, get_or}
use lib.Dec.{ltb}
use borrow.Author.Tests.{eq-eqb, ne_eqb, lt-ltb, le-ltb}
use Rattle.dimacs.specs.Text.{between}
use Rattle.dimacs.specs.Header.{is_word}
use Rattle.dimacs.specs.Clauses.{Next, clause_from}
use Rattle.records.specs.declared.Record.{Record}
use Rattle.records.specs.declared.Record.TheVariants.{NodeEntry, Witness, ProofLine, Strike, SetEntry, End, CutShort, UnknownKind}
use Rattle.records.specs.declared.Record.TheVariants.{NoRecord}
use Rattle.records.specs.Records.{record_at, length_of}
use Rattle.commands.specs.declared.Command.TheVariants as code-variants
use Rattle.commands.specs.declared.Read as code_read
use Rattle.dimacs.specs.declared.Refusal.{Refusal}
use Rattle.dimacs.specs.Inner.{refusal_at}
use Rattle.std.specs.Prelude.{Result, Ok, Err}
use Rattle.commands.specs.Commands.{record_read, clause_read, text_read, binary_from, binary_read}
use Rattle.commands.specs.Inner.{command_for, read_of}

-- ---- records

pub record-short : (r : Record) → length_of r ≤ 10
record-short (NodeEntry b) = omega arith
record-short (Witness v b) = omega arith
record-short (ProofLine rule root) = omega arith
record-short (Strike k) = omega arith
record-short (SetEntry kind b) = omega arith
record-short End = omega arith
record-short CutShort = omega arith
record-short UnknownKind = omega arith
record-short NoRecord = omega arith

pub record-read-is : (s : List ℕ) (at : ℕ) (r : Record) (k : ℕ) → r ≡ record_at s at → k ≡ length_of r
    → Ok (record { command = code-variants.Recorded r (ltb (at + k) (length s)); next = at + k }) ≡ read_of at (record_read s at)
record-read-is s at r k e q = rw (q, e)

-- ---- text

module _ (s : List ℕ) (n at : ℕ) where
  pub text-finished : length s ≤ at → Ok (record { command = code-variants.Finished; next = at }) ≡ read_of at (text_read s n at)
  unfolding text_read
  text-finished h = rw (le-ltb at (length s) h)

  pub text_striking : (from : ℕ) (r : Result code_read.Read Refusal) → at < length s → is_word s at (100 ∷ []) ≡ true → from ≡ between s (at + 1)
      → r ≡ read_of at (clause_read (between s) at (command_for true) (clause_from s n (length s - from) at from)) → r
      ≡ read_of at (text_read s n at)
  unfolding text_read
  text_striking from r h w is e = rw (lt-ltb at (length s) h, w, sym is) e

  pub text-adding : (r : Result code_read.Read Refusal) → at < length s → is_word s at (100 ∷ []) ≡ false
      → r ≡ read_of at (clause_read (between s) at (command_for false) (clause_from s n (length s - at) at at)) → r
      ≡ read_of at (text_read s n at)
  unfolding text_read
  text-adding r h w e = rw (lt-ltb at (length s) h, w) e

-- ---- binary

module _ (s : List ℕ) (n at : ℕ) where
  abbrev body : Next
  body = binary_from s n (length s - (at + 1)) at (at + 1)

  pub binary-finished : length s ≤ at → Ok (record { command = code-variants.Finished; next = at }) ≡ read_of at (binary_read s n at)
  unfolding binary_read
  binary-finished h = rw (le-ltb at (length s) h)

  pub binary-adding : (r : Result code_read.Read Refusal) → at < length s → get_or s at 0 ≡ 0x61 → r
      ≡ read_of at (clause_read (λ end. end) at (command_for false) body)
      → r ≡ read_of at (binary_read s n at)
  unfolding binary_read
  binary-adding r h a e = rw (lt-ltb at (length s) h, a) e

  pub binary-striking : (r : Result code_read.Read Refusal) → at < length s → get_or s at 0 ≢ 0x61 → get_or s at 0 ≡ 0x64
      → r ≡ read_of at (clause_read (λ end. end) at (command_for true) body) → r ≡ read_of at (binary_read s n at)
  unfolding binary_read
  binary-striking r h a d e = rw (lt-ltb at (length s) h, ne_eqb (get_or s at 0) 0x61 a, eq-eqb (get_or s at 0) 0x64 d) e

  pub binary-unknown : at < length s → get_or s at 0 ≢ 0x61 → get_or s at 0 ≢ 0x64
      → Err (refusal_at 9 at) ≡ read_of at (binary_read s n at)
  unfolding binary_read
  binary-unknown h a d =
      let same : at + 0 ≡ at = omega arith in
      rw (lt-ltb at (length s) h, ne_eqb (get_or s at 0) 0x61 a, ne_eqb (get_or s at 0) 0x64 d, same)
