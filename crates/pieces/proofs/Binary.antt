-- The end of a clause, of a literal's groups and of a piece in a binary DRAT proof, from what the readers say. A case on the command read
-- each; a constructor that it cannot be is refuted. Assumes nothing.
use mathlib.Core.Path.{◌≡◌, refl, ap, ◌∙◌}
use mathlib.Core.Bool.{Bool, true, false, ◌&&◌}
use mathlib.Core.List.{List}
use mathlib.Core.Logic.{◌⊎◌, inl, inr}
use Prim.Native.Nat.{ℕ, ◌+◌, ◌≤◌, ◌<◌}
use lib.ListN.{length, drop}
use lib.Dec.{eqb}
use borrow.Author.Tests.{eq-eqb, ne_eqb, lt-ltb, le-ltb}
use Rattle.records.specs.declared.Record.{Record}
use Rattle.std.specs.Prelude.{Ok, Err}
use Rattle.dimacs.specs.declared.Refusal.{Refusal}
use Rattle.commands.proofs.Answered.{read-ok, read-err}
use Rattle.commands.specs.declared.DratClause.{DratClause}
use Rattle.commands.specs.declared.binary.GroupsRead.{GroupsRead}
use Rattle.commands.specs.declared.Command.TheVariants as code-variants
use Rattle.commands.specs.declared.Read as code_read
use Rattle.commands.specs.Commands.{Command, recorded, added, struck_out, wrong, finished, Groups, cut, groups, groups_in, binary_read}
use Rattle.commands.specs.Inner.{command_of, read_of, groups_read}
use Rattle.causes.specs.Parts.{groups_end, read_end, binary_end}

read-added : (s : List ℕ) (m : Command) (next : ℕ) (w : DratClause) → command_of m ≡ Ok (code-variants.Added w) → next ≡ read_end s m next
read-added s (recorded r more) next w e = cc
read-added s (added ls) next w e = refl
read-added s (struck_out ls) next w e = refl
read-added s (wrong number offset) next w e = cc
read-added s finished next w e = cc

read-struck : (s : List ℕ) (m : Command) (next : ℕ) (w : DratClause) → command_of m ≡ Ok (code-variants.Struck w) → next ≡ read_end s m next
read-struck s (recorded r more) next w e = cc
read-struck s (added ls) next w e = refl
read-struck s (struck_out ls) next w e = refl
read-struck s (wrong number offset) next w e = cc
read-struck s finished next w e = cc

read-recorded : (s : List ℕ) (m : Command) (next : ℕ) (r : Record) (more : Bool) → command_of m ≡ Ok (code-variants.Recorded r more)
    → length s ≡ read_end s m next
read-recorded s (recorded q b) next r more e = refl
read-recorded s (added ls) next r more e = cc
read-recorded s (struck_out ls) next r more e = cc
read-recorded s (wrong number offset) next r more e = refl
read-recorded s finished next r more e = refl

read-wrong : (s : List ℕ) (m : Command) (next : ℕ) (r : Refusal) → command_of m ≡ Err r → length s ≡ read_end s m next
read-wrong s (recorded q b) next r e = refl
read-wrong s (added ls) next r e = cc
read-wrong s (struck_out ls) next r e = cc
read-wrong s (wrong k p) next r e = refl
read-wrong s finished next r e = refl

read-finished : (s : List ℕ) (m : Command) (next : ℕ) → command_of m ≡ Ok code-variants.Finished → length s ≡ read_end s m next
read-finished s (recorded q b) next e = refl
read-finished s (added ls) next e = cc
read-finished s (struck_out ls) next e = cc
read-finished s (wrong k p) next e = refl
read-finished s finished next e = refl

module _ (s : List ℕ) (at : ℕ) where
  abbrev clause_stop : ℕ
  clause_stop = read_end s (binary_read s 64 at).command (binary_read s 64 at).next

  pub ends-wrong : (f : Refusal) → Err f ≡ read_of at (binary_read s 64 at) → length s ≡ clause_stop
  ends-wrong f e =
      let w = read-err at (binary_read s 64 at).next (command_of (binary_read s 64 at).command) f e in
      read-wrong s (binary_read s 64 at).command (binary_read s 64 at).next w.0 w.1

  module _ (r : code_read.Read) (is : Ok r ≡ read_of at (binary_read s 64 at)) where
    command-is : command_of (binary_read s 64 at).command ≡ Ok r.command
    command-is = (read-ok at (binary_read s 64 at).next (command_of (binary_read s 64 at).command) r is).0

    next-is : r.next ≡ (binary_read s 64 at).next
    next-is = (read-ok at (binary_read s 64 at).next (command_of (binary_read s 64 at).command) r is).1

    pub ends-added : (w : DratClause) → r.command ≡ code-variants.Added w → r.next ≡ clause_stop
    ends-added w e = next-is ∙ read-added s (binary_read s 64 at).command (binary_read s 64 at).next w (command-is ∙ ap Ok e)

    pub ends-struck : (w : DratClause) → r.command ≡ code-variants.Struck w → r.next ≡ clause_stop
    ends-struck w e = next-is ∙ read-struck s (binary_read s 64 at).command (binary_read s 64 at).next w (command-is ∙ ap Ok e)

    pub ends-recorded : (q : Record) (more : Bool) → r.command ≡ code-variants.Recorded q more → length s ≡ clause_stop
    ends-recorded q more e = read-recorded s (binary_read s 64 at).command (binary_read s 64 at).next q more (command-is ∙ ap Ok e)

    pub ends-finished : r.command ≡ code-variants.Finished → length s ≡ clause_stop
    ends-finished e = read-finished s (binary_read s 64 at).command (binary_read s 64 at).next (command-is ∙ ap Ok e)

groups-stop : (at : ℕ) (g : Groups) (r : GroupsRead) → r ≡ groups_read 64 at g → r.end ≡ groups_end at g
groups-stop at cut r e = ap (λ (z : GroupsRead). z.end) e
groups-stop at (groups number many last) r e = ap (λ (z : GroupsRead). z.end) e

pub ends-groups : (s : List ℕ) (at : ℕ) (r : GroupsRead) → r ≡ groups_read 64 at (groups_in (drop at s))
    → r.end ≡ groups_end at (groups_in (drop at s))
ends-groups s at = groups-stop at (groups_in (drop at s))

not-both : (t : Bool) → (t && false) ≡ false
not-both true = refl
not-both false = refl

module _ (number : ℕ) (s : List ℕ) (at : ℕ) where
  pub binary-byte : number ≡ 9 → at < length s → at + 1 ≡ binary_end number s at
  unfolding binary_end
  binary-byte e lt = rw (eq-eqb number 9 e, lt-ltb at (length s) lt)

  pub binary-four : (r : ℕ) → number ≡ 4 → r ≡ groups_end at (groups_in (drop at s)) → r ≡ binary_end number s at
  unfolding binary_end
  binary-four r q e = e ∙ rw q

  pub binary-large : (r : ℕ) → number ≡ 31 → r ≡ groups_end at (groups_in (drop at s)) → r ≡ binary_end number s at
  unfolding binary_end
  binary-large r q e = e ∙ rw q

  pub binary-other : (r : ℕ) → (number ≡ 9 → ⊥) ⊎ (length s ≤ at) → (number ≡ 4 → ⊥) → (number ≡ 31 → ⊥)
      → r ≡ read_end s (binary_read s 64 at).command (binary_read s 64 at).next → r ≡ binary_end number s at
  unfolding binary_end
  binary-other r (inl n9) n4 n31 e = e ∙ rw (ne_eqb number 9 n9, ne_eqb number 4 n4, ne_eqb number 31 n31)
  binary-other r (inr over) n4 n31 e =
      e ∙ rw (le-ltb at (length s) over, not-both (eqb number 9), ne_eqb number 4 n4, ne_eqb number 31 n31)
