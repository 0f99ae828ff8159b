-- The cause of a refused command, told over the state made again: what the functions ask, that what they tell is the definition's, and that
-- the lists are then as the check left them. Assumes nothing.
use mathlib.Core.Path.{◌≡◌, sym, ap, ap₂, ◌∙◌, subst}
use mathlib.Core.Bool.{Bool, true, false}
use mathlib.Core.List.{List}
use Prim.Native.Nat.{ℕ, ◌-◌, ◌≤◌, ◌<◌}
use native.Mathlib.Omega.{arith}
use lib.ListN.{length, take, length-replicate}
use lib.Seq.{length-take-le}
use Rattle.meaning.specs.Words.{in_word}
use Rattle.table.specs.Nodes.{Node}
use Rattle.table.specs.Columns.{Columns, columns_made}
use Rattle.table.specs.Indexed.{Table, lists_of, nodes_of, indexed, Good}
use Rattle.table.proofs.InOrder.{left-stored}
use Rattle.walks.specs.Readable.{Roomy}
use Rattle.conflict.specs.Marks.{unmarked}
use Rattle.commands.specs.declared.Command as code
use Rattle.commands.specs.declared.Mode.{Mode}
use Rattle.commands.specs.Commands.{Command, recorded, added, struck_out, wrong, finished, command_at}
use Rattle.verdict.specs.Steps as check
use Rattle.verdict.specs.Check.{Verdict, verdict, zeros}
use Rattle.verdict.specs.Run.{command_in}
use Rattle.verdict.proofs.Commands.{Known, fit-known}
use Rattle.verdict.proofs.Standing.{Standing}
use Rattle.verdict.proofs.Ends.{reached-in, reached-fit, reached-standing}
use Rattle.state.specs.declared.State.{State}
use Rattle.state.specs.States.{Lent, lent_of, table_in, state_of, Held}
use Rattle.tries.specs.Commands.{CommandFits}
use Rattle.session.specs.declared.Checked.{Checked}
use Rattle.causes.specs.Causes.{cause}
use Rattle.causes.specs.Explanation.{ended, cause_in, ending}
use Rattle.causes.specs.Answers.{Told, told}
use Rattle.record_causes.proofs.Witnesses.{reached-witness}
use Rattle.line_again.specs.declared.Again.{Again}
use Rattle.line_again.specs.Before.{has_cause}
use Rattle.line_again.specs.Made.{LeftBy, MadeAgain}
use Rattle.line_again.proofs.Twice.{cause-same}
use Rattle.line_again.proofs.Refusals.{RefusedAt, stops-again, spends-again}
use Rattle.line_again.proofs.Making.{at_place, kept-is}
use Rattle.command_causes.specs.Causes.{command_let, RefusedWith, RefusedBy}
use Rattle.std.specs.Prelude.{Option}

known-fits : (n : ℕ) (c : Command) → Known n c → CommandFits n c
known-fits n (recorded r more) known = tt
known-fits n (added ls) known = known
known-fits n (struck_out ls) known = known
known-fits n (wrong number offset) known = tt
known-fits n finished known = tt

-- A memo of zeros with cells for any table.
pub zeros-roomy : (n : ℕ) (vars : List ℕ) → length vars ≤ 65536 → 65600 ≤ n → Roomy vars (zeros n)
zeros-roomy n vars most cells = omega (arith, most, cells, length-replicate {A = ℕ} n 0)

module _ (mode : Mode) (text proof : List ℕ) (l : Lent) (r : Checked)
    (L : LeftBy (verdict mode (length l.vars) text proof) r.count r.lines l)
    (has : has_cause (verdict mode (length l.vars) text proof).number ≡ true)
    (number_is : r.number ≡ (verdict mode (length l.vars) text proof).number)
    (place_is : r.place ≡ (verdict mode (length l.vars) text proof).place) where
  abbrev s : ℕ
  s = length l.vars

  abbrev v : Verdict
  v = verdict mode s text proof

  abbrev A : RefusedAt mode s text proof v
  A = at_place mode text proof l r.count r.lines r.place L has place_is

  abbrev c : Command
  c = command_in mode proof A.n v.place

  standing : (A.n ≤ 64) × Standing s A.n A.meant A.state
  standing = reached-standing mode s text proof A.reached

  fits : CommandFits A.n c
  fits = known-fits A.n c (fit-known mode.form A.n c (reached-fit mode s text proof A.reached))

  -- The state made again, in the lists l'.
  module _ (l' : Lent) (b : Again)
      (made : (n : ℕ) (st : check.State) (at : ℕ) → ending mode s text proof ≡ ended n st at → MadeAgain n st l l' b) where
    M : MadeAgain A.n A.state l l' b
    M = made A.n A.state v.place A.is

    -- what `command_in` asks
    pub command-asks : (r.place ≤ length proof) × (b.variables ≤ 64)
    command-asks = (omega (arith, place_is, reached-in mode s text proof A.reached), omega (arith, M.variables, standing.0))

    abbrev S : check.State
    S = state_of l' b.state

    module _ (command : Option code.Command) (read : command
        ≡ command_let mode.consequence (command_at mode.form proof b.variables r.place).command) where
      command-is : command_let mode.consequence c ≡ command
      command-is =
          sym (read ∙ ap₂ (λ (n at : ℕ). command_let mode.consequence (command_at mode.form proof n at).command)
          M.variables
          place_is)

      -- the refusal in the state made again, over any size and number that are the same
      refused : RefusedWith mode.consequence A.n s S v.number c
      refused = (stops-again mode s text proof v has A S M.same, spends-again mode s text proof v has A S M.same)

      refused-here : (size : ℕ) → size ≡ s → RefusedWith mode.consequence b.variables size S r.number c
      refused-here size size_is =
          subst (λ (n : ℕ). RefusedWith mode.consequence n size S r.number c) (sym M.variables)
          (subst (λ (k : ℕ). RefusedWith mode.consequence A.n k S r.number c) (sym size_is)
          (subst (λ (k : ℕ). RefusedWith mode.consequence A.n s S k c) (sym number_is) refused))

      within : (w : ℕ) → b.variables < w → in_word S.positive w ≡ false
      within w more =
          ap (λ (x : check.State). in_word x.positive w) M.same
          ∙ reached-witness mode s text proof A.reached w (omega (arith, M.variables, more))

      fits-here : CommandFits b.variables c
      fits-here = subst (λ (n : ℕ). CommandFits n c) (sym M.variables) fits

      -- what `cause` asks
      pub cause-asks : (marks memo fixed : List ℕ) (size : ℕ) → size ≡ s → marks ≡ unmarked size → Roomy l'.vars memo
          → 128 ≤ length fixed → fixed ≡ zeros (length fixed)
          → Held b.variables l' b.state × (marks ≡ unmarked size) × Roomy l'.vars memo
          × (128 ≤ length fixed) × (fixed ≡ zeros (length fixed))
          × RefusedBy b.variables size S r.number command
      cause-asks marks memo fixed size size_is none room long zero = (
        subst (λ (n : ℕ). Held n l' b.state) (sym M.variables) M.held,
        none,
        room,
        long,
        zero,
        record {
          profile = mode.consequence;
          said = c;
          admits = command-is;
          fits = fits-here;
          within = within;
          refused = refused-here size size_is;
        },
      )

      -- what it tells
      pub cause-told : (size m : ℕ) → size ≡ s → (t : Told)
          → ((profile : Bool) (x : Command) → command_let profile x ≡ command → CommandFits b.variables x →
          RefusedWith profile b.variables size S r.number x → t ≡ told m (cause profile b.variables r.number S x))
          → t ≡ told m (cause_in mode r.number proof (ending mode s text proof))
      cause-told size m size_is t tells =
          tells mode.consequence c command-is fits-here (refused-here size size_is)
          ∙ ap (told m)
          (ap (λ (n : ℕ). cause mode.consequence n r.number S c) M.variables
          ∙ ap (λ (x : check.State). cause mode.consequence A.n r.number x c) M.same
          ∙ cause-same S.rounds S.peak S.refuted A.n A.state mode.consequence r.number c
          ∙ ap (cause_in mode r.number proof) (sym A.is))

    -- ---- the lists

    -- what `drop_to` asks
    module _ (T : Table) (as-made : T ≡ table_in l' b.state.count) where
      pub drop-asks : Good T × (2 ≤ r.count) × (r.count ≤ T.count)
      drop-asks = (
        subst Good (sym as-made) M.held.entries.good,
        omega (arith, kept-is mode text proof l r.count r.lines r.place L has place_is, standing.1.least),
        omega (
          arith,
          kept-is mode text proof l r.count r.lines r.place L has place_is,
          ap (λ (x : check.State). x.kept) M.same,
          M.held.kept,
          ap (λ (t : Table). t.count) as-made,
        ),
      )

      nodes-are : nodes_of T ≡ A.state.nodes
      nodes-are = ap nodes_of as-made ∙ ap (λ (x : check.State). x.nodes) M.same

      -- dropped to the check's count the columns are as it left them
      pub dropped-columns : (U : Table) (size : ℕ) → size ≡ s → U ≡ indexed size (take r.count (nodes_of T))
          → lists_of U ≡ columns_made l.vars l.lows l.highs l.heads l.links
      dropped-columns U size size_is U-is =
          ap lists_of (U-is ∙ ap₂ (λ (k : ℕ) (t : List Node). indexed k t) size_is nodes-left)
          ∙ left-stored s v.nodes (omega (arith, L.count-is, drop-asks.1)) (omega (arith, short))
          ∙ sym L.columns
        where
          nodes-left : take r.count (nodes_of T) ≡ v.nodes
          nodes-left =
              ap₂ (λ (k : ℕ) (t : List Node). take k t)
              (kept-is mode text proof l r.count r.lines r.place L has place_is) nodes-are ∙ sym A.nodes

          short : length v.nodes ≤ s
          short = omega (
            arith,
            ap length A.nodes,
            length-take-le A.state.kept A.state.nodes standing.1.kept,
            standing.1.kept,
            standing.1.room L.two,
          )

    pub lists_back : (d : Columns) (scratch : List ℕ) → d ≡ columns_made l.vars l.lows l.highs l.heads l.links → scratch
        ≡ zeros (length l.scratch)
        → lent_of d.vars d.lows d.highs d.heads d.links l'.members scratch l'.struck ≡ l
    lists_back d scratch columns cleared =
        ap (λ (x : Columns). lent_of x.vars x.lows x.highs x.heads x.links l'.members scratch l'.struck) columns
        ∙ ap₂ (λ (ms ss : List ℕ). lent_of l.vars l.lows l.highs l.heads l.links ms scratch ss) M.members M.struck
        ∙ ap (λ (xs : List ℕ). lent_of l.vars l.lows l.highs l.heads l.links l.members xs l.struck)
        (cleared ∙ sym L.scratch)
