-- A line that is refused with 19, over the lists that hold the state: what `rup_cause` and `pr_cause` ask of it. Assumes nothing.
use mathlib.Core.Path.{◌≡◌, refl, sym, ◌∙◌, subst}
use mathlib.Core.Bool.{Bool, true, false, not, cond}
use mathlib.Core.List.{List}
use Prim.Native.Nat.{ℕ, zero, suc, ◌≤◌, ◌<◌, max}
use native.Mathlib.Omega.{arith}
use lib.ListN.{get_or, take}
use Rattle.meaning.specs.Rules.{Line}
use Rattle.meaning.specs.Words.{in_word}
use Rattle.table.specs.Indexed.{Table, size, nodes_of}
use Rattle.table.specs.Making.{line_reach}
use Rattle.table.specs.Lists.{Inside}
use Rattle.walks.specs.Readable.{Roomy}
use Rattle.records.specs.declared.Rule.{Rule}
use Rattle.records.specs.declared.Rule.TheVariants.{Rup, Pr, Path}
use Rattle.verdict.specs.Steps as check
use Rattle.verdict.specs.Steps.{Step, next, stop, spent, accepted, entry_node, unstruck, judged, line_step}
use Rattle.verdict.specs.Taken.{line_of}
use Rattle.judge.specs.Lines.{Negatable}
use Rattle.judge.proofs.Widths.{rup-at, pr-at}
use Rattle.state.specs.declared.State.{State}
use Rattle.state.specs.States.{Lent, table_in, state_of, Held}
use Rattle.entries.proofs.Entries.{entry_in}
use Rattle.entries.proofs.Stops.{unless, unless-refused}
use Rattle.steps.specs.Tests.{line_refusal}
use Rattle.steps.proofs.Stops.{line-is, LineFits, line-fits}
use Rattle.steps.proofs.PathWidths.{path-at}
use Rattle.steps.proofs.Strikings.{unstruck-inside}
use Rattle.tell.specs.Failed.{Unshown}

unless-19 : (k : ℕ) (y : Step) (peak : ℕ) → unless k y ≡ spent 19 peak → (k ≡ 0) × (y ≡ spent 19 peak)
unless-19 zero y peak e = (refl, e)
unless-19 (suc k) y peak e =
    let q : stop (suc k) 0 ≡ spent 19 peak = sym (unless-refused (suc k) y (λ z. absurd (omega (arith, z)))) ∙ e in
    let z : ◌≡◌ {A = ℕ} 0 1 = cc in absurd (omega arith)

module _ (n : ℕ) (L : Lent) (x : State) (H : Held n L x) where
  abbrev T : Table
  T = table_in L x.count

  abbrev S : check.State
  S = state_of L x

  judged-19 : (g : ℕ) (line : Line) (peak : ℕ) → judged (size T) S g line ≡ spent 19 peak → Unshown T line
  unfolding judged
  judged-19 g line peak e = go (line_reach (size T) (nodes_of T) line).fits line.shown refl refl e
    where
      top : ℕ
      top = max x.peak (line_reach (size T) (nodes_of T) line).peak

      go : (a b : Bool) → (line_reach (size T) (nodes_of T) line).fits ≡ a → line.shown ≡ b
          → cond (not a) (spent 23 top) (cond (not b) (spent 19 top) (next (accepted S g line top))) ≡ spent 19 peak → Unshown T line
      go true false f s e = record { fits = f; unshown = s }
      go true true f s e = let z : ◌≡◌ {A = ℕ} 0 1 = cc in absurd (omega arith)
      go false b f s e = let z : ◌≡◌ {A = ℕ} 23 19 = cc in absurd (omega arith)

  pub members-inside : Inside x.count (take x.members L.members)
  members-inside i p = let k : get_or (take x.members L.members) i 0 < x.kept = H.inside i p in omega (arith, H.kept)

  abbrev live : List ℕ
  live = unstruck (take x.members L.struck) (take x.members L.members)

  pub live_inside : Inside x.count live
  live_inside = unstruck-inside x.count (take x.members L.struck) (take x.members L.members) members-inside

  module _ (rule : Rule) (root : ℕ) (peak : ℕ) (e : line_step n (size T) S rule root ≡ spent 19 peak) where
    abbrev g : ℕ
    g = entry_node S root

    told : (line_refusal n S rule root ≡ 0) × (judged (size T) S g (line_of n S rule g) ≡ spent 19 peak)
    told = unless-19 (line_refusal n S rule root) (judged (size T) S g (line_of n S rule g)) peak (sym (line-is n (size T) S rule root) ∙ e)

    pub fits : LineFits S root
    fits = line-fits n S rule root told.0

    pub root-inside : g < x.count
    root-inside = entry_in n L x H root fits.entry

    width : line_of 64 S rule g ≡ line_of n S rule g
    width = go rule
      where
        go : (r : Rule) → line_of 64 S r g ≡ line_of n S r g
        go Rup = rup-at n H.entries.narrow T H.entries.good H.entries.uses live live_inside g root-inside fits.not-one
        go Pr =
            pr-at n H.entries.narrow T H.entries.good H.entries.uses live live_inside g root-inside fits.not-one
            (in_word x.witness.positive) (in_word x.witness.negative)
        go Path = path-at n H.entries.narrow T H.entries.good H.entries.uses live live_inside g

    -- THEOREM: the line over 64 variables finds room and is not shown.
    pub refused-unshown : Unshown T (line_of 64 S rule g)
    refused-unshown = subst (Unshown T) (sym width) (judged-19 g (line_of n S rule g) peak told.1)

    pub refused-ready : (memo : List ℕ) → Roomy T.vars memo → Negatable T (take x.members L.members) memo g
    refused-ready memo room = record {
      ready = record { good = H.entries.good; inside = members-inside; room = room };
      inside =
          root-inside;
      not-one = fits.not-one;
    }

    pub refused-few : x.members ≤ 2048
    refused-few = omega (arith, H.many, H.lines)
