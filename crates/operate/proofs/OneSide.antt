-- What one of two sides leaves, whether a call made it or the memo told it. The idea: what is told leaves table and memo as they are.
-- Assumes nothing.
use mathlib.Core.Path.{◌≡◌, refl, sym, subst}
use mathlib.Core.Bool.{false}
use mathlib.Core.List.{List}
use Prim.Native.Nat.{ℕ}
use lib.ListN.{length}
use Rattle.table.specs.declared.NodeNo.{NodeNo}
use Rattle.table.specs.declared.Placed.{Placed}
use Rattle.table.specs.declared.Found.TheVariants.{At}
use Rattle.table.specs.Indexed.{Table, Outcome, outcome_of}
use Rattle.memo.specs.Memo.{Tells}
use Rattle.operate.specs.declared.Operation.{Operation}
use Rattle.operate.specs.Inner.{applied, MemoRight, Ready}
use Rattle.operate.proofs.Results.{known-outcome}

-- What a side leaves: the operation's outcome, in columns as long as before.
pub record SideLeft (op : Operation) (t : Table) (f g : ℕ) (o : Outcome) : Type 0 where
  pub is : o ≡ applied t op f g
  pub vars : length o.table.vars ≡ length t.vars
  pub lows : length o.table.lows ≡ length t.lows
  pub highs : length o.table.highs ≡ length t.highs
  pub heads : length o.table.heads ≡ length t.heads
  pub links : length o.table.links ≡ length t.links

-- outcomes are the same where their columns and what is said of them are
pub outcome-same : {vars vars' lows lows' highs highs' heads heads' links links' : List ℕ} {p p' : Placed}
    → vars ≡ vars' → lows ≡ lows' → highs ≡ highs' → heads ≡ heads' → links ≡ links' → p ≡ p'
    → outcome_of vars lows highs heads links p ≡ outcome_of vars' lows' highs' heads' links' p'
outcome-same a b c d e q = rw (a, b, c, d, e, q)

-- What a side leaves with a memo, right for what it leaves.
pub record SideKept (op : Operation) (memo : List ℕ) (t : Table) (f g : ℕ) (o : Outcome) (memo₁ : List ℕ) : Type 0 where
  pub left : SideLeft op t f g o
  pub right : MemoRight op memo₁ o.table
  pub cells : length memo₁ ≡ length memo

module _ {op : Operation} {memo : List ℕ} {t : Table} {f g : ℕ} where
  -- a result that the memo tells leaves table and memo as they are
  pub home-kept : Ready op memo t f g → (r : NodeNo) → Tells memo f g (At r) →
      SideKept op memo t f g (record { table = t; full = false; node = r.0 }) memo
  home-kept R r tells = record {
    left = record {
      is = known-outcome op t f g R.operands r.0 (R.right.entries f g r.0 tells);
      vars = refl;
      lows = refl;
      highs = refl;
      heads = refl;
      links = refl;
    };
    right = R.right;
    cells = refl;
  }

  pub side_same : {o o' : Outcome} {m m' : List ℕ} → o' ≡ o → m' ≡ m → SideKept op memo t f g o m → SideKept op memo t f g o' m'
  side_same {o} {o'} {m} {m'} e q K =
      subst (λ (x : Outcome). SideKept op memo t f g x m') (sym e) (subst (λ (x : List ℕ). SideKept op memo t f g o x) (sym q) K)
