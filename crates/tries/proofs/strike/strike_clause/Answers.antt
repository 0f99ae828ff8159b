-- `strike_clause`: the ways out are laws of Struck. Assumes nothing.
use mathlib.Core.Path.{subst}
use mathlib.Core.List.{List}
use Prim.Native.Nat.{ℕ}
use native.Mathlib.Omega.{arith}
use Rattle.table.specs.Nodes.{place}
use Rattle.table.specs.Indexed.{Table, table_of, size, nodes_of}
use Rattle.table.specs.declared.Found.{Found}
use Rattle.clause.specs.Words.{clause_of_words, Stands}
use Rattle.state.specs.States.{Lent, lent_of}
use Rattle.tries.proofs.Struck.{strike-absent, strike-none, strike-lowest}
use Rattle.tries.proofs.strike.strike_clause.Reads as reads
use Rattle.tries.proofs.strike.strike_clause.Lts as lts
use Rattle.tries.proofs.strike.strike_clause.Tie as tie
use Rattle.tries.proofs.strike.strike_clause.Goals as goal

module _ (s : lts.Start tie.the-claims reads.Pre reads.Post) where
  abbrev lent : List ℕ → Lent
  lent cs = lent_of s.args.vars.now s.args.lows.now s.args.highs.now s.args.heads.now s.args.links.now
      s.args.members.now cs s.args.struck.now

  abbrev table : Table
  table = table_of s.args.vars.now s.args.lows.now s.args.highs.now s.args.heads.now s.args.links.now
      s.args.st.count

  abbrev stands : Found → Type 0
  stands r = Stands (nodes_of table) (place (size table) (nodes_of table) (clause_of_words s.args.clause.literals)) r

pub find-requires : goal.find-requires
find-requires c = c.requires.0

pub lowest-i-requires : goal.lowest-i-requires
lowest-i-requires c = (c.requires.2, c.requires.3)

pub returns-then-st-i : goal.returns-then-st-i
returns-then-st-i c =
    let c12 = c.before.before.before.before.before.before.before.before.before.before.before.before in
    let found = subst (stands c12.before.before)
    c.in-At.is c.find.ensures in
    λ n cs ls H w is. strike-none n
    (lent c12.before.before cs) c.args.st H ls w
    c.args.clause is _ _ found c.lowest-i.ensures
    c.if-st-i.true

pub bounds-struck-i : goal.bounds-struck-i
bounds-struck-i c = omega (arith, c.if-st-i.false, c.requires.3)

pub returns-else-st-i : goal.returns-else-st-i
returns-else-st-i c =
    let c12 = c.before.before.before.before.before.before.before.before.before.before.before.before in
    let found = subst (stands c12.before.before)
    c.in-At.is c.find.ensures in
    λ n cs ls H w is. strike-lowest n
    (lent c12.before.before cs) c.args.st H ls w
    c.args.clause is _ _ found c.lowest-i.ensures
    c.if-st-i.false

pub returns-in-Nothing : goal.returns-in-Nothing
returns-in-Nothing c =
    λ n cs ls H w is. strike-absent n (lent c.before.before.before.before.before.before.before.before.before.before.before cs) c.args.st H
    ls w c.args.clause is
    (subst (stands c.before.before.before.before.before.before.before.before.before.before.before) c.in-Nothing.is c.find.ensures)
