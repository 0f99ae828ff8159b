-- `units_from` strikes from all literals, where no node has the stamp yet. Assumes nothing.
use mathlib.Core.Path.{sym, subst}
use Prim.Native.Nat.{ℕ}
use native.Mathlib.Omega.{arith}
use Rattle.walks.specs.Readable.{nodes_in}
use Rattle.walks.proofs.Here.{here, length-in}
use Rattle.units.specs.Units.{MarksBelow}
use Rattle.units.proofs.Struck.{struck-all, marked-new}
use Rattle.units.proofs.units_from.Goals as goal

pub strike-requires : goal.strike-requires
strike-requires c =
    let a = c.args in
    record {
      readable = c.requires.0;
      inside = c.requires.1;
      room = c.requires.2;
      least = omega arith;
      most = omega arith;
      reached = λ two. (here a.vars.now a.lows.now a.highs.now a.count c.requires.0 a.f.0 two c.requires.1).least;
      right = marked-new 64 (nodes_in a.vars.now a.lows.now a.highs.now a.count) a.memo.now a.stamp _
          (subst (λ (m : ℕ). MarksBelow m a.memo.now a.stamp)
          (sym (length-in a.vars.now a.lows.now a.highs.now a.count c.requires.0)) c.requires.3);
      marks = λ i p. omega (arith, c.requires.3 i p);
    }

pub returns : goal.returns
returns c =
    record { fact = struck-all 64 _ _ c.strike.result c.strike.ensures.struck; marks_below = c.strike.ensures.marks_below }
