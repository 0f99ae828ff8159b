-- The member goes to `apply_touching`; where it comes back as it was nothing is written. Assumes nothing.
use mathlib.Core.Logic.{inl, inr, ⊎_elim}
use Rattle.table.specs.Indexed.{table_of}
use Rattle.members.proofs.Written.{one_kept, one_written}
use Rattle.members.proofs.member_by.Goals as goal

pub apply_touching-p-requires : goal.apply_touching-p-requires
apply_touching-p-requires c =
    let r = c.requires in record { fact = (r.fact.2, r.fact.3, r.fact.4); xs_len = r.xs_len }

pub returns-then-p : goal.returns-then-p
returns-then-p c =
    let a = c.args in
    record {
      fact_2 = one_kept a.op (table_of a.vars.now a.lows.now a.highs.now a.heads.now a.links.now a.count) a.list.now
          a.words.now a.g.0 a.gained a.i c.apply_touching-p.result
          (table_of c.apply_touching-p.new.vars c.apply_touching-p.new.lows c.apply_touching-p.new.highs c.apply_touching-p.new.heads
          c.apply_touching-p.new.links c.apply_touching-p.result.count)
          c.apply_touching-p.ensures.result_after (⊎_elim (λ s. inl s) (λ s. inr s.1) c.then-p.either);
      fact_3 = c.apply_touching-p.ensures.fact_2;
    }

pub bounds-list-i-2 : goal.bounds-list-i-2
bounds-list-i-2 c =
    c.requires.fact.0

pub bounds-words-i-2 : goal.bounds-words-i-2
bounds-words-i-2 c =
    c.requires.fact.1

pub returns : goal.returns
returns c =
    let a = c.args in
    record {
      fact_2 = one_written a.op (table_of a.vars.now a.lows.now a.highs.now a.heads.now a.links.now a.count) a.list.now
          a.words.now a.g.0 a.gained a.i c.apply_touching-p.result
          (table_of c.apply_touching-p.new.vars c.apply_touching-p.new.lows c.apply_touching-p.new.highs c.apply_touching-p.new.heads
          c.apply_touching-p.new.links c.apply_touching-p.result.count)
          c.apply_touching-p.ensures.result_after c.if-p.false c.if-k-f.false;
      fact_3 = c.apply_touching-p.ensures.fact_2;
    }
