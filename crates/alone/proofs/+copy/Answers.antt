-- A shared node copied into the book's own table: its outcome is the placing of its diagram, and what is known stays right. The idea: a
-- node's number falls with each call; a place of the code is one law of Copying. Assumes nothing.
use mathlib.Core.Path.{refl, ◌∙◌}
use native.Mathlib.Omega.{arith}
use lib.ListN.{length-set}
use Rattle.walks.proofs.Here.{Here, here}
use Rattle.alone.proofs.Copying.{leaf-done, known-done, low-inside, high-inside, low-done, high-ready, high-good, high-done}
use Rattle.alone.proofs.Copying.{both-done, known-stored}
use Rattle.alone.proofs.+copy.Goals as goal

pub returns-then-k-lt2 : goal.returns-then-k-lt2
returns-then-k-lt2 t c = record {
  result_after = leaf-done _ _ _ _ _ _ c.requires.0 _ c.requires.1 c.if-k-lt2.true;
  fact = c.requires.0.right;
}

pub returns-then-n-ne0 : goal.returns-then-n-ne0
returns-then-n-ne0 t c = record {
  result_after = known-done _ _ _ _ _ _ c.requires.0 _ c.requires.1 _ refl c.if-n-ne0.true;
  fact = c.requires.0.right;
}

pub copy-low-requires : goal.copy-low-requires
copy-low-requires t c =
    let H : Here c.args.vars.now c.args.lows.now c.args.highs.now c.args.count c.args.k.0 =
    here _ _ _ _ c.requires.0.readable _ c.if-k-lt2.false c.requires.1 in (
      omega (arith, c.decreases, H.low-less),
      (c.requires.0, low-inside _ _ _ _ _ _ c.requires.0 _ c.requires.1 c.if-k-lt2.false),
    )

pub returns-then-low : goal.returns-then-low
returns-then-low t c = record {
  result_after = low-done _ _ _ _ _ _ c.requires.0 _ c.requires.1 c.if-k-lt2.false _ c.copy-low.ensures.result_after
      c.copy-low.new.known c.copy-low.auto.known c.copy-low.ensures.fact c.if-low.true;
  fact = c.copy-low.ensures.fact;
}

pub copy-high-requires : goal.copy-high-requires
copy-high-requires t c =
    let H : Here c.args.vars.now c.args.lows.now c.args.highs.now c.args.count c.args.k.0 =
    here _ _ _ _ c.requires.0.readable _ c.if-k-lt2.false c.requires.1 in (
      omega (arith, c.decreases, H.high-less),
      (
        high-ready _ _ _ _ _ _ c.requires.0 _ c.requires.1 c.if-k-lt2.false _ c.copy-low.ensures.result_after
            c.copy-low.new.known c.copy-low.auto.known c.copy-low.ensures.fact,
        high-inside _ _ _ _ _ _ c.requires.0 _ c.requires.1 c.if-k-lt2.false,
      ),
    )

pub returns-then-high : goal.returns-then-high
returns-then-high t c = record {
  result_after = high-done _ _ _ _ _ _ c.requires.0 _ c.requires.1 c.if-k-lt2.false _ c.copy-low.ensures.result_after
      c.copy-low.new.known c.copy-low.auto.known c.copy-low.ensures.fact c.if-low.false _ c.copy-high.ensures.result_after
      c.copy-high.new.known c.copy-high.auto.known c.copy-high.ensures.fact c.if-high.true;
  fact = c.copy-high.ensures.fact;
}

pub put-p-requires : goal.put-p-requires
put-p-requires t c =
    high-good _ _ _ _ _ _ c.requires.0 _ c.requires.1 c.if-k-lt2.false _ c.copy-low.ensures.result_after
    c.copy-low.new.known c.copy-low.auto.known c.copy-low.ensures.fact c.if-low.false _ c.copy-high.ensures.result_after
    c.copy-high.new.known c.copy-high.auto.known c.copy-high.ensures.fact

pub offset_bounds-known-i-2 : goal.offset_bounds-known-i-2
offset_bounds-known-i-2 t c = omega (arith, c.requires.1, c.requires.0.readable.within, c.requires.0.readable.most)

pub bounds-known-i-2 : goal.bounds-known-i-2
bounds-known-i-2 t c = omega (arith, c.requires.1, c.requires.0.room, c.copy-high.auto.known, c.copy-low.auto.known)

pub shape_of-known : goal.shape_of-known
shape_of-known t c =
    length-set c.copy-high.new.known c.args.k.0 c.put-p.result.node.0 ∙ c.copy-high.auto.known ∙ c.copy-low.auto.known

pub returns : goal.returns
returns t c = record {
  result_after = both-done _ _ _ _ _ _ c.requires.0 _ c.requires.1 c.if-k-lt2.false _ c.copy-low.ensures.result_after
      c.copy-low.new.known c.copy-low.auto.known c.copy-low.ensures.fact c.if-low.false _ c.copy-high.ensures.result_after
      c.copy-high.new.known c.copy-high.auto.known c.copy-high.ensures.fact c.if-high.false _ c.put-p.ensures;
  fact = known-stored _ _ _ _ _ _ c.requires.0 _ c.requires.1 c.if-k-lt2.false _ c.copy-low.ensures.result_after
      c.copy-low.new.known c.copy-low.auto.known c.copy-low.ensures.fact c.if-low.false _ c.copy-high.ensures.result_after
      c.copy-high.new.known c.copy-high.auto.known c.copy-high.ensures.fact c.if-high.false _ c.put-p.ensures;
}
