-- `word_from` gives a word that has all variables of the node, or those that it forces, and its memo stays right. Assumes nothing.
use mathlib.Core.Path.{◌≡◌, sym, subst}
use mathlib.Core.Bool.{Bool}
use mathlib.Core.List.{List}
use Prim.Native.Nat.{ℕ, ◌≤◌, ◌<◌}
use native.Mathlib.Omega.{arith}
use lib.ListN.{get_or}
use lib.Bits.{bit_or}
use Rattle.table.specs.Nodes.{diagram_at}
use Rattle.walks.specs.Readable.{Readable, nodes_in}
use Rattle.walks.proofs.Here.{Here, here, length-in}
use Rattle.supports.specs.Supports.{WordOf, with_node}
use Rattle.supports.proofs.Words.{memo-known, memo-stored}
use Rattle.supports.proofs.ForcedWords.{word-leaf, word-node}
use Rattle.supports.proofs.+word_from.Goals as goal

-- src/lib.rt:55:9
pub returns-then-f-lt2-clause-word_of : goal.returns-then-f-lt2-clause-word_of
returns-then-f-lt2-clause-word_of t c =
    word-leaf c.args.all (nodes_in c.args.vars.now c.args.lows.now c.args.highs.now c.args.count) c.args.f.0 0 c.if-f-lt2.true

-- src/lib.rt:60:9
pub returns-then-known-ne0-clause-word_of : goal.returns-then-known-ne0-clause-word_of
returns-then-known-ne0-clause-word_of t c =
    memo-known (WordOf c.args.all) (nodes_in c.args.vars.now c.args.lows.now c.args.highs.now c.args.count) c.args.memo.now c.args.f.0
    (omega (
      arith,
      c.requires.readable.1,
      length-in c.args.vars.now c.args.lows.now c.args.highs.now c.args.count c.requires.readable.0,
    ))
    c.requires.word_memo c.if-known-ne0.true

-- src/lib.rt:65:13
pub word_from-a-requires : goal.word_from-a-requires
word_from-a-requires t c =
    let H : Here c.args.vars.now c.args.lows.now c.args.highs.now c.args.count c.args.f.0 =
    here _ _ _ _ c.requires.readable.0 _ c.if-f-lt2.false c.requires.readable.1 in (
      omega (arith, c.decreases, H.low-less),
      ((c.requires.readable.0, omega (arith, c.requires.readable.1, H.low-less), c.requires.readable.2), c.requires.word_memo),
    )

-- src/lib.rt:66:13
pub word_from-b-requires : goal.word_from-b-requires
word_from-b-requires t c =
    let H : Here c.args.vars.now c.args.lows.now c.args.highs.now c.args.count c.args.f.0 =
    here _ _ _ _ c.requires.readable.0 _ c.if-f-lt2.false c.requires.readable.1 in (
      omega (arith, c.decreases, H.high-less),
      (
        (
          c.requires.readable.0,
          omega (arith, c.requires.readable.1, H.high-less),
          omega (arith, c.requires.readable.2, c.word_from-a.auto.memo),
        ),
        c.word_from-a.ensures.fact,
      ),
    )

-- src/lib.rt:67:16
pub with_node-word-requires : goal.with_node-word-requires
with_node-word-requires t c =
    let H : Here c.args.vars.now c.args.lows.now c.args.highs.now c.args.count c.args.f.0 =
    here _ _ _ _ c.requires.readable.0 _ c.if-f-lt2.false c.requires.readable.1 in (H.least, H.most)

-- the word of both sides' words
combined : (all : Bool) (vs ls hs : List ℕ) (count : ℕ) (R : Readable vs ls hs count) (k : ℕ) (two : 2 ≤ k) (inside : k < count)
    (a b word : ℕ)
    → WordOf all a (diagram_at (nodes_in vs ls hs count) (get_or ls k 0)) →
    WordOf all b (diagram_at (nodes_in vs ls hs count) (get_or hs k 0))
    → word ≡ with_node all (bit_or a b) (get_or vs k 0) (get_or ls k 0) (get_or hs k 0)
    → WordOf all word (diagram_at (nodes_in vs ls hs count) k)
combined all vs ls hs count R k two inside a b word u x e =
    subst (λ (w : ℕ). WordOf all w (diagram_at (nodes_in vs ls hs count) k)) (sym e) (word-node all vs ls hs count R k two inside a b u x)

-- src/lib.rt:37:1
pub returns-clause-word_of : goal.returns-clause-word_of
returns-clause-word_of t c =
    combined c.args.all c.args.vars.now c.args.lows.now c.args.highs.now c.args.count c.requires.readable.0 c.args.f.0 c.if-f-lt2.false
    c.requires.readable.1 c.word_from-a.result c.word_from-b.result c.with_node-word.result c.word_from-a.ensures.word_of
    c.word_from-b.ensures.word_of c.with_node-word.ensures

-- src/lib.rt:37:1
pub returns-clause-fact : goal.returns-clause-fact
returns-clause-fact t c =
    memo-stored (WordOf c.args.all) (nodes_in c.args.vars.now c.args.lows.now c.args.highs.now c.args.count) c.word_from-b.new.memo
    c.args.f.0 c.with_node-word.result
    (omega (
      arith,
      c.requires.readable.1,
      c.requires.readable.2,
      c.requires.readable.0.within,
      c.word_from-a.auto.memo,
      c.word_from-b.auto.memo,
    ))
    c.word_from-b.ensures.fact
    (combined c.args.all c.args.vars.now c.args.lows.now c.args.highs.now c.args.count c.requires.readable.0 c.args.f.0
    c.if-f-lt2.false c.requires.readable.1 c.word_from-a.result c.word_from-b.result c.with_node-word.result
    c.word_from-a.ensures.word_of c.word_from-b.ensures.word_of c.with_node-word.ensures)
