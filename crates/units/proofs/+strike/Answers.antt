-- `strike` leaves the literals alive that are units of the node or of variables before it, and the marks stay right. The node's number
-- falls. Assumes nothing.
use mathlib.Core.Path.{◌≡◌, sym, ap₂, ◌∙◌, subst}
use mathlib.Core.List.{List}
use Prim.Native.Nat.{ℕ, ◌+◌, ◌≤◌, ◌<◌}
use native.Mathlib.Omega.{arith}
use lib.ListN.{length, get_or}
use Rattle.std.specs.Prelude.{◌≢◌, bit_or}
use Rattle.words.specs.declared.Literals.{Literals}
use Rattle.table.specs.Nodes.{Node}
use Rattle.walks.specs.Readable.{nodes_in}
use Rattle.walks.proofs.Here.{Here, here}
use Rattle.units.specs.Units.{OfVariables, struck_to, past, Struck, Marked, StrikeReady}
use Rattle.units.proofs.Branches.{past-least, past-most, of-64}
use Rattle.units.proofs.Struck.{struck-zero, struck-one, marked-less, sides-after, marked-here, struck-node}
use Rattle.units.proofs.Struck.{struck-marked, struck-none, marked-stored}
use Rattle.units.proofs.+strike.Goals as goal

-- past the two constants
module _ (vs ls hs memo : List ℕ) (count f from stamp : ℕ) (alive : Literals)
    (ready : StrikeReady vs ls hs memo count f from stamp alive) (no-zero : f ≢ 0) (no-one : f ≢ 1) where
  abbrev nodes : List Node
  nodes = nodes_in vs ls hs count

  abbrev v : ℕ
  v = get_or vs f 0

  abbrev low : ℕ
  low = get_or ls f 0

  abbrev high : ℕ
  high = get_or hs f 0

  narrow : OfVariables 64 nodes
  narrow = of-64 vs ls hs count ready.readable

  two : 2 ≤ f
  two = omega arith

  at-node : Here vs ls hs count f
  at-node = here vs ls hs count ready.readable f two ready.inside

  past-fits : (p side : ℕ) → p ≡ past v side → (1 ≤ p) × (p ≤ 65)
  past-fits p side e = (omega (arith, e, at-node.least, past-least v side), omega (arith, e, at-node.most, past-most v side))

  sides : (2 ≤ low → v + 1 ≤ get_or vs low 0) × (2 ≤ high → v + 1 ≤ get_or vs high 0)
  sides = sides-after 64 vs ls hs count ready.readable narrow f two ready.inside

  -- where the literals that the node itself strikes are struck
  module _ (a : Literals) (p q : ℕ) (is : a ≡ struck_to 64 alive from p q) (p-is : p ≡ past v low) (q-is : q ≡ past v high) where
    left_is : a ≡ struck_to 64 alive from (past v low) (past v high)
    left_is = is ∙ ap₂ (λ (p n : ℕ). struck_to 64 alive from p n) p-is q-is

    right-here : Marked 64 memo nodes stamp a
    right-here = marked-here 64 vs ls hs count ready.readable narrow f two ready.inside from alive a ready.least
        (ready.reached two) left_is memo stamp ready.right

    none-left : bit_or a.positive a.negative ≡ 0 → Struck 64 nodes f from alive a
    none-left = struck-none 64 vs ls hs count ready.readable narrow f two ready.inside from alive a ready.least
        (ready.reached two) left_is

    marked-before : get_or memo f 0 ≡ stamp → Struck 64 nodes f from alive a
    marked-before = struck-marked 64 vs ls hs count ready.readable narrow f two ready.inside from alive a ready.least
        (ready.reached two) left_is memo stamp ready.right

    both : (b c : Literals) → Struck 64 nodes low (v + 1) a b → Struck 64 nodes high (v + 1) b c → Struck 64 nodes f from alive c
    both = struck-node 64 vs ls hs count ready.readable narrow f two ready.inside from alive a ready.least
        (ready.reached two) left_is

pub returns-then-f-eq0-clause-struck : goal.returns-then-f-eq0-clause-struck
returns-then-f-eq0-clause-struck t c =
    let nodes = nodes_in c.args.vars.now c.args.lows.now c.args.highs.now c.args.count in
    subst (λ (k : ℕ). Struck 64 nodes k c.args.from c.args.alive c.args.alive) (sym c.if-f-eq0.true)
    (struck-zero 64 nodes c.args.from c.args.alive)

pub returns-then-f-eq1-clause-struck : goal.returns-then-f-eq1-clause-struck
returns-then-f-eq1-clause-struck t c =
    let nodes = nodes_in c.args.vars.now c.args.lows.now c.args.highs.now c.args.count in
    subst (λ (j : ℕ). Struck 64 nodes j c.args.from c.args.alive c.strike_to.result) (sym c.if-f-eq1.true)
    (struck-one 64 nodes c.args.from c.args.alive c.strike_to.result c.requires.least c.strike_to.ensures)

pub returns-then-f-eq1-clause-marked : goal.returns-then-f-eq1-clause-marked
returns-then-f-eq1-clause-marked t c =
    let nodes = nodes_in c.args.vars.now c.args.lows.now c.args.highs.now c.args.count in
    marked-less 64 nodes c.args.memo.now c.args.stamp 1 c.args.from c.args.alive c.strike_to.result
    (struck-one 64 nodes c.args.from c.args.alive c.strike_to.result c.requires.least c.strike_to.ensures) c.requires.right

pub past-requires : goal.past-requires
past-requires t c = (at-node _ _ _ _ _ _ _ _ _ c.requires c.if-f-eq0.false c.if-f-eq1.false).most

pub past-requires-2 : goal.past-requires-2
past-requires-2 t c = (at-node _ _ _ _ _ _ _ _ _ c.requires c.if-f-eq0.false c.if-f-eq1.false).most

pub strike_to-a-requires : goal.strike_to-a-requires
strike_to-a-requires t c =
    let p = past-fits _ _ _ _ _ _ _ _ _ c.requires c.if-f-eq0.false c.if-f-eq1.false c.past.result _ c.past.ensures in
    let n = past-fits _ _ _ _ _ _ _ _ _ c.requires c.if-f-eq0.false c.if-f-eq1.false c.past-2.result _ c.past-2.ensures in
    (c.requires.least, c.requires.most, p.0, p.1, n.0, n.1)

pub returns-then-a-eq0-clause-struck : goal.returns-then-a-eq0-clause-struck
returns-then-a-eq0-clause-struck t c =
    none-left _ _ _ _ _ _ _ _ _ c.requires c.if-f-eq0.false c.if-f-eq1.false
    c.strike_to-a.result _ _ c.strike_to-a.ensures c.past.ensures c.past-2.ensures c.if-a-eq0.true

pub returns-then-a-eq0-clause-marked : goal.returns-then-a-eq0-clause-marked
returns-then-a-eq0-clause-marked t c =
    right-here _ _ _ _ _ _ _ _ _ c.requires c.if-f-eq0.false c.if-f-eq1.false
    c.strike_to-a.result _ _ c.strike_to-a.ensures c.past.ensures c.past-2.ensures

pub returns-then-memo-i-clause-struck : goal.returns-then-memo-i-clause-struck
returns-then-memo-i-clause-struck t c =
    marked-before _ _ _ _ _ _ _ _ _ c.requires c.if-f-eq0.false c.if-f-eq1.false
    c.strike_to-a.result _ _ c.strike_to-a.ensures c.past.ensures c.past-2.ensures c.if-memo-i.true

pub returns-then-memo-i-clause-marked : goal.returns-then-memo-i-clause-marked
returns-then-memo-i-clause-marked t c =
    right-here _ _ _ _ _ _ _ _ _ c.requires c.if-f-eq0.false c.if-f-eq1.false
    c.strike_to-a.result _ _ c.strike_to-a.ensures c.past.ensures c.past-2.ensures

pub overflow_add-v : goal.overflow_add-v
overflow_add-v t c =
    let H : Here c.args.vars.now c.args.lows.now c.args.highs.now c.args.count c.args.f.0 =
    at-node _ _ _ _ _ _ _ _ _ c.requires c.if-f-eq0.false c.if-f-eq1.false in
    omega (arith, H.most)

pub strike-b-requires : goal.strike-b-requires
strike-b-requires t c =
    let H : Here c.args.vars.now c.args.lows.now c.args.highs.now c.args.count c.args.f.0 =
    at-node _ _ _ _ _ _ _ _ _ c.requires c.if-f-eq0.false c.if-f-eq1.false in (
      omega (arith, c.decreases, H.low-less),
      record {
        readable = c.requires.readable;
        inside = omega (arith, c.requires.inside, H.low-less);
        room = c.requires.room;
        least = omega arith;
        most = omega (arith, H.most);
        reached = (sides _ _ _ _ _ _ _ _ _ c.requires c.if-f-eq0.false c.if-f-eq1.false).0;
        right = right-here _ _ _ _ _ _ _ _ _ c.requires c.if-f-eq0.false c.if-f-eq1.false
            c.strike_to-a.result _ _ c.strike_to-a.ensures c.past.ensures c.past-2.ensures;
        marks = c.requires.marks;
      },
    )

pub overflow_add-v-2 : goal.overflow_add-v-2
overflow_add-v-2 t c =
    let H : Here c.args.vars.now c.args.lows.now c.args.highs.now c.args.count c.args.f.0 =
    at-node _ _ _ _ _ _ _ _ _ c.requires c.if-f-eq0.false c.if-f-eq1.false in
    omega (arith, H.most)

pub strike-c-requires : goal.strike-c-requires
strike-c-requires t c =
    let H : Here c.args.vars.now c.args.lows.now c.args.highs.now c.args.count c.args.f.0 =
    at-node _ _ _ _ _ _ _ _ _ c.requires c.if-f-eq0.false c.if-f-eq1.false in (
      omega (arith, c.decreases, H.high-less),
      record {
        readable = c.requires.readable;
        inside = omega (arith, c.requires.inside, H.high-less);
        room = omega (arith, c.requires.room, c.strike-b.auto.memo);
        least = omega arith;
        most = omega (arith, H.most);
        reached = (sides _ _ _ _ _ _ _ _ _ c.requires c.if-f-eq0.false c.if-f-eq1.false).1;
        right = c.strike-b.ensures.marked;
        marks = c.strike-b.ensures.marks_below;
      },
    )

pub returns-clause-struck : goal.returns-clause-struck
returns-clause-struck t c =
    both _ _ _ _ _ _ _ _ _ c.requires c.if-f-eq0.false c.if-f-eq1.false
    c.strike_to-a.result _ _ c.strike_to-a.ensures c.past.ensures c.past-2.ensures
    c.strike-b.result c.strike-c.result c.strike-b.ensures.struck c.strike-c.ensures.struck

pub returns-clause-marked : goal.returns-clause-marked
returns-clause-marked t c =
    let two : 2 ≤ c.args.f.0 = two _ _ _ _ _ _ _ _ _ c.requires c.if-f-eq0.false c.if-f-eq1.false in
    let room : c.args.f.0 < length c.strike-c.new.memo = omega
    (arith, c.requires.room, c.requires.inside, c.requires.readable.within, c.strike-b.auto.memo, c.strike-c.auto.memo) in
    marked-stored 64 c.args.vars.now c.args.lows.now c.args.highs.now c.args.count c.requires.readable
    (narrow _ _ _ _ _ _ _ _ _ c.requires c.if-f-eq0.false c.if-f-eq1.false)
    c.args.f.0 two c.requires.inside c.args.from c.args.alive c.strike-c.result c.strike-c.new.memo c.args.stamp (c.requires.reached two)
    room
    (both _ _ _ _ _ _ _ _ _ c.requires c.if-f-eq0.false c.if-f-eq1.false
    c.strike_to-a.result _ _ c.strike_to-a.ensures c.past.ensures c.past-2.ensures
    c.strike-b.result c.strike-c.result c.strike-b.ensures.struck c.strike-c.ensures.struck)
    c.strike-c.ensures.marked
