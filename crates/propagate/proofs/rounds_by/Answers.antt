-- Round by round: what holds before one holds before the next. Assumes nothing.
use mathlib.Core.Path.{◌≡◌, refl, sym, ap, ◌∙◌, subst}
use mathlib.Core.Bool.{Bool, false}
use mathlib.Core.List.{List, map}
use Prim.Native.Nat.{ℕ, ◌+◌, ◌-◌, ◌≤◌}
use native.Mathlib.Omega.{arith}
use lib.ListN.{length, get_or, take, length-map}
use lib.Seq.{length-take-le}
use lib.Bits.{bit_or}
use Rattle.table.specs.Nodes.{diagram_at}
use Rattle.table.specs.Indexed.{Table, size, table_of, nodes_of}
use Rattle.table.specs.Lists.{diagrams_of}
use Rattle.walks.specs.Readable.{ListReady}
use Rattle.touched.specs.Places.{AllBut, Untouched}
use Rattle.conflict.specs.Marks.{unmarked}
use Rattle.conflict.specs.Members.{Asked}
use Rattle.members.specs.Made.{AllMade}
use Rattle.unit_search.specs.Units.{UnitsAsked}
use Rattle.propagate.specs.Rounds.{unit_results, NextIs}
use Rattle.propagate.proofs.Quieting.{asked-next, units-next}
use Rattle.propagate.proofs.Rounds.{Going, going-ready, going_on, going-first, going-ends, going-full}
use Rattle.propagate.proofs.rounds_by.Goals as goal

pub loop-places-init : goal.loop-places-init
loop-places-init c =
    let entry : Table =
    let a = c.args in table_of a.vars.now a.lows.now a.highs.now a.heads.now a.links.now a.count in
    let a = c.args in (
      record {
        going = going-first entry a.list.now a.memo.now a.marks.now c.requires.fact.0 c.requires.fact.1;
        worded = c.requires.fact_2.0;
        supports = c.requires.fact_2.1;
        due = c.requires.fact_2.2;
      },
      refl,
      refl,
      refl,
      refl,
      refl,
      refl,
      refl,
      refl,
      refl,
      refl,
      refl,
    )

pub touched_places-many-requires : goal.touched_places-many-requires
touched_places-many-requires c =
    let few : length c.loop-places.list ≤ 2048 =
    omega (arith, c.loop-places.invariant.8, c.requires.fact.2) in
    (omega (arith, c.loop-places.invariant.0.worded, few, c.loop-places.invariant.10), omega (arith, c.loop-places.invariant.0.worded, few))

pub slice_bounds-round-end : goal.slice_bounds-round-end
slice_bounds-round-end c =
    let few : length c.loop-places.list ≤ 2048 =
    omega (arith, c.loop-places.invariant.8, c.requires.fact.2) in
    let places-found : List ℕ =
    take c.touched_places-many.result c.touched_places-many.new.places in
    let many-fit : c.touched_places-many.result ≤ 2048 =
    omega (arith, c.touched_places-many.ensures.0, c.loop-places.invariant.0.worded, few) in
    let places-long : length c.touched_places-many.new.places ≡ 2048 =
    c.touched_places-many.auto.places ∙ c.loop-places.invariant.10 in
    let many-there : c.touched_places-many.result ≤ length c.touched_places-many.new.places =
    omega (arith, many-fit, places-long) in
    let counted : length places-found ≡ c.touched_places-many.result =
    length-take-le _ _ many-there in
    sym counted

pub round-made-requires : goal.round-made-requires
round-made-requires c =
    let entry : Table =
    let a = c.args in table_of a.vars.now a.lows.now a.highs.now a.heads.now a.links.now a.count in
    let here : Table =
    table_of c.loop-places.vars c.loop-places.lows c.loop-places.highs c.loop-places.heads c.loop-places.links c.loop-places.n in
    let touching : ℕ =
    bit_or c.loop-places.u.positive c.loop-places.u.negative in
    let ready : ListReady here c.loop-places.list c.loop-places.memo =
    going-ready entry c.requires.fact.0.good (diagrams_of (nodes_of entry) c.args.list.now) here c.loop-places.list c.loop-places.memo
    c.loop-places.marks c.loop-places.rounds c.loop-places.invariant.0.going in
    let places-found : List ℕ =
    take c.touched_places-many.result c.touched_places-many.new.places in
    let all_but : AllBut (length c.loop-places.list) places-found (Untouched c.loop-places.words touching) =
    subst (λ (n : ℕ). AllBut n places-found (Untouched c.loop-places.words touching)) c.loop-places.invariant.0.worded
    c.touched_places-many.ensures.1 in
    let d = c.loop-places.invariant.0 in
    (ready, d.worded, d.supports, d.due.2, all_but)

pub shape_of-vars-then-made : goal.shape_of-vars-then-made
shape_of-vars-then-made c = c.round-made.auto.vars ∙ c.loop-places.invariant.1

pub shape_of-lows-then-made : goal.shape_of-lows-then-made
shape_of-lows-then-made c = c.round-made.auto.lows ∙ c.loop-places.invariant.2

pub shape_of-highs-then-made : goal.shape_of-highs-then-made
shape_of-highs-then-made c = c.round-made.auto.highs ∙ c.loop-places.invariant.3

pub shape_of-heads-then-made : goal.shape_of-heads-then-made
shape_of-heads-then-made c = c.round-made.auto.heads ∙ c.loop-places.invariant.4

pub shape_of-links-then-made : goal.shape_of-links-then-made
shape_of-links-then-made c = c.round-made.auto.links ∙ c.loop-places.invariant.5

pub shape_of-memo-then-made : goal.shape_of-memo-then-made
shape_of-memo-then-made c = c.round-made.auto.memo ∙ c.loop-places.invariant.6

pub shape_of-marks-then-made : goal.shape_of-marks-then-made
shape_of-marks-then-made c = c.loop-places.invariant.7

pub shape_of-list-then-made : goal.shape_of-list-then-made
shape_of-list-then-made c = c.round-made.auto.list ∙ c.loop-places.invariant.8

pub shape_of-words-then-made : goal.shape_of-words-then-made
shape_of-words-then-made c = c.round-made.auto.words ∙ c.loop-places.invariant.9

pub returns-then-made : goal.returns-then-made
returns-then-made c =
    let entry : Table =
    let a = c.args in table_of a.vars.now a.lows.now a.highs.now a.heads.now a.links.now a.count in
    let here : Table =
    table_of c.loop-places.vars c.loop-places.lows c.loop-places.highs c.loop-places.heads c.loop-places.links c.loop-places.n in
    let after : Table =
    table_of c.round-made.new.vars c.round-made.new.lows c.round-made.new.highs c.round-made.new.heads c.round-made.new.links
    c.round-made.result.count in
    let list-after : List ℕ =
    c.round-made.new.list in
    let d = c.loop-places.invariant.0 in
    record {
      fact_3 = going-full entry c.requires.fact.0.good (diagrams_of (nodes_of entry) c.args.list.now) here c.loop-places.list
          c.loop-places.memo
          c.loop-places.marks c.loop-places.rounds d.going d.due.0 d.due.1 c.loop-places.u d.due.2
          c.round-made.result.full after list-after c.round-made.ensures.fact c.if-made.true false;
      marks_after = d.going.clear;
    }

pub overflow_add-rounds : goal.overflow_add-rounds
overflow_add-rounds c = omega (arith, c.loop-places.invariant.0.due.0)

pub slice_bounds-places-end-in-loop-places : goal.slice_bounds-places-end-in-loop-places
slice_bounds-places-end-in-loop-places c =
    let few : length c.loop-places.list ≤ 2048 =
    omega (arith, c.loop-places.invariant.8, c.requires.fact.2) in
    let many-fit : c.touched_places-many.result ≤ 2048 =
    omega (arith, c.touched_places-many.ensures.0, c.loop-places.invariant.0.worded, few) in
    let places-long : length c.touched_places-many.new.places ≡ 2048 =
    c.touched_places-many.auto.places ∙ c.loop-places.invariant.10 in
    let many-there : c.touched_places-many.result ≤ length c.touched_places-many.new.places =
    omega (arith, many-fit, places-long) in
    many-there

pub slice_bounds-nodes_at-end : goal.slice_bounds-nodes_at-end
slice_bounds-nodes_at-end c =
    let few : length c.loop-places.list ≤ 2048 =
    omega (arith, c.loop-places.invariant.8, c.requires.fact.2) in
    let places-found : List ℕ =
    take c.touched_places-many.result c.touched_places-many.new.places in
    let many-fit : c.touched_places-many.result ≤ 2048 =
    omega (arith, c.touched_places-many.ensures.0, c.loop-places.invariant.0.worded, few) in
    let places-long : length c.touched_places-many.new.places ≡ 2048 =
    c.touched_places-many.auto.places ∙ c.loop-places.invariant.10 in
    let many-there : c.touched_places-many.result ≤ length c.touched_places-many.new.places =
    omega (arith, many-fit, places-long) in
    let counted : length places-found ≡ c.touched_places-many.result =
    length-take-le _ _ many-there in
    sym counted

pub slice_bounds-nodes_at-end-in-loop-places : goal.slice_bounds-nodes_at-end-in-loop-places
slice_bounds-nodes_at-end-in-loop-places c = sym c.loop-places.invariant.11

pub nodes_at-requires : goal.nodes_at-requires
nodes_at-requires c =
    let list-after : List ℕ =
    c.round-made.new.list in
    let touching : ℕ =
    bit_or c.loop-places.u.positive c.loop-places.u.negative in
    let few : length c.loop-places.list ≤ 2048 =
    omega (arith, c.loop-places.invariant.8, c.requires.fact.2) in
    let places-found : List ℕ =
    take c.touched_places-many.result c.touched_places-many.new.places in
    let many-fit : c.touched_places-many.result ≤ 2048 =
    omega (arith, c.touched_places-many.ensures.0, c.loop-places.invariant.0.worded, few) in
    let places-long : length c.touched_places-many.new.places ≡ 2048 =
    c.touched_places-many.auto.places ∙ c.loop-places.invariant.10 in
    let many-there : c.touched_places-many.result ≤ length c.touched_places-many.new.places =
    omega (arith, many-fit, places-long) in
    let counted : length places-found ≡ c.touched_places-many.result =
    length-take-le _ _ many-there in
    let all_but : AllBut (length c.loop-places.list) places-found (Untouched c.loop-places.words touching) =
    subst (λ (n : ℕ). AllBut n places-found (Untouched c.loop-places.words touching)) c.loop-places.invariant.0.worded
    c.touched_places-many.ensures.1 in
    let same-list : length list-after ≡ length c.loop-places.list =
    c.round-made.auto.list in (
      λ k p. omega (arith, all_but.inside k p, same-list),
      omega (arith, counted, many-fit, c.loop-places.invariant.11),
    )

pub slice_bounds-places-end-in-loop-places-2 : goal.slice_bounds-places-end-in-loop-places-2
slice_bounds-places-end-in-loop-places-2 c =
    let few : length c.loop-places.list ≤ 2048 =
    omega (arith, c.loop-places.invariant.8, c.requires.fact.2) in
    let many-fit : c.touched_places-many.result ≤ 2048 =
    omega (arith, c.touched_places-many.ensures.0, c.loop-places.invariant.0.worded, few) in
    let places-long : length c.touched_places-many.new.places ≡ 2048 =
    c.touched_places-many.auto.places ∙ c.loop-places.invariant.10 in
    let many-there : c.touched_places-many.result ≤ length c.touched_places-many.new.places =
    omega (arith, many-fit, places-long) in
    many-there

pub slice_bounds-next_round-end : goal.slice_bounds-next_round-end
slice_bounds-next_round-end c =
    let few : length c.loop-places.list ≤ 2048 =
    omega (arith, c.loop-places.invariant.8, c.requires.fact.2) in
    let places-found : List ℕ =
    take c.touched_places-many.result c.touched_places-many.new.places in
    let many-fit : c.touched_places-many.result ≤ 2048 =
    omega (arith, c.touched_places-many.ensures.0, c.loop-places.invariant.0.worded, few) in
    let places-long : length c.touched_places-many.new.places ≡ 2048 =
    c.touched_places-many.auto.places ∙ c.loop-places.invariant.10 in
    let many-there : c.touched_places-many.result ≤ length c.touched_places-many.new.places =
    omega (arith, many-fit, places-long) in
    let counted : length places-found ≡ c.touched_places-many.result =
    length-take-le _ _ many-there in
    sym counted

pub slice_bounds-nodes-end : goal.slice_bounds-nodes-end
slice_bounds-nodes-end c =
    let few : length c.loop-places.list ≤ 2048 =
    omega (arith, c.loop-places.invariant.8, c.requires.fact.2) in
    let many-fit : c.touched_places-many.result ≤ 2048 =
    omega (arith, c.touched_places-many.ensures.0, c.loop-places.invariant.0.worded, few) in
    let nodes-long : length c.nodes_at.new.nodes ≡ 2048 =
    c.nodes_at.auto.nodes ∙ c.loop-places.invariant.11 in
    omega (
      arith,
      many-fit,
      nodes-long,
    )

pub slice_bounds-next_round-end-in-loop-places : goal.slice_bounds-next_round-end-in-loop-places
slice_bounds-next_round-end-in-loop-places c =
    let few : length c.loop-places.list ≤ 2048 =
    omega (arith, c.loop-places.invariant.8, c.requires.fact.2) in
    let many-fit : c.touched_places-many.result ≤ 2048 =
    omega (arith, c.touched_places-many.ensures.0, c.loop-places.invariant.0.worded, few) in
    let nodes-long : length c.nodes_at.new.nodes ≡ 2048 =
    c.nodes_at.auto.nodes ∙ c.loop-places.invariant.11 in
    sym (length-take-le _ _ (omega (arith, many-fit, nodes-long)))

pub next_round-requires : goal.next_round-requires
next_round-requires c =
    let entry : Table =
    let a = c.args in table_of a.vars.now a.lows.now a.highs.now a.heads.now a.links.now a.count in
    let here : Table =
    table_of c.loop-places.vars c.loop-places.lows c.loop-places.highs c.loop-places.heads c.loop-places.links c.loop-places.n in
    let after : Table =
    table_of c.round-made.new.vars c.round-made.new.lows c.round-made.new.highs c.round-made.new.heads c.round-made.new.links
    c.round-made.result.count in
    let list-after : List ℕ =
    c.round-made.new.list in
    let touching : ℕ =
    bit_or c.loop-places.u.positive c.loop-places.u.negative in
    let few : length c.loop-places.list ≤ 2048 =
    omega (arith, c.loop-places.invariant.8, c.requires.fact.2) in
    let ready : ListReady here c.loop-places.list c.loop-places.memo =
    going-ready entry c.requires.fact.0.good (diagrams_of (nodes_of entry) c.args.list.now) here c.loop-places.list c.loop-places.memo
    c.loop-places.marks c.loop-places.rounds c.loop-places.invariant.0.going in
    let places-found : List ℕ =
    take c.touched_places-many.result c.touched_places-many.new.places in
    let many-fit : c.touched_places-many.result ≤ 2048 =
    omega (arith, c.touched_places-many.ensures.0, c.loop-places.invariant.0.worded, few) in
    let places-long : length c.touched_places-many.new.places ≡ 2048 =
    c.touched_places-many.auto.places ∙ c.loop-places.invariant.10 in
    let many-there : c.touched_places-many.result ≤ length c.touched_places-many.new.places =
    omega (arith, many-fit, places-long) in
    let counted : length places-found ≡ c.touched_places-many.result =
    length-take-le _ _ many-there in
    let all_but : AllBut (length c.loop-places.list) places-found (Untouched c.loop-places.words touching) =
    subst (λ (n : ℕ). AllBut n places-found (Untouched c.loop-places.words touching)) c.loop-places.invariant.0.worded
    c.touched_places-many.ensures.1 in
    let made_all : AllMade here (unit_results c.loop-places.u here c.loop-places.list) false after list-after =
    subst (λ (b : Bool). AllMade here (unit_results c.loop-places.u here c.loop-places.list) b after
    list-after) c.if-made.false c.round-made.ensures.fact in
    let same-list : length list-after ≡ length c.loop-places.list =
    c.round-made.auto.list in
    let goes_on : (memo : List ℕ) → length memo ≡ length c.loop-places.memo → (marks : List ℕ) → marks ≡ unmarked (size entry) →
    Going entry (diagrams_of (nodes_of entry) c.args.list.now) after list-after memo marks (c.loop-places.rounds + 1) =
    let d = c.loop-places.invariant.0 in
    going_on entry c.requires.fact.0.good (diagrams_of (nodes_of entry) c.args.list.now) here c.loop-places.list c.loop-places.memo
    c.loop-places.marks
    c.loop-places.rounds d.going d.due.0 d.due.1 c.loop-places.u d.due.2
    false after list-after made_all refl in
    let asks : Asked (nodes_of after) list-after (map (λ i. get_or list-after i 0) places-found) false =
    asked-next here c.loop-places.list c.loop-places.memo c.loop-places.words ready c.loop-places.invariant.0.supports c.loop-places.u
    places-found
    all_but
    after list-after made_all same-list c.loop-places.invariant.0.due.1 in
    let asks-units : UnitsAsked (diagrams_of (nodes_of after) list-after) places-found c.loop-places.asked =
    units-next here c.loop-places.list c.loop-places.memo c.loop-places.words ready c.loop-places.invariant.0.supports c.loop-places.u
    places-found
    all_but
    after list-after made_all same-list c.loop-places.asked
    (omega (arith, c.loop-places.invariant.0.due.3, length-map c.loop-places.list (diagram_at (nodes_of here))))
    c.loop-places.invariant.0.due.4 in
    let many : ℕ =
    c.touched_places-many.result in
    let nodes-are : take many c.nodes_at.new.nodes ≡ map (λ i. get_or list-after i 0) places-found =
    ap (λ (k : ℕ). take k c.nodes_at.new.nodes) (sym counted) ∙ c.nodes_at.ensures in
    let on = goes_on c.round-made.new.memo c.round-made.auto.memo c.loop-places.marks c.loop-places.invariant.0.going.clear in record {
      fact = (
        going-ready entry c.requires.fact.0.good (diagrams_of (nodes_of entry) c.args.list.now) after list-after _
            c.loop-places.marks (c.loop-places.rounds + 1) on,
        c.loop-places.invariant.0.going.clear ∙ ap unmarked (sym (c.round-made.auto.vars ∙ c.loop-places.invariant.1)),
        omega (arith, c.loop-places.invariant.0.due.0),
      );
      fact_2 = (
        subst (λ (nodes : List ℕ). Asked (nodes_of after) list-after nodes false)
            (sym nodes-are) asks,
        asks-units,
      );
    }

pub shape_of-vars-in-End : goal.shape_of-vars-in-End
shape_of-vars-in-End c = c.round-made.auto.vars ∙ c.loop-places.invariant.1

pub shape_of-lows-in-End : goal.shape_of-lows-in-End
shape_of-lows-in-End c = c.round-made.auto.lows ∙ c.loop-places.invariant.2

pub shape_of-highs-in-End : goal.shape_of-highs-in-End
shape_of-highs-in-End c = c.round-made.auto.highs ∙ c.loop-places.invariant.3

pub shape_of-heads-in-End : goal.shape_of-heads-in-End
shape_of-heads-in-End c = c.round-made.auto.heads ∙ c.loop-places.invariant.4

pub shape_of-links-in-End : goal.shape_of-links-in-End
shape_of-links-in-End c = c.round-made.auto.links ∙ c.loop-places.invariant.5

pub shape_of-memo-in-End : goal.shape_of-memo-in-End
shape_of-memo-in-End c = c.next_round.auto.memo ∙ c.round-made.auto.memo
    ∙ c.loop-places.invariant.6

pub shape_of-marks-in-End : goal.shape_of-marks-in-End
shape_of-marks-in-End c = c.next_round.auto.marks ∙ c.loop-places.invariant.7

pub shape_of-list-in-End : goal.shape_of-list-in-End
shape_of-list-in-End c = c.round-made.auto.list ∙ c.loop-places.invariant.8

pub shape_of-words-in-End : goal.shape_of-words-in-End
shape_of-words-in-End c = c.round-made.auto.words ∙ c.loop-places.invariant.9

pub returns-in-End : goal.returns-in-End
returns-in-End c =
    let entry : Table =
    let a = c.args in table_of a.vars.now a.lows.now a.highs.now a.heads.now a.links.now a.count in
    let here : Table =
    table_of c.loop-places.vars c.loop-places.lows c.loop-places.highs c.loop-places.heads c.loop-places.links c.loop-places.n in
    let after : Table =
    table_of c.round-made.new.vars c.round-made.new.lows c.round-made.new.highs c.round-made.new.heads c.round-made.new.links
    c.round-made.result.count in
    let list-after : List ℕ =
    c.round-made.new.list in
    let made_all : AllMade here (unit_results c.loop-places.u here c.loop-places.list) false after list-after =
    subst (λ (b : Bool). AllMade here (unit_results c.loop-places.u here c.loop-places.list) b after
    list-after) c.if-made.false c.round-made.ensures.fact in
    let goes_on : (memo : List ℕ) → length memo ≡ length c.loop-places.memo → (marks : List ℕ) → marks ≡ unmarked (size entry) →
    Going entry (diagrams_of (nodes_of entry) c.args.list.now) after list-after memo marks (c.loop-places.rounds + 1) =
    let d = c.loop-places.invariant.0 in
    going_on entry c.requires.fact.0.good (diagrams_of (nodes_of entry) c.args.list.now) here c.loop-places.list c.loop-places.memo
    c.loop-places.marks
    c.loop-places.rounds d.going d.due.0 d.due.1 c.loop-places.u d.due.2
    false after list-after made_all refl in
    let ms = diagrams_of (nodes_of after) list-after in
    let ends = subst (NextIs ms (c.loop-places.rounds + 1)) c.in-End.is c.next_round.ensures.fact_3 in record {
      fact_3 = going-ends entry c.requires.fact.0.good (diagrams_of (nodes_of entry) c.args.list.now) after list-after
          c.round-made.new.memo c.loop-places.marks (c.loop-places.rounds + 1)
          (goes_on c.round-made.new.memo c.round-made.auto.memo c.loop-places.marks
          c.loop-places.invariant.0.going.clear) _ ends;
      marks_after = c.next_round.ensures.marks_after ∙ ap unmarked (c.round-made.auto.vars ∙ c.loop-places.invariant.1);
    }

pub loop-places-smaller : goal.loop-places-smaller
loop-places-smaller c = omega (arith, c.loop-places.invariant.0.due.0)

pub loop-places-preserved : goal.loop-places-preserved
loop-places-preserved c =
    let entry : Table =
    let a = c.args in table_of a.vars.now a.lows.now a.highs.now a.heads.now a.links.now a.count in
    let here : Table =
    table_of c.loop-places.vars c.loop-places.lows c.loop-places.highs c.loop-places.heads c.loop-places.links c.loop-places.n in
    let after : Table =
    table_of c.round-made.new.vars c.round-made.new.lows c.round-made.new.highs c.round-made.new.heads c.round-made.new.links
    c.round-made.result.count in
    let list-after : List ℕ =
    c.round-made.new.list in
    let places-long : length c.touched_places-many.new.places ≡ 2048 =
    c.touched_places-many.auto.places ∙ c.loop-places.invariant.10 in
    let made_all : AllMade here (unit_results c.loop-places.u here c.loop-places.list) false after list-after =
    subst (λ (b : Bool). AllMade here (unit_results c.loop-places.u here c.loop-places.list) b after
    list-after) c.if-made.false c.round-made.ensures.fact in
    let same-list : length list-after ≡ length c.loop-places.list =
    c.round-made.auto.list in
    let goes_on : (memo : List ℕ) → length memo ≡ length c.loop-places.memo → (marks : List ℕ) → marks ≡ unmarked (size entry) →
    Going entry (diagrams_of (nodes_of entry) c.args.list.now) after list-after memo marks (c.loop-places.rounds + 1) =
    let d = c.loop-places.invariant.0 in
    going_on entry c.requires.fact.0.good (diagrams_of (nodes_of entry) c.args.list.now) here c.loop-places.list c.loop-places.memo
    c.loop-places.marks
    c.loop-places.rounds d.going d.due.0 d.due.1 c.loop-places.u d.due.2
    false after list-after made_all refl in
    let nodes-long : length c.nodes_at.new.nodes ≡ 2048 =
    c.nodes_at.auto.nodes ∙ c.loop-places.invariant.11 in
    let ms = diagrams_of (nodes_of after) list-after in
    let due = subst (NextIs ms (c.loop-places.rounds + 1)) c.in-By.is c.next_round.ensures.fact_3 in (
      record {
        going = goes_on c.next_round.new.memo (c.next_round.auto.memo ∙ c.round-made.auto.memo) c.next_round.new.marks
            (c.next_round.ensures.marks_after ∙ ap unmarked (c.round-made.auto.vars ∙ c.loop-places.invariant.1));
        worded = c.round-made.auto.words ∙ c.loop-places.invariant.0.worded ∙ sym same-list;
        supports = c.round-made.ensures.supports c.if-made.false;
        due = due;
      },
      c.round-made.auto.vars ∙ c.loop-places.invariant.1,
      c.round-made.auto.lows ∙ c.loop-places.invariant.2,
      c.round-made.auto.highs ∙ c.loop-places.invariant.3,
      c.round-made.auto.heads ∙ c.loop-places.invariant.4,
      c.round-made.auto.links ∙ c.loop-places.invariant.5,
      c.next_round.auto.memo ∙ c.round-made.auto.memo ∙ c.loop-places.invariant.6,
      c.next_round.auto.marks ∙ c.loop-places.invariant.7,
      c.round-made.auto.list ∙ c.loop-places.invariant.8,
      c.round-made.auto.words ∙ c.loop-places.invariant.9,
      places-long,
      nodes-long,
    )
