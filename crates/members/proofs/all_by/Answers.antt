-- The members at the places are made one by one, and the others passed over: `Making` holds at each place. Assumes nothing.
use mathlib.Core.Path.{refl, ◌∙◌, subst}
use Prim.Native.Nat.{ℕ, suc, ◌+◌, ◌-◌, ◌≤◌, ◌<◌}
use native.Mathlib.Omega.{arith}
use native.Mathlib.Numerals.{add-one}
use lib.ListN.{length, get_or, get_or-eq_default}
use Rattle.meaning.proofs.Booleans.{t≢f}
use Rattle.table.specs.Indexed.{Table, Outcome, table_of, nodes_of}
use Rattle.table.specs.Lists.{diagrams_of}
use Rattle.operate.proofs.RightMemo.{empty_right}
use Rattle.members.specs.Made.{results}
use Rattle.members.proofs.Counting.{counting-none}
use Rattle.members.proofs.Rewording.{rewording-none}
use Rattle.members.proofs.Replacing.{replacing-none, stopped, all-replaced, all-counted}
use Rattle.touched.proofs.Places.{get_or-inside}
use Rattle.members.proofs.OneByOne.{Making, ready, has, touches-here, making-next, making-to-next}
use Rattle.members.proofs.all_by.Goals as goal

pub clear_memo-requires : goal.clear_memo-requires
clear_memo-requires c =
    omega (arith, c.requires.fact.0.room)

pub loop-k-init : goal.loop-k-init
loop-k-init c =
    let entry : Table =
    let a = c.args in table_of a.vars.now a.lows.now a.highs.now a.heads.now a.links.now a.count in
    let a = c.args in (
      making-to-next a.op a.g.0 a.gained a.touching entry a.list.now a.words.now a.memo.now c.requires.fact.0 c.requires.fact.1
          c.requires.fact.2 c.requires.fact_2.0 c.requires.fact_2.2 c.requires.fact_2.3 entry a.list.now a.words.now c.clear_memo.new.memo 0
          a.places.now c.requires.fact_2.4 0
          (omega arith)
          (record {
            members = replacing-none a.op a.g.0 entry a.list.now a.memo.now c.requires.fact.0 c.requires.fact.1 c.clear_memo.new.memo
                (empty_right c.clear_memo.ensures a.op entry);
            supports = c.requires.fact_2.1;
            rewords = rewording-none a.words.now;
            counts = counting-none (diagrams_of (nodes_of entry) a.list.now) (results a.op entry a.list.now a.g.0);
          }),
      refl,
      refl,
      refl,
      refl,
      refl,
      refl,
      refl,
      refl,
      refl,
    )

pub overflow_cast-i : goal.overflow_cast-i
overflow_cast-i c = omega (arith, c.type_inv.places c.loop-k.k)

pub member_by-r-requires : goal.member_by-r-requires
member_by-r-requires c =
    let entry : Table =
    let a = c.args in table_of a.vars.now a.lows.now a.highs.now a.heads.now a.links.now a.count in
    let here : Table =
    table_of c.loop-k.vars c.loop-k.lows c.loop-k.highs c.loop-k.heads c.loop-k.links c.loop-k.n in
    let this : ℕ =
    get_or c.args.places.now c.loop-k.k 0 in
    let so_far : let a = c.args in Making a.op a.g.0 entry a.list.now a.words.now here c.loop-k.list c.loop-k.words c.loop-k.memo this
    c.loop-k.written =
    let a = c.args in
    subst (λ (x : ℕ). Making a.op a.g.0 entry a.list.now a.words.now here c.loop-k.list c.loop-k.words c.loop-k.memo x
    c.loop-k.written)
    (get_or-inside a.places.now c.loop-k.k (length a.list.now) 0 c.loop-k-test.true) c.loop-k.invariant.0 in
    let this-inside : this < length c.loop-k.list =
    omega (arith, c.requires.fact_2.4.inside _ c.loop-k-test.true, so_far.members.members) in
    let a = c.args in
    record {
      fact = (
        this-inside,
        omega (arith, so_far.rewords.lengths, so_far.members.members, c.requires.fact_2.0, this-inside),
        ready a.op a.g.0 a.gained a.touching entry a.list.now a.words.now a.memo.now c.requires.fact.0 c.requires.fact.1
            c.requires.fact.2 c.requires.fact_2.0 c.requires.fact_2.2 c.requires.fact_2.3 here c.loop-k.list c.loop-k.words c.loop-k.memo
            this c.loop-k.written so_far
            this-inside,
        has a.op a.g.0 a.gained a.touching entry a.list.now a.words.now a.memo.now c.requires.fact.0 c.requires.fact.1
            c.requires.fact.2 c.requires.fact_2.0 c.requires.fact_2.2 c.requires.fact_2.3 here c.loop-k.list c.loop-k.words c.loop-k.memo
            this c.loop-k.written so_far
            this-inside,
        touches-here a.op a.g.0 a.gained a.touching entry a.list.now a.words.now a.memo.now c.requires.fact.0 c.requires.fact.1
            c.requires.fact.2 c.requires.fact_2.0 c.requires.fact_2.2 c.requires.fact_2.3 here c.loop-k.list c.loop-k.words c.loop-k.memo
            this c.loop-k.written so_far
            this-inside,
      );
      xs_len = (c.loop-k.invariant.7, c.loop-k.invariant.8, c.loop-k.invariant.9);
    }

pub overflow_add-written : goal.overflow_add-written
overflow_add-written c =
    let entry : Table =
    let a = c.args in table_of a.vars.now a.lows.now a.highs.now a.heads.now a.links.now a.count in
    let here : Table =
    table_of c.loop-k.vars c.loop-k.lows c.loop-k.highs c.loop-k.heads c.loop-k.links c.loop-k.n in
    let this : ℕ =
    get_or c.args.places.now c.loop-k.k 0 in
    let so_far : let a = c.args in Making a.op a.g.0 entry a.list.now a.words.now here c.loop-k.list c.loop-k.words c.loop-k.memo this
    c.loop-k.written =
    let a = c.args in
    subst (λ (x : ℕ). Making a.op a.g.0 entry a.list.now a.words.now here c.loop-k.list c.loop-k.words c.loop-k.memo x
    c.loop-k.written)
    (get_or-inside a.places.now c.loop-k.k (length a.list.now) 0 c.loop-k-test.true) c.loop-k.invariant.0 in
    let this-inside : this < length c.loop-k.list =
    omega (arith, c.requires.fact_2.4.inside _ c.loop-k-test.true, so_far.members.members) in
    let list-fits : length c.loop-k.list < 18446744073709551616 =
    omega arith in
    omega (arith, so_far.counts.most, c.member_by-r.ensures.fact_2.most, this-inside, list-fits)

pub shape_of-vars-then-r : goal.shape_of-vars-then-r
shape_of-vars-then-r c =
    c.member_by-r.auto.vars ∙ c.loop-k.invariant.1

pub shape_of-lows-then-r : goal.shape_of-lows-then-r
shape_of-lows-then-r c =
    c.member_by-r.auto.lows ∙ c.loop-k.invariant.2

pub shape_of-highs-then-r : goal.shape_of-highs-then-r
shape_of-highs-then-r c =
    c.member_by-r.auto.highs ∙ c.loop-k.invariant.3

pub shape_of-heads-then-r : goal.shape_of-heads-then-r
shape_of-heads-then-r c =
    c.member_by-r.auto.heads ∙ c.loop-k.invariant.4

pub shape_of-links-then-r : goal.shape_of-links-then-r
shape_of-links-then-r c =
    c.member_by-r.auto.links ∙ c.loop-k.invariant.5

pub shape_of-memo-then-r : goal.shape_of-memo-then-r
shape_of-memo-then-r c =
    c.member_by-r.auto.memo ∙ c.loop-k.invariant.6
    ∙ c.clear_memo.auto.memo

pub shape_of-list-then-r : goal.shape_of-list-then-r
shape_of-list-then-r c =
    c.member_by-r.auto.list ∙ c.loop-k.invariant.0.members.members

pub shape_of-words-then-r : goal.shape_of-words-then-r
shape_of-words-then-r c =
    c.member_by-r.auto.words ∙ c.loop-k.invariant.0.rewords.lengths

pub returns-then-r : goal.returns-then-r
returns-then-r c =
    let entry : Table =
    let a = c.args in table_of a.vars.now a.lows.now a.highs.now a.heads.now a.links.now a.count in
    let here : Table =
    table_of c.loop-k.vars c.loop-k.lows c.loop-k.highs c.loop-k.heads c.loop-k.links c.loop-k.n in
    let made : Outcome =
    record {
      table = table_of c.member_by-r.new.vars c.member_by-r.new.lows c.member_by-r.new.highs c.member_by-r.new.heads c.member_by-r.new.links
          c.member_by-r.result.count;
      full = c.member_by-r.result.full;
      node = c.member_by-r.result.node.0;
    } in
    let this : ℕ =
    get_or c.args.places.now c.loop-k.k 0 in
    let so_far : let a = c.args in Making a.op a.g.0 entry a.list.now a.words.now here c.loop-k.list c.loop-k.words c.loop-k.memo this
    c.loop-k.written =
    let a = c.args in
    subst (λ (x : ℕ). Making a.op a.g.0 entry a.list.now a.words.now here c.loop-k.list c.loop-k.words c.loop-k.memo x
    c.loop-k.written)
    (get_or-inside a.places.now c.loop-k.k (length a.list.now) 0 c.loop-k-test.true) c.loop-k.invariant.0 in
    let this-inside : this < length c.loop-k.list =
    omega (arith, c.requires.fact_2.4.inside _ c.loop-k-test.true, so_far.members.members) in
    let a = c.args in
    record {
      fact_3 = stopped a.op a.g.0 entry a.list.now a.memo.now c.requires.fact.0 c.requires.fact.1 c.requires.fact.2 here c.loop-k.list
          c.loop-k.memo this
          so_far.members this-inside made c.member_by-r.ensures.fact_2.outcome c.if-r.true
          c.member_by-r.new.list;
      supports = λ z. t≢f z;
      written_value = λ z. t≢f z;
    }

pub overflow_add-k : goal.overflow_add-k
overflow_add-k c =
    let next_fits : c.loop-k.k + 1 < 18446744073709551616 =
    omega arith in
    omega (arith, next_fits)

pub loop-k-smaller : goal.loop-k-smaller
loop-k-smaller c = omega (arith, c.loop-k-test.true)

pub loop-k-preserved : goal.loop-k-preserved
loop-k-preserved c =
    let entry : Table =
    let a = c.args in table_of a.vars.now a.lows.now a.highs.now a.heads.now a.links.now a.count in
    let here : Table =
    table_of c.loop-k.vars c.loop-k.lows c.loop-k.highs c.loop-k.heads c.loop-k.links c.loop-k.n in
    let made : Outcome =
    record {
      table = table_of c.member_by-r.new.vars c.member_by-r.new.lows c.member_by-r.new.highs c.member_by-r.new.heads c.member_by-r.new.links
          c.member_by-r.result.count;
      full = c.member_by-r.result.full;
      node = c.member_by-r.result.node.0;
    } in
    let this : ℕ =
    get_or c.args.places.now c.loop-k.k 0 in
    let so_far : let a = c.args in Making a.op a.g.0 entry a.list.now a.words.now here c.loop-k.list c.loop-k.words c.loop-k.memo this
    c.loop-k.written =
    let a = c.args in
    subst (λ (x : ℕ). Making a.op a.g.0 entry a.list.now a.words.now here c.loop-k.list c.loop-k.words c.loop-k.memo x
    c.loop-k.written)
    (get_or-inside a.places.now c.loop-k.k (length a.list.now) 0 c.loop-k-test.true) c.loop-k.invariant.0 in
    let this-inside : this < length c.loop-k.list =
    omega (arith, c.requires.fact_2.4.inside _ c.loop-k-test.true, so_far.members.members) in
    let a = c.args in (
      rw (add-one c.loop-k.k)
          (making-to-next a.op a.g.0 a.gained a.touching entry a.list.now a.words.now a.memo.now c.requires.fact.0
          c.requires.fact.1 c.requires.fact.2 c.requires.fact_2.0 c.requires.fact_2.2 c.requires.fact_2.3 made.table c.member_by-r.new.list
          c.member_by-r.new.words c.member_by-r.new.memo (c.loop-k.written + c.member_by-r.result.written) a.places.now c.requires.fact_2.4
          (suc c.loop-k.k) (omega (arith, c.loop-k-test.true))
          (subst (λ (x : ℕ). Making a.op a.g.0 entry a.list.now a.words.now made.table
          c.member_by-r.new.list c.member_by-r.new.words c.member_by-r.new.memo x
          (c.loop-k.written + c.member_by-r.result.written)) (add-one this)
          (making-next a.op a.g.0 a.gained a.touching entry a.list.now a.words.now a.memo.now c.requires.fact.0
          c.requires.fact.1 c.requires.fact.2 c.requires.fact_2.0 c.requires.fact_2.2 c.requires.fact_2.3 here c.loop-k.list c.loop-k.words
          c.loop-k.memo this c.loop-k.written so_far
          this-inside c.member_by-r.result made.table c.member_by-r.new.list c.member_by-r.new.words
          c.member_by-r.new.memo c.member_by-r.ensures.fact_2 c.if-r.false c.member_by-r.ensures.fact_3))),
      c.member_by-r.auto.vars ∙ c.loop-k.invariant.1,
      c.member_by-r.auto.lows ∙ c.loop-k.invariant.2,
      c.member_by-r.auto.highs ∙ c.loop-k.invariant.3,
      c.member_by-r.auto.heads ∙ c.loop-k.invariant.4,
      c.member_by-r.auto.links ∙ c.loop-k.invariant.5,
      c.member_by-r.auto.memo ∙ c.loop-k.invariant.6,
      c.member_by-r.auto.xs ∙ c.loop-k.invariant.7,
      c.member_by-r.auto.told ∙ c.loop-k.invariant.8,
      c.member_by-r.auto.sides ∙ c.loop-k.invariant.9,
    )

pub returns : goal.returns
returns c =
    let entry : Table =
    let a = c.args in table_of a.vars.now a.lows.now a.highs.now a.heads.now a.links.now a.count in
    let here : Table =
    table_of c.loop-k.vars c.loop-k.lows c.loop-k.highs c.loop-k.heads c.loop-k.links c.loop-k.n in
    let a = c.args in
    let i : ℕ = get_or a.places.now c.loop-k.k (length a.list.now) in
    let t : length c.loop-k.list ≤ i = omega (
      arith,
      get_or-eq_default a.places.now (length a.list.now) {n = c.loop-k.k}
          (omega (arith, c.loop-k-test.false)),
      c.loop-k.invariant.0.members.members,
    ) in record {
      fact_3 = all-replaced a.op a.g.0 entry a.list.now a.memo.now c.requires.fact.0 c.requires.fact.1 here c.loop-k.list c.loop-k.memo i
          c.loop-k.invariant.0.members t;
      supports = λ z. c.loop-k.invariant.0.supports;
      written_value = λ z. all-counted a.op a.g.0 entry a.list.now a.memo.now c.requires.fact.0 c.requires.fact.1 here c.loop-k.list
          c.loop-k.memo i
          c.loop-k.written c.loop-k.invariant.0.members t c.loop-k.invariant.0.counts;
    }
