-- `by_negation` makes not-g and the members by it, in that order. Each place of the code is one law of Negations. Assumes nothing.
use mathlib.Core.Path.{◌≡◌, sym, ap, ◌∙◌, subst}
use mathlib.Core.Bool.{false}
use mathlib.Core.List.{List}
use Prim.Native.Nat.{ℕ, ◌≤◌, ◌<◌}
use lib.ListN.{length, take}
use lib.Seq.{length-take-le}
use Rattle.table.specs.Nodes.{diagram_at}
use Rattle.table.specs.Indexed.{Table, table_of, nodes_of, Outcome, outcome_of}
use Rattle.operate.specs.declared.Operation.TheVariants.{Negation, Cofactor}
use Rattle.operate.specs.Inner.{applied, Allowed}
use Rattle.operate.proofs.RightMemo.{empty_right}
use Rattle.meaning.proofs.Booleans.{t≢f}
use Rattle.supports.specs.Supports.{Support, Supports}
use Rattle.walks.specs.Readable.{ListReady}
use Rattle.walks.proofs.Here.{good-readable}
use Rattle.members.specs.Made.{results, AllMade}
use Rattle.members.specs.Touching.{Touches}
use Rattle.touched.specs.Places.{AllBut, Untouched}
use Rattle.judge.proofs.Negations.{negation-ready, negation-full, cofactors-ready, negation-words, cofactors-made}
use Rattle.judge.proofs.CubeWalks.{same-results}
use native.Mathlib.Omega.{arith}
use Rattle.judge.proofs.by_negation.Goals as goal

pub clear_memo-requires : goal.clear_memo-requires
clear_memo-requires c =
    omega (arith, c.requires.fact.0.ready.room)

pub apply-not-requires : goal.apply-not-requires
apply-not-requires c =
    let before : Table =
    table_of c.args.vars.now c.args.lows.now c.args.highs.now c.args.heads.now c.args.links.now
    c.args.count in
    negation-ready before c.args.members.now c.args.memo.now c.args.g.0 c.requires.fact.0 c.clear_memo.new.memo
    (empty_right c.clear_memo.ensures Negation before)

pub shape_of-vars-then-not : goal.shape_of-vars-then-not
shape_of-vars-then-not c =
    c.apply-not.auto.vars

pub shape_of-lows-then-not : goal.shape_of-lows-then-not
shape_of-lows-then-not c =
    c.apply-not.auto.lows

pub shape_of-highs-then-not : goal.shape_of-highs-then-not
shape_of-highs-then-not c =
    c.apply-not.auto.highs

pub shape_of-heads-then-not : goal.shape_of-heads-then-not
shape_of-heads-then-not c =
    c.apply-not.auto.heads

pub shape_of-links-then-not : goal.shape_of-links-then-not
shape_of-links-then-not c =
    c.apply-not.auto.links

pub shape_of-memo-then-not : goal.shape_of-memo-then-not
shape_of-memo-then-not c =
    c.apply-not.auto.memo ∙ c.clear_memo.auto.memo

pub shape_of-list-then-not : goal.shape_of-list-then-not
shape_of-list-then-not c =
    c.copy.auto.to

pub shape_of-words-then-not : goal.shape_of-words-then-not
shape_of-words-then-not c =
    c.copy_words.auto.to

pub returns-then-not : goal.returns-then-not
returns-then-not c =
    let before : Table =
    table_of c.args.vars.now c.args.lows.now c.args.highs.now c.args.heads.now c.args.links.now
    c.args.count in
    let made : Outcome =
    outcome_of c.apply-not.new.vars c.apply-not.new.lows c.apply-not.new.highs c.apply-not.new.heads
    c.apply-not.new.links c.apply-not.result in
    let made-is : made ≡ applied before Negation c.args.g.0 1 =
    c.apply-not.ensures.result_after in
    record {
      fact_3 = negation-full before c.args.members.now c.args.memo.now c.args.g.0 c.requires.fact.0 made made-is
          c.if-not.true c.copy.new.to;
      supports = λ z. t≢f z;
    }

pub by_node-by-requires : goal.by_node-by-requires
unfolding nodes_of
by_node-by-requires c =
    let before : Table =
    table_of c.args.vars.now c.args.lows.now c.args.highs.now c.args.heads.now c.args.links.now
    c.args.count in
    let made : Outcome =
    outcome_of c.apply-not.new.vars c.apply-not.new.lows c.apply-not.new.highs c.apply-not.new.heads
    c.apply-not.new.links c.apply-not.result in
    let memo₁ : List ℕ =
    c.apply-not.new.memo in
    let made-is : made ≡ applied before Negation c.args.g.0 1 =
    c.apply-not.ensures.result_after in
    let memo-length : length memo₁ ≡ length c.args.memo.now =
    c.apply-not.auto.memo ∙ c.clear_memo.auto.memo in
    let members-ready : (e : made.full ≡ false) → ListReady made.table c.args.members.now memo₁ × (made.node < made.table.count)
    × Allowed Cofactor made.node =
    λ e. cofactors-ready before c.args.members.now c.args.memo.now c.args.g.0
    c.requires.fact.0 made made-is e memo₁ memo-length in
    let worded : (e : made.full ≡ false) → (length c.args.memberwords.now ≡ length c.args.members.now)
    × Supports (nodes_of made.table) c.args.members.now c.args.memberwords.now
    × Support c.args.word (diagram_at (nodes_of made.table) made.node) =
    λ e. negation-words before c.args.members.now c.args.memo.now c.args.g.0 c.requires.fact.0 made
    made-is e c.args.memberwords.now c.args.word c.requires.fact_2.0 in
    let e = c.if-not.false in
    let R = members-ready e in
    (good-readable made.table R.0.good, R.1, R.0.room, (worded e).2, R.2)

pub touched_places-many-requires : goal.touched_places-many-requires
touched_places-many-requires c =
    let e : length c.copy_words.new.to ≡ length c.args.members.now =
    ap length c.copy_words.ensures ∙ c.requires.fact_2.0.lengths in
    (omega (arith, e, c.requires.fact.2), omega (arith, e, c.requires.fact.2))

pub slice_bounds-places-end : goal.slice_bounds-places-end
slice_bounds-places-end c =
    let copied : List ℕ =
    c.copy_words.new.to in
    let copied-length : length copied ≡ length c.args.members.now =
    ap length c.copy_words.ensures ∙ c.requires.fact_2.0.lengths in
    let many-there : c.touched_places-many.result ≤ length c.touched_places-many.new.places =
    omega (
      arith,
      c.touched_places-many.ensures.0,
      copied-length,
      c.requires.fact.2,
      c.touched_places-many.auto.places,
    ) in
    many-there

pub slice_bounds-all_by-end : goal.slice_bounds-all_by-end
slice_bounds-all_by-end c =
    let copied : List ℕ =
    c.copy_words.new.to in
    let places-found : List ℕ =
    take c.touched_places-many.result c.touched_places-many.new.places in
    let copied-length : length copied ≡ length c.args.members.now =
    ap length c.copy_words.ensures ∙ c.requires.fact_2.0.lengths in
    let many-there : c.touched_places-many.result ≤ length c.touched_places-many.new.places =
    omega (
      arith,
      c.touched_places-many.ensures.0,
      copied-length,
      c.requires.fact.2,
      c.touched_places-many.auto.places,
    ) in
    let counted : length places-found ≡ c.touched_places-many.result =
    length-take-le _ _ many-there in
    sym counted

pub all_by-requires : goal.all_by-requires
unfolding nodes_of
all_by-requires c =
    let before : Table =
    table_of c.args.vars.now c.args.lows.now c.args.highs.now c.args.heads.now c.args.links.now
    c.args.count in
    let made : Outcome =
    outcome_of c.apply-not.new.vars c.apply-not.new.lows c.apply-not.new.highs c.apply-not.new.heads
    c.apply-not.new.links c.apply-not.result in
    let memo₁ : List ℕ =
    c.apply-not.new.memo in
    let made-is : made ≡ applied before Negation c.args.g.0 1 =
    c.apply-not.ensures.result_after in
    let memo-length : length memo₁ ≡ length c.args.memo.now =
    c.apply-not.auto.memo ∙ c.clear_memo.auto.memo in
    let members-ready : (e : made.full ≡ false) → ListReady made.table c.args.members.now memo₁ × (made.node < made.table.count)
    × Allowed Cofactor made.node =
    λ e. cofactors-ready before c.args.members.now c.args.memo.now c.args.g.0
    c.requires.fact.0 made made-is e memo₁ memo-length in
    let worded : (e : made.full ≡ false) → (length c.args.memberwords.now ≡ length c.args.members.now)
    × Supports (nodes_of made.table) c.args.members.now c.args.memberwords.now
    × Support c.args.word (diagram_at (nodes_of made.table) made.node) =
    λ e. negation-words before c.args.members.now c.args.memo.now c.args.g.0 c.requires.fact.0 made
    made-is e c.args.memberwords.now c.args.word c.requires.fact_2.0 in
    let copied : List ℕ =
    c.copy_words.new.to in
    let places-found : List ℕ =
    take c.touched_places-many.result c.touched_places-many.new.places in
    let copied-length : length copied ≡ length c.args.members.now =
    ap length c.copy_words.ensures ∙ c.requires.fact_2.0.lengths in
    let e = c.if-not.false in
    let words = c.copy_words.new.to in
    let found = places-found in
    let R = members-ready e in
    let W = worded e in
    let r = c.by_node-by.result in
    let B = c.by_node-by.ensures in
    let D = diagram_at (nodes_of made.table) r.g.0 in record {
      fact = subst (λ l. ListReady made.table l c.by_node-by.new.memo × (r.g.0 < made.table.count) × Allowed r.op r.g.0)
          (sym c.copy.ensures) (
            record { good = R.0.good; inside = R.0.inside; room = omega (arith, R.0.room, c.by_node-by.auto.memo) },
            B.inside,
            B.allowed,
          );
      fact_2 = subst (λ l. (length words ≡ length l) × Supports (nodes_of made.table) l words × Touches r.op D r.touching
          × Support r.gained D × AllBut (length l) found (Untouched words r.touching))
          (sym c.copy.ensures) (
            copied-length,
            subst (Supports (nodes_of made.table) c.args.members.now) (sym c.copy_words.ensures)
                W.1,
            B.touches,
            B.gains,
            subst (λ n. AllBut n found (Untouched words r.touching)) copied-length c.touched_places-many.ensures.1,
          );
    }

pub shape_of-vars : goal.shape_of-vars
shape_of-vars c =
    c.all_by.auto.vars ∙ c.apply-not.auto.vars

pub shape_of-lows : goal.shape_of-lows
shape_of-lows c =
    c.all_by.auto.lows ∙ c.apply-not.auto.lows

pub shape_of-highs : goal.shape_of-highs
shape_of-highs c =
    c.all_by.auto.highs ∙ c.apply-not.auto.highs

pub shape_of-heads : goal.shape_of-heads
shape_of-heads c =
    c.all_by.auto.heads ∙ c.apply-not.auto.heads

pub shape_of-links : goal.shape_of-links
shape_of-links c =
    c.all_by.auto.links ∙ c.apply-not.auto.links

pub shape_of-memo : goal.shape_of-memo
shape_of-memo c =
    c.all_by.auto.memo ∙ c.by_node-by.auto.memo
    ∙ c.apply-not.auto.memo ∙ c.clear_memo.auto.memo

pub shape_of-list : goal.shape_of-list
shape_of-list c =
    c.all_by.auto.list ∙ c.copy.auto.to

pub shape_of-words : goal.shape_of-words
shape_of-words c =
    c.all_by.auto.words ∙ c.copy_words.auto.to

pub returns : goal.returns
unfolding nodes_of
returns c =
    let before : Table =
    table_of c.args.vars.now c.args.lows.now c.args.highs.now c.args.heads.now c.args.links.now
    c.args.count in
    let made : Outcome =
    outcome_of c.apply-not.new.vars c.apply-not.new.lows c.apply-not.new.highs c.apply-not.new.heads
    c.apply-not.new.links c.apply-not.result in
    let memo₁ : List ℕ =
    c.apply-not.new.memo in
    let made-is : made ≡ applied before Negation c.args.g.0 1 =
    c.apply-not.ensures.result_after in
    let memo-length : length memo₁ ≡ length c.args.memo.now =
    c.apply-not.auto.memo ∙ c.clear_memo.auto.memo in
    let members-ready : (e : made.full ≡ false) → ListReady made.table c.args.members.now memo₁ × (made.node < made.table.count)
    × Allowed Cofactor made.node =
    λ e. cofactors-ready before c.args.members.now c.args.memo.now c.args.g.0
    c.requires.fact.0 made made-is e memo₁ memo-length in
    let made_by : let r = c.by_node-by.result in results r.op made.table c.copy.new.to r.g.0
    ≡ results Cofactor made.table c.args.members.now made.node =
    let r = c.by_node-by.result in
    let R = members-ready c.if-not.false in
    ap (λ l. results r.op made.table l r.g.0) c.copy.ensures
    ∙ same-results made.table R.0.good made.node r c.by_node-by.ensures c.args.members.now
    R.0.inside in
    record {
      fact_3 = cofactors-made before c.args.members.now c.args.memo.now c.args.g.0 c.requires.fact.0 made made-is
          c.if-not.false c.all_by.result.full
          (table_of c.all_by.new.vars c.all_by.new.lows c.all_by.new.highs c.all_by.new.heads c.all_by.new.links c.all_by.result.count)
          c.all_by.new.list
          (subst (λ ms. AllMade made.table ms c.all_by.result.full
          (table_of c.all_by.new.vars c.all_by.new.lows c.all_by.new.highs c.all_by.new.heads c.all_by.new.links c.all_by.result.count)
          c.all_by.new.list) made_by c.all_by.ensures.fact_3);
      supports = c.all_by.ensures.supports;
    }
