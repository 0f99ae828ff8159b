-- `by_literals` makes the members by the literals, in order. Assumes nothing.
use mathlib.Core.Path.{◌≡◌, refl, sym, ap, ◌∙◌, subst}
use mathlib.Core.List.{List}
use Prim.Native.Nat.{ℕ, ◌≤◌, ◌<◌}
use native.Mathlib.Omega.{arith}
use lib.ListN.{length, take}
use lib.Bits.{bit_or}
use lib.Seq.{length-take-le}
use Rattle.table.specs.Nodes.{diagram_at}
use Rattle.table.specs.Indexed.{Table, table_of, nodes_of}
use Rattle.operate.specs.declared.Operation.TheVariants.{Literals}
use Rattle.operate.specs.Inner.{Allowed}
use Rattle.walks.specs.Readable.{ListReady}
use Rattle.supports.specs.Supports.{Support, Supports}
use Rattle.supports.proofs.Words.{support-leaf}
use Rattle.members.specs.Made.{AllMade}
use Rattle.members.specs.Touching.{Touches}
use Rattle.touched.specs.Places.{AllBut, Untouched}
use Rattle.propagate.specs.Rounds.{unit_results}
use Rattle.path_lines.proofs.by_literals.Goals as goal

pub touched_places-many-requires : goal.touched_places-many-requires
touched_places-many-requires c =
    let e : length c.copy_words.new.to ≡ length c.args.members.now =
    ap length c.copy_words.ensures ∙ c.requires.fact_2.0 in
    (omega (arith, e, c.requires.fact.2), omega (arith, e, c.requires.fact.2))

pub slice_bounds-places-end : goal.slice_bounds-places-end
slice_bounds-places-end c =
    let copied : List ℕ =
    c.copy_words.new.to in
    let copied-length : length copied ≡ length c.args.members.now =
    ap length c.copy_words.ensures ∙ c.requires.fact_2.0 in
    let many-there : c.touched_places-many.result ≤ length c.touched_places-many.new.places =
    omega (
      arith,
      c.touched_places-many.ensures.0,
      copied-length,
      c.requires.fact.2,
      c.touched_places-many.auto.places,
    ) in
    many-there

pub slice_bounds-all_by-end : goal.slice_bounds-all_by-end
slice_bounds-all_by-end c =
    let copied : List ℕ =
    c.copy_words.new.to in
    let places-found : List ℕ =
    take c.touched_places-many.result c.touched_places-many.new.places in
    let copied-length : length copied ≡ length c.args.members.now =
    ap length c.copy_words.ensures ∙ c.requires.fact_2.0 in
    let many-there : c.touched_places-many.result ≤ length c.touched_places-many.new.places =
    omega (
      arith,
      c.touched_places-many.ensures.0,
      copied-length,
      c.requires.fact.2,
      c.touched_places-many.auto.places,
    ) in
    let counted : length places-found ≡ c.touched_places-many.result =
    length-take-le _ _ many-there in
    sym counted

pub all_by-requires : goal.all_by-requires
unfolding nodes_of
all_by-requires c =
    let before : Table =
    table_of c.args.vars.now c.args.lows.now c.args.highs.now c.args.heads.now c.args.links.now
    c.args.count in
    let copied : List ℕ =
    c.copy_words.new.to in
    let places-found : List ℕ =
    take c.touched_places-many.result c.touched_places-many.new.places in
    let copied-length : length copied ≡ length c.args.members.now =
    ap length c.copy_words.ensures ∙ c.requires.fact_2.0 in
    let words = c.copy_words.new.to in
    let found = places-found in
    let p = c.args.literals.positive in
    let n = c.args.literals.negative in
    let D = diagram_at (nodes_of before) 1 in record {
      fact = subst (λ l. ListReady before l c.args.memo.now × (1 < c.args.count) × Allowed (Literals p n) 1)
          (sym c.copy.ensures)
          (c.requires.fact.0, omega (arith, c.requires.fact.0.good.least), refl);
      fact_2 = subst (λ l. (length words ≡ length l) × Supports (nodes_of before) l words × Touches (Literals p n) D (bit_or p n)
          × Support 0 D
          × AllBut (length l) found (Untouched words (bit_or p n))) (sym c.copy.ensures) (
            copied-length,
            subst (Supports (nodes_of before) c.args.members.now) (sym c.copy_words.ensures)
                c.requires.fact_2.1,
            refl,
            support-leaf _ 1 0 (omega arith),
            subst (λ k. AllBut k found (Untouched words (bit_or p n))) copied-length c.touched_places-many.ensures.1,
          );
    }

pub shape_of-vars : goal.shape_of-vars
shape_of-vars c = c.all_by.auto.vars

pub shape_of-lows : goal.shape_of-lows
shape_of-lows c = c.all_by.auto.lows

pub shape_of-highs : goal.shape_of-highs
shape_of-highs c = c.all_by.auto.highs

pub shape_of-heads : goal.shape_of-heads
shape_of-heads c = c.all_by.auto.heads

pub shape_of-links : goal.shape_of-links
shape_of-links c = c.all_by.auto.links

pub shape_of-memo : goal.shape_of-memo
shape_of-memo c = c.all_by.auto.memo

pub shape_of-list : goal.shape_of-list
shape_of-list c = c.all_by.auto.list ∙ c.copy.auto.to

pub shape_of-words : goal.shape_of-words
shape_of-words c = c.all_by.auto.words ∙ c.copy_words.auto.to

pub returns : goal.returns
returns c =
    let before : Table =
    table_of c.args.vars.now c.args.lows.now c.args.highs.now c.args.heads.now c.args.links.now
    c.args.count in
    let after = table_of c.all_by.new.vars c.all_by.new.lows c.all_by.new.highs c.all_by.new.heads c.all_by.new.links c.all_by.result.count
    in record {
      fact_3 = subst (λ l. AllMade before (unit_results c.args.literals before l) c.all_by.result.full after c.all_by.new.list)
          c.copy.ensures c.all_by.ensures.fact_3;
      supports = c.all_by.ensures.supports;
    }
