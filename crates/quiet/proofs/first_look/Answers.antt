-- The first look: as in any propagation where the list that was looked at is not quiet; else 0, then the members that differ. Assumes
-- nothing.
use mathlib.Core.Path.{◌≡◌, sym, ap, ◌∙◌, subst}
use mathlib.Core.Bool.{false, not}
use mathlib.Core.List.{List, map}
use Prim.Native.Nat.{ℕ, ◌≤◌}
use native.Mathlib.Omega.{arith}
use lib.ListN.{length, get_or, take, length-replicate}
use lib.Seq.{length-take-le}
use Rattle.meaning.proofs.Booleans.{not-not}
use Rattle.table.specs.Indexed.{Table, table_of, nodes_of}
use Rattle.table.specs.Lists.{diagrams_of}
use Rattle.table.proofs.Written.{good-ordered}
use Rattle.conflict.specs.Members.{Asked}
use Rattle.conflict.proofs.Numbers.{zero-conflicts}
use Rattle.conflict.proofs.Marked.{in-nodes}
use Rattle.propagate.proofs.Rounds.{ends-conflict}
use Rattle.quiet.proofs.Known.{asked-known, units-known}
use Rattle.quiet.proofs.first_look.Goals as goal

pub returns-then-has_zero : goal.returns-then-has_zero
returns-then-has_zero c =
    let table : Table =
    let a = c.args in table_of a.vars.now a.lows.now a.highs.now a.heads.now a.links.now a.count in
    let r = c.requires.fact.0 in record {
      fact_3 = ends-conflict 64 (diagrams_of (nodes_of table) c.args.list.now)
          (zero-conflicts (nodes_of table) (good-ordered table r.good) c.args.list.now
          (in-nodes table r.good c.args.list.now r.inside) (sym c.has_zero.ensures ∙ c.if-has_zero.true));
      marks_after = c.requires.fact.1;
    }

pub slice_bounds-nodes_at-end : goal.slice_bounds-nodes_at-end
slice_bounds-nodes_at-end c =
    let many : ℕ =
    c.changed_places-many.result in
    let places-found : List ℕ =
    take many c.changed_places-many.new.places in
    let many-fit : many ≤ 2048 =
    omega (arith, c.changed_places-many.ensures.0, c.requires.fact_2.0, c.requires.fact.2) in
    let many-there : many ≤ length c.changed_places-many.new.places =
    omega (arith, many-fit, c.changed_places-many.auto.places, length-replicate {A = ℕ} 2048 0) in
    let counted : length places-found ≡ many =
    length-take-le _ _ many-there in
    sym counted

pub nodes_at-requires : goal.nodes_at-requires
nodes_at-requires c =
    let many : ℕ =
    c.changed_places-many.result in
    let places-found : List ℕ =
    take many c.changed_places-many.new.places in
    let many-fit : many ≤ 2048 =
    omega (arith, c.changed_places-many.ensures.0, c.requires.fact_2.0, c.requires.fact.2) in
    let many-there : many ≤ length c.changed_places-many.new.places =
    omega (arith, many-fit, c.changed_places-many.auto.places, length-replicate {A = ℕ} 2048 0) in
    let counted : length places-found ≡ many =
    length-take-le _ _ many-there in (
      λ k p. omega (arith, c.changed_places-many.ensures.1.inside k p, c.requires.fact_2.0),
      omega (arith, counted, many-fit, length-replicate {A = ℕ} 2048 0),
    )

pub slice_bounds-next_round-end : goal.slice_bounds-next_round-end
slice_bounds-next_round-end c =
    let many : ℕ =
    c.changed_places-many.result in
    let places-found : List ℕ =
    take many c.changed_places-many.new.places in
    let many-fit : many ≤ 2048 =
    omega (arith, c.changed_places-many.ensures.0, c.requires.fact_2.0, c.requires.fact.2) in
    let many-there : many ≤ length c.changed_places-many.new.places =
    omega (arith, many-fit, c.changed_places-many.auto.places, length-replicate {A = ℕ} 2048 0) in
    let counted : length places-found ≡ many =
    length-take-le _ _ many-there in
    sym counted

pub slice_bounds-next_round-end-2 : goal.slice_bounds-next_round-end-2
slice_bounds-next_round-end-2 c =
    let many : ℕ =
    c.changed_places-many.result in
    let many-fit : many ≤ 2048 =
    omega (arith, c.changed_places-many.ensures.0, c.requires.fact_2.0, c.requires.fact.2) in
    let nodes-long : length c.nodes_at.new.nodes ≡ 2048 =
    c.nodes_at.auto.nodes ∙ length-replicate {A = ℕ} 2048 0 in
    sym (length-take-le _ _ (omega (arith, many-fit, nodes-long)))

pub next_round-requires : goal.next_round-requires
next_round-requires c =
    let table : Table =
    let a = c.args in table_of a.vars.now a.lows.now a.highs.now a.heads.now a.links.now a.count in
    let many : ℕ =
    c.changed_places-many.result in
    let places-found : List ℕ =
    take many c.changed_places-many.new.places in
    let many-fit : many ≤ 2048 =
    omega (arith, c.changed_places-many.ensures.0, c.requires.fact_2.0, c.requires.fact.2) in
    let many-there : many ≤ length c.changed_places-many.new.places =
    omega (arith, many-fit, c.changed_places-many.auto.places, length-replicate {A = ℕ} 2048 0) in
    let counted : length places-found ≡ many =
    length-take-le _ _ many-there in
    let nodes-are : take many c.nodes_at.new.nodes ≡ map (λ i. get_or c.args.list.now i 0) places-found =
    ap (λ (k : ℕ). take k c.nodes_at.new.nodes) (sym counted) ∙ c.nodes_at.ensures in
    let quiet = sym (not-not c.args.looked.quiet) ∙ ap not c.if-not-looked.false in
    let B = c.changed_places-many.ensures.1 in record {
      fact = (c.requires.fact.0, c.requires.fact.1, omega arith);
      fact_2 = (
        subst (λ (ks : List ℕ). Asked (nodes_of table) c.args.list.now ks false)
            (sym nodes-are)
            (asked-known (nodes_of table) c.args.known.now c.args.list.now c.requires.fact_2.0 c.args.looked c.requires.fact_2.1 quiet
            places-found B),
        units-known (nodes_of table) c.args.known.now c.args.list.now c.requires.fact_2.0 c.args.looked c.requires.fact_2.1 quiet
            places-found B,
      );
    }
