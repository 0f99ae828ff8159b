-- `apply_thin` is the way down and the way up of the operation's kind and what it is by, which make it whole again: the node that the way
-- down comes to is, under the steps written, the operation's result. Assumes nothing.
use mathlib.Core.Path.{◌≡◌, refl, sym, ap, ◌∙◌, subst}
use mathlib.Core.List.{List}
use Prim.Native.Nat.{ℕ}
use native.Mathlib.Omega.{arith}
use Rattle.meaning.proofs.Booleans.{t≢f}
use Rattle.table.specs.declared.NodeNo.{NodeNo}
use Rattle.table.specs.Indexed.{Table, table_of}
use Rattle.table.proofs.Outcomes.{place_in}
use Rattle.operate.specs.declared.Operation.{Operation}
use Rattle.operate.specs.Inner.{applied, operation_of, Operands}
use Rattle.thin.specs.Thin.{cut_to, Given, CameTo, CameBy, built_up}
use Rattle.thin.proofs.Cutting.{cut_again, operands-cut, shared-cut}
use Rattle.words.specs.declared.Literals as words
use Rattle.operate.specs.declared.step.Kind.{Kind}
use Rattle.operate.specs.Inner.{kind_of, by_of, Shared}
use Rattle.thin.specs.Thin.{Cut, cut_by}
use Rattle.thin.specs.declared.Came.{Came}
use Rattle.thin.specs.declared.Came.TheVariants.{Down}
use Rattle.thin.proofs.apply_thin.Goals as goal

-- the operation, of what was taken from it and cut
module _ (op : Operation) (shared : ℕ) (kind : Kind) (by cut : words.Literals) (is-kind : kind ≡ kind_of op) (is-by : by ≡ by_of op shared)
    (is-cut : cut ≡ cut_by by shared) where
  same : operation_of kind cut ≡ cut_to op shared
  same = cut_again op shared kind by cut is-kind is-by is-cut

  module _ (T : Table) (f g : ℕ) (R : Operands op T f g × Shared op shared T f g × Cut op shared T f g) where
    given : Given (operation_of kind cut) cut.positive T f g
    given = record {
      operands = subst (λ (o : Operation). Operands o T f g) (sym same) (operands-cut op shared T f g R.0);
      share = shared-cut op shared kind by cut is-kind is-by is-cut T f g R.1;
    }

    -- the way down came to a node
    module _ (xs told sides : List ℕ) (node : NodeNo) (depth : ℕ) (r : Came) (is : r ≡ Down node depth)
        (h : CameBy (operation_of kind cut) cut.positive T f g xs told sides r) where
      came : CameTo (operation_of kind cut) T f g xs told sides node.0 depth
      came = subst (CameBy (operation_of kind cut) cut.positive T f g xs told sides) is h given

      -- what is built up is the operation's result
      built : built_up T xs told sides depth node.0 ≡ applied T op f g
      built = ap (place_in T) came.is ∙ ap (λ (o : Operation). applied T o f g) same ∙ ap (place_in T) R.2

pub way_down-requires : goal.way_down-requires
way_down-requires c =
    let a = c.args in
    let T : Table = table_of a.vars.now a.lows.now a.highs.now a.heads.now a.links.now a.count in (
      record {
        heads = a.heads.now;
        links = a.links.now;
        count = a.count;
        given = given a.op a.shared _ _ _ c.kind_of-kind.ensures c.by_of.ensures c.cut_to-by.ensures T a.f.0 a.g.0 c.requires.fact;
      },
      c.requires.xs_len.0,
      c.requires.xs_len.1,
      c.requires.xs_len.2,
    )

pub build_up-placed-requires : goal.build_up-placed-requires
build_up-placed-requires c =
    let a = c.args in
    let T : Table = table_of a.vars.now a.lows.now a.highs.now a.heads.now a.links.now a.count in
    let y = c.way_down in
    let C = came a.op a.shared _ _ _ c.kind_of-kind.ensures c.by_of.ensures c.cut_to-by.ensures T a.f.0 a.g.0 c.requires.fact
    y.new.xs y.new.told y.new.sides c.in-Down.node c.in-Down.depth _ c.in-Down.is (y.ensures a.heads.now a.links.now a.count) in
    let p = c.requires in record {
      fact = (p.fact.0.good, C.inside, C.fitting);
      depth_in_bounds = (
        omega (arith, C.most, y.auto.xs, p.xs_len.0),
        omega (arith, C.most, y.auto.told, p.xs_len.1),
        omega (arith, C.most, y.auto.sides, p.xs_len.2),
      );
    }

pub returns-in-Down : goal.returns-in-Down
returns-in-Down c =
    let a = c.args in
    let T : Table = table_of a.vars.now a.lows.now a.highs.now a.heads.now a.links.now a.count in
    let y = c.way_down in
    record {
      placed_after = λ _. c.build_up-placed.ensures
          ∙ built a.op a.shared _ _ _ c.kind_of-kind.ensures c.by_of.ensures c.cut_to-by.ensures T a.f.0 a.g.0 c.requires.fact
          y.new.xs y.new.told y.new.sides c.in-Down.node c.in-Down.depth _ c.in-Down.is (y.ensures a.heads.now a.links.now a.count);
      count_after = λ e. t≢f (sym e);
    }

pub returns-in-TooWide : goal.returns-in-TooWide
returns-in-TooWide c = record { placed_after = λ e. t≢f e; count_after = λ _. refl }
