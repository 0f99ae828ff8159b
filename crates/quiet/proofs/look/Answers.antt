-- One look for a conflict, and one for units where there is none. Assumes nothing.
use mathlib.Core.Path.{sym, ◌∙◌, subst}
use mathlib.Core.List.{List}
use native.Mathlib.Omega.{arith}
use lib.ListN.{length-map}
use Rattle.meaning.specs.Diagram.{Diagram}
use Rattle.table.specs.Nodes.{Node, diagram_at}
use Rattle.table.specs.Indexed.{table_of, nodes_of}
use Rattle.table.specs.Lists.{diagrams_of}
use Rattle.walks.proofs.Here.{good-readable}
use Rattle.unit_search.specs.Units.{AreFirst}
use Rattle.propagate.proofs.Quieting.{asked-all, units-all}
use Rattle.quiet.proofs.Known.{unitless-all, nothing_known}
use Rattle.quiet.proofs.look.Goals as goal

pub conflicts-requires : goal.conflicts-requires
conflicts-requires c =
    let nodes : List Node =
    nodes_of (table_of c.args.vars.now c.args.lows.now c.args.highs.now c.args.heads.now c.args.links.now
    c.args.count) in
    record { fact = (c.requires.0, c.requires.1); fact_2 = asked-all nodes c.args.list.now }

pub returns-then-conflicts : goal.returns-then-conflicts
returns-then-conflicts c =
    record { fact = nothing_known _ _; marks_after = c.conflicts.ensures.marks_after }

pub first_units-requires : goal.first_units-requires
unfolding nodes_of
first_units-requires c =
    let nodes : List Node =
    nodes_of (table_of c.args.vars.now c.args.lows.now c.args.highs.now c.args.heads.now c.args.links.now
    c.args.count) in
    let members : List Diagram =
    diagrams_of nodes c.args.list.now in
    record {
      readable = (
        good-readable (table_of c.args.vars.now c.args.lows.now c.args.highs.now c.args.heads.now c.args.links.now
            c.args.count) c.requires.0.good,
        c.requires.0.inside,
        omega (arith, c.conflicts.auto.memo, c.requires.0.room),
      );
      fact = units-all members;
    }

pub returns-in-Of : goal.returns-in-Of
unfolding nodes_of
returns-in-Of c =
    let nodes : List Node =
    nodes_of (table_of c.args.vars.now c.args.lows.now c.args.highs.now c.args.heads.now c.args.links.now
    c.args.count) in
    let members : List Diagram =
    diagrams_of nodes c.args.list.now in
    let f = subst (AreFirst 64 members) c.in-Of.is c.first_units.ensures in record {
      fact = record {
        none = λ _. sym c.conflicts.ensures.result_value ∙ c.if-conflicts.false;
        most = λ _. f.1;
        unitless = λ _. f.2;
      };
      marks_after = c.conflicts.ensures.marks_after;
    }

pub returns-in-Nothing : goal.returns-in-Nothing
unfolding nodes_of
returns-in-Nothing c =
    let nodes : List Node =
    nodes_of (table_of c.args.vars.now c.args.lows.now c.args.highs.now c.args.heads.now c.args.links.now
    c.args.count) in
    let members : List Diagram =
    diagrams_of nodes c.args.list.now in
    let same = length-map c.args.list.now (diagram_at nodes) in record {
      fact = record {
        none = λ _. sym c.conflicts.ensures.result_value ∙ c.if-conflicts.false;
        most = λ _. omega (arith, same);
        unitless = λ _ k p. unitless-all members (subst (AreFirst 64 members) c.in-Nothing.is
            c.first_units.ensures) k (omega (arith, p, same));
      };
      marks_after = c.conflicts.ensures.marks_after;
    }
