-- `read_formula`: the header, then the clauses; with no proof the check then ends with 10 (Making). Assumes nothing.
use mathlib.Core.Path.{sym, ap, ◌∙◌, subst}
use mathlib.Core.List.{[]}
use lib.ListN.{length}
use Rattle.dimacs.proofs.Formula.{header-ok, header-err}
use Rattle.dimacs.proofs.Bounds.{HeaderIn, header-in}
use Rattle.commands.specs.Commands.{in_records}
use Rattle.verdict.specs.Run.{variables_of}
use Rattle.formula.specs.Formula.{said_from, Begins}
use Rattle.book_parts.proofs.Making.{header_refused, header-proper, begun-said}
use Rattle.book_parts.proofs.first.read_formula.Goals as goal

pub read_header-requires : goal.read_header-requires
read_header-requires c =
    tt

pub read_clauses-requires : goal.read_clauses-requires
read_clauses-requires c =
    let e =
    header-ok _ _ (sym c.read_header.ensures ∙ c.in-Ok.is) in
    record { opened = c.requires; variables_bound = subst (HeaderIn c.args.formula.now) e (header-in c.args.formula.now) }

pub returns-in-Err : goal.returns-in-Err
returns-in-Err c =
    record {
      formula_value = header_refused (length c.args.vars.now) _ _ _
          (header-err _ _ (sym c.read_header.ensures ∙ c.in-Err.is));
      read_by = tt;
    }

pub shape_of-vars-in-Refused : goal.shape_of-vars-in-Refused
shape_of-vars-in-Refused c =
    c.read_clauses.auto.vars

pub shape_of-lows-in-Refused : goal.shape_of-lows-in-Refused
shape_of-lows-in-Refused c =
    c.read_clauses.auto.lows

pub shape_of-highs-in-Refused : goal.shape_of-highs-in-Refused
shape_of-highs-in-Refused c =
    c.read_clauses.auto.highs

pub shape_of-heads-in-Refused : goal.shape_of-heads-in-Refused
shape_of-heads-in-Refused c =
    c.read_clauses.auto.heads

pub shape_of-links-in-Refused : goal.shape_of-links-in-Refused
shape_of-links-in-Refused c =
    c.read_clauses.auto.links

pub shape_of-members-in-Refused : goal.shape_of-members-in-Refused
shape_of-members-in-Refused c =
    c.read_clauses.auto.members

pub returns-in-Refused : goal.returns-in-Refused
returns-in-Refused c =
    let e =
    header-ok _ _ (sym c.read_header.ensures ∙ c.in-Ok.is) in record {
      formula_value = header-proper (length c.args.vars.now) _ _ _ _ e ∙ c.read_clauses.ensures.from_value in_records []
          ∙ ap (said_from in_records _ [] c.read_clauses.new.vars c.read_clauses.new.lows c.read_clauses.new.highs c.read_clauses.new.heads
          c.read_clauses.new.links c.read_clauses.new.members)
          c.in-Refused.is;
      read_by = tt;
    }

pub shape_of-vars-in-Begun : goal.shape_of-vars-in-Begun
shape_of-vars-in-Begun c =
    c.read_clauses.auto.vars

pub shape_of-lows-in-Begun : goal.shape_of-lows-in-Begun
shape_of-lows-in-Begun c =
    c.read_clauses.auto.lows

pub shape_of-highs-in-Begun : goal.shape_of-highs-in-Begun
shape_of-highs-in-Begun c =
    c.read_clauses.auto.highs

pub shape_of-heads-in-Begun : goal.shape_of-heads-in-Begun
shape_of-heads-in-Begun c =
    c.read_clauses.auto.heads

pub shape_of-links-in-Begun : goal.shape_of-links-in-Begun
shape_of-links-in-Begun c =
    c.read_clauses.auto.links

pub shape_of-members-in-Begun : goal.shape_of-members-in-Begun
shape_of-members-in-Begun c =
    c.read_clauses.auto.members

pub returns-in-Begun : goal.returns-in-Begun
returns-in-Begun c =
    let e =
    header-ok _ _ (sym c.read_header.ensures ∙ c.in-Ok.is) in let q =
    c.in-Begun.is in let B = subst
    (Begins _ c.read_clauses.new.vars c.read_clauses.new.lows c.read_clauses.new.highs c.read_clauses.new.heads c.read_clauses.new.links
    c.read_clauses.new.members) q c.read_clauses.ensures.begins in record {
      formula_value = header-proper (length c.args.vars.now) _ _ _ _ e ∙ c.read_clauses.ensures.from_value in_records []
          ∙ ap (said_from in_records _ [] c.read_clauses.new.vars c.read_clauses.new.lows c.read_clauses.new.highs c.read_clauses.new.heads
          c.read_clauses.new.links c.read_clauses.new.members) q
          ∙ begun-said _ _ _ B.good _;
      read_by = (B, sym (ap variables_of e));
    }
