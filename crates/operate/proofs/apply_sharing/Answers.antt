-- `apply_sharing` is `work_out` of the operation's kind and what it is by, which make it whole again. Assumes nothing.
use mathlib.Core.Path.{◌≡◌, sym, subst}
use Rattle.table.specs.Indexed.{Table, table_of, Outcome, outcome_of}
use Rattle.operate.specs.declared.Operation.{Operation}
use Rattle.operate.specs.Inner.{applied, operation_of, MemoRight, Ready}
use Rattle.operate.proofs.Operations.{whole_again, shared-again}
use Rattle.operate.proofs.apply_sharing.Goals as goal

pub work_out-requires : goal.work_out-requires
work_out-requires c =
    let a = c.args in
    let before : Table = table_of a.vars.now a.lows.now a.highs.now a.heads.now a.links.now a.count in
    let same : operation_of c.kind_of-kind.result c.by_of-by.result ≡ a.op =
    whole_again a.op a.shared _ _ c.kind_of-kind.ensures c.by_of-by.ensures in (
      subst (λ (op : Operation). Ready op a.memo.now before a.f.0 a.g.0) (sym same) c.requires.0,
      shared-again a.op a.shared _ _ c.kind_of-kind.ensures c.by_of-by.ensures before a.f.0 a.g.0 c.requires.1,
      c.mixed-mix.ensures,
    )

pub returns : goal.returns
returns c =
    let a = c.args in
    let y = c.work_out in
    let before : Table = table_of a.vars.now a.lows.now a.highs.now a.heads.now a.links.now a.count in
    let out : Outcome = outcome_of y.new.vars y.new.lows y.new.highs y.new.heads y.new.links y.result in
    let same : operation_of c.kind_of-kind.result c.by_of-by.result ≡ a.op =
    whole_again a.op a.shared _ _ c.kind_of-kind.ensures c.by_of-by.ensures in
    record {
      result_after = subst (λ (op : Operation). out ≡ applied before op a.f.0 a.g.0) same y.ensures.result_after;
      fact = subst (λ (op : Operation). MemoRight op y.new.memo out.table) same y.ensures.fact;
    }
