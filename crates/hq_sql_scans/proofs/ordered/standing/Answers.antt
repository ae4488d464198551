use Rattle.std.proofs.Common.{◌∙◌, sym, arith}
use Rattle.hq_sql_scans.proofs.InOrder.{standing_none, standing_some}
use Rattle.hq_sql_scans.proofs.ordered.standing.Goals as goal

pub returns-then-is_empty : goal.returns-then-is_empty
returns-then-is_empty c =
    let distinct = c.args.distinct.now in
    standing_none distinct.items distinct.len c.args.positions (omega (arith, distinct.ok.0)) (sym c.is_empty.ensures ∙ c.if-is_empty.true)

pub returns : goal.returns
returns c =
    let distinct = c.args.distinct.now in
    standing_some distinct.items distinct.len c.args.positions (omega (arith, distinct.ok.0)) (sym c.is_empty.ensures ∙ c.if-is_empty.false)
