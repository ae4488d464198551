use Rattle.std.proofs.Common.{◌∙◌, sym}
use Rattle.hq_sql_scans.proofs.Behind.{rows_alone, rows_behind}
use Rattle.hq_sql_scans.proofs.ordered.orders_rows.Goals as goal

pub returns-then-is_unique : goal.returns-then-is_unique
returns-then-is_unique c =
    let differ = c.is_unique.ensures c.if-is_unique.true in
    record {
      orders =
          λ e. rows_behind c.args.desc c.args.table.now.columns c.args.rows.now c.args.alias.now c.args.columns.now c.args.order.now
          c.split_at.result.0.now c.split_at.result.1.now _ c.split_at.ensures.front c.split_at.ensures.back
          (c.are_keys.ensures c.if-not-are_keys.false) (c.are_own.ensures c.if-not-are_own.false) differ;
      unique = λ e d. differ;
    }

pub returns : goal.returns
returns c =
    record {
      orders =
          λ e. rows_alone c.args.desc c.args.table.now.columns c.args.rows.now c.args.alias.now c.args.columns.now c.args.order.now
          c.split_at.result.0.now c.split_at.result.1.now _ c.split_at.ensures.front c.split_at.ensures.back
          (c.are_keys.ensures c.if-not-are_keys.false) (sym c.is_empty.ensures ∙ e);
      unique = λ e d. cc;
    }
