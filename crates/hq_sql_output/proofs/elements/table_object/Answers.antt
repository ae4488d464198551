use Rattle.std.proofs.Common.{◌≡◌, false, map, sym, ◌∙◌}
use Rattle.hq_sql_access.specs.Equations.{is_joined}
use Rattle.hq_sql_tree.specs.Tree.{joins_of}
use Rattle.hq_sql_tree.specs.View.{expr_view, join_view, pair_view}
use Rattle.hq_sql_output.proofs.ElementTexts.{object_is}
use Rattle.hq_sql_output.proofs.elements.table_object.Goals as goal

pub returns-clause-text : goal.returns-clause-text
returns-clause-text c =
    let placed = c.args.placed.now in
    let apart : is_joined (joins_of (map join_view placed.joins.now)) placed.alias.now ≡ false = sym c.is_joined.ensures ∙ c.if-is_joined.false in
    object_is (expr_view c.args.expr.now) (map pair_view c.in-Some.pairs.now.items) placed
    (record { table = c.in-Some-table_rows.table; members = c.in_ok-members.members })
    c.in-Some.ensures.value apart c.in-Some-table_rows.ensures c.in_ok-members.ensures.texts
