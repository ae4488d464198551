use Rattle.std.proofs.Common.{◌∙◌}
use Rattle.hq_sql_tree.specs.View.{expr_view}
use Rattle.hq_sql_access.specs.View.{world_of, names_of}
use Rattle.hq_sql_output.proofs.Groups.{column_values}
use Rattle.hq_sql_output.proofs.grouped.values_of.Goals as goal

pub returns-in_ok-cells_of-in-Some : goal.returns-in_ok-cells_of-in-Some
returns-in_ok-cells_of-in-Some c =
    c.in_ok-cells_of-in-Some.ensures
    ∙ column_values c.args.group.now (world_of c.args.world.now) (names_of c.args.scope.now c.args.world.now) (expr_view c.args.expr.now) c.in-Some.name.now c.in-Some.ensures
