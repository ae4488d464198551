use Rattle.std.proofs.Common.{◌≡◌, [], map, refl, subst}
use Rattle.hq_sql_cells.specs.View.{cell_view}
use Rattle.hq_sql_scans.specs.Links.{IsOwn}
use Rattle.hq_sql_tree.specs.Meaning.{Scope as Names, value}
use Rattle.hq_sql_tree.specs.View.{expr_view}
use Rattle.hq_sql_constants.proofs.ColumnTests.{test_is}
use Rattle.hq_sql_constants.proofs.plain.column_test.Goals as goal

pub returns-in-Some-2 : goal.returns-in-Some-2
returns-in-Some-2 c =
    let own = expr_view c.args.own.now in
    let es = c.args.operands.now.items in
    let is : IsOwn c.args.columns.now c.args.alias.now own c.in-Some.column = rw c.in-Some.is at c.own_column.ensures in
    let known : (m : Names) → map (λ e. value (expr_view e) [] m) c.as_slice.result.now ≡ map cell_view c.in-Some-2.operands.items = rw c.in-Some-2.is at c.in_ok-operands.ensures in
    test_is c.args.columns.now c.args.alias.now own c.in-Some.column c.args.test es _ is
    (subst (λ xs. (m : Names) → map (λ e. value (expr_view e) [] m) xs ≡ map cell_view c.in-Some-2.operands.items) c.as_slice.ensures.value known) refl refl
