use Rattle.std.proofs.Common.{◌≡◌, ◌∙◌, [], ◌∷◌, true, map, sym, subst}
use Rattle.hq_load_index.specs.Keys.{cell_view}
use Rattle.hq_sql_access.specs.Equations.{is_column}
use Rattle.hq_sql_tree.specs.Meaning.{Scope as Names, value}
use Rattle.hq_sql_tree.specs.View.{expr_view}
use Rattle.hq_sql_constants.proofs.Ranges.{test_bounds}
use Rattle.hq_sql_constants.proofs.ranged.of_test.Goals as goal

pub returns-in-Some : goal.returns-in-Some
returns-in-Some c =
    let own = expr_view c.args.own.now in
    let alias = c.args.alias.now in
    let name = c.args.name.now in
    let es = c.args.operands.now.items in
    let is : is_column alias name own ≡ true = sym c.is_column.ensures ∙ c.if-not-is_column.false in
    let found : (m : Names) → map (λ e. value (expr_view e) [] m) c.as_slice.result.now ≡ cell_view c.in-Some.value ∷ [] = rw c.in-Some.is at c.only_constant.ensures in
    let known : (m : Names) → map (λ e. value (expr_view e) [] m) es ≡ cell_view c.in-Some.value ∷ [] =
    subst (λ xs. (m : Names) → map (λ e. value (expr_view e) [] m) xs ≡ cell_view c.in-Some.value ∷ []) c.as_slice.ensures.value found in
    test_bounds own c.args.test es alias name _ c.in-Compare.is is known
