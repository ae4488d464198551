use Rattle.std.proofs.Common.{◌≡◌, ◌∙◌, [], true, Option, None, Some, map, sym, subst}
use Rattle.std.specs.Global.{Vec}
use Rattle.std.specs.Prelude.{IfSome}
use Rattle.std.proofs.lemmas.Result.{IfOk-weaker}
use Rattle.hq_base.specs.Cells.{cell_of}
use Rattle.hq_base.specs.declared.value.Val.{Val}
use Rattle.hq_sql_access.specs.Equations.{is_column}
use Rattle.hq_sql_tree.specs.Meaning.{Scope as Names, value}
use Rattle.hq_sql_tree.specs.Tree.{test as tested}
use Rattle.hq_sql_tree.specs.View.{expr_view}
use Rattle.hq_sql_access.specs.View.{world_of}
use Rattle.hq_sql_constants.specs.Listed.{AsksOneOf}
use Rattle.hq_sql_constants.proofs.Ones.{test_asks}
use Rattle.hq_sql_constants.proofs.listed.of_test.Goals as goal

pub returns : goal.returns
returns c =
    let w = world_of c.args.world.now in
    let own = expr_view c.args.own.now in
    let alias = c.args.alias.now in
    let name = c.args.name.now in
    let es = c.args.operands.now.items in
    let one = c.is_of_one.ensures c.if-not-is_of_one.false in
    let is : is_column alias name own ≡ true = sym c.is_column.ensures ∙ c.if-not-is_column.false in
    let weaker : (o : Option (Vec Val)) → IfSome o (λ vs. (m : Names) → map (λ e. value (expr_view e) [] m) c.as_slice.result.now ≡ map cell_of vs.items)
    → IfSome o (λ vs. AsksOneOf w (tested own c.args.test (map expr_view es)) alias name vs.items) =
    elim [
      | None ↦ λ h. h
      | Some vs ↦ λ h. test_asks w own c.args.test es alias name vs.items one is (subst (λ xs. (m : Names) → map (λ e. value (expr_view e) [] m) xs ≡ map cell_of vs.items) c.as_slice.ensures.value h)
    ] in
    IfOk-weaker c.constants.result _ _ weaker c.constants.ensures
