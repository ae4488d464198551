use Rattle.std.proofs.Common.{◌≡◌, rules}
use Rattle.hq_sql_cells.specs.View.{cell_view}
use Rattle.hq_sql_tree.specs.Tree as tree
use Rattle.hq_sql_tree.specs.View.{expr_view}
use Rattle.hq_sql_tree.specs.declared.expr.Expr.{the_lemmas as expr_lemmas}
use Rattle.hq_sql_scans.proofs.Patterns.{like_told}
use Rattle.hq_sql_scans.proofs.likes.known_like.Goals as goal

pub returns : goal.returns
returns c =
    let own = expr_view c.args.operand.now in
    let same : own ≡ tree.text c.in-Text.pattern = search (rules, expr_lemmas) in
    like_told c.matched_by.result c.args.test c.in-Like.fold (cell_view c.args.cell.now) own c.in-Text.pattern c.in-Like.is same c.matched_by.ensures
