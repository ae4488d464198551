use Rattle.std.proofs.Common.{◌≡◌, [], map, take}
use Rattle.hq_sql_cells.specs.View.{cell_view}
use Rattle.hq_sql_tree.specs.Meaning.{Scope as Names, value}
use Rattle.hq_sql_tree.specs.View.{expr_view}
use Rattle.hq_sql_constants.proofs.plain.constants.Given as goal

-- the cells of the constants so far
abbrev pub invariant-loop-expr : goal.invariant-loop-expr
invariant-loop-expr l = (m : Names) → map (λ e. value (expr_view e) [] m) (take l.expr-index l.exprs) ≡ map cell_view l.cells.items
