use Rattle.std.proofs.Common.{◌≡◌, [], map, take}
use Rattle.hq_base.specs.Cells.{cell_of}
use Rattle.hq_sql_tree.specs.Meaning.{Scope as Names, value}
use Rattle.hq_sql_tree.specs.View.{expr_view}
use Rattle.hq_sql_constants.proofs.listed.constants.Given as goal

-- the values of the constants so far
abbrev pub invariant-loop-expr : goal.invariant-loop-expr
invariant-loop-expr l = (m : Names) → map (λ e. value (expr_view e) [] m) (take l.expr-index l.exprs) ≡ map cell_of l.values.items
