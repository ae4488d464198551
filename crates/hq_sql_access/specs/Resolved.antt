-- What an alias in scope stands for.
use Rattle.std.specs.Prelude.{ℕ, ◌+◌, []}
use Rattle.hq_sql_conjuncts.specs.Weight.{select_weight}
use Rattle.hq_sql_tree.specs.Meaning.{NamedRow, World, rows_of}
use Rattle.hq_sql_tree.specs.View.{select_view}
use Rattle.hq_sql_access.specs.View.{first_row, row_view, scope_of}
use Rattle.hq_sql_access.specs.Weight.{scope_weight}
use Rattle.hq_sql_access.specs.declared.resolved.Resolved.{Resolved}
use Rattle.hq_sql_access.specs.declared.resolved.Resolved.TheVariants.{Missing, Lent, First}

-- its row
abbrev pub resolved_row : Resolved → World → NamedRow
resolved_row Missing world = []
resolved_row (Lent row) world = row_view row
resolved_row (First select scope) world = first_row (rows_of (select_view select.now) world (scope_of scope world))

-- how much is left to evaluate for it
abbrev pub resolved_weight : Resolved → ℕ
resolved_weight Missing = 0
resolved_weight (Lent row) = 0
resolved_weight (First select scope) = 3 + (select_weight select.now + scope_weight scope)
