use Rattle.std.proofs.Common.{◌≡◌, take, map, Some}
use Rattle.hq_sql_tree.specs.WellFormed.{kind_of_type}
use Rattle.hq_sql_check.specs.Scopes.{name_view}
use Rattle.hq_sql_check.proofs.from.column_names.Given as goal

-- those so far
abbrev pub invariant-loop-column : goal.invariant-loop-column
invariant-loop-column l = map name_view l.names.items ≡ map (λ c. (c.name, Some (kind_of_type c.ty))) (take l.column-index l.column-items)
