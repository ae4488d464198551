-- Tables with the rows that are lent.
use Rattle.std.specs.Prelude.{List, map}
use Rattle.hq_sql_tree.specs.Meaning.{World}
use Rattle.hq_sql_access.specs.Lent.{rows_lent}
use Rattle.hq_sql_access.specs.declared.stored.Stored.{Stored}

-- tables with their rows
abbrev pub world_in : List Stored → World
world_in stored = record { tables = map (λ s. s.table.now) stored; database = map (λ s. rows_lent s.rows) stored }
