-- Where a list begins.
use Rattle.std.specs.Prelude.{ℕ}
use Rattle.hq_model.specs.Schema.{Schema}
use Rattle.hq_request_tree.specs.Fields.{Origin, origin_of}
use Rattle.hq_request_tree.specs.Resolve.{origin_table}
use Rattle.hq_sql_tree.specs.Tree.{PredTree}
use Rattle.hq_translation.specs.Fields.{origin_tie}
use Rattle.hq_compile_lists.specs.declared.start.ListStart.{ListStart}

abbrev pub start_origin : ListStart → Origin
start_origin l = origin_of l.table l.rel

-- the table of its rows
abbrev pub start_table : Schema → ListStart → ℕ
start_table s l = origin_table (start_origin l) s l.row_table

-- what ties its rows, at the alias of number n, to what stands around
abbrev pub start_tie : Schema → ListStart → (n : ℕ) → PredTree
start_tie s l n = origin_tie (start_origin l) s l.row_table l.row_number n
