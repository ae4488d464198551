-- The faults of a FROM in two parts: those of its select, and those of its scan.
use Rattle.std.specs.Prelude.{List, [], Bool, true}
use Rattle.hq_model.specs.Grants.{Grants}
use Rattle.hq_model.specs.Schema.{Schema}
use Rattle.hq_sql_tree.specs.Tree as tree
use Rattle.hq_sql_tree.specs.Tree.{OrderTree, FromTree, PredTree}
use Rattle.hq_confine_rules.specs.Faults.{scan_faults, select_faults}
use Rattle.hq_confine_rules.specs.Origins.{Shapes, table_place}
use Rattle.hq_confine_rules.specs.Uses.{Fault}

-- those of the select that it takes its rows from
abbrev pub inner_faults : Schema → Grants → Shapes → FromTree → List Fault
inner_faults s g around (tree.table schema name alias) = []
inner_faults s g around (tree.sub select alias) = select_faults s g around true select
inner_faults s g around (tree.one alias) = []

-- those of the table that it scans
abbrev pub scanned_faults : Schema → Grants → Shapes → (all : List PredTree) → List OrderTree → (unordered : Bool) → FromTree → List Fault
scanned_faults s g inside all keys unordered (tree.table schema name alias) = scan_faults s g inside (table_place s schema name) alias all keys unordered
scanned_faults s g inside all keys unordered (tree.sub select alias) = []
scanned_faults s g inside all keys unordered (tree.one alias) = []
