-- The statement that is asked for root fields: one row whose one output is their object.
use Rattle.std.specs.Prelude.{[], None, length}
use Rattle.hq_translation.specs.GrantedTables.{GrantedTables}
use Rattle.hq_model.specs.Schema.{Schema, table}
use Rattle.hq_request_tree.specs.Fields.{FieldTrees}
use Rattle.hq_sql_tree.specs.Tree.{object, pairs_of, SelectTree, rows, one, joins_of, no_filter}
use Rattle.hq_translation.specs.Names.{table_alias}
use Rattle.hq_translation.specs.Looks.{own_look}
use Rattle.hq_translation.specs.Masks.{value_output}
use Rattle.hq_translation.specs.Fields.{fields_values, fields_joins}

-- root fields stand at no table, at the alias of number 0
abbrev pub statement : FieldTrees → Schema → GrantedTables → SelectTree
statement fs s g =
    rows [] (value_output (object (pairs_of (fields_values fs s g (own_look (table s (length s)).columns 0) (length s) 1))))
    (one (table_alias 0)) (joins_of (fields_joins fs s g (length s) 0 1)) no_filter [] None None
