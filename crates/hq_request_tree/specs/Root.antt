-- Root fields: those that start at a table are answered by the database, the others without it.
use Rattle.std.specs.Prelude.{Bool, true, false, cond}
use Rattle.hq_request_tree.specs.Fields.{FieldTrees, no_field, field, FieldTree, column, typename, no_queries, object, list, by_key, aggregate, introspect}

-- a root field that starts at a table
abbrev pub is_table_field : FieldTree → Bool
is_table_field (column c) = false
is_table_field (typename name) = false
is_table_field no_queries = false
is_table_field (object r fs) = false
is_table_field (list o a fs) = true
is_table_field (by_key t key fs) = true
is_table_field (aggregate o a ps) = true
is_table_field (introspect f) = false

-- the root fields that start at a table, in their order
abbrev pub table_fields : FieldTrees → FieldTrees
table_fields no_field = no_field
table_fields (field key f fs) = cond (is_table_field f) (field key f (table_fields fs)) (table_fields fs)
