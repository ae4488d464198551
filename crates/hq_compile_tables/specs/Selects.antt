-- The selects of one table's rows.
use Rattle.std.specs.Prelude.{ℕ, List, [], ◌∷◌, true, Some, None}
use Rattle.hq_model.specs.Schema.{Schema, table}
use Rattle.hq_sql_tree.specs.Tree as tree
use Rattle.hq_sql_tree.specs.Tree.{FilterTree, JoinTree, OutTree, PredTree, SelectTree}
use Rattle.hq_translation.specs.Names.{table_alias, unit_name}
use Rattle.hq_translation.specs.Selects.{key_orders}

-- table u has a row, at the alias of number n and behind joins, that meets a condition
abbrev pub exists_where : Schema → (u n : ℕ) → List JoinTree → FilterTree → PredTree
exists_where s u n joins condition =
    tree.exists (tree.rows [] (record { value = tree.bool true; name = unit_name } ∷ []) (tree.table (table s u).schema (table s u).name (table_alias n))
    (tree.joins_of joins) condition [] None None)

-- the first row of table t, at the alias of number n, that meets a filter, in the order of the table's key
abbrev pub first_row : Schema → (t n : ℕ) → List OutTree → List JoinTree → FilterTree → SelectTree
first_row s t n outs joins condition =
    tree.rows [] outs (tree.table (table s t).schema (table s t).name (table_alias n)) (tree.joins_of joins) condition
    (key_orders (table s t).columns n (table s t).key) (Some 1) None
