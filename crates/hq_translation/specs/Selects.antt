-- Selects of one table: ascending sort keys, and the first row in the order of the primary key.
use Rattle.std.specs.Prelude.{ℕ, ◌+◌, List, [], ◌∷◌, false, Some, None}
use Rattle.hq_translation.specs.GrantedTables.{GrantedTables}
use Rattle.hq_model.specs.Schema.{Schema, table}
use Rattle.hq_model.specs.declared.table.Column.{Column}
use Rattle.hq_sql_tree.specs.Tree.{ExprTree, OrderTree, SelectTree, rows, table as from_table, JoinTree, joins_of, PredTree}
use Rattle.hq_translation.specs.Names.{table_alias}
use Rattle.hq_translation.specs.Looks.{own_look, compared_at}
use Rattle.hq_translation.specs.Conditions.{with_member, where_of}
use Rattle.hq_translation.specs.Masks.{value_output, extra, filter_numbers}

-- the columns of a key at the alias of number p as sort keys, ascending, NULLs last
abbrev pub key_orders : List Column → (p : ℕ) → List ℕ → List OrderTree
key_orders columns p [] = []
key_orders columns p (c ∷ cs) = record { value = compared_at columns (own_look columns p c) c; desc = false; nulls_first = false } ∷ key_orders columns p cs

-- the first numbers of an alias's filter, and of what stands behind it
abbrev pub filter_from : Schema → GrantedTables → (t : ℕ) → (used : List ℕ) → (n : ℕ) → ℕ
filter_from s g t cs n = n + 1 + extra s g t cs

abbrev pub behind_filter : Schema → GrantedTables → (t : ℕ) → (used : List ℕ) → (n : ℕ) → ℕ
behind_filter s g t cs n = n + 1 + extra s g t cs + filter_numbers s g t

-- a value at the first row of table t in the order of its key that is tied to what stands around and meets the filter
abbrev pub first_select : Schema → (t n : ℕ) → (tie filter : PredTree) → (value : ExprTree) → List JoinTree → SelectTree
first_select s t n tie filter value joins =
    rows [] (value_output value) (from_table (table s t).schema (table s t).name (table_alias n)) (joins_of joins)
    (where_of (with_member tie (with_member filter []))) (key_orders (table s t).columns n (table s t).key) (Some 1) None
