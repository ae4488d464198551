-- How a column is written (PostgreSQL manual: Type Casts, Collation Expressions).
use Rattle.std.specs.Prelude.{Bool, true, false, ◌&&◌}
use Rattle.std.specs.Ordering.{bool_cmp, is_eq}
use Rattle.hq_sql_tree.specs.declared.expr.ColumnForm.{ColumnForm}
use Rattle.hq_sql_tree.specs.declared.expr.ColumnForm.TheVariants.{Collated, AsText, AsTextCollated}

-- by its text
abbrev pub casts : ColumnForm → Bool
casts AsText = true
casts AsTextCollated = true
casts _ = false

-- with COLLATE
abbrev pub collates : ColumnForm → Bool
collates Collated = true
collates AsTextCollated = true
collates _ = false

abbrev pub same_form : ColumnForm → ColumnForm → Bool
same_form a b = is_eq (bool_cmp (casts a) (casts b)) && is_eq (bool_cmp (collates a) (collates b))
