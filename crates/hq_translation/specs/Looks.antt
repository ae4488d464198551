-- How the columns of a row are looked at in SQL: each by an alias and a name there.
use Rattle.std.specs.Prelude.{ℕ, List, [], ◌∷◌, ◌++◌, Bool, cond, ◌==◌, slice_index_or}
use Rattle.std.specs.List.{list_any}
use Rattle.hq_base.specs.declared.value.Ty.{Ty}
use Rattle.hq_base.specs.declared.value.Ty.TheVariants.{Text, Opaque}
use Rattle.hq_model.specs.Schema.{no_column}
use Rattle.hq_model.specs.declared.test.Test.{Test}
use Rattle.hq_model.specs.declared.test.Test.TheVariants.{IsNull}
use Rattle.hq_model.specs.declared.table.Column.{Column}
use Rattle.hq_sql_tree.specs.declared.expr.ColumnForm.{ColumnForm}
use Rattle.hq_sql_tree.specs.declared.expr.ColumnForm.TheVariants.{Plain, Collated, AsText, AsTextCollated}
use Rattle.hq_sql_tree.specs.Tree.{ExprTree, column}
use Rattle.hq_translation.specs.Names.{table_alias}

-- a name of an alias
pub record ColumnName : Type 0 where
  pub alias : List ℕ
  pub name : List ℕ

-- for each column of a table the place where its cell stands
abbrev pub Look : Type 0
Look = ℕ → ColumnName

-- the name of a column; empty beyond the table's columns
abbrev pub name_of : List Column → ℕ → List ℕ
name_of columns c = (slice_index_or columns c no_column).name

-- the type of a column; text beyond the table's columns
abbrev pub type_in : List Column → ℕ → Ty
type_in columns c = (slice_index_or columns c no_column).ty

-- a column of a type as it is shown: one of another type of PostgreSQL by its text
abbrev pub shown_form : Ty → ColumnForm
shown_form Opaque = AsText
shown_form _ = Plain

-- and as it is compared: texts by COLLATE "C"
abbrev pub compared_form : Ty → ColumnForm
compared_form Text = Collated
compared_form Opaque = AsTextCollated
compared_form _ = Plain

-- and as a test looks at it
abbrev pub tested_form : Test → Ty → ColumnForm
tested_form IsNull ty = shown_form ty
tested_form _ ty = compared_form ty

-- the table's own column at the alias of number p
abbrev pub own_look : List Column → (p : ℕ) → Look
own_look columns p c = record { alias = table_alias p; name = name_of columns c }

-- the cell at a place, as it is shown, as it is compared, and as a test looks at it
abbrev pub cell_at : ColumnName → ExprTree
cell_at p = column p.alias p.name Plain

abbrev pub shown_at : List Column → ColumnName → ℕ → ExprTree
shown_at columns p c = column p.alias p.name (shown_form (type_in columns c))

abbrev pub compared_at : List Column → ColumnName → ℕ → ExprTree
compared_at columns p c = column p.alias p.name (compared_form (type_in columns c))

abbrev pub tested_at : List Column → ColumnName → ℕ → Test → ExprTree
tested_at columns p c t = column p.alias p.name (tested_form t (type_in columns c))

-- whether a column is among those that are used
abbrev pub is_used : ℕ → List ℕ → Bool
is_used c cs = list_any (λ d. c == d) cs

-- a column, and columns, behind others, each once, in order of first occurrence
abbrev pub add_new : ℕ → List ℕ → List ℕ
add_new c cs = cond (is_used c cs) cs (cs ++ c ∷ [])

abbrev pub add_all : List ℕ → List ℕ → List ℕ
add_all [] cs = cs
add_all (d ∷ ds) cs = add_all ds (add_new d cs)
