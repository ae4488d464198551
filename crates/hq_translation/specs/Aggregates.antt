-- The select of an aggregate: over the selected rows, whose outputs are the columns that its fields need.
use Rattle.std.specs.Prelude.{ℕ, ◌+◌, List, [], ◌∷◌, Bool, true, false, cond, ◌||◌, ◌==◌, Option, Some, None}
use Rattle.hq_base.specs.declared.aggregate.Aggregate.{Aggregate}
use Rattle.hq_base.specs.declared.value.Ty.{Ty}
use Rattle.hq_translation.specs.GrantedTables.{GrantedTables}
use Rattle.hq_model.specs.Schema.{Schema, table}
use Rattle.hq_model.specs.Selected.{ListArguments}
use Rattle.hq_model.specs.declared.table.Column.{Column}
use Rattle.hq_request_tree.specs.declared.aggregate.AggCol.{AggCol}
use Rattle.hq_request_tree.specs.declared.aggregate.AggCol.TheVariants as of
use Rattle.hq_request_tree.specs.declared.aggregate.AggField.{AggField}
use Rattle.hq_request_tree.specs.declared.aggregate.AggField.TheVariants as take
use Rattle.hq_request_tree.specs.declared.aggregate.KeyedAggCol.{KeyedAggCol}
use Rattle.hq_request_tree.specs.declared.aggregate.KeyedAggField.{KeyedAggField}
use Rattle.hq_sql_tree.specs.declared.expr.ColumnForm.{ColumnForm}
use Rattle.hq_sql_tree.specs.declared.expr.ColumnForm.TheVariants.{Plain}
use Rattle.hq_sql_tree.specs.Tree as tree
use Rattle.hq_sql_tree.specs.Tree.{ExprTree, PairTree, pairs_of, OutTree, SelectTree, PredTree}
use Rattle.hq_translation.specs.Names.{table_alias, fold_alias, value_name, needed_name, unit_name}
use Rattle.hq_translation.specs.Looks.{Look, add_new, type_in, compared_form, cell_at}
use Rattle.hq_translation.specs.Masks.{value_output, shown_look}
use Rattle.hq_translation.specs.Lists.{list_used, list_numbers, list_rows}

-- ---- the columns that are needed, each once, in order of first need

abbrev pub add_column : AggCol → List ℕ → List ℕ
add_column (of.Column c) cs = add_new c cs
add_column (of.Typename name) cs = cs

abbrev pub add_columns : List KeyedAggCol → List ℕ → List ℕ
add_columns [] cs = cs
add_columns (k ∷ ks) cs = add_columns ks (add_column k.field cs)

abbrev pub add_counted : Option ℕ → List ℕ → List ℕ
add_counted None cs = cs
add_counted (Some c) cs = add_new c cs

abbrev pub add_field : AggField → List ℕ → List ℕ
add_field (take.Count c distinct) cs = add_counted c cs
add_field (take.Columns a ks) cs = add_columns ks cs
add_field (take.Typename name) cs = cs

-- those of fields, behind the ones that are needed already
abbrev pub needed : List KeyedAggField → List ℕ → List ℕ
needed [] cs = cs
needed (f ∷ fs) cs = needed fs (add_field f.field cs)

-- the place of a column among those, counted from i
abbrev pub place_of : ℕ → List ℕ → (i : ℕ) → ℕ
place_of c [] i = i
place_of c (d ∷ ds) i = cond (c == d) i (place_of c ds (i + 1))

-- ---- whether an aggregate occurs

abbrev pub is_taken : AggCol → Bool
is_taken (of.Column c) = true
is_taken (of.Typename name) = false

abbrev pub some_taken : List KeyedAggCol → Bool
some_taken [] = false
some_taken (k ∷ ks) = is_taken k.field || some_taken ks

abbrev pub is_aggregate : AggField → Bool
is_aggregate (take.Count c distinct) = true
is_aggregate (take.Columns a ks) = some_taken ks
is_aggregate (take.Typename name) = false

abbrev pub some_aggregate : List KeyedAggField → Bool
some_aggregate [] = false
some_aggregate (f ∷ fs) = is_aggregate f.field || some_aggregate fs

-- ---- the expressions; n is the number of the fold, cs are the needed columns

abbrev pub needed_cell : (n : ℕ) → (cs : List ℕ) → ℕ → ColumnForm → ExprTree
needed_cell n cs c form = tree.column (fold_alias n) (needed_name (place_of c cs 0)) form

-- a column as it is counted: different values are compared
abbrev pub counted_form : (distinct : Bool) → Ty → ColumnForm
counted_form true ty = compared_form ty
counted_form false ty = Plain

-- a column of an aggregate; texts are compared
abbrev pub taken_value : Aggregate → List Column → (n : ℕ) → (cs : List ℕ) → AggCol → ExprTree
taken_value a columns n cs (of.Column c) = tree.aggregate (tree.take a (needed_cell n cs c (compared_form (type_in columns c))))
taken_value a columns n cs (of.Typename name) = tree.text name

abbrev pub taken_pairs : Aggregate → List Column → (n : ℕ) → (cs : List ℕ) → List KeyedAggCol → List PairTree
taken_pairs a columns n cs [] = []
taken_pairs a columns n cs (k ∷ ks) = record { name = k.key; value = taken_value a columns n cs k.field } ∷ taken_pairs a columns n cs ks

-- a number of rows, or of values; different ones are compared
abbrev pub count_value : List Column → (n : ℕ) → (cs : List ℕ) → Option ℕ → (distinct : Bool) → ExprTree
count_value columns n cs None distinct = tree.aggregate tree.count_all
count_value columns n cs (Some c) distinct = tree.aggregate (tree.count (needed_cell n cs c (counted_form distinct (type_in columns c))) distinct)

abbrev pub summary_value : List Column → (n : ℕ) → (cs : List ℕ) → AggField → ExprTree
summary_value columns n cs (take.Count c distinct) = count_value columns n cs c distinct
summary_value columns n cs (take.Columns a ks) = tree.object (pairs_of (taken_pairs a columns n cs ks))
summary_value columns n cs (take.Typename name) = tree.text name

abbrev pub summary_pairs : List Column → (n : ℕ) → (cs : List ℕ) → List KeyedAggField → List PairTree
summary_pairs columns n cs [] = []
summary_pairs columns n cs (f ∷ fs) = record { name = f.key; value = summary_value columns n cs f.field } ∷ summary_pairs columns n cs fs

-- ---- the selects

-- the needed columns as outputs of the rows, numbered from i
abbrev pub needed_columns : Look → List ℕ → (i : ℕ) → List OutTree
needed_columns look [] i = []
needed_columns look (c ∷ cs) i = record { value = cell_at (look c); name = needed_name i } ∷ needed_columns look cs (i + 1)

abbrev pub needed_outputs : Look → List ℕ → List OutTree
needed_outputs look [] = record { value = tree.bool true; name = unit_name } ∷ []
needed_outputs look (c ∷ cs) = needed_columns look (c ∷ cs) 0

-- the columns of its rows that an aggregate uses
abbrev pub summary_used : Schema → (t : ℕ) → ListArguments → List KeyedAggField → List ℕ
summary_used s t a fs = list_used s t a (needed fs [])

-- how many numbers an aggregate takes
abbrev pub summary_numbers : List KeyedAggField → Schema → GrantedTables → (t : ℕ) → ListArguments → ℕ
summary_numbers fs s g t a = cond (some_aggregate fs) (list_numbers s g t (summary_used s t a fs) a) 1

-- over the selected rows without the permission's limit
abbrev pub folded_select : List KeyedAggField → Schema → GrantedTables → (t : ℕ) → ListArguments → (n : ℕ) → (tie : PredTree) → SelectTree
folded_select fs s g t a n tie =
    tree.fold (record { value = tree.object (pairs_of (summary_pairs (table s t).columns n (needed fs []) fs)); name = value_name })
    (list_rows s g t (summary_used s t a fs) a n tie a.limit (needed_outputs (shown_look s g t (summary_used s t a fs) n) (needed fs [])) []) (fold_alias n)

-- over one row, where no aggregate occurs
abbrev pub plain_select : List KeyedAggField → Schema → (t n : ℕ) → SelectTree
plain_select fs s t n =
    tree.rows [] (value_output (tree.object (pairs_of (summary_pairs (table s t).columns n (needed fs []) fs)))) (tree.one (table_alias n)) tree.no_join tree.no_filter [] None None

abbrev pub summary_select : List KeyedAggField → Schema → GrantedTables → (t : ℕ) → ListArguments → (n : ℕ) → (tie : PredTree) → SelectTree
summary_select fs s g t a n tie = cond (some_aggregate fs) (folded_select fs s g t a n tie) (plain_select fs s t n)
