-- The select of a list: the array of its rows' objects in order.
use Rattle.std.specs.Prelude.{ℕ, ◌+◌, List, [], ◌∷◌, ◌++◌, Option}
use Rattle.hq_model.specs.Bexp.{BexpTree}
use Rattle.hq_translation.specs.GrantedTables.{GrantedTables}
use Rattle.hq_model.specs.Schema.{Schema, table}
use Rattle.hq_model.specs.Selected.{ListArguments, entries, smaller}
use Rattle.hq_model.specs.declared.table.Column.{Column}
use Rattle.hq_sql_tree.specs.declared.expr.ColumnForm.TheVariants.{Plain}
use Rattle.hq_sql_tree.specs.Tree.{ExprTree, column, object, aggregate, json_agg, orders_of, PairTree, pairs_of, OutTree, SelectTree, rows, fold, table as from_table, JoinTree, joins_of, PredTree}
use Rattle.hq_translation.specs.Names.{table_alias, fold_alias, value_name}
use Rattle.hq_translation.specs.Looks.{Look, compared_at, add_all}
use Rattle.hq_translation.specs.Conditions.{with_member, where_of}
use Rattle.hq_translation.specs.Predicates.{columns_in, numbers, predicate}
use Rattle.hq_translation.specs.Masks.{extra, masks, shown_look, filter_numbers, filter_predicate, where_mode}
use Rattle.hq_translation.specs.Selects.{filter_from, behind_filter}
use Rattle.hq_translation.specs.Sorts.{Sort, shown_sorts, own_sorts, used_sorts, sorts_numbers, sorts_joins, orders, key_outputs, output_orders}

-- the arguments with each column of DISTINCT ON once, in order of first occurrence
abbrev pub once : ListArguments → ListArguments
once a = record a { distinct = add_all a.distinct [] }

-- the sort keys of a list, those of the table's key last
abbrev pub list_sorts : Schema → (t : ℕ) → ListArguments → List Sort
list_sorts s t a = shown_sorts (entries (once a)) (own_sorts (table s t).key)

-- the columns of its rows that a list uses, with those of its outputs
abbrev pub list_used : Schema → (t : ℕ) → ListArguments → (outputs : List ℕ) → List ℕ
list_used s t a outs = columns_in a.wanted ++ (used_sorts (list_sorts s t a) ++ ((once a).distinct ++ outs))

-- how many numbers the `where` of a list takes
abbrev pub where_numbers : BexpTree → Schema → GrantedTables → (t : ℕ) → ℕ
where_numbers b s g t = numbers b s (where_mode s g) t

-- the first numbers of a list's sort keys and of its children
abbrev pub sorts_from : Schema → GrantedTables → (t : ℕ) → (used : List ℕ) → ListArguments → (n : ℕ) → ℕ
sorts_from s g t cs a n = n + 1 + extra s g t cs + filter_numbers s g t + where_numbers a.wanted s g t

abbrev pub children_from : Schema → GrantedTables → (t : ℕ) → (used : List ℕ) → ListArguments → (n : ℕ) → ℕ
children_from s g t cs a n =
    n + 1 + extra s g t cs + filter_numbers s g t + where_numbers a.wanted s g t + sorts_numbers (list_sorts s t a) s g t

-- how many numbers a list takes without its children
abbrev pub list_numbers : Schema → GrantedTables → (t : ℕ) → (used : List ℕ) → ListArguments → ℕ
list_numbers s g t cs a =
    1 + extra s g t cs + filter_numbers s g t + where_numbers a.wanted s g t + sorts_numbers (list_sorts s t a) s g t

-- the columns of DISTINCT ON
abbrev pub distinct_columns : List Column → Look → List ℕ → List ExprTree
distinct_columns columns look [] = []
distinct_columns columns look (c ∷ cs) = compared_at columns (look c) c ∷ distinct_columns columns look cs

-- The selected rows of table t at the alias of number n. They are tied to what stands around.
abbrev pub list_rows : Schema → GrantedTables → (t : ℕ) → (used : List ℕ) → ListArguments → (n : ℕ) → (tie : PredTree) → (limit : Option ℕ) → List OutTree → (children : List JoinTree) → SelectTree
list_rows s g t cs a n tie limit outs children =
    rows (distinct_columns (table s t).columns (shown_look s g t cs n) (once a).distinct) outs
    (from_table (table s t).schema (table s t).name (table_alias n))
    (joins_of (masks s g t cs n ++ (sorts_joins (list_sorts s t a) s g t n (sorts_from s g t cs a n) ++ children)))
    (where_of (with_member tie (with_member (filter_predicate s g t n (filter_from s g t cs n))
    (with_member (predicate a.wanted s (where_mode s g) (shown_look s g t cs n) t n (behind_filter s g t cs n)) []))))
    (orders (list_sorts s t a) s g (shown_look s g t cs n) t n (sorts_from s g t cs a n)) limit a.offset

-- the object of the children's values, and the sort keys
abbrev pub list_outputs : Schema → GrantedTables → (t : ℕ) → (used : List ℕ) → ListArguments → (n : ℕ) → List PairTree → List OutTree
list_outputs s g t cs a n values =
    record { value = object (pairs_of values); name = value_name }
    ∷ key_outputs (list_sorts s t a) s g (shown_look s g t cs n) t n (sorts_from s g t cs a n) 0

-- a list under its own limit and the permission's
abbrev pub list_select : Schema → GrantedTables → (t : ℕ) → (used : List ℕ) → ListArguments → (n : ℕ) → (tie : PredTree) → List PairTree → (children : List JoinTree) → SelectTree
list_select s g t cs a n tie values children =
    fold (record {
      value = aggregate (json_agg (column (fold_alias n) value_name Plain) (orders_of (output_orders (list_sorts s t a) s t n 0)));
      name = value_name;
    })
    (list_rows s g t cs a n tie (smaller a.limit (g.limit t)) (list_outputs s g t cs a n values) children) (fold_alias n)
