-- What the select of a list's rows is put together from.
use Rattle.std.specs.Prelude.{◌≡◌, ℕ, List, ◌++◌, map, Option}
use Rattle.hq_model.specs.Schema.{Schema, table}
use Rattle.hq_model.specs.Selected.{ListArguments}
use Rattle.hq_sql_tree.specs.Tree.{OutTree, SelectTree, rows, table as from_table, JoinTree, joins_of, PredTree}
use Rattle.hq_sql_tree.specs.View.{expr_view, order_view, out_view, join_view, pred_view}
use Rattle.hq_translation.specs.Conditions.{where_of}
use Rattle.hq_translation.specs.Lists.{list_rows, list_sorts, sorts_from}
use Rattle.hq_translation.specs.Masks.{shown_look}
use Rattle.hq_translation.specs.Names.{table_alias}
use Rattle.hq_translation.specs.GrantedTables.{GrantedTables}
use Rattle.hq_translation.specs.Sorts.{key_outputs}
use Rattle.hq_compile_tables.specs.Shown.{look_in}
use Rattle.hq_compile_lists.specs.declared.list.ListBody.{ListBody}

-- the rows of table t at the alias of number n, with these outputs and the joins of children
abbrev pub rows_of : Schema → (t n : ℕ) → ListBody → (limit : Option ℕ) → List OutTree → (children : List JoinTree) → (offset : Option ℕ) → SelectTree
rows_of s t n b limit outs children offset =
    rows (map expr_view b.distinct.items) outs (from_table (table s t).schema (table s t).name (table_alias n))
    (joins_of (map join_view b.masks.joins.items ++ (map join_view b.sorts.joins.items ++ children)))
    (where_of (map pred_view b.members.items)) (map order_view b.sorts.orders.items) limit offset

-- With any outputs and children, the rows are those of the list, whose rows use these columns. The sort keys as outputs, and
-- where the columns are shown, are there beside them.
abbrev pub IsBody : Schema → GrantedTables → (t : ℕ) → (used : List ℕ) → ListArguments → (n : ℕ) → (tie : PredTree) → ListBody → Type 0
IsBody s g t cs a n tie b = record {
  rows : (limit : Option ℕ) (outs : List OutTree) (children : List JoinTree) → rows_of s t n b limit outs children a.offset ≡ list_rows s g t cs a n tie limit outs children;
  keys : map out_view b.sorts.outputs.items ≡ key_outputs (list_sorts s t a) s g (shown_look s g t cs n) t n (sorts_from s g t cs a n) 0;
  looks : look_in b.masks.places (table s t).columns n ≡ shown_look s g t cs n;
}
