-- The selects of lists, put together from their parts.
use Rattle.std.proofs.Common.{◌≡◌, ◌∙◌, ℕ, ◌+◌, List, [], ◌++◌, Option, refl, ap, append_assoc}
use Rattle.hq_model.specs.Schema.{Schema, table}
use Rattle.hq_model.specs.Selected.{ListArguments, smaller}
use Rattle.hq_model.specs.declared.table.Column.{Column}
use Rattle.hq_sql_tree.specs.declared.expr.ColumnForm.TheVariants.{Plain}
use Rattle.hq_sql_tree.specs.Tree.{ExprTree, column, aggregate, json_agg, orders_of, PairTree, OrderTree, OutTree, SelectTree, rows, fold, table as from_table, JoinTree, joins_of, PredTree}
use Rattle.hq_translation.specs.Conditions.{with_member, where_of}
use Rattle.hq_translation.specs.Lists.{once, list_sorts, where_numbers, sorts_from, distinct_columns, list_rows, list_outputs, list_select}
use Rattle.hq_translation.specs.Looks.{Look}
use Rattle.hq_translation.specs.Masks.{extra, masks, shown_look, filter_numbers, filter_predicate, where_mode}
use Rattle.hq_translation.specs.Names.{table_alias, fold_alias, value_name}
use Rattle.hq_translation.specs.Predicates.{predicate}
use Rattle.hq_translation.specs.GrantedTables.{GrantedTables}
use Rattle.hq_translation.specs.Sorts.{sorts_joins, orders, key_outputs, output_orders}
use Rattle.hq_compile_tables.specs.Shown.{look_in, look_of}
use Rattle.hq_compile_tables.specs.declared.shown.MaskPlace.{MaskPlace}
use Rattle.hq_compile_tables.specs.declared.shown.Shown.{Shown}

-- the columns of DISTINCT ON at an alias of these columns, this number and these places
pub distinct_as : (x : Shown) (columns : List Column) (n : ℕ) (places : List MaskPlace) (ds : List ℕ) → x.columns.now ≡ columns → x.number ≡ n → x.places.now ≡ places
    → distinct_columns x.columns.now (look_of x) ds ≡ distinct_columns columns (look_in places columns n) ds
distinct_as x columns n places ds c k p =
    ap (λ (ps : List MaskPlace). distinct_columns x.columns.now (look_in ps x.columns.now x.number) ds) p
    ∙ ap (λ (m : ℕ). distinct_columns x.columns.now (look_in places x.columns.now m) ds) k
    ∙ ap (λ (cs : List Column). distinct_columns cs (look_in places cs n) ds) c

module _ (s : Schema) (g : GrantedTables) (t : ℕ) (cs : List ℕ) (a : ListArguments) (n : ℕ) (tie : PredTree) where
  -- the members of WHERE, their numbers from m on, where columns are looked at so
  abbrev pub members_at : Look → (m : ℕ) → List PredTree
  members_at look m =
      with_member tie (with_member (filter_predicate s g t n m) (with_member (predicate a.wanted s (where_mode s g) look t n (m + filter_numbers s g t)) []))

  -- the rows, from the parts by the names that they have in the code: j is the number behind the alias's own, m the one
  -- behind its masks, k the one behind its conditions
  pub rows_are : (j m k : ℕ) (look : Look) (ds : List ExprTree) (ms sorted children : List JoinTree) (ps : List PredTree) (os : List OrderTree) (outs : List OutTree) (limit : Option ℕ)
      → ds ≡ distinct_columns (table s t).columns look (once a).distinct → ps ≡ members_at look m
      → sorted ≡ sorts_joins (list_sorts s t a) s g t n k → os ≡ orders (list_sorts s t a) s g look t n k
      → ms ≡ masks s g t cs n → look ≡ shown_look s g t cs n
      → k ≡ m + filter_numbers s g t + where_numbers a.wanted s g t → m ≡ j + extra s g t cs → j ≡ n + 1
      → rows ds outs (from_table (table s t).schema (table s t).name (table_alias n)) (joins_of (ms ++ (sorted ++ children))) (where_of ps) os limit a.offset
      ≡ list_rows s g t cs a n tie limit outs children
  rows_are j m k look ds ms sorted children ps os outs limit d p e o x l k-is m-is j-is = rw (d, p, e, o, x, l, k-is, m-is, j-is) refl

  -- the sort keys as its outputs, from the same parts
  pub keys_are : (j m k : ℕ) (look : Look) (outs : List OutTree)
      → outs ≡ key_outputs (list_sorts s t a) s g look t n k 0 → look ≡ shown_look s g t cs n
      → k ≡ m + filter_numbers s g t + where_numbers a.wanted s g t → m ≡ j + extra s g t cs → j ≡ n + 1
      → outs ≡ key_outputs (list_sorts s t a) s g (shown_look s g t cs n) t n (sorts_from s g t cs a n) 0
  keys_are j m k look outs is l k-is m-is j-is = rw (is, l, k-is, m-is, j-is) refl

  -- a list
  pub list_of : (pairs : List PairTree) (children : List JoinTree) (f given : SelectTree) (out : OutTree) (alias : List ℕ)
      → f ≡ fold out given alias → alias ≡ fold_alias n
      → out ≡ record { value = aggregate (json_agg (column (fold_alias n) value_name Plain) (orders_of (output_orders (list_sorts s t a) s t n 0))); name = value_name }
      → given ≡ list_rows s g t cs a n tie (smaller a.limit (g.limit t)) (list_outputs s g t cs a n pairs) children
      → f ≡ list_select s g t cs a n tie pairs children
  list_of pairs children f given out alias is l o r = rw (is, l, o, r) refl

-- columns that are gathered one group behind the other
pub gathered : (none ys zs us ws a b c d : List ℕ) → ws ≡ us ++ d → us ≡ zs ++ c → zs ≡ ys ++ b → ys ≡ none ++ a → none ≡ [] → ws ≡ a ++ (b ++ (c ++ d))
gathered none ys zs us ws a b c d e f g h i = rw (e, f, g, h, i) (append_assoc (a ++ b) c d ∙ append_assoc a b (c ++ d))
