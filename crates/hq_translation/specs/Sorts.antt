-- Sort keys: entries of `order_by`, which read shown cells, also at the end of object relationships, and the columns of the
-- primary key, which are the row's own.
use Rattle.std.specs.Prelude.{ℕ, ◌+◌, List, [], ◌∷◌, ◌++◌, Bool, true, false}
use Rattle.hq_translation.specs.GrantedTables.{GrantedTables}
use Rattle.hq_model.specs.Schema.{Schema, table, rel}
use Rattle.hq_model.specs.Selected.{SortKey}
use Rattle.hq_sql_tree.specs.declared.expr.ColumnForm.{ColumnForm}
use Rattle.hq_sql_tree.specs.Tree.{column, OrderTree, OutTree, JoinTree}
use Rattle.hq_translation.specs.Names.{fold_alias, join_alias, key_name}
use Rattle.hq_translation.specs.Looks.{Look, ColumnName, type_in, compared_form, own_look, cell_at}
use Rattle.hq_translation.specs.Predicates.{link}
use Rattle.hq_translation.specs.Masks.{value_place, extra, masks, shown_look, filter_numbers, filter_predicate}
use Rattle.hq_translation.specs.Selects.{filter_from, behind_filter, first_select}

-- a sort key of the row's own cells, or of those that are shown
pub record Sort : Type 0 where
  pub own : Bool
  pub key : SortKey

-- entries, and then the columns of a key
abbrev pub shown_sorts : List SortKey → List Sort → List Sort
shown_sorts [] rest = rest
shown_sorts (k ∷ ks) rest = record { own = false; key = k } ∷ shown_sorts ks rest

abbrev pub own_sorts : List ℕ → List Sort
own_sorts [] = []
own_sorts (c ∷ cs) = record { own = true; key = record { through = []; column = c; desc = false; nulls_first = false } } ∷ own_sorts cs

-- the column that an entry uses at the last table of its relationships
abbrev pub last_used : (through : List ℕ) → ℕ → List ℕ
last_used [] c = c ∷ []
last_used (r ∷ rs) c = []

abbrev pub used_by : (own : Bool) → (through : List ℕ) → ℕ → List ℕ
used_by true rs c = []
used_by false rs c = last_used rs c

-- the shown columns of the row that sort keys use
abbrev pub used_sorts : List Sort → List ℕ
used_sorts [] = []
used_sorts (k ∷ ks) = used_by k.own k.key.through k.key.column ++ used_sorts ks

-- the table at the end of relationships
abbrev pub end_of : (through : List ℕ) → Schema → (t : ℕ) → ℕ
end_of [] s t = t
end_of (r ∷ rs) s t = end_of rs s (rel s t r).remote

-- the column of a sort key as it is compared
abbrev pub sort_form : Schema → (t : ℕ) → SortKey → ColumnForm
sort_form s t k = compared_form (type_in (table s (end_of k.through s t)).columns k.column)

-- where the cell of a sort key stands, for a row at the alias of number p; n is the number of its join
abbrev pub sort_place : (own : Bool) → (through : List ℕ) → Schema → Look → (t p n c : ℕ) → ColumnName
sort_place true rs s look t p n c = own_look (table s t).columns p c
sort_place false [] s look t p n c = look c
sort_place false (r ∷ rs) s look t p n c = value_place n

-- how many numbers a sort key takes: at each relationship the alias, its masks and its filter
abbrev pub sort_numbers : (through : List ℕ) → Schema → GrantedTables → (t c : ℕ) → ℕ
sort_numbers [] s g t c = 0
sort_numbers (r ∷ rs) s g t c =
    1 + extra s g (rel s t r).remote (last_used rs c) + filter_numbers s g (rel s t r).remote + sort_numbers rs s g (rel s t r).remote c

-- the join of a sort key through relationships, with that of the next relationship inside it
abbrev pub sort_joins : (through : List ℕ) → Schema → GrantedTables → (t p n c : ℕ) → List JoinTree
sort_joins [] s g t p n c = []
sort_joins (r ∷ rs) s g t p n c =
    record {
      select = first_select s (rel s t r).remote n (link s t (rel s t r) p n)
          (filter_predicate s g (rel s t r).remote n (filter_from s g (rel s t r).remote (last_used rs c) n))
          (cell_at (sort_place false rs s (shown_look s g (rel s t r).remote (last_used rs c) n) (rel s t r).remote n
          (behind_filter s g (rel s t r).remote (last_used rs c) n) c))
          (masks s g (rel s t r).remote (last_used rs c) n
          ++ sort_joins rs s g (rel s t r).remote n (behind_filter s g (rel s t r).remote (last_used rs c) n) c);
      alias = join_alias n;
    }
    ∷ []

abbrev pub sorts_numbers : List Sort → Schema → GrantedTables → (t : ℕ) → ℕ
sorts_numbers [] s g t = 0
sorts_numbers (k ∷ ks) s g t = sort_numbers k.key.through s g t k.key.column + sorts_numbers ks s g t

abbrev pub sorts_joins : List Sort → Schema → GrantedTables → (t p n : ℕ) → List JoinTree
sorts_joins [] s g t p n = []
sorts_joins (k ∷ ks) s g t p n =
    sort_joins k.key.through s g t p n k.key.column ++ sorts_joins ks s g t p (n + sort_numbers k.key.through s g t k.key.column)

-- ORDER BY of the rows
abbrev pub orders : List Sort → Schema → GrantedTables → Look → (t p n : ℕ) → List OrderTree
orders [] s g look t p n = []
orders (k ∷ ks) s g look t p n =
    record {
      value = column (sort_place k.own k.key.through s look t p n k.key.column).alias (sort_place k.own k.key.through s look t p n k.key.column).name (sort_form s t k.key);
      desc = k.key.desc;
      nulls_first = k.key.nulls_first;
    }
    ∷ orders ks s g look t p (n + sort_numbers k.key.through s g t k.key.column)

-- the sort keys as outputs of the rows, numbered from i
abbrev pub key_outputs : List Sort → Schema → GrantedTables → Look → (t p n i : ℕ) → List OutTree
key_outputs [] s g look t p n i = []
key_outputs (k ∷ ks) s g look t p n i =
    record { value = cell_at (sort_place k.own k.key.through s look t p n k.key.column); name = key_name i }
    ∷ key_outputs ks s g look t p (n + sort_numbers k.key.through s g t k.key.column) (i + 1)

-- those outputs as sort keys of the fold of number n over the rows
abbrev pub output_orders : List Sort → Schema → (t n i : ℕ) → List OrderTree
output_orders [] s t n i = []
output_orders (k ∷ ks) s t n i =
    record { value = column (fold_alias n) (key_name i) (sort_form s t k.key); desc = k.key.desc; nulls_first = k.key.nulls_first }
    ∷ output_orders ks s t n (i + 1)
