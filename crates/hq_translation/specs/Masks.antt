-- Masks: a join that gives the cell where it is shown, and NULL elsewhere. Each column that is used at an alias and has a
-- mask is looked at through one.
use Rattle.std.specs.Prelude.{ℕ, ◌+◌, List, [], ◌∷◌, filter, cond, None, ◌==◌}
use Rattle.hq_translation.specs.GrantedTables.{GrantedTables}
use Rattle.hq_model.specs.Permission.{Mask}
use Rattle.hq_model.specs.Schema.{Schema, table}
use Rattle.hq_sql_tree.specs.Tree as tree
use Rattle.hq_sql_tree.specs.Tree.{SelectTree, JoinTree, OutTree, ExprTree, PredTree}
use Rattle.hq_translation.specs.Names.{table_alias, join_alias, value_name}
use Rattle.hq_translation.specs.Looks.{Look, ColumnName, is_used, own_look, cell_at}
use Rattle.hq_translation.specs.Conditions.{with_member, where_of}
use Rattle.hq_translation.specs.Predicates.{Mode, own_numbers, own_predicate}

-- the one output of a select that gives a value, and the place where its join shows it
abbrev pub value_output : ExprTree → List OutTree
value_output e = record { value = e; name = value_name } ∷ []

abbrev pub value_place : (n : ℕ) → ColumnName
value_place n = record { alias = join_alias n; name = value_name }

-- how many numbers masks of table t take
abbrev pub mask_numbers : List Mask → Schema → (t : ℕ) → ℕ
mask_numbers [] s t = 0
mask_numbers (m ∷ ms) s t = 1 + own_numbers m.shown s t + mask_numbers ms s t

-- one row with the cell where the mask is true, else none
abbrev pub mask_select : Mask → Schema → (t p n : ℕ) → SelectTree
mask_select m s t p n =
    tree.rows [] (value_output (cell_at (own_look (table s t).columns p m.column))) (tree.one (table_alias n)) tree.no_join
    (where_of (with_member (own_predicate m.shown s t p (n + 1)) [])) [] None None

-- the joins of masks at the alias of number p, their numbers from n on
abbrev pub mask_joins : List Mask → Schema → (t p n : ℕ) → List JoinTree
mask_joins [] s t p n = []
mask_joins (m ∷ ms) s t p n =
    record { select = mask_select m s t p n; alias = join_alias n } ∷ mask_joins ms s t p (n + (1 + own_numbers m.shown s t))

-- a column behind those joins
abbrev pub mask_look : List Mask → Schema → (t p n : ℕ) → Look
mask_look [] s t p n c = own_look (table s t).columns p c
mask_look (m ∷ ms) s t p n c = cond (m.column == c) (value_place n) (mask_look ms s t p (n + (1 + own_numbers m.shown s t)) c)

-- the masks of a table's columns that are used
abbrev pub used_masks : GrantedTables → (t : ℕ) → (used : List ℕ) → List Mask
used_masks g t cs = filter (λ m. is_used m.column cs) (g.masks t)

-- the masks of the alias of number n, their numbers behind its own: how many, their joins, and a column behind them
abbrev pub extra : Schema → GrantedTables → (t : ℕ) → (used : List ℕ) → ℕ
extra s g t cs = mask_numbers (used_masks g t cs) s t

abbrev pub masks : Schema → GrantedTables → (t : ℕ) → (used : List ℕ) → (n : ℕ) → List JoinTree
masks s g t cs n = mask_joins (used_masks g t cs) s t n (n + 1)

abbrev pub shown_look : Schema → GrantedTables → (t : ℕ) → (used : List ℕ) → (n : ℕ) → Look
shown_look s g t cs n = mask_look (used_masks g t cs) s t n (n + 1)

-- the filter of a table
abbrev pub filter_numbers : Schema → GrantedTables → (t : ℕ) → ℕ
filter_numbers s g t = own_numbers (g.filter t) s t

abbrev pub filter_predicate : Schema → GrantedTables → (t p n : ℕ) → PredTree
filter_predicate s g t p n = own_predicate (g.filter t) s t p n

-- in a request's `where` the permitted rows count, with their shown cells
abbrev pub where_mode : Schema → GrantedTables → Mode
where_mode s g = record {
  more = filter_numbers s g;
  guard = filter_predicate s g;
  extra = extra s g;
  joins = masks s g;
  look = shown_look s g;
}
