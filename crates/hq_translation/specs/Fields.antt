-- The fields of a typed request: for each its numbers, its value at a row, and the lateral join that gives the value.
use Rattle.std.specs.Prelude.{ℕ, ◌+◌, List, [], ◌∷◌, ◌++◌, None}
use Rattle.hq_base.specs.declared.value.Val.{Val}
use Rattle.hq_translation.specs.GrantedTables.{GrantedTables}
use Rattle.hq_model.specs.Schema.{Schema, table, rel}
use Rattle.hq_model.specs.Selected.{ListArguments}
use Rattle.hq_model.specs.declared.test.Test.TheVariants.{Compare}
use Rattle.hq_model.specs.declared.op.Op.TheVariants.{Eq}
use Rattle.hq_model.specs.declared.table.Column.{Column}
use Rattle.hq_request_tree.specs.Fields.{Origin, from_table, along, FieldTrees, no_field, field, FieldTree, column, typename, no_queries, object, list, by_key, aggregate, introspect, PartTrees, no_part, part, PartTree, summary, nodes, part_typename}
use Rattle.hq_request_tree.specs.Resolve.{origin_table}
use Rattle.hq_sql_tree.specs.Tree as tree
use Rattle.hq_sql_tree.specs.Tree.{ExprTree, PairTree, pairs_of, SelectTree, JoinTree, joins_of, PredTree}
use Rattle.hq_translation.specs.Names.{table_alias, join_alias}
use Rattle.hq_translation.specs.Looks.{Look, cell_at, shown_at, compared_at, type_in}
use Rattle.hq_translation.specs.Conditions.{literal, joined_by_and}
use Rattle.hq_translation.specs.Predicates.{link}
use Rattle.hq_translation.specs.Masks.{value_output, value_place, extra, masks, shown_look, filter_numbers, filter_predicate}
use Rattle.hq_translation.specs.Selects.{filter_from, behind_filter, first_select}
use Rattle.hq_translation.specs.Lists.{list_used, list_numbers, children_from, list_select}
use Rattle.hq_translation.specs.Aggregates.{summary_numbers, summary_select}

-- the columns of the row that a field, and fields, use
abbrev pub field_used : FieldTree → List ℕ
field_used (column c) = c ∷ []
field_used _ = []

abbrev pub fields_used : FieldTrees → List ℕ
fields_used no_field = []
fields_used (field key f fs) = field_used f ++ fields_used fs

-- the columns of its rows that a look-up by key uses
abbrev pub key_used : Schema → (t : ℕ) → FieldTrees → List ℕ
key_used s t fs = (table s t).key ++ fields_used fs

-- a row of a list is tied to the row of table t at the alias of number p
abbrev pub origin_tie : Origin → Schema → (t p n : ℕ) → PredTree
origin_tie (from_table u) s t p n = tree.always
origin_tie (along r) s t p n = link s t (rel s t r) p n

-- the columns of a key equal these values
abbrev pub key_members : List Column → Look → List ℕ → List Val → List PredTree
key_members columns look [] vs = []
key_members columns look (c ∷ cs) [] = []
key_members columns look (c ∷ cs) (v ∷ vs) = tree.test (compared_at columns (look c) c) (Compare Eq) (literal (type_in columns c) v ∷ []) ∷ key_members columns look cs vs

-- how many numbers fields at a row of table t take, and those of an aggregate over a list of table u
abbrev mutual
  pub fields_numbers : FieldTrees → Schema → GrantedTables → (t : ℕ) → ℕ
  fields_numbers no_field s g t = 0
  fields_numbers (field key f fs) s g t = field_numbers f s g t + fields_numbers fs s g t

  pub field_numbers : FieldTree → Schema → GrantedTables → (t : ℕ) → ℕ
  field_numbers (column c) s g t = 0
  field_numbers (typename name) s g t = 0
  field_numbers no_queries s g t = 1
  field_numbers (object r fs) s g t =
      1 + extra s g (rel s t r).remote (fields_used fs) + filter_numbers s g (rel s t r).remote + fields_numbers fs s g (rel s t r).remote
  field_numbers (list o a fs) s g t =
      list_numbers s g (origin_table o s t) (list_used s (origin_table o s t) a (fields_used fs)) a + fields_numbers fs s g (origin_table o s t)
  field_numbers (by_key u key fs) s g t = 1 + extra s g u (key_used s u fs) + filter_numbers s g u + fields_numbers fs s g u
  field_numbers (aggregate o a ps) s g t = 1 + parts_numbers ps s g (origin_table o s t) a
  field_numbers (introspect f) s g t = 1

  pub parts_numbers : PartTrees → Schema → GrantedTables → (u : ℕ) → ListArguments → ℕ
  parts_numbers no_part s g u a = 0
  parts_numbers (part key p ps) s g u a = part_numbers p s g u a + parts_numbers ps s g u a

  pub part_numbers : PartTree → Schema → GrantedTables → (u : ℕ) → ListArguments → ℕ
  part_numbers (summary fs) s g u a = summary_numbers fs s g u a
  part_numbers (nodes fs) s g u a = list_numbers s g u (list_used s u a (fields_used fs)) a + fields_numbers fs s g u
  part_numbers (part_typename name) s g u a = 0

-- the values of fields at a row whose columns are looked at so, their numbers from n on
abbrev pub field_value : FieldTree → List Column → Look → (n : ℕ) → ExprTree
field_value (column c) columns look n = shown_at columns (look c) c
field_value (typename name) columns look n = tree.text name
field_value _ columns look n = cell_at (value_place n)

abbrev pub fields_values : FieldTrees → Schema → GrantedTables → Look → (t n : ℕ) → List PairTree
fields_values no_field s g look t n = []
fields_values (field key f fs) s g look t n = record { name = key; value = field_value f (table s t).columns look n } ∷ fields_values fs s g look t (n + field_numbers f s g t)

abbrev pub part_value : PartTree → (n : ℕ) → ExprTree
part_value (part_typename name) n = tree.text name
part_value _ n = cell_at (value_place n)

abbrev pub parts_values : PartTrees → Schema → GrantedTables → (u : ℕ) → ListArguments → (n : ℕ) → List PairTree
parts_values no_part s g u a n = []
parts_values (part key p ps) s g u a n = record { name = key; value = part_value p n } ∷ parts_values ps s g u a (n + part_numbers p s g u a)

-- no row: the value of a field that no table answers
abbrev pub empty_select : (n : ℕ) → SelectTree
empty_select n = tree.rows [] (value_output (tree.object tree.no_pair)) (tree.one (table_alias n)) tree.no_join (tree.filter tree.never) [] None None

-- one row with the values of an aggregate's parts
abbrev pub parts_select : (n : ℕ) → List PairTree → List JoinTree → SelectTree
parts_select n values joins =
    tree.rows [] (value_output (tree.object (pairs_of values))) (tree.one (table_alias n)) (joins_of joins) tree.no_filter [] None None

-- the first number of the fields of a list of table u at the alias of number n
abbrev pub kids_from : Schema → GrantedTables → (u : ℕ) → ListArguments → FieldTrees → (n : ℕ) → ℕ
kids_from s g u a fs n = children_from s g u (list_used s u a (fields_used fs)) a n

-- a list of rows, with the joins of their fields
abbrev pub list_join : Schema → GrantedTables → Origin → (t p : ℕ) → ListArguments → FieldTrees → (n : ℕ) → (kids : List JoinTree) → JoinTree
list_join s g o t p a fs n kids = record {
  select = list_select s g (origin_table o s t) (list_used s (origin_table o s t) a (fields_used fs)) a n (origin_tie o s t p n)
      (fields_values fs s g (shown_look s g (origin_table o s t) (list_used s (origin_table o s t) a (fields_used fs)) n) (origin_table o s t)
      (kids_from s g (origin_table o s t) a fs n)) kids;
  alias = join_alias n;
}

-- The lateral joins of fields at a row of table t at the alias of number p, their numbers from n on.
abbrev mutual
  pub fields_joins : FieldTrees → Schema → GrantedTables → (t p n : ℕ) → List JoinTree
  fields_joins no_field s g t p n = []
  fields_joins (field key f fs) s g t p n = field_joins f s g t p n ++ fields_joins fs s g t p (n + field_numbers f s g t)

  pub field_joins : FieldTree → Schema → GrantedTables → (t p n : ℕ) → List JoinTree
  field_joins (column c) s g t p n = []
  field_joins (typename name) s g t p n = []
  field_joins no_queries s g t p n = record { select = empty_select n; alias = join_alias n } ∷ []
  field_joins (object r fs) s g t p n =
      record {
        select = first_select s (rel s t r).remote n (link s t (rel s t r) p n)
            (filter_predicate s g (rel s t r).remote n (filter_from s g (rel s t r).remote (fields_used fs) n))
            (tree.object (pairs_of (fields_values fs s g (shown_look s g (rel s t r).remote (fields_used fs) n) (rel s t r).remote
            (behind_filter s g (rel s t r).remote (fields_used fs) n))))
            (masks s g (rel s t r).remote (fields_used fs) n
            ++ fields_joins fs s g (rel s t r).remote n (behind_filter s g (rel s t r).remote (fields_used fs) n));
        alias = join_alias n;
      }
      ∷ []
  field_joins (list o a fs) s g t p n =
      list_join s g o t p a fs n (fields_joins fs s g (origin_table o s t) n (kids_from s g (origin_table o s t) a fs n)) ∷ []
  field_joins (by_key u key fs) s g t p n =
      record {
        select = first_select s u n (joined_by_and (key_members (table s u).columns (shown_look s g u (key_used s u fs) n) (table s u).key key))
            (filter_predicate s g u n (filter_from s g u (key_used s u fs) n))
            (tree.object (pairs_of (fields_values fs s g (shown_look s g u (key_used s u fs) n) u (behind_filter s g u (key_used s u fs) n))))
            (masks s g u (key_used s u fs) n ++ fields_joins fs s g u n (behind_filter s g u (key_used s u fs) n));
        alias = join_alias n;
      }
      ∷ []
  field_joins (aggregate o a ps) s g t p n =
      record {
        select = parts_select n (parts_values ps s g (origin_table o s t) a (n + 1)) (parts_joins ps s g o t p a (n + 1));
        alias = join_alias n;
      }
      ∷ []
  field_joins (introspect f) s g t p n = record { select = empty_select n; alias = join_alias n } ∷ []

  -- those of an aggregate over a list
  pub parts_joins : PartTrees → Schema → GrantedTables → Origin → (t p : ℕ) → ListArguments → (n : ℕ) → List JoinTree
  parts_joins no_part s g o t p a n = []
  parts_joins (part key q ps) s g o t p a n = part_joins q s g o t p a n ++ parts_joins ps s g o t p a (n + part_numbers q s g (origin_table o s t) a)

  pub part_joins : PartTree → Schema → GrantedTables → Origin → (t p : ℕ) → ListArguments → (n : ℕ) → List JoinTree
  part_joins (summary fs) s g o t p a n =
      record { select = summary_select fs s g (origin_table o s t) a n (origin_tie o s t p n); alias = join_alias n } ∷ []
  part_joins (nodes fs) s g o t p a n =
      list_join s g o t p a fs n (fields_joins fs s g (origin_table o s t) n (kids_from s g (origin_table o s t) a fs n)) ∷ []
  part_joins (part_typename name) s g o t p a n = []
