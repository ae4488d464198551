-- Two grants that are the same on the tables that fields touch give these one statement.
use Rattle.std.proofs.Common.{◌≡◌, ℕ, ◌+◌, List, [], ◌∷◌, ◌++◌, flat_map, length, cond, false, Option, None, refl}
use Rattle.hq_base.specs.Lists.{Each}
use Rattle.hq_model.specs.Bexp.{BexpTree, always, and_of, or_of, not_of, test, through, exists_in, two_columns, BexpTrees, no_bexp, bexp}
use Rattle.hq_model.specs.Grants.{Grants, grant}
use Rattle.hq_model.specs.Permission.{Permission}
use Rattle.hq_model.specs.Schema.{Schema, table, rel}
use Rattle.hq_model.specs.Selected.{SortKey, ListArguments, ascending, sorts_or, entries, smaller}
use Rattle.hq_request_tree.specs.Fields.{Origin, FieldTrees, no_field, field, FieldTree, column, typename, no_queries, object, list, by_key, aggregate, introspect, PartTrees, no_part, part, PartTree, summary, nodes, part_typename}
use Rattle.hq_request_tree.specs.Resolve.{origin_table}
use Rattle.hq_request_tree.specs.Touched.{condition_tables, conditions_tables, path_tables, list_tables, tables_of, field_tables, part_tables, one_part_tables}
use Rattle.hq_request_tree.specs.declared.aggregate.KeyedAggField.{KeyedAggField}
use Rattle.hq_sql_tree.specs.declared.expr.ColumnForm.TheVariants.{Plain}
use Rattle.hq_sql_tree.specs.Tree as tree
use Rattle.hq_sql_tree.specs.Tree.{PredTree, OutTree, JoinTree, PairTree, joins_of, orders_of, pairs_of}
use Rattle.hq_translation.specs.Aggregates.{needed, needed_outputs, some_aggregate, summary_used, summary_pairs, summary_numbers, plain_select, summary_select}
use Rattle.hq_translation.specs.Conditions.{joined_by_and, joined_by_or, with_member, where_of}
use Rattle.hq_translation.specs.Fields.{fields_used, key_used, origin_tie, key_members, fields_numbers, field_numbers, parts_numbers, part_numbers, field_value, fields_values, part_value, parts_values, parts_select, kids_from, list_join, fields_joins, field_joins, parts_joins, part_joins}
use Rattle.hq_translation.specs.Lists.{once, list_sorts, list_used, sorts_from, children_from, list_numbers, distinct_columns, list_rows, list_outputs, list_select}
use Rattle.hq_translation.specs.Looks.{Look, own_look, cell_at}
use Rattle.hq_translation.specs.Masks.{extra, masks, shown_look, filter_numbers, filter_predicate, value_output, where_mode}
use Rattle.hq_translation.specs.Names.{table_alias, fold_alias, join_alias, value_name, key_name}
use Rattle.hq_translation.specs.Predicates.{link, columns_in, inner_from, numbers, numbers_all, predicate, predicates, counted_rows}
use Rattle.hq_translation.specs.GrantedTables.{GrantedTables, granted_of}
use Rattle.hq_translation.specs.Selects.{filter_from, behind_filter, first_select}
use Rattle.hq_translation.specs.Sorts.{Sort, shown_sorts, own_sorts, last_used, sort_form, sort_place, sort_numbers, sort_joins, sorts_numbers, sorts_joins, orders, key_outputs, output_orders}
use Rattle.hq_translation.specs.Statement.{statement}

-- what holds of each item of two lists, one after the other, holds of each item of both
pub first_each : {A : Type 0} (P : A → Type 0) (xs ys : List A) → Each P (xs ++ ys) → Each P xs
first_each P [] ys h = tt
first_each P (x ∷ xs) ys h = (h.0, first_each P xs ys h.1)

pub second_each : {A : Type 0} (P : A → Type 0) (xs ys : List A) → Each P (xs ++ ys) → Each P ys
second_each P [] ys h = h
second_each P (x ∷ xs) ys h = second_each P xs ys h.1

-- this permission as what is granted, at every table
abbrev pub by : Permission → GrantedTables
by p = record { filter = λ t. p.filter; limit = λ t. p.limit; masks = λ t. p.masks }

module _ (s : Schema) (g h : Grants) where
  abbrev G : GrantedTables
  G = granted_of g

  abbrev H : GrantedTables
  H = granted_of h

  -- the grants are the same on a table, and on tables
  abbrev pub Same : ℕ → Type 0
  Same t = grant g t ≡ grant h t

  abbrev pub Are : List ℕ → Type 0
  Are ts = Each Same ts

  -- ---- conditions

  mutual
    numbers_same : (b : BexpTree) (t : ℕ) → Are (condition_tables b s t) → numbers b s (where_mode s G) t ≡ numbers b s (where_mode s H) t
    numbers_same always t e = refl
    numbers_same (and_of bs) t e = all_numbers_same bs t e
    numbers_same (or_of bs) t e = all_numbers_same bs t e
    numbers_same (not_of b) t e = numbers_same b t e
    numbers_same (test c tested vs negated) t e = refl
    numbers_same (through r b) t e =
        λ i. 1 + extra s (by (e.0 i)) (rel s t r).remote (columns_in b) + filter_numbers s (by (e.0 i)) (rel s t r).remote + numbers_same b (rel s t r).remote e.1 i
    numbers_same (exists_in u b) t e = λ i. 1 + extra s (by (e.0 i)) u (columns_in b) + filter_numbers s (by (e.0 i)) u + numbers_same b u e.1 i
    numbers_same (two_columns l op r) t e = refl

    all_numbers_same : (bs : BexpTrees) (t : ℕ) → Are (conditions_tables bs s t) → numbers_all bs s (where_mode s G) t ≡ numbers_all bs s (where_mode s H) t
    all_numbers_same no_bexp t e = refl
    all_numbers_same (bexp b bs) t e =
        λ i. numbers_same b t (first_each Same (condition_tables b s t) (conditions_tables bs s t) e) i
        + all_numbers_same bs t (second_each Same (condition_tables b s t) (conditions_tables bs s t) e) i

  mutual
    predicate_same : (b : BexpTree) (look : Look) (t p n : ℕ) → Are (condition_tables b s t) → predicate b s (where_mode s G) look t p n ≡ predicate b s (where_mode s H) look t p n
    predicate_same always look t p n e = refl
    predicate_same (and_of bs) look t p n e = λ i. joined_by_and (predicates_same bs look t p n e i)
    predicate_same (or_of bs) look t p n e = λ i. joined_by_or (predicates_same bs look t p n e i)
    predicate_same (not_of b) look t p n e = λ i. tree.negation (predicate_same b look t p n e i)
    predicate_same (test c tested vs negated) look t p n e = refl
    predicate_same (through r b) look t p n e =
        λ i. tree.exists (counted_rows s (where_mode s (by (e.0 i))) (rel s t r).remote n (columns_in b) (link s t (rel s t r) p n)
        (predicate_same b (shown_look s (by (e.0 i)) (rel s t r).remote (columns_in b) n) (rel s t r).remote n
        (inner_from (where_mode s (by (e.0 i))) (rel s t r).remote (columns_in b) n) e.1 i))
    predicate_same (exists_in u b) look t p n e =
        λ i. tree.exists (counted_rows s (where_mode s (by (e.0 i))) u n (columns_in b) tree.always
        (predicate_same b (shown_look s (by (e.0 i)) u (columns_in b) n) u n (inner_from (where_mode s (by (e.0 i))) u (columns_in b) n) e.1 i))
    predicate_same (two_columns l op r) look t p n e = refl

    predicates_same : (bs : BexpTrees) (look : Look) (t p n : ℕ) → Are (conditions_tables bs s t) → predicates bs s (where_mode s G) look t p n ≡ predicates bs s (where_mode s H) look t p n
    predicates_same no_bexp look t p n e = refl
    predicates_same (bexp b bs) look t p n e =
        let here = first_each Same (condition_tables b s t) (conditions_tables bs s t) e in
        let later = second_each Same (condition_tables b s t) (conditions_tables bs s t) e in
        λ i. predicate_same b look t p n here i ∷ predicates_same bs look t p (n + numbers_same b t here i) later i

  -- ---- sort keys

  sort_numbers_same : (rs : List ℕ) (t c : ℕ) → Are (path_tables rs s t) → sort_numbers rs s G t c ≡ sort_numbers rs s H t c
  sort_numbers_same [] t c e = refl
  sort_numbers_same (r ∷ rs) t c e =
      λ i. 1 + extra s (by (e.0 i)) (rel s t r).remote (last_used rs c) + filter_numbers s (by (e.0 i)) (rel s t r).remote + sort_numbers_same rs (rel s t r).remote c e.1 i

  sort_joins_same : (rs : List ℕ) (t p n c : ℕ) → Are (path_tables rs s t) → sort_joins rs s G t p n c ≡ sort_joins rs s H t p n c
  sort_joins_same [] t p n c e = refl
  sort_joins_same (r ∷ rs) t p n c e =
      λ i. record {
        select = first_select s (rel s t r).remote n (link s t (rel s t r) p n)
            (filter_predicate s (by (e.0 i)) (rel s t r).remote n (filter_from s (by (e.0 i)) (rel s t r).remote (last_used rs c) n))
            (cell_at (sort_place false rs s (shown_look s (by (e.0 i)) (rel s t r).remote (last_used rs c) n) (rel s t r).remote n
            (behind_filter s (by (e.0 i)) (rel s t r).remote (last_used rs c) n) c))
            (masks s (by (e.0 i)) (rel s t r).remote (last_used rs c) n
            ++ sort_joins_same rs (rel s t r).remote n (behind_filter s (by (e.0 i)) (rel s t r).remote (last_used rs c) n) c e.1 i);
        alias = join_alias n;
      }
      ∷ []

  -- of all sort keys
  abbrev SortsSame : List Sort → (t : ℕ) → Type 0
  SortsSame ks t = Each (λ k. Are (path_tables k.key.through s t)) ks

  sorts_numbers_same : (ks : List Sort) (t : ℕ) → SortsSame ks t → sorts_numbers ks s G t ≡ sorts_numbers ks s H t
  sorts_numbers_same [] t e = refl
  sorts_numbers_same (k ∷ ks) t e = λ i. sort_numbers_same k.key.through t k.key.column e.0 i + sorts_numbers_same ks t e.1 i

  sorts_joins_same : (ks : List Sort) (t p n : ℕ) → SortsSame ks t → sorts_joins ks s G t p n ≡ sorts_joins ks s H t p n
  sorts_joins_same [] t p n e = refl
  sorts_joins_same (k ∷ ks) t p n e =
      λ i. sort_joins_same k.key.through t p n k.key.column e.0 i ++ sorts_joins_same ks t p (n + sort_numbers_same k.key.through t k.key.column e.0 i) e.1 i

  orders_same : (ks : List Sort) (look : Look) (t p n : ℕ) → SortsSame ks t → orders ks s G look t p n ≡ orders ks s H look t p n
  orders_same [] look t p n e = refl
  orders_same (k ∷ ks) look t p n e =
      λ i. record {
        value = tree.column (sort_place k.own k.key.through s look t p n k.key.column).alias (sort_place k.own k.key.through s look t p n k.key.column).name (sort_form s t k.key);
        desc = k.key.desc;
        nulls_first = k.key.nulls_first;
      }
      ∷ orders_same ks look t p (n + sort_numbers_same k.key.through t k.key.column e.0 i) e.1 i

  outputs_same : (ks : List Sort) (look : Look) (t p n j : ℕ) → SortsSame ks t → key_outputs ks s G look t p n j ≡ key_outputs ks s H look t p n j
  outputs_same [] look t p n j e = refl
  outputs_same (k ∷ ks) look t p n j e =
      λ i. record { value = cell_at (sort_place k.own k.key.through s look t p n k.key.column); name = key_name j }
      ∷ outputs_same ks look t p (n + sort_numbers_same k.key.through t k.key.column e.0 i) (j + 1) e.1 i

  -- ---- lists

  -- the relationships of entries, and of the columns of a key
  entries_same : (t : ℕ) (ks : List SortKey) (key : List ℕ) → Each (λ k. Are (path_tables k.through s t)) ks → SortsSame (shown_sorts ks (own_sorts key)) t
  entries_same t [] key e = own key
    where
      own : (cs : List ℕ) → SortsSame (own_sorts cs) t
      own [] = tt
      own (c ∷ cs) = (tt, own cs)
  entries_same t (k ∷ ks) key e = (e.0, entries_same t ks key e.1)

  plain_same : (t : ℕ) (cs : List ℕ) → Each (λ k. Are (path_tables k.through s t)) (ascending cs)
  plain_same t [] = tt
  plain_same t (c ∷ cs) = (tt, plain_same t cs)

  told_same : (t : ℕ) (ks : List SortKey) → Are (flat_map (λ k. path_tables k.through s t) ks) → Each (λ k. Are (path_tables k.through s t)) ks
  told_same t [] e = tt
  told_same t (k ∷ ks) e =
      let later : List ℕ = flat_map (λ j. path_tables j.through s t) ks in
      (first_each Same (path_tables k.through s t) later e, told_same t ks (second_each Same (path_tables k.through s t) later e))

  sorts_same : (a : ListArguments) (u : ℕ) → Are (flat_map (λ k. path_tables k.through s u) a.sorts) → SortsSame (list_sorts s u a) u
  sorts_same a u e = entries_same u (entries (once a)) (table s u).key (chosen a.sorts e)
    where
      chosen : (ks : List SortKey) → Are (flat_map (λ k. path_tables k.through s u) ks) → Each (λ k. Are (path_tables k.through s u)) (sorts_or ks (ascending (once a).distinct))
      chosen [] f = plain_same u (once a).distinct
      chosen (k ∷ ks) f = told_same u (k ∷ ks) f

  -- what a list of table u touches is granted alike
  module _ (a : ListArguments) (u : ℕ) (cs : List ℕ) (e : Are (list_tables a s u)) where
    wanted_are : Are (condition_tables a.wanted s u)
    wanted_are = first_each Same (condition_tables a.wanted s u) (flat_map (λ k. path_tables k.through s u) a.sorts) e.1

    sorts_are : SortsSame (list_sorts s u a) u
    sorts_are = sorts_same a u (second_each Same (condition_tables a.wanted s u) (flat_map (λ k. path_tables k.through s u) a.sorts) e.1)

    sorts_from_same : (n : ℕ) → sorts_from s G u cs a n ≡ sorts_from s H u cs a n
    sorts_from_same n = λ i. n + 1 + extra s (by (e.0 i)) u cs + filter_numbers s (by (e.0 i)) u + numbers_same a.wanted u wanted_are i

    pub children_from_same : (n : ℕ) → children_from s G u cs a n ≡ children_from s H u cs a n
    children_from_same n =
        λ i. n + 1 + extra s (by (e.0 i)) u cs + filter_numbers s (by (e.0 i)) u + numbers_same a.wanted u wanted_are i + sorts_numbers_same (list_sorts s u a) u sorts_are i

    pub list_numbers_same : list_numbers s G u cs a ≡ list_numbers s H u cs a
    list_numbers_same = λ i. 1 + extra s (by (e.0 i)) u cs + filter_numbers s (by (e.0 i)) u + numbers_same a.wanted u wanted_are i + sorts_numbers_same (list_sorts s u a) u sorts_are i

    pub list_rows_same : (n : ℕ) (tie : PredTree) (limit : Option ℕ) (outs : List OutTree) (children : List JoinTree)
        → list_rows s G u cs a n tie limit outs children ≡ list_rows s H u cs a n tie limit outs children
    list_rows_same n tie limit outs children =
        λ i. tree.rows (distinct_columns (table s u).columns (shown_look s (by (e.0 i)) u cs n) (once a).distinct) outs
        (tree.table (table s u).schema (table s u).name (table_alias n))
        (joins_of (masks s (by (e.0 i)) u cs n ++ (sorts_joins_same (list_sorts s u a) u n (sorts_from_same n i) sorts_are i ++ children)))
        (where_of (with_member tie (with_member (filter_predicate s (by (e.0 i)) u n (filter_from s (by (e.0 i)) u cs n))
        (with_member (predicate_same a.wanted (shown_look s (by (e.0 i)) u cs n) u n (behind_filter s (by (e.0 i)) u cs n) wanted_are i) []))))
        (orders_same (list_sorts s u a) (shown_look s (by (e.0 i)) u cs n) u n (sorts_from_same n i) sorts_are i) limit a.offset

    list_outputs_same : (n : ℕ) (values : List PairTree) → list_outputs s G u cs a n values ≡ list_outputs s H u cs a n values
    list_outputs_same n values =
        λ i. record { value = tree.object (pairs_of values); name = value_name }
        ∷ outputs_same (list_sorts s u a) (shown_look s (by (e.0 i)) u cs n) u n (sorts_from_same n i) 0 sorts_are i

    pub list_select_same : (n : ℕ) (tie : PredTree) (values : List PairTree) (children : List JoinTree) → list_select s G u cs a n tie values children ≡ list_select s H u cs a n tie values children
    list_select_same n tie values children =
        λ i. tree.fold (record {
          value = tree.aggregate (tree.json_agg (tree.column (fold_alias n) value_name Plain) (orders_of (output_orders (list_sorts s u a) s u n 0)));
          name = value_name;
        })
        (list_rows_same n tie (smaller a.limit (e.0 i).limit) (list_outputs_same n values i) children i) (fold_alias n)

  -- ---- aggregates

  summary_numbers_same : (fs : List KeyedAggField) (a : ListArguments) (u : ℕ) → Are (list_tables a s u) → summary_numbers fs s G u a ≡ summary_numbers fs s H u a
  summary_numbers_same fs a u e = λ i. cond (some_aggregate fs) (list_numbers_same a u (summary_used s u a fs) e i) 1

  summary_select_same : (fs : List KeyedAggField) (a : ListArguments) (u n : ℕ) (tie : PredTree) → Are (list_tables a s u) → summary_select fs s G u a n tie ≡ summary_select fs s H u a n tie
  summary_select_same fs a u n tie e =
      λ i. cond (some_aggregate fs)
      (tree.fold (record { value = tree.object (pairs_of (summary_pairs (table s u).columns n (needed fs []) fs)); name = value_name })
      (list_rows_same a u (summary_used s u a fs) e n tie a.limit (needed_outputs (shown_look s (by (e.0 i)) u (summary_used s u a fs) n) (needed fs [])) [] i) (fold_alias n))
      (plain_select fs s u n)

  -- ---- fields

  mutual
    pub fields_numbers_same : (fs : FieldTrees) (t : ℕ) → Are (tables_of fs s t) → fields_numbers fs s G t ≡ fields_numbers fs s H t
    fields_numbers_same no_field t e = refl
    fields_numbers_same (field key f fs) t e =
        λ i. field_numbers_same f t (first_each Same (field_tables f s t) (tables_of fs s t) e) i + fields_numbers_same fs t (second_each Same (field_tables f s t) (tables_of fs s t) e) i

    field_numbers_same : (f : FieldTree) (t : ℕ) → Are (field_tables f s t) → field_numbers f s G t ≡ field_numbers f s H t
    field_numbers_same (column c) t e = refl
    field_numbers_same (typename name) t e = refl
    field_numbers_same no_queries t e = refl
    field_numbers_same (object r fs) t e =
        λ i. 1 + extra s (by (e.0 i)) (rel s t r).remote (fields_used fs) + filter_numbers s (by (e.0 i)) (rel s t r).remote + fields_numbers_same fs (rel s t r).remote e.1 i
    field_numbers_same (list o a fs) t e =
        let u : ℕ = origin_table o s t in
        λ i. list_numbers_same a u (list_used s u a (fields_used fs)) (first_each Same (list_tables a s u) (tables_of fs s u) e) i
        + fields_numbers_same fs u (second_each Same (list_tables a s u) (tables_of fs s u) e) i
    field_numbers_same (by_key u key fs) t e = λ i. 1 + extra s (by (e.0 i)) u (key_used s u fs) + filter_numbers s (by (e.0 i)) u + fields_numbers_same fs u e.1 i
    field_numbers_same (aggregate o a ps) t e =
        let u : ℕ = origin_table o s t in
        λ i. 1 + parts_numbers_same ps u a (first_each Same (list_tables a s u) (part_tables ps s u) e) (second_each Same (list_tables a s u) (part_tables ps s u) e) i
    field_numbers_same (introspect f) t e = refl

    parts_numbers_same : (ps : PartTrees) (u : ℕ) (a : ListArguments) → Are (list_tables a s u) → Are (part_tables ps s u) → parts_numbers ps s G u a ≡ parts_numbers ps s H u a
    parts_numbers_same no_part u a own e = refl
    parts_numbers_same (part key p ps) u a own e =
        λ i. part_numbers_same p u a own (first_each Same (one_part_tables p s u) (part_tables ps s u) e) i
        + parts_numbers_same ps u a own (second_each Same (one_part_tables p s u) (part_tables ps s u) e) i

    part_numbers_same : (p : PartTree) (u : ℕ) (a : ListArguments) → Are (list_tables a s u) → Are (one_part_tables p s u) → part_numbers p s G u a ≡ part_numbers p s H u a
    part_numbers_same (summary fs) u a own e = summary_numbers_same fs a u own
    part_numbers_same (nodes fs) u a own e = λ i. list_numbers_same a u (list_used s u a (fields_used fs)) own i + fields_numbers_same fs u e i
    part_numbers_same (part_typename name) u a own e = refl

  fields_values_same : (fs : FieldTrees) (look : Look) (t n : ℕ) → Are (tables_of fs s t) → fields_values fs s G look t n ≡ fields_values fs s H look t n
  fields_values_same no_field look t n e = refl
  fields_values_same (field key f fs) look t n e =
      let here = first_each Same (field_tables f s t) (tables_of fs s t) e in
      let later = second_each Same (field_tables f s t) (tables_of fs s t) e in
      λ i. record { name = key; value = field_value f (table s t).columns look n } ∷ fields_values_same fs look t (n + field_numbers_same f t here i) later i

  parts_values_same : (ps : PartTrees) (u : ℕ) (a : ListArguments) (n : ℕ) → Are (list_tables a s u) → Are (part_tables ps s u) → parts_values ps s G u a n ≡ parts_values ps s H u a n
  parts_values_same no_part u a n own e = refl
  parts_values_same (part key p ps) u a n own e =
      let here = first_each Same (one_part_tables p s u) (part_tables ps s u) e in
      let later = second_each Same (one_part_tables p s u) (part_tables ps s u) e in
      λ i. record { name = key; value = part_value p n } ∷ parts_values_same ps u a (n + part_numbers_same p u a own here i) own later i

  -- a list of rows with the joins of their fields
  list_join_same : (o : Origin) (a : ListArguments) (fs : FieldTrees) (t p n : ℕ) → Are (list_tables a s (origin_table o s t)) → Are (tables_of fs s (origin_table o s t))
      → ((k : ℕ) → fields_joins fs s G (origin_table o s t) n k ≡ fields_joins fs s H (origin_table o s t) n k)
      → list_join s G o t p a fs n (fields_joins fs s G (origin_table o s t) n (kids_from s G (origin_table o s t) a fs n)) ∷ []
      ≡ list_join s H o t p a fs n (fields_joins fs s H (origin_table o s t) n (kids_from s H (origin_table o s t) a fs n)) ∷ []
  list_join_same o a fs t p n own e kids =
      let u : ℕ = origin_table o s t in
      let cs : List ℕ = list_used s u a (fields_used fs) in
      λ i. record {
        select = list_select_same a u cs own n (origin_tie o s t p n) (fields_values_same fs (shown_look s (by (own.0 i)) u cs n) u (children_from_same a u cs own n i) e i)
            (kids (children_from_same a u cs own n i) i) i;
        alias = join_alias n;
      }
      ∷ []

  mutual
    fields_joins_same : (fs : FieldTrees) (t p n : ℕ) → Are (tables_of fs s t) → fields_joins fs s G t p n ≡ fields_joins fs s H t p n
    fields_joins_same no_field t p n e = refl
    fields_joins_same (field key f fs) t p n e =
        let here = first_each Same (field_tables f s t) (tables_of fs s t) e in
        let later = second_each Same (field_tables f s t) (tables_of fs s t) e in
        λ i. field_joins_same f t p n here i ++ fields_joins_same fs t p (n + field_numbers_same f t here i) later i

    field_joins_same : (f : FieldTree) (t p n : ℕ) → Are (field_tables f s t) → field_joins f s G t p n ≡ field_joins f s H t p n
    field_joins_same (column c) t p n e = refl
    field_joins_same (typename name) t p n e = refl
    field_joins_same no_queries t p n e = refl
    field_joins_same (object r fs) t p n e =
        let u : ℕ = (rel s t r).remote in
        let cs : List ℕ = fields_used fs in
        λ i. record {
          select = first_select s u n (link s t (rel s t r) p n) (filter_predicate s (by (e.0 i)) u n (filter_from s (by (e.0 i)) u cs n))
              (tree.object (pairs_of (fields_values_same fs (shown_look s (by (e.0 i)) u cs n) u (behind_filter s (by (e.0 i)) u cs n) e.1 i)))
              (masks s (by (e.0 i)) u cs n ++ fields_joins_same fs u n (behind_filter s (by (e.0 i)) u cs n) e.1 i);
          alias = join_alias n;
        }
        ∷ []
    field_joins_same (list o a fs) t p n e =
        let u : ℕ = origin_table o s t in
        let later = second_each Same (list_tables a s u) (tables_of fs s u) e in
        list_join_same o a fs t p n (first_each Same (list_tables a s u) (tables_of fs s u) e) later (λ k. fields_joins_same fs u n k later)
    field_joins_same (by_key u key fs) t p n e =
        let cs : List ℕ = key_used s u fs in
        λ i. record {
          select = first_select s u n (joined_by_and (key_members (table s u).columns (shown_look s (by (e.0 i)) u cs n) (table s u).key key))
              (filter_predicate s (by (e.0 i)) u n (filter_from s (by (e.0 i)) u cs n))
              (tree.object (pairs_of (fields_values_same fs (shown_look s (by (e.0 i)) u cs n) u (behind_filter s (by (e.0 i)) u cs n) e.1 i)))
              (masks s (by (e.0 i)) u cs n ++ fields_joins_same fs u n (behind_filter s (by (e.0 i)) u cs n) e.1 i);
          alias = join_alias n;
        }
        ∷ []
    field_joins_same (aggregate o a ps) t p n e =
        let u : ℕ = origin_table o s t in
        let own = first_each Same (list_tables a s u) (part_tables ps s u) e in
        let later = second_each Same (list_tables a s u) (part_tables ps s u) e in
        λ i. record { select = parts_select n (parts_values_same ps u a (n + 1) own later i) (parts_joins_same ps o t p a (n + 1) own later i); alias = join_alias n } ∷ []
    field_joins_same (introspect f) t p n e = refl

    parts_joins_same : (ps : PartTrees) (o : Origin) (t p : ℕ) (a : ListArguments) (n : ℕ) → Are (list_tables a s (origin_table o s t)) → Are (part_tables ps s (origin_table o s t))
        → parts_joins ps s G o t p a n ≡ parts_joins ps s H o t p a n
    parts_joins_same no_part o t p a n own e = refl
    parts_joins_same (part key q ps) o t p a n own e =
        let u : ℕ = origin_table o s t in
        let here = first_each Same (one_part_tables q s u) (part_tables ps s u) e in
        let later = second_each Same (one_part_tables q s u) (part_tables ps s u) e in
        λ i. part_joins_same q o t p a n own here i ++ parts_joins_same ps o t p a (n + part_numbers_same q u a own here i) own later i

    part_joins_same : (q : PartTree) (o : Origin) (t p : ℕ) (a : ListArguments) (n : ℕ) → Are (list_tables a s (origin_table o s t)) → Are (one_part_tables q s (origin_table o s t))
        → part_joins q s G o t p a n ≡ part_joins q s H o t p a n
    part_joins_same (summary fs) o t p a n own e =
        λ i. record { select = summary_select_same fs a (origin_table o s t) n (origin_tie o s t p n) own i; alias = join_alias n } ∷ []
    part_joins_same (nodes fs) o t p a n own e = list_join_same o a fs t p n own e (λ k. fields_joins_same fs (origin_table o s t) n k e)
    part_joins_same (part_typename name) o t p a n own e = refl

  -- ---- statements

  pub statement_same : (fs : FieldTrees) → Are (tables_of fs s (length s)) → statement fs s G ≡ statement fs s H
  statement_same fs e =
      λ i. tree.rows [] (value_output (tree.object (pairs_of (fields_values_same fs (own_look (table s (length s)).columns 0) (length s) 1 e i))))
      (tree.one (table_alias 0)) (joins_of (fields_joins_same fs (length s) 0 1 e i)) tree.no_filter [] None None
