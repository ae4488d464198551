-- The names that a shown table gives are some of those that its entry gives in the schema of admin.
use Rattle.std.proofs.Common.{◌≡◌, ◌∙◌, refl, sym, ap, subst, inl, inr, ℕ, ◌+◌, List, [], ◌∷◌, ◌++◌, map, filter, Bool, true, false, cond, not, ◌||◌, ◌==◌, Option, Some, None, get_or, append-nil}
use Rattle.std.specs.Prelude.{find, flat_map, option_map, slice_get, codes}
use Rattle.std.specs.List.{list_any, list_all, filter_map, cons_option}
use Rattle.std.proofs.lemmas.Bool.{and_parts, and_from, eqb-true}
use Rattle.std.proofs.lemmas.List.{map-append}
use Rattle.std.proofs.lemmas.Option.{get_or_from_slice_get}
use Rattle.hq_base.specs.Types.{is_ordered}
use Rattle.hq_base.specs.Aggregates.{all_aggregates, aggregate_suffix, is_aggregate_of}
use Rattle.hq_base.specs.Lists.{Each}
use Rattle.hq_base.specs.declared.aggregate.Aggregate.{Aggregate as OneAggregate}
use Rattle.hq_base.specs.declared.value.Ty.{Ty}
use Rattle.hq_base.proofs.Lists.{map_map}
use Rattle.hq_schema.specs.Parts.{row_parts, aggregate_parts, part_suffix}
use Rattle.hq_schema.specs.Schema.{TypeRefTree, ArgTree, FieldTree}
use Rattle.hq_schema.specs.declared.part.Part.{Part}
use Rattle.hq_model.specs.Meta.{TrackedTree, MetaTree}
use Rattle.hq_model.specs.Permission.{Mask, Permission, named_columns}
use Rattle.hq_model.specs.Schema.{Schema, schema_of, table, column, no_column}
use Rattle.hq_model.specs.SchemaNames.{some_column, has_columns, is_in_schema, is_aggregated, types_of, key_is_named, roots_of, column_names_of, rel_fields}
use Rattle.hq_model.specs.declared.meta.Rel.{Rel}
use Rattle.hq_model.specs.declared.meta.RootNames.{RootNames}
use Rattle.hq_model.specs.declared.table.Column.{Column}
use Rattle.hq_model.specs.declared.table.Table.{Table}
use Rattle.hq_model.proofs.Places.{table_present}
use Rattle.hq_schema_of_role.specs.Fields.{column_type, column_fields, list_field, aggregate_field, link_fields}
use Rattle.hq_schema_of_role.specs.Inputs.{is_filter, input_type, column_input, link_input}
use Rattle.hq_schema_of_role.specs.Placed.{parts_of, link_to, links_from}
use Rattle.hq_schema_of_role.specs.References.{fixed, plain_field, part, arg}
use Rattle.hq_schema_of_role.specs.Shown.{is_over, aggregates_over, under_name, shown_columns, shown_table}
use Rattle.hq_schema_of_role.specs.declared.shown.ShownColumn.{ShownColumn}
use Rattle.hq_schema_of_role.specs.declared.shown.ShownTable.{ShownTable}
use Rattle.hq_schema_of_role.specs.declared.shown.PlacedTable.{PlacedTable}
use Rattle.hq_schema_of_role.specs.declared.shown.Link.{Link}
use Rattle.hq_schema.specs.declared.origin.ArgOrigin.TheVariants as arg_origin
use Rattle.hq_schema.specs.declared.origin.FieldOrigin.TheVariants as field
use Rattle.hq_schema.specs.declared.part.Part.TheVariants.{Rows, Aggregated}
use Rattle.hq_schema_roles.proofs.Lists.{found_each}
use Rattle.hq_schema_roles.proofs.Subs.{Sub, sub_nil, sub_keep, sub_same, sub_skip, sub_append, sub_trans, sub_map, sub_filters, any_sub}

or_right_true : (a b : Bool) → b ≡ true → (a || b) ≡ true
or_right_true true b h = refl
or_right_true false b h = h

-- ---- the names of types

module _ (name : List ℕ) where
  abbrev named : Part → List ℕ
  named p = name ++ part_suffix p

  -- the types of aggregates behind those that each table has
  abbrev with_aggregates : List (List ℕ) → List (List ℕ)
  with_aggregates xs = (name ++ codes "_aggregate") ∷ (name ++ codes "_aggregate_fields") ∷ xs

  -- the first four types, and these behind them
  abbrev four : List (List ℕ) → List (List ℕ)
  four xs = (name ++ codes "_bool_exp") ∷ (name ++ codes "_order_by") ∷ (name ++ codes "_select_column") ∷ xs

  four_sub : (xs ys : List (List ℕ)) → Sub xs ys → Sub ((name ++ codes "") ∷ four xs) (name ∷ four ys)
  four_sub xs ys h =
      inr (
        four xs,
        ap (λ (z : List ℕ). z ∷ four xs) (append-nil name),
        inr (
          (name ++ codes "_order_by") ∷ (name ++ codes "_select_column")
              ∷ xs,
          refl,
          inr ((name ++ codes "_select_column") ∷ xs, refl, inr (xs, refl, h)),
        ),
      )

  -- the type of what an aggregate gives
  abbrev of_aggregate : OneAggregate → List ℕ
  of_aggregate g = name ++ aggregate_suffix g

  parts_sub : (a : Bool) (gs hs : List OneAggregate) → Sub gs hs → Sub (map named (row_parts ++ cond a (aggregate_parts ++ map Aggregated gs) [])) (name ∷ four (with_aggregates (map of_aggregate hs)))
  parts_sub false gs hs h = four_sub [] (with_aggregates (map of_aggregate hs)) (sub_nil (with_aggregates (map of_aggregate hs)))
  parts_sub true gs hs h =
      let fields = name ++ codes "_aggregate_fields" in
      let given : Sub (map named (map Aggregated gs)) (map of_aggregate hs) = rw (map_map named Aggregated gs) (sub_map of_aggregate gs hs h) in
      four_sub (with_aggregates (map named (map Aggregated gs))) (with_aggregates (map of_aggregate hs))
      (sub_keep (name ++ codes "_aggregate") (name ++ codes "_aggregate") (fields ∷ map named (map Aggregated gs)) (fields ∷ map of_aggregate hs) refl
      (sub_keep fields fields (map named (map Aggregated gs)) (map of_aggregate hs) refl given))

-- the root fields of a table
abbrev pub key_names : RootNames → Option (List ShownColumn) → List (List ℕ)
key_names roots None = []
key_names roots (Some key) = roots.select_by_pk ∷ []

abbrev pub root_names : ShownTable → List (List ℕ)
root_names t = t.roots.select ∷ cond t.aggregates (t.roots.select_aggregate ∷ []) [] ++ key_names t.roots t.key

module _ (tables : List Table) (m : MetaTree) (k : TrackedTree) (tb : Table) (here : slice_get tables k.table ≡ Some tb) where
  abbrev s : Schema
  s = schema_of tables m

  columns_are : (table s k.table).columns ≡ tb.columns
  columns_are = ap (λ t. t.columns) (table_present tables m k.table tb here)

  -- what some shown column has, a column of admin's has
  some_shown : (ms : List Mask) (test : Ty → Bool) (cs : List ℕ) → list_any (λ (c : ShownColumn). test c.ty) (shown_columns tb k ms cs) ≡ true → list_any (λ c. test (column s k.table c).ty) cs ≡ true
  some_shown ms test [] h = h
  some_shown ms test (c ∷ cs) h = by (slice_get tb.columns c) (slice_get k.column_names c) refl h (some_shown ms test cs)
    where
      rest : Bool
      rest = list_any (λ (x : ShownColumn). test x.ty) (shown_columns tb k ms cs)

      goal_rest : Bool
      goal_rest = list_any (λ d. test (column s k.table d).ty) cs

      is : (x : Column) → slice_get tb.columns c ≡ Some x → column s k.table c ≡ x
      is x e = ap (λ (xs : List Column). get_or xs c no_column) columns_are ∙ get_or_from_slice_get tb.columns c x no_column e

      held : (b : Bool) (x : Column) → test x.ty ≡ b → column s k.table c ≡ x → (b || rest) ≡ true → (rest ≡ true → goal_rest ≡ true) → (test (column s k.table c).ty || goal_rest) ≡ true
      held true x e same h later = rw (same, e) refl
      held false x e same h later = or_right_true (test (column s k.table c).ty) goal_rest (later h)

      by : (o : Option Column) (n : Option (List ℕ)) → slice_get tb.columns c ≡ o
          → list_any (λ (x : ShownColumn). test x.ty) (cons_option (under_name ms c o n) (shown_columns tb k ms cs)) ≡ true
          → (rest ≡ true → goal_rest ≡ true) → (test (column s k.table c).ty || goal_rest) ≡ true
      by None n e h later = or_right_true (test (column s k.table c).ty) goal_rest (later h)
      by (Some x) None e h later = or_right_true (test (column s k.table c).ty) goal_rest (later h)
      by (Some x) (Some name) e h later = held (test x.ty) x refl (is x e) h later

  module _ (p : Permission) (chosen : Sub p.columns (named_columns k)) (some : has_columns k ≡ true) where
    abbrev t : ShownTable
    t = shown_table k tb p

    has_some : (test : Ty → Bool) → list_any (λ (c : ShownColumn). test c.ty) t.columns ≡ true → some_column test s k ≡ true
    has_some test h = any_sub (λ c. test (column s k.table c).ty) p.columns (named_columns k) chosen (some_shown p.masks test p.columns h)

    pub types_sub : Sub (map (λ (q : Part). t.name ++ part_suffix q) (parts_of t)) (types_of s k)
    types_sub =
        rw some
        (parts_sub k.name t.aggregates (aggregates_over t.columns) (filter (is_aggregated s k) all_aggregates)
        (sub_filters (is_over t.columns) (is_aggregated s k) (λ g h. has_some (is_aggregate_of g) h) all_aggregates))

    -- ---- the root fields

    key_is : (table s k.table).key ≡ tb.key
    key_is = ap (λ u. u.key) (table_present tables m k.table tb here)

    key_named : list_all (λ c. list_any (λ d. d == c) p.columns) tb.key ≡ true → key_is_named s k ≡ true
    key_named h = rw key_is (all_named tb.key h)
      where
        all_named : (cs : List ℕ) → list_all (λ c. list_any (λ d. d == c) p.columns) cs ≡ true → list_all (λ c. list_any (λ d. d == c) (named_columns k)) cs ≡ true
        all_named [] h = refl
        all_named (c ∷ cs) h =
            let parts = and_parts (list_any (λ d. d == c) p.columns) (list_all (λ c. list_any (λ d. d == c) p.columns) cs) h in
            and_from (list_any (λ d. d == c) (named_columns k)) (list_all (λ c. list_any (λ d. d == c) (named_columns k)) cs)
            (any_sub (λ d. d == c) p.columns (named_columns k) chosen parts.0) (all_named cs parts.1)

    abbrev rest_of : ShownTable → List (List ℕ)
    rest_of u = cond u.aggregates (u.roots.select_aggregate ∷ []) [] ++ key_names u.roots u.key

    pub roots_sub : Sub (root_names t) (roots_of s k)
    roots_sub = rw some (inr (rest_of t, refl, by t.aggregates (list_all (λ c. list_any (λ d. d == c) p.columns) tb.key) (key_is_named s k) key_named))
      where
        by : (g b n : Bool) → (b ≡ true → n ≡ true)
            → Sub (cond g (k.roots.select_aggregate ∷ []) [] ++ key_names k.roots (cond b (Some (shown_columns tb k [] tb.key)) None))
            (k.roots.select_aggregate ∷ cond n (k.roots.select_by_pk ∷ []) [])
        by true true n f = rw (f refl) (sub_same (k.roots.select_aggregate ∷ k.roots.select_by_pk ∷ []))
        by false true n f = rw (f refl) (inl (sub_same (k.roots.select_by_pk ∷ [])))
        by true false n f = inr ([], refl, sub_nil (cond n (k.roots.select_by_pk ∷ []) []))
        by false false n f = sub_nil (k.roots.select_aggregate ∷ cond n (k.roots.select_by_pk ∷ []) [])

-- ---- the names of columns

pub columns_named : (tb : Table) (k : TrackedTree) (ms : List Mask) (cs : List ℕ) → Sub (map (λ (c : ShownColumn). c.name) (shown_columns tb k ms cs)) (map (λ c. get_or k.column_names c []) cs)
columns_named tb k ms [] = refl
columns_named tb k ms (c ∷ cs) = by (slice_get tb.columns c) (slice_get k.column_names c) refl (columns_named tb k ms cs)
  where
    by : (o : Option Column) (n : Option (List ℕ)) → slice_get k.column_names c ≡ n
        → Sub (map (λ (x : ShownColumn). x.name) (shown_columns tb k ms cs)) (map (λ d. get_or k.column_names d []) cs)
        → Sub (map (λ (x : ShownColumn). x.name) (cons_option (under_name ms c o n) (shown_columns tb k ms cs)))
        (get_or k.column_names c [] ∷ map (λ d. get_or k.column_names d []) cs)
    by None n e later = inl later
    by (Some x) None e later = inl later
    by (Some x) (Some name) e later =
        let rest = map (λ (x : ShownColumn). x.name) (shown_columns tb k ms cs) in
        inr (rest, ap (λ (z : List ℕ). z ∷ rest) (sym (get_or_from_slice_get k.column_names c name [] e)), later)

pub columns_sub : (tb : Table) (k : TrackedTree) (ms : List Mask) (cs : List ℕ) → Sub cs (named_columns k) → Sub (map (λ (c : ShownColumn). c.name) (shown_columns tb k ms cs)) (column_names_of k)
columns_sub tb k ms cs chosen =
    sub_trans (map (λ (c : ShownColumn). c.name) (shown_columns tb k ms cs)) (map (λ c. get_or k.column_names c []) cs) (column_names_of k)
    (columns_named tb k ms cs) (sub_map (λ c. get_or k.column_names c []) cs (named_columns k) chosen)

-- the fields of columns are named for columns
pub fields_sub : (scalars : List (List ℕ)) (q : Part) (cs : List ShownColumn) → Sub (map (λ (f : FieldTree). f.name) (column_fields scalars q cs)) (map (λ (c : ShownColumn). c.name) cs)
fields_sub scalars q [] = refl
fields_sub scalars q (c ∷ cs) = by (column_type scalars q c) (fields_sub scalars q cs)
  where
    by : (o : Option TypeRefTree)
        → Sub (map (λ (f : FieldTree). f.name) (column_fields scalars q cs)) (map (λ (c : ShownColumn). c.name) cs)
        → Sub
        (map (λ (f : FieldTree). f.name)
        (cons_option (option_map (λ r. plain_field c.name r (field.Column c.col)) o) (column_fields scalars q cs)))
        (c.name ∷ map (λ (c : ShownColumn). c.name) cs)
    by None later = inl later
    by (Some r) later = inr (map (λ (f : FieldTree). f.name) (column_fields scalars q cs), refl, later)

-- the inputs of columns are named for columns
pub inputs_sub : (q : Part) (cs : List ShownColumn) → Sub (map (λ (x : ArgTree). x.name) (filter_map (column_input q) cs)) (map (λ (c : ShownColumn). c.name) cs)
inputs_sub q [] = refl
inputs_sub q (c ∷ cs) = by (is_filter q || is_ordered c.ty) (inputs_sub q cs)
  where
    by : (b : Bool) → Sub (map (λ (x : ArgTree). x.name) (filter_map (column_input q) cs)) (map (λ (c : ShownColumn). c.name) cs)
        → Sub
        (map (λ (x : ArgTree). x.name)
        (cons_option (cond b (Some (arg c.name (fixed (input_type q c.ty)) (arg_origin.Column c.col))) None)
        (filter_map (column_input q) cs)))
        (c.name ∷ map (λ (c : ShownColumn). c.name) cs)
    by false later = inl later
    by true later = inr (map (λ (x : ArgTree). x.name) (filter_map (column_input q) cs), refl, later)

-- ---- the names of relationships

module _ (m : MetaTree) (ps : List PlacedTable) (seen : Each (λ (p : PlacedTable). is_in_schema m p.shown.table ≡ true) ps) where
  remote_seen : (r : Rel) (p : PlacedTable) → find (λ (q : PlacedTable). q.shown.table == r.remote) ps ≡ Some p → is_in_schema m r.remote ≡ true
  remote_seen r p e =
      let both = found_each (λ (p : PlacedTable). is_in_schema m p.shown.table ≡ true) (λ (q : PlacedTable). q.shown.table == r.remote) ps p e seen in
      ap (is_in_schema m) (sym (eqb-true p.shown.table r.remote both.1)) ∙ both.0

  abbrev shown_rels : List Rel → List Rel
  shown_rels rs = filter (λ (r : Rel). is_in_schema m r.remote) rs

  -- what each relationship gives, where those that lead to no shown table give nothing
  rels_sub : (f : Link → List (List ℕ)) (g : Rel → List (List ℕ))
      → ((n : ℕ) (r : Rel) (p : PlacedTable) (l : Link) → link_to n r (Some p) ≡ Some l → Sub (f l) (g r)) → (n : ℕ) (rs : List Rel)
      → Sub (flat_map f (links_from ps n rs)) (flat_map g (shown_rels rs))
  rels_sub f g step n [] = refl
  rels_sub f g step n (r ∷ rs) = by (find (λ (q : PlacedTable). q.shown.table == r.remote) ps) refl (rels_sub f g step (n + 1) rs)
    where
      links : List Link
      links = links_from ps (n + 1) rs

      skip : (b : Bool) → Sub (flat_map f links) (flat_map g (shown_rels rs)) → Sub (flat_map f links) (flat_map g (cond b (r ∷ shown_rels rs) (shown_rels rs)))
      skip true later = sub_skip (g r) (flat_map f links) (flat_map g (shown_rels rs)) later
      skip false later = later

      by : (o : Option PlacedTable) → find (λ (q : PlacedTable). q.shown.table == r.remote) ps ≡ o
          → Sub (flat_map f links) (flat_map g (shown_rels rs))
          → Sub (flat_map f (cons_option (link_to n r o) links))
          (flat_map g (cond (is_in_schema m r.remote) (r ∷ shown_rels rs) (shown_rels rs)))
      by None e later = skip (is_in_schema m r.remote) later
      by (Some p) e later =
          let l : Link = record { name = r.name; rel = n; many = r.many; aggregates = p.shown.aggregates; first = p.first } in
          rw (remote_seen r p e) (sub_append (f l) (g r) (flat_map f links) (flat_map g (shown_rels rs)) (step n r p l refl) later)

  field_names : (n : ℕ) (r : Rel) (p : PlacedTable) (l : Link) → link_to n r (Some p) ≡ Some l → Sub (map (λ (x : FieldTree). x.name) (link_fields l)) (rel_fields r)
  field_names n r p l e =
      let made : Link = record { name = r.name; rel = n; many = r.many; aggregates = p.shown.aggregates; first = p.first } in
      let same : made ≡ l = cc in
      subst (λ (x : Link). Sub (map (λ (x : FieldTree). x.name) (link_fields x)) (rel_fields r)) same (by r.many p.shown.aggregates)
    where
      by : (lots closed : Bool)
          → Sub
          (map (λ (x : FieldTree). x.name)
          (cond lots
          (list_field r.name p.first (field.«List» n)
          ∷ cond closed (aggregate_field (r.name ++ codes "_aggregate") p.first (field.ListAggregate n) ∷ []) [])
          (plain_field r.name (part p.first Rows) (field.Object n) ∷ [])))
          (r.name ∷ cond lots ((r.name ++ codes "_aggregate") ∷ []) [])
      by true true = sub_same (r.name ∷ (r.name ++ codes "_aggregate") ∷ [])
      by true false = inr ([], refl, sub_nil ((r.name ++ codes "_aggregate") ∷ []))
      by false closed = sub_same (r.name ∷ [])

  input_names : (q : Part) (n : ℕ) (r : Rel) (p : PlacedTable) (l : Link) → link_to n r (Some p) ≡ Some l → Sub (map (λ (x : ArgTree). x.name) (cons_option (link_input q l) [])) (r.name ∷ [])
  input_names q n r p l e =
      let made : Link = record { name = r.name; rel = n; many = r.many; aggregates = p.shown.aggregates; first = p.first } in
      let same : made ≡ l = cc in
      subst (λ (x : Link). Sub (map (λ (x : ArgTree). x.name) (cons_option (link_input q x) [])) (r.name ∷ [])) same (by (is_filter q || not r.many))
    where
      by : (b : Bool) → Sub (map (λ (x : ArgTree). x.name) (cons_option (cond b (Some (arg r.name (part p.first q) (arg_origin.Relationship n))) None) [])) (r.name ∷ [])
      by true = sub_same (r.name ∷ [])
      by false = sub_nil (r.name ∷ [])

  map_flat : {A B : Type 0} (h : A → B) (f : Link → List A) (ls : List Link) → map h (flat_map f ls) ≡ flat_map (λ (l : Link). map h (f l)) ls
  map_flat h f [] = refl
  map_flat h f (l ∷ ls) = map-append h (f l) (flat_map f ls) ∙ ap (λ xs. map h (f l) ++ xs) (map_flat h f ls)

  given_flat : (q : Part) (ls : List Link) → filter_map (link_input q) ls ≡ flat_map (λ (l : Link). cons_option (link_input q l) []) ls
  given_flat q [] = refl
  given_flat q (l ∷ ls) = by (link_input q l) (given_flat q ls)
    where
      by : (o : Option ArgTree) → filter_map (link_input q) ls ≡ flat_map (λ (l : Link). cons_option (link_input q l) []) ls
          → cons_option o (filter_map (link_input q) ls) ≡ cons_option o [] ++ flat_map (λ (l : Link). cons_option (link_input q l) []) ls
      by None e = e
      by (Some x) e = ap (λ xs. x ∷ xs) e

  single_flat : (rs : List Rel) → flat_map (λ (r : Rel). r.name ∷ []) rs ≡ map (λ (r : Rel). r.name) rs
  single_flat [] = refl
  single_flat (r ∷ rs) = ap (λ xs. r.name ∷ xs) (single_flat rs)

  pub link_fields_sub : (rs : List Rel) → Sub (map (λ (x : FieldTree). x.name) (flat_map link_fields (links_from ps 0 rs))) (flat_map rel_fields (shown_rels rs))
  link_fields_sub rs =
      rw (map_flat (λ (x : FieldTree). x.name) link_fields (links_from ps 0 rs))
      (rels_sub (λ (l : Link). map (λ (x : FieldTree). x.name) (link_fields l)) rel_fields field_names 0 rs)

  pub link_inputs_sub : (q : Part) (rs : List Rel) → Sub (map (λ (x : ArgTree). x.name) (filter_map (link_input q) (links_from ps 0 rs))) (map (λ (r : Rel). r.name) (shown_rels rs))
  link_inputs_sub q rs =
      let flat = ap (map (λ (x : ArgTree). x.name)) (given_flat q (links_from ps 0 rs)) ∙ map_flat (λ (x : ArgTree). x.name) (λ (l : Link). cons_option (link_input q l) []) (links_from ps 0 rs) in
      let P : List (List ℕ) → Type 0 = λ xs. Sub xs (map (λ (r : Rel). r.name) (shown_rels rs)) in
      let Q : List (List ℕ) → Type 0 = λ ys. Sub (flat_map (λ (l : Link). map (λ (x : ArgTree). x.name) (cons_option (link_input q l) [])) (links_from ps 0 rs)) ys in
      subst P (sym flat)
      (subst Q (single_flat (shown_rels rs))
      (rels_sub (λ (l : Link). map (λ (x : ArgTree). x.name) (cons_option (link_input q l) [])) (λ (r : Rel). r.name ∷ [])
      (input_names q) 0 rs))
