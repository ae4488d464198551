-- The types that are made of tables whose columns and relationships are renumbered, are the renumbered types.
use Rattle.std.proofs.Common.{◌≡◌, ℕ, ◌+◌, List, [], ◌∷◌, ◌++◌, map, filter, length, Bool, true, false, cond, not, ◌||◌, Option, Some, None, refl, sym, ap, ap₂, ◌∙◌}
use Rattle.std.specs.List.{filter_map, cons_option}
use Rattle.std.specs.Prelude.{flat_map, option_map, bytes_eq}
use Rattle.hq_base.specs.Aggregates.{all_aggregates, aggregate_name, given_type}
use Rattle.hq_base.specs.Lists.{firsts}
use Rattle.hq_base.specs.Types.{is_ordered}
use Rattle.hq_base.proofs.Lists.{map_itself}
use Rattle.hq_base.specs.declared.aggregate.Aggregate.{Aggregate as OneAggregate}
use Rattle.hq_base.specs.declared.value.Ty.{Ty}
use Rattle.hq_schema.specs.Fixed.{all_fixed, fixed_name, fixed_kind, fixed_origin}
use Rattle.hq_schema.specs.Parts.{part_origin, part_suffix, part_kind, row_parts, aggregate_parts}
use Rattle.hq_schema.specs.Schema.{ArgTree, FieldTree, TypeRefTree, TypeTree, named}
use Rattle.hq_schema.specs.declared.fixed.Fixed.{Fixed}
use Rattle.hq_schema.specs.declared.fixed.Fixed.TheVariants as fixed
use Rattle.hq_schema.specs.declared.origin.ArgOrigin.TheVariants as of_arg
use Rattle.hq_schema.specs.declared.origin.FieldOrigin.TheVariants as of_field
use Rattle.hq_schema.specs.declared.origin.TypeOrigin.{TypeOrigin}
use Rattle.hq_schema.specs.declared.part.Part.{Part}
use Rattle.hq_schema.specs.declared.part.Part.TheVariants.{Rows, Filter, Sort, Columns, Aggregate, AggregateFields, Aggregated}
use Rattle.hq_schema_of_role.specs.Fields.{list_args, list_field, aggregate_field, column_field, column_fields, link_fields, count_args, count_field, aggregated_fields, over_rows, part_fields}
use Rattle.hq_schema_of_role.specs.FixedTypes.{fixed_values, fixed_type, fixed_types}
use Rattle.hq_schema_of_role.specs.Inputs.{input_type, column_input, is_filter, connectives, link_input, inputs_of, part_inputs, part_values, part_columns}
use Rattle.hq_schema_of_role.specs.Introspection.{introspection_fields}
use Rattle.hq_schema_of_role.specs.Operators.{is_operator_of, operator_arg, operator_inputs}
use Rattle.hq_schema_of_role.specs.Placed.{parts_of, part_count, placed_from}
use Rattle.hq_schema_of_role.specs.References.{fixed as fixed_ref, arg, part, plain_field}
use Rattle.hq_schema_of_role.specs.RoleSchema.{part_type, types_with}
use Rattle.hq_schema_of_role.specs.Root.{key_arg, key_fields, aggregate_root, root_fields, query_fields}
use Rattle.hq_schema_of_role.specs.Scalars.{table_scalars, scalars_of, scalar_type}
use Rattle.hq_schema_of_role.specs.Shown.{aggregates_over, has_aggregate, is_over}
use Rattle.hq_schema_of_role.specs.declared.shown.Link.{Link}
use Rattle.hq_schema_of_role.specs.declared.shown.PlacedTable.{PlacedTable}
use Rattle.hq_schema_of_role.specs.declared.shown.ShownColumn.{ShownColumn}
use Rattle.hq_schema_of_role.specs.declared.shown.ShownTable.{ShownTable}
use Rattle.hq_model.specs.Operators.{all_operators}
use Rattle.hq_model.specs.declared.meta.Rel.{Rel}
use Rattle.hq_model.specs.declared.operator.Operator.{Operator}
use Rattle.hq_laws_renumbered.specs.Resolving.Renumbering.{Renumbering}
use Rattle.hq_laws_renumbered.specs.Schemas.SchemaOver.{arg_over, field_over, type_table, type_origin_over, type_over}

-- ---- lists

map_joined : {A B : Type 0} (f : A → B) (xs ys : List A) → map f (xs ++ ys) ≡ map f xs ++ map f ys
map_joined f [] ys = refl
map_joined f (x ∷ xs) ys = ap (λ l. f x ∷ l) (map_joined f xs ys)

-- what each item is made into, under a function
made_over : {A B C D : Type 0} (f : A → List C) (g : B → List D) (h : A → B) (k : C → D) → ((x : A) → g (h x) ≡ map k (f x)) → (xs : List A) → flat_map g (map h xs) ≡ map k (flat_map f xs)
made_over f g h k e [] = refl
made_over f g h k e (x ∷ xs) = ap₂ (λ a b. a ++ b) (e x) (made_over f g h k e xs) ∙ sym (map_joined k (f x) (flat_map f xs))

given_over : {A B C D : Type 0} (f : A → Option C) (g : B → Option D) (h : A → B) (k : C → D) → ((x : A) → g (h x) ≡ option_map k (f x)) → (xs : List A)
    → filter_map g (map h xs) ≡ map k (filter_map f xs)
given_over f g h k e [] = refl
given_over {A} {B} {C} {D} f g h k e (x ∷ xs) = ap₂ cons_option (e x) (given_over f g h k e xs) ∙ joined (f x)
  where
    joined : (o : Option C) → cons_option (option_map k o) (map k (filter_map f xs)) ≡ map k (cons_option o (filter_map f xs))
    joined None = refl
    joined (Some y) = refl

mapped_over : {A B C D : Type 0} (f : A → C) (g : B → D) (h : A → B) (k : C → D) → ((x : A) → g (h x) ≡ k (f x)) → (xs : List A) → map g (map h xs) ≡ map k (map f xs)
mapped_over f g h k e [] = refl
mapped_over f g h k e (x ∷ xs) = ap₂ (λ a l. a ∷ l) (e x) (mapped_over f g h k e xs)

module _ (n : Renumbering) where
  -- ---- columns and relationships in other numbers

  abbrev pub column_over : ℕ → ShownColumn → ShownColumn
  column_over t c = record { name = c.name; ty = c.ty; scalar = c.scalar; nullable = c.nullable; col = n.column t c.col }

  abbrev pub columns_over : ℕ → List ShownColumn → List ShownColumn
  columns_over t cs = map (column_over t) cs

  abbrev pub link_over : ℕ → Link → Link
  link_over t l = record { name = l.name; rel = n.relationship t l.rel; many = l.many; aggregates = l.aggregates; first = l.first }

  -- ---- fields

  column_field_over : (scalars : List (List ℕ)) (t : ℕ) (p : Part) (c : ShownColumn) → column_field scalars p (column_over t c) ≡ option_map (field_over n t) (column_field scalars p c)
  column_field_over scalars t Rows c = refl
  column_field_over scalars t Filter c = refl
  column_field_over scalars t Sort c = refl
  column_field_over scalars t Columns c = refl
  column_field_over scalars t Aggregate c = refl
  column_field_over scalars t AggregateFields c = refl
  column_field_over scalars t (Aggregated a) c =
      let r : TypeRefTree = fixed_ref (fixed.Scalar (given_type a c.ty)) in
      let go : (b : Bool) → option_map (λ q. plain_field c.name q (of_field.Column (n.column t c.col))) (cond b (Some r) None)
      ≡ option_map (field_over n t) (option_map (λ q. plain_field c.name q (of_field.Column c.col)) (cond b (Some r) None)) =
      elim [ true ↦ refl | false ↦ refl ] in
      go (has_aggregate a c)

  column_fields_over : (scalars : List (List ℕ)) (t : ℕ) (p : Part) (cs : List ShownColumn) → column_fields scalars p (columns_over t cs) ≡ map (field_over n t) (column_fields scalars p cs)
  column_fields_over scalars t p cs = given_over (column_field scalars p) (column_field scalars p) (column_over t) (field_over n t) (column_field_over scalars t p) cs

  link_fields_over : (t : ℕ) (l : Link) → link_fields (link_over t l) ≡ map (field_over n t) (link_fields l)
  unfolding list_args
  link_fields_over t l =
      let go : (many aggregates : Bool) → link_fields (record { name = l.name; rel = n.relationship t l.rel; many = many; aggregates = aggregates; first = l.first })
      ≡ map (field_over n t) (link_fields (record { name = l.name; rel = l.rel; many = many; aggregates = aggregates; first = l.first })) =
      elim [ true ↦ elim [ true ↦ refl | false ↦ refl ] | false ↦ elim [ true ↦ refl | false ↦ refl ] ] in
      go l.many l.aggregates

  aggregated_over : (t place : ℕ) (as' : List OneAggregate) → map (field_over n t) (aggregated_fields place as') ≡ aggregated_fields place as'
  aggregated_over t place [] = refl
  aggregated_over t place (a ∷ as') = ap (λ l. plain_field (aggregate_name a) (named place) (of_field.Aggregated a) ∷ l) (aggregated_over t (place + 1) as')

  -- the same aggregates are over columns of the same types
  over_same : (t : ℕ) (a : OneAggregate) (cs : List ShownColumn) → is_over (columns_over t cs) a ≡ is_over cs a
  over_same t a [] = refl
  over_same t a (c ∷ cs) = ap (λ b. has_aggregate a c || b) (over_same t a cs)

  filter_same : (p q : OneAggregate → Bool) → ((a : OneAggregate) → p a ≡ q a) → (as' : List OneAggregate) → filter p as' ≡ filter q as'
  filter_same p q e [] = refl
  filter_same p q e (a ∷ as') = ap₂ (λ b l. cond b (a ∷ l) l) (e a) (filter_same p q e as')

  pub aggregates_same : (t : ℕ) (cs : List ShownColumn) → aggregates_over (columns_over t cs) ≡ aggregates_over cs
  aggregates_same t cs = filter_same (is_over (columns_over t cs)) (is_over cs) (λ a. over_same t a cs) all_aggregates

  over_rows_over : (t first : ℕ) (cs : List ShownColumn) → over_rows first (columns_over t cs) ≡ map (field_over n t) (over_rows first cs)
  unfolding count_args
  over_rows_over t first cs = ap (λ l. count_field first ∷ l) (ap (aggregated_fields (first + 6)) (aggregates_same t cs) ∙ sym (aggregated_over t (first + 6) (aggregates_over cs)))

  part_fields_over : (scalars : List (List ℕ)) (t first : ℕ) (cs : List ShownColumn) (ls : List Link) (p : Part)
      → part_fields scalars first (columns_over t cs) (map (link_over t) ls) p ≡ map (field_over n t) (part_fields scalars first cs ls p)
  unfolding part_fields
  part_fields_over scalars t first cs ls Rows =
      ap₂ (λ a b. a ++ b) (column_fields_over scalars t Rows cs) (made_over link_fields link_fields (link_over t) (field_over n t) (link_fields_over t) ls)
      ∙ sym (map_joined (field_over n t) (column_fields scalars Rows cs) (flat_map link_fields ls))
  part_fields_over scalars t first cs ls Filter = column_fields_over scalars t Filter cs
  part_fields_over scalars t first cs ls Sort = column_fields_over scalars t Sort cs
  part_fields_over scalars t first cs ls Columns = column_fields_over scalars t Columns cs
  part_fields_over scalars t first cs ls Aggregate = refl
  part_fields_over scalars t first cs ls AggregateFields = over_rows_over t first cs
  part_fields_over scalars t first cs ls (Aggregated a) = column_fields_over scalars t (Aggregated a) cs

  -- ---- inputs

  column_input_over : (t : ℕ) (p : Part) (c : ShownColumn) → column_input p (column_over t c) ≡ option_map (arg_over n t) (column_input p c)
  column_input_over t p c =
      let go : (b : Bool) → cond b (Some (arg c.name (fixed_ref (input_type p c.ty)) (of_arg.Column (n.column t c.col)))) None
      ≡ option_map (arg_over n t) (cond b (Some (arg c.name (fixed_ref (input_type p c.ty)) (of_arg.Column c.col))) None) =
      elim [ true ↦ refl | false ↦ refl ] in
      go (is_filter p || is_ordered c.ty)

  link_input_over : (t : ℕ) (p : Part) (l : Link) → link_input p (link_over t l) ≡ option_map (arg_over n t) (link_input p l)
  link_input_over t p l =
      let go : (b : Bool) → cond b (Some (arg l.name (part l.first p) (of_arg.Relationship (n.relationship t l.rel)))) None
      ≡ option_map (arg_over n t) (cond b (Some (arg l.name (part l.first p) (of_arg.Relationship l.rel))) None) =
      elim [ true ↦ refl | false ↦ refl ] in
      go (is_filter p || not l.many)

  inputs_over : (t : ℕ) (p : Part) (cs : List ShownColumn) (ls : List Link) → inputs_of p (columns_over t cs) (map (link_over t) ls) ≡ map (arg_over n t) (inputs_of p cs ls)
  inputs_over t p cs ls =
      ap₂ (λ a b. a ++ b) (given_over (column_input p) (column_input p) (column_over t) (arg_over n t) (column_input_over t p) cs)
      (given_over (link_input p) (link_input p) (link_over t) (arg_over n t) (link_input_over t p) ls)
      ∙ sym (map_joined (arg_over n t) (filter_map (column_input p) cs) (filter_map (link_input p) ls))

  part_inputs_over : (t first : ℕ) (cs : List ShownColumn) (ls : List Link) (p : Part)
      → part_inputs first (columns_over t cs) (map (link_over t) ls) p ≡ map (arg_over n t) (part_inputs first cs ls p)
  unfolding part_inputs
  part_inputs_over t first cs ls Rows = refl
  part_inputs_over t first cs ls Filter = ap (λ l. connectives first ++ l) (inputs_over t Filter cs ls)
  part_inputs_over t first cs ls Sort = inputs_over t Sort cs ls
  part_inputs_over t first cs ls Columns = refl
  part_inputs_over t first cs ls Aggregate = refl
  part_inputs_over t first cs ls AggregateFields = refl
  part_inputs_over t first cs ls (Aggregated a) = refl

  part_values_over : (t : ℕ) (cs : List ShownColumn) (p : Part) → part_values (columns_over t cs) p ≡ part_values cs p
  part_values_over t cs Columns =
      mapped_over (λ (c : ShownColumn). c.name) (λ (c : ShownColumn). c.name) (column_over t) (λ x. x) (λ c. refl) cs ∙ map_itself (map (λ (c : ShownColumn). c.name) cs)
  part_values_over t cs Rows = refl
  part_values_over t cs Filter = refl
  part_values_over t cs Sort = refl
  part_values_over t cs Aggregate = refl
  part_values_over t cs AggregateFields = refl
  part_values_over t cs (Aggregated a) = refl

  part_columns_over : (t : ℕ) (cs : List ShownColumn) (p : Part) → part_columns (columns_over t cs) p ≡ map (n.column t) (part_columns cs p)
  part_columns_over t cs Columns = mapped_over (λ (c : ShownColumn). c.col) (λ (c : ShownColumn). c.col) (column_over t) (n.column t) (λ c. refl) cs
  part_columns_over t cs Rows = refl
  part_columns_over t cs Filter = refl
  part_columns_over t cs Sort = refl
  part_columns_over t cs Aggregate = refl
  part_columns_over t cs AggregateFields = refl
  part_columns_over t cs (Aggregated a) = refl

  -- ---- types

  table_is : (t : ℕ) (p : Part) → type_table (part_origin p t) ≡ t
  table_is t Rows = refl
  table_is t Filter = refl
  table_is t Sort = refl
  table_is t Columns = refl
  table_is t Aggregate = refl
  table_is t AggregateFields = refl
  table_is t (Aggregated a) = refl

  origin_is : (t : ℕ) (p : Part) → part_origin p (n.table t) ≡ type_origin_over n (part_origin p t)
  origin_is t Rows = refl
  origin_is t Filter = refl
  origin_is t Sort = refl
  origin_is t Columns = refl
  origin_is t Aggregate = refl
  origin_is t AggregateFields = refl
  origin_is t (Aggregated a) = refl

  module _ (rels_over : ℕ → List Rel) where
    -- a table in other numbers
    abbrev pub table_over : ShownTable → ShownTable
    table_over x = record {
      table = n.table x.table;
      name = x.name;
      roots = x.roots;
      columns = columns_over x.table x.columns;
      key = option_map (columns_over x.table) x.key;
      aggregates = x.aggregates;
      rels = rels_over x.table;
    }

    abbrev pub placed_over : PlacedTable → PlacedTable
    placed_over p = record { shown = table_over p.shown; first = p.first }

    parts_same : (x : ShownTable) → parts_of (table_over x) ≡ parts_of x
    parts_same x = ap (λ l. row_parts ++ cond x.aggregates (aggregate_parts ++ map Aggregated l) []) (aggregates_same x.table x.columns)

    part_count_same : (x : ShownTable) → part_count (table_over x) ≡ part_count x
    unfolding part_count
    part_count_same x = ap (λ l. cond x.aggregates (6 + length l) 4) (aggregates_same x.table x.columns)

    pub placed_same : (first : ℕ) (xs : List ShownTable) → placed_from first (map table_over xs) ≡ map placed_over (placed_from first xs)
    placed_same first [] = refl
    placed_same first (x ∷ xs) =
        ap (λ l. record { shown = table_over x; first = first } ∷ l) (ap (λ c. placed_from (first + c) (map table_over xs)) (part_count_same x) ∙ placed_same (first + part_count x) xs)

    -- a type of the table
    part_type_over : (scalars : List (List ℕ)) (p : PlacedTable) (ls : List Link) (q : Part)
        → part_type scalars (placed_over p) (map (link_over p.shown.table) ls) q ≡ type_over n (part_type scalars p ls q)
    unfolding part_type
    part_type_over scalars p ls q =
        let t : ℕ = p.shown.table in
        let cs : List ShownColumn = p.shown.columns in
        let at : t ≡ type_table (part_origin q t) = sym (table_is t q) in
        let made : List FieldTree → List ArgTree → List (List ℕ) → List ℕ → TypeOrigin → TypeTree =
        λ fields inputs values columns origin. record {
          name = p.shown.name
              ++ part_suffix q;
          kind = part_kind q;
          fields = fields;
          inputs = inputs;
          values = values;
          columns = columns;
          origin = origin;
        }
        in
        let fs : List FieldTree = part_fields scalars p.first (columns_over t cs) (map (link_over t) ls) q in
        let is : List ArgTree = part_inputs p.first (columns_over t cs) (map (link_over t) ls) q in
        let vs : List (List ℕ) = part_values (columns_over t cs) q in
        let ds : List ℕ = part_columns (columns_over t cs) q in
        let fields : fs ≡ map (field_over n (type_table (part_origin q t))) (part_fields scalars p.first cs ls q) =
        part_fields_over scalars t p.first cs ls q ∙ ap (λ u. map (field_over n u) (part_fields scalars p.first cs ls q)) at in
        let inputs : is ≡ map (arg_over n (type_table (part_origin q t))) (part_inputs p.first cs ls q) =
        part_inputs_over t p.first cs ls q ∙ ap (λ u. map (arg_over n u) (part_inputs p.first cs ls q)) at in
        let columns : ds ≡ map (n.column (type_table (part_origin q t))) (part_columns cs q) = part_columns_over t cs q ∙ ap (λ u. map (n.column u) (part_columns cs q)) at in
        ap (λ f. made f is vs ds (part_origin q (n.table t))) fields
        ∙ ap (λ i. made (map (field_over n (type_table (part_origin q t))) (part_fields scalars p.first cs ls q)) i vs ds (part_origin q (n.table t))) inputs
        ∙ ap (λ v. made (map (field_over n (type_table (part_origin q t))) (part_fields scalars p.first cs ls q)) (map (arg_over n (type_table (part_origin q t))) (part_inputs p.first cs ls q)) v ds
        (part_origin q (n.table t))) (part_values_over t cs q)
        ∙ ap₂ (made (map (field_over n (type_table (part_origin q t))) (part_fields scalars p.first cs ls q)) (map (arg_over n (type_table (part_origin q t))) (part_inputs p.first cs ls q))
        (part_values cs q)) columns (origin_is t q)

    -- the scalar of an opaque column stands for no table
    pub scalar_types_over : (scalars : List (List ℕ)) → map scalar_type scalars ≡ map (type_over n) (map scalar_type scalars)
    unfolding scalar_type
    scalar_types_over [] = refl
    scalar_types_over (name ∷ names) = ap (λ l. scalar_type name ∷ l) (scalar_types_over names)

    -- tables in other numbers have the same scalars
    own_scalars : (t : ℕ) (cs : List ShownColumn) → filter_map (λ (c : ShownColumn). c.scalar) (columns_over t cs) ≡ filter_map (λ (c : ShownColumn). c.scalar) cs
    own_scalars t [] = refl
    own_scalars t (c ∷ cs) = ap (cons_option c.scalar) (own_scalars t cs)

    all_scalars : (xs : List ShownTable) → flat_map table_scalars (map table_over xs) ≡ flat_map table_scalars xs
    all_scalars [] = refl
    all_scalars (x ∷ xs) = ap₂ (λ a b. a ++ b) (own_scalars x.table x.columns) (all_scalars xs)

    pub scalars_same : (xs : List ShownTable) → scalars_of (map table_over xs) ≡ scalars_of xs
    scalars_same xs = ap (firsts bytes_eq) (all_scalars xs)

    -- all types of the table
    pub types_over : (scalars : List (List ℕ)) (p : PlacedTable) (ls : List Link) → types_with scalars (placed_over p) (map (link_over p.shown.table) ls) ≡ map (type_over n) (types_with scalars p ls)
    types_over scalars p ls =
        ap (map (part_type scalars (placed_over p) (map (link_over p.shown.table) ls))) (parts_same p.shown) ∙ each_type (parts_of p.shown)
      where
        each_type : (qs : List Part) → map (part_type scalars (placed_over p) (map (link_over p.shown.table) ls)) qs ≡ map (type_over n) (map (part_type scalars p ls) qs)
        each_type [] = refl
        each_type (q ∷ qs) = ap₂ (λ a l. a ∷ l) (part_type_over scalars p ls q) (each_type qs)

    -- ---- the root type

    key_args_over : (t : ℕ) (cs : List ShownColumn) → map key_arg (columns_over t cs) ≡ map (arg_over n t) (map key_arg cs)
    key_args_over t cs = mapped_over key_arg key_arg (column_over t) (arg_over n t) (λ c. refl) cs

    key_fields_over : (p : PlacedTable) (o : Option (List ShownColumn)) → key_fields (placed_over p) (option_map (columns_over p.shown.table) o) ≡ map (field_over n 0) (key_fields p o)
    key_fields_over p None = refl
    key_fields_over p (Some cs) =
        ap (λ args. record { name = p.shown.roots.select_by_pk; args = args; ty = part p.first Rows; origin = of_field.RowByKey (n.table p.shown.table) } ∷ []) (key_args_over p.shown.table cs)

    aggregate_root_over : (p : PlacedTable) → aggregate_root (placed_over p) ≡ map (field_over n 0) (aggregate_root p)
    unfolding list_args
    aggregate_root_over p =
        let go : (b : Bool) → cond b (aggregate_field p.shown.roots.select_aggregate p.first (of_field.RowsAggregate (n.table p.shown.table)) ∷ []) []
        ≡ map (field_over n 0) (cond b (aggregate_field p.shown.roots.select_aggregate p.first (of_field.RowsAggregate p.shown.table) ∷ []) []) =
        elim [ true ↦ refl | false ↦ refl ] in
        go p.shown.aggregates

    root_fields_over : (p : PlacedTable) → root_fields (placed_over p) ≡ map (field_over n 0) (root_fields p)
    unfolding list_args
    root_fields_over p =
        ap₂ (λ a b. list_field p.shown.roots.select p.first (of_field.Rows (n.table p.shown.table)) ∷ a ++ b) (aggregate_root_over p) (key_fields_over p p.shown.key)
        ∙ ap (λ l. list_field p.shown.roots.select p.first (of_field.Rows (n.table p.shown.table)) ∷ l) (sym (map_joined (field_over n 0) (aggregate_root p) (key_fields p p.shown.key)))

    query_fields_over : (ps : List PlacedTable) → query_fields (map placed_over ps) ≡ map (field_over n 0) (query_fields ps)
    query_fields_over [] = refl
    query_fields_over (p ∷ ps) = made_over root_fields root_fields placed_over (field_over n 0) root_fields_over (p ∷ ps)

    -- ---- the types that each schema has

    operators_same : (t : Ty) → operator_inputs t ≡ map (arg_over n 0) (operator_inputs t)
    unfolding operator_inputs
    operators_same t = each_operator (filter (is_operator_of t) all_operators)
      where
        each_operator : (os : List Operator) → map (operator_arg t) os ≡ map (arg_over n 0) (map (operator_arg t) os)
        each_operator [] = refl
        each_operator (o ∷ os) = ap (λ l. operator_arg t o ∷ l) (each_operator os)

    fixed_over : (ps : List PlacedTable) (f : Fixed) → fixed_type (map placed_over ps) f ≡ type_over n (fixed_type ps f)
    unfolding fixed_type introspection_fields
    fixed_over ps (fixed.Scalar t) = refl
    fixed_over ps fixed.OrderBy = refl
    fixed_over ps (fixed.Comparison t) =
        ap (λ is. record {
          name = fixed_name (fixed.Comparison t);
          kind = fixed_kind (fixed.Comparison t);
          fields = [];
          inputs = is;
          values = fixed_values
              (fixed.Comparison t);
          columns = [];
          origin = fixed_origin (fixed.Comparison t);
        }) (operators_same t)
    fixed_over ps fixed.Schema = refl
    fixed_over ps fixed.«Type» = refl
    fixed_over ps fixed.Field = refl
    fixed_over ps fixed.InputValue = refl
    fixed_over ps fixed.EnumValue = refl
    fixed_over ps fixed.Directive = refl
    fixed_over ps fixed.TypeKind = refl
    fixed_over ps fixed.DirectiveLocation = refl
    fixed_over ps fixed.QueryRoot =
        ap
        (λ fs. record {
          name = fixed_name fixed.QueryRoot;
          kind = fixed_kind fixed.QueryRoot;
          fields = fs;
          inputs = [];
          values = fixed_values fixed.QueryRoot;
          columns = [];
          origin = fixed_origin fixed.QueryRoot;
        })
        (query_fields_over ps)

    pub fixed_types_over : (ps : List PlacedTable) → fixed_types (map placed_over ps) ≡ map (type_over n) (fixed_types ps)
    fixed_types_over ps = each_fixed all_fixed
      where
        each_fixed : (fs : List Fixed) → map (fixed_type (map placed_over ps)) fs ≡ map (type_over n) (map (fixed_type ps) fs)
        each_fixed [] = refl
        each_fixed (f ∷ fs) = ap₂ (λ a l. a ∷ l) (fixed_over ps f) (each_fixed fs)
