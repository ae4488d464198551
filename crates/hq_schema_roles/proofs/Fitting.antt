-- All types of a role's schema fit.
use Rattle.std.proofs.Common.{◌≡◌, ◌∙◌, refl, sym, ap, subst, ℕ, suc, ◌+◌, List, [], ◌∷◌, ◌++◌, length, map, Bool, true, false, cond, ◌==◌, Some, None, append_assoc, length-append, arith}
use Rattle.std.specs.Prelude.{flat_map, slice_get}
use Rattle.std.proofs.lemmas.List.{length-map}
use Rattle.hq_base.specs.Aggregates.{aggregate_name}
use Rattle.hq_base.specs.Lists.{Each, all_differ}
use Rattle.hq_base.specs.declared.aggregate.Aggregate.{Aggregate as OneAggregate}
use Rattle.hq_base.proofs.Lists.{each_all}
use Rattle.hq_model.specs.Meta.{TrackedTree, MetaTree}
use Rattle.hq_model.specs.declared.role.Role.{Role}
use Rattle.hq_model.specs.declared.table.Table.{Table}
use Rattle.hq_schema.specs.Fixed.{all_fixed, fixed_place, fixed_kind, fixed_origin, boolean, int}
use Rattle.hq_schema.specs.Parts.{aggregate_parts}
use Rattle.hq_schema.specs.Schema.{named, non_null, TypeTree}
use Rattle.hq_schema.specs.declared.fixed.Fixed.{Fixed}
use Rattle.hq_schema.specs.declared.origin.FieldOrigin.TheVariants as field
use Rattle.hq_schema.specs.declared.origin.TypeOrigin.{TypeOrigin}
use Rattle.hq_schema.specs.declared.origin.TypeOrigin.TheVariants as type
use Rattle.hq_schema.specs.declared.part.Part.{Part}
use Rattle.hq_schema.specs.declared.part.Part.TheVariants.{Rows, Filter, Sort, Columns, Aggregate, AggregateFields, Aggregated}
use Rattle.hq_schema.specs.declared.schema.Kind.TheVariants as kind
use Rattle.hq_schema_of_role.specs.Fields.{column_field, column_fields, link_fields, count_args, aggregated_fields, part_fields}
use Rattle.hq_schema_of_role.specs.FixedTypes.{fixed_type, fixed_types}
use Rattle.hq_schema_of_role.specs.Inputs.{connectives, inputs_of, part_inputs}
use Rattle.hq_schema_of_role.specs.Placed.{placed, links_from}
use Rattle.hq_schema_of_role.specs.References.{fixed, part, items, all_items, plain_field}
use Rattle.hq_schema_of_role.specs.RoleSchema.{part_type, types_with, table_types, all_types, role_schema}
use Rattle.hq_schema_of_role.specs.Scalars.{fixed_count, scalars_of, behind_scalars, scalar_type}
use Rattle.hq_schema_of_role.specs.Shown.{aggregates_over, shown_tables}
use Rattle.hq_schema_of_role.specs.declared.shown.ShownColumn.{ShownColumn}
use Rattle.hq_schema_of_role.specs.declared.shown.ShownTable.{ShownTable}
use Rattle.hq_schema_of_role.specs.declared.shown.PlacedTable.{PlacedTable}
use Rattle.hq_schema_of_role.specs.declared.shown.Link.{Link}
use Rattle.hq_schema_roles.specs.Access.{Access, access_of}
use Rattle.hq_schema_roles.specs.Leads.{count_target, input_target, is_output, is_input, ArgFits, FieldFits, TypeFits}
use Rattle.hq_schema_roles.proofs.Fields.{reaches_it, is_of, fixed_output, fixed_input, columns_fit, links_fields_fit, filters_fit, sorts_fit, connectives_fit}
use Rattle.hq_schema_roles.proofs.FixedFit.{fixed_fits}
use Rattle.hq_schema_roles.proofs.Links.{Sound, each_sound, LinkFits, links_fit}
use Rattle.hq_schema_roles.proofs.Lists.{each_append, each_map, each_flat_map, each_filter_map}
use Rattle.hq_schema_roles.proofs.Permits.{Permits, tables_permit, placed_permit}
use Rattle.hq_schema_roles.proofs.Standing.{StandsAt, PartStands, ScalarsStand, has_four, has_fields_part, has_aggregated, stand_from, scalars_stand, fixed_stands}

module _ (types : List TypeTree) (a : Access) (fixed_ones : (f : Fixed) → StandsAt types (fixed_place f) (fixed_origin f) (fixed_kind f))
    (scalars : List (List ℕ)) (scalar_ones : ScalarsStand types scalars) (p : PlacedTable) (s : Sound types a p) (ls : List Link)
    (linked : Each (LinkFits types a p.shown.table) ls) where
  -- a part in which no column has a field
  no_columns : (owner : TypeOrigin) (q : Part) → ((c : ShownColumn) → column_field scalars q c ≡ None) → Each (FieldFits types a owner) (column_fields scalars q p.shown.columns)
  no_columns owner q none =
      each_filter_map (FieldFits types a owner) (λ (c : ShownColumn). a.column p.shown.table c.col ≡ true) (column_field scalars q) (λ c g. rw (none c) tt) p.shown.columns s.permits.columns

  row_part : TypeFits types a (part_type scalars p ls Rows)
  unfolding part_type part_fields part_inputs
  row_part = record {
    fields =
        each_append (FieldFits types a (type.Rows p.shown.table)) (column_fields scalars Rows p.shown.columns) (flat_map link_fields ls)
        (columns_fit types a fixed_ones scalars scalar_ones (type.Rows p.shown.table) p.shown.table Rows (λ c. refl) p.shown.columns s.permits.columns)
        (links_fields_fit types a fixed_ones p.shown.table ls linked);
    inputs = tt;
    columns = refl;
  }

  filter_part : TypeFits types a (part_type scalars p ls Filter)
  unfolding part_type part_fields part_inputs
  filter_part = record {
    fields = no_columns (type.Filter p.shown.table) Filter (λ c. refl);
    inputs =
        each_append (ArgFits types (input_target a (type.Filter p.shown.table))) (connectives p.first) (inputs_of Filter p.shown.columns ls)
        (connectives_fit types a fixed_ones p.shown.table p.first (s.stands 1 Filter (has_four p.shown Filter refl)))
        (filters_fit types a fixed_ones p.shown.table p.shown.columns ls s.permits.columns linked);
    columns = refl;
  }

  sort_part : TypeFits types a (part_type scalars p ls Sort)
  unfolding part_type part_fields part_inputs
  sort_part = record {
    fields = no_columns (type.Sort p.shown.table) Sort (λ c. refl);
    inputs = sorts_fit types a fixed_ones p.shown.table p.shown.columns ls s.permits.columns linked;
    columns = refl;
  }

  columns_part : TypeFits types a (part_type scalars p ls Columns)
  unfolding part_type part_fields part_inputs
  columns_part = record {
    fields = no_columns (type.Columns p.shown.table) Columns (λ c. refl);
    inputs = tt;
    columns = (
      each_map (λ (c : ℕ). a.column p.shown.table c ≡ true) (λ (c : ShownColumn). a.column p.shown.table c.col ≡ true) (λ (c : ShownColumn). c.col) (λ c h. h) p.shown.columns s.permits.columns,
      length-map p.shown.columns (λ (c : ShownColumn). c.col) ∙ sym (length-map p.shown.columns (λ (c : ShownColumn). c.name)),
    );
  }

  aggregate_part : p.shown.aggregates ≡ true → TypeFits types a (part_type scalars p ls Aggregate)
  unfolding part_type part_fields part_inputs
  aggregate_part allowed =
      let owner = type.Aggregate p.shown.table in
      let over : PartStands types p.first p.shown.table AggregateFields = s.stands 5 AggregateFields (has_fields_part p.shown allowed) in
      let rows : PartStands types p.first p.shown.table Rows = s.stands 0 Rows (has_four p.shown Rows refl) in
      record {
        fields = (
          record {
            reaches = reaches_it types (part p.first AggregateFields) (type.AggregateFields p.shown.table) kind.Object over;
            output = is_of types is_output (part p.first AggregateFields) (type.AggregateFields p.shown.table) kind.Object over refl;
            args = tt;
          },
          (
            record {
              reaches = reaches_it types (all_items (part p.first Rows)) (type.Rows p.shown.table) kind.Object rows;
              output = is_of types is_output (all_items (part p.first Rows)) (type.Rows p.shown.table) kind.Object rows refl;
              args = tt;
            },
            tt,
          ),
        );
        inputs = tt;
        columns = refl;
      }

  count_fits : Each (ArgFits types (count_target p.shown.table)) (count_args p.first)
  unfolding count_args
  count_fits =
      let columns : PartStands types p.first p.shown.table Columns = s.stands 3 Columns (has_four p.shown Columns refl) in (
        record {
          reaches = reaches_it types (items (part p.first Columns)) (type.Columns p.shown.table) kind.Enum columns;
          input = is_of types is_input (items (part p.first Columns)) (type.Columns p.shown.table) kind.Enum columns refl;
        },
        (record { reaches = tt; input = fixed_input types a fixed_ones (fixed boolean) boolean refl refl }, tt),
      )

  -- what an aggregate gives leads to its type
  aggregated_fits : (place : ℕ) (g : OneAggregate) → StandsAt types place (type.Aggregated g p.shown.table) kind.Object
      → FieldFits types a (type.AggregateFields p.shown.table) (plain_field (aggregate_name g) (named place) (field.Aggregated g))
  aggregated_fits place g stands = record {
    reaches = reaches_it types (named place) (type.Aggregated g p.shown.table) kind.Object stands;
    output = is_of types is_output (named place) (type.Aggregated g p.shown.table) kind.Object stands refl;
    args = tt;
  }

  -- and so does each, where their types stand one behind the other
  all_aggregated_fit : (place : ℕ) (gs : List OneAggregate)
      → ((i : ℕ) (g : OneAggregate) → slice_get gs i ≡ Some g → StandsAt types (place + i) (type.Aggregated g p.shown.table) kind.Object)
      → Each (FieldFits types a (type.AggregateFields p.shown.table)) (aggregated_fields place gs)
  all_aggregated_fit place [] stand = tt
  all_aggregated_fit place (g ∷ gs) stand =
      let here : place + 0 ≡ place = omega arith in
      let first : StandsAt types place (type.Aggregated g p.shown.table) kind.Object =
      subst (λ (n : ℕ). StandsAt types n (type.Aggregated g p.shown.table) kind.Object) here (stand 0 g refl)
      in
      let later : (i : ℕ) (x : OneAggregate) → slice_get gs i ≡ Some x → StandsAt types (place + 1 + i) (type.Aggregated x p.shown.table) kind.Object =
      λ i x e. subst (λ (n : ℕ). StandsAt types n (type.Aggregated x p.shown.table) kind.Object) (behind place i) (stand (suc i) x e)
      in
      (aggregated_fits place g first, all_aggregated_fit (place + 1) gs later)
    where
      behind : (n i : ℕ) → n + suc i ≡ n + 1 + i
      behind n i = omega arith

  over_part : p.shown.aggregates ≡ true → TypeFits types a (part_type scalars p ls AggregateFields)
  unfolding part_type part_fields part_inputs
  over_part allowed =
      let stand : (i : ℕ) (g : OneAggregate) → slice_get (aggregates_over p.shown.columns) i ≡ Some g → StandsAt types (p.first + 6 + i) (type.Aggregated g p.shown.table) kind.Object =
      λ i g e. subst (λ (n : ℕ). StandsAt types n (type.Aggregated g p.shown.table) kind.Object) (behind p.first i) (s.stands (6 + i) (Aggregated g) (has_aggregated p.shown i g allowed e))
      in
      record {
        fields = (
          record { reaches = tt; output = fixed_output types a fixed_ones (non_null (fixed int)) int refl refl; args = count_fits },
          all_aggregated_fit (p.first + 6) (aggregates_over p.shown.columns) stand,
        );
        inputs = tt;
        columns = refl;
      }
    where
      behind : (n i : ℕ) → n + (6 + i) ≡ n + 6 + i
      behind n i = omega arith

  aggregated_part : (g : OneAggregate) → TypeFits types a (part_type scalars p ls (Aggregated g))
  unfolding part_type part_fields part_inputs
  aggregated_part g = record {
    fields = columns_fit types a fixed_ones scalars scalar_ones (type.Aggregated g p.shown.table) p.shown.table (Aggregated g) (λ c. refl) p.shown.columns s.permits.columns;
    inputs = tt;
    columns = refl;
  }

  aggregated_parts : (gs : List OneAggregate) → Each (TypeFits types a) (map (part_type scalars p ls) (map Aggregated gs))
  aggregated_parts [] = tt
  aggregated_parts (g ∷ gs) = (aggregated_part g, aggregated_parts gs)

  types_fit : Each (TypeFits types a) (types_with scalars p ls)
  types_fit = (row_part, (filter_part, (sort_part, (columns_part, by p.shown.aggregates refl))))
    where
      by : (b : Bool) → p.shown.aggregates ≡ b → Each (TypeFits types a) (map (part_type scalars p ls) (cond b (aggregate_parts ++ map Aggregated (aggregates_over p.shown.columns)) []))
      by true allowed = (aggregate_part allowed, (over_part allowed, aggregated_parts (aggregates_over p.shown.columns)))
      by false closed = tt

table_fits : (types : List TypeTree) (a : Access) → ((f : Fixed) → StandsAt types (fixed_place f) (fixed_origin f) (fixed_kind f))
    → (scalars : List (List ℕ)) → ScalarsStand types scalars → (ps : List PlacedTable) → Each (Sound types a) ps → (p : PlacedTable)
    → Sound types a p → Each (TypeFits types a) (table_types scalars ps p)
table_fits types a fixed_ones scalars scalar_ones ps sound p s =
    types_fit types a fixed_ones scalars scalar_ones p s (links_from ps 0 p.shown.rels) (links_fit types a ps sound p.shown.table p.shown.rels s.permits.rels)

scalar_fits : (types : List TypeTree) (a : Access) (name : List ℕ) → TypeFits types a (scalar_type name)
unfolding scalar_type
scalar_fits types a name = record { fields = tt; inputs = tt; columns = refl }

-- all types of the schema over tables that are permitted
over_fits : (a : Access) (ts : List ShownTable) → Each (Permits a) ts → Each (TypeFits (all_types (scalars_of ts) (placed ts)) a) (all_types (scalars_of ts) (placed ts))
over_fits a ts permits =
    let scalars = scalars_of ts in
    let ps = placed ts in
    let own = map scalar_type scalars in
    let front = fixed_types ps ++ own in
    let rest = flat_map (table_types scalars ps) ps in
    let types = all_types scalars ps in
    let long : length front ≡ behind_scalars scalars = length-append (fixed_types ps) own ∙ ap (λ n. fixed_count + n) (length-map scalars scalar_type) in
    let sound : Each (Sound types a) ps = each_sound types a ps (stand_from scalars ps front (behind_scalars scalars) ts long) (placed_permit a (behind_scalars scalars) ts permits) in
    let fixed_ones : (f : Fixed) → StandsAt types (fixed_place f) (fixed_origin f) (fixed_kind f) =
    λ f. subst (λ (us : List TypeTree). StandsAt us (fixed_place f) (fixed_origin f) (fixed_kind f)) (sym (append_assoc (fixed_types ps) own rest)) (fixed_stands ps (own ++ rest) f)
    in
    let scalar_ones : ScalarsStand types scalars = scalars_stand scalars (fixed_types ps) rest refl in
    each_append (TypeFits types a) front rest
    (each_append (TypeFits types a) (fixed_types ps) own
    (each_map (TypeFits types a) (λ (f : Fixed). Unit {0}) (fixed_type ps) (λ f g. fixed_fits types a fixed_ones ps sound f) all_fixed (each_all (λ (f : Fixed). Unit {0}) (λ f. tt) all_fixed))
    (each_map (TypeFits types a) (λ (n : List ℕ). Unit {0}) scalar_type (λ n u. scalar_fits types a n) scalars (each_all (λ (n : List ℕ). Unit {0}) (λ n. tt) scalars)))
    (each_flat_map (TypeFits types a) (Sound types a) (table_types scalars ps) (table_fits types a fixed_ones scalars scalar_ones ps sound) ps sound)

pub schema_fits : (tables : List Table) (m : MetaTree) (role : Role)
    → all_differ (λ (j k : TrackedTree). j.table == k.table) m.tracked ≡ true
    → Each (TypeFits (role_schema tables m role).types (access_of m role)) (role_schema tables m role).types
unfolding role_schema
schema_fits tables m role differ = over_fits (access_of m role) (shown_tables tables m role) (tables_permit tables m role differ)
