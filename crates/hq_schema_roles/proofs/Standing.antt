-- The types of a table stand at their places in a schema.
use Rattle.std.proofs.Common.{◌≡◌, ◌∙◌, refl, sym, ap, ℕ, suc, ◌+◌, ◌<◌, List, [], ◌∷◌, ◌++◌, length, map, Bool, true, false, cond, Some, append_assoc, length-append, subst, arith}
use Rattle.std.specs.Prelude.{flat_map, option_map, slice_get, nat_lt}
use Rattle.std.proofs.lemmas.Bool.{false≢true}
use Rattle.std.proofs.lemmas.List.{length-map}
use Rattle.std.proofs.lemmas.Option.{slice_get-map, slice_get-get_or}
use Rattle.hq_base.specs.Lists.{Each}
use Rattle.hq_base.specs.declared.aggregate.Aggregate.{Aggregate as OneAggregate}
use Rattle.hq_base.specs.declared.value.Ty.TheVariants as ty
use Rattle.hq_schema.specs.Fixed.{fixed_place, fixed_kind, fixed_origin}
use Rattle.hq_schema.specs.Parts.{row_parts, aggregate_parts, part_offset, part_place, part_kind, part_origin}
use Rattle.hq_schema.specs.Schema.{TypeTree}
use Rattle.hq_schema.specs.declared.fixed.Fixed.{Fixed}
use Rattle.hq_schema.specs.declared.fixed.Fixed.TheVariants.{Scalar, OrderBy, Comparison, Schema, «Type» as TypeType, Field, InputValue, EnumValue, Directive, TypeKind, DirectiveLocation, QueryRoot}
use Rattle.hq_schema.specs.declared.origin.TypeOrigin.{TypeOrigin}
use Rattle.hq_schema.specs.declared.origin.TypeOrigin.TheVariants as type
use Rattle.hq_schema.specs.declared.part.Part.{Part}
use Rattle.hq_schema.specs.declared.part.Part.TheVariants.{Rows, Filter, Sort, Columns, Aggregate, AggregateFields, Aggregated}
use Rattle.hq_schema.specs.declared.schema.Kind.{Kind}
use Rattle.hq_schema.specs.declared.schema.Kind.TheVariants as kind
use Rattle.hq_schema_of_role.specs.FixedTypes.{fixed_type, fixed_types}
use Rattle.hq_schema_of_role.specs.Placed.{parts_of, part_count, placed_from, links_from}
use Rattle.hq_schema_of_role.specs.RoleSchema.{part_type, types_with, table_types}
use Rattle.hq_schema_of_role.specs.Scalars.{fixed_count, scalar_type}
use Rattle.hq_schema_of_role.specs.Shown.{aggregates_over}
use Rattle.hq_schema_of_role.specs.declared.shown.ShownTable.{ShownTable}
use Rattle.hq_schema_of_role.specs.declared.shown.PlacedTable.{PlacedTable}
use Rattle.hq_schema_of_role.specs.declared.shown.Link.{Link}
use Rattle.hq_schema_roles.proofs.Lists.{get_middle, got_within}

-- what stands at a place: what it stands for, and what it is
abbrev pub what : TypeTree → TypeOrigin × Kind
what t = (t.origin, t.kind)

abbrev pub StandsAt : List TypeTree → (place : ℕ) → TypeOrigin → Kind → Type 0
StandsAt types place o k = option_map what (slice_get types place) ≡ Some (o, k)

-- a type of a table whose types begin at a place
abbrev pub PartStands : List TypeTree → (first table : ℕ) → Part → Type 0
PartStands types first t part = StandsAt types (part_place first part) (part_origin part t) (part_kind part)

-- all types that a table has, each at its place
abbrev pub Stands : List TypeTree → PlacedTable → Type 0
Stands types p = (i : ℕ) (part : Part) → slice_get (parts_of p.shown) i ≡ Some part → StandsAt types (p.first + i) (part_origin part p.shown.table) (part_kind part)

-- ---- the types that a table has

count_is : (t : ShownTable) → length (parts_of t) ≡ part_count t
unfolding part_count
count_is t =
    let over = aggregates_over t.columns in
    let by : (b : Bool) → length (row_parts ++ cond b (aggregate_parts ++ map Aggregated over) []) ≡ cond b (6 + length over) 4 =
    elim [ true ↦ omega (arith, length-map over Aggregated) | false ↦ refl ] in
    by t.aggregates

-- each has the first four
pub has_four : (t : ShownTable) (part : Part) → nat_lt (part_offset part) 4 ≡ true → slice_get (parts_of t) (part_offset part) ≡ Some part
has_four t Rows h = refl
has_four t Filter h = refl
has_four t Sort h = refl
has_four t Columns h = refl
has_four t Aggregate h = absurd (false≢true h)
has_four t AggregateFields h = absurd (false≢true h)
has_four t (Aggregated g) h = absurd (false≢true h)

-- one with aggregates has two more
pub has_aggregate_part : (t : ShownTable) → t.aggregates ≡ true → slice_get (parts_of t) 4 ≡ Some Aggregate
has_aggregate_part t allowed = rw allowed refl

pub has_fields_part : (t : ShownTable) → t.aggregates ≡ true → slice_get (parts_of t) 5 ≡ Some AggregateFields
has_fields_part t allowed = rw allowed refl

-- and behind them one for each aggregate that is one of the values of some column
pub has_aggregated : (t : ShownTable) (i : ℕ) (g : OneAggregate) → t.aggregates ≡ true → slice_get (aggregates_over t.columns) i ≡ Some g → slice_get (parts_of t) (6 + i) ≡ Some (Aggregated g)
has_aggregated t i g allowed here =
    let over = aggregates_over t.columns in
    let behind : 6 + i ≡ suc (suc (suc (suc (suc (suc i))))) = omega arith in
    rw (allowed, behind) (slice_get-map Aggregated over i ∙ ap (option_map Aggregated) here)

-- ---- tables one after the other

-- a type among those of its table
in_block : (scalars : List (List ℕ)) (p : PlacedTable) (ls : List Link) (i : ℕ) (part : Part) → slice_get (parts_of p.shown) i ≡ Some part
    → option_map what (slice_get (types_with scalars p ls) i) ≡ Some (part_origin part p.shown.table, part_kind part)
unfolding part_type
in_block scalars p ls i part here =
    ap (option_map what) (slice_get-map (part_type scalars p ls) (parts_of p.shown) i ∙ ap (option_map (part_type scalars p ls)) here)

pub stand_from : (scalars : List (List ℕ)) (ps : List PlacedTable) (front : List TypeTree) (first : ℕ) (ts : List ShownTable)
    → length front ≡ first → Each (Stands (front ++ flat_map (table_types scalars ps) (placed_from first ts))) (placed_from first ts)
stand_from scalars ps front first [] long = tt
stand_from scalars ps front first (t ∷ ts) long =
    let p : PlacedTable = record { shown = t; first = first } in
    let ls = links_from ps 0 t.rels in
    let block = types_with scalars p ls in
    let rest = flat_map (table_types scalars ps) (placed_from (first + part_count t) ts) in
    let size : length block ≡ length (parts_of t) = length-map (parts_of t) (part_type scalars p ls) in
    let here : Stands (front ++ (block ++ rest)) p =
    λ i part e.
    let there : i < length (parts_of t) = got_within (parts_of t) i part e in
    let within : i < length block = rw size there in
    ap (λ n. option_map what (slice_get (front ++ (block ++ rest)) (n + i))) (sym long)
    ∙ (ap (option_map what) (get_middle front block rest i within) ∙ in_block scalars p ls i part e)
    in
    let long_next : length (front ++ block) ≡ first + part_count t =
    length-append front block ∙ (ap (λ n. n + length block) long ∙ ap (λ n. first + n) (size ∙ count_is t)) in
    let later = stand_from scalars ps (front ++ block) (first + part_count t) ts long_next in
    let P : List TypeTree → Type 0 = λ types. Each (Stands types) (placed_from (first + part_count t) ts) in
    (here, subst P (append_assoc front block rest) later)

-- ---- the scalars of opaque columns

-- scalars that stand one behind the other, behind the types that each schema has
abbrev pub ScalarsStand : List TypeTree → (scalars : List (List ℕ)) → Type 0
ScalarsStand types scalars = (i : ℕ) → i < length scalars → StandsAt types (fixed_count + i) (type.Scalar ty.Opaque) kind.Scalar

pub scalars_stand : (scalars : List (List ℕ)) (front rest : List TypeTree) → length front ≡ fixed_count → ScalarsStand ((front ++ map scalar_type scalars) ++ rest) scalars
unfolding scalar_type
scalars_stand scalars front rest long i within =
    let block = map scalar_type scalars in
    let size : length block ≡ length scalars = length-map scalars scalar_type in
    let here : i < length block = rw size within in
    ap (λ (types : List TypeTree). option_map what (slice_get types (fixed_count + i))) (append_assoc front block rest)
    ∙ (ap (λ n. option_map what (slice_get (front ++ (block ++ rest)) (n + i))) (sym long)
    ∙ ap (option_map what) (get_middle front block rest i here ∙ (slice_get-map scalar_type scalars i ∙ ap (option_map scalar_type) (slice_get-get_or scalars i [] within))))

-- ---- the types that each schema has

pub fixed_stands : (ps : List PlacedTable) (rest : List TypeTree) (f : Fixed) → StandsAt (fixed_types ps ++ rest) (fixed_place f) (fixed_origin f) (fixed_kind f)
unfolding fixed_type
fixed_stands ps rest (Scalar ty.Boolean) = refl
fixed_stands ps rest (Scalar ty.Integer) = refl
fixed_stands ps rest (Scalar ty.Text) = refl
fixed_stands ps rest (Scalar ty.Bigint) = refl
fixed_stands ps rest (Scalar ty.Uuid) = refl
fixed_stands ps rest (Scalar ty.Opaque) = refl
fixed_stands ps rest OrderBy = refl
fixed_stands ps rest (Comparison ty.Boolean) = refl
fixed_stands ps rest (Comparison ty.Integer) = refl
fixed_stands ps rest (Comparison ty.Text) = refl
fixed_stands ps rest (Comparison ty.Bigint) = refl
fixed_stands ps rest (Comparison ty.Uuid) = refl
fixed_stands ps rest (Comparison ty.Opaque) = refl
fixed_stands ps rest Schema = refl
fixed_stands ps rest TypeType = refl
fixed_stands ps rest Field = refl
fixed_stands ps rest InputValue = refl
fixed_stands ps rest EnumValue = refl
fixed_stands ps rest Directive = refl
fixed_stands ps rest TypeKind = refl
fixed_stands ps rest DirectiveLocation = refl
fixed_stands ps rest QueryRoot = refl
