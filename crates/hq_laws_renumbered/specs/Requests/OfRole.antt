-- A schema that stands for what may be seen of tables: what each part of it leads to, so that a request that is read of it names
-- permitted columns and relationships alone.
use Rattle.std.specs.Prelude.{◌≡◌, ℕ, List, [], ◌∷◌, Bool, true, false, slice_get, option_map, Some}
use Rattle.std.specs.Option.{option_map_or}
use Rattle.hq_base.specs.Lists.{Each}
use Rattle.hq_schema_of_role.specs.Root.{type_name_field, schema_field, type_field}
use Rattle.hq_schema_roles.specs.Access.{Access}
use Rattle.hq_schema_roles.specs.Leads.{TypeFits}
use Rattle.hq_schema.specs.Schema.{TypeRefTree, base, FieldTree, TypeTree, SchemaTree}
use Rattle.hq_schema.specs.declared.origin.FieldOrigin.{FieldOrigin}
use Rattle.hq_schema.specs.declared.origin.FieldOrigin.TheVariants as field
use Rattle.hq_schema.specs.declared.origin.TypeOrigin.{TypeOrigin}
use Rattle.hq_schema.specs.declared.origin.TypeOrigin.TheVariants as type
use Rattle.hq_model.specs.Schema.{Schema, table}

-- a type of this meaning stands at the place
abbrev pub At : List TypeTree → (place : ℕ) → TypeOrigin → Type 0
At types place o = option_map (λ (t : TypeTree). t.origin) (slice_get types place) ≡ Some o

-- the table of a type is seen
abbrev pub IsOfSeen : Access → TypeOrigin → Type 0
IsOfSeen a (type.Rows t) = a.seen t ≡ true
IsOfSeen a (type.Filter t) = a.seen t ≡ true
IsOfSeen a (type.Sort t) = a.seen t ≡ true
IsOfSeen a (type.Columns t) = a.seen t ≡ true
IsOfSeen a (type.Aggregate t) = a.seen t ≡ true
IsOfSeen a (type.AggregateFields t) = a.seen t ≡ true
IsOfSeen a (type.Aggregated g t) = a.seen t ≡ true
IsOfSeen a _ = Unit {0}

-- all columns of a table's key are permitted
abbrev pub IsKeyed : Schema → Access → (table : ℕ) → Type 0
IsKeyed s a t = Each (λ c. a.column t c ≡ true) (table s t).key

-- a field that looks a row up by the key of a table is there only where all columns of the key are permitted
abbrev pub LooksUp : Schema → Access → FieldOrigin → Type 0
LooksUp s a (field.RowByKey t) = IsKeyed s a t
LooksUp s a _ = Unit {0}

-- a scalar, or a type of introspection
abbrev pub is_plain : TypeOrigin → Bool
is_plain (type.Scalar t) = true
is_plain type.Introspection = true
is_plain _ = false

-- such a type stands at the place to which a reference leads
abbrev pub LeadsToPlain : List TypeTree → TypeRefTree → Type 0
LeadsToPlain types r = option_map_or (λ (d : TypeTree). is_plain d.origin) (slice_get types (base r)) false ≡ true

-- the fields of a type of introspection lead to such types
abbrev pub Introspects : List TypeTree → TypeOrigin → List FieldTree → Type 0
Introspects types type.Introspection fields = Each (λ (f : FieldTree). LeadsToPlain types f.ty) fields
Introspects types _ fields = Unit {0}

-- A schema for what may be seen of the tables s. Each part of it leads to the type of the table that it stands for; the table of each
-- type is seen; a key is looked up by permitted columns; introspection leads to no table's type; the root is that of queries; and
-- the fields that stand in no type's list are those of GraphQL
pub record IsOfRole (s : Schema) (a : Access) (r : SchemaTree) : Type 0 where
  pub fit : Each (TypeFits r.types a) r.types
  pub seen : Each (λ (d : TypeTree). IsOfSeen a d.origin) r.types
  pub keys : Each (λ (d : TypeTree). Each (λ (f : FieldTree). LooksUp s a f.origin) d.fields) r.types
  pub introspects : Each (λ (d : TypeTree). Introspects r.types d.origin d.fields) r.types
  pub root : At r.types r.query type.Query
  pub type_name : r.type_name ≡ type_name_field
  pub introspection : r.introspection ≡ schema_field ∷ type_field ∷ []
  pub type_name_plain : LeadsToPlain r.types type_name_field.ty
  pub schema_plain : LeadsToPlain r.types schema_field.ty
  pub type_plain : LeadsToPlain r.types type_field.ty
