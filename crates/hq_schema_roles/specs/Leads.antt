-- Where the fields, arguments and inputs of a schema lead: by what a type and a member of it stand for (Hasura, API reference:
-- GraphQL API).
use Rattle.std.specs.Prelude.{◌≡◌, ℕ, List, [], Bool, true, false, not, cond, length, Option, Some, None, option_map, slice_get}
use Rattle.std.specs.Option.{option_map_or}
use Rattle.hq_base.specs.Lists.{Each}
use Rattle.hq_model.specs.declared.meta.Rel.{Rel}
use Rattle.hq_schema.specs.Schema.{TypeRefTree, base, ArgTree, FieldTree, TypeTree}
use Rattle.hq_schema.specs.declared.origin.ArgOrigin.{ArgOrigin}
use Rattle.hq_schema.specs.declared.origin.ArgOrigin.TheVariants as arg
use Rattle.hq_schema.specs.declared.origin.FieldOrigin.{FieldOrigin}
use Rattle.hq_schema.specs.declared.origin.FieldOrigin.TheVariants as field
use Rattle.hq_schema.specs.declared.origin.TypeOrigin.{TypeOrigin}
use Rattle.hq_schema.specs.declared.origin.TypeOrigin.TheVariants as type
use Rattle.hq_schema.specs.declared.schema.Kind.{Kind}
use Rattle.hq_schema.specs.declared.schema.Kind.TheVariants as kind
use Rattle.hq_schema_roles.specs.Access.{Access}

-- where a member of a type leads: nowhere where it is not permitted, to a type that hangs on no table, or to the type that
-- stands for this
pub data Target : Type 0 where
  forbidden : Target
  plain : Target
  to : TypeOrigin → Target

abbrev pub where_holds : Bool → Target → Target
where_holds holds target = cond holds target forbidden

-- behind an object relationship, behind an array one, to the aggregates behind an array one, and behind either
abbrev pub behind_one : Option Rel → (ℕ → TypeOrigin) → Target
behind_one None o = forbidden
behind_one (Some r) o = where_holds (not r.many) (to (o r.remote))

abbrev pub behind_many : Option Rel → (ℕ → TypeOrigin) → Target
behind_many None o = forbidden
behind_many (Some r) o = where_holds r.many (to (o r.remote))

abbrev pub aggregates_behind : Access → Option Rel → Target
aggregates_behind a None = forbidden
aggregates_behind a (Some r) = where_holds r.many (where_holds (a.aggregates r.remote) (to (type.Aggregate r.remote)))

abbrev pub behind : Option Rel → (ℕ → TypeOrigin) → Target
behind None o = forbidden
behind (Some r) o = to (o r.remote)

-- ---- fields

abbrev pub row_target : Access → (table : ℕ) → FieldOrigin → Target
row_target a t (field.Column c) = where_holds (a.column t c) plain
row_target a t (field.Object r) = behind_one (a.rel t r) type.Rows
row_target a t (field.«List» r) = behind_many (a.rel t r) type.Rows
row_target a t (field.ListAggregate r) = aggregates_behind a (a.rel t r)
row_target a t _ = forbidden

abbrev pub root_target : Access → FieldOrigin → Target
root_target a (field.Rows t) = where_holds (a.seen t) (to (type.Rows t))
root_target a (field.RowsAggregate t) = where_holds (a.aggregates t) (to (type.Aggregate t))
root_target a (field.RowByKey t) = where_holds (a.seen t) (to (type.Rows t))
root_target a field.NoQueries = plain
root_target a _ = forbidden

abbrev pub aggregate_target : (table : ℕ) → FieldOrigin → Target
aggregate_target t field.Aggregates = to (type.AggregateFields t)
aggregate_target t field.Nodes = to (type.Rows t)
aggregate_target t _ = forbidden

abbrev pub over_target : (table : ℕ) → FieldOrigin → Target
over_target t field.Count = plain
over_target t (field.Aggregated g) = to (type.Aggregated g t)
over_target t _ = forbidden

abbrev pub column_target : Access → (table : ℕ) → FieldOrigin → Target
column_target a t (field.Column c) = where_holds (a.column t c) plain
column_target a t _ = forbidden

abbrev pub introspection_target : FieldOrigin → Target
introspection_target field.Introspection = plain
introspection_target _ = forbidden

-- the field of a type
abbrev pub field_target : Access → (owner : TypeOrigin) → FieldOrigin → Target
field_target a (type.Rows t) o = row_target a t o
field_target a type.Query o = root_target a o
field_target a (type.Aggregate t) o = aggregate_target t o
field_target a (type.AggregateFields t) o = over_target t o
field_target a (type.Aggregated g t) o = column_target a t o
field_target a type.Introspection o = introspection_target o
field_target a _ o = forbidden

-- ---- arguments

-- of a list of a table's rows
abbrev pub list_target : (table : Option ℕ) → ArgOrigin → Target
list_target (Some t) arg.Where = to (type.Filter t)
list_target (Some t) arg.OrderBy = to (type.Sort t)
list_target (Some t) arg.DistinctOn = to (type.Columns t)
list_target (Some t) arg.Limit = plain
list_target (Some t) arg.Offset = plain
list_target _ _ = forbidden

abbrev pub key_target : Access → (table : ℕ) → ArgOrigin → Target
key_target a t (arg.Column c) = where_holds (a.column t c) plain
key_target a t _ = forbidden

abbrev pub count_target : (table : ℕ) → ArgOrigin → Target
count_target t arg.Columns = to (type.Columns t)
count_target t arg.Distinct = plain
count_target t _ = forbidden

abbrev pub deprecation_target : ArgOrigin → Target
deprecation_target arg.IncludeDeprecated = plain
deprecation_target _ = forbidden

abbrev pub no_target : ArgOrigin → Target
no_target x = forbidden

abbrev pub remote_of : Option Rel → Option ℕ
remote_of o = option_map (λ r. r.remote) o

abbrev pub row_args : Access → (table : ℕ) → FieldOrigin → ArgOrigin → Target
row_args a t (field.«List» r) = list_target (remote_of (a.rel t r))
row_args a t (field.ListAggregate r) = list_target (remote_of (a.rel t r))
row_args a t _ = no_target

abbrev pub root_args : Access → FieldOrigin → ArgOrigin → Target
root_args a (field.Rows t) = list_target (Some t)
root_args a (field.RowsAggregate t) = list_target (Some t)
root_args a (field.RowByKey t) = key_target a t
root_args a _ = no_target

abbrev pub over_args : (table : ℕ) → FieldOrigin → ArgOrigin → Target
over_args t field.Count = count_target t
over_args t _ = no_target

-- the argument of a field of a type
abbrev pub arg_target : Access → (owner : TypeOrigin) → FieldOrigin → ArgOrigin → Target
arg_target a (type.Rows t) o = row_args a t o
arg_target a type.Query o = root_args a o
arg_target a (type.AggregateFields t) o = over_args t o
arg_target a type.Introspection o = deprecation_target
arg_target a _ o = no_target

-- ---- inputs

abbrev pub filter_target : Access → (table : ℕ) → ArgOrigin → Target
filter_target a t arg.And = to (type.Filter t)
filter_target a t arg.Or = to (type.Filter t)
filter_target a t arg.Not = to (type.Filter t)
filter_target a t (arg.Column c) = where_holds (a.column t c) plain
filter_target a t (arg.Relationship r) = behind (a.rel t r) type.Filter
filter_target a t _ = forbidden

abbrev pub sort_target : Access → (table : ℕ) → ArgOrigin → Target
sort_target a t (arg.Column c) = where_holds (a.column t c) (to type.Directions)
sort_target a t (arg.Relationship r) = behind_one (a.rel t r) type.Sort
sort_target a t _ = forbidden

abbrev pub operator_target : ArgOrigin → Target
operator_target (arg.Operator o) = plain
operator_target _ = forbidden

-- the input field of a type
abbrev pub input_target : Access → (owner : TypeOrigin) → ArgOrigin → Target
input_target a (type.Filter t) o = filter_target a t o
input_target a (type.Sort t) o = sort_target a t o
input_target a (type.Comparison s) o = operator_target o
input_target a _ o = forbidden

-- ---- types that fit

-- a reference leads to its target
abbrev pub Reaches : List TypeTree → TypeRefTree → Target → Type 0
Reaches types r forbidden = ⊥
Reaches types r plain = Unit {0}
Reaches types r (to o) = option_map (λ t. t.origin) (slice_get types (base r)) ≡ Some o

-- a reference leads to one of the types, of such a kind
abbrev pub IsOf : (Kind → Bool) → List TypeTree → TypeRefTree → Type 0
IsOf test types r = option_map_or (λ t. test t.kind) (slice_get types (base r)) false ≡ true

-- fields have output types, arguments and input fields have input types (GraphQL October 2021, 3.4.2)
abbrev pub is_output : Kind → Bool
is_output kind.Input = false
is_output _ = true

abbrev pub is_input : Kind → Bool
is_input kind.Object = false
is_input _ = true

pub record ArgFits (types : List TypeTree) (target : ArgOrigin → Target) (x : ArgTree) : Type 0 where
  pub reaches : Reaches types x.ty (target x.origin)
  pub input : IsOf is_input types x.ty

pub record FieldFits (types : List TypeTree) (a : Access) (owner : TypeOrigin) (f : FieldTree) : Type 0 where
  pub reaches : Reaches types f.ty (field_target a owner f.origin)
  pub output : IsOf is_output types f.ty
  pub args : Each (ArgFits types (arg_target a owner f.origin)) f.args

-- the values of an enum of columns stand for permitted columns, one each; other types have no columns
abbrev pub ColumnsFit : Access → (owner : TypeOrigin) → (columns : List ℕ) → (values : List (List ℕ)) → Type 0
ColumnsFit a (type.Columns t) cs vs = Each (λ c. a.column t c ≡ true) cs × (length cs ≡ length vs)
ColumnsFit a _ cs vs = cs ≡ []

pub record TypeFits (types : List TypeTree) (a : Access) (t : TypeTree) : Type 0 where
  pub fields : Each (FieldFits types a t.origin) t.fields
  pub inputs : Each (ArgFits types (input_target a t.origin)) t.inputs
  pub columns : ColumnsFit a t.origin t.columns t.values
