-- The types that each schema has (GraphQL October 2021, 3.5 and 4.2; Hasura, API reference: GraphQL API).
use Rattle.std.specs.Prelude.{ℕ, ◌+◌, List, [], ◌∷◌, ◌++◌, map, codes}
use Rattle.hq_base.specs.Types.{all_types, type_place, scalar_name, comparison_name}
use Rattle.hq_base.specs.declared.value.Ty.{Ty}
use Rattle.hq_base.specs.declared.value.Ty.TheVariants as ty
use Rattle.hq_schema.specs.declared.fixed.Fixed.{Fixed}
use Rattle.hq_schema.specs.declared.fixed.Fixed.TheVariants.{Scalar, OrderBy, Comparison, Schema, «Type» as TypeType, Field, InputValue, EnumValue, Directive, TypeKind, DirectiveLocation, QueryRoot}
use Rattle.hq_schema.specs.declared.origin.TypeOrigin.{TypeOrigin}
use Rattle.hq_schema.specs.declared.origin.TypeOrigin.TheVariants as origin
use Rattle.hq_schema.specs.declared.schema.Kind.{Kind}
use Rattle.hq_schema.specs.declared.schema.Kind.TheVariants as kind

-- all of them, in the order in which they stand in a schema, before all others
abbrev pub all_fixed : List Fixed
all_fixed =
    map Scalar all_types ++ OrderBy ∷ map Comparison all_types
    ++ Schema ∷ TypeType ∷ Field ∷ InputValue ∷ EnumValue ∷ Directive ∷ TypeKind ∷ DirectiveLocation ∷ QueryRoot ∷ Comparison ty.Opaque ∷ []

-- the scalars that arguments and the types of introspection have
abbrev pub boolean : Fixed
boolean = Scalar ty.Boolean

abbrev pub int : Fixed
int = Scalar ty.Integer

abbrev pub string : Fixed
string = Scalar ty.Text

-- their names
abbrev pub fixed_name : Fixed → List ℕ
fixed_name (Scalar t) = scalar_name t
fixed_name OrderBy = codes "order_by"
fixed_name (Comparison t) = comparison_name t
fixed_name Schema = codes "__Schema"
fixed_name TypeType = codes "__Type"
fixed_name Field = codes "__Field"
fixed_name InputValue = codes "__InputValue"
fixed_name EnumValue = codes "__EnumValue"
fixed_name Directive = codes "__Directive"
fixed_name TypeKind = codes "__TypeKind"
fixed_name DirectiveLocation = codes "__DirectiveLocation"
fixed_name QueryRoot = codes "query_root"

-- the place of the comparisons of a type
abbrev pub comparison_place : Ty → ℕ
comparison_place ty.Opaque = 20
comparison_place t = 6 + type_place t

-- the type whose scalar stands for values of a type: an opaque column has that of texts
abbrev pub scalar_type : Ty → Ty
scalar_type ty.Opaque = ty.Text
scalar_type t = t

-- their places, the same in all schemas
abbrev pub fixed_place : Fixed → ℕ
fixed_place (Scalar t) = type_place t
fixed_place OrderBy = 5
fixed_place (Comparison t) = comparison_place t
fixed_place Schema = 11
fixed_place TypeType = 12
fixed_place Field = 13
fixed_place InputValue = 14
fixed_place EnumValue = 15
fixed_place Directive = 16
fixed_place TypeKind = 17
fixed_place DirectiveLocation = 18
fixed_place QueryRoot = 19

-- what they are
abbrev pub fixed_kind : Fixed → Kind
fixed_kind (Scalar t) = kind.Scalar
fixed_kind OrderBy = kind.Enum
fixed_kind (Comparison t) = kind.Input
fixed_kind TypeKind = kind.Enum
fixed_kind DirectiveLocation = kind.Enum
fixed_kind _ = kind.Object

-- what they stand for
abbrev pub fixed_origin : Fixed → TypeOrigin
fixed_origin (Scalar t) = origin.Scalar (scalar_type t)
fixed_origin OrderBy = origin.Directions
fixed_origin (Comparison t) = origin.Comparison t
fixed_origin QueryRoot = origin.Query
fixed_origin _ = origin.Introspection
