-- The kinds of types (GraphQL October 2021, 4.2.2: type kinds). No schema here has an interface or a union.
use Rattle.std.specs.Prelude.{ℕ, List, codes}
use Rattle.hq_schema.specs.declared.schema.Kind.{Kind}
use Rattle.hq_schema.specs.declared.schema.Kind.TheVariants as defined
use Rattle.hq_request_introspect.specs.declared.type_kind.TypeKind.{TypeKind}
use Rattle.hq_request_introspect.specs.declared.type_kind.TypeKind.TheVariants.{Scalar, Object, Enum, InputObject, «List» as ListOf, NonNull}

-- how each is written
unfoldable pub kind_text : TypeKind → List ℕ
kind_text Scalar = codes "SCALAR"
kind_text Object = codes "OBJECT"
kind_text Enum = codes "ENUM"
kind_text InputObject = codes "INPUT_OBJECT"
kind_text ListOf = codes "LIST"
kind_text NonNull = codes "NON_NULL"

-- that of a type of a schema
abbrev pub kind_of : Kind → TypeKind
kind_of defined.Scalar = Scalar
kind_of defined.Object = Object
kind_of defined.Enum = Enum
kind_of defined.Input = InputObject
