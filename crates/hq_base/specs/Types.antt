-- The table of column types (PostgreSQL, data types: numeric, character, boolean and UUID types; Hasura, GraphQL types of
-- PostgreSQL's).
use Rattle.std.specs.Prelude.{ℕ, List, [], ◌∷◌, ◌++◌, find, Bool, true, false, Option, bytes_eq, codes}
use Rattle.hq_base.specs.declared.value.Ty.{Ty}
use Rattle.hq_base.specs.declared.value.Ty.TheVariants.{Integer, Bigint, Text, Boolean, Uuid, Opaque}

-- all types with a scalar of their own, in ascending order of the bytes of the scalars' names
abbrev pub all_types : List Ty
all_types = Boolean ∷ Integer ∷ Text ∷ Bigint ∷ Uuid ∷ []

-- all types that a column may have: also other types of PostgreSQL, of whose values hq knows the text alone
abbrev pub column_types : List Ty
column_types = all_types ++ Opaque ∷ []

-- the place of the scalar of each among them; that of an opaque column is the scalar of texts
abbrev pub type_place : Ty → ℕ
type_place Boolean = 0
type_place Integer = 1
type_place Text = 2
type_place Bigint = 3
type_place Uuid = 4
type_place Opaque = 2

-- the name of each in a catalog
abbrev pub catalog_name : Ty → List ℕ
catalog_name Integer = codes "integer"
catalog_name Bigint = codes "bigint"
catalog_name Text = codes "text"
catalog_name Boolean = codes "boolean"
catalog_name Uuid = codes "uuid"
catalog_name Opaque = codes "opaque"

-- the type of this name in a catalog, where there is one
abbrev pub type_named : List ℕ → Option Ty
type_named name = find (λ ty. bytes_eq (catalog_name ty) name) column_types

-- the name of its scalar in a GraphQL schema
abbrev pub scalar_name : Ty → List ℕ
scalar_name Integer = codes "Int"
scalar_name Bigint = codes "bigint"
scalar_name Text = codes "String"
scalar_name Boolean = codes "Boolean"
scalar_name Uuid = codes "uuid"
scalar_name Opaque = codes "String"

-- the name of the input of its comparisons
abbrev pub comparison_name : Ty → List ℕ
comparison_name Integer = codes "Int_comparison_exp"
comparison_name Bigint = codes "bigint_comparison_exp"
comparison_name Text = codes "String_comparison_exp"
comparison_name Boolean = codes "Boolean_comparison_exp"
comparison_name Uuid = codes "uuid_comparison_exp"
comparison_name Opaque = codes "opaque_comparison_exp"

-- the types of whole numbers
abbrev pub is_whole : Ty → Bool
is_whole Integer = true
is_whole Bigint = true
is_whole _ = false

-- the type text
abbrev pub is_text : Ty → Bool
is_text Text = true
is_text _ = false

-- the type boolean
abbrev pub is_boolean : Ty → Bool
is_boolean Boolean = true
is_boolean _ = false

-- another type of PostgreSQL
abbrev pub is_opaque : Ty → Bool
is_opaque Opaque = true
is_opaque _ = false

-- the types whose values are compared, sorted, grouped and counted by difference
abbrev pub is_ordered : Ty → Bool
is_ordered Opaque = false
is_ordered _ = true

-- the type uuid
abbrev pub is_uuid : Ty → Bool
is_uuid Uuid = true
is_uuid _ = false

-- two types whose values can be compared: both whole numbers, or both of one other type
abbrev pub comparable : Ty → Ty → Bool
comparable Integer Integer = true
comparable Integer Bigint = true
comparable Bigint Integer = true
comparable Bigint Bigint = true
comparable Text Text = true
comparable Boolean Boolean = true
comparable Uuid Uuid = true
comparable _ _ = false
