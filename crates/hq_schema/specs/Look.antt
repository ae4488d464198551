-- Look-ups in a schema by name. Names are compared whole; where two are equal, the first counts. The fields `__typename`,
-- `__schema` and `__type` (GraphQL October 2021, 4.1 and 4.2) stand in no type's list of fields, so no look-up in a type finds
-- them: they stand beside the types.
use Rattle.std.specs.Prelude.{ℕ, List, find, position, Option, option_and_then, slice_get, bytes_eq}
use Rattle.hq_schema.specs.Schema.{ArgTree, FieldTree, TypeTree, SchemaTree}

-- the place of the type of this name
abbrev pub type_named : SchemaTree → (name : List ℕ) → Option ℕ
type_named s name = position (λ t. bytes_eq t.name name) s.types

-- the type at a place, none beyond the last
abbrev pub type_at : SchemaTree → ℕ → Option TypeTree
type_at s t = slice_get s.types t

-- the argument of a field, or the input field, of this name
abbrev pub arg_in : List ArgTree → (name : List ℕ) → Option ArgTree
arg_in args name = find (λ a. bytes_eq a.name name) args

-- the field of this name among fields
abbrev pub field_in : List FieldTree → (name : List ℕ) → Option FieldTree
field_in fields name = find (λ f. bytes_eq f.name name) fields

-- the field of this name of the type at a place
abbrev pub field_of : SchemaTree → ℕ → (name : List ℕ) → Option FieldTree
field_of s t name = option_and_then (λ d. field_in d.fields name) (type_at s t)

-- the input field of this name of the type at a place
abbrev pub input_field_of : SchemaTree → ℕ → (name : List ℕ) → Option ArgTree
input_field_of s t name = option_and_then (λ d. arg_in d.inputs name) (type_at s t)

-- the place of the value of this name among those of the type at a place
abbrev pub enum_value_of : SchemaTree → ℕ → (name : List ℕ) → Option ℕ
enum_value_of s t name = option_and_then (λ d. position (λ v. bytes_eq v name) d.values) (type_at s t)

-- the column for which that value stands, if it does for one
abbrev pub enum_column_of : SchemaTree → ℕ → (name : List ℕ) → Option ℕ
enum_column_of s t name = option_and_then (λ d. option_and_then (slice_get d.columns) (position (λ v. bytes_eq v name) d.values)) (type_at s t)
