-- Look-ups in a schema without origins find what they find in the schema, without its origins.
use Rattle.std.proofs.Common.{◌≡◌, ◌∙◌, ℕ, List, map, option_map, option_and_then, position, bytes_eq, refl, ap}
use Rattle.hq_schema.specs.Look.{type_named, type_at, arg_in, field_in, field_of, input_field_of, enum_value_of}
use Rattle.hq_schema.specs.Schema.{ArgTree, FieldTree, TypeTree, SchemaTree}
use Rattle.hq_laws_renumbered.specs.Schemas.Blank.{blank_arg, blank_field, blank_type, blank}
use Rattle.hq_laws_renumbered.proofs.Rules.Lists.{slice_get_map, find_map, position_map, and_map, and_same}

pub blank_named : (s : SchemaTree) (name : List ℕ) → type_named (blank s) name ≡ type_named s name
blank_named s name = position_map (λ (t : TypeTree). bytes_eq t.name name) blank_type s.types

pub blank_at : (s : SchemaTree) (t : ℕ) → type_at (blank s) t ≡ option_map blank_type (type_at s t)
blank_at s t = slice_get_map blank_type s.types t

pub blank_arg_in : (args : List ArgTree) (name : List ℕ) → arg_in (map blank_arg args) name ≡ option_map blank_arg (arg_in args name)
blank_arg_in args name = find_map (λ (a : ArgTree). bytes_eq a.name name) blank_arg args

pub blank_field_in : (fields : List FieldTree) (name : List ℕ) → field_in (map blank_field fields) name ≡ option_map blank_field (field_in fields name)
blank_field_in fields name = find_map (λ (f : FieldTree). bytes_eq f.name name) blank_field fields

pub blank_field_of : (s : SchemaTree) (t : ℕ) (name : List ℕ) → field_of (blank s) t name ≡ option_map blank_field (field_of s t name)
blank_field_of s t name =
    ap (option_and_then (λ (d : TypeTree). field_in d.fields name)) (blank_at s t)
    ∙ and_map blank_type blank_field (λ d. field_in d.fields name) (λ d. field_in d.fields name) (λ d. blank_field_in d.fields name) (type_at s t)

pub blank_input_of : (s : SchemaTree) (t : ℕ) (name : List ℕ) → input_field_of (blank s) t name ≡ option_map blank_arg (input_field_of s t name)
blank_input_of s t name =
    ap (option_and_then (λ (d : TypeTree). arg_in d.inputs name)) (blank_at s t)
    ∙ and_map blank_type blank_arg (λ d. arg_in d.inputs name) (λ d. arg_in d.inputs name) (λ d. blank_arg_in d.inputs name) (type_at s t)

pub blank_enum : (s : SchemaTree) (t : ℕ) (name : List ℕ) → enum_value_of (blank s) t name ≡ enum_value_of s t name
blank_enum s t name =
    ap (option_and_then (λ (d : TypeTree). position (λ v. bytes_eq v name) d.values)) (blank_at s t)
    ∙ and_same blank_type (λ d. position (λ v. bytes_eq v name) d.values) (λ d. position (λ v. bytes_eq v name) d.values) (λ d. refl) (type_at s t)
