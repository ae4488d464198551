-- The coerced arguments of a field, without where they lie in memory.
use Rattle.std.specs.Prelude.{ℕ, List, Bool, Option}
use Rattle.hq_base.specs.declared.value.Val.{Val}
use Rattle.hq_request_tree.specs.Arguments.{arguments_view}
use Rattle.hq_model.specs.Selected.{ListArguments}
use Rattle.hq_request_arguments.specs.declared.field_args.FieldArgs.{FieldArgs}
use Rattle.hq_request_arguments.specs.declared.field_args.FieldArgs.TheVariants as rust

-- those of a list or of the aggregates over one, the values of a key, what is counted, the name of a type, whether deprecated
-- things are included, and none
pub data FieldArguments : Type 0 where
  rows : ListArguments → FieldArguments
  key : List Val → FieldArguments
  count : (column : Option ℕ) → (distinct : Bool) → FieldArguments
  type_name : (name : List ℕ) → FieldArguments
  deprecated : Bool → FieldArguments
  nothing : FieldArguments

-- what they are seen as
abbrev pub field_args_view : FieldArgs → FieldArguments
field_args_view (rust.Rows a) = rows (arguments_view a.value)
field_args_view (rust.Key vs) = key vs
field_args_view (rust.Count c distinct) = count c distinct
field_args_view (rust.TypeName name) = type_name name
field_args_view (rust.Deprecated b) = deprecated b
field_args_view rust.Nothing = nothing
