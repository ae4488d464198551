-- Which literal stands for a value of which type (GraphQL October 2021, 3.5, 3.9, 3.10, 3.11, 3.12 and 5.6.1).
use Rattle.std.specs.Prelude.{ℕ, Bool, true, false, not, is_some}
use Rattle.std.specs.Option.{option_map_or}
use Rattle.hq_base.specs.Uuids.{spells_uuid}
use Rattle.hq_base.specs.declared.value.Ty.{Ty}
use Rattle.hq_base.specs.declared.value.Ty.TheVariants.{Bigint, Text, Boolean, Uuid}
use Rattle.hq_model.specs.Reading.{whole_number}
use Rattle.hq_schema.specs.declared.origin.TypeOrigin.{TypeOrigin}
use Rattle.hq_schema.specs.declared.origin.TypeOrigin.TheVariants as origin
use Rattle.hq_schema.specs.Look.{type_at, enum_value_of}
use Rattle.hq_schema.specs.Schema.{TypeRefTree, base, SchemaTree}
use Rattle.hq_gql_tree.specs.Values.{ValueTree, int, float, str, bool, null, enum, list, object, variable}
use Rattle.hq_gql_nodes.specs.Known.{element_type, input_at, is_non_null}

-- a scalar takes a whole number that it holds; of 64 bits also a text that spells one; or a text; or a text that is read as a uuid; or a
-- truth value
abbrev pub scalar_takes : Ty → ValueTree → Bool
scalar_takes ty (int text) = is_some (whole_number ty text)
scalar_takes Bigint (str text) = is_some (whole_number Bigint text)
scalar_takes Text (str text) = true
scalar_takes Uuid (str text) = spells_uuid text
scalar_takes Boolean (bool b) = true
scalar_takes ty v = false

-- an enum takes the name of one of its values
abbrev pub enum_takes : SchemaTree → (type : ℕ) → ValueTree → Bool
enum_takes s t (enum name) = is_some (enum_value_of s t name)
enum_takes s t v = false

-- a type of an origin takes a value that is no null, no list and no object
abbrev pub leaf_by : SchemaTree → (type : ℕ) → TypeOrigin → ValueTree → Bool
leaf_by s t (origin.Scalar ty) v = scalar_takes ty v
leaf_by s t o v = enum_takes s t v

abbrev pub leaf_takes : SchemaTree → (type : ℕ) → ValueTree → Bool
leaf_takes s t v = option_map_or (λ d. leaf_by s t d.origin v) (type_at s t) false

-- a place of a type takes a value. A list and an object are looked at as kinds alone; a value that is no list stands for a list of
-- one. A variable is for other rules
abbrev pub takes : SchemaTree → TypeRefTree → ValueTree → Bool
takes s r (int text) = leaf_takes s (base r) (int text)
takes s r (float text) = false
takes s r (str text) = leaf_takes s (base r) (str text)
takes s r (bool b) = leaf_takes s (base r) (bool b)
takes s r null = not (is_non_null r)
takes s r (enum name) = leaf_takes s (base r) (enum name)
takes s r (list vs) = is_some (element_type r)
takes s r (object ms) = is_some (input_at s (base r))
takes s r (variable name) = true
