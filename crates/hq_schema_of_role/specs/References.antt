-- References to types, arguments and fields (GraphQL October 2021, 3.4.1, 3.6, 3.11 and 3.12).
use Rattle.std.specs.Prelude.{ℕ, List, [], false}
use Rattle.hq_schema.specs.Fixed.{fixed_place}
use Rattle.hq_schema.specs.Parts.{part_place}
use Rattle.hq_schema.specs.Schema.{TypeRefTree, named, list_of, non_null, ArgTree, FieldTree}
use Rattle.hq_schema.specs.declared.fixed.Fixed.{Fixed}
use Rattle.hq_schema.specs.declared.origin.ArgOrigin.{ArgOrigin}
use Rattle.hq_schema.specs.declared.origin.FieldOrigin.{FieldOrigin}
use Rattle.hq_schema.specs.declared.part.Part.{Part}

-- a type that each schema has
abbrev pub fixed : Fixed → TypeRefTree
fixed f = named (fixed_place f)

-- a type of the table whose types begin at a place
abbrev pub part : (first : ℕ) → Part → TypeRefTree
part first p = named (part_place first p)

-- [R!]
abbrev pub items : TypeRefTree → TypeRefTree
items r = list_of (non_null r)

-- [R!]!
abbrev pub all_items : TypeRefTree → TypeRefTree
all_items r = non_null (items r)

-- an argument or an input field without a default
abbrev pub arg : (name : List ℕ) → TypeRefTree → ArgOrigin → ArgTree
arg name r o = record { name = name; ty = r; default_false = false; origin = o }

-- a field without arguments
abbrev pub plain_field : (name : List ℕ) → TypeRefTree → FieldOrigin → FieldTree
plain_field name r o = record { name = name; args = []; ty = r; origin = o }
