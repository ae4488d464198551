-- The coerced variables of an operation, or the first fault by the order of their definitions (GraphQL October 2021, 6.1.2).
use Rattle.std.specs.Prelude.{ℕ, List, [], ◌∷◌, Bool, ◌&&◌, if◌then◌else◌, Option, Some, None, option_and_then, unwrap_or, bytes_eq, Result, Ok, Err}
use Rattle.std.specs.Map.{lookup}
use Rattle.std.specs.Option.{option_or}
use Rattle.hq_base.specs.Due.{and_then, mapped}
use Rattle.hq_base.specs.Json.{JsonTree}
use Rattle.hq_base.specs.Look.{object_in}
use Rattle.hq_schema.specs.Schema.{TypeRefTree, SchemaTree}
use Rattle.hq_gql_tree.specs.Documents.{VarDefTree, OperationTree, DocumentTree}
use Rattle.hq_gql_tree.specs.Values.{PlacedTree}
use Rattle.hq_gql_tree.specs.declared.rule.RuleId.TheVariants.{VariableValue}
use Rattle.hq_gql_nodes.specs.Known.{resolved}
use Rattle.hq_request_coerce.specs.declared.refusal.CoerceRefusal.{CoerceRefusal}
use Rattle.hq_request_coerce.specs.declared.refusal.CoerceRefusal.TheVariants as refusal
use Rattle.hq_request_coerce.specs.Choice.{operation_at}
use Rattle.hq_request_coerce.specs.Coercion.{is_non_null, is_null, coerced}
use Rattle.hq_request_coerce.specs.Faults.{fault_of}
use Rattle.hq_request_coerce.specs.Required.{is_required}
use Rattle.hq_request_coerce.specs.Sources.{source_of}
use Rattle.hq_request_coerce.specs.Variables.{VarTree}

-- the refusal of a variable, at its definition
abbrev pub refused : (at : ℕ) → CoerceRefusal
refused at = refusal.Fault (fault_of VariableValue (Some at))

-- the variables of the request, each with its name: the members of an object
abbrev pub given_members : (given : Option JsonTree) → List (List ℕ × JsonTree)
given_members given = unwrap_or (option_and_then object_in given) []

-- what a variable is given: the member of its name among the variables of the request, else its default
abbrev pub default_value : Option PlacedTree → Option JsonTree
default_value default = option_and_then (λ p. source_of [] p.value) default

abbrev pub given_value : (given : List (List ℕ × JsonTree)) → VarDefTree → Option JsonTree
given_value given v = option_or (lookup (λ n. bytes_eq n v.name) given) (default_value v.default)

-- a coerced value; none is no value of the type, and null is none where the variable is required
abbrev pub checked_value : (at : ℕ) → (required : Bool) → Option JsonTree → Result (Option JsonTree) CoerceRefusal
checked_value at required None = Err (refused at)
checked_value at required (Some j) = if required && is_null j then Err (refused at) else Ok (Some j)

-- the value of a variable of a type, which may be left out where the type has null
abbrev pub value_due : SchemaTree → (at : ℕ) → (required : Bool) → TypeRefTree → (given : Option JsonTree) → Result (Option JsonTree) CoerceRefusal
value_due s at required r None = if is_non_null r then Err (refused at) else Ok None
value_due s at required r (Some j) = checked_value at required (coerced s j r)

-- a type that the schema lacks has no values
abbrev pub value_if_known : SchemaTree → (at : ℕ) → (required : Bool) → Option TypeRefTree → (given : Option JsonTree) → Result (Option JsonTree) CoerceRefusal
value_if_known s at required None given = Err (refused at)
value_if_known s at required (Some r) given = value_due s at required r given

abbrev pub variable_due : SchemaTree → (required : List ℕ → Bool) → (given : List (List ℕ × JsonTree)) → VarDefTree → Result (Option JsonTree) CoerceRefusal
variable_due s required given v = value_if_known s v.at (required v.name) (resolved s v.ty) (given_value given v)

-- a variable that has a value, before others
abbrev pub with_value : (name : List ℕ) → Option JsonTree → List VarTree → List VarTree
with_value name None vars = vars
with_value name (Some j) vars = record { name = name; value = j } ∷ vars

abbrev pub values_due : SchemaTree → (required : List ℕ → Bool) → (given : List (List ℕ × JsonTree)) → List VarDefTree → Result (List VarTree) CoerceRefusal
values_due s required given [] = Ok []
values_due s required given (v ∷ vs) =
    and_then (λ o. mapped (with_value v.name o) (values_due s required given vs)) (variable_due s required given v)

-- the definitions of the variables of the operation at a place, none where no operation stands there
abbrev pub variables_of : Option OperationTree → List VarDefTree
variables_of None = []
variables_of (Some o) = o.vars

-- the variables of the operation at a place
abbrev pub variables_due : SchemaTree → DocumentTree → (operation : ℕ) → (given : Option JsonTree) → Result (List VarTree) CoerceRefusal
variables_due s d operation given =
    values_due s (is_required s d operation) (given_members given) (variables_of (operation_at d operation))
