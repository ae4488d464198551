-- What a valid document asks for: the operation that the request names, its variables, and its typed request (GraphQL October
-- 2021, section 6.1: executing requests).
use Rattle.std.specs.Prelude.{ℕ, List, codes, Option, option_and_then, Result}
use Rattle.hq_request_build.specs.Due.{build_due}
use Rattle.hq_request_tree.specs.Request.{AskTree}
use Rattle.hq_base.specs.Due.{◌>>=◌}
use Rattle.hq_base.specs.Json.{JsonTree}
use Rattle.hq_base.specs.Look.{str_in, member_in}
use Rattle.hq_request_coerce.specs.Choice.{chosen}
use Rattle.hq_request_coerce.specs.Due.{variables_due}
use Rattle.hq_request_coerce.specs.Variables.{VarTree}
use Rattle.hq_request_coerce.specs.declared.refusal.CoerceRefusal.{CoerceRefusal}
use Rattle.hq_request_coerce.specs.declared.refusal.CoerceRefusal.TheVariants as coerce
use Rattle.hq_faults.specs.declared.faults.RequestFault.TheVariants.{Rule}
use Rattle.hq_gql_tree.specs.Documents.{DocumentTree}
use Rattle.hq_gql_tree.specs.declared.fault.Fault.{Fault as RuleFault}
use Rattle.hq_schema.specs.Schema.{SchemaTree}
use Rattle.hq_model.specs.Meta.{MetaTree}
use Rattle.hq_model.specs.declared.session.Session.{Session}
use Rattle.hq_model.specs.declared.table.Table.{Table}
use Rattle.hq_request.specs.Reading.{refused_as}
use Rattle.hq_request.specs.declared.refusal.RequestRefusal.{RequestRefusal}
use Rattle.hq_request.specs.declared.refusal.RequestRefusal.TheVariants.{Fault, Memory}

-- the fault of a rule, as a refusal of the request
abbrev pub of_fault : RuleFault → RequestRefusal
of_fault f = Fault (Rule f)

abbrev pub of_coerce : CoerceRefusal → RequestRefusal
of_coerce (coerce.Fault f) = of_fault f
of_coerce coerce.Memory = Memory

-- the name of the operation that a request wants, where it names one
abbrev pub operation_name : JsonTree → Option (List ℕ)
operation_name body = option_and_then str_in (member_in body (codes "operationName"))

-- the query that it wants, by its place in the document
abbrev pub operation_due : (body : JsonTree) → DocumentTree → Result ℕ RequestRefusal
operation_due body document = refused_as of_fault (chosen document (operation_name body))

-- the coerced variables of that query
abbrev pub values_due : SchemaTree → (body : JsonTree) → DocumentTree → (operation : ℕ) → Result (List VarTree) RequestRefusal
values_due schema body document operation = refused_as of_coerce (variables_due schema document operation (member_in body (codes "variables")))

-- its typed request for a session, whose role has this schema
abbrev pub ask_due : SchemaTree → List Table → MetaTree → Session → DocumentTree → (operation : ℕ) → List VarTree → Result AskTree RequestRefusal
ask_due schema tables meta session document operation variables = refused_as of_coerce (build_due document operation variables schema tables meta session)

-- the whole of it
abbrev pub operation_ask : SchemaTree → List Table → MetaTree → Session → (body : JsonTree) → DocumentTree → Result AskTree RequestRefusal
operation_ask schema tables meta session body document = do
  operation ← operation_due body document
  variables ← values_due schema body document operation
  ask_due schema tables meta session document operation variables
