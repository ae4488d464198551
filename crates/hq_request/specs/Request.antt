-- What a body makes for a session: a typed request, or why it makes none. Each step takes what those before it gave, and the
-- first that refuses decides. No database is looked at.
use Rattle.std.specs.Prelude.{ℕ, List, Bool, true, false, Option, Some, None, Result, Ok, Err}
use Rattle.hq_request_tree.specs.Request.{AskTree}
use Rattle.hq_base.specs.Due.{◌>>=◌}
use Rattle.hq_faults.specs.declared.faults.RequestFault.{RequestFault}
use Rattle.hq_schema_of_role.specs.RoleSchema.{role_schema}
use Rattle.hq_schema.specs.Schema.{SchemaTree}
use Rattle.hq_model.specs.Meta.{MetaTree}
use Rattle.hq_model.specs.Permission.{role_of}
use Rattle.hq_model.specs.declared.session.Session.{Session}
use Rattle.hq_model.specs.declared.table.Table.{Table}
use Rattle.hq_request.specs.Operation.{operation_ask}
use Rattle.hq_request.specs.Reading.{json_due, query_due, document_due}
use Rattle.hq_request.specs.Validation.{valid_due}
use Rattle.hq_request.specs.declared.refusal.RequestRefusal.{RequestRefusal}
use Rattle.hq_request.specs.declared.refusal.RequestRefusal.TheVariants.{Fault, Memory}

-- of a session whose role has this schema
unfoldable pub request_by : SchemaTree → List Table → MetaTree → Session → (body : List ℕ) → Result AskTree RequestRefusal
request_by schema tables meta session body = do
  json ← json_due body
  text ← query_due json
  document ← document_due text
  valid ← valid_due schema document
  operation_ask schema tables meta session json valid

abbrev pub request_due : List Table → MetaTree → Session → (body : List ℕ) → Result AskTree RequestRefusal
request_due tables meta session body = request_by (role_schema tables meta (role_of session.role)) tables meta session body

-- the fault by which a step refused
abbrev pub fault_in : {X : Type 0} → Result X RequestRefusal → Option RequestFault
fault_in (Ok x) = None
fault_in (Err (Fault f)) = Some f
fault_in (Err Memory) = None

-- a request or a fault: what a reply tells
abbrev pub is_answered : {X : Type 0} → Result X RequestRefusal → Bool
is_answered (Ok x) = true
is_answered (Err (Fault f)) = true
is_answered (Err Memory) = false

-- the first fault of a body, where it has one
abbrev pub first_fault : List Table → MetaTree → Session → (body : List ℕ) → Option RequestFault
first_fault tables meta session body = fault_in (request_due tables meta session body)
