-- Which faults a request has once its document violates no rule and its variables are coerced.
use Rattle.std.specs.Prelude.{◌≡◌, ℕ, List, true, Some, Ok}
use Rattle.hq_base.specs.Json.{JsonTree}
use Rattle.hq_request_coerce.specs.Variables.{VarTree}
use Rattle.hq_faults.specs.Faults.{rule_of}
use Rattle.hq_faults.specs.declared.faults.RequestFault.{RequestFault}
use Rattle.hq_gql_tree.specs.Documents.{DocumentTree}
use Rattle.hq_request.specs.Operation.{operation_due, values_due}
use Rattle.hq_request.specs.Reading.{json_due, query_due, document_due}
use Rattle.hq_request.specs.Request.{first_fault}
use Rattle.hq_request.specs.Validation.{valid_due}
use Rattle.hq_schema_of_role.specs.RoleSchema.{role_schema}
use Rattle.hq_model.specs.Catalog.{is_catalog}
use Rattle.hq_model.specs.Fits.{fits}
use Rattle.hq_model.specs.Meta.{MetaTree}
use Rattle.hq_model.specs.Permission.{role_of}
use Rattle.hq_model.specs.declared.session.Session.{Session}
use Rattle.hq_model.specs.declared.table.Table.{Table}
use Rattle.hq_laws_request.specs.Built.Refusing.{is_of_building}

-- a request is valid for a session: it is read, its document violates no rule for the schema of the role, and the variables of the
-- query that it names are coerced
pub record IsValid (tables : List Table) (meta : MetaTree) (session : Session) (body : List ℕ) : Type 0 where
  pub json : JsonTree
  pub text : List ℕ
  pub document : DocumentTree
  pub operation : ℕ
  pub variables : List VarTree
  pub read : json_due body ≡ Ok json
  pub found : query_due json ≡ Ok text
  pub parsed : document_due text ≡ Ok document
  pub valid : valid_due (role_schema tables meta (role_of session.role)) document ≡ Ok document
  pub chosen : operation_due json document ≡ Ok operation
  pub valued : values_due (role_schema tables meta (role_of session.role)) json document operation ≡ Ok variables

-- the fault of such a request, where it has one, is of building
abbrev pub ValidFaults : List Table → MetaTree → Session → (body : List ℕ) → RequestFault → Type 0
ValidFaults tables meta session body fault =
    is_catalog tables ≡ true → fits tables meta ≡ true → IsValid tables meta session body → first_fault tables meta session body ≡ Some fault → is_of_building (rule_of fault) ≡ true
