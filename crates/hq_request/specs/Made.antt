-- What a typed request of a body is made of: what each step gave.
use Rattle.std.specs.Prelude.{◌≡◌, ℕ, List, Ok}
use Rattle.hq_request_tree.specs.Request.{AskTree}
use Rattle.hq_base.specs.Json.{JsonTree}
use Rattle.hq_request_coerce.specs.Variables.{VarTree}
use Rattle.hq_gql_tree.specs.Documents.{DocumentTree}
use Rattle.hq_schema.specs.Schema.{SchemaTree}
use Rattle.hq_model.specs.Meta.{MetaTree}
use Rattle.hq_model.specs.declared.session.Session.{Session}
use Rattle.hq_model.specs.declared.table.Table.{Table}
use Rattle.hq_request.specs.Operation.{operation_due, values_due, ask_due}
use Rattle.hq_request.specs.Reading.{json_due, query_due, document_due}
use Rattle.hq_request.specs.Request.{request_by}
use Rattle.hq_request.specs.Validation.{valid_due}

pub record IsMade (schema : SchemaTree) (tables : List Table) (meta : MetaTree) (session : Session) (body : List ℕ) (ask : AskTree) : Type 0 where
  pub json : JsonTree
  pub text : List ℕ
  pub document : DocumentTree
  pub operation : ℕ
  pub variables : List VarTree
  pub read : json_due body ≡ Ok json
  pub found : query_due json ≡ Ok text
  pub parsed : document_due text ≡ Ok document
  pub valid : valid_due schema document ≡ Ok document
  pub chosen : operation_due json document ≡ Ok operation
  pub valued : values_due schema json document operation ≡ Ok variables
  pub built : ask_due schema tables meta session document operation variables ≡ Ok ask

-- each typed request of a body is made so
abbrev pub Makes : SchemaTree → List Table → MetaTree → Session → (body : List ℕ) → AskTree → Type 0
Makes schema tables meta session body ask = request_by schema tables meta session body ≡ Ok ask → IsMade schema tables meta session body ask
