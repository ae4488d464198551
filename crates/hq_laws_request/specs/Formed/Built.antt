-- A built request is a typed request of its session.
use Rattle.std.specs.Prelude.{◌≡◌, ℕ, ◌≤◌, List, true, Ok}
use Rattle.hq_base.specs.Lists.{Each}
use Rattle.hq_model.specs.Catalog.{is_catalog}
use Rattle.hq_model.specs.Fits.{fits}
use Rattle.hq_model.specs.Meta.{MetaTree}
use Rattle.hq_model.specs.Permission.{role_of}
use Rattle.hq_model.specs.Schema.{schema_of}
use Rattle.hq_model.specs.declared.session.Session.{Session}
use Rattle.hq_model.specs.declared.table.Table.{Table}
use Rattle.hq_gql_tree.specs.Documents.{DocumentTree}
use Rattle.hq_gql_tree.specs.Nesting.{document_nest}
use Rattle.hq_request_coerce.specs.Variables.{VarTree}
use Rattle.hq_schema_of_role.specs.RoleSchema.{role_schema}
use Rattle.hq_request_tree.specs.Request.{AskTree}
use Rattle.hq_request_tree.specs.Sessions.{IsFor}
use Rattle.hq_request_tree.specs.WellFormed.{IsRequest}
use Rattle.hq_request_build.specs.Due.{build_due}
use Rattle.hq_laws_request.specs.Formed.ObjectsNest.{objects_nest}

-- well-formed, and of the session
pub record IsBuilt (tables : List Table) (m : MetaTree) (session : Session) (a : AskTree) : Type 0 where
  pub request : IsRequest tables m a
  pub is_for : IsFor (schema_of tables m) m session a

-- no variable's value has more objects in one another than a JSON text may nest
abbrev pub AreShallow : List VarTree → Type 0
AreShallow vars = Each (λ v. objects_nest v.value ≤ 127) vars

-- what is built of a document that nests no deeper than one is read, over a catalog and a metadata that fits it
abbrev pub Builds : List Table → MetaTree → Session → DocumentTree → (op : ℕ) → List VarTree → Type 0
Builds tables m session d op vars =
    is_catalog tables ≡ true → fits tables m ≡ true → document_nest d ≤ 50 → AreShallow vars
    → (a : AskTree) → build_due d op vars (role_schema tables m (role_of session.role)) tables m session ≡ Ok a → IsBuilt tables m session a
