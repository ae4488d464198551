-- What collected fields ask for under a schema in other numbers is what they ask for under the schema, in those numbers.
use Rattle.std.specs.Prelude.{◌≡◌, ℕ, List}
use Rattle.hq_request_build.specs.Due.{root_due}
use Rattle.hq_base.specs.Due.{mapped}
use Rattle.hq_request_coerce.specs.Variables.{VarTree}
use Rattle.hq_request_collect.specs.Tree.{CollectedTrees}
use Rattle.hq_laws_renumbered.specs.Resolving.Renumbering.{Renumbering, fields_over}
use Rattle.hq_schema_roles.specs.Access.{Access}
use Rattle.hq_schema.specs.Schema.{SchemaTree}
use Rattle.hq_laws_renumbered.specs.Schemas.SchemaOver.{schema_over}
use Rattle.hq_model.specs.Schema.{Schema}
use Rattle.hq_laws_renumbered.specs.Requests.Alike.{TablesAlike}
use Rattle.hq_laws_renumbered.specs.Requests.OfRole.{IsOfRole}

-- the typed root fields, or the first fault, which is then the same at the same place
abbrev pub FieldsRenumbered : (s z : Schema) → Renumbering → Access → SchemaTree → List VarTree → (root there : ℕ) → CollectedTrees → Type 0
FieldsRenumbered s z n a r vars root there fs =
    IsOfRole s a r → TablesAlike s z n a
    → root_due vars (schema_over n r) z there fs ≡ mapped (λ asks. fields_over asks s n root) (root_due vars r s root fs)
