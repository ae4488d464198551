-- What a copy is to hold, before rows are read.
use Rattle.std.specs.Prelude.{◌≡◌, List, None, map, Ok}
use Rattle.hq_copy_definition.specs.Metadata.{copied_meta}
use Rattle.hq_copy_definition.specs.Sources.{sources}
use Rattle.hq_copy_definition.specs.Tables.{copied_tables}
use Rattle.hq_copy.specs.Granted.{granted_due}
use Rattle.hq_copy.specs.Redacting.{described_refusal}
use Rattle.hq_copy.specs.declared.redacting.Plan.{Plan}
use Rattle.hq_model.specs.Meta.{MetaTree, meta_view}
use Rattle.hq_model.specs.PermView.{permission_view}
use Rattle.hq_model.specs.Schema.{Schema}
use Rattle.hq_model.specs.declared.role.Role.{Role}
use Rattle.hq_model.specs.declared.session.Var.{Var}

-- the copied catalog and metadata, and what is granted; nothing that is told without rows refuses it
pub record PlannedFor (role : Role) (m : MetaTree) (s : Schema) (vars : List Var) (plan : Plan) : Type 0 where
  pub tables : plan.tables ≡ copied_tables role m s
  pub meta : meta_view plan.meta ≡ copied_meta role m s
  pub granted : granted_due s vars (sources role m) ≡ Ok (map permission_view plan.grants)
  pub described : described_refusal role m s ≡ None
