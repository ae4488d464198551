use Rattle.std.proofs.Common.{◌∙◌, ap, subst}
use Rattle.std.proofs.Math.Logic.{∥∥₁_elim}
use Rattle.hq_schema_of_role.specs.RoleSchema.{role_schema}
use Rattle.hq_schema_roles.proofs.SchemaSets.{schema_set}
use Rattle.hq_schema.specs.Schema.{schema_view}
use Rattle.hq_model.specs.Meta.{meta_view}
use Rattle.hq_engine.specs.Kept.{AreOfRoles}
use Rattle.hq_engine.proofs.schemas.Schemas.find.Goals as goal

pub returns-in-Each : goal.returns-in-Each
returns-in-Each c =
    ∥∥₁_elim c.requires (schema_set _ _) (λ are. ap schema_view c.find.ensures ∙ subst (AreOfRoles c.args.catalog.now.tables (meta_view c.args.meta.now)) c.in-Each.is are c.args.role.now)

pub returns-then-is_same_role : goal.returns-then-is_same_role
returns-then-is_same_role c =
    ∥∥₁_elim c.requires (schema_set _ _) (λ are.
    subst (AreOfRoles c.args.catalog.now.tables (meta_view c.args.meta.now)) c.in-One.is are
    ∙ ap (role_schema c.args.catalog.now.tables (meta_view c.args.meta.now)) (c.is_same_role.ensures c.if-is_same_role.true))
