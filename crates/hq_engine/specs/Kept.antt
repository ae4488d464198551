-- The schemas that an engine keeps, and what is found for a role.
use Rattle.std.specs.Prelude.{◌≡◌, List}
use Rattle.hq_schema_of_role.specs.RoleSchema.{role_schema}
use Rattle.hq_schema_roles.specs.Roles.{AreRoleSchemas}
use Rattle.hq_schema.specs.Schema.{schema_view}
use Rattle.hq_schema.specs.declared.schema.Schema.{Schema}
use Rattle.hq_model.specs.Meta.{MetaTree}
use Rattle.hq_model.specs.declared.table.Table.{Table}
use Rattle.hq_engine.specs.declared.schemas.Schemas.{Schemas}
use Rattle.hq_engine.specs.declared.schemas.Schemas.TheVariants.{Each, One}
use Rattle.hq_engine.specs.declared.schemas.FoundSchema.{FoundSchema}
use Rattle.hq_engine.specs.declared.schemas.FoundSchema.TheVariants.{Kept, Made}

-- those that are kept are their roles'
abbrev pub AreOfRoles : List Table → MetaTree → Schemas → Type 0
AreOfRoles tables meta (Each schemas) = AreRoleSchemas tables meta schemas
AreOfRoles tables meta (One role schema) = schema_view schema ≡ role_schema tables meta role

-- the schema that is found
abbrev pub found_schema : FoundSchema → Schema
found_schema (Kept schema) = schema.now
found_schema (Made schema) = schema
