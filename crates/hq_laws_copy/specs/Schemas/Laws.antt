-- The schema of a copy's reader is that of the session's role, in the numbers of the copy.
use Rattle.std.specs.Prelude.{◌≡◌, List, true, Ok}
use Rattle.hq_schema_of_role.specs.RoleSchema.{role_schema}
use Rattle.hq_model.specs.Fits.{fits}
use Rattle.hq_model.specs.Meta.{MetaTree}
use Rattle.hq_model.specs.Permission.{role_of}
use Rattle.hq_model.specs.Schema.{schema_of}
use Rattle.hq_model.specs.View.{View}
use Rattle.hq_model.specs.declared.role.Role.TheVariants.{Named}
use Rattle.hq_model.specs.declared.session.Session.{Session}
use Rattle.hq_model.specs.declared.table.Table.{Table}
use Rattle.hq_copy_definition.specs.Copied.{Copied, copied}
use Rattle.hq_copy_definition.specs.Metadata.{reader}
use Rattle.hq_laws_renumbered.specs.Schemas.SchemaOver.{schema_over}
use Rattle.hq_laws_copy.specs.Views.Laws.{numbers}

-- names, kinds, types, arguments and their order are the same; what they stand for is renumbered
abbrev pub SchemaRenumbered : List Table → MetaTree → Session → View → Copied → Type 0
SchemaRenumbered tables m session v c =
    let role = role_of session.role in
    fits tables m ≡ true → copied tables m session v ≡ Ok c
    → role_schema c.tables c.meta (Named reader) ≡ schema_over (numbers role m (schema_of tables m)) (role_schema tables m role)
