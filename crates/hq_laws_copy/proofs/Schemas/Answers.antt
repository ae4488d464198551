-- Of a copy that is not refused, the reader's schema is the role's, in its numbers.
use Rattle.std.proofs.Common.{◌≡◌, List, ◌&&◌, None, sym, ap, ◌∙◌}
use Rattle.std.specs.List.{list_any}
use Rattle.hq_schema_of_role.specs.RoleSchema.{role_schema}
use Rattle.hq_model.specs.Meta.{MetaTree}
use Rattle.hq_model.specs.Permission.{role_of}
use Rattle.hq_model.specs.Schema.{schema_of, table}
use Rattle.hq_model.specs.View.{View, seen_in}
use Rattle.hq_model.specs.declared.role.Role.{Role}
use Rattle.hq_model.specs.declared.role.Role.TheVariants.{Named}
use Rattle.hq_model.specs.declared.session.Session.{Session}
use Rattle.hq_model.specs.declared.table.Table.{Table}
use Rattle.hq_copy_definition.specs.Copied.{Copied, copy_of}
use Rattle.hq_copy_definition.specs.Metadata.{reader}
use Rattle.hq_copy_definition.specs.Refusals.{masked_key_refusal}
use Rattle.hq_copy_definition.specs.Sources.{sources, table_place, has_mask}
use Rattle.hq_copy_definition.proofs.Lists.{each_at}
use Rattle.hq_laws_copy.proofs.Views.Refused.{given, causes_absent, not_refused}
use Rattle.hq_laws_copy.specs.Schemas.Laws.{SchemaRenumbered}
use Rattle.hq_laws_copy.proofs.Schemas.Links.{schema_is}

pub schema_renumbered : (tables : List Table) (m : MetaTree) (session : Session) (v : View) (c : Copied) → SchemaRenumbered tables m session v c
schema_renumbered tables m session v c fit done =
    let role : Role = role_of session.role in
    let made = given _ (copy_of tables m session v) c done in
    let none = causes_absent role m (schema_of tables m) session.vars (seen_in v) made.0 in
    ap (λ k. role_schema k.tables k.meta (Named reader)) (sym made.1)
    ∙ schema_is tables m role fit
    (λ o h kept.
    sym (ap (λ b. b && list_any (has_mask o.permission) (table (schema_of tables m) o.entry.table).key) kept)
    ∙ not_refused _ _ (each_at (λ o. masked_key_refusal role m (schema_of tables m) o ≡ None) (sources role m) (table_place (sources role m) o.entry.table) o none.keys h.is.place))
