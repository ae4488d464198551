-- What is not refused is a database.
use Rattle.std.proofs.Common.{List, ap, sym, ◌∙◌}
use Rattle.hq_model.specs.Catalog.{is_catalog}
use Rattle.hq_model.specs.Fits.{fits}
use Rattle.hq_model.specs.Meta.{MetaTree}
use Rattle.hq_model.specs.Permission.{role_of}
use Rattle.hq_model.specs.Schema.{schema_of}
use Rattle.hq_model.specs.View.{View, seen_in}
use Rattle.hq_model.specs.declared.session.Session.{Session}
use Rattle.hq_model.specs.declared.table.Table.{Table}
use Rattle.hq_copy_definition.specs.Copied.{Copied, copy_of}
use Rattle.hq_laws_copy.proofs.Views.Refused.{given, causes_absent}
use Rattle.hq_laws_copy.specs.Fits.Laws.{CatalogFits}
use Rattle.hq_laws_copy.proofs.Fits.Catalogs.{catalog_is_one}
use Rattle.hq_laws_copy.proofs.Fits.Metas.{metadata_fits}

pub catalog_fits : (tables : List Table) (m : MetaTree) (session : Session) (v : View) (c : Copied) → CatalogFits tables m session v c
catalog_fits tables m session v c whole fit done =
    let made = given _ (copy_of tables m session v) c done in
    let none = causes_absent (role_of session.role) m (schema_of tables m) session.vars (seen_in v) made.0 in (
      ap (λ k. is_catalog k.tables) (sym made.1) ∙ catalog_is_one tables m (role_of session.role) whole fit session.vars (seen_in v) none,
      ap (λ k. fits k.tables k.meta) (sym made.1) ∙ metadata_fits tables m (role_of session.role) whole fit session.vars (seen_in v) none,
    )
