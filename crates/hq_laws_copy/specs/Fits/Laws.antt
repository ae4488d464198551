-- The catalog of a copy is a catalog, and its metadata fits it.
use Rattle.std.specs.Prelude.{◌≡◌, List, true, Ok}
use Rattle.hq_model.specs.Catalog.{is_catalog}
use Rattle.hq_model.specs.Fits.{fits}
use Rattle.hq_model.specs.Meta.{MetaTree}
use Rattle.hq_model.specs.View.{View}
use Rattle.hq_model.specs.declared.session.Session.{Session}
use Rattle.hq_model.specs.declared.table.Table.{Table}
use Rattle.hq_copy_definition.specs.Copied.{Copied, copied}

-- of whatever view it is made, its catalog is one and its metadata fits it
abbrev pub CatalogFits : List Table → MetaTree → Session → View → Copied → Type 0
CatalogFits tables m session v c = is_catalog tables ≡ true → fits tables m ≡ true → copied tables m session v ≡ Ok c → (is_catalog c.tables ≡ true) × (fits c.tables c.meta ≡ true)
