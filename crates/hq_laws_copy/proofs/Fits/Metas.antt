-- The metadata of a copy fits its catalog.
use Rattle.std.proofs.Common.{◌≡◌, ℕ, List, true, None, refl}
use Rattle.std.proofs.lemmas.Bool.{and_from}
use Rattle.hq_model.specs.Catalog.{is_catalog}
use Rattle.hq_model.specs.Fits.{fits}
use Rattle.hq_model.specs.Meta.{MetaTree}
use Rattle.hq_model.specs.Schema.{schema_of}
use Rattle.hq_model.specs.Seen.{Sees}
use Rattle.hq_model.specs.declared.role.Role.{Role}
use Rattle.hq_model.specs.declared.session.Var.{Var}
use Rattle.hq_model.specs.declared.table.Table.{Table}
use Rattle.hq_copy_definition.specs.Metadata.{copied_meta}
use Rattle.hq_copy_definition.specs.Refusals.{own_name_refusal}
use Rattle.hq_copy_definition.specs.Sources.{sources, table_place}
use Rattle.hq_copy_definition.specs.Tables.{copied_tables}
use Rattle.hq_laws_copy.proofs.Views.Refused.{NotRefused}
use Rattle.hq_laws_copy.proofs.Fits.Catalogs.{extra_names_apart}
use Rattle.hq_laws_copy.proofs.Fits.Entries.{entries_fit, tracked_once}
use Rattle.hq_laws_copy.proofs.Fits.Named.{copy_names_differ}
use Rattle.hq_laws_copy.proofs.Fits.Unkept.{unkept_names}
use Rattle.hq_copy_definition.proofs.Lists.{each_at}

pub metadata_fits : (tables : List Table) (m : MetaTree) (role : Role) → is_catalog tables ≡ true → fits tables m ≡ true → (vars : List Var) (S : Sees ℕ)
    → NotRefused role m (schema_of tables m) vars S
    → fits (copied_tables role m (schema_of tables m)) (copied_meta role m (schema_of tables m)) ≡ true
metadata_fits tables m role whole fit vars S none =
    and_from _ _ (and_from _ _ (and_from _ _ (tracked_once tables m role fit) (entries_fit tables m role fit))
    (copy_names_differ tables m role fit
    (λ o h. unkept_names role m (schema_of tables m) o
    (each_at (λ o. own_name_refusal role m (schema_of tables m) o ≡ None) (sources role m) (table_place (sources role m) o.entry.table) o none.names h.is.place))
    (λ o. extra_names_apart tables m role whole fit vars S none o) none.schema)) refl
