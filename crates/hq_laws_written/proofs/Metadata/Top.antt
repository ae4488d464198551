-- The top of a written metadata: one source with the entries of the tables, of version 3.
use Rattle.std.proofs.Common.{◌≡◌, List, [], map, Ok, refl, ap}
use Rattle.hq_model.specs.Meta.{MetaTree}
use Rattle.hq_model.specs.declared.table.Table.{Table}
use Rattle.hq_load_meta_tables.specs.Field.{field_name}
use Rattle.hq_load_meta_tables.specs.Node.{object_at, text_at, list_at, member_at, text_member, list_member, entries_member, named_value}
use Rattle.hq_load_meta_tables.specs.Top.{unwrapped, roles_due, role_entries, kind_due, source_tables, source_entries, table_entries}
use Rattle.hq_load_meta_tables.specs.declared.version.MetaVersion.TheVariants.{Three}
use Rattle.hq_laws_written.specs.Json.ReadBack.{in_name_order}
use Rattle.hq_laws_written.proofs.Json.Building.{elements_read}
use Rattle.hq_laws_written.specs.Metadata.Written.{tracked_json, meta_json}

-- it is read as it stands
pub not_wrapped : (tables : List Table) (m : MetaTree) → unwrapped (in_name_order (meta_json tables m)) ≡ in_name_order (meta_json tables m)
unfolding unwrapped field_name
not_wrapped tables m = refl

-- its entries are those of the tables
pub entries_back : (tables : List Table) (m : MetaTree) → table_entries (in_name_order (meta_json tables m)) ≡ Ok (Three, map (λ k. in_name_order (tracked_json tables k)) m.tracked)
unfolding table_entries object_at source_entries list_member member_at list_at roles_due entries_member named_value source_tables text_member text_at kind_due field_name
entries_back tables m = ap (λ js. Ok (Three, js)) (elements_read (tracked_json tables) m.tracked)

-- and none are those of inherited roles
pub no_roles : (tables : List Table) (m : MetaTree) → role_entries (in_name_order (meta_json tables m)) ≡ []
unfolding role_entries field_name
no_roles tables m = refl
