-- The permissions of the tracked tables are read.
use Rattle.std.proofs.Common.{◌≡◌, ◌∙◌, ℕ, List, [], ◌∷◌, map, zip, Bool, true, false, Option, Some, None, Ok, bytes_eq, refl, sym, ap}
use Rattle.std.specs.List.{list_any}
use Rattle.hq_base.specs.Due.{and_then, mapped}
use Rattle.hq_base.specs.Json.{JsonTree}
use Rattle.hq_base.specs.Lists.{Each, all_differ}
use Rattle.hq_model.specs.Bexp.{always, conjunction}
use Rattle.hq_model.specs.Fits.{limit_fits}
use Rattle.hq_model.specs.Meta.{PermTree, TrackedTree, MetaTree}
use Rattle.hq_model.specs.declared.table.Column.{Column}
use Rattle.hq_model.specs.declared.table.Table.{Table}
use Rattle.hq_load_meta_tables.specs.Each.{each, each_after}
use Rattle.hq_load_meta_tables.specs.Field.{field_name}
use Rattle.hq_load_meta_tables.specs.Found.{columns_of}
use Rattle.hq_load_meta_tables.specs.Node.{at, object_at, text_at, list_at, member_at, text_member, object_member, entries_member}
use Rattle.hq_load_meta_tables.specs.Tracked.{tables_of}
use Rattle.hq_load_meta_tables.specs.declared.field.Field.TheVariants as field
use Rattle.hq_load_meta.specs.Permitted.{role_due, chosen, columns_at, permission_at, perm_at, perms_at, perms_beside, with_perms, permitted}
use Rattle.hq_laws_written.specs.Json.ReadBack.{in_name_order}
use Rattle.hq_laws_written.proofs.Json.Building.{elements_read}
use Rattle.hq_laws_written.specs.Json.Building.{texts}
use Rattle.hq_laws_written.specs.Catalog.Written.{name_at}
use Rattle.hq_laws_written.proofs.Catalog.Places.{IsPlace, differ}
use Rattle.hq_laws_written.proofs.Catalog.Shapes.{itself}
use Rattle.hq_laws_written.specs.Metadata.Plain.{IsPlainPerm}
use Rattle.hq_laws_written.specs.Metadata.Written.{permission_json, perm_json, tracked_json}
use Rattle.hq_laws_written.proofs.Metadata.Fitting.{IsPerm}
use Rattle.hq_laws_written.proofs.Metadata.Lists.{after_back, after_both, after_each, differ_after, each_back, each_both, zip_maps}
use Rattle.hq_laws_written.proofs.Metadata.Parts.{columns_back}
use Rattle.hq_laws_written.proofs.Metadata.Related.{without_perms}

-- the columns of a permission
shown_back : (columns : List Column) (path : List ℕ) (cols : List ℕ) → differ columns ≡ true → Each (IsPlace columns) cols → chosen cols columns ≡ cols
    → columns_at columns path (in_name_order (texts (map (name_at columns) cols))) ≡ Ok cols
shown_back columns path cols h there ordered = ap (mapped (λ listed. chosen listed columns)) (columns_back columns path cols h there) ∙ ap Ok ordered

-- what a role may see
permission_back : (tables : List Table) (m : MetaTree) (t : ℕ) (role path : List ℕ) (cols : List ℕ) (limit : Option ℕ) (aggregations : Bool)
    → differ (columns_of tables t) ≡ true → Each (IsPlace (columns_of tables t)) cols
    → chosen cols (columns_of tables t) ≡ cols → limit_fits limit ≡ true
    → permission_at tables m t role path (in_name_order (permission_json (columns_of tables t) (record { role = role; cols = cols; filter = always; limit = limit; aggregations = aggregations })))
    ≡ Ok (record { role = role; cols = cols; filter = always; limit = limit; aggregations = aggregations })
unfolding permission_at member_at field_name conjunction
permission_back tables m t role path cols None aggregations h there ordered fit = rw (shown_back (columns_of tables t) (at path field.Columns) cols h there ordered) refl
permission_back tables m t role path cols (Some n) aggregations h there ordered fit = rw (shown_back (columns_of tables t) (at path field.Columns) cols h there ordered, fit) refl

-- a permission of a role that has none before
perm_back : (tables : List Table) (m : MetaTree) (t : ℕ) (before : List PermTree) (p : PermTree) (path : List ℕ)
    → differ (columns_of tables t) ≡ true → IsPerm tables t p → IsPlainPerm (columns_of tables t) p
    → list_any (λ q. bytes_eq q.role p.role) before ≡ false → perm_at tables m t before path (in_name_order (perm_json (columns_of tables t) p)) ≡ Ok p
unfolding perm_at object_at object_member member_at role_due text_member text_at field_name
perm_back tables m t before p path h is plain new =
    let permission = permission_back tables m t p.role (at path field.Permission) p.cols p.limit p.aggregations h is.there plain.ordered is.limit in
    rw (is.other, new) (permission ∙ ap (λ f. Ok (record p { filter = f })) (sym plain.unfiltered))

-- the permissions of an entry
entry_back : (tables : List Table) (m : MetaTree) (k : TrackedTree) (path : List ℕ) → differ (columns_of tables k.table) ≡ true
    → Each (IsPerm tables k.table) k.perms → Each (IsPlainPerm (columns_of tables k.table)) k.perms
    → all_differ (λ p q. bytes_eq p.role q.role) k.perms ≡ true → perms_at tables m path (k.table, in_name_order (tracked_json tables k)) ≡ Ok k.perms
unfolding perms_at entries_member list_at field_name
entry_back tables m k path h is plain apart =
    let columns = columns_of tables k.table in
    let read = perm_at tables m k.table in
    let write : PermTree → JsonTree = λ p. in_name_order (perm_json columns p) in
    let Good : PermTree → Type 0 = λ p. IsPerm tables k.table p × IsPlainPerm columns p in
    let good = each_both (IsPerm tables k.table) (IsPlainPerm columns) Good (λ p a b. (a, b)) k.perms is plain in
    let new = differ_after (λ (p q : PermTree). bytes_eq p.role q.role) (λ p. p) [] k.perms (ap (all_differ (λ (p q : PermTree). bytes_eq p.role q.role)) (itself k.perms) ∙ apart) in
    ap (each_after read (at path field.SelectPermissions) 0 []) (elements_read (perm_json columns) k.perms)
    ∙ after_back read write (λ p. p) (at path field.SelectPermissions) 0 [] k.perms
    (after_both (λ (done : List PermTree). Good)
    (λ (done : List PermTree) (p : PermTree). list_any (λ (q : PermTree). bytes_eq q.role p.role) done ≡ false)
    (λ (done : List PermTree) (p : PermTree). (q : List ℕ) → read done q (write p) ≡ Ok p) (λ p. p)
    (λ done p g n q. perm_back tables m k.table done p q h g.0 g.1 n) [] k.perms (after_each Good (λ p. p) [] k.perms good) new)
    ∙ ap Ok (itself k.perms)

-- what is needed of an entry
pub record IsGoodEntry (tables : List Table) (k : TrackedTree) : Type 0 where
  pub columns : differ (columns_of tables k.table) ≡ true
  pub perms : Each (IsPerm tables k.table) k.perms
  pub plain : Each (IsPlainPerm (columns_of tables k.table)) k.perms
  pub apart : all_differ (λ p q. bytes_eq p.role q.role) k.perms ≡ true

all_permitted : (tables : List Table) (m : MetaTree) (ks : List TrackedTree) → Each (IsGoodEntry tables) ks
    → Each (λ k. (p : List ℕ) → perms_at tables m p (k.table, in_name_order (tracked_json tables k)) ≡ Ok k.perms) ks
all_permitted tables m [] good = tt
all_permitted tables m (k ∷ ks) good = ((λ p. entry_back tables m k p good.0.columns good.0.perms good.0.plain good.0.apart), all_permitted tables m ks good.1)

beside : (ks : List TrackedTree) → perms_beside (map without_perms ks) (map (λ k. k.perms) ks) ≡ ks
beside [] = refl
beside (k ∷ ks) = ap (λ l. k ∷ l) (beside ks)

same_tables : (ks : List TrackedTree) → map (λ k. k.table) (map without_perms ks) ≡ map (λ k. k.table) ks
same_tables [] = refl
same_tables (k ∷ ks) = ap (λ l. k.table ∷ l) (same_tables ks)

-- the tables with their relationships are read with their permissions
pub permitted_back : (tables : List Table) (ks : List TrackedTree) (path : List ℕ) → Each (IsGoodEntry tables) ks
    → permitted tables path (map (λ k. in_name_order (tracked_json tables k)) ks) (record { tracked = map without_perms ks; inherited = [] }) ≡ Ok (record { tracked = ks; inherited = [] })
unfolding permitted
permitted_back tables ks path good =
    let m : MetaTree = record { tracked = map without_perms ks; inherited = [] } in
    let entries : zip (tables_of m) (map (λ k. in_name_order (tracked_json tables k)) ks) ≡ map (λ k. (k.table, in_name_order (tracked_json tables k))) ks =
    ap (λ ts. zip ts (map (λ k. in_name_order (tracked_json tables k)) ks)) (same_tables ks) ∙ zip_maps (λ (k : TrackedTree). k.table) (λ k. in_name_order (tracked_json tables k)) ks in
    let read : each (perms_at tables m) path (zip (tables_of m) (map (λ k. in_name_order (tracked_json tables k)) ks)) ≡ Ok (map (λ k. k.perms) ks) =
    ap (each (perms_at tables m) path) entries
    ∙ each_back (perms_at tables m) (λ k. (k.table, in_name_order (tracked_json tables k))) (λ k. k.perms) path ks (all_permitted tables m ks good) in
    ap (and_then (λ perms. Ok (with_perms m perms))) read ∙ ap (λ l. Ok (record m { tracked = l })) (beside ks)
