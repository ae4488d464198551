-- A plain metadata's JSON value can be read back.
use Rattle.std.proofs.Common.{◌≡◌, ◌∙◌, ℕ, zero, suc, ◌≤◌, ◌&&◌, List, [], ◌∷◌, map, filter, Bool, true, false, not, Option, Some, None, slice_get, slice_index_or, bytes_eq, codes, pos, refl, sym, ap, arith}
use Rattle.std.specs.List.{list_all}
use Rattle.std.specs.Cmp.Lexicographic.{bytes_decides}
use Rattle.std.specs.Str.{is_utf8, chars}
use lib.Utf8.{encode}
use Rattle.std.proofs.lemmas.Bool.{and_parts, and_from, true≢false}
use Rattle.hq_base.specs.Json.{JsonTree, str}
use Rattle.hq_base.specs.Lists.{Each, all_differ}
use Rattle.hq_base.proofs.Lists.{each_all, each_filter, each_weaken, map_map}
use Rattle.hq_base.proofs.Sorts.{each_sort}
use Rattle.hq_model.specs.Fits.{limit_fits}
use Rattle.hq_model.specs.Meta.{PermTree, TrackedTree, MetaTree}
use Rattle.hq_model.specs.declared.meta.Rel.{Rel}
use Rattle.hq_model.specs.declared.meta.Pair.{Pair}
use Rattle.hq_model.specs.declared.table.Column.{Column}
use Rattle.hq_model.specs.declared.table.Table.{Table}
use Rattle.hq_load_meta_tables.specs.Field.{field_name}
use Rattle.hq_load_meta_tables.specs.Found.{columns_of}
use Rattle.hq_load_meta_tables.specs.declared.field.Field.TheVariants as field
use Rattle.hq_laws_written.specs.Json.Building.{list, object}
use Rattle.hq_laws_written.specs.Json.ReadBack.{IsReadable, by_name, fits_64_bits, is_clean}
use Rattle.hq_laws_written.proofs.Json.Building.{Readable, readable, text_readable, bool_readable, int_readable, texts_readable, list_readable, map_readable, object_readable, are_member_names, member_names}
use Rattle.hq_laws_written.specs.Catalog.Written.{name_at, schema_in, table_name_in, has_clean_names}
use Rattle.hq_laws_written.proofs.Catalog.Clean.{CleanColumns, clean_table, name_clean, names_clean, ref_clean}
use Rattle.hq_laws_written.proofs.Catalog.Lists.{each_true, at_each, differ_map}
use Rattle.hq_laws_written.proofs.Catalog.Places.{differ}
use Rattle.hq_laws_written.specs.Metadata.Plain.{IsPlainRel, IsPlainPerm, IsPlainTable}
use Rattle.hq_laws_written.specs.Metadata.Written.{table_ref_members, table_ref, shown_columns, column_config, column_configs, roots_members, configuration_members, configuration_json, pair_json, link_members, link_json, rel_members, rel_json, permission_members, permission_json, perm_members, perm_json, tracked_members, tracked_json, source_members, source_json, meta_members, meta_json}
use Rattle.hq_laws_written.proofs.Metadata.Columns.{shown_differ}
use Rattle.hq_laws_written.proofs.Metadata.Fitting.{IsPerm}
use Rattle.hq_laws_written.proofs.Metadata.Lists.{each_map, each_both, sort_differ}

-- ---- the names of members

ref_names : are_member_names (codes "schema" ∷ field_name field.Name ∷ []) ≡ true
unfolding field_name is_utf8 chars encode
ref_names = refl

custom_names : are_member_names (field_name field.CustomName ∷ []) ≡ true
unfolding field_name is_utf8 chars encode
custom_names = refl

roots_names : are_member_names (field_name field.Select ∷ field_name field.SelectByPk ∷ field_name field.SelectAggregate ∷ []) ≡ true
unfolding field_name is_utf8 chars encode
roots_names = refl

configuration_names : are_member_names (field_name field.CustomName ∷ field_name field.ColumnConfig ∷ field_name field.CustomRootFields ∷ []) ≡ true
unfolding field_name is_utf8 chars encode
configuration_names = refl

link_names : are_member_names (field_name field.RemoteTable ∷ field_name field.ColumnMapping ∷ []) ≡ true
unfolding field_name is_utf8 chars encode
link_names = refl

using_names : are_member_names (field_name field.ManualConfiguration ∷ []) ≡ true
unfolding field_name is_utf8 chars encode
using_names = refl

rel_names : are_member_names (field_name field.Name ∷ field_name field.Using ∷ []) ≡ true
unfolding field_name is_utf8 chars encode
rel_names = refl

unlimited_names : are_member_names (field_name field.Columns ∷ field_name field.Filter ∷ field_name field.AllowAggregations ∷ []) ≡ true
unfolding field_name is_utf8 chars encode
unlimited_names = refl

limited_names : are_member_names (field_name field.Columns ∷ field_name field.Filter ∷ field_name field.Limit ∷ field_name field.AllowAggregations ∷ []) ≡ true
unfolding field_name is_utf8 chars encode
limited_names = refl

perm_names : are_member_names (field_name field.Role ∷ field_name field.Permission ∷ []) ≡ true
unfolding field_name is_utf8 chars encode
perm_names = refl

tracked_names : are_member_names
    (field_name field.Table ∷ field_name field.Configuration ∷ field_name field.ObjectRelationships ∷ field_name field.ArrayRelationships
    ∷ field_name field.SelectPermissions ∷ [])
    ≡ true
unfolding field_name is_utf8 chars encode
tracked_names = refl

source_names : are_member_names (field_name field.Name ∷ field_name field.Kind ∷ field_name field.Tables ∷ []) ≡ true
unfolding field_name is_utf8 chars encode
source_names = refl

top_names : are_member_names (field_name field.Version ∷ field_name field.Sources ∷ []) ≡ true
unfolding field_name is_utf8 chars encode
top_names = refl

clean_default : is_clean (codes "default") ≡ true
unfolding is_utf8 chars encode
clean_default = refl

clean_kind : is_clean (codes "postgres") ≡ true
unfolding is_utf8 chars encode
clean_kind = refl

clean_nothing : is_clean [] ≡ true
unfolding is_utf8 chars encode
clean_nothing = refl

-- ---- the parts

-- what nests less can nest more
deeper : (low high : ℕ) (j : JsonTree) → low ≤ high → Readable low j → Readable high j
deeper low high j le h = record { clean = h.clean; distinct = h.distinct; shallow = omega (arith, le, h.shallow) }

-- the name at a place is clean where all are
at_clean : (names : List (List ℕ)) (i : ℕ) → list_all is_clean names ≡ true → is_clean (slice_index_or names i []) ≡ true
at_clean [] i h = clean_nothing
at_clean (n ∷ ns) zero h = (and_parts _ _ h).0
at_clean (n ∷ ns) (suc i) h = at_clean ns i (and_parts _ _ h).1

-- the names of members are clean
members_clean : (ms : List (List ℕ × JsonTree)) → Each (λ m. is_clean m.0 ≡ true) ms → list_all is_clean (member_names ms) ≡ true
members_clean [] h = refl
members_clean (m ∷ ms) h = and_from _ _ h.0 (members_clean ms h.1)

turned : (m n : List ℕ) → bytes_eq m n ≡ false → bytes_eq n m ≡ false
turned m n h =
    let go : (b : Bool) → bytes_eq n m ≡ b → b ≡ false = elim [
      | true ↦ λ e. absurd (true≢false (sym ((bytes_decides m n).1 (sym ((bytes_decides n m).0 e))) ∙ h))
      | false ↦ λ e. refl
    ] in
    go (bytes_eq n m) refl

ref_readable : (depth : ℕ) (o : Option Table) → is_clean (schema_in o) ≡ true → is_clean (table_name_in o) ≡ true → Readable (suc depth) (table_ref o)
ref_readable depth o a b = object_readable depth (table_ref_members o) ref_names (text_readable depth (schema_in o) a, (text_readable depth (table_name_in o) b, tt))

-- ---- names

module _ (k : TrackedTree) (columns : List Column) (apart : differ columns ≡ true) (own : CleanColumns columns) (names : list_all is_clean k.column_names ≡ true) where
  config_readable : (c : ℕ) → Readable 1 (column_config k columns c).1
  config_readable c =
      object_readable 0 ((field_name field.CustomName, str (slice_index_or k.column_names c [])) ∷ []) custom_names
      (text_readable 0 (slice_index_or k.column_names c []) (at_clean k.column_names c names), tt)

  -- the names of the shown columns are clean and differ
  config_names : are_member_names (member_names (column_configs k columns)) ≡ true
  config_names =
      let shown = shown_columns k columns in
      let clean =
      each_sort by_name (λ (m : List ℕ × JsonTree). is_clean m.0 ≡ true) (map (column_config k columns) shown)
      (each_map (λ (m : List ℕ × JsonTree). is_clean m.0 ≡ true) (column_config k columns) shown
      (each_all (λ c. is_clean (name_at columns c) ≡ true) (λ c. name_clean columns c own) shown)) in
      let unlike : all_differ (λ m n. bytes_eq m.0 n.0) (map (column_config k columns) shown) ≡ true =
      differ_map (λ (m n : List ℕ × JsonTree). bytes_eq m.0 n.0) (column_config k columns) shown ∙ shown_differ k columns apart in
      let sorted = sort_differ by_name (λ (m n : List ℕ × JsonTree). bytes_eq m.0 n.0) (λ m n e. turned m.0 n.0 e) (map (column_config k columns) shown) unlike in
      and_from _ _ (members_clean (column_configs k columns) clean) (differ_map bytes_eq (λ (m : List ℕ × JsonTree). m.0) (column_configs k columns) ∙ sorted)

  configs_readable : Readable 2 (object (column_configs k columns))
  configs_readable =
      object_readable 1 (column_configs k columns) config_names
      (each_sort by_name (λ (m : List ℕ × JsonTree). Readable 1 m.1) (map (column_config k columns) (shown_columns k columns))
      (each_map (λ (m : List ℕ × JsonTree). Readable 1 m.1) (column_config k columns) (shown_columns k columns)
      (each_all (λ c. Readable 1 (column_config k columns c).1) config_readable (shown_columns k columns))))

  configuration_readable : is_clean k.name ≡ true → (is_clean k.roots.select && is_clean k.roots.select_by_pk && is_clean k.roots.select_aggregate) ≡ true → Readable 3 (configuration_json k columns)
  configuration_readable named roots =
      let p = and_parts _ _ roots in
      let q = and_parts _ _ p.0 in
      object_readable 2 (configuration_members k columns) configuration_names (
        text_readable 2 k.name named,
        (
          configs_readable,
          (
            object_readable 1 (roots_members k.roots) roots_names (
              text_readable 1 k.roots.select q.0,
              (text_readable 1 k.roots.select_by_pk q.1, (text_readable 1 k.roots.select_aggregate p.1, tt)),
            ),
            tt,
          ),
        ),
      )

-- ---- relationships

pairs_readable : (own remote : List Column) (ps : List Pair) → CleanColumns own → CleanColumns remote
    → all_differ bytes_eq (map (λ p. name_at own p.own) ps) ≡ true → Readable 1 (object (map (pair_json own remote) ps))
pairs_readable own remote ps a b apart =
    let names = map_map (λ (m : List ℕ × JsonTree). m.0) (pair_json own remote) ps in
    let clean =
    members_clean (map (pair_json own remote) ps)
    (each_map (λ (m : List ℕ × JsonTree). is_clean m.0 ≡ true) (pair_json own remote) ps
    (each_all (λ (p : Pair). is_clean (name_at own p.own) ≡ true) (λ p. name_clean own p.own a) ps)) in
    object_readable 0 (map (pair_json own remote) ps) (and_from _ _ clean (ap (all_differ bytes_eq) names ∙ apart))
    (each_map (λ (m : List ℕ × JsonTree). Readable 0 m.1) (pair_json own remote) ps
    (each_all (λ p. Readable 0 (pair_json own remote p).1)
    (λ p. text_readable 0 (name_at remote p.remote) (name_clean remote p.remote b)) ps))

-- what is told of the table at a place is clean
place_clean : (tables : List Table) (t : ℕ) → list_all clean_table tables ≡ true
    → (is_clean (schema_in (slice_get tables t)) ≡ true) × (is_clean (table_name_in (slice_get tables t)) ≡ true)
    × CleanColumns (columns_of tables t)
place_clean tables t all =
    let found = ref_clean (slice_get tables t) (λ u e. at_each (λ (v : Table). clean_table v ≡ true) tables (each_true clean_table tables all) t u e) in
    (found.0, found.1, found.2)

rel_readable : (tables : List Table) (t : ℕ) (r : Rel) → list_all clean_table tables ≡ true
    → IsPlainRel (columns_of tables t) (columns_of tables r.remote) r → Readable 4 (rel_json tables (columns_of tables t) r)
rel_readable tables t r all plain =
    let own = place_clean tables t all in
    let remote = place_clean tables r.remote all in
    let link =
    object_readable 1 (link_members tables (columns_of tables t) r) link_names (
      ref_readable 0 (slice_get tables r.remote) remote.0 remote.1,
      (pairs_readable (columns_of tables t) (columns_of tables r.remote) r.pairs own.2 remote.2 plain.differ, tt),
    ) in
    object_readable 3 (rel_members tables (columns_of tables t) r) rel_names (
      text_readable 3 r.name plain.clean,
      (
        object_readable 2 ((field_name field.ManualConfiguration, link_json tables (columns_of tables t) r) ∷ []) using_names (link, tt),
        tt,
      ),
    )

-- ---- permissions

fits_limit : (n : ℕ) → limit_fits (Some n) ≡ true → fits_64_bits (pos n) ≡ true
fits_limit n h = h

permission_readable : (columns : List Column) (p : PermTree) → CleanColumns columns → limit_fits p.limit ≡ true → Readable 2 (permission_json columns p)
permission_readable columns p own fit =
    let cols = texts_readable 0 (map (name_at columns) p.cols) (names_clean columns p.cols own) in
    let filter = object_readable 0 [] refl tt in
    let go : (o : Option ℕ) → limit_fits o ≡ true → Readable 2 (permission_json columns (record p { limit = o })) = elim [
      | None ↦ λ e. object_readable 1 (permission_members columns (record p { limit = None })) unlimited_names (cols, (filter, (bool_readable 1 p.aggregations, tt)))
      | Some n
          ↦ λ e. object_readable 1 (permission_members columns (record p { limit = Some n })) limited_names
          (cols, (filter, (int_readable 1 (pos n) (fits_limit n e), (bool_readable 1 p.aggregations, tt))))
    ] in
    go p.limit fit

perm_readable : (columns : List Column) (p : PermTree) → CleanColumns columns → limit_fits p.limit ≡ true → is_clean p.role ≡ true → Readable 3 (perm_json columns p)
perm_readable columns p own fit clean = object_readable 2 (perm_members columns p) perm_names (text_readable 2 p.role clean, (permission_readable columns p own fit, tt))

-- ---- the whole

tracked_readable : (tables : List Table) (k : TrackedTree) → list_all clean_table tables ≡ true → differ (columns_of tables k.table) ≡ true
    → Each (IsPerm tables k.table) k.perms → IsPlainTable tables k → Readable 6 (tracked_json tables k)
tracked_readable tables k all apart perms plain =
    let columns = columns_of tables k.table in
    let own = place_clean tables k.table all in
    let p = and_parts _ _ plain.clean in
    let Rels : List Rel → Type 0 = λ rs. Each (λ r. Readable 4 (rel_json tables columns r)) rs in
    let rels : Rels k.rels =
    each_weaken (λ (r : Rel). IsPlainRel columns (columns_of tables r.remote) r) (λ r. Readable 4 (rel_json tables columns r))
    (λ r h. rel_readable tables k.table r all h) k.rels plain.rels in
    let perms_all =
    each_both (IsPerm tables k.table) (IsPlainPerm columns) (λ q. Readable 3 (perm_json columns q))
    (λ q a b. perm_readable columns q own.2 a.limit b.clean) k.perms perms plain.perms in
    object_readable 5 (tracked_members tables k) tracked_names (
      deeper 1 5 (table_ref (slice_get tables k.table)) (omega arith) (ref_readable 0 (slice_get tables k.table) own.0 own.1),
      (
        deeper 3 5 (configuration_json k columns) (omega arith) (configuration_readable k columns apart own.2 p.1 p.0 plain.roots),
        (
          map_readable 4 (rel_json tables columns) (filter (λ r. not r.many) k.rels) (each_filter (λ r. Readable 4 (rel_json tables columns r)) (λ r. not r.many) k.rels rels),
          (
            map_readable 4 (rel_json tables columns) (filter (λ r. r.many) k.rels) (each_filter (λ r. Readable 4 (rel_json tables columns r)) (λ r. r.many) k.rels rels),
            (deeper 4 5 (list (map (perm_json columns) k.perms)) (omega arith) (map_readable 3 (perm_json columns) k.perms perms_all), tt),
          ),
        ),
      ),
    )

-- what is needed of an entry
pub record IsGoodEntry (tables : List Table) (k : TrackedTree) : Type 0 where
  pub columns : differ (columns_of tables k.table) ≡ true
  pub perms : Each (IsPerm tables k.table) k.perms
  pub plain : IsPlainTable tables k

-- a plain metadata can be read back
pub meta_readable : (tables : List Table) (m : MetaTree) → has_clean_names tables ≡ true → Each (IsGoodEntry tables) m.tracked → IsReadable (meta_json tables m)
meta_readable tables m clean good =
    let all = each_weaken (IsGoodEntry tables) (λ k. Readable 6 (tracked_json tables k)) (λ k g. tracked_readable tables k clean g.columns g.perms g.plain) m.tracked good in
    let source : Readable 8 (source_json tables m) =
    object_readable 7 (source_members tables m) source_names (
      text_readable 7 (codes "default") clean_default,
      (text_readable 7 (codes "postgres") clean_kind, (map_readable 6 (tracked_json tables) m.tracked all, tt)),
    ) in
    readable 10 (meta_json tables m) (omega arith) (object_readable 9 (meta_members tables m) top_names (int_readable 9 (pos 3) refl, (list_readable 8 (source_json tables m ∷ []) (source, tt), tt)))
