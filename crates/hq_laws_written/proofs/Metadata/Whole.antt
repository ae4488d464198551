-- A plain metadata's value in name order gives the metadata.
use Rattle.std.proofs.Common.{◌≡◌, ◌∙◌, ℕ, ◌==◌, List, [], ◌∷◌, map, Bool, true, false, cond, Option, Some, None, Ok, slice_get, is_some, find, refl, sym, ap}
use Rattle.std.proofs.lemmas.Bool.{and_parts}
use Rattle.std.proofs.lemmas.Bool.Decides.{Decides-eqb}
use Rattle.hq_base.specs.Lists.{Each, all_differ}
use Rattle.hq_base.proofs.Lists.{each_all}
use Rattle.hq_model.specs.Meta.{TrackedTree, MetaTree, tracked_table}
use Rattle.hq_model.specs.Schema.{schema_of}
use Rattle.hq_model.specs.declared.meta.Rel.{Rel}
use Rattle.hq_load_meta_names.specs.Repeats.{names_due}
use Rattle.hq_model.specs.declared.table.Table.{Table}
use Rattle.hq_load_meta_tables.specs.Found.{columns_in, columns_of}
use Rattle.hq_load_meta_tables.specs.Top.{tables_path}
use Rattle.hq_load_meta_tables.specs.declared.version.MetaVersion.TheVariants.{Three}
use Rattle.hq_load_meta.specs.Inheriting.{inherited_due}
use Rattle.hq_load_meta.specs.Reading.{named, tracked_of, meta_of}
use Rattle.hq_laws_written.specs.Json.ReadBack.{IsReadable, in_name_order}
use Rattle.hq_laws_written.proofs.Catalog.Lists.{at_each}
use Rattle.hq_laws_written.proofs.Catalog.Places.{differ}
use Rattle.hq_laws_written.proofs.Catalog.Tests.{IsGood, all_good}
use Rattle.hq_laws_written.specs.Metadata.Plain.{IsPlain, IsPlainRel, IsPlainTable}
use Rattle.hq_laws_written.specs.Metadata.Written.{meta_json, tracked_json}
use Rattle.hq_laws_written.proofs.Metadata.Clean as clean
use Rattle.hq_laws_written.proofs.Metadata.Fitting.{IsEntry, IsRel, entries_fit}
use Rattle.hq_laws_written.proofs.Metadata.Lists.{each_both, some_map}
use Rattle.hq_laws_written.proofs.Metadata.Named.{all_tracked, bare}
use Rattle.hq_laws_written.proofs.Metadata.Parts.{Apart}
use Rattle.hq_laws_written.proofs.Metadata.Permitted as permitted
use Rattle.hq_laws_written.proofs.Metadata.Permitted.{permitted_back}
use Rattle.hq_laws_written.proofs.Metadata.Related as related
use Rattle.hq_laws_written.proofs.Metadata.Related.{related_back}
use Rattle.hq_laws_written.proofs.Metadata.Repeats.{no_repeat}
use Rattle.hq_laws_written.proofs.Metadata.Top.{not_wrapped, entries_back, no_roles}

-- the columns of a catalog's table have different names, and beyond the catalog there are none
columns_differ : (tables : List Table) → Each (IsGood tables) tables → (t : ℕ) → differ (columns_of tables t) ≡ true
columns_differ tables good t =
    let go : (o : Option Table) → slice_get tables t ≡ o → differ (columns_in o) ≡ true = elim [ None ↦ λ e. refl | Some u ↦ λ e. (at_each (IsGood tables) tables good t u e).differ ] in
    go (slice_get tables t) refl

-- the table that a relationship goes to is there
tracked_there : (tables : List Table) (m : MetaTree) (ks : List TrackedTree) (t : ℕ) → Each (IsEntry tables m) ks
    → is_some (find (λ k. k.table == t) ks) ≡ true → (u : Table) × (slice_get tables t ≡ Some u)
tracked_there tables m [] t h e = cc
tracked_there tables m (k ∷ ks) t h e =
    let go : (b : Bool) → (k.table == t) ≡ b → is_some (cond b (Some k) (find (λ j. j.table == t) ks)) ≡ true → (u : Table) × (slice_get tables t ≡ Some u) = elim [
      | true ↦ λ same e. (h.0.table.0, ap (slice_get tables) (sym ((Decides-eqb k.table t).0 same)) ∙ h.0.table.1)
      | false ↦ λ other e. tracked_there tables m ks t h.1 e
    ] in
    go (k.table == t) refl e

module _ (tables : List Table) (m : MetaTree) (h : IsPlain tables m) where
  catalog_parts : Apart tables × Each (IsGood tables) tables
  catalog_parts =
      let p = and_parts _ _ h.catalog in
      ((and_parts _ _ p.0).1, all_good tables tables p.1)

  all : (t : ℕ) → differ (columns_of tables t) ≡ true
  all t = columns_differ tables catalog_parts.1 t

  entries : Each (IsEntry tables m) m.tracked
  entries = entries_fit tables m m.tracked (and_parts _ _ (and_parts _ _ (and_parts _ _ h.fits).0).0).1

  once : all_differ (λ j k. j.table == k.table) m.tracked ≡ true
  once = (and_parts _ _ (and_parts _ _ (and_parts _ _ h.fits).0).0).0

  pub is_readable : IsReadable (meta_json tables m)
  is_readable =
      clean.meta_readable tables m h.clean
      (each_both (IsEntry tables m) (IsPlainTable tables) (clean.IsGoodEntry tables) (λ k e p. record { columns = all k.table; perms = e.perms; plain = p }) m.tracked entries h.tracked)

  -- the metadata with names alone
  abbrev names : MetaTree
  names = record { tracked = map bare m.tracked; inherited = [] }

  -- the same tables are tracked by their names
  same_tracked : (t : ℕ) → is_some (tracked_table m t) ≡ true → is_some (tracked_table names t) ≡ true
  same_tracked t e = some_map (λ (k : TrackedTree). k.table == t) bare m.tracked ∙ e

  good_rel : (k : TrackedTree) (r : Rel) → IsRel tables m k.table r → IsPlainRel (columns_of tables k.table) (columns_of tables r.remote) r → related.IsGood tables catalog_parts.0 all names k.table r
  good_rel k r is plain =
      let tracked = same_tracked r.remote is.tracked in
      record {
        there = tracked_there tables m m.tracked r.remote entries is.tracked;
        tracked = tracked;
        is = record { free = is.free; other = is.other; tracked = tracked; some = is.some; pairs = is.pairs };
        plain = plain;
      }

  related_entries : Each (related.IsGoodEntry tables catalog_parts.0 all names) m.tracked
  related_entries =
      each_both (IsEntry tables m) (IsPlainTable tables) (related.IsGoodEntry tables catalog_parts.0 all names)
      (λ k e p. (
        e.ordered,
        each_both (IsRel tables m k.table) (λ r. IsPlainRel (columns_of tables k.table) (columns_of tables r.remote) r)
            (related.IsGood tables catalog_parts.0 all names k.table) (good_rel k) k.rels e.rels p.rels,
      ))
      m.tracked entries h.tracked

  permitted_entries : Each (permitted.IsGoodEntry tables) m.tracked
  permitted_entries =
      each_both (IsEntry tables m) (IsPlainTable tables) (permitted.IsGoodEntry tables)
      (λ k e p. record { columns = all k.table; perms = e.perms; plain = p.perms; apart = e.apart }) m.tracked entries h.tracked

  -- the metadata that is read is this one
  same_meta : record { tracked = m.tracked; inherited = [] } ≡ m
  same_meta = ap (λ is. record m { inherited = is }) (sym h.own)

  -- the entries are read as the metadata
  tracked_back : (path : List ℕ) → tracked_of tables path (map (λ k. in_name_order (tracked_json tables k)) m.tracked) [] ≡ Ok m
  unfolding tracked_of named inherited_due
  tracked_back path =
      let named_all =
      all_tracked tables m m.tracked path catalog_parts.0
      (each_all (λ (k : TrackedTree). differ (columns_of tables k.table) ≡ true) (λ k. all k.table) m.tracked) entries h.tracked once in
      let related_all = related_back tables catalog_parts.0 all m.tracked path related_entries in
      let permitted_all = permitted_back tables m.tracked path permitted_entries in
      let differ_all = (and_parts _ _ (and_parts _ _ h.fits).0).1 in
      let unrepeated : names_due (schema_of tables (record { tracked = m.tracked; inherited = [] })) (record { tracked = m.tracked; inherited = [] }) path ≡ Ok tt =
      ap (λ n. names_due (schema_of tables n) n path) same_meta ∙ no_repeat (schema_of tables m) m path differ_all in
      rw named_all (rw related_all (rw permitted_all (rw unrepeated (ap Ok same_meta))))

  pub meta_back : meta_of tables (in_name_order (meta_json tables m)) ≡ Ok m
  unfolding meta_of
  meta_back = rw (not_wrapped tables m) (rw (entries_back tables m, no_roles tables m) (tracked_back (tables_path Three)))
