-- What a metadata that fits a catalog has, part by part.
use Rattle.std.proofs.Common.{◌≡◌, ◌∙◌, ℕ, suc, nat_lt, ◌&&◌, List, [], ◌∷◌, length, true, not, Option, Some, None, slice_get, is_some, option_map, bytes_eq, codes, refl, sym, ap, ap₂}
use Rattle.std.specs.List.{list_all}
use Rattle.std.proofs.lemmas.Bool.{and_parts}
use Rattle.std.proofs.lemmas.Bool.Decides.{Decides-eqb}
use Rattle.hq_base.specs.Lists.{Each, all_differ}
use Rattle.hq_base.specs.declared.value.Ty.{Ty}
use Rattle.hq_model.specs.Catalog.{type_of, can_pair}
use Rattle.hq_model.specs.Filters.{column_ty}
use Rattle.hq_model.specs.Fits.{fits_rel, objects_first, limit_fits, fits_perm, are_free_roots, fits_tracked}
use Rattle.hq_model.specs.Meta.{PermTree, TrackedTree, MetaTree, tracked_table}
use Rattle.hq_model.specs.Names.{is_admin_name, is_free_name, is_table_name}
use Rattle.hq_model.specs.Schema.{SchemaTable, numbered, schema_of, schema_table, table}
use Rattle.hq_model.specs.declared.meta.Pair.{Pair}
use Rattle.hq_model.specs.declared.meta.Rel.{Rel}
use Rattle.hq_model.specs.declared.table.Column.{Column}
use Rattle.hq_model.specs.declared.table.Table.{Table}
use Rattle.hq_model.proofs.Places.{table_present, table_absent}
use Rattle.hq_load_meta_tables.specs.Found.{columns_of, columns_in}
use Rattle.hq_laws_written.proofs.Catalog.Places.{IsPlace}
use Rattle.hq_laws_written.proofs.Metadata.Lists.{below}

-- ---- the columns of a table

-- the schema's columns of a table are the catalog's
same_columns : (tables : List Table) (m : MetaTree) (t : ℕ) → (table (schema_of tables m) t).columns ≡ columns_of tables t
same_columns tables m t =
    let go : (o : Option Table) → slice_get tables t ≡ o → (table (schema_of tables m) t).columns ≡ columns_in o = elim [
      | Some u ↦ λ e. ap (λ (v : SchemaTable). v.columns) (table_present tables m t u e)
      | None ↦ λ e. ap (λ (v : SchemaTable). v.columns) (table_absent tables m t e)
    ] in
    go (slice_get tables t) refl

same_type : (o : Option Column) → option_map (λ c. c.ty) o ≡ type_of o
same_type None = refl
same_type (Some c) = refl

-- the type of a column, by the catalog
type_in : (tables : List Table) (m : MetaTree) (t c : ℕ) → column_ty (schema_of tables m) t c ≡ type_of (slice_get (columns_of tables t) c)
type_in tables m t c = ap (λ (cs : List Column). option_map (λ (d : Column). d.ty) (slice_get cs c)) (same_columns tables m t) ∙ same_type (slice_get (columns_of tables t) c)

typed_place : (columns : List Column) (c : ℕ) (o : Option Column) → slice_get columns c ≡ o → is_some (type_of o) ≡ true → IsPlace columns c
typed_place columns c None e h = cc
typed_place columns c (Some d) e h = (d, e)

-- columns that have a type are there
typed_places : (tables : List Table) (m : MetaTree) (t : ℕ) (cs : List ℕ) → list_all (λ c. is_some (column_ty (schema_of tables m) t c)) cs ≡ true → Each (IsPlace (columns_of tables t)) cs
typed_places tables m t [] h = tt
typed_places tables m t (c ∷ cs) h =
    let p = and_parts _ _ h in
    (typed_place (columns_of tables t) c (slice_get (columns_of tables t) c) refl (ap is_some (sym (type_in tables m t c)) ∙ p.0), typed_places tables m t cs p.1)

-- ---- the parts of an entry

-- a pair of columns that are there and can be compared
pub record IsPair (own remote : List Column) (p : Pair) : Type 0 where
  pub own_there : IsPlace own p.own
  pub remote_there : IsPlace remote p.remote
  pub fit : can_pair (type_of (slice_get own p.own)) (type_of (slice_get remote p.remote)) ≡ true

own_place : (columns : List Column) (c : ℕ) (o : Option Column) (q : Option Ty) → slice_get columns c ≡ o → can_pair (type_of o) q ≡ true → IsPlace columns c
own_place columns c None q e h = cc
own_place columns c (Some d) q e h = (d, e)

remote_place : (columns : List Column) (c : ℕ) (q : Option Ty) (o : Option Column) → slice_get columns c ≡ o → can_pair q (type_of o) ≡ true → IsPlace columns c
remote_place columns c None o e h = cc
remote_place columns c (Some a) None e h = cc
remote_place columns c (Some a) (Some d) e h = (d, e)

pair_there : (own remote : List Column) (p : Pair) → can_pair (type_of (slice_get own p.own)) (type_of (slice_get remote p.remote)) ≡ true → IsPair own remote p
pair_there own remote p h = record {
  own_there = own_place own p.own (slice_get own p.own) (type_of (slice_get remote p.remote)) refl h;
  remote_there = remote_place remote p.remote (type_of (slice_get own p.own)) (slice_get remote p.remote) refl h;
  fit = h;
}

pairs_there : (tables : List Table) (m : MetaTree) (t u : ℕ) (ps : List Pair) → list_all (λ p. can_pair (column_ty (schema_of tables m) t p.own) (column_ty (schema_of tables m) u p.remote)) ps ≡ true
    → Each (IsPair (columns_of tables t) (columns_of tables u)) ps
pairs_there tables m t u [] h = tt
pairs_there tables m t u (p ∷ ps) h =
    let parts = and_parts _ _ h in
    (pair_there (columns_of tables t) (columns_of tables u) p (ap₂ can_pair (sym (type_in tables m t p.own)) (sym (type_in tables m u p.remote)) ∙ parts.0), pairs_there tables m t u ps parts.1)

-- a relationship that fits
pub record IsRel (tables : List Table) (m : MetaTree) (t : ℕ) (r : Rel) : Type 0 where
  pub free : is_free_name r.name ≡ true
  pub other : not (r.many && bytes_eq r.name (codes "_")) ≡ true
  pub tracked : is_some (tracked_table m r.remote) ≡ true
  pub some : nat_lt 0 (length r.pairs) ≡ true
  pub pairs : Each (IsPair (columns_of tables t) (columns_of tables r.remote)) r.pairs

rels_fit : (tables : List Table) (m : MetaTree) (t : ℕ) (rs : List Rel) → list_all (fits_rel (schema_of tables m) m t) rs ≡ true → Each (IsRel tables m t) rs
rels_fit tables m t [] h = tt
rels_fit tables m t (r ∷ rs) h =
    let p = and_parts _ _ h in
    let a = and_parts _ _ p.0 in
    let b = and_parts _ _ a.0 in
    let c = and_parts _ _ b.0 in
    let named = and_parts _ _ c.0 in
    (record { free = named.0; other = named.1; tracked = c.1; some = b.1; pairs = pairs_there tables m t r.remote r.pairs a.1 }, rels_fit tables m t rs p.1)

-- a permission that fits
pub record IsPerm (tables : List Table) (t : ℕ) (p : PermTree) : Type 0 where
  pub other : not (is_admin_name p.role) ≡ true
  pub there : Each (IsPlace (columns_of tables t)) p.cols
  pub limit : limit_fits p.limit ≡ true

perms_fit : (tables : List Table) (m : MetaTree) (t : ℕ) (ps : List PermTree) → list_all (fits_perm (schema_of tables m) m t) ps ≡ true → Each (IsPerm tables t) ps
perms_fit tables m t [] h = tt
perms_fit tables m t (p ∷ ps) h =
    let parts = and_parts _ _ h in
    let a = and_parts _ _ parts.0 in
    let b = and_parts _ _ a.0 in
    let c = and_parts _ _ b.0 in
    let d = and_parts _ _ c.0 in
    let e = and_parts _ _ d.0 in
    (record { other = e.0; there = typed_places tables m t p.cols e.1; limit = b.1 }, perms_fit tables m t ps parts.1)

-- an entry that fits
pub record IsEntry (tables : List Table) (m : MetaTree) (k : TrackedTree) : Type 0 where
  pub table : (u : Table) × (slice_get tables k.table ≡ Some u)
  pub name : is_table_name k.name ≡ true
  pub named : length k.column_names ≡ length (columns_of tables k.table)
  pub roots : are_free_roots k.roots ≡ true
  pub rels : Each (IsRel tables m k.table) k.rels
  pub ordered : objects_first k.rels ≡ true
  pub apart : all_differ (λ p q. bytes_eq p.role q.role) k.perms ≡ true
  pub perms : Each (IsPerm tables k.table) k.perms

length_numbered : {A B : Type 0} (f : ℕ → A → B) (k : ℕ) (xs : List A) → length (numbered f k xs) ≡ length xs
length_numbered f k [] = refl
length_numbered f k (x ∷ xs) = ap suc (length_numbered f (suc k) xs)

entry_fits : (tables : List Table) (m : MetaTree) (k : TrackedTree) → fits_tracked (schema_of tables m) m k ≡ true → IsEntry tables m k
entry_fits tables m k h =
    let a = and_parts _ _ h in
    let b = and_parts _ _ a.0 in
    let c = and_parts _ _ b.0 in
    let d = and_parts _ _ c.0 in
    let e = and_parts _ _ d.0 in
    let f = and_parts _ _ e.0 in
    let g = and_parts _ _ f.0 in
    record {
      table = below tables k.table (ap (nat_lt k.table) (sym (length_numbered (schema_table m) 0 tables)) ∙ g.0);
      name = g.1;
      named = (Decides-eqb (length k.column_names) (length (table (schema_of tables m) k.table).columns)).0 f.1 ∙ ap length (same_columns tables m k.table);
      roots = e.1;
      rels = rels_fit tables m k.table k.rels d.1;
      ordered = c.1;
      apart = b.1;
      perms = perms_fit tables m k.table k.perms a.1;
    }

pub entries_fit : (tables : List Table) (m : MetaTree) (ks : List TrackedTree) → list_all (fits_tracked (schema_of tables m) m) ks ≡ true → Each (IsEntry tables m) ks
entries_fit tables m [] h = tt
entries_fit tables m (k ∷ ks) h = let p = and_parts _ _ h in (entry_fits tables m k p.0, entries_fit tables m ks p.1)
