-- What each table of a copy stands for, where the metadata fits the catalog.
use Rattle.std.proofs.Common.{◌≡◌, ℕ, zero, suc, ◌≤◌, ◌<◌, List, [], ◌∷◌, filter, length, Bool, true, false, cond, ◌==◌, Option, Some, None, refl, sym, ap, ◌∙◌, subst, arith, slice_get}
use Rattle.std.proofs.lemmas.Bool.{and_parts, eqb-true, eq-eqb, ne_eqb, ltb-true}
use Rattle.std.specs.List.{find, list_any}
use Rattle.std.specs.Prelude.{option_and_then, bytes_eq}
use Rattle.hq_base.specs.Lists.{Each}
use Rattle.hq_base.proofs.Lists.{each_weaken}
use Rattle.hq_model.specs.Fits.{fits, fits_rel, fits_perm, fits_tracked, objects_first, are_free_roots}
use Rattle.hq_model.specs.Laws.{IsPermission}
use Rattle.hq_model.specs.Bexp.{always}
use Rattle.hq_model.specs.Meta.{MetaTree, PermTree, TrackedTree, tracked_table}
use Rattle.hq_model.specs.declared.meta.Inherited.{Inherited}
use Rattle.hq_model.specs.Names.{is_free_name, is_table_name}
use Rattle.hq_model.specs.Permission.{Permission, permission, permission_in, named_columns, named_from, with_columns, own_permission, told_permission, permissions_of, set_of, or_inherited, permits, columns_of_any, either, filters_of, limit_of, some_aggregate, masks_for}
use Rattle.hq_model.specs.Schema.{Schema, schema_of, schema_table, table}
use Rattle.hq_model.specs.SchemaNames.{names_differ}
use Rattle.hq_model.specs.declared.role.Role.{Role}
use Rattle.hq_model.specs.declared.role.Role.TheVariants.{Admin, Named}
use Rattle.hq_model.specs.declared.table.Table.{Table}
use Rattle.hq_model.proofs.Permitting.{permission_fits}
use Rattle.hq_model.proofs.Places.{table_present}
use Rattle.hq_copy_definition.specs.Sources.{Source, with_source, sources_in, sources, table_place}
use Rattle.hq_copy_definition.proofs.BySource.{IsSource}
use Rattle.hq_copy_definition.proofs.Found.{StandsFor, stands_for}
use Rattle.hq_copy_definition.proofs.Names.{has_columns}
use Rattle.hq_copy_definition.proofs.Apart.{Apart, differ_apart, apart_filter}
use Rattle.hq_copy_definition.proofs.Found.{schema_long}
use Rattle.hq_copy_definition.proofs.Lists.{each_of, each_both}

-- each entry is the one that is found by its table
tracked_first : (ks : List TrackedTree) → Apart (λ j k. j.table == k.table) ks → Each (λ k. find (λ j. j.table == k.table) ks ≡ Some k) ks
tracked_first [] h = tt
tracked_first (k ∷ ks) h =
    let here : (k.table == k.table) ≡ true = eq-eqb k.table k.table refl in (
      ap (λ b. cond b (Some k) (find (λ j. j.table == k.table) ks)) here,
      each_both (λ j. (k.table == j.table) ≡ false) (λ j. find (λ i. i.table == j.table) ks ≡ Some j) (λ j. find (λ i. i.table == j.table) (k ∷ ks) ≡ Some j)
          (λ j e f. ap (λ b. cond b (Some k) (find (λ i. i.table == j.table) ks)) e ∙ f) ks h.0 (tracked_first ks h.1),
    )

module _ (role : Role) (m : MetaTree) where
  -- what the entries have, their sources have
  pub each_source_in : (P : TrackedTree → Type 0) (Q : Source → Type 0) → ((k : TrackedTree) (p : Permission) → permission role m k.table ≡ Some p → P k → Q (record { entry = k; permission = p }))
      → (ks : List TrackedTree) → Each P ks → Each Q (sources_in role m ks)
  each_source_in P Q f [] h = tt
  each_source_in P Q f (k ∷ ks) h =
      let later = each_source_in P Q f ks h.1 in
      let go : (o : Option Permission) → permission role m k.table ≡ o → Each Q (with_source k o (sources_in role m ks)) =
      elim [ None ↦ λ e. later | Some p ↦ λ e. (f k p e h.0, later) ] in
      go (permission role m k.table) refl

  -- the tables of sources differ where those of entries do
  none_source : (t : ℕ) (ks : List TrackedTree) → Each (λ k. (t == k.table) ≡ false) ks → Each (λ o. (t == o.entry.table) ≡ false) (sources_in role m ks)
  none_source t ks h = each_source_in (λ k. (t == k.table) ≡ false) (λ o. (t == o.entry.table) ≡ false) (λ k p e g. g) ks h

  sources_differ : (ks : List TrackedTree) → Apart (λ j k. j.table == k.table) ks → Apart (λ (a b : Source). a.entry.table == b.entry.table) (sources_in role m ks)
  sources_differ [] h = tt
  sources_differ (k ∷ ks) h =
      let later = sources_differ ks h.1 in
      let go : (o : Option Permission) → Apart (λ (a b : Source). a.entry.table == b.entry.table) (with_source k o (sources_in role m ks)) =
      elim [ None ↦ later | Some p ↦ (none_source k.table ks h.0, later) ] in
      go (permission role m k.table)

-- the parts of an entry that fits
pub record FitsEntry (s : Schema) (m : MetaTree) (k : TrackedTree) : Type 0 where
  pub there : k.table < length s
  pub name : is_table_name k.name ≡ true
  pub long : length k.column_names ≡ length (table s k.table).columns
  pub roots : are_free_roots k.roots ≡ true
  pub rels : Each (λ r. fits_rel s m k.table r ≡ true) k.rels
  pub order : objects_first k.rels ≡ true
  pub perms : Each (λ p. fits_perm s m k.table p ≡ true) k.perms

fits_entry : (s : Schema) (m : MetaTree) (k : TrackedTree) → fits_tracked s m k ≡ true → FitsEntry s m k
fits_entry s m k h =
    let perms = and_parts _ _ h in
    let once = and_parts _ _ perms.0 in
    let order = and_parts _ _ once.0 in
    let rels = and_parts _ _ order.0 in
    let roots = and_parts _ _ rels.0 in
    let long = and_parts _ _ roots.0 in
    let name = and_parts _ _ long.0 in record {
      there = ltb-true k.table (length s) name.0;
      name = name.1;
      long = eqb-true _ _ long.1;
      roots = roots.1;
      rels = each_of (fits_rel s m k.table) k.rels rels.1;
      order = order.1;
      perms = each_of (fits_perm s m k.table) k.perms perms.1;
    }

-- ---- permitted columns are some of those with names, in their order

given_filter : (k : TrackedTree) (q : ℕ → Bool) (base p : Permission) → with_columns base (filter q (named_columns k)) ≡ Some p → (r : ℕ → Bool) × (p.columns ≡ filter r (named_columns k))
given_filter k q base p e = (q, given_is base p (filter q (named_columns k)) e)
  where
    given_is : (base p : Permission) (cs : List ℕ) → with_columns base cs ≡ Some p → p.columns ≡ cs
    given_is base p [] e = cc
    given_is base p (c ∷ cs) e = cc

all_filtered : (xs : List ℕ) → filter (λ x. true) xs ≡ xs
all_filtered [] = refl
all_filtered (x ∷ xs) = ap (λ l. x ∷ l) (all_filtered xs)

own_filtered : (k : TrackedTree) (name : List ℕ) (p : Permission) → own_permission k name ≡ Some p → (r : ℕ → Bool) × (p.columns ≡ filter r (named_columns k))
own_filtered k name p e =
    let go : (o : Option PermTree) → option_and_then (told_permission k) o ≡ Some p → (r : ℕ → Bool) × (p.columns ≡ filter r (named_columns k)) =
    elim [
      | None ↦ λ g. cc
      | Some q ↦ λ g. given_filter k (λ c. list_any (λ d. d == c) q.cols) (record { columns = []; filter = q.filter; limit = q.limit; aggregations = q.aggregations; masks = [] }) p g
    ] in
    go (find (λ q. bytes_eq q.role name) k.perms) e

pub filtered : (role : Role) (is : List Inherited) (k : TrackedTree) (p : Permission) → permission_in role is k ≡ Some p → (r : ℕ → Bool) × (p.columns ≡ filter r (named_columns k))
filtered Admin is k p e =
    given_filter k (λ c. true) (record { columns = []; filter = always; limit = None; aggregations = true; masks = [] }) p
    (ap (with_columns (record { columns = []; filter = always; limit = None; aggregations = true; masks = [] })) (all_filtered (named_columns k)) ∙ e)
filtered (Named name) is k p e =
    let go : (o : Option Permission) → own_permission k name ≡ o → or_inherited o k (set_of is name) ≡ Some p → (r : ℕ → Bool) × (p.columns ≡ filter r (named_columns k)) =
    elim [
      | None ↦ λ f g.
          let ps : List Permission = permissions_of k (set_of is name) in
          given_filter k (λ c. list_any (permits c) ps)
          (record { columns = []; filter = either (filters_of ps); limit = limit_of ps; aggregations = some_aggregate ps; masks = masks_for ps (columns_of_any k ps) }) p g
      | Some q ↦ λ f g. own_filtered k name p (f ∙ g)
    ] in
    go (own_permission k name) refl e

-- ---- sources of a metadata that fits

-- what a source stands for: its entry fits, its table is one of the catalog, and its permission is there
pub record Held (tables : List Table) (m : MetaTree) (role : Role) (o : Source) : Type 0 where
  pub is : IsSource role m o
  pub entry : FitsEntry (schema_of tables m) m o.entry
  pub allowed : IsPermission (schema_of tables m) o.entry.table o.permission
  pub given : permission_in role m.inherited o.entry ≡ Some o.permission
  pub filtered_by : (q : ℕ → Bool) × (o.permission.columns ≡ filter q (named_columns o.entry))
  pub origin : Table
  pub stands : slice_get tables o.entry.table ≡ Some origin
  pub table_is : table (schema_of tables m) o.entry.table ≡ schema_table m o.entry.table origin

-- ---- numbers of columns with names

named_least : (k : ℕ) (ns : List (List ℕ)) → Each (λ c. k ≤ c) (named_from k ns)
named_least k [] = tt
named_least k (n ∷ ns) =
    let later = each_weaken (λ c. suc k ≤ c) (λ c. k ≤ c) (λ c h. omega arith) (named_from (suc k) ns) (named_least (suc k) ns) in
    let here : k ≤ k = omega arith in
    let go : (b : Bool) → Each (λ c. k ≤ c) (cond b (k ∷ named_from (suc k) ns) (named_from (suc k) ns)) = elim [ true ↦ (here, later) | false ↦ later ] in
    go (is_free_name n)

named_apart : (k : ℕ) (ns : List (List ℕ)) → Apart (λ c d. c == d) (named_from k ns)
named_apart k [] = tt
named_apart k (n ∷ ns) =
    let later = named_apart (suc k) ns in
    let other = each_weaken (λ c. suc k ≤ c) (λ c. (k == c) ≡ false) (λ c h. ne_eqb k c (omega arith)) (named_from (suc k) ns) (named_least (suc k) ns) in
    let go : (b : Bool) → Apart (λ c d. c == d) (cond b (k ∷ named_from (suc k) ns) (named_from (suc k) ns)) = elim [ true ↦ (other, later) | false ↦ later ] in
    go (is_free_name n)

-- the numbers of permitted columns differ
pub columns_apart : (tables : List Table) (m : MetaTree) (role : Role) (o : Source) → Held tables m role o → Apart (λ c d. c == d) o.permission.columns
columns_apart tables m role o h =
    subst (Apart (λ c d. c == d)) (sym h.filtered_by.1) (apart_filter (λ c d. c == d) h.filtered_by.0 (named_columns o.entry) (named_apart 0 o.entry.column_names))

module _ (tables : List Table) (m : MetaTree) (role : Role) (fit : fits tables m ≡ true) where
  abbrev s : Schema
  s = schema_of tables m

  once : Apart (λ j k. j.table == k.table) m.tracked
  once = differ_apart (λ j k. j.table == k.table) m.tracked (and_parts _ _ (and_parts _ _ (and_parts _ _ fit).0).0).0

  entries_fit : Each (λ k. fits_tracked s m k ≡ true) m.tracked
  entries_fit = each_of (fits_tracked s m) m.tracked (and_parts _ _ (and_parts _ _ (and_parts _ _ fit).0).0).1

  pub names_of_fit : names_differ s m ≡ true
  names_of_fit = (and_parts _ _ (and_parts _ _ fit).0).1

  pub tables_differ : Apart (λ (a b : Source). a.entry.table == b.entry.table) (sources role m)
  tables_differ = sources_differ role m m.tracked once

  within : (t : ℕ) → t < length s → (x : Table) × (slice_get tables t ≡ Some x)
  within t less = got tables t (let same = schema_long m 0 tables in omega (arith, same))
    where
      got : (ts : List Table) (i : ℕ) → i < length ts → (x : Table) × (slice_get ts i ≡ Some x)
      got [] i l = absurd (omega arith)
      got (x ∷ xs) zero l = (x, refl)
      got (x ∷ xs) (suc i) l = got xs i (omega arith)

  held_one : (k : TrackedTree) (p : Permission) → permission role m k.table ≡ Some p → (fits_tracked s m k ≡ true) × (tracked_table m k.table ≡ Some k)
      → Held tables m role (record { entry = k; permission = p })
  held_one k p seen h =
      let at : StandsFor role m k.table p = stands_for role m k.table p seen in
      let same : at.entry ≡ k = let both : ◌≡◌ {A = Option TrackedTree} (Some at.entry) (Some k) = sym at.tracked ∙ h.1 in cc in
      let given : permission_in role m.inherited k ≡ Some p = subst (λ j. permission_in role m.inherited j ≡ Some p) same at.permitted in
      let entry = fits_entry s m k h.0 in
      let origin = within k.table entry.there in record {
        is = record {
          seen = seen;
          tracked = h.1;
          place = subst (λ j. slice_get (sources role m) (table_place (sources role m) k.table) ≡ Some (record { entry = j; permission = p })) same at.place;
          columns = has_columns role m.inherited k p given;
        };
        entry = entry;
        allowed = permission_fits tables m role k.table fit p seen;
        given = given;
        filtered_by = filtered role m.inherited k p given;
        origin = origin.0;
        stands = origin.1;
        table_is = table_present tables m k.table origin.0 origin.1;
      }

  pub all_held : Each (Held tables m role) (sources role m)
  all_held =
      each_source_in role m (λ k. (fits_tracked s m k ≡ true) × (tracked_table m k.table ≡ Some k)) (Held tables m role) held_one m.tracked
      (each_both (λ k. fits_tracked s m k ≡ true) (λ k. tracked_table m k.table ≡ Some k) (λ k. (fits_tracked s m k ≡ true) × (tracked_table m k.table ≡ Some k))
      (λ k a b. (a, b)) m.tracked entries_fit (tracked_first m.tracked once))
