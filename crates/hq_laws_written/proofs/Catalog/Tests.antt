-- A written catalog passes each test of a catalog file.
use Rattle.std.proofs.Common.{◌≡◌, ◌∙◌, ℕ, ◌==◌, nat_lt, nat_le, ◌++◌, List, [], ◌∷◌, length, map, Bool, true, false, not, None, find, bytes_eq, option_map, slice_get, refl, sym, ap, arith, ne_eqb, eq-eqb, ltb-true, append_assoc}
use Rattle.std.specs.List.{list_all, list_any}
use Rattle.std.proofs.lemmas.Bool.{and_parts, or_parts, true≢false}
use Rattle.std.proofs.lemmas.Bool.Decides.{nat_tests}
use Rattle.std.proofs.lemmas.List.{length-map}
use Rattle.hq_base.specs.Lists.{Each, all_differ}
use Rattle.hq_base.proofs.Lists.{each_weaken}
use Rattle.hq_model.specs.Catalog as catalog
use Rattle.hq_model.specs.Catalog.{is_catalog_name, is_table, is_foreign_key, is_key_column}
use Rattle.hq_model.specs.declared.table.Column.{Column}
use Rattle.hq_model.specs.declared.table.Table.{Table}
use Rattle.hq_load_catalog.specs.Field.{field_name}
use Rattle.hq_load_catalog.specs.Limits.{too_many, too_many_tables, too_many_columns, declared_names, wrong_length}
use Rattle.hq_load_catalog.specs.Repeats.{full_name, first_repeat, repeat_within, repeat_from, repeated, no_key}
use Rattle.hq_load_catalog.specs.declared.field.Field.TheVariants as field
use Rattle.hq_load_catalog.specs.declared.refusal.CatalogRefusal.TheVariants.{TooMany, NameLength, Repeated, NoKey}
use Rattle.hq_load_catalog.specs.declared.written.WrittenTable.{WrittenTable}
use Rattle.hq_laws_written.specs.Catalog.Written.{name_at}
use Rattle.hq_laws_written.proofs.Catalog.Lists.{not_true, each_true, find_none, find_none_flat, none_before, differ_map}
use Rattle.hq_laws_written.proofs.Catalog.Places.{IsPlace, IsKeyPlace, key_place, differ, key_places, one_place}
use Rattle.hq_laws_written.proofs.Catalog.Shapes.{written}

-- what a table of a catalog has
pub record IsGood (tables : List Table) (t : Table) : Type 0 where
  pub schema : is_catalog_name t.schema ≡ true
  pub name : is_catalog_name t.name ≡ true
  pub some : nat_lt 0 (length t.columns) ≡ true
  pub few : nat_le (length t.columns) 200 ≡ true
  pub names : list_all (λ c. is_catalog_name c.name) t.columns ≡ true
  pub differ : differ t.columns ≡ true
  pub keyed : nat_lt 0 (length t.key) ≡ true
  pub apart : all_differ (λ c d. c == d) t.key ≡ true
  pub no_null : list_all (λ c. is_key_column (slice_get t.columns c)) t.key ≡ true
  pub foreign : list_all (is_foreign_key tables t) t.foreign ≡ true

good : (tables : List Table) (t : Table) → is_table tables t ≡ true → IsGood tables t
good tables t h =
    let a = and_parts _ _ h in
    let b = and_parts _ _ a.0 in
    let c = and_parts _ _ b.0 in
    let d = and_parts _ _ c.0 in
    let e = and_parts _ _ d.0 in
    let f = and_parts _ _ e.0 in
    let g = and_parts _ _ f.0 in
    let i = and_parts _ _ g.0 in
    let j = and_parts _ _ i.0 in
    record { schema = j.0; name = j.1; some = i.1; few = g.1; names = f.1; differ = e.1; keyed = d.1; apart = c.1; no_null = b.1; foreign = a.1 }

pub all_good : (tables ts : List Table) → list_all (is_table tables) ts ≡ true → Each (IsGood tables) ts
all_good tables [] h = tt
all_good tables (t ∷ ts) h = let p = and_parts _ _ h in (good tables t p.0, all_good tables ts p.1)

-- ---- how many

not_more : (n most : ℕ) → nat_le n most ≡ true → nat_lt most n ≡ false
not_more n most h = grind (arith, nat_tests)

not_zero : (n : ℕ) → nat_lt 0 n ≡ true → (n == 0) ≡ false
not_zero n h = let some = ltb-true 0 n h in ne_eqb n 0 (λ z. omega (arith, z, some))

pub few_tables : (tables : List Table) → nat_le (length tables) 500 ≡ true → too_many_tables (map (written tables) tables) ≡ None
unfolding too_many_tables
few_tables tables h = rw (length-map tables (written tables), not_more (length tables) 500 h) refl

few_columns : (tables ts : List Table) → Each (IsGood tables) ts → too_many_columns (map (written tables) ts) ≡ None
unfolding too_many_columns
few_columns tables ts h =
    ap (option_map (λ (w : WrittenTable). TooMany (field_name field.Columns) (length w.columns)))
    (find_none (λ (w : WrittenTable). nat_lt 200 (length w.columns)) (written tables) ts
    (each_weaken (IsGood tables) (λ t. nat_lt 200 (length t.columns) ≡ false) (λ t g. not_more (length t.columns) 200 g.few) ts h))

pub not_too_many : (tables : List Table) → nat_le (length tables) 500 ≡ true → Each (IsGood tables) tables → too_many (map (written tables) tables) ≡ None
not_too_many tables few h = rw (few_tables tables few) (few_columns tables tables h)

-- ---- lengths

-- the names of one table have a right length
names_right : (tables : List Table) (t : Table) → IsGood tables t → find (λ name. not (is_catalog_name name)) (declared_names (written tables t)) ≡ None
names_right tables t g =
    rw (g.schema, g.name) (find_none (λ name. not (is_catalog_name name)) (λ (c : Column). c.name) t.columns
    (each_weaken (λ (c : Column). is_catalog_name c.name ≡ true) (λ c. not (is_catalog_name c.name) ≡ false) (λ c h. ap not h) t.columns
    (each_true (λ (c : Column). is_catalog_name c.name) t.columns g.names)))

all_right : (tables ts : List Table) → Each (IsGood tables) ts → Each (λ w. find (λ name. not (is_catalog_name name)) (declared_names w) ≡ None) (map (written tables) ts)
all_right tables [] h = tt
all_right tables (t ∷ ts) h = (names_right tables t h.0, all_right tables ts h.1)

pub right_lengths : (tables ts : List Table) → Each (IsGood tables) ts → wrong_length (map (written tables) ts) ≡ None
unfolding wrong_length
right_lengths tables ts h = ap (option_map NameLength) (find_none_flat (λ name. not (is_catalog_name name)) declared_names (map (written tables) ts) (all_right tables ts h))

-- ---- repeats

-- names that differ from those before them and from each other have no repeat
no_repeat : (earlier names : List (List ℕ)) → all_differ bytes_eq (earlier ++ names) ≡ true → first_repeat earlier names ≡ None
no_repeat earlier [] h = refl
no_repeat earlier (name ∷ names) h =
    rw (none_before bytes_eq earlier names name h) (no_repeat (earlier ++ name ∷ []) names (rw (append_assoc earlier (name ∷ []) names) h))

-- the names of different key columns differ
pub key_names : (columns : List Column) (key : List ℕ) → differ columns ≡ true → all_differ (λ c d. c == d) key ≡ true
    → Each (IsPlace columns) key → all_differ bytes_eq (map (name_at columns) key) ≡ true
key_names columns key h apart there = differ_map bytes_eq (name_at columns) key ∙ go key apart there
  where
    others : (k : ℕ) (ks : List ℕ) → IsPlace columns k → Each (IsPlace columns) ks → list_any (λ d. k == d) ks ≡ false → list_any (λ d. bytes_eq (name_at columns k) (name_at columns d)) ks ≡ false
    others k [] here there none = refl
    others k (d ∷ ds) here there none =
        let parts = or_parts (k == d) _ none in
        let one : (b : Bool) → bytes_eq (name_at columns k) (name_at columns d) ≡ b → b ≡ false = elim [
          | true ↦ λ e. absurd (true≢false (sym (eq-eqb k d (one_place columns k d h here there.0 e)) ∙ parts.0))
          | false ↦ λ e. refl
        ] in
        rw (one (bytes_eq (name_at columns k) (name_at columns d)) refl) (others k ds here there.1 parts.1)

    go : (ks : List ℕ) → all_differ (λ c d. c == d) ks ≡ true → Each (IsPlace columns) ks → all_differ (λ c d. bytes_eq (name_at columns c) (name_at columns d)) ks ≡ true
    go [] apart there = refl
    go (k ∷ ks) apart there =
        let p = and_parts _ _ apart in
        rw (others k ks there.0 there.1 (not_true _ p.0)) (go ks p.1 there.1)

none_within : (tables : List Table) (t : Table) → IsGood tables t → repeat_within (written tables t) ≡ None
unfolding repeat_within
none_within tables t g =
    let columns = no_repeat [] (map (λ (c : Column). c.name) t.columns) (differ_map bytes_eq (λ (c : Column). c.name) t.columns ∙ g.differ) in
    let there = each_weaken (IsKeyPlace t.columns) (IsPlace t.columns) (key_place t.columns) t.key (key_places t.columns t.key g.no_null) in
    let key = no_repeat [] (map (name_at t.columns) t.key) (key_names t.columns t.key g.differ g.apart there) in
    rw columns key

none_from : (tables : List Table) (earlier : List (List ℕ)) (ts : List Table)
    → all_differ bytes_eq (earlier ++ map catalog.full_name ts) ≡ true → Each (IsGood tables) ts
    → repeat_from earlier (map (written tables) ts) ≡ None
none_from tables earlier [] h g = refl
none_from tables earlier (t ∷ ts) h g =
    let name = catalog.full_name t in
    rw (none_before bytes_eq earlier (map catalog.full_name ts) name h, none_within tables t g.0)
    (none_from tables (earlier ++ name ∷ []) ts (rw (append_assoc earlier (name ∷ []) (map catalog.full_name ts)) h) g.1)

pub none_repeated : (tables ts : List Table) → all_differ (λ t u. bytes_eq (catalog.full_name t) (catalog.full_name u)) ts ≡ true → Each (IsGood tables) ts → repeated (map (written tables) ts) ≡ None
unfolding repeated
none_repeated tables ts h g = ap (option_map Repeated) (none_from tables [] ts (differ_map bytes_eq catalog.full_name ts ∙ h) g)

-- ---- keys

key_there : (tables : List Table) (t : Table) → IsGood tables t → (length (map (name_at t.columns) t.key) == 0) ≡ false
key_there tables t g = rw (length-map t.key (name_at t.columns)) (not_zero (length t.key) g.keyed)

pub each_keyed : (tables ts : List Table) → Each (IsGood tables) ts → no_key (map (written tables) ts) ≡ None
unfolding no_key
each_keyed tables ts h =
    ap (option_map (λ (w : WrittenTable). NoKey (full_name w)))
    (find_none (λ (w : WrittenTable). length w.key == 0) (written tables) ts
    (each_weaken (IsGood tables) (λ t. (length (map (name_at t.columns) t.key) == 0) ≡ false) (key_there tables) ts h))
