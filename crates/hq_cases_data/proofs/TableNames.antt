-- The tables of a catalog.
use Rattle.std.proofs.Common.{◌≡◌, List, [], ◌∷◌, length, Some, true, ◌&&◌, nat_lt, nat_le, ◌==◌, bytes_eq, subst, slice_get}
use Rattle.std.specs.List.{list_all}
use Rattle.std.specs.Cmp.{first_so, second_so}
use Rattle.hq_base.specs.Lists.{all_differ}
use Rattle.hq_model.specs.Catalog.{is_catalog, is_catalog_name, is_table, is_foreign_key, is_key_column, full_name}
use Rattle.hq_model.specs.declared.table.Table.{Table}
use Rattle.hq_load_tables.specs.Header.{names_differ}

-- the columns of a table of a catalog have different names
is_table-names : (tables : List Table) (t : Table) → is_table tables t ≡ true → names_differ t.columns ≡ true
is_table-names tables t h =
    let front = is_catalog_name t.schema && is_catalog_name t.name && nat_lt 0 (length t.columns) && nat_le (length t.columns) 200 && list_all (λ c. is_catalog_name c.name) t.columns in
    let differ = names_differ t.columns in
    let one = nat_lt 0 (length t.key) in
    let keys = all_differ (λ c d. c == d) t.key in
    let full = list_all (λ c. is_key_column (slice_get t.columns c)) t.key in
    let foreign = list_all (is_foreign_key tables t) t.foreign in
    second_so front differ
    (first_so (front && differ) one
    (first_so (front && differ && one) keys
    (first_so (front && differ && one && keys) full (first_so (front && differ && one && keys && full) foreign h))))

-- those of its first table do
pub first-names : (tables : List Table) (t : Table) → is_catalog tables ≡ true → slice_get tables 0 ≡ Some t → names_differ t.columns ≡ true
first-names [] t h is = absurd cc
first-names (u ∷ us) t h is =
    let all : list_all (is_table (u ∷ us)) (u ∷ us) ≡ true =
    second_so (nat_le (length (u ∷ us)) 500 && all_differ (λ v w. bytes_eq (full_name v) (full_name w)) (u ∷ us))
    (list_all (is_table (u ∷ us)) (u ∷ us)) h in
    let first : names_differ u.columns ≡ true = is_table-names (u ∷ us) u (first_so (is_table (u ∷ us) u) (list_all (is_table (u ∷ us)) us) all) in
    let same : u ≡ t = cc in
    subst (λ v. names_differ v.columns ≡ true) same first
