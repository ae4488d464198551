-- The generated database is one of its catalog, and the metadata fits it.
use Rattle.std.proofs.Common.{◌≡◌, ℕ, ◌+◌, ◌*◌, ◌%◌, ◌==◌, ◌<◌, ◌≤◌, ◌^◌, [], ◌∷◌, ◌++◌, length, Bool, true, false, ◌&&◌, nat_lt, pos, arith, refl}
use Rattle.std.specs.Fmt.{decimal}
use Rattle.std.specs.List.{list_all}
use Rattle.std.specs.Prelude.{codes}
use Rattle.std.specs.Cmp.{first_so}
use Rattle.std.proofs.lemmas.Bool.{and_from, false_from_ne_true, lt-ltb}
use Rattle.std.proofs.lemmas.Nat.{mod_below}
use Rattle.hq_base.proofs.Orders.{same_value}
use Rattle.hq_base.specs.Cells.{same_cell, int}
use Rattle.hq_base.specs.Lists.{all_differ}
use Rattle.hq_base.specs.declared.value.Ty.TheVariants.{Integer, Bigint, Text}
use Rattle.hq_base.specs.declared.value.Val.{Val}
use Rattle.hq_base.specs.declared.value.Val.TheVariants as val
use Rattle.hq_terms.specs.Catalog.{is_catalog}
use Rattle.hq_terms.specs.Database.{Row, are_rows, is_database, key_of, row_fits, same_values, value_fits}
use Rattle.hq_terms.specs.Fits.{fits}
use Rattle.hq_terms.specs.declared.table.Column.{Column}
use Rattle.hq_terms.specs.declared.table.Table.{Table}
use Rattle.hq_generator.specs.Metadata.{metadata}
use Rattle.hq_generator.specs.Rows.{article_row, author_row, number, or_null, rows, rows_to}
use Rattle.hq_generator.specs.Tables.{article_table, author_table, column_of, tables}
use Rattle.hq_generator.proofs.Numbered.{rows_count, rows_differ, rows_pass}

pub catalog_valid : is_catalog tables ≡ true
catalog_valid = refl

pub metadata_fits : fits tables metadata ≡ true
metadata_fits = refl

-- keys of different numbers differ
numbers_differ : (i j : ℕ) → i < j → same_values (number i ∷ []) (number j ∷ []) ≡ false
numbers_differ i j lt =
    false_from_ne_true (same_values (number i ∷ []) (number j ∷ [])) (λ h.
    let same : number i ≡ number j = same_value (number i) (number j) (first_so (same_cell (int (pos i)) (int (pos j))) true h) in
    let one : i ≡ j = cc in
    omega (arith, one, lt))

-- numbered rows that fit their table
valid_rows : (t : Table) (row : ℕ → Row) (count : ℕ) → count ≤ 400000 → ((i : ℕ) → i ≤ count → row_fits t.columns (row i) ≡ true)
    → ((i j : ℕ) → i < j → same_values (key_of t (row i)) (key_of t (row j)) ≡ false) → are_rows t (rows_to row count) ≡ true
valid_rows t row count few fit differ =
    let all = rows_to row count in
    let short = nat_lt (length all) (2 ^ 31) in
    let each = list_all (row_fits t.columns) all in
    and_from (short && each) (all_differ (λ x y. same_values (key_of t x) (key_of t y)) all)
    (and_from short each (lt-ltb (length all) (2 ^ 31) (omega (arith, rows_count row count, few))) (rows_pass (row_fits t.columns) row count fit))
    (rows_differ (λ x y. same_values (key_of t x) (key_of t y)) row count differ)

-- a value, or NULL where the column may hold it
nullable_fits : (c : Column) (b : Bool) (v : Val) → c.nullable ≡ true → value_fits c v ≡ true → value_fits c (or_null b v) ≡ true
nullable_fits c true v h k = h
nullable_fits c false v h k = k

small : (n : ℕ) → n ≤ 400000 → nat_lt n (2 ^ 31) ≡ true
small n few = lt-ltb n (2 ^ 31) (omega (arith, few))

small_wide : (n : ℕ) → n ≤ 400000 → nat_lt n (2 ^ 63) ≡ true
small_wide n few = lt-ltb n (2 ^ 63) (omega (arith, few))

three : (a b c : Bool) → a ≡ true → b ≡ true → c ≡ true → (a && (b && (c && true))) ≡ true
three a b c h k l = cc

five : (a b c d e : Bool) → a ≡ true → b ≡ true → c ≡ true → d ≡ true → e ≡ true → (a && (b && (c && (d && (e && true))))) ≡ true
five a b c d e h k l m n = cc

author_fits : (i : ℕ) → i ≤ 400000 → row_fits author_table.columns (author_row i) ≡ true
author_fits i few = three _ _ _ (small i few) refl (nullable_fits (column_of (codes "email") Text true) ((i % 3) == 0) (val.Text ((codes "e" ++ decimal i) ++ codes "@x")) refl refl)

article_fits : (authors i : ℕ) → 1 ≤ authors → authors ≤ 100000 → i ≤ 400000 → row_fits article_table.columns (article_row authors i) ≡ true
article_fits authors i some few number_few =
    let below : (i * 31) % authors < authors = mod_below (i * 31) authors (omega (arith, some)) in
    let digit : i % 10 < 10 = mod_below i 10 (omega arith) in
    five _ _ _ _ _ (small i number_few)
    (nullable_fits (column_of (codes "author_id") Integer true) ((i % 7) == 0) (number ((i * 31) % authors + 1)) refl
    (small ((i * 31) % authors + 1) (omega (arith, below, few))))
    refl refl
    (nullable_fits (column_of (codes "rating") Bigint true) ((i % 5) == 0) (number (i % 10)) refl (small_wide (i % 10) (omega (arith, digit))))

pub authors_valid : (authors : ℕ) → authors ≤ 100000 → are_rows author_table (rows_to author_row authors) ≡ true
authors_valid authors few =
    valid_rows author_table author_row authors (omega (arith, few)) (λ i le. author_fits i (omega (arith, le, few))) numbers_differ

pub articles_valid : (authors : ℕ) → 1 ≤ authors → authors ≤ 100000 → are_rows article_table (rows_to (article_row authors) (4 * authors)) ≡ true
articles_valid authors some few =
    valid_rows article_table (article_row authors) (4 * authors) (omega (arith, few)) (λ i le. article_fits authors i some few (omega (arith, le, few))) numbers_differ

pub database_valid : (authors : ℕ) → 1 ≤ authors → authors ≤ 100000 → is_database tables (rows authors) ≡ true
database_valid authors some few =
    let first = are_rows author_table (rows_to author_row authors) in
    let second = are_rows article_table (rows_to (article_row authors) (4 * authors)) in
    and_from first (second && true) (authors_valid authors few) (and_from second true (articles_valid authors some few) refl)
