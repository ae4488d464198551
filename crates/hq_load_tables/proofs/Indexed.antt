-- Rows held in a grid, with indexes over them.
use Rattle.std.proofs.Common.{◌≡◌, ℕ, zero, suc, ◌^◌, ◌<◌, List, [], ◌∷◌, ◌++◌, length, get_or, true, ◌&&◌, refl, ap, arith}
use Rattle.std.specs.Prelude.{nat_lt}
use Rattle.std.specs.List.{list_all}
use borrow.Author.Tests.{ltb-true}
use Rattle.std.proofs.lemmas.Bool.{and_parts, false≢true}
use Rattle.hq_base.specs.Lists.{Each, all_differ}
use Rattle.hq_model.specs.declared.table.Column.{Column}
use Rattle.hq_model.specs.declared.table.Table.{Table}
use Rattle.hq_model.specs.Database.{Row, value_fits, row_fits, are_rows, key_of, same_values}
use Rattle.hq_load_index.specs.Indexes.{IsOver}
use Rattle.hq_load_index.specs.declared.index.Index.{Index}

-- an index more
pub over_more : (rows : List Row) (indexes : List Index) (index : Index) → ((i : ℕ) (d : Index) → i < length indexes → IsOver rows (get_or indexes i d)) → IsOver rows index
    → (i : ℕ) (d : Index) → i < length (indexes ++ index ∷ []) → IsOver rows (get_or (indexes ++ index ∷ []) i d)
over_more rows [] index all one zero d lt = one
over_more rows [] index all one (suc i) d lt = absurd (omega arith)
over_more rows (x ∷ xs) index all one zero d lt = all 0 d (omega arith)
over_more rows (x ∷ xs) index all one (suc i) d lt = over_more rows xs index (λ j e below. all (suc j) e (omega arith)) one i d (omega arith)

-- a row that fits has a value for each column
fits_long : (cs : List Column) (row : Row) → row_fits cs row ≡ true → length row ≡ length cs
fits_long [] [] e = refl
fits_long [] (v ∷ vs) e = absurd (false≢true e)
fits_long (c ∷ cs) [] e = absurd (false≢true e)
fits_long (c ∷ cs) (v ∷ vs) e = ap suc (fits_long cs vs (and_parts (value_fits c v) (row_fits cs vs) e).1)

all_long : (cs : List Column) (rows : List Row) → list_all (row_fits cs) rows ≡ true → Each (λ row. length row ≡ length cs) rows
all_long cs [] e = tt
all_long cs (row ∷ rows) e =
    let both = and_parts (row_fits cs row) (list_all (row_fits cs) rows) e in
    (fits_long cs row both.0, all_long cs rows both.1)

-- the rows of a table are as long as it has columns
pub rows_long : (t : Table) (rows : List Row) → are_rows t rows ≡ true → Each (λ row. length row ≡ length t.columns) rows
rows_long t rows e =
    let few = nat_lt (length rows) (2 ^ 31) in
    let fit = list_all (row_fits t.columns) rows in
    let differ = all_differ (λ x y. same_values (key_of t x) (key_of t y)) rows in
    all_long t.columns rows (and_parts few fit (and_parts (few && fit) differ e).0).1

-- and fewer than 2 ^ 31
pub rows_few : (t : Table) (rows : List Row) → are_rows t rows ≡ true → length rows < 2 ^ 31
rows_few t rows e =
    let few = nat_lt (length rows) (2 ^ 31) in
    let fit = list_all (row_fits t.columns) rows in
    let differ = all_differ (λ x y. same_values (key_of t x) (key_of t y)) rows in
    ltb-true (length rows) (2 ^ 31) (and_parts few fit (and_parts (few && fit) differ e).0).0
