-- Where the rows of tables lie among the pages of a disk, and which rows these are.
use Rattle.std.specs.Prelude.{ℕ, ◌+◌, ◌*◌, ◌^◌, List, [], ◌∷◌, length, Bool, false, ◌&&◌, nat_le, nat_lt, option_map}
use Rattle.std.specs.declared.option.Option.{Option}
use Rattle.std.specs.declared.option.Option.TheVariants.{None, Some}
use Rattle.std.specs.List.{list_all}
use Rattle.std.specs.Option.{option_and_then}
use Rattle.hq_model.specs.Database.{Row, are_rows, is_database}
use Rattle.hq_model.specs.declared.table.Table.{Table}
use Rattle.hq_load_tables.specs.Tested.{rows_of_values}
use Rattle.hq_load_pages.specs.Held.{due_run}
use Rattle.hq_load_pages.specs.Runs.{cells_of}
use Rattle.hq_load_pages.specs.declared.header.Header.{Header}
use Rattle.hq_load_pages.specs.declared.table_run.TableRun.{TableRun}

-- so many rows of a table, where the bytes are exactly those of their cells
abbrev pub rows_of_run : Table → (count : ℕ) → List ℕ → Option (List Row)
rows_of_run t count bytes = option_map (rows_of_values t count) (cells_of (count * length t.columns) bytes)

-- the rows of a table, where its pages are due and have the cells of so many rows
abbrev pub table_read : List Header → List ℕ → Table → TableRun → Option (List Row)
table_read headers held t run = option_and_then (rows_of_run t run.rows) (due_run headers held run.first run.pages)

-- the rows of each table, where all read
abbrev pub tables_read : List Header → List ℕ → List Table → List TableRun → Option (List (List Row))
tables_read headers held [] [] = Some []
tables_read headers held (t ∷ ts) (run ∷ runs) = option_and_then (λ rows. option_map (λ all. rows ∷ all) (tables_read headers held ts runs)) (table_read headers held t run)
tables_read headers held _ _ = None

-- what was read are valid rows of the table
abbrev pub reads_rows : Table → Option (List Row) → Bool
reads_rows t None = false
reads_rows t (Some rows) = are_rows t rows

-- what was read is a database for the catalog
abbrev pub reads_database : List Table → Option (List (List Row)) → Bool
reads_database ts None = false
reads_database ts (Some all) = is_database ts all

-- the pages of each run are among so many, and it has fewer than 2 ^ 31 rows
abbrev pub are_inside : (pages : ℕ) → List TableRun → Bool
are_inside pages runs = list_all (λ run. nat_le (run.first + run.pages) pages && nat_lt run.rows (2 ^ 31)) runs
