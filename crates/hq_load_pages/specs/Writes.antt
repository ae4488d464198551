-- What is written to a disk, page behind page.
use Rattle.std.specs.Prelude.{◌≡◌, ℕ, ◌*◌, List, ◌++◌, length}
use Rattle.std.specs.declared.option.Option.{Option}
use Rattle.std.specs.declared.option.Option.TheVariants.{Some}
use Rattle.hq_model.specs.Database.{Row}
use Rattle.hq_model.specs.declared.table.Table.{Table}
use Rattle.hq_load_pages.specs.Directory.{rows_of_run, tables_read}
use Rattle.hq_load_pages.specs.Held.{due_run, WhereTold}
use Rattle.hq_load_pages.specs.declared.header.Header.{Header}
use Rattle.hq_load_pages.specs.declared.table_run.TableRun.{TableRun}

-- the disk has more pages than it had, whose pieces are these bytes
abbrev pub Wrote : (old : Option (List ℕ)) → (headers more : List Header) → (bytes held : List ℕ) → Type 0
Wrote old headers more bytes held =
    (before : List ℕ) × (added : List Header) × (pages : List ℕ)
    × (old ≡ Some before) × (more ≡ headers ++ added) × (held ≡ before ++ pages) × (length pages ≡ 4096 * length added) × (due_run added pages 0 (length added) ≡ Some bytes)

-- it has more pages, whose pieces are a run of these rows
abbrev pub WroteRows : (old new : Option (List ℕ)) → (headers more : List Header) → Table → TableRun → List Row → Type 0
WroteRows old new headers more t run rows = (bytes : List ℕ) × WhereTold new (Wrote old headers more bytes) × (rows_of_run t run.rows bytes ≡ Some rows)

-- all pages of a disk are due, and these tables read from it as these rows
abbrev pub Stores : List Header → List TableRun → List Table → List (List Row) → (held : List ℕ) → Type 0
Stores headers runs tables all held = (length held ≡ 4096 * length headers) × (tables_read headers held tables runs ≡ Some all)
