-- What a layout tells of its file.
use Rattle.std.specs.Prelude.{ℕ, List, map}
use Rattle.csv.specs.Records.{fields_of}
use Rattle.hq_model.specs.declared.table.Column.{Column}
use Rattle.hq_load_tables.specs.declared.load.layout.Layout.{Layout}

-- the names of the header
abbrev pub names_of : Layout → List (List ℕ)
names_of l = fields_of l.header.now

-- the columns, in the file's order
abbrev pub columns_of : Layout → List Column
columns_of l = map (λ c. c.now) l.columns.items
