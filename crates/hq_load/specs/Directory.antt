-- The files of a directory: `catalog.json`, `metadata.json`, and `SCHEMA.TABLE.csv` for each table of the catalog.
use Rattle.std.specs.Prelude.{ℕ, List, ◌++◌, length, nat_lt, codes, Option, Some, None, Result, Ok, Err, if◌then◌else◌}
use Rattle.hq_io.specs.Folder.{file_named}
use Rattle.hq_io.specs.declared.files.File.{File}
use Rattle.hq_io.specs.declared.files.FileRefusal.{FileRefusal}
use Rattle.hq_io.specs.declared.files.FileRefusal.TheVariants.{Missing, TooLarge}
use Rattle.hq_io.specs.declared.files.TheConstants.{LARGEST_FILE}
use Rattle.hq_model.specs.Catalog.{full_name}
use Rattle.hq_model.specs.declared.table.Table.{Table}

-- a file's name, and the name under which it is loaded
abbrev pub path_in : (dir file : List ℕ) → List ℕ
path_in dir file = dir ++ codes "/" ++ file

abbrev pub table_file : Table → List ℕ
table_file table = full_name table ++ codes ".csv"

-- what is loaded under a name, where the folder has this there
abbrev pub held_due : Option (List ℕ) → Result (List ℕ) FileRefusal
held_due None = Err Missing
held_due (Some bytes) = if nat_lt LARGEST_FILE (length bytes) then Err TooLarge else Ok bytes

-- what is loaded of a directory's file
abbrev pub file_due : List File → (dir file : List ℕ) → Result (List ℕ) FileRefusal
file_due files dir file = held_due (file_named (path_in dir file) files)
