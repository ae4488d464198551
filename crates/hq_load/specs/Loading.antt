-- What loading a directory gives: the catalog, the metadata and the rows of each table in the catalog's order, or the
-- first refusal in this order.
use Rattle.std.specs.Prelude.{ℕ, List, [], ◌∷◌, codes, Result, Ok, Err}
use Rattle.hq_base.specs.Due.{and_then, mapped, ◌>>=◌}
use Rattle.hq_io.specs.declared.files.File.{File}
use Rattle.hq_io.specs.declared.files.FileRefusal.{FileRefusal}
use Rattle.hq_io.specs.declared.files.FileRefusal.TheVariants as file
use Rattle.hq_model.specs.Database.{Row}
use Rattle.hq_model.specs.Meta.{MetaTree, meta_view}
use Rattle.hq_model.specs.declared.table.Table.{Table}
use Rattle.hq_load_catalog.specs.Reading.{catalog_due}
use Rattle.hq_load_catalog.specs.declared.refusal.CatalogRefusal.{CatalogRefusal}
use Rattle.hq_load_catalog.specs.declared.refusal.CatalogRefusal.TheVariants as catalog
use Rattle.hq_load_meta.specs.Reading.{meta_due}
use Rattle.hq_load_meta_tables.specs.declared.refusal.MetaRefusal.{MetaRefusal}
use Rattle.hq_load_meta_tables.specs.declared.refusal.MetaRefusal.TheVariants as meta
use Rattle.hq_load_tables.specs.Load.{table_due}
use Rattle.hq_load_tables.specs.declared.load.refusal.LoadRefusal.{LoadRefusal}
use Rattle.hq_load_tables.specs.declared.load.refusal.LoadRefusal.TheVariants as table
use Rattle.hq_load.specs.Directory.{file_due, table_file}
use Rattle.hq_load.specs.declared.loaded.Description.{Description}
use Rattle.hq_load.specs.declared.loaded.Loaded.{Loaded}
use Rattle.hq_load.specs.declared.file_fault.FileFault.TheVariants as fault
use Rattle.hq_load.specs.declared.refusal.LoadingRefusal.{LoadingRefusal}
use Rattle.hq_load.specs.declared.refusal.LoadingRefusal.TheVariants as loading

-- the refusal under f
abbrev pub refused_as : {X E F : Type 0} → (E → F) → Result X E → Result X F
refused_as f (Ok x) = Ok x
refused_as f (Err e) = Err (f e)

-- what a refused load, or the refusal of a file's reader, is to the directory
abbrev pub file_refused : (file : List ℕ) → FileRefusal → LoadingRefusal
file_refused name file.Missing = loading.File name fault.Missing
file_refused name file.TooLarge = loading.File name fault.TooLarge
file_refused name file.Failed = loading.Failed
file_refused name file.Memory = loading.Memory

abbrev pub catalog_refused : (file : List ℕ) → CatalogRefusal → LoadingRefusal
catalog_refused name catalog.Memory = loading.Memory
catalog_refused name refusal = loading.File name (fault.Catalog refusal)

abbrev pub table_refused : (file : List ℕ) → LoadRefusal → LoadingRefusal
table_refused name table.Memory = loading.Memory
table_refused name refusal = loading.File name (fault.Table refusal)

abbrev pub meta_refused : (file : List ℕ) → MetaRefusal → LoadingRefusal
meta_refused name meta.Memory = loading.Memory
meta_refused name refusal = loading.File name (fault.Meta refusal)

abbrev pub catalog_file : List ℕ
catalog_file = codes "catalog.json"

abbrev pub meta_file : List ℕ
meta_file = codes "metadata.json"

-- the tables of the directory's catalog
abbrev pub catalog_in : List File → (dir : List ℕ) → Result (List Table) LoadingRefusal
catalog_in files dir = and_then (λ bytes. refused_as (catalog_refused catalog_file) (catalog_due bytes)) (refused_as (file_refused catalog_file) (file_due files dir catalog_file))

-- the directory's metadata, over these tables
abbrev pub meta_in : List File → (dir : List ℕ) → List Table → Result MetaTree LoadingRefusal
meta_in files dir tables = and_then (λ bytes. refused_as (meta_refused meta_file) (meta_due tables bytes)) (refused_as (file_refused meta_file) (file_due files dir meta_file))

-- the rows of a table of the directory
abbrev pub rows_in : List File → (dir : List ℕ) → Table → Result (List Row) LoadingRefusal
rows_in files dir t = and_then (λ bytes. refused_as (table_refused (table_file t)) (table_due t bytes)) (refused_as (file_refused (table_file t)) (file_due files dir (table_file t)))

-- the values of f, or the first refusal
abbrev pub each_due : {X Y E : Type 0} → (X → Result Y E) → List X → Result (List Y) E
each_due f [] = Ok []
each_due f (x ∷ xs) = and_then (λ y. mapped (λ ys. y ∷ ys) (each_due f xs)) (f x)

-- what a directory holds
pub record Contents : Type 0 where
  pub tables : List Table
  pub meta : MetaTree
  pub rows : List (List Row)

abbrev pub contents : List Table → MetaTree → List (List Row) → Contents
contents tables meta rows = record { tables = tables; meta = meta; rows = rows }

-- what a directory describes: a catalog, and metadata for it
pub record Described : Type 0 where
  pub tables : List Table
  pub meta : MetaTree

abbrev pub described : List Table → MetaTree → Described
described tables meta = record { tables = tables; meta = meta }

-- what loading the description gives
abbrev pub description_due : List File → (dir : List ℕ) → Result Described LoadingRefusal
description_due files dir = catalog_in files dir >>= λ tables. mapped (described tables) (meta_in files dir tables)

-- what loading a directory gives
abbrev pub loading_due : List File → (dir : List ℕ) → Result Contents LoadingRefusal
loading_due files dir = description_due files dir >>= λ d. mapped (contents d.tables d.meta) (each_due (rows_in files dir) d.tables)

-- what is loaded, as it is seen
abbrev pub description_view : Description → Described
description_view loaded = described loaded.catalog.tables (meta_view loaded.meta)

abbrev pub loaded_view : Loaded → Contents
loaded_view loaded = contents loaded.catalog.tables (meta_view loaded.meta) loaded.rows
