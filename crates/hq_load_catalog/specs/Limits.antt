-- How many tables and columns a catalog may have, and how long its names may be.
use Rattle.std.specs.Prelude.{ℕ, List, ◌∷◌, length, map, nat_lt, not, Option, Some, None, option_map, if◌then◌else◌}
use Rattle.std.specs.List.{find, flat_map}
use Rattle.std.specs.Option.{option_or}
use Rattle.hq_model.specs.Catalog.{is_catalog_name}
use Rattle.hq_load_catalog.specs.declared.field.Field.TheVariants.{Tables, Columns}
use Rattle.hq_load_catalog.specs.declared.refusal.CatalogRefusal.{CatalogRefusal}
use Rattle.hq_load_catalog.specs.declared.refusal.CatalogRefusal.TheVariants.{TooMany, NameLength}
use Rattle.hq_load_catalog.specs.declared.written.WrittenTable.{WrittenTable}
use Rattle.hq_load_catalog.specs.Field.{field_name}

-- more than 500 tables
unfoldable pub too_many_tables : List WrittenTable → Option CatalogRefusal
too_many_tables tables = if nat_lt 500 (length tables) then Some (TooMany (field_name Tables) (length tables)) else None

-- the first table of more than 200 columns
unfoldable pub too_many_columns : List WrittenTable → Option CatalogRefusal
too_many_columns tables =
    option_map (λ t. TooMany (field_name Columns) (length t.columns)) (find (λ t. nat_lt 200 (length t.columns)) tables)

-- too many tables, or else too many columns of a table
abbrev pub too_many : List WrittenTable → Option CatalogRefusal
too_many tables = option_or (too_many_tables tables) (too_many_columns tables)

-- the names that a table declares, in the file's order
abbrev pub declared_names : WrittenTable → List (List ℕ)
declared_names t = t.schema ∷ t.name ∷ map (λ c. c.name) t.columns

-- the first declared name that has not 1 to 63 bytes
unfoldable pub wrong_length : List WrittenTable → Option CatalogRefusal
wrong_length tables = option_map NameLength (find (λ name. not (is_catalog_name name)) (flat_map declared_names tables))
