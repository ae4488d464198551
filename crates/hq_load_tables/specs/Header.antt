-- The header of a table file: the table's column names, each once, in any order (PostgreSQL, COPY with HEADER).
use Rattle.std.specs.Prelude.{ℕ, List, [], ◌∷◌, length, Bool, ◌==◌, ◌&&◌, Option, Some, None, find, map, option_map, if◌then◌else◌, bytes_eq}
use Rattle.std.specs.List.{list_all, list_any, position_from}
use Rattle.std.specs.Option.{option_and_then}
use Rattle.hq_base.specs.Lists.{all_differ}
use Rattle.hq_base.specs.declared.value.Val.{Val}
use Rattle.hq_base.specs.declared.value.Val.TheVariants as val
use Rattle.hq_model.specs.declared.table.Column.{Column}

-- no two columns have one name
abbrev pub names_differ : List Column → Bool
names_differ = all_differ (λ c d. bytes_eq c.name d.name)

-- the values, where none is missing
abbrev pub all_some : {X : Type 0} → List (Option X) → Option (List X)
all_some [] = Some []
all_some (o ∷ os) = option_and_then (λ x. option_map (λ xs. x ∷ xs) (all_some os)) o

-- the columns that these names name, in their order
abbrev pub columns_named : List Column → (names : List (List ℕ)) → Option (List Column)
columns_named columns names = all_some (map (λ n. find (λ c. bytes_eq c.name n) columns) names)

-- the columns in the file's order, where its header is their names: as many, none left out, and none of another column
abbrev pub header_due : List Column → (names : List (List ℕ)) → Option (List Column)
header_due columns names =
    if (length names == length columns) && list_all (λ c. list_any (bytes_eq c.name) names) columns then columns_named columns names else None

-- the value under a name
abbrev pub value_named : (names : List (List ℕ)) → List Val → (name : List ℕ) → Val
value_named (n ∷ ns) (v ∷ vs) name = if bytes_eq name n then v else value_named ns vs name
value_named _ _ name = val.Null

-- the values in the catalog's order of columns
abbrev pub in_catalog_order : List Column → (names : List (List ℕ)) → List Val → List Val
in_catalog_order columns names values = map (λ c. value_named names values c.name) columns

-- for each column the place of its name, from 0
abbrev pub places_named : List Column → (names : List (List ℕ)) → Option (List ℕ)
places_named columns names = all_some (map (λ c. position_from (bytes_eq c.name) 0 names) columns)
