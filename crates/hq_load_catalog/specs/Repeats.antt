-- Names that stand twice, and keys that have no column.
use Rattle.std.specs.Prelude.{ℕ, List, [], ◌∷◌, ◌++◌, length, map, ◌==◌, Option, Some, None, option_map, if◌then◌else◌, bytes_eq, codes}
use Rattle.std.specs.List.{find, list_any}
use Rattle.std.specs.Option.{option_or}
use Rattle.hq_load_catalog.specs.declared.refusal.CatalogRefusal.{CatalogRefusal}
use Rattle.hq_load_catalog.specs.declared.refusal.CatalogRefusal.TheVariants.{Repeated, NoKey}
use Rattle.hq_load_catalog.specs.declared.written.WrittenTable.{WrittenTable}

-- a table's name as it is told: schema and name, joined by a point
abbrev pub full_name : WrittenTable → List ℕ
full_name t = t.schema ++ codes "." ++ t.name

-- the name, where it is among the earlier ones
abbrev pub known : (earlier : List (List ℕ)) → (name : List ℕ) → Option (List ℕ)
known earlier name = if list_any (λ e. bytes_eq e name) earlier then Some name else None

-- the first of the names that is among those before it: the earlier ones, and those of the list
abbrev pub first_repeat : (earlier names : List (List ℕ)) → Option (List ℕ)
first_repeat earlier [] = None
first_repeat earlier (name ∷ names) = option_or (known earlier name) (first_repeat (earlier ++ name ∷ []) names)

-- within a table: two columns of one name, or a column that the key names twice
unfoldable pub repeat_within : WrittenTable → Option (List ℕ)
repeat_within t = option_or (first_repeat [] (map (λ c. c.name) t.columns)) (first_repeat [] t.key)

-- from table to table: its name, which an earlier one has, or a repeat within it
abbrev pub repeat_from : (earlier : List (List ℕ)) → List WrittenTable → Option (List ℕ)
repeat_from earlier [] = None
repeat_from earlier (t ∷ ts) =
    option_or (known earlier (full_name t)) (option_or (repeat_within t) (repeat_from (earlier ++ full_name t ∷ []) ts))

-- the first name that stands twice
unfoldable pub repeated : List WrittenTable → Option CatalogRefusal
repeated tables = option_map Repeated (repeat_from [] tables)

-- the first table whose key is empty
unfoldable pub no_key : List WrittenTable → Option CatalogRefusal
no_key tables = option_map (λ t. NoKey (full_name t)) (find (λ t. length t.key == 0) tables)
