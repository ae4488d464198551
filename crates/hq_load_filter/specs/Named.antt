-- What a member of a filter names.
use Rattle.std.specs.Prelude.{ℕ, List, Option, Some, None, option_map, position, if◌then◌else◌, bytes_eq, codes}
use Rattle.std.specs.Option.{option_or}
use Rattle.hq_model.specs.Schema.{SchemaTable}
use Rattle.hq_load_filter.specs.declared.named.Named.{Named}
use Rattle.hq_load_filter.specs.declared.named.Named.TheVariants.{And, Or, Not, Exists, Column, Relationship}

-- a connective
unfoldable pub connective_named : (name : List ℕ) → Option Named
connective_named name =
    if bytes_eq name (codes "_and") then Some And
    else (if bytes_eq name (codes "_or") then Some Or
    else (if bytes_eq name (codes "_not") then Some Not
    else (if bytes_eq name (codes "_exists") then Some Exists else None)))

-- a column by its name in the database
unfoldable pub column_named : SchemaTable → (name : List ℕ) → Option ℕ
column_named t name = position (λ c. bytes_eq c.name name) t.columns

-- a relationship by its name
unfoldable pub rel_named : SchemaTable → (name : List ℕ) → Option ℕ
rel_named t name = position (λ r. bytes_eq r.name name) t.rels

-- a connective goes before a column of its name, and a column before a relationship
unfoldable pub named : SchemaTable → (name : List ℕ) → Option Named
named t name =
    option_or (connective_named name) (option_or (option_map Column (column_named t name)) (option_map Relationship (rel_named t name)))
