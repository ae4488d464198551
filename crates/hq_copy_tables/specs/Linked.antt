-- The links of tables, table by table.
use Rattle.std.specs.Prelude.{ℕ, List, map, flat_map}
use Rattle.hq_copy_definition.specs.Sources.{Source, Link, kept_relationships}
use Rattle.hq_model.specs.Meta.{MetaTree}
use Rattle.hq_model.specs.Schema.{Schema}
use Rattle.hq_model.specs.declared.role.Role.{Role}

-- the links of a table
abbrev pub links_at : Role → MetaTree → Schema → ℕ → List Link
links_at role m s t = map (λ r. record { table = t; relationship = r }) (kept_relationships role m s t)

-- those of several
abbrev pub links_over : Role → MetaTree → Schema → List Source → List Link
links_over role m s os = flat_map (λ o. links_at role m s o.entry.table) os
