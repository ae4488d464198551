-- When the statement is one that is well-formed for the catalog.
use Rattle.std.specs.Prelude.{◌≡◌, ℕ, ◌+◌, ◌*◌, ◌≤◌, ◌^◌, List, length, true}
use Rattle.hq_model.specs.Catalog.{is_catalog}
use Rattle.hq_model.specs.Meta.{MetaTree}
use Rattle.hq_model.specs.Schema.{schema_of}
use Rattle.hq_model.specs.declared.table.Table.{Table}
use Rattle.hq_request_tree.specs.Fields.{FieldTrees}
use Rattle.hq_sql_tree.specs.Form.{select_fits}
use Rattle.hq_sql_tree.specs.WellFormed.{is_statement}
use Rattle.hq_translation.specs.GrantedTables.{GrantedTables}
use Rattle.hq_translation.specs.Fields.{fields_numbers}
use Rattle.hq_translation.specs.Statement.{statement}
use Rattle.hq_translation.specs.Shallow.{fields_height, LowGranted, AreLow}
use Rattle.hq_translation.specs.Fine.{Known, FineGranted, FineFields, Apart}

-- The statement of fields of the catalog, which are nested few enough, is well-formed for the catalog, where a tree can hold
-- its texts and numbers.
abbrev pub IsWellFormed : FieldTrees → List Table → MetaTree → GrantedTables → (F X C : ℕ) → Type 0
IsWellFormed fs tables meta g F X C =
    let s = schema_of tables meta in
    is_catalog tables ≡ true → ((t : ℕ) → Known s t → FineGranted s g t) → FineFields fs s (length s) → Apart fs → 1 + fields_numbers fs s g (length s) ≤ 2 ^ 64 →
    LowGranted g F → AreLow fs X C → 2 * fields_height fs + (2 * X + 2 * F + C + 6) ≤ 2000 → select_fits (statement fs s g) ≡ true →
    is_statement (statement fs s g) tables ≡ true
