-- What a checker of statements is for: one that it finds no fault in shows no more than a session's view.
use Rattle.std.specs.Prelude.{◌≡◌, ℕ, ◌+◌, ◌≤◌, ◌^◌, List, true}
use Rattle.hq_model.specs.Catalog.{is_catalog}
use Rattle.hq_model.specs.Database.{Row, is_database}
use Rattle.hq_model.specs.Grants.{Grants, grant}
use Rattle.hq_model.specs.Meta.{MetaTree}
use Rattle.hq_model.specs.Permitted.{mask_of}
use Rattle.hq_model.specs.Schema.{Schema, schema_of}
use Rattle.hq_model.specs.View.{Agree}
use Rattle.hq_model.specs.declared.table.Table.{Table}
use Rattle.hq_sql_tree.specs.Meaning.{meaning}
use Rattle.hq_sql_tree.specs.Tree.{SelectTree}
use Rattle.hq_sql_tree.specs.WellFormed.{is_statement}
use Rattle.hq_translation.specs.Predicates.{own_numbers}
use Rattle.hq_confine_rules.specs.Faults.{IsConfined}

-- the filters and masks of what is granted are small enough to be written: the numbers of their aliases have 64 bits
abbrev pub AreWritten : Schema → Grants → Type 0
AreWritten s g = ((t : ℕ) → 1 + own_numbers (grant g t).filter s t ≤ 2 ^ 64) × ((t c : ℕ) → 1 + own_numbers (mask_of (grant g t).masks c) s t ≤ 2 ^ 64)

-- A well-formed statement, whoever wrote it, that is confined for a session means the same over each two databases of the catalog
-- that agree for it.
abbrev pub MeansTheSame : List Table → MetaTree → Grants → (d e : List (List Row)) → SelectTree → Type 0
MeansTheSame tables meta g d e statement =
    is_catalog tables ≡ true → is_database tables d ≡ true → is_database tables e ≡ true → AreWritten (schema_of tables meta) g → is_statement statement tables ≡ true
    → IsConfined (schema_of tables meta) g statement → Agree (schema_of tables meta) g d e
    → meaning statement (record { tables = tables; database = d }) ≡ meaning statement (record { tables = tables; database = e })
