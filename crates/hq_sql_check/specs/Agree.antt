-- What a statement sees of a database.
use Rattle.std.specs.Prelude.{◌≡◌, ℕ, List, [], true, slice_index_or}
use Rattle.hq_model.specs.Database.{Row}
use Rattle.hq_model.specs.declared.table.Table.{Table}
use Rattle.hq_sql_tree.specs.Meaning.{meaning}
use Rattle.hq_sql_tree.specs.Tree.{SelectTree}
use Rattle.hq_sql_check.specs.Scans.{scans}

-- the tables that a statement takes rows from have these rows in a database
abbrev pub HasRows : SelectTree → List Table → (rows : ℕ → List Row) → List (List Row) → Type 0
HasRows s tables rows database = (t : ℕ) → scans s tables t ≡ true → slice_index_or database t [] ≡ rows t

-- a statement means the same over two databases in which those tables have the same rows
abbrev pub MeansAlike : SelectTree → List Table → Type 0
MeansAlike s tables =
    (d e : List (List Row)) → HasRows s tables (λ t. slice_index_or e t []) d
    → meaning s (record { tables = tables; database = d }) ≡ meaning s (record { tables = tables; database = e })
