-- Stores that fail once.
use Rattle.std.specs.Prelude.{ℕ}
use Rattle.hq_load_tables.specs.declared.flaky_tables.FlakyTables.{FlakyTables}

-- how many pins are left to the one that fails, itself counted; 0 where none will fail
abbrev pub pins_to_failure : FlakyTables → ℕ
pins_to_failure s = s.left
