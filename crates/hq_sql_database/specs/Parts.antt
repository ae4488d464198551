-- The parts of a database of tables.
use Rattle.std.specs.Prelude.{ℕ}
use Rattle.hq_sql_database.specs.declared.sql_db.SqlDb.{SqlDb}

-- how many comparisons the look-ups by index made so far, which stays at the last value of a u64
abbrev pub steps_of : {T : Type 0} → SqlDb T → ℕ
steps_of db = db.looked

-- the tables that it pins statements' tables in
abbrev pub tables_in : {T : Type 0} → SqlDb T → T
tables_in db = db.tables
