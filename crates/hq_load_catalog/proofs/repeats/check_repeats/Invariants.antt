use Rattle.std.proofs.Common.{◌≡◌, [], drop}
use Rattle.hq_load_catalog.specs.Repeats.{repeat_from}
use Rattle.hq_load_catalog.proofs.repeats.check_repeats.Given as goal

-- what is repeated stands in the tables that are left
abbrev pub invariant-loop-table : goal.invariant-loop-table
invariant-loop-table l = repeat_from l.earlier (drop l.table-index l.tables) ≡ repeat_from [] l.tables
