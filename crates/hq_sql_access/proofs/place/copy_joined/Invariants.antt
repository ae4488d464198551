use Rattle.std.proofs.Common.{◌≡◌, map, take, option_map}
use Rattle.hq_sql_access.specs.View.{joined_view, made_view}
use Rattle.hq_sql_access.proofs.place.copy_joined.Given as goal

-- the copies so far
abbrev pub invariant-loop-row : goal.invariant-loop-row
invariant-loop-row l = joined_view l.copies ≡ map (option_map made_view) (take l.row-index l.joined)
