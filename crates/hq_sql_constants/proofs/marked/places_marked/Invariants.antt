use Rattle.std.proofs.Common.{◌≡◌, false, filter, get_or, take}
use Rattle.hq_sql_scans.specs.Positions.{positions_of}
use Rattle.hq_sql_constants.proofs.marked.places_marked.Given as goal

-- those of the places so far
abbrev pub invariant-loop-turn : goal.invariant-loop-turn
invariant-loop-turn l = l.places.items ≡ filter (λ p. get_or l.marks p false) (take l.turn (positions_of l.positions))
