use Rattle.std.proofs.Common.{◌≡◌, ◌<◌, ◌-◌, drop}
use Rattle.hq_sql_cells.specs.Fronts.{digits, front_of}
use Rattle.hq_sql_cells.proofs.Fronts.{room}
use Rattle.hq_sql_cells.proofs.front.front_of.Given as goal

-- the digits so far, and how many more there are
abbrev pub invariant-loop-at : goal.invariant-loop-at
invariant-loop-at l = record {
  number : digits (8 - l.at) l.front (drop l.at l.bytes) ≡ front_of l.bytes;
  small : l.front < room l.at;
}
