use Rattle.std.proofs.Common.{◌≡◌, length, map, take}
use Rattle.std.specs.List.{All}
use Rattle.hq_overlap_sets.specs.Sets.{field_in}
use Rattle.hq_rules_overlap.specs.Groups.{AreBelow, HasRow}
use Rattle.hq_rules_overlap.proofs.below.add_all.Given as goal

-- the rows so far
abbrev pub invariant-loop-entry : goal.invariant-loop-entry
invariant-loop-entry l = record {
  below : AreBelow (map (field_in l.arena) l.entries) l.rows.items;
  length : length l.rows.items ≡ length l.entries;
  added : All (λ e. HasRow l.keys l.rows.items (field_in l.arena e)) (take l.entry-index l.entries);
}
