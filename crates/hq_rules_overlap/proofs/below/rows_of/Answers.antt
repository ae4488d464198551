-- The rows of all fields.
use Rattle.std.proofs.Common.{rules, map}
use Rattle.hq_overlap_sets.specs.Sets.{field_in, arena_view}
use Rattle.hq_rules_overlap.proofs.Rows.{have_below, rows_together, none_below}
use Rattle.hq_rules_overlap.proofs.below.rows_of.Goals as goal

pub add_all-requires-clause-below : goal.add_all-requires-clause-below
add_all-requires-clause-below c = none_below (map (field_in c.args.arena.now) c.args.entries.now) c.in_ok-rows.rows.items c.in_ok-rows.ensures.empty

pub returns-clause-below : goal.returns-clause-below
returns-clause-below c =
    have_below c.args.keys.now c.add_all.new.rows.items (map (field_in c.args.arena.now) c.args.entries.now) (c.in_ok-added.ensures.added (search rules))

pub returns-clause-together : goal.returns-clause-together
returns-clause-together c =
    rows_together (arena_view c.args.arena.now) (map (field_in c.args.arena.now) c.args.entries.now) c.add_all.new.rows.items c.requires c.in_ok-added.ensures.below
