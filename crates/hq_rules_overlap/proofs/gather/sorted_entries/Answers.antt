-- The same fields in the order of the text.
use Rattle.hq_overlap_sets.specs.Sets.{field_in, arena_view}
use Rattle.hq_rules_overlap.proofs.Gathering.{of_turned}
use Rattle.hq_rules_overlap.proofs.gather.sorted_entries.Goals as goal

pub returns : goal.returns
returns c =
    of_turned (arena_view c.args.arena.now) c.args.group.now (field_in c.args.arena.now) c.in_ok-entries.entries.items
    c.sort_by_key.new.self.items c.sort_by_key.ensures.permutation c.in_ok-entries.ensures
