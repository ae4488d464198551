-- The field at the place stands in the list.
use Rattle.std.proofs.Common.{map, refl, sym}
use Rattle.hq_overlap_sets.specs.Sets.{field_in}
use Rattle.hq_overlap_sets.proofs.ArenaLemmas.{contained_at}
use Rattle.hq_rules_overlap.proofs.found.conflict_with.Goals as goal

pub conflict_of-requires : goal.conflict_of-requires
conflict_of-requires c =
    let f = field_in c.args.arena.now in
    c.requires.met (f c.in-Some.first) (f c.args.entry.now) (contained_at f c.args.entries.now (map f c.args.entries.now) c.args.at c.in-Some.first refl (sym c.in-Some.ensures)) c.requires.stands
