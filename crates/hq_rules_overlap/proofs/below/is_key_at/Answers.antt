-- The field at the place.
use Rattle.std.proofs.Common.{sym}
use Rattle.hq_overlap_sets.specs.Sets.{field_in}
use Rattle.hq_overlap_sets.proofs.ArenaLemmas.{get_map}
use Rattle.hq_rules_overlap.proofs.below.is_key_at.Goals as goal

pub returns-in-Some : goal.returns-in-Some
returns-in-Some c = λ held.
    let f = field_in c.args.arena.now in
    record { first = f c.in-Some.first; stands = get_map f c.args.entries.now c.args.at c.in-Some.first (sym c.in-Some.ensures); key = c.have_one_key.ensures held }
