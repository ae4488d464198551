-- A place that is given is that of a conflict.
use Rattle.std.proofs.Common.{◌∙◌, ap, sym, subst}
use Rattle.hq_gql_nodes.specs.Least.{at_if}
use Rattle.hq_overlap_sets.specs.Sets.{field_in, arena_view}
use Rattle.hq_overlap_sets.specs.Together.{AreConflicts}
use Rattle.hq_rules_overlap.proofs.Places.{met_conflict}
use Rattle.hq_rules_overlap.proofs.found.conflict_of_key.Goals as goal

pub returns : goal.returns
returns c =
    let sets = arena_view c.args.arena.now in
    subst (AreConflicts sets) (sym (c.at_if.ensures ∙ ap (at_if c.in_ok-apart.apart) c.later.ensures))
    (met_conflict sets (field_in c.args.arena.now c.args.first.now) (field_in c.args.arena.now c.args.entry.now) c.in_ok-apart.apart c.requires.met c.requires.key c.in_ok-apart.ensures)
