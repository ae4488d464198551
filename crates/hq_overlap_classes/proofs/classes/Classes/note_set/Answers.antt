-- The fields of the set.
use Rattle.std.proofs.Common.{◌∙◌, ap, sym, map}
use Rattle.hq_overlap_sets.specs.Pairs.{fields_in}
use Rattle.hq_overlap_sets.specs.Sets.{field_in}
use Rattle.hq_overlap_sets.proofs.ArenaLemmas.{set_here}
use Rattle.hq_overlap_classes.proofs.classes.Classes.note_set.Goals as goal

pub note_fields-requires-clause-entries : goal.note_fields-requires-clause-entries
note_fields-requires-clause-entries c =
    ap (map (field_in c.args.arena.now)) c.deref.ensures.value ∙ sym (ap fields_in (set_here c.args.arena.now c.args.set c.in-Some.found.now (sym c.in-Some.ensures)))
