-- Fields that agree with the first ones of their key, or count, are counted.
use Rattle.std.proofs.Common.{map}
use Rattle.std.proofs.lemmas.Result.{on_ok_weaker}
use Rattle.hq_overlap_sets.specs.Sets.{field_in}
use Rattle.hq_rules_overlap.specs.Heads.{first_in, label_in}
use Rattle.hq_rules_overlap.proofs.Grouped.{settled_are_counted}
use Rattle.hq_rules_overlap.proofs.found.Found.look.Goals as goal

pub returns-clause-counted : goal.returns-clause-counted
returns-clause-counted c =
    let fields = map (field_in c.args.arena.now) c.args.entries.now in
    on_ok_weaker c.note_all.result (settled_are_counted (first_in c.args.heads.now fields) (label_in c.args.heads.now fields) fields c.note_all.new.self.least) c.note_all.ensures.noted
