-- One more set is of the class.
use Rattle.std.proofs.Common.{◌∙◌, refl}
use Rattle.std.proofs.lemmas.List.Elements.{All-get_or}
use Rattle.hq_overlap_sets.specs.Sets.{arena_view}
use Rattle.hq_overlap_classes.specs.Classes.{Joined}
use Rattle.hq_overlap_classes.proofs.partition.Partition.rename.Goals as goal

pub loop-number-init : goal.loop-number-init
loop-number-init c = record { classes = c.requires.classes; members = refl }

pub set_class-requires-clause-joined : goal.set_class-requires-clause-joined
set_class-requires-clause-joined c = All-get_or (λ s. Joined (arena_view c.args.arena.now) c.args.class s) c.args.moved.now c.loop-number.number-index _ c.loop-number-test.true c.requires.moved

pub loop-number-preserved : goal.loop-number-preserved
loop-number-preserved c = record { classes = c.set_class.ensures.classes; members = c.set_class.ensures.members ∙ c.loop-number.invariant.members }
