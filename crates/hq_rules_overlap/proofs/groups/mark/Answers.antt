-- The mark of the number.
use Rattle.hq_rules_overlap.proofs.Marks.{mark_set}
use Rattle.hq_rules_overlap.proofs.groups.mark.Goals as goal

pub returns-then-number-len : goal.returns-then-number-len
returns-then-number-len c = mark_set c.args.marks.now.items c.args.number
