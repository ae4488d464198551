-- At the end of the left list.
use Rattle.std.proofs.Common.{◌∙◌, arith}
use Rattle.hq_overlap_sets.proofs.ValueSteps.{elements_end, members_end}
use Rattle.hq_overlap_sets.proofs.values.+same_value.Goals as goal

pub same_elements-returns : goal.same_elements-returns
same_elements-returns t c =
    elements_end c.args.left.now.items c.args.right.now.items c.loop-at.at (omega arith) c.loop-at.invariant.within _ c.has_no_more_elements.ensures
    ∙ c.loop-at.invariant.same

pub same_members-returns : goal.same_members-returns
same_members-returns t c =
    members_end c.args.left.now.items c.args.right.now.items c.loop-at.at (omega arith) c.loop-at.invariant.within _ c.has_no_more_members.ensures
    ∙ c.loop-at.invariant.same
