use Rattle.std.proofs.Common.{◌∙◌, sym}
use Rattle.hq_confine_members.specs.Views.{renaming_view}
use Rattle.hq_confine_members.proofs.Empty.{empty_objects}
use Rattle.hq_confine_members.proofs.alike.is_alike_expr.Goals as goal

pub returns-in-Object-other : goal.returns-in-Object-other
returns-in-Object-other c = c.are_empty.ensures ∙ sym
    (empty_objects (renaming_view c.args.renaming.now) c.args.one.now c.args.other.now c.in-Object.one c.in-Object-other.other c.in-Object.is c.in-Object-other.is)
