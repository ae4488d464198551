use Rattle.hq_command_confine.proofs.Own.{one_line}
use Rattle.hq_command_confine.proofs.laws.one_line_is_due.Goals as goal

pub returns : goal.returns
returns c tables meta session text = one_line tables meta session text (c.one_tree.ensures text)
