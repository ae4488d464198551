use Rattle.hq_command_confine.proofs.Own.{own_confined}
use Rattle.hq_command_confine.proofs.laws.own_statements_are_confined.Goals as goal

pub returns : goal.returns
returns c dir headers files text = own_confined dir headers files text
