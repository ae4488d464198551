use Rattle.hq_cli.proofs.Commands.{bare_from_new}
use Rattle.hq_cli.proofs.arguments.bare_command.Goals as goal

pub returns : goal.returns
returns c = bare_from_new _ _ _ _ _ c.new.ensures.app c.no_binary_name.ensures c.disable_help_flag.ensures c.disable_version_flag.ensures
