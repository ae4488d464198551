use Rattle.std.proofs.Common.{rules}
use Rattle.hq_cli.proofs.Commands.{known_range}
use Rattle.hq_cli.proofs.arguments.headers_arg.Goals as goal

pub returns-clause-rule : goal.returns-clause-rule
returns-clause-rule c =
    let n = c.num_args.ensures in
    let range = known_range c.num_args.result.num_vals _ n.1 in
    search (rules, range, n.0)
