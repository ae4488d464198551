use Rattle.std.proofs.Common.{rules}
use Rattle.hq_session.proofs.Tokens.{token_clean}
use Rattle.hq_session.proofs.header.lowered.Goals as goal

pub push_str-requires : goal.push_str-requires
push_str-requires c = grind (rules, token_clean c.args.name.now c.requires)
