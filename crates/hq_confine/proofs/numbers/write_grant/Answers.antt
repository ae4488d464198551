use Rattle.std.proofs.Common.{sym}
use Rattle.hq_confine_uses.specs.Views.{rules_schema, rules_grants}
use Rattle.hq_confine.proofs.Small.{grant_none}
use Rattle.hq_confine.proofs.numbers.write_grant.Goals as goal

pub returns-in-None : goal.returns-in-None
returns-in-None c = grant_none (rules_schema c.args.rules.now) (rules_grants c.args.rules.now) c.args.t (sym c.in-None.ensures)
