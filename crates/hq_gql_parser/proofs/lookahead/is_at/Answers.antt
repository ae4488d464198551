use Rattle.std.proofs.Common.{◌∙◌, ap}
use Rattle.hq_gql_parser.specs.Lookahead.{is_at}
use Rattle.hq_gql_parser.proofs.LookaheadLemmas.{eq_is}
use Rattle.hq_gql_parser.proofs.lookahead.is_at.Goals as goal

pub returns : goal.returns
returns c = c.eq.ensures ∙ eq_is c.next.result c.args.expected ∙ ap (is_at c.args.expected) c.next.ensures
