use Rattle.std.proofs.Common.{ap, ◌∙◌}
use Rattle.hq_sql_expr.specs.Reading.{after, strip}
use Rattle.hq_sql_expr.proofs.Strip.{strip_is}
use Rattle.hq_sql_expr.proofs.texts.starts.Goals as goal

pub returns : goal.returns
unfolding after
returns c = strip_is _ c.args.bytes.now c.strip_prefix.result c.strip_prefix.ensures.cases ∙ ap (λ w. strip w c.args.bytes.now) c.bytes.ensures
