use Rattle.std.proofs.Common.{◌∙◌, ap, bytes_eq}
use Rattle.hq_sql_check.specs.Scopes.{texts, neighbours_differ}
use Rattle.hq_sql_check.proofs.Sorted.{names_differ}
use Rattle.hq_sql_check.proofs.differ.sorted_differ.Goals as goal

pub returns : goal.returns
returns c = c.neighbours_differ.ensures ∙ (ap (λ names. neighbours_differ bytes_eq (texts names)) c.in_ok-sort.ensures ∙ names_differ c.args.names.now)
