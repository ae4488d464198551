use Rattle.std.proofs.Common.{ap, sym}
use Rattle.hq_model.proofs.Places.{absent}
use Rattle.hq_model.specs.Schema.{no_rel, table}
use Rattle.hq_model.specs.Described.{scope_schema}
use Rattle.hq_copy_filter.proofs.truths.pairs_of.Goals as goal

pub returns-in-None : goal.returns-in-None
returns-in-None c = ap (λ r. r.pairs) (sym (absent (table (scope_schema c.args.scope.now) c.args.t).rels c.args.r no_rel (sym c.in-None.ensures)))
