use Rattle.std.proofs.Common.{ap, sym}
use Rattle.hq_copy_definition.specs.Refusals.{kept_name}
use Rattle.hq_model.specs.Schema.{no_rel, table}
use Rattle.hq_model.specs.Described.{scope_schema}
use Rattle.hq_model.specs.declared.meta.Rel.{Rel}
use Rattle.hq_model.proofs.Places.{absent}
use Rattle.hq_copy.proofs.kept_names.check_rel.Goals as goal

pub returns-in-None : goal.returns-in-None
returns-in-None c = ap (λ (x : Rel). kept_name x.name) (absent (table (scope_schema c.args.scope.now) c.args.t).rels c.args.r no_rel (sym c.in-None.ensures))
