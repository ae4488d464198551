use Rattle.std.proofs.Common.{List, Option, IfSome, subst}
use Rattle.hq_command_copy.proofs.Ended.{none_fails}
use Rattle.hq_copy.specs.Redacting.{Redacts, copy_due}
use Rattle.hq_load.specs.Loading.{loaded_view}
use Rattle.hq_model.specs.Database.{Row}
use Rattle.hq_command_copy.proofs.copying.copy_of.Goals as goal

pub returns-clause-due : goal.returns-clause-due
returns-clause-due c =
    let held = loaded_view c.args.loaded in
    subst (λ (o : Option (List (List Row))). IfSome o (λ d. Redacts (copy_due held.tables held.meta c.args.session.now d) c.redact.result)) c.new-tables.ensures.database c.redact.ensures.due

pub returns-clause-failed : goal.returns-clause-failed
returns-clause-failed c = none_fails c.redact.result c.redact.ensures.failed
