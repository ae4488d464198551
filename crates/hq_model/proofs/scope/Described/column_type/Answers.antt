use Rattle.std.proofs.Common.{ap, sym}
use Rattle.hq_model.specs.Schema.{no_column, table}
use Rattle.hq_model.specs.Described.{scope_schema}
use Rattle.hq_model.proofs.Places.{absent}
use Rattle.hq_model.proofs.scope.Described.column_type.Goals as goal

pub returns-in-None : goal.returns-in-None
returns-in-None c = ap (λ column. column.ty) (sym (absent (table (scope_schema c.args.self.now) c.args.t).columns c.args.c no_column (sym c.in-None.ensures)))
