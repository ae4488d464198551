use Rattle.std.proofs.Common.{◌∙◌, ap, sym, map, Ok}
use Rattle.hq_base.specs.Due.{mapped}
use Rattle.hq_base.specs.Json.{json_view, member_view}
use Rattle.hq_model.specs.Bexp.{conjunction}
use Rattle.hq_model.specs.Schema.{table, column}
use Rattle.hq_model.specs.Described.{scope_schema}
use Rattle.hq_load_filter.proofs.Columns.{of_object}
use Rattle.hq_load_filter.proofs.condition.conditions_on.Goals as goal

pub returns-in_ok-conditions-in-Some : goal.returns-in_ok-conditions-in-Some
returns-in_ok-conditions-in-Some c =
    let s = scope_schema c.args.scope.now in
    of_object (table s c.args.t) c.args.col (column s c.args.t c.args.col).ty c.args.path.now (json_view c.args.json.now) (map member_view c.in-Some.members.now) (sym c.in-Some.ensures)
    ∙ ap (mapped conjunction) c.in_ok-conditions-in-Some.ensures
    ∙ ap Ok (sym c.all_of.ensures)
