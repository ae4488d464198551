use Rattle.std.proofs.Common.{◌∙◌, ap, sym, map}
use Rattle.hq_gql_tree.specs.Selections.{selection_view}
use Rattle.hq_request_collect.proofs.Views.{field_selections}
use Rattle.hq_request_collect.proofs.selections.field_selections.Goals as goal

pub returns : goal.returns
returns c = ap (map selection_view) c.deref.ensures.value ∙ sym (field_selections c.args.field.now)
