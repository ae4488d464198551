use Rattle.std.proofs.Common.{◌∙◌, ap, sym, map}
use Rattle.hq_gql_tree.specs.Selections.{selection_view}
use Rattle.hq_request_collect.proofs.Views.{inline_selections}
use Rattle.hq_request_collect.proofs.selections.inline_selections.Goals as goal

pub returns : goal.returns
returns c = ap (map selection_view) c.deref.ensures.value ∙ sym (inline_selections c.args.inline.now)
