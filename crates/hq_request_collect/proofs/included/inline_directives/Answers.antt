use Rattle.std.proofs.Common.{◌∙◌, ap, sym, map}
use Rattle.hq_gql_tree.specs.Values.{directive_view}
use Rattle.hq_request_collect.proofs.Views.{inline_directives}
use Rattle.hq_request_collect.proofs.included.inline_directives.Goals as goal

pub returns : goal.returns
returns c = ap (map directive_view) c.deref.ensures.value ∙ sym (inline_directives c.args.inline.now)
