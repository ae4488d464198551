use Rattle.std.proofs.Common.{◌∙◌, ap, sym, map}
use Rattle.hq_gql_tree.specs.Values.{directive_view}
use Rattle.hq_request_collect.proofs.Views.{field_directives}
use Rattle.hq_request_collect.proofs.included.field_directives.Goals as goal

pub returns : goal.returns
returns c = ap (map directive_view) c.deref.ensures.value ∙ sym (field_directives c.args.field.now)
