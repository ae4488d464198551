use Rattle.std.proofs.Common.{◌∙◌, ap, map}
use Rattle.std.specs.Prelude.{is_some}
use Rattle.hq_request_collect.specs.FieldNodes.{field_nodes, is_bounded}
use Rattle.hq_request_collect.proofs.Less.{less_enough}
use Rattle.hq_request_coerce.specs.Variables.{var_view}
use Rattle.hq_request_collect.specs.TreeSeen.{collected_view, trees_of}
use Rattle.hq_request_collect.proofs.fields.is_bounded.Goals as goal

pub returns : goal.returns
unfolding is_bounded
returns c =
    c.is_some.ensures ∙ ap is_some c.without_fields.ensures
    ∙ less_enough (field_nodes (map var_view c.args.vars.now) (trees_of (map collected_view c.args.fields.now.items))) 1048576
