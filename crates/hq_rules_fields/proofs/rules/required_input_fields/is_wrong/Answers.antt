use Rattle.std.proofs.Common.{◌∙◌, map, refl, false, option_map}
use Rattle.std.specs.Option.{option_map_or}
use Rattle.hq_schema.specs.Schema.{schema_view}
use Rattle.hq_gql_tree.specs.Values.{argument_view, value_view}
use Rattle.hq_gql_nodes.specs.Known.{place_view, input_of}
use Rattle.hq_rules_fields.specs.NodeRules.{lacks_input, lacks_at, object_members}
use Rattle.hq_rules_fields.proofs.Members.{of_members}
use Rattle.hq_rules_fields.proofs.rules.required_input_fields.is_wrong.Goals as goal

pub returns-in-Some : goal.returns-in-Some
returns-in-Some c =
    let s = schema_view c.args.schema.now in
    let place = option_map place_view c.args.place in
    c.lacks_at.ensures
    ∙ of_members (λ ms. option_map_or (lacks_input s ms) (input_of s place) false) (λ o. option_map_or (lacks_at s place) o false)
    (map argument_view c.in-Some.members.now) (object_members (value_view c.args.value.now)) (λ m. refl) c.in-Some.ensures
