use Rattle.std.proofs.Common.{map, refl, subst, ℕ, Option, IfOk, ◌≡◌}
use Rattle.std.specs.Prelude.{option_and_then}
use Rattle.hq_gql_tree.specs.Values.{argument_view, value_view}
use Rattle.hq_gql_nodes.specs.Names.{least_repeat}
use Rattle.hq_rules_fields.specs.NodeRules.{argument_name, repeated_member, object_members}
use Rattle.hq_rules_fields.proofs.Members.{of_members}
use Rattle.hq_rules_fields.proofs.rules.unique_input_fields.repeated_member.Goals as goal

pub returns-in-Some : goal.returns-in-Some
returns-in-Some c =
    subst (λ (o : Option ℕ). IfOk c.repeated.result (λ place. place ≡ o))
    (of_members (λ ms. least_repeat (map argument_name ms)) (λ o. option_and_then repeated_member o)
    (map argument_view c.in-Some.members.now) (object_members (value_view c.args.value.now)) (λ m. refl) c.in-Some.ensures) c.repeated.ensures
