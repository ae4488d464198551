use Rattle.std.proofs.Common.{◌∙◌, ap, sym, [], map, get_or}
use Rattle.std.specs.Prelude.{option_map}
use Rattle.hq_schema.specs.Schema.{schema_view, type_ref_view}
use Rattle.hq_gql_tree.specs.View.{document_view}
use Rattle.hq_gql_nodes.specs.Known.{resolved}
use Rattle.hq_request_coerce.proofs.Operations.{types_there}
use Rattle.hq_request_coerce.proofs.variables.coerce_variables.Goals as goal

pub values_of-requires : goal.values_of-requires
values_of-requires c =
    let s = schema_view c.args.schema.now in
    c.types_at-types.ensures
    ∙ ap (λ at. get_or (map (λ types. map (λ t. option_map type_ref_view t) types.items) c.deref-2.result.now) at []) c.at.ensures
    ∙ ap (λ all. get_or all c.args.op []) (ap (map (λ types. map (λ t. option_map type_ref_view t) types.items)) c.deref-2.ensures.value ∙ c.in_ok-types.ensures)
    ∙ types_there s (document_view c.args.document.now) c.args.op
    ∙ ap (map (λ v. resolved s v.ty)) (sym c.variables_of-vars.ensures)
