use Rattle.std.proofs.Common.{◌≡◌, ◌∙◌, ap, map}
use Rattle.std.proofs.lemmas.Result.{IfOk-weaker}
use mathlib.Core.Path.{fun_ext}
use Rattle.hq_schema.specs.Schema.{schema_view}
use Rattle.hq_gql_tree.specs.View.{document_view}
use Rattle.hq_gql_nodes.specs.Fragments.{fragment_named, graph_of}
use Rattle.hq_gql_nodes.specs.Nodes.{part_view, document_parts}
use Rattle.hq_gql_nodes.specs.Reach.{graph_view}
use Rattle.hq_request_coerce.specs.Required.{is_required_in}
use Rattle.hq_request_coerce.proofs.variables.required_by.Goals as goal

pub returns : goal.returns
returns c =
    let s = schema_view c.args.schema.now in
    let d = document_view c.args.document.now in
    let same_parts : map part_view c.deref-2.result.now ≡ document_parts s d = ap (map part_view) c.deref-2.ensures.value ∙ c.in_ok-parts.ensures in
    let same_graph : graph_view c.deref-3.result.now ≡ graph_of (fragment_named d) (document_parts s d) =
    ap graph_view c.deref-3.ensures.value ∙ c.in_ok-graph.ensures
    ∙ ap (λ places. graph_of places (map part_view c.deref.result.now)) c.in_ok-places.ensures
    ∙ ap (graph_of (fragment_named d)) (ap (map part_view) c.deref.ensures.value ∙ c.in_ok-parts.ensures) in
    IfOk-weaker c.required_names.result _ _ (λ names h. fun_ext (λ q.
    h q
    ∙ ap (λ parts. is_required_in parts (graph_view c.deref-3.result.now) c.at.result q) same_parts
    ∙ ap (λ g. is_required_in (document_parts s d) g c.at.result q) same_graph
    ∙ ap (λ op. is_required_in (document_parts s d) (graph_of (fragment_named d) (document_parts s d)) op q) c.at.ensures))
    c.required_names.ensures
