use Rattle.std.proofs.Common.{◌∙◌, ◌||◌, Bool, ap, sym, map, take, bytes_eq, arith, rules}
use Rattle.std.specs.List.{list_any}
use Rattle.std.specs.Option.{option_to_list}
use Rattle.std.proofs.lemmas.List.Folds.{list_any-append}
use Rattle.hq_gql_nodes.specs.Names.{has_name}
use Rattle.hq_gql_nodes.specs.Nodes.{node_view}
use Rattle.hq_gql_nodes.proofs.Lists.{filter_map_more}
use Rattle.hq_request_coerce.specs.Required.{required_of, required_names}
use Rattle.hq_request_coerce.proofs.Lists.{or_behind}
use Rattle.hq_request_coerce.proofs.required.note_required.Goals as goal

pub loop-node-preserved : goal.loop-node-preserved
loop-node-preserved c = λ q.
    let nodes = c.args.nodes.now in
    let i = c.loop-node.node-index in
    let x = c.node-item.result in
    let here : Bool = list_any (λ n. bytes_eq n q) (option_to_list (required_of (node_view x))) in
    let before : Bool = has_name c.args.names.now q in
    let so_far : Bool = list_any (λ n. bytes_eq n q) (required_names (map node_view (take i nodes))) in
    c.in_ok-note_node.ensures q
    ∙ ap (λ b. here || b) (c.loop-node.invariant q)
    ∙ or_behind here before so_far
    ∙ ap (λ b. before || b)
    (sym (list_any-append (λ n. bytes_eq n q) (required_names (map node_view (take i nodes))) (option_to_list (required_of (node_view x))))
    ∙ ap (list_any (λ n. bytes_eq n q)) (sym (filter_map_more required_of node_view nodes i x (omega arith) (search rules))))
