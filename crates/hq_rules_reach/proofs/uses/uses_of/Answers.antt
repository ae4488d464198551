use Rattle.std.proofs.Common.{◌∙◌, ◌++◌, ap, sym, arith, rules}
use Rattle.std.specs.Option.{option_to_list}
use Rattle.hq_gql_nodes.specs.Nodes.{node_view}
use Rattle.hq_gql_nodes.proofs.Lists.{filter_map_more}
use Rattle.hq_rules_reach.specs.Uses.{use_of}
use Rattle.hq_rules_reach.proofs.uses.uses_of.Goals as goal

pub loop-node-preserved : goal.loop-node-preserved
loop-node-preserved c =
    let n = c.node-item.result in
    record {
      numbers = c.in_ok-push_node.ensures.numbers;
      kept = λ q k e. c.in_ok-push_node.ensures.kept q k (c.loop-node.invariant.kept q k e);
      numbered = c.in_ok-push_node.ensures.numbered;
      found =
          c.in_ok-push_node.ensures.uses
          ∙ ap (λ xs. xs ++ option_to_list (use_of (node_view n))) c.loop-node.invariant.found
          ∙ sym (filter_map_more use_of node_view c.args.nodes.now c.loop-node.node-index n (omega arith) (search rules));
    }
