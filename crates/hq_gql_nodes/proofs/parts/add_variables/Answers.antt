use Rattle.std.proofs.Common.{◌∙◌, refl, ap, List, map, None, get_or, arith, rules}
use Rattle.hq_schema.specs.Schema.{schema_view}
use Rattle.hq_gql_tree.specs.declared.document.VarDef.{VarDef}
use Rattle.hq_gql_tree.specs.Documents.{VarDefTree, var_def_view}
use Rattle.hq_gql_nodes.specs.Known.{resolved}
use Rattle.hq_gql_nodes.specs.Nodes.{node_view, variable_nodes, variables_nodes}
use Rattle.hq_gql_nodes.proofs.Lists.{get_or-map_map}
use Rattle.hq_gql_nodes.proofs.Nodes.{item_added}
use Rattle.hq_gql_nodes.proofs.parts.add_variables.Goals as goal

pub add_variable-requires : goal.add_variable-requires
add_variable-requires c =
    let at = c.loop-at.at in
    c.type_at.ensures
    ∙ ap (λ ts. get_or ts at None) c.requires
    ∙ get_or-map_map var_def_view (λ (v : VarDefTree). resolved (schema_view c.args.schema.now) v.ty) c.args.vars.now.items at c.var_def-item.result None (omega arith) (search rules)

pub loop-at-preserved : goal.loop-at-preserved
loop-at-preserved c =
    let s = schema_view c.args.schema.now in
    item_added (λ (vs : List VarDef). variables_nodes s (map var_def_view vs)) c.args.vars.now.items c.loop-at.at c.var_def-item.result
    (variable_nodes s (var_def_view c.var_def-item.result)) (map node_view c.loop-at.nodes.items)
    (map node_view c.add_variable.new.nodes.items) _ c.loop-at.invariant (omega arith) (search rules) refl c.in_ok-add_variable.ensures
