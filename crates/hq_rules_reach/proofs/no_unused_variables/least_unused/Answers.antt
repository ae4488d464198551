use Rattle.std.proofs.Common.{◌∙◌, refl, ap, List, map}
use Rattle.hq_gql_tree.specs.declared.document.VarDef.{VarDef}
use Rattle.hq_gql_tree.specs.Documents.{var_def_view}
use Rattle.hq_gql_nodes.specs.Least.{earlier, least_of}
use Rattle.hq_gql_nodes.specs.Names.{get_name}
use Rattle.hq_rules_reach.specs.Variables.{is_marked, unused_by}
use Rattle.hq_rules_reach.proofs.LeastSoFar.{least_so_far}
use Rattle.hq_rules_reach.proofs.no_unused_variables.least_unused.Goals as goal

pub loop-var_def-preserved : goal.loop-var_def-preserved
loop-var_def-preserved c =
    let place = unused_by (is_marked (get_name c.args.numbers.now) c.args.marks.now) in
    let x = c.var_def-item.result in
    least_so_far (λ (vs : List VarDef). least_of place (map var_def_view vs)) c.args.vars.now c.loop-var_def.var_def-index x x
    c.loop-var_def.least (place (var_def_view x)) _ _ c.loop-var_def.invariant c.loop-var_def-test.true c.var_def-item.is refl
    (c.earlier-least.ensures ∙ ap (earlier c.loop-var_def.least) c.unused_by.ensures)
