use Rattle.std.proofs.Common.{◌≡◌, map, drop}
use Rattle.hq_gql_tree.specs.Documents.{var_def_view}
use Rattle.hq_gql_nodes.specs.Least.{earlier, least_of}
use Rattle.hq_gql_nodes.specs.Names.{get_name}
use Rattle.hq_rules_reach.specs.Variables.{is_marked, unused_by}
use Rattle.hq_rules_reach.proofs.no_unused_variables.least_unused.Given as goal

-- the lesser of the least so far and that of the variables that are left is the least
abbrev pub invariant-loop-var_def : goal.invariant-loop-var_def
invariant-loop-var_def l =
    earlier l.least (least_of (unused_by (is_marked (get_name l.numbers) l.marks)) (map var_def_view (drop l.var_def-index l.vars)))
    ≡ least_of (unused_by (is_marked (get_name l.numbers) l.marks)) (map var_def_view l.vars)
