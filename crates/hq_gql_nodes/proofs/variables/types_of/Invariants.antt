use Rattle.std.proofs.Common.{◌≡◌, map, take, option_map}
use Rattle.hq_schema.specs.Schema.{schema_view, type_ref_view}
use Rattle.hq_gql_tree.specs.Documents.{var_def_view}
use Rattle.hq_gql_nodes.specs.Known.{resolved}
use Rattle.hq_gql_nodes.proofs.variables.types_of.Given as goal

-- the types of the variables so far
abbrev pub invariant-loop-var_def : goal.invariant-loop-var_def
invariant-loop-var_def l = map (λ t. option_map type_ref_view t) l.types.items ≡ map (λ v. resolved (schema_view l.schema) v.ty) (map var_def_view (take l.var_def-index l.vars))
