use Rattle.std.proofs.Common.{◌≡◌, ℕ, map, drop, length, None, false}
use Rattle.std.specs.List.{list_any}
use Rattle.hq_gql_tree.specs.Documents.{var_def_view}
use Rattle.hq_gql_nodes.specs.Names.{get_name}
use Rattle.hq_rules_reach.specs.Fit.{is_number}
use Rattle.hq_rules_reach.specs.Variables.{numbered_place}
use Rattle.hq_rules_reach.proofs.variable_places.clear_variables.Given as goal

-- the numbers of the variables that are left alone have places
abbrev pub invariant-loop-var_def : goal.invariant-loop-var_def
invariant-loop-var_def l = record {
  as_long : length l.places.items ≡ length l.initial.places.items;
  left : (n : ℕ) → list_any (λ v. is_number (get_name l.numbers v.name) n) (map var_def_view (drop l.var_def-index l.vars)) ≡ false → numbered_place l.places.items n ≡ None;
}
