use Rattle.std.proofs.Common.{◌≡◌, ℕ, map, take, length}
use Rattle.std.specs.List.{position_from}
use Rattle.hq_gql_tree.specs.Documents.{var_def_view}
use Rattle.hq_gql_nodes.specs.Names.{get_name}
use Rattle.hq_rules_reach.specs.Fit.{is_number}
use Rattle.hq_rules_reach.specs.Variables.{numbered_place}
use Rattle.hq_rules_reach.proofs.variable_places.note_variables.Given as goal

-- the variables so far
abbrev pub invariant-loop-at : goal.invariant-loop-at
invariant-loop-at l = record {
  as_long : length l.places.items ≡ length l.initial.places.items;
  noted : (n : ℕ) → numbered_place l.places.items n ≡ position_from (λ v. is_number (get_name l.numbers v.name) n) 0 (map var_def_view (take l.at l.vars));
}
