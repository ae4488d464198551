use Rattle.std.proofs.Common.{◌≡◌, true, refl, List, [], ◌∷◌, ◌≤◌, length, map, arith}
use Rattle.hq_gql_tree.specs.declared.selection.Selection.{Selection}
use Rattle.hq_gql_tree.specs.Selections.{selection_view, selections_of}
use Rattle.hq_rules_fields.specs.NodeRules.{has_selections}
use Rattle.hq_rules_fields.proofs.rules.scalar_leafs.has_selections.Goals as goal

some_selections : (xs : List Selection) → 1 ≤ length xs → true ≡ has_selections (selections_of (map selection_view xs))
some_selections [] h = absurd (omega arith)
some_selections (x ∷ xs) h = refl

pub returns-in-len1-up : goal.returns-in-len1-up
returns-in-len1-up c = some_selections c.args.selections.now c.in-len1-up.len_at_least
