-- How many nodes the arguments of collected fields have together, with variables put in.
use Rattle.std.specs.Prelude.{ℕ, ◌+◌, List, Bool, nat_le}
use Rattle.hq_request_collect.specs.ValueNodes.{member_nodes}
use Rattle.hq_request_coerce.specs.Variables.{VarTree}
use Rattle.hq_request_collect.specs.Tree.{CollectedTrees, no_collected, collected}
use Rattle.hq_request_collect.specs.TreeSeen.{FieldSeen}
use Rattle.hq_gql_tree.specs.Selections.{FieldHead}
use Rattle.hq_gql_tree.specs.Values.{members_of}

abbrev pub argument_nodes : List VarTree → FieldHead → ℕ
argument_nodes vars h = member_nodes vars (members_of h.args)

abbrev pub field_nodes : List VarTree → CollectedTrees → ℕ
field_nodes vars no_collected = 0
field_nodes vars (collected key h below others) = (argument_nodes vars h + field_nodes vars below) + field_nodes vars others

-- those of one field
abbrev pub seen_nodes : List VarTree → FieldSeen → ℕ
seen_nodes vars f = argument_nodes vars f.head + field_nodes vars f.below

-- at most 1,048,576
unfoldable pub is_bounded : List VarTree → CollectedTrees → Bool
is_bounded vars fs = nat_le (field_nodes vars fs) 1048576
