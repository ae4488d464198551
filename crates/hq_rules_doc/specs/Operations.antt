-- Rules of operations and names (GraphQL October 2021, 5.2.1, 5.2.2, 5.5.1.1, 5.8.1).
use Rattle.std.specs.Prelude.{ℕ, map, Bool, true, false, Option, None, is_none, cond, nat_lt, count_by, option_map, Some}
use Rattle.std.specs.List.{filter_map}
use Rattle.hq_gql_tree.specs.Documents.{VarDefTree, DefinitionTree, operation, fragment, DocumentTree}
use Rattle.hq_gql_nodes.specs.Least.{at_if, least_of}
use Rattle.hq_gql_nodes.specs.Names.{NameTree, least_repeat}

-- the name of an operation, if it has one, and of a fragment
abbrev pub operation_name : DefinitionTree → Option NameTree
operation_name (operation o) = option_map (λ name. record { name = name; at = o.at }) o.name
operation_name (fragment f) = None

abbrev pub fragment_name : DefinitionTree → Option NameTree
fragment_name (operation o) = None
fragment_name (fragment f) = Some (record { name = f.name; at = f.at })

-- 5.2.1.1: an operation whose name an earlier one has
abbrev pub unique_operation_names : DocumentTree → Option ℕ
unique_operation_names d = least_repeat (filter_map operation_name d)

-- 5.5.1.1: a fragment whose name an earlier one has
abbrev pub unique_fragment_names : DocumentTree → Option ℕ
unique_fragment_names d = least_repeat (filter_map fragment_name d)

abbrev pub is_operation : DefinitionTree → Bool
is_operation (operation o) = true
is_operation (fragment f) = false

abbrev pub anonymous_place : DefinitionTree → Option ℕ
anonymous_place (operation o) = at_if (is_none o.name) o.at
anonymous_place (fragment f) = None

-- 5.2.2.1: an operation without a name beside another operation
abbrev pub lone_anonymous_operation : DocumentTree → Option ℕ
lone_anonymous_operation d = cond (nat_lt 1 (count_by is_operation d)) (least_of anonymous_place d) None

-- 5.8.1: a variable whose name an earlier one of the operation has
abbrev pub variable_name : VarDefTree → NameTree
variable_name v = record { name = v.name; at = v.at }

abbrev pub repeated_variable : DefinitionTree → Option ℕ
repeated_variable (operation o) = least_repeat (map variable_name o.vars)
repeated_variable (fragment f) = None

abbrev pub unique_variable_names : DocumentTree → Option ℕ
unique_variable_names d = least_of repeated_variable d
