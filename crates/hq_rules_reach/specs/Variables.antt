-- Rules of the uses of variables in an operation and in the fragments that it reaches (GraphQL October 2021, 5.8.3 to 5.8.5).
use Rattle.std.specs.Prelude.{ℕ, List, [], ◌∷◌, Bool, false, not, ◌&&◌, ◌||◌, ◌==◌, Option, Some, None, cond, bytes_eq, is_none, option_and_then, slice_get, slice_index_or}
use Rattle.std.specs.Option.{option_map_or}
use Rattle.std.specs.List.{list_any, position_from}
use Rattle.hq_schema.specs.Schema.{TypeRefTree, named, list_of, non_null, SchemaTree}
use Rattle.hq_gql_tree.specs.declared.rule.RuleId.TheVariants as number
use Rattle.hq_gql_tree.specs.declared.fault.Fault.{Fault}
use Rattle.hq_gql_tree.specs.Values.{PlacedTree}
use Rattle.hq_gql_tree.specs.Documents.{VarDefTree, DefinitionTree, operation, fragment, DocumentTree}
use Rattle.hq_gql_nodes.specs.Faults.{or_later}
use Rattle.hq_gql_nodes.specs.Known.{PlaceTree, is_non_null, is_null, resolved}
use Rattle.hq_gql_nodes.specs.Least.{at_if, least_of}
use Rattle.hq_gql_nodes.specs.Fragments.{Places}
use Rattle.hq_gql_nodes.specs.Reach.{Graph, reached}
use Rattle.hq_rules_reach.specs.Spreads.{least_at}
use Rattle.hq_rules_reach.specs.Uses.{UseTree, uses_at}

-- the place of the variable of a name among those of an operation
abbrev pub variable_named : List VarDefTree → Places
variable_named vars name = position_from (λ v. bytes_eq v.name name) 0 vars

-- ---- which types go with which (5.8.5)

-- the type without its outer `!`
abbrev pub nullable : TypeRefTree → TypeRefTree
nullable (named t) = named t
nullable (list_of r) = list_of r
nullable (non_null r) = r

-- AreTypesCompatible: a value of the first type may stand where the second one is wanted
abbrev pub are_compatible : TypeRefTree → TypeRefTree → Bool
are_compatible (named a) (named b) = a == b
are_compatible (named a) (list_of q) = false
are_compatible (named a) (non_null q) = false
are_compatible (list_of r) (named b) = false
are_compatible (list_of r) (list_of q) = are_compatible r q
are_compatible (list_of r) (non_null q) = false
are_compatible (non_null r) (named b) = are_compatible r (named b)
are_compatible (non_null r) (list_of q) = are_compatible r (list_of q)
are_compatible (non_null r) (non_null q) = are_compatible r q

-- a default that is not null
abbrev pub has_default : Option PlacedTree → Bool
has_default None = false
has_default (Some v) = not (is_null v.value)

-- IsVariableUsageAllowed: at a place without null a nullable variable needs a default, or the place has one
abbrev pub is_allowed : (ty : TypeRefTree) → (default : Bool) → PlaceTree → Bool
is_allowed ty default p =
    cond (is_non_null p.ty && not (is_non_null ty)) ((default || p.default_false) && are_compatible ty (nullable p.ty)) (are_compatible ty p.ty)

-- ---- the rules at one use, and at one variable; `places` has the places of an operation's variables by what
-- tells the names

abbrev pub undefined_use : {N : Type 0} → (places : N → Option ℕ) → UseTree N → Option ℕ
undefined_use places u = at_if (is_none (places u.name)) u.at

-- the types of a use and its variable are known, and do not go together
abbrev pub is_wrong_type : Option TypeRefTree → (default : Bool) → Option PlaceTree → Bool
is_wrong_type None default place = false
is_wrong_type (Some ty) default None = false
is_wrong_type (Some ty) default (Some p) = not (is_allowed ty default p)

abbrev pub wrong_use : {N : Type 0} → SchemaTree → List VarDefTree → (places : N → Option ℕ) → UseTree N → Option ℕ
wrong_use s vars places u =
    option_and_then (λ v. at_if (is_wrong_type (resolved s v.ty) (has_default v.default) u.place) u.at)
    (option_and_then (slice_get vars) (places u.name))

-- a use of the variable of a name in one of these definitions
abbrev pub is_used_in : List (List (UseTree (List ℕ))) → (definitions : List ℕ) → (name : List ℕ) → Bool
is_used_in all definitions name = list_any (λ j. list_any (λ u. bytes_eq u.name name) (uses_at all j)) definitions

-- the same by numbers
abbrev pub is_number_used_in : List (List (UseTree ℕ)) → (definitions : List ℕ) → (number : ℕ) → Bool
is_number_used_in all definitions number = list_any (λ j. list_any (λ u. u.name == number) (uses_at all j)) definitions

-- the place of a variable by the number of its name
abbrev pub numbered_place : (places : List (Option ℕ)) → (number : ℕ) → Option ℕ
numbered_place places number = slice_index_or places number None

-- whether a name is used, by the marks of numbers
abbrev pub is_marked : Places → (marks : List Bool) → (name : List ℕ) → Bool
is_marked number_of marks name = option_map_or (λ n. slice_index_or marks n false) (number_of name) false

-- a variable whose name is not used, by a test of names
abbrev pub unused_by : (is_used : List ℕ → Bool) → VarDefTree → Option ℕ
unused_by is_used v = at_if (not (is_used v.name)) v.at

-- ---- the rules in an operation, over the definitions that it reaches, itself among them

abbrev pub undefined_in : List (List (UseTree (List ℕ))) → List VarDefTree → (definitions : List ℕ) → Option ℕ
undefined_in all vars definitions = least_of (λ j. least_of (undefined_use (variable_named vars)) (uses_at all j)) definitions

abbrev pub unused_in : List (List (UseTree (List ℕ))) → List VarDefTree → (definitions : List ℕ) → Option ℕ
unused_in all vars definitions = least_of (unused_by (is_used_in all definitions)) vars

abbrev pub wrong_in : SchemaTree → List (List (UseTree (List ℕ))) → List VarDefTree → (definitions : List ℕ) → Option ℕ
wrong_in s all vars definitions = least_of (λ j. least_of (wrong_use s vars (variable_named vars)) (uses_at all j)) definitions

abbrev pub in_operation : (List VarDefTree → List ℕ → Option ℕ) → Graph → ℕ → DefinitionTree → Option ℕ
in_operation f g at (operation o) = f o.vars (reached g (at ∷ []))
in_operation f g at (fragment x) = None

-- 5.8.3: a use that an operation reaching it does not define
abbrev pub no_undefined_variables : Graph → List (List (UseTree (List ℕ))) → DocumentTree → Option ℕ
no_undefined_variables g all d = least_at (in_operation (undefined_in all) g) d

-- 5.8.4: a variable that is used neither in its operation nor in what that reaches
abbrev pub no_unused_variables : Graph → List (List (UseTree (List ℕ))) → DocumentTree → Option ℕ
no_unused_variables g all d = least_at (in_operation (unused_in all) g) d

-- 5.8.5: a use whose variable's type does not go with its place, in an operation that reaches it
abbrev pub variables_in_allowed_position : SchemaTree → Graph → List (List (UseTree (List ℕ))) → DocumentTree → Option ℕ
variables_in_allowed_position s g all d = least_at (in_operation (wrong_in s all) g) d

-- the fault of the first of the three rules that has a place, and that of a document
abbrev pub use_fault : (undefined unused wrong : Option ℕ) → Option Fault
use_fault undefined unused wrong =
    or_later number.AllVariableUsesDefined undefined
    (or_later number.AllVariablesUsed unused
    (or_later number.AllVariableUsagesAreAllowed wrong None))

abbrev pub variable_use_fault : SchemaTree → Graph → List (List (UseTree (List ℕ))) → DocumentTree → Option Fault
variable_use_fault s g all d = use_fault (no_undefined_variables g all d) (no_unused_variables g all d) (variables_in_allowed_position s g all d)
