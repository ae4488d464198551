-- The rules that building a typed request may refuse by: the limits on its size (F32), the session variables of the filters (F33, F34),
-- and what the arguments of a field ask for (F36 to F42).
use Rattle.std.specs.Prelude.{◌≡◌, Bool, true, false, Result, Ok, Err}
use Rattle.hq_gql_tree.specs.declared.rule.RuleId.{RuleId}
use Rattle.hq_gql_tree.specs.declared.rule.RuleId.TheVariants as rule
use Rattle.hq_request_coerce.specs.declared.refusal.CoerceRefusal.{CoerceRefusal}
use Rattle.hq_request_coerce.specs.declared.refusal.CoerceRefusal.TheVariants.{Fault, Memory}

abbrev pub is_of_building : RuleId → Bool
is_of_building rule.RequestSize = true
is_of_building rule.MissingVariable = true
is_of_building rule.UnreadableVariable = true
is_of_building rule.NegativeLimit = true
is_of_building rule.DistinctOrder = true
is_of_building rule.PatternEscape = true
is_of_building rule.NullOperand = true
is_of_building rule.CountColumns = true
is_of_building rule.SortEntries = true
is_of_building rule.UnorderedColumn = true
is_of_building _ = false

-- a value, or a fault of one of these rules; what is due never lacks memory
abbrev pub IsBuilding : {A : Type 0} → Result A CoerceRefusal → Type 0
IsBuilding (Ok x) = Unit {0}
IsBuilding (Err (Fault f)) = is_of_building f.rule ≡ true
IsBuilding (Err Memory) = ⊥
