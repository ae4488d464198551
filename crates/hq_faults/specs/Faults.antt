-- The faults of a request: the rule that each violates, and its place.
use Rattle.std.specs.Prelude.{ℕ, Option, None}
use Rattle.hq_gql_tree.specs.declared.rule.RuleId.{RuleId}
use Rattle.hq_gql_tree.specs.declared.rule.RuleId.TheVariants as rule
use Rattle.hq_faults.specs.declared.faults.RequestFault.{RequestFault}
use Rattle.hq_faults.specs.declared.faults.RequestFault.TheVariants as fault

abbrev pub rule_of : RequestFault → RuleId
rule_of (fault.Body cause) = rule.InvalidBody
rule_of (fault.Rule f) = f.rule

-- the place in the query text, in bytes from 0
abbrev pub place_of : RequestFault → Option ℕ
place_of (fault.Body cause) = None
place_of (fault.Rule f) = f.at

-- a fault that names no session variable
abbrev pub fault_at : RuleId → Option ℕ → RequestFault
fault_at r at = fault.Rule (record { rule = r; at = at; name = None; want = None })
