-- Faults without a session variable.
use Rattle.std.specs.Prelude.{ℕ, Option, None}
use Rattle.hq_gql_tree.specs.declared.fault.Fault.{Fault}
use Rattle.hq_gql_tree.specs.declared.rule.RuleId.{RuleId}

-- the fault of a rule, at a place where there is one
abbrev pub fault_of : RuleId → (at : Option ℕ) → Fault
fault_of r at = record { rule = r; at = at; name = None; want = None }
