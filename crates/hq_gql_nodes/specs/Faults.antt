-- Faults of rules at places.
use Rattle.std.specs.Prelude.{ℕ, Option, Some, None}
use Rattle.hq_gql_tree.specs.declared.rule.RuleId.{RuleId}
use Rattle.hq_gql_tree.specs.declared.fault.Fault.{Fault}

-- a fault of a rule at a place
abbrev pub fault_at : RuleId → ℕ → Fault
fault_at r at = record { rule = r; at = Some at; name = None; want = None }

-- a rule's place, and else what the later rules give
abbrev pub or_later : RuleId → Option ℕ → Option Fault → Option Fault
or_later r None later = later
or_later r (Some at) later = Some (fault_at r at)
