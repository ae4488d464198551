use Rattle.std.proofs.Common.{◌≡◌, List, drop, map}
use Rattle.hq_sql_tree.specs.View.{out_view}
use Rattle.hq_sql_tree.specs.declared.select.Out.{Out}
use Rattle.hq_confine_rules.specs.Faults.{worse, worst}
use Rattle.hq_confine_rules.specs.Uses.{outs_faults}
use Rattle.hq_confine_uses.specs.Views.{faulted, shapes_view, rules_schema, rules_grants}
use Rattle.hq_confine_uses.proofs.uses.outs_fault.Given as goal

-- the fault so far, and that of those that are left
abbrev pub invariant-loop-out : goal.invariant-loop-out
invariant-loop-out l =
    let whole = λ (list : List Out). worst (outs_faults (rules_schema l.rules) (rules_grants l.rules) (shapes_view l.scope) (map out_view list)) in
    worse (faulted l.found) (whole (drop l.out-index l.out-items)) ≡ whole l.out-items
