use Rattle.std.proofs.Common.{◌∙◌, map}
use Rattle.hq_sql_tree.specs.View.{expr_view, out_view}
use Rattle.hq_confine_rules.specs.Uses.{exprs_faults, outs_faults}
use Rattle.hq_confine_uses.specs.Views.{faulted, shapes_view, rules_schema, rules_grants}
use Rattle.hq_confine_uses.proofs.Worst.{worst_of_two}
use Rattle.hq_confine.proofs.walk.front_fault.Goals as goal

pub returns : goal.returns
returns c =
    let s = rules_schema c.args.rules.now in
    let g = rules_grants c.args.rules.now in
    let x = shapes_view c.args.scope.now in
    c.worse.ensures ∙ worst_of_two (faulted c.exprs_fault.result) (faulted c.outs_fault.result) (exprs_faults s g x (map expr_view c.args.distinct.now.items))
    (outs_faults s g x (map out_view c.args.outs.now.items)) c.exprs_fault.ensures c.outs_fault.ensures
