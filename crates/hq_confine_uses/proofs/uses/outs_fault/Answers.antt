use Rattle.std.proofs.Common.{◌∙◌, ◌+◌, ◌<◌, List, drop, length, map, refl, ap, arith}
use Rattle.hq_sql_tree.specs.View.{out_view}
use Rattle.hq_sql_tree.specs.declared.select.Out.{Out}
use Rattle.hq_base.proofs.Loops.{next_item}
use Rattle.hq_confine_rules.specs.Faults.{worse, worst}
use Rattle.hq_confine_rules.specs.Uses.{out_faults, outs_faults}
use Rattle.hq_confine_uses.specs.Views.{faulted, shapes_view, rules_schema, rules_grants}
use Rattle.hq_confine_uses.proofs.Worst.{worse_more, worse_end}
use Rattle.hq_confine_uses.proofs.uses.outs_fault.Goals as goal

pub loop-out-preserved : goal.loop-out-preserved
loop-out-preserved c =
    let s = rules_schema c.args.rules.now in
    let g = rules_grants c.args.rules.now in
    let x = shapes_view c.args.scope.now in
    let items = c.deref-out-items.result.now in
    let i = c.loop-out.out-index in
    let item = c.out-item.result in
    let within : i < length items = omega arith in
    let before = faulted c.loop-out.found in
    let F = λ (list : List Out). outs_faults s g x (map out_view list) in
    worse_more before (faulted c.worse-found.result) (out_faults s g x (out_view item).value) (F (drop (i + 1) items)) (F (drop i items)) (worst (F items))
    (ap F (next_item items i item within c.out-item.is)) (c.worse-found.ensures ∙ ap (worse before) c.out_fault.ensures) c.loop-out.invariant

pub returns : goal.returns
returns c =
    let s = rules_schema c.args.rules.now in
    let g = rules_grants c.args.rules.now in
    let x = shapes_view c.args.scope.now in
    let items = c.deref-out-items.result.now in
    let F = λ (list : List Out). outs_faults s g x (map out_view list) in
    worse_end F items c.loop-out.out-index (faulted c.loop-out.found) (worst (F items)) refl c.loop-out-test.false c.loop-out.invariant ∙ ap (λ list. worst (F list)) c.deref-out-items.ensures.value
