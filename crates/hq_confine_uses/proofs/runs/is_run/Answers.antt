use Rattle.std.proofs.Common.{◌∙◌, ◌<◌, length, sym, arith}
use Rattle.hq_confine_uses.specs.Views.{path_view, shapes_view, rules_schema}
use Rattle.hq_confine_uses.proofs.Keys.{begin_with, sorts_by, first_key, few_keys}
use Rattle.hq_confine_uses.proofs.Walks.{both_pass, both_fail}
use Rattle.hq_confine_uses.proofs.runs.is_run.Goals as goal

pub returns-then-orders-columns : goal.returns-then-orders-columns
returns-then-orders-columns c =
    sym (few_keys (rules_schema c.args.rules.now) (shapes_view c.args.scope.now) c.args.t (path_view c.args.path.now) c.args.columns.now c.args.orders.now c.if-orders-columns.true)

pub returns-then-not-is_key_sort : goal.returns-then-not-is_key_sort
returns-then-not-is_key_sort c =
    let s = rules_schema c.args.rules.now in
    let x = shapes_view c.args.scope.now in
    let path = path_view c.args.path.now in
    let i = c.loop-at.at in
    let in_cs : i < length c.args.columns.now = omega arith in
    let in_os : i < length c.args.orders.now = omega arith in
    both_fail (begin_with s x c.args.t path) (sorts_by s x c.args.t path) (first_key s x c.args.t path) c.args.columns.now c.args.orders.now i c.index-columns-at.result c.index-orders-at.result
    in_cs in_os c.index-columns-at.is c.index-orders-at.is c.loop-at.invariant.left (sym c.is_key_sort.ensures ∙ c.if-not-is_key_sort.true)

pub loop-at-preserved : goal.loop-at-preserved
loop-at-preserved c =
    let s = rules_schema c.args.rules.now in
    let x = shapes_view c.args.scope.now in
    let path = path_view c.args.path.now in
    let i = c.loop-at.at in
    let in_cs : i < length c.args.columns.now = omega arith in
    let in_os : i < length c.args.orders.now = omega arith in
    record {
      enough = c.loop-at.invariant.enough;
      left = both_pass (begin_with s x c.args.t path) (sorts_by s x c.args.t path)
          (first_key s x c.args.t path) c.args.columns.now c.args.orders.now i c.index-columns-at.result c.index-orders-at.result
          in_cs in_os c.index-columns-at.is c.index-orders-at.is c.loop-at.invariant.left (sym c.is_key_sort.ensures ∙ c.if-not-is_key_sort.false);
    }
