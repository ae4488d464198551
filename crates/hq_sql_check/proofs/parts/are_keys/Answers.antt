use Rattle.std.proofs.Common.{◌∙◌, sym, ap, ◌<◌, length, arith}
use Rattle.hq_sql_tree.specs.View.{order_view}
use Rattle.hq_sql_tree.specs.WellFormed.{is_compared}
use Rattle.hq_sql_check.specs.Scopes.{scope_view}
use Rattle.hq_sql_tree.proofs.Next.{all_pass, all_fail, view_key}
use Rattle.hq_sql_check.proofs.parts.are_keys.Goals as goal

pub returns-then-not-branch : goal.returns-then-not-branch
returns-then-not-branch c =
    let items = c.deref-key-items.result.now in
    let i = c.loop-key.key-index in
    let within : i < length items = omega arith in
    all_fail (λ k. is_compared (scope_view c.args.scope.now) k.value) order_view items c.args.keys.now.items i c.key-item.result
    c.deref-key-items.ensures.value within c.key-item.is c.loop-key.invariant
    (ap (is_compared (scope_view c.args.scope.now)) (view_key c.key-item.result) ∙ sym c.in_ok-is_compared.ensures ∙ c.if-not-branch.true)

pub loop-key-preserved : goal.loop-key-preserved
loop-key-preserved c =
    let items = c.deref-key-items.result.now in
    let i = c.loop-key.key-index in
    let within : i < length items = omega arith in
    all_pass (λ k. is_compared (scope_view c.args.scope.now) k.value) order_view items i c.key-item.result within c.key-item.is
    c.loop-key.invariant
    (ap (is_compared (scope_view c.args.scope.now)) (view_key c.key-item.result) ∙ sym c.in_ok-is_compared.ensures ∙ c.if-not-branch.false)
