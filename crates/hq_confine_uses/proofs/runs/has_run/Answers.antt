use Rattle.std.proofs.Common.{◌≡◌, ◌∙◌, ◌+◌, ◌<◌, [], ◌∷◌, drop, length, map, sym, ap₂, arith}
use Rattle.std.proofs.lemmas.List.{take_rest}
use Rattle.hq_model.specs.Schema.{table}
use Rattle.hq_sql_tree.specs.Tree.{orders_of}
use Rattle.hq_sql_tree.specs.View.{order_view}
use Rattle.hq_confine_rules.specs.Uses.{is_run}
use Rattle.hq_confine_uses.specs.Views.{shapes_view, rules_schema}
use Rattle.hq_confine_uses.proofs.Keys.{begin_with, have_run, have_more}
use Rattle.hq_confine_uses.proofs.Walks.{passed_next}
use Rattle.hq_confine_uses.proofs.runs.has_run.Goals as goal

pub loop-at-preserved : goal.loop-at-preserved
loop-at-preserved c =
    let s = rules_schema c.args.rules.now in
    let x = shapes_view c.args.scope.now in
    let t = c.args.t in
    let a = c.args.alias.now in
    let os = c.args.orders.now in
    let i = c.loop-at.at in
    let within : i < length os = omega arith in
    let first : begin_with s x t (a ∷ []) (table s t).key (drop i os) ≡ c.is_run.result =
    sym (c.is_run.ensures ∙ ap₂ (λ k l. is_run s x t (a ∷ []) k (orders_of (map order_view l))) c.key-key.ensures (take_rest os i)) in
    passed_next (begin_with s x t (a ∷ []) (table s t).key (drop i os)) (have_run s x t a (drop (i + 1) os)) (have_run s x t a (drop i os)) (have_run s x t a os)
    (have_more s x t a os i within) c.loop-at.invariant (first ∙ c.if-is_run.false)
