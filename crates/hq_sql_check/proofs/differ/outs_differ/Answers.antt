use Rattle.std.proofs.Common.{◌≡◌, ◌∙◌, ap, subst, ◌<◌, ◌≤◌, ◌++◌, ◌∷◌, [], map, length, bytes_eq, arith}
use Rattle.std.specs.Prelude.{IfOk}
use Rattle.std.proofs.lemmas.List.{take_all, map-append}
use Rattle.hq_base.specs.Lists.{all_differ}
use Rattle.hq_sql_tree.specs.Tree.{OutTree}
use Rattle.hq_sql_tree.specs.View.{out_view}
use Rattle.hq_sql_check.specs.Scopes.{texts}
use Rattle.hq_sql_check.proofs.Next.{taken_more}
use Rattle.hq_sql_check.proofs.differ.outs_differ.Goals as goal

pub loop-out-preserved : goal.loop-out-preserved
loop-out-preserved c =
    let items = c.deref-out-items.result.now in
    let i = c.loop-out.out-index in
    let within : i < length items = omega arith in
    let names = c.loop-out.names.items in
    taken_more (λ o. o.name) out_view items i c.out-item.result (texts names) (texts c.push.new.self.items) within c.out-item.is c.loop-out.invariant
    (ap texts c.in_ok-push.ensures.items ∙ map-append (λ text. text.now) names (c.as_str.result ∷ []) ∙ ap (λ name. texts names ++ name ∷ []) c.as_str.ensures)

pub returns : goal.returns
returns c =
    let items = c.deref-out-items.result.now in
    let i = c.loop-out.out-index in
    let past : length items ≤ i = omega arith in
    let all : texts c.loop-out.names.items ≡ map (λ (o : OutTree). o.name) (map out_view c.args.outs.now.items) =
    c.loop-out.invariant ∙ ap (λ list. map (λ (o : OutTree). o.name) (map out_view list)) (take_all i items past ∙ c.deref-out-items.ensures.value) in
    subst (λ known. IfOk c.all_differ.result (λ differ. differ ≡ all_differ bytes_eq known)) all c.all_differ.ensures
