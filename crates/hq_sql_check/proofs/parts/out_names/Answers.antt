use Rattle.std.proofs.Common.{◌∙◌, ap, ap₂, ◌<◌, ◌++◌, ◌∷◌, [], map, length, arith}
use Rattle.std.proofs.lemmas.List.{map-append}
use Rattle.hq_sql_tree.specs.View.{out_view}
use Rattle.hq_sql_tree.specs.WellFormed.{kind}
use Rattle.hq_sql_check.specs.Scopes.{name_view, scope_view}
use Rattle.hq_sql_check.proofs.Next.{taken_more}
use Rattle.hq_sql_check.proofs.parts.out_names.Goals as goal

pub loop-out-preserved : goal.loop-out-preserved
loop-out-preserved c =
    let items = c.deref-out-items.result.now in
    let i = c.loop-out.out-index in
    let within : i < length items = omega arith in
    let names = c.loop-out.names.items in
    taken_more (λ o. (o.name, kind (scope_view c.args.scope.now) o.value)) out_view items i c.out-item.result (map name_view names)
    (map name_view c.push.new.self.items) within c.out-item.is c.loop-out.invariant
    (ap (map name_view) c.in_ok-push.ensures.items ∙ map-append name_view names _ ∙ ap₂ (λ name its. map name_view names ++ (name, its) ∷ []) c.as_str.ensures c.kind.ensures)
