use Rattle.std.proofs.Common.{◌∙◌, ◌<◌, ◌∷◌, ◌++◌, [], length, map, take, ap, arith}
use Rattle.std.proofs.lemmas.List.{map-append}
use Rattle.hq_sql_access.specs.View.{named_view}
use Rattle.hq_sql_access.proofs.Loops.{grown}
use Rattle.hq_sql_access.proofs.row.copy_cells.Goals as goal

pub loop-named-preserved : goal.loop-named-preserved
loop-named-preserved c =
    let items = c.args.cells.now in
    let i = c.loop-named.named-index in
    let item = c.named-item.result in
    let within : i < length items = omega arith in
    let done = map named_view c.loop-named.copies.items in
    grown (map named_view) items i item done (map named_view c.push.new.self.items) (named_view item) (map-append named_view (take i items) (item ∷ [])) within c.named-item.is c.loop-named.invariant
    (ap (map named_view) c.in_ok-push.ensures.items ∙ map-append named_view c.loop-named.copies.items _ ∙ ap (λ v. done ++ (item.name.now, v) ∷ []) c.in_ok-cell.ensures)
