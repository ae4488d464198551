use Rattle.std.proofs.Common.{◌∙◌, [], ◌∷◌, ◌++◌, map, ap}
use Rattle.std.proofs.lemmas.List.{map-append}
use Rattle.hq_sql_tree.specs.Tree.{JoinTree}
use Rattle.hq_sql_tree.specs.View.{join_view}
use Rattle.hq_compile_masks.proofs.masks.add_mask.Goals as goal

pub returns-clause-joins : goal.returns-clause-joins
returns-clause-joins c =
    let old = c.args.parts.now.joins.items in
    ap (map join_view) c.in_ok-push-2.ensures.items ∙ map-append join_view old (c.in_ok-mask_join.field-0 ∷ []) ∙ ap (λ (j : JoinTree). map join_view old ++ j ∷ []) c.in_ok-mask_join.ensures.join
