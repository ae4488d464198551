use Rattle.std.proofs.Common.{◌≡◌, map, take}
use Rattle.hq_sql_conjuncts.specs.Split.{kept_one}
use Rattle.hq_sql_tree.specs.Meaning.{nothing, with_alias}
use Rattle.hq_sql_tree.specs.View.{pred_view}
use Rattle.hq_sql_eval.specs.Narrowed.{narrowed}
use Rattle.hq_sql_access.specs.View.{source_view, world_of}
use Rattle.hq_sql_eval.proofs.learn_rows.narrowed_each.Given as goal

-- the truths at the rows so far
abbrev pub invariant-loop-position : goal.invariant-loop-position
invariant-loop-position l =
    l.truths.items ≡ narrowed (take l.position l.before) (take l.position (map (λ row. kept_one (pred_view l.pred) (world_of l.world) (with_alias nothing l.alias row)) (source_view l.source)))
