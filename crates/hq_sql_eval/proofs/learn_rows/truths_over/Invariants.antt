use Rattle.std.proofs.Common.{◌≡◌, map, take}
use Rattle.hq_sql_conjuncts.specs.Conjuncts.{all_kept, lent_views}
use Rattle.hq_sql_tree.specs.Meaning.{nothing, with_alias}
use Rattle.hq_sql_access.specs.View.{source_view, world_of}
use Rattle.hq_sql_eval.proofs.learn_rows.truths_over.Given as goal

-- the truths of the conjuncts so far
abbrev pub invariant-loop-pred : goal.invariant-loop-pred
invariant-loop-pred l =
    l.truths.items ≡ map (λ row. all_kept (lent_views (take l.pred-index l.closed)) (world_of l.world) (with_alias nothing l.alias row)) (source_view l.source)
