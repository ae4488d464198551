use Rattle.std.proofs.Common.{◌≡◌, map, take}
use Rattle.hq_sql_tree.specs.Meaning.{nothing, with_alias}
use Rattle.hq_sql_eval.specs.Narrowed.{narrowed}
use Rattle.hq_sql_access.specs.KeySets.{keeps_key}
use Rattle.hq_sql_access.specs.View.{source_view}
use Rattle.hq_sql_eval.proofs.learn_rows.narrowed_keyed.Given as goal

-- the truths at the rows so far
abbrev pub invariant-loop-position : goal.invariant-loop-position
invariant-loop-position l =
    l.truths.items ≡ narrowed (take l.position l.before) (take l.position (map (λ row. keeps_key l.set (with_alias nothing l.alias row)) (source_view l.source)))
