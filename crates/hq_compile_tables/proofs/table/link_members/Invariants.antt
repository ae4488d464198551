use Rattle.std.proofs.Common.{◌≡◌, ◌++◌, drop, map}
use Rattle.hq_sql_tree.specs.View.{pred_view}
use Rattle.hq_translation.specs.Predicates.{link_members}
use Rattle.hq_compile_tables.proofs.table.link_members.Given as goal

abbrev pub invariant-loop-pair : goal.invariant-loop-pair
invariant-loop-pair l =
    map pred_view l.preds.items ++ link_members l.columns l.remote l.p l.q (drop l.pair-index l.pairs) ≡ link_members l.columns l.remote l.p l.q l.pairs
