use Rattle.std.proofs.Common.{◌≡◌, ◌++◌, drop, map}
use Rattle.hq_sql_tree.specs.View.{pred_view}
use Rattle.hq_translation.specs.Fields.{key_members}
use Rattle.hq_compile_tables.specs.Shown.{look_of}
use Rattle.hq_compile_lists.proofs.start.key_members.Given as goal

abbrev pub invariant-loop-i : goal.invariant-loop-i
invariant-loop-i l =
    map pred_view l.preds.items ++ key_members l.shown.columns.now (look_of l.shown) (drop l.i l.key) (drop l.i l.values)
    ≡ key_members l.shown.columns.now (look_of l.shown) l.key l.values
