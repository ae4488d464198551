use Rattle.std.proofs.Common.{◌≡◌, ◌++◌, drop, map}
use Rattle.hq_sql_tree.specs.declared.word.Word.TheVariants as word
use Rattle.hq_sql_tree.specs.Tree.{joins_of, preds_of}
use Rattle.hq_sql_tree.specs.View.{join_view, pred_view}
use Rattle.hq_sql_tree.specs.Spelling.{separated, each_after, join_texts, pred_texts}
use Rattle.hq_sql_expr.proofs.Between.{rest_of}
use Rattle.hq_sql_text.proofs.printing.+put_select.Given as goal

abbrev pub invariant-put_joins-loop-join : goal.invariant-put_joins-loop-join
invariant-put_joins-loop-join l =
    l.out.items ++ each_after word.LateralJoin (join_texts (joins_of (map join_view (drop l.join-index l.join-items))))
    ≡ l.initial.out.items ++ each_after word.LateralJoin (join_texts (joins_of (map join_view l.join-items)))

abbrev pub invariant-put_pred_list-loop-i : goal.invariant-put_pred_list-loop-i
invariant-put_pred_list-loop-i l =
    l.out.items ++ rest_of l.word l.i (pred_texts (preds_of (map pred_view (drop l.i l.preds.items))))
    ≡ l.initial.out.items ++ separated l.word (pred_texts (preds_of (map pred_view l.preds.items)))
