use Rattle.std.proofs.Common.{◌≡◌, drop}
use Rattle.std.specs.List.{list_any}
use Rattle.hq_sql_tree.specs.View.{pred_view}
use Rattle.hq_confine_rules.specs.Members.{is_written}
use Rattle.hq_confine_members.specs.Views.{preds_view}
use Rattle.hq_confine_members.proofs.members.stands_among.Given as goal

-- those that are left tell what all do
abbrev pub invariant-loop-pred : goal.invariant-loop-pred
invariant-loop-pred l = list_any (is_written l.alias (pred_view l.own)) (preds_view (drop l.pred-index l.all)) ≡ list_any (is_written l.alias (pred_view l.own)) (preds_view l.all)
