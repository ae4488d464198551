use Rattle.std.proofs.Common.{◌≡◌, drop}
use Rattle.hq_sql_tree.specs.View.{pred_view}
use Rattle.hq_confine_rules.specs.Members.{is_one_of}
use Rattle.hq_confine_members.specs.Views.{preds_view}
use Rattle.hq_confine_members.proofs.members.is_one_of.Given as goal

-- those that are left tell what all do
abbrev pub invariant-loop-own : goal.invariant-loop-own
invariant-loop-own l = is_one_of (preds_view (drop l.own-index l.owns)) l.alias (pred_view l.pred) ≡ is_one_of (preds_view l.owns) l.alias (pred_view l.pred)
