use Rattle.std.proofs.Common.{◌≡◌, drop}
use Rattle.std.specs.List.{list_all}
use Rattle.hq_confine_rules.specs.Members.{is_one_of}
use Rattle.hq_confine_members.specs.Views.{preds_view}
use Rattle.hq_confine_members.proofs.members.are_of.Given as goal

-- those that are left tell what all do
abbrev pub invariant-loop-pred : goal.invariant-loop-pred
invariant-loop-pred l = list_all (is_one_of (preds_view l.owns) l.alias) (preds_view (drop l.pred-index l.all)) ≡ list_all (is_one_of (preds_view l.owns) l.alias) (preds_view l.all)
