use Rattle.std.proofs.Common.{◌≡◌, drop}
use Rattle.hq_confine_rules.specs.Members.{stand_among}
use Rattle.hq_confine_members.specs.Views.{preds_view}
use Rattle.hq_confine_members.proofs.members.stand_among.Given as goal

-- those that are left tell what all do
abbrev pub invariant-loop-own : goal.invariant-loop-own
invariant-loop-own l = stand_among (preds_view l.all) (preds_view (drop l.own-index l.owns)) l.alias ≡ stand_among (preds_view l.all) (preds_view l.owns) l.alias
