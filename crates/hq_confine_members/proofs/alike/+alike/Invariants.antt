use Rattle.std.proofs.Common.{◌≡◌, drop, length, map}
use Rattle.hq_sql_tree.specs.Tree.{preds_of}
use Rattle.hq_sql_tree.specs.View.{pred_view}
use Rattle.hq_confine_rules.specs.Renamed.{are_alike}
use Rattle.hq_confine_members.specs.Views.{renaming_view}
use Rattle.hq_confine_members.proofs.alike.+alike.Given as goal

-- those that are left tell what all do
abbrev pub invariant-are_alike-loop-at : goal.invariant-are_alike-loop-at
invariant-are_alike-loop-at l =
    let r = renaming_view l.renaming in
    record {
      as_long : length l.one.items ≡ length l.other.items;
      left : are_alike r (preds_of (map pred_view (drop l.at l.one.items))) (preds_of (map pred_view (drop l.at l.other.items))) ≡ are_alike r (preds_of (map pred_view l.one.items))
          (preds_of (map pred_view l.other.items));
    }
