use Rattle.std.proofs.Common.{◌≡◌, drop, length, map}
use Rattle.hq_sql_tree.specs.View.{out_view}
use Rattle.hq_confine_rules.specs.Renamed.{are_alike_outs}
use Rattle.hq_confine_members.specs.Views.{renaming_view}
use Rattle.hq_confine_members.proofs.alike.are_alike_outs.Given as goal

-- those that are left tell what all do
abbrev pub invariant-loop-at : goal.invariant-loop-at
invariant-loop-at l =
    let r = renaming_view l.renaming in
    record {
      as_long : length l.one.items ≡ length l.other.items;
      left : are_alike_outs r (map out_view (drop l.at l.one.items)) (map out_view (drop l.at l.other.items)) ≡ are_alike_outs r (map out_view l.one.items) (map out_view l.other.items);
    }
