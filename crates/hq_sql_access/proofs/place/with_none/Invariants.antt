use Rattle.std.proofs.Common.{◌≡◌, ◌++◌, map}
use Rattle.std.specs.Vec.Iter.{into_iter_items}
use Rattle.hq_sql_access.specs.View.{joined_view}
use Rattle.hq_sql_access.specs.Joined.{put_off}
use Rattle.hq_sql_access.proofs.place.with_none.Given as goal

abbrev pub invariant-loop-joined : goal.invariant-loop-joined
invariant-loop-joined l = map joined_view l.all.items ++ map put_off (map joined_view (into_iter_items l.joined-iterator)) ≡ map put_off (map joined_view l.fn.lists.items)
