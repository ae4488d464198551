use Rattle.std.proofs.Common.{◌≡◌, ◌++◌}
use Rattle.std.specs.Vec.Iter.{into_iter_items}
use Rattle.hq_sql_access.proofs.place.add_lists.Given as goal

abbrev pub invariant-loop-joined : goal.invariant-loop-joined
invariant-loop-joined l = l.all.items ++ into_iter_items l.joined-iterator ≡ l.fn.all.items ++ l.fn.lists.items
