use Rattle.std.proofs.Common.{◌≡◌, ◌++◌, map}
use Rattle.std.specs.Vec.Iter.{into_iter_items}
use Rattle.hq_sql_access.specs.View.{place_of}
use Rattle.hq_sql_access.proofs.place.add_places.Given as goal

abbrev pub invariant-loop-joined : goal.invariant-loop-joined
invariant-loop-joined l = l.places.items ++ map (place_of l.position) (into_iter_items l.joined-iterator) ≡ l.fn.places.items ++ map (place_of l.position) l.fn.lists.items
