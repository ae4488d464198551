use Rattle.std.proofs.Common.{refl}
use Rattle.hq_schema.specs.Sorted.{places_by_name}
use Rattle.hq_schema.proofs.named.NamedList.empty.Goals as goal

pub invariant_of-result : goal.invariant_of-result
unfolding places_by_name
invariant_of-result g c = rw (c.new.ensures.items, c.new-2.ensures.items) refl
