use Rattle.std.proofs.Common.{arith}
use Rattle.hq_copy_tables.proofs.metadata.from_place.Goals as goal

pub overflow_add-result : goal.overflow_add-result
overflow_add-result c =
    omega (arith, c.in_ok-width.ensures.within, c.from_end_place.ensures.within, c.deref.ensures.len, c.in_ok-ends.ends.small)
