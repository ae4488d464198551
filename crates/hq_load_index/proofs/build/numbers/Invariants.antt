use Rattle.std.proofs.Common.{◌≡◌}
use Rattle.hq_load_index.specs.Indexes.{counted}
use Rattle.hq_load_index.proofs.build.numbers.Given as goal

abbrev pub invariant-loop-n : goal.invariant-loop-n
invariant-loop-n l = l.all.items ≡ counted 0 l.n
