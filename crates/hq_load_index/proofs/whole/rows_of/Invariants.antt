use Rattle.std.proofs.Common.{◌≡◌, map, take}
use Rattle.hq_load_index.specs.Whole.{row_of}
use Rattle.hq_load_index.proofs.whole.rows_of.Given as goal

abbrev pub invariant-loop-numbered : goal.invariant-loop-numbered
invariant-loop-numbered l = l.rows.items ≡ map row_of (take l.numbered-index l.all)
