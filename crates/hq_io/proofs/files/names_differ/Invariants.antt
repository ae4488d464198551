use Rattle.std.proofs.Common.{◌≡◌, length}
use Rattle.hq_base.specs.Lists.{all_differ}
use Rattle.hq_io.specs.Folder.{same_name}
use Rattle.hq_io.proofs.files.names_differ.Given as goal

abbrev pub invariant-loop-rest : goal.invariant-loop-rest
invariant-loop-rest l = all_differ same_name l.rest ≡ all_differ same_name l.files

abbrev pub decreases-loop-rest : goal.decreases-loop-rest
decreases-loop-rest l = length l.rest
