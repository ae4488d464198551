use Rattle.std.proofs.Common.{◌≡◌, length}
use Rattle.hq_io.specs.Folder.{file_named}
use Rattle.hq_io_memory.proofs.files.find.Given as goal

abbrev pub invariant-loop-rest : goal.invariant-loop-rest
invariant-loop-rest l = file_named l.name l.rest ≡ file_named l.name l.files

abbrev pub decreases-loop-rest : goal.decreases-loop-rest
decreases-loop-rest l = length l.rest
