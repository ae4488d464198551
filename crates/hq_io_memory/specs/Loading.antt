-- How a load ended.
use Rattle.std.specs.Prelude.{Bool, true, false, Result}
use Rattle.std.specs.declared.result.Result.TheVariants.{Ok, Err}
use Rattle.hq_io.specs.declared.files.FileRefusal.{FileRefusal}
use Rattle.hq_io.specs.declared.files.FileRefusal.TheVariants.{Missing, Failed, Memory, TooLarge}

-- whether the system failed
abbrev pub has_failed : Result (Unit {0}) FileRefusal → Bool
has_failed (Ok _) = false
has_failed (Err Missing) = false
has_failed (Err Failed) = true
has_failed (Err Memory) = false
has_failed (Err TooLarge) = false
