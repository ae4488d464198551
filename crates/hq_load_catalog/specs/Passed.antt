-- A test that a file passes, unless it finds a refusal.
use Rattle.std.specs.Prelude.{Option, Some, None, Result, Ok, Err}

-- passed where nothing was found
abbrev pub passed : {E : Type 0} → Option E → Result (Unit {0}) E
passed None = Ok tt
passed (Some e) = Err e
