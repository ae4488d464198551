-- The calls of an object in memory, of which those with certain numbers are to fail.
use Rattle.std.specs.Prelude.{ℕ, List, Bool, Contains, if◌then◌else◌}
use Rattle.hq_io.specs.Causes.{one_more}
use Rattle.hq_io_memory.specs.declared.calls.Calls.{Calls}

-- no call yet
abbrev pub calls_from : (failing : List ℕ) → Calls
calls_from failing = record { failing = failing; made = 0; faults = 0 }

-- the number of the next call is among those that are to fail
abbrev pub IsToFail : Calls → Type 0
IsToFail calls = Contains calls.failing (one_more calls.made)

-- with one more call, or one more fault
abbrev pub after_call : Calls → Calls
after_call calls = record calls { made = one_more calls.made }

abbrev pub with_fault : Calls → Calls
with_fault calls = record calls { faults = one_more calls.faults }

-- with one more call, which failed or not
abbrev pub after : (failed : Bool) → Calls → Calls
after failed calls = if failed then with_fault (after_call calls) else after_call calls
