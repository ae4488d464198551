-- What a call that writes to a sink leaves.
use Rattle.std.specs.Prelude.{ℕ, List, Option, Result, OnOk}
use Rattle.std.specs.Io.KnownBytes.{Appends}
use Rattle.hq_io.specs.Causes.{HasCause}
use Rattle.hq_io.specs.Streams.{AppendsPrefix}

-- these bytes were appended, or a prefix of them before a fault; the count of faults rose only for a fault, and never fell
pub record Wrote {T E : Type 0} (old new : Option (List ℕ)) (before now : ℕ) (bytes : List ℕ) (result : Result T E) : Type 0 where
  pub ok : OnOk result (Appends old new bytes)
  pub prefix : AppendsPrefix old new bytes
  pub cause : HasCause before now result
