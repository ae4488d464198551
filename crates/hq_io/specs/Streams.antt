-- What is read or written piece by piece.
use Rattle.std.specs.Prelude.{◌≡◌, ◌<◌, ◌≤◌, ℕ, List, length, take, ⊤, Result}
use Rattle.std.specs.declared.option.Option.{Option}
use Rattle.std.specs.declared.result.Result.TheVariants.{Ok, Err}
use Rattle.std.specs.Io.KnownBytes.{Appends, Consumes}
use Rattle.hq_io.specs.declared.streams.InputRefusal.{InputRefusal}
use Rattle.hq_io.specs.declared.streams.InputRefusal.TheVariants.{Failed, TooLong, Memory}

-- a prefix of these bytes was appended
abbrev pub AppendsPrefix : (old new : Option (List ℕ)) → List ℕ → Type 0
AppendsPrefix old new bytes = (n : ℕ) × (n ≤ length bytes) × Appends old new (take n bytes)

-- at most so many bytes were consumed
abbrev pub ConsumesUpTo : (old new : Option (List ℕ)) → ℕ → Type 0
ConsumesUpTo old new most = (bytes : List ℕ) × (length bytes ≤ most) × Consumes old new bytes

-- what reading all that is left answers, where it is told: it is too long exactly where it has more bytes than the limit
abbrev pub ReadsAll : (limit : ℕ) → List ℕ → Result (List ℕ) InputRefusal → Type 0
ReadsAll limit left (Ok bytes) = (bytes ≡ left) × (length left ≤ limit)
ReadsAll limit left (Err TooLong) = limit < length left
ReadsAll limit left (Err Failed) = ⊤
ReadsAll limit left (Err Memory) = ⊤
