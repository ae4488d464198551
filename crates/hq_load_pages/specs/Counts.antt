-- Counts of calls that are made one after the other.
use Rattle.std.specs.Prelude.{◌≡◌, ℕ, zero, suc, option_map}
use Rattle.std.specs.declared.option.Option.{Option}
use Rattle.hq_io.specs.Causes.{one_more}

-- a count after so many more, which stays at the last value of a u64
abbrev pub more : (count by : ℕ) → ℕ
more count zero = count
more count (suc by) = more (one_more count) by

-- a told count rose by so many
abbrev pub Rises : (old new : Option ℕ) → (by : ℕ) → Type 0
Rises old new by = new ≡ option_map (λ count. more count by) old
