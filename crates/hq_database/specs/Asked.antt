-- What asking a database leaves.
use Rattle.std.specs.Prelude.{◌≡◌, ℕ, ◌+◌, ◌-◌, ◌^◌, min, List, Option, Some, ⊤}
use Rattle.hq_io.specs.Causes.{Rose}
use Rattle.hq_database.specs.declared.refusal.DbRefusal.{DbRefusal}
use Rattle.hq_database.specs.declared.refusal.DbRefusal.TheVariants.{NotSql, NotTyped, Failed, Memory}

-- one more text was asked, and it is the last; the counter stays at its greatest value
pub record Asked (asks_before asks_now : ℕ) (last_now : Option (List ℕ)) (text : List ℕ) : Type 0 where
  pub asks : asks_now ≡ min (asks_before + 1) (2 ^ 64 - 1)
  pub last : last_now ≡ Some text

-- no text was asked
pub record NotAsked (asks_before asks_now : ℕ) (last_before last_now : Option (List ℕ)) : Type 0 where
  pub asks : asks_now ≡ asks_before
  pub last : last_now ≡ last_before

-- a failure tells how the count of faults rose
abbrev pub TellsFailure : (before now : ℕ) → DbRefusal → Type 0
TellsFailure before now NotSql = ⊤
TellsFailure before now NotTyped = ⊤
TellsFailure before now (Failed b a) = (b ≡ before) × (a ≡ now) × Rose before now
TellsFailure before now Memory = ⊤
