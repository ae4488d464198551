-- What the calls of a store of tables answer.
use Rattle.std.specs.Prelude.{◌≡◌, ℕ, ⊤}
use Rattle.hq_load_tables.specs.declared.tables.StoreRefusal.{StoreRefusal}
use Rattle.hq_load_tables.specs.declared.tables.StoreRefusal.TheVariants.{Failed, Memory}
use Rattle.hq_io.specs.Causes.{Rose}

-- a refusal for a fault tells the counts before and after the call, between which the count rose
abbrev pub TellsRise : (before now : ℕ) → StoreRefusal → Type 0
TellsRise before now (Failed b a) = (b ≡ before) × (a ≡ now) × Rose before now
TellsRise before now Memory = ⊤
